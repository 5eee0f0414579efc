-- Which uploads have a number in their records.
use Rattle.std.proofs.Common.{◌≡◌, ℕ, ◌<◌, ◌^◌, ◌==◌, ◌||◌, Bool, true, false, List, [], ◌∷◌, ◌++◌, map, refl, ap, ◌∙◌}
use Rattle.std.specs.Prelude.{codes, nat_lt}
use Rattle.std.specs.List.{AllByRecursion, list_any}
use Rattle.std.proofs.lemmas.List.Folds.{list_any-append}
use Rattle.cf_base.specs.declared.answers.AuxRecord.{AuxRecord}
use Rattle.cf_base.specs.declared.items.SeenPath.{SeenPath}
use Rattle.cf_model.specs.Books.{Book, QueueEntry, Tombstone, aux_records, cursor_records, entry_record, seen_record, tombstone_record}
use Rattle.cf_model.specs.Words.{in_bytes, when}
use Rattle.cf_engine_queue.specs.Records.{FitsEntry, IsKeepable}
use Rattle.cf_engine_queue.proofs.KeyOrder.{same_ids}
use Rattle.cf_volume_image.specs.Numbers.{has_number}
use Rattle.cf_volume_image.specs.declared.number_places.NumberPlace.TheVariants.{First, Second}

module _ (p : AuxRecord → Bool) where
  none_of : {A : Type 0} (f : A → AuxRecord) (xs : List A) → ((x : A) → p (f x) ≡ false) → list_any p (map f xs) ≡ false
  none_of f [] h = refl
  none_of f (x ∷ xs) h = ap (λ b. b || list_any p (map f xs)) (h x) ∙ none_of f xs h

  no_cursor : (b : Bool) (r : AuxRecord) → p r ≡ false → list_any p (when b (r ∷ [])) ≡ false
  no_cursor true r h = ap (λ b. b || false) h
  no_cursor false r h = refl

  those_of : (q : QueueEntry → Bool) (es : List QueueEntry) → AllByRecursion FitsEntry es → ((e : QueueEntry) → FitsEntry e → p (entry_record e) ≡ q e) → list_any p (map entry_record es) ≡ list_any q es
  those_of q [] fits h = refl
  those_of q (e ∷ es) fits h = λ k. h e fits.0 k || those_of q es fits.1 h k

  no_more : (a : Bool) → (((false || a) || false) || false) ≡ a
  no_more true = refl
  no_more false = refl

  of_entries : (b : Book) (q : QueueEntry → Bool) → AllByRecursion FitsEntry b.entries → p (record { key = codes "c"; value = in_bytes 8 b.cursor }) ≡ false → ((e : QueueEntry) → FitsEntry e → p (entry_record e) ≡ q e)
      → ((s : SeenPath) → p (seen_record s) ≡ false) → ((t : Tombstone) → p (tombstone_record t) ≡ false) → list_any p (aux_records b) ≡ list_any q b.entries
  of_entries b q fits cursor entries seen tombs =
      list_any-append p (cursor_records b.cursor ++ map entry_record b.entries ++ map seen_record b.seen) (map tombstone_record b.tombstones)
      ∙ (λ k. list_any-append p (cursor_records b.cursor ++ map entry_record b.entries) (map seen_record b.seen) k || none_of tombstone_record b.tombstones tombs k)
      ∙ (λ k. (list_any-append p (cursor_records b.cursor) (map entry_record b.entries) k || none_of seen_record b.seen seen k) || false)
      ∙ (λ k. ((no_cursor (nat_lt 0 b.cursor) (record { key = codes "c"; value = in_bytes 8 b.cursor }) cursor k || those_of q b.entries fits entries k) || false) || false)
      ∙ no_more (list_any q b.entries)

pub of_item : (i : ℕ) (rs : List AuxRecord) (x : Bool) → i < 2 ^ 64 → x ≡ list_any (has_number First i) rs → (b : Book) → IsKeepable b → rs ≡ aux_records b → x ≡ list_any (λ e. e.item.0 == i) b.entries
of_item i rs x lt is b k same =
    is ∙ ap (list_any (has_number First i)) same
    ∙ of_entries (has_number First i) b (λ e. e.item.0 == i) k.entries refl (λ e fits. same_ids e.item.0 i fits.item lt) (λ s. refl) (λ t. refl)

pub of_target : (i : ℕ) (rs : List AuxRecord) (x : Bool) → i < 2 ^ 64 → x ≡ list_any (has_number Second i) rs → (b : Book) → IsKeepable b → rs ≡ aux_records b → x ≡ list_any (λ e. e.rid.0 == i) b.entries
of_target i rs x lt is b k same =
    is ∙ ap (list_any (has_number Second i)) same
    ∙ of_entries (has_number Second i) b (λ e. e.rid.0 == i) k.entries refl (λ e fits. same_ids e.rid.0 i fits.rid lt) (λ s. refl) (λ t. refl)
