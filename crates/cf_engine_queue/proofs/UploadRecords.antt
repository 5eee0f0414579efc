-- Records of one kind among those of a book, and what a queue has of them.
use Rattle.std.proofs.Common.{◌≡◌, ◌||◌, Bool, true, false, not, List, [], ◌∷◌, ◌++◌, map, refl, sym, ap, ◌∙◌, arith, append_assoc}
use Rattle.std.proofs.lemmas.Bool.{cond-false, cond-true}
use Rattle.std.proofs.lemmas.List.{append-nil}
use Rattle.std.specs.List.{AllByRecursion, list_any}
use Rattle.std.specs.Prelude.{codes}
use Rattle.cf_base.specs.declared.answers.AuxRecord.{AuxRecord}
use Rattle.cf_base.specs.declared.items.SeenPath.{SeenPath}
use Rattle.cf_collections.specs.Split.{behind, front}
use Rattle.cf_model.specs.Books as model
use Rattle.cf_model.specs.Books.{Book, aux_records, cursor_records, entry_record, no_book, seen_record, tombstone_record}
use Rattle.cf_model.specs.Words.{is_empty}
use Rattle.cf_engine_queue.specs.Books.{entry_value, removals_of, uploads_of}
use Rattle.cf_engine_queue.specs.Keys.{is_kind_below}
use Rattle.cf_engine_queue.specs.Records.{IsKeepable, queue_of}
use Rattle.cf_engine_queue.specs.declared.uploads.QueueEntry.{QueueEntry}
use Rattle.cf_engine_queue.proofs.Steps.{all_both, all_mapped, cursor_is}
use Rattle.cf_volume_image.specs.RecordLists.{stands_before}

-- those that pass a test, with others behind them

module _ {X : Type 0} (p : X → Bool) where
  pub left_behind : (xs ys : List X) → AllByRecursion (λ x. p x ≡ true) xs → AllByRecursion (λ x. p x ≡ false) ys → behind p (xs ++ ys) ≡ ys
  left_behind [] [] h a = refl
  left_behind [] (y ∷ ys) h a = cond-false (p y) _ _ a.0
  left_behind (x ∷ xs) ys h a = cond-true (p x) _ _ h.0 ∙ left_behind xs ys h.1 a

  pub stand_in_front : (xs ys : List X) → AllByRecursion (λ x. p x ≡ true) xs → AllByRecursion (λ x. p x ≡ false) ys → front p (xs ++ ys) ≡ xs
  stand_in_front [] [] h a = refl
  stand_in_front [] (y ∷ ys) h a = cond-false (p y) _ _ a.0
  stand_in_front (x ∷ xs) ys h a = cond-true (p x) _ _ h.0 ∙ ap (λ (l : List X). x ∷ l) (stand_in_front xs ys h.1 a)

module _ (b : Book) where
  abbrev others : List AuxRecord
  others = map seen_record b.seen ++ map tombstone_record b.tombstones

  -- a test that all of a kind pass or fail
  of_others : (p : AuxRecord → Bool) → ((s : SeenPath) → p (seen_record s) ≡ false) → ((t : model.Tombstone) → p (tombstone_record t) ≡ false) → AllByRecursion (λ (r : AuxRecord). p r ≡ false) others
  of_others p h k = all_both (λ (r : AuxRecord). p r ≡ false) (map seen_record b.seen) (map tombstone_record b.tombstones) (all_mapped (λ (r : AuxRecord). p r ≡ false) seen_record b.seen h) (all_mapped (λ (r : AuxRecord). p r ≡ false) tombstone_record b.tombstones k)

  parts : aux_records b ≡ cursor_records b.cursor ++ (map entry_record b.entries ++ others)
  parts =
      append_assoc (cursor_records b.cursor ++ map entry_record b.entries) (map seen_record b.seen) (map tombstone_record b.tombstones)
      ∙ append_assoc (cursor_records b.cursor) (map entry_record b.entries) others

  after_cursor : behind (stands_before (codes "q")) (aux_records b) ≡ map entry_record b.entries ++ others
  after_cursor =
      ap (behind (stands_before (codes "q"))) parts
      ∙ left_behind (stands_before (codes "q")) (cursor_records b.cursor) (map entry_record b.entries ++ others) (cursor_is (λ (r : AuxRecord). stands_before (codes "q") r ≡ true) b.cursor refl)
      (all_both (λ (r : AuxRecord). stands_before (codes "q") r ≡ false) (map entry_record b.entries) others (all_mapped (λ (r : AuxRecord). stands_before (codes "q") r ≡ false) entry_record b.entries (λ e. refl)) (of_others (stands_before (codes "q")) (λ s. refl) (λ t. refl)))

  low : AllByRecursion (λ (r : AuxRecord). is_kind_below 114 r ≡ true) (map entry_record b.entries)
  low = all_mapped (λ (r : AuxRecord). is_kind_below 114 r ≡ true) entry_record b.entries (λ e. refl)

  high : AllByRecursion (λ (r : AuxRecord). is_kind_below 114 r ≡ false) others
  high = of_others (is_kind_below 114) (λ s. refl) (λ t. refl)

  pub entries_are : (rs : List AuxRecord) → rs ≡ aux_records b → front (is_kind_below 114) (behind (stands_before (codes "q")) rs) ≡ map entry_record b.entries
  entries_are rs same =
      ap (λ (l : List AuxRecord). front (is_kind_below 114) (behind (stands_before (codes "q")) l)) same ∙ ap (front (is_kind_below 114)) after_cursor
      ∙ stand_in_front (is_kind_below 114) (map entry_record b.entries) others low high

  -- whether there are some

  first_of : (es : List model.QueueEntry) (ys left : List AuxRecord) (r : AuxRecord) → AllByRecursion (λ (x : AuxRecord). is_kind_below 114 x ≡ false) ys → map entry_record es ++ ys ≡ r ∷ left → is_kind_below 114 r ≡ not (is_empty es)
  first_of [] [] left r a h = let z : ◌≡◌ {A = List AuxRecord} [] (r ∷ left) = h in absurd cc
  first_of [] (y ∷ ys) left r a h = let e : r ≡ y = (let z : ◌≡◌ {A = List AuxRecord} (y ∷ ys) (r ∷ left) = h in cc) in ap (is_kind_below 114) e ∙ a.0
  first_of (x ∷ es) ys left r a h = let e : r ≡ entry_record x = (let z : ◌≡◌ {A = List AuxRecord} (entry_record x ∷ (map entry_record es ++ ys)) (r ∷ left) = h in cc) in ap (is_kind_below 114) e

  none_of : (es : List model.QueueEntry) (ys : List AuxRecord) → map entry_record es ++ ys ≡ [] → false ≡ not (is_empty es)
  none_of [] ys h = refl
  none_of (x ∷ es) ys h = let z : ◌≡◌ {A = List AuxRecord} (entry_record x ∷ (map entry_record es ++ ys)) [] = h in absurd cc

  pub some_uploads : (rs from left : List AuxRecord) (r : AuxRecord) → rs ≡ aux_records b → from ≡ behind (stands_before (codes "q")) rs → from ≡ r ∷ left → is_kind_below 114 r ≡ not (is_empty b.entries)
  some_uploads rs from left r same is here = first_of b.entries others left r high (sym after_cursor ∙ ap (behind (stands_before (codes "q"))) (sym same) ∙ sym is ∙ here)

  pub no_uploads : (rs from : List AuxRecord) → rs ≡ aux_records b → from ≡ behind (stands_before (codes "q")) rs → from ≡ [] → false ≡ not (is_empty b.entries)
  no_uploads rs from same is none = none_of b.entries others (sym after_cursor ∙ ap (behind (stands_before (codes "q"))) (sym same) ∙ sym is ∙ none)

  -- removals

  abbrev front_of : List AuxRecord
  front_of = cursor_records b.cursor ++ map entry_record b.entries ++ map seen_record b.seen

  before : AllByRecursion (λ (r : AuxRecord). stands_before (codes "t") r ≡ true) front_of
  before = all_both (λ (r : AuxRecord). stands_before (codes "t") r ≡ true) (cursor_records b.cursor ++ map entry_record b.entries) (map seen_record b.seen)
      (all_both (λ (r : AuxRecord). stands_before (codes "t") r ≡ true) (cursor_records b.cursor) (map entry_record b.entries) (cursor_is (λ (r : AuxRecord). stands_before (codes "t") r ≡ true) b.cursor refl) (all_mapped (λ (r : AuxRecord). stands_before (codes "t") r ≡ true) entry_record b.entries (λ e. refl)))
      (all_mapped (λ (r : AuxRecord). stands_before (codes "t") r ≡ true) seen_record b.seen (λ p. refl))

  last : AllByRecursion (λ (r : AuxRecord). stands_before (codes "t") r ≡ false) (map tombstone_record b.tombstones)
  last = all_mapped (λ (r : AuxRecord). stands_before (codes "t") r ≡ false) tombstone_record b.tombstones (λ t. refl)

  pub tombstones_are : (rs : List AuxRecord) → rs ≡ aux_records b → front (is_kind_below 117) (behind (stands_before (codes "t")) rs) ≡ map tombstone_record b.tombstones
  tombstones_are rs same =
      ap (λ (l : List AuxRecord). front (is_kind_below 117) (behind (stands_before (codes "t")) l)) same
      ∙ ap (front (is_kind_below 117)) (left_behind (stands_before (codes "t")) front_of (map tombstone_record b.tombstones) before last)
      ∙ ap (front (is_kind_below 117)) (sym (append-nil (map tombstone_record b.tombstones)))
      ∙ stand_in_front (is_kind_below 117) (map tombstone_record b.tombstones) [] (all_mapped (λ (r : AuxRecord). is_kind_below 117 r ≡ true) tombstone_record b.tombstones (λ t. refl)) tt

  -- the book of uploads alone, and that of removals

  uploads_keepable : IsKeepable b → IsKeepable (uploads_of b)
  uploads_keepable k = record { cursor = omega arith; entries = k.entries; seen = tt; tombstones = tt; tokens = k.tokens; paths = tt; numbers = tt }

  uploads_records : aux_records (uploads_of b) ≡ map entry_record b.entries
  uploads_records = append-nil (map entry_record b.entries ++ []) ∙ append-nil (map entry_record b.entries)

  pub uploads_loaded : (rs : List AuxRecord) (q : Book) → IsKeepable b → rs ≡ map entry_record b.entries → ((d : Book) → IsKeepable d → rs ≡ aux_records d → q ≡ queue_of d) → q ≡ uploads_of b
  uploads_loaded rs q k same h = h (uploads_of b) (uploads_keepable k) (same ∙ sym uploads_records)

  removals_keepable : IsKeepable b → IsKeepable (removals_of b)
  removals_keepable k = record { cursor = omega arith; entries = tt; seen = tt; tombstones = k.tombstones; tokens = tt; paths = tt; numbers = k.numbers }

  pub removals_loaded : (rs : List AuxRecord) (q : Book) → IsKeepable b → rs ≡ map tombstone_record b.tombstones → ((d : Book) → IsKeepable d → rs ≡ aux_records d → q ≡ queue_of d) → q ≡ removals_of b
  removals_loaded rs q k same h = h (removals_of b) (removals_keepable k) same

  pub both_loaded : (q r both : Book) → q ≡ uploads_of b → r ≡ removals_of b → both ≡ record no_book { entries = q.entries; tombstones = r.tombstones } → both ≡ queue_of b
  both_loaded q r both uploads removals is = is ∙ (λ i. record no_book { entries = (uploads i).entries; tombstones = (removals i).tombstones })

-- tests

any_mapped : (p : model.QueueEntry → Bool) (es : List QueueEntry) → list_any (λ e. p (entry_value e)) es ≡ list_any p (map entry_value es)
any_mapped p [] = refl
any_mapped p (e ∷ es) = ap (λ (b : Bool). p (entry_value e) || b) (any_mapped p es)

pub any_of_uploads : (p : model.QueueEntry → Bool) (es : List QueueEntry) (queue b : Book) (x : Bool) → x ≡ list_any (λ e. p (entry_value e)) es → map entry_value es ≡ queue.entries → queue ≡ uploads_of b → x ≡ list_any p b.entries
any_of_uploads p es queue b x is entries same = is ∙ any_mapped p es ∙ ap (list_any p) (entries ∙ ap (λ (q : Book). q.entries) same)
