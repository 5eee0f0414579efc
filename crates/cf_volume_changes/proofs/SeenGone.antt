-- The record of the path seen of an item that is removed.
use Rattle.std.proofs.Common.{◌≡◌, inl, inr, ℕ, ◌^◌, ◌<◌, Bool, true, false, not, cond, eqb, ltb, List, [], ◌∷◌, ◌++◌, drop, refl, sym, ◌∙◌, ap}
use Rattle.std.specs.Prelude.{codes, map}
use Rattle.std.proofs.lemmas.Bool.{cases_Bool, eq-eqb, eqb-true, true≢false}
use Rattle.std.proofs.lemmas.List.Elements.{All-head, All-tail}
use Rattle.cf_base.specs.declared.answers.AuxRecord.{AuxRecord}
use Rattle.cf_base.specs.declared.items.SeenPath.{SeenPath}
use Rattle.cf_base.specs.declared.changes.Change.TheVariants as change
use Rattle.cf_base.specs.declared.ids.ItemId.{ItemId}
use Rattle.cf_model.specs.Books.{Book, aux_records, book_after, cursor_records, entry_record, seen_record, tombstone_record, without_seen}
use Rattle.cf_model.specs.Formats.{without_record}
use Rattle.cf_model.specs.Words.{in_bytes, same, when}
use Rattle.cf_volume_points.specs.Keeping.{AreShortIds}
use Rattle.cf_table.proofs.NamedEntries.{same_is, same_itself}
use Rattle.cf_table.proofs.OneText.{one_8}
use Rattle.cf_volume_changes.specs.Keys.{seen_key}

left_append : (key : List ℕ) (xs ys : List AuxRecord) → without_record key (xs ++ ys) ≡ without_record key xs ++ without_record key ys
left_append key [] ys = refl
left_append key (x ∷ xs) ys = by (not (same x.key key)) (left_append key xs ys)
  where
    by : (t : Bool) → without_record key (xs ++ ys) ≡ without_record key xs ++ without_record key ys
        → cond t (x ∷ without_record key (xs ++ ys)) (without_record key (xs ++ ys)) ≡ cond t (x ∷ without_record key xs) (without_record key xs) ++ without_record key ys
    by true h = ap (λ (l : List AuxRecord). x ∷ l) h
    by false h = h

-- records with other keys
all_left : {A : Type 0} (f : A → AuxRecord) (key : List ℕ) (xs : List A) → ((x : A) → same (f x).key key ≡ false) → without_record key (map f xs) ≡ map f xs
all_left {A} f key [] apart = refl
all_left {A} f key (x ∷ xs) apart = by (same (f x).key key) (apart x) (all_left f key xs apart)
  where
    by : (t : Bool) → t ≡ false → without_record key (map f xs) ≡ map f xs → cond (not t) (f x ∷ without_record key (map f xs)) (without_record key (map f xs)) ≡ f x ∷ map f xs
    by true e h = absurd (true≢false e)
    by false e h = ap (λ (l : List AuxRecord). f x ∷ l) h

cursor_left : (id : ItemId) (cursor : ℕ) → without_record (seen_key id) (cursor_records cursor) ≡ cursor_records cursor
cursor_left id cursor = by (ltb 0 cursor)
  where
    by : (t : Bool) → without_record (seen_key id) (when t (record { key = codes "c"; value = in_bytes 8 cursor } ∷ [])) ≡ when t (record { key = codes "c"; value = in_bytes 8 cursor } ∷ [])
    by true = refl
    by false = refl

pub key_same : (n m : ItemId) → n.0 < 2 ^ 64 → m.0 < 2 ^ 64 → same (seen_key n) (seen_key m) ≡ eqb n.0 m.0
key_same n m low less = by (eqb n.0 m.0) refl
  where
    no : eqb n.0 m.0 ≡ false → same (seen_key n) (seen_key m) ≡ true → same (seen_key n) (seen_key m) ≡ false
    no e h =
        let whole = same_is (seen_key n) (seen_key m) h in
        let tails : in_bytes 8 n.0 ++ [] ≡ in_bytes 8 m.0 ++ [] = ap (λ (l : List ℕ). drop 1 l ++ []) whole in
        absurd (true≢false (sym (eq-eqb n.0 m.0 (one_8 n.0 m.0 [] [] low less tails).0) ∙ e))

    by : (t : Bool) → eqb n.0 m.0 ≡ t → same (seen_key n) (seen_key m) ≡ t
    by true e = ap (λ (k : ℕ). same (seen_key (record { 0 = k })) (seen_key m)) (eqb-true n.0 m.0 e) ∙ same_itself (seen_key m)
    by false e = elim (cases_Bool (same (seen_key n) (seen_key m))) [
      | inl h ↦ no e h
      | inr h ↦ h
    ]

seen_left : (id : ItemId) (ps : List SeenPath) → id.0 < 2 ^ 64 → AreShortIds ps → without_record (seen_key id) (map seen_record ps) ≡ map seen_record (without_seen id ps)
seen_left id [] low short = refl
seen_left id (p ∷ ps) low short = by (same (seen_key p.item) (seen_key id)) (eqb p.item.0 id.0) (key_same p.item id (All-head (λ (x : SeenPath). x.item.0 < 18446744073709551616) p ps short) low)
    (seen_left id ps low (All-tail (λ (x : SeenPath). x.item.0 < 18446744073709551616) p ps short))
  where
    by : (t u : Bool) → t ≡ u → without_record (seen_key id) (map seen_record ps) ≡ map seen_record (without_seen id ps)
        → cond (not t) (seen_record p ∷ without_record (seen_key id) (map seen_record ps)) (without_record (seen_key id) (map seen_record ps)) ≡ map seen_record (cond (not u) (p ∷ without_seen id ps) (without_seen id ps))
    by true true e h = h
    by true false e h = absurd (true≢false e)
    by false true e h = absurd (true≢false (sym e))
    by false false e h = ap (λ (l : List AuxRecord). seen_record p ∷ l) h

pub seen_gone : (id : ItemId) (b : Book) → id.0 < 2 ^ 64 → AreShortIds b.seen → aux_records (book_after (change.Remove id) b) ≡ without_record (seen_key id) (aux_records b)
seen_gone id b low short = sym (
    left_append (seen_key id) (cursor_records b.cursor ++ map entry_record b.entries ++ map seen_record b.seen) (map tombstone_record b.tombstones)
    ∙ (λ j. (left_append (seen_key id) (cursor_records b.cursor ++ map entry_record b.entries) (map seen_record b.seen) j) ++ all_left tombstone_record (seen_key id) b.tombstones (λ t. refl) j)
    ∙ (λ j. (left_append (seen_key id) (cursor_records b.cursor) (map entry_record b.entries) j ++ seen_left id b.seen low short j) ++ map tombstone_record b.tombstones)
    ∙ (λ j. ((cursor_left id b.cursor j ++ all_left entry_record (seen_key id) b.entries (λ e. refl) j) ++ map seen_record (without_seen id b.seen)) ++ map tombstone_record b.tombstones))
