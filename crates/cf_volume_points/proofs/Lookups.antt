-- Rows and records that are found, or left, after some were put in or taken out.
use Rattle.std.proofs.Common.{◌≡◌, ℕ, Bool, true, false, ◌||◌, ◌&&◌, cond, eqb, List, [], ◌∷◌, map, Option, Some, None, refl, sym, ◌∙◌, ap}
use Rattle.std.specs.Prelude.{filter, is_some}
use Rattle.std.proofs.lemmas.Bool.{eqb-true}
use Rattle.cf_base.specs.declared.answers.AuxRecord.{AuxRecord}
use Rattle.cf_base.specs.declared.ids.ItemId.{ItemId}
use Rattle.cf_volume_image.proofs.Keys.{goes_on_before, same_back}
use Rattle.cf_volume_image.specs.Contents.{record_at}
use Rattle.cf_volume_image.specs.Enough.{has_id}
use Rattle.cf_volume_image.specs.Spelled.{AreRecordsFrom, IsAfter}
use Rattle.cf_model.specs.Formats.{with_record, without_record}
use Rattle.cf_model.specs.Words.{comes_before, same}
use Rattle.cf_table.proofs.NamedEntries.{same_is}
use Rattle.cf_table.specs.Tables.{row_of}
use Rattle.cf_table.specs.declared.rows.Row.{Row}
use Rattle.cf_volume_points.proofs.Found.{found_left, found_put}

-- rows

pub same_id : (a b : ItemId) → a.0 ≡ b.0 → a ≡ b
same_id a b h = ap (λ (n : ℕ). record { 0 = n }) h

pub none_and : (a : Bool) → (a && false) ≡ false
none_and true = refl
none_and false = refl

-- the ids of rows that pass a test on ids
pub has_filtered : (q : ItemId → Bool) (rows : List Row) (id : ItemId) → has_id (map (λ (r : Row). r.id) (filter (λ (r : Row). q r.id) rows)) id ≡ (is_some (row_of rows id) && q id)
has_filtered q [] id = refl
has_filtered q (x ∷ xs) id = by (eqb x.id.0 id.0) refl (q x.id) refl (has_filtered q xs id)
  where
    rest : List ItemId
    rest = map (λ (r : Row). r.id) (filter (λ (r : Row). q r.id) xs)

    by : (t : Bool) → eqb x.id.0 id.0 ≡ t → (u : Bool) → q x.id ≡ u → has_id rest id ≡ (is_some (row_of xs id) && q id)
        → has_id (map (λ (r : Row). r.id) (cond u (x ∷ filter (λ (r : Row). q r.id) xs) (filter (λ (r : Row). q r.id) xs))) id ≡ (is_some (cond t (Some x) (row_of xs id)) && q id)
    by true p true w h = ap (λ (b : Bool). b || has_id rest id) p ∙ sym (ap q (same_id id x.id (sym (eqb-true x.id.0 id.0 p))) ∙ w)
    by true p false w h =
        let gone : q id ≡ false = ap q (same_id id x.id (sym (eqb-true x.id.0 id.0 p))) ∙ w in
        h ∙ ap (λ (b : Bool). is_some (row_of xs id) && b) gone ∙ none_and (is_some (row_of xs id)) ∙ sym gone
    by false p true w h = ap (λ (b : Bool). b || has_id rest id) p ∙ h
    by false p false w h = h

-- records, after one was put or taken out

pub at_without : (k key : List ℕ) (c : Bool) (xs : List AuxRecord) → same k key ≡ c → record_at (without_record k xs) key ≡ cond c None (record_at xs key)
at_without k key c xs e = found_left (λ x. same x.key key) (λ x. same x.key k) c xs (λ x h. ap (λ (l : List ℕ). same l k) (same_is x.key key h) ∙ same_back key k ∙ e)

pub at_with : (r : AuxRecord) (key : List ℕ) (c : Bool) (xs : List AuxRecord) → same r.key key ≡ c → record_at (with_record r xs) key ≡ cond c (Some r) (record_at xs key)
at_with r key c xs e =
    found_put (λ x. same x.key key) (λ x y. comes_before x.key y.key) r (without_record r.key xs) (λ h. at_without r.key key true xs h)
    ∙ ap (λ (t : Bool). cond t (Some r) (record_at (without_record r.key xs) key)) e ∙ by c e
  where
    by : (t : Bool) → same r.key key ≡ t → cond t (Some r) (record_at (without_record r.key xs) key) ≡ cond t (Some r) (record_at xs key)
    by true h = refl
    by false h = at_without r.key key false xs h

-- what is left of records in order is in order

pub weaker_after : (before key : List ℕ) (rs : List AuxRecord) → IsAfter (Some before) key → AreRecordsFrom (Some key) rs → AreRecordsFrom (Some before) rs
weaker_after before key [] a h = tt
weaker_after before key (r ∷ rs) a h = (((h.0.0.0, goes_on_before before key r.key a h.0.0.1), h.0.1), h.1)

weaker : (before : Option (List ℕ)) (key : List ℕ) (rs : List AuxRecord) → IsAfter before key → AreRecordsFrom (Some key) rs → AreRecordsFrom before rs
weaker None key [] a h = tt
weaker None key (r ∷ rs) a h = (((h.0.0.0, tt), h.0.1), h.1)
weaker (Some before) key rs a h = weaker_after before key rs a h

pub filter_records : (p : AuxRecord → Bool) (before : Option (List ℕ)) (rs : List AuxRecord) → AreRecordsFrom before rs → AreRecordsFrom before (filter p rs)
filter_records p before [] h = tt
filter_records p before (r ∷ rs) h = by (p r) (filter_records p (Some r.key) rs h.1)
  where
    by : (t : Bool) → AreRecordsFrom (Some r.key) (filter p rs) → AreRecordsFrom before (cond t (r ∷ filter p rs) (filter p rs))
    by true rest = (h.0, rest)
    by false rest = weaker before r.key (filter p rs) h.0.0.1 rest
