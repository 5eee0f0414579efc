-- The bytes of a span of a file, as far as its size.
use Rattle.std.proofs.Common.{◌≡◌, ◌⊎◌, inl, inr, ℕ, ◌+◌, ◌-◌, ◌<◌, ◌≤◌, List, [], ◌∷◌, length, take, drop, map, min, Option, Some, refl, sym, ◌∙◌, ap, arith}
use Rattle.std.specs.Prelude.{slice_range}
use Rattle.std.proofs.lemmas.Bool.{cases_lt}
use Rattle.std.proofs.lemmas.List.{drop_all, length-drop, take_all}
use Rattle.cf_base.specs.declared.ids.ItemId.{ItemId}
use Rattle.cf_base.specs.declared.spans.Span.{Span}
use Rattle.cf_filter_machine.specs.Ends.{cut_at}
use Rattle.cf_model.specs.Items.{Item, bytes_held, item_of}
use Rattle.cf_model.specs.Settling.{bytes_at, bytes_in}
use Rattle.cf_model.specs.Words.{part}
use Rattle.cf_table.specs.Means.{Means}
use Rattle.cf_table.specs.declared.rows.Row.{Row}

take_alike : (xs : List (Option ℕ)) (j k : ℕ) → (j ≡ k) ⊎ ((length xs ≤ j) × (length xs ≤ k)) → take j xs ≡ take k xs
take_alike xs j k (inl e) = ap (λ (n : ℕ). take n xs) e
take_alike xs j k (inr h) = take_all j xs h.0 ∙ sym (take_all k xs h.1)

cut_inside : (held : List (Option ℕ)) (start len : ℕ) → start < length held → take (min (start + len) (length held) - start) (drop start held) ≡ take len (drop start held)
cut_inside held start len lt = take_alike (drop start held) _ _ (by (cases_lt (length held) (start + len)))
  where
    by : (length held < start + len) ⊎ (start + len ≤ length held)
        → ((min (start + len) (length held) - start) ≡ len) ⊎ ((length (drop start held) ≤ min (start + len) (length held) - start) × (length (drop start held) ≤ len))
    by (inl past) = inr (omega (arith, past, lt, length-drop start held), omega (arith, past, lt, length-drop start held))
    by (inr fits) = inl (omega (arith, fits, lt))

cut_past : (held : List (Option ℕ)) (at start j k : ℕ) → length held ≤ at → length held ≤ start → take j (drop at held) ≡ take k (drop start held)
cut_past held at start j k a b = (λ i. take j (drop_all at held a i)) ∙ take_alike [] j k (inr (omega arith, omega arith)) ∙ (λ i. take k (sym (drop_all start held b) i))

pub cut_bytes : (held : List (Option ℕ)) (asked : Span) → slice_range held (cut_at asked (length held)).start ((cut_at asked (length held)).start + (cut_at asked (length held)).len) ≡ slice_range held asked.start (asked.start + asked.len)
cut_bytes held asked = by (cases_lt asked.start (length held))
  where
    by : (asked.start < length held) ⊎ (length held ≤ asked.start)
        → slice_range held (cut_at asked (length held)).start ((cut_at asked (length held)).start + (cut_at asked (length held)).len) ≡ slice_range held asked.start (asked.start + asked.len)
    by (inl lt) =
        let start : min asked.start (length held) ≡ asked.start = omega (arith, lt) in
        let span : min asked.start (length held) + (min (asked.start + asked.len) (length held) - min asked.start (length held)) - min asked.start (length held) ≡ min (asked.start + asked.len) (length held) - asked.start = omega (arith, lt) in
        let rest : asked.len ≡ asked.start + asked.len - asked.start = omega arith in
        (λ i. take (span i) (drop (start i) held)) ∙ cut_inside held asked.start asked.len lt ∙ (λ i. take (rest i) (drop asked.start held))
    by (inr past) = cut_past held (min asked.start (length held)) asked.start _ _ (omega (arith, past)) past

bytes_back : (bytes : List ℕ) → bytes_held (map Some bytes) ≡ bytes
bytes_back [] = refl
bytes_back (b ∷ bs) = ap (λ (l : List ℕ). b ∷ l) (bytes_back bs)

-- what was read of a file as its row says it
pub read_in : (r : Row) (i : Item) (asked cut : Span) (bytes : List ℕ) → Means r i → cut ≡ cut_at asked r.size → map Some bytes ≡ slice_range i.held cut.start (cut.start + cut.len) → bytes ≡ bytes_in asked i
read_in r i asked cut bytes means is read =
    sym (bytes_back bytes)
    ∙ ap bytes_held (read ∙ (λ j. slice_range i.held (same j).start ((same j).start + (same j).len)) ∙ cut_bytes i.held asked)
  where
    same : cut ≡ cut_at asked (length i.held)
    same = is ∙ ap (cut_at asked) means.bytes.size

pub read_at : (items : List Item) (id : ItemId) (r : Row) (i : Item) (asked cut : Span) (bytes : List ℕ) → item_of items id ≡ Some i → Means r i → cut ≡ cut_at asked r.size → map Some bytes ≡ slice_range i.held cut.start (cut.start + cut.len)
    → bytes ≡ bytes_at items id asked
read_at items id r i asked cut bytes there means is read = read_in r i asked cut bytes means is read ∙ ap (part (bytes_in asked) []) (sym there)
