-- Numbers past the last place of an epoch, told as ones of the next: nothing that counts is lost.
use Rattle.std.proofs.Common.{◌≡◌, inl, inr, ℕ, ◌+◌, ◌-◌, ◌<◌, ◌≤◌, Bool, true, false, ◌&&◌, ◌||◌, not, cond, eqb, ltb, List, [], ◌∷◌, length, map, refl, sym, ◌∙◌, ap, arith}
use Rattle.std.proofs.lemmas.Bool.{cases_Bool, cond-false, cond-true, eq-eqb, eqb-true, le-ltb, lt-ltb, ltb-false, ltb-true, true≢false}
use Rattle.std.proofs.lemmas.List.{map-append}
use Rattle.cf_base.specs.declared.changes.Change.{Change}
use Rattle.cf_base.specs.declared.changes.Change.TheVariants as change
use Rattle.cf_base.specs.declared.ids.ItemId.{ItemId}
use Rattle.cf_base.specs.declared.ids.Usn.{Usn}
use Rattle.cf_base.specs.declared.items.Kind.{Kind}
use Rattle.cf_base.specs.declared.items.Kind.TheVariants as kind
use Rattle.cf_base.specs.declared.items.Pin.{Pin}
use Rattle.cf_model.specs.Books.{Book, anchor_of}
use Rattle.cf_model.specs.Effects.{cleared, copied, emptied, later_than, left_out, made, rebased, reverted, sized, wrote}
use Rattle.cf_model.specs.Images.{count_runs, row_len}
use Rattle.cf_model.specs.Items.{Item, bytes_held}
use Rattle.cf_model.specs.Numbers.{above, most, same_usn, usn_after}
use Rattle.cf_model.specs.Overlay.{Put, Resize, Written, covers, is_covered}
use Rattle.cf_model.specs.Words.{by_place, within}
use Rattle.cf_table.specs.Applied.{item_effect}
use Rattle.cf_table.specs.Means.{AreUpTo}
use Rattle.cf_volume_changes.specs.Drafts.{IsLow, shifted, shifted_item, shifted_write}

-- whether a number is past the last place
abbrev is_past : ℕ → Usn → Bool
is_past e n = eqb n.epoch e && ltb most n.place

both_true : (a b : Bool) → (a && b) ≡ true → (a ≡ true) × (b ≡ true)
both_true true true e = (refl, refl)
both_true true false e = absurd (true≢false (sym e))
both_true false b e = absurd (true≢false (sym e))

past_is : (e : ℕ) (n : Usn) → is_past e n ≡ true → (n.epoch ≡ e) × (most < n.place)
past_is e n h = let parts = both_true (eqb n.epoch e) (ltb most n.place) h in (eqb-true n.epoch e parts.0, ltb-true most n.place parts.1)

or_true : (a b : Bool) → a ≡ true → (a || b) ≡ true
or_true true b e = refl
or_true false b e = absurd (true≢false (sym e))

or_right : (a b : Bool) → b ≡ true → (a || b) ≡ true
or_right true b e = refl
or_right false b e = e

and_false : (a : Bool) → (a && false) ≡ false
and_false true = refl
and_false false = refl

-- a place has room in its field
unshifted : (e : ℕ) (n : Usn) → n.place ≤ most → shifted e n ≡ n
unshifted e n low = cond-false (is_past e n) (record { epoch = e + 1; place = n.place - 4294967296 }) n (ap (λ (t : Bool). eqb n.epoch e && t) (le-ltb most n.place low) ∙ and_false (eqb n.epoch e))

-- the place is past the last one, in an epoch that is not before
pub past_above : (n a : Usn) → a.epoch ≤ n.epoch → a.place < n.place → above n a ≡ true
past_above n a le lt = elim (cases_Bool (ltb a.epoch n.epoch)) [
  | inl less ↦ or_true (ltb a.epoch n.epoch) (eqb n.epoch a.epoch && ltb a.place n.place) less
  | inr more ↦
      let same : n.epoch ≡ a.epoch = (let h = ltb-false a.epoch n.epoch more in omega (arith, h, le)) in
      or_right (ltb a.epoch n.epoch) (eqb n.epoch a.epoch && ltb a.place n.place) (λ i. eq-eqb n.epoch a.epoch same i && lt-ltb a.place n.place lt i)
]

epoch_above : (n a : Usn) → a.epoch < n.epoch → above n a ≡ true
epoch_above n a lt = or_true (ltb a.epoch n.epoch) (eqb n.epoch a.epoch && ltb a.place n.place) (lt-ltb a.epoch n.epoch lt)

-- a number past the last place comes after all that are not
past_low : (e : ℕ) (n a : Usn) → is_past e n ≡ true → IsLow e a → above n a ≡ true
past_low e n a past low =
    let at = past_is e n past in
    elim (cases_Bool (eqb a.epoch e)) [
      | inl same ↦ let is = eqb-true a.epoch e same in past_above n a (omega (arith, at.0, is)) (omega (arith, at.1, low.1 is))
      | inr other ↦ epoch_above n a (by (λ (is : a.epoch ≡ e). true≢false (sym (eq-eqb a.epoch e is) ∙ other)) at.0)
    ]
  where
    by : (a.epoch ≡ e → ⊥) → n.epoch ≡ e → a.epoch < n.epoch
    by apart is = omega (arith, apart, is, low.0)

-- it comes after the same numbers
pub shift_above : (e : ℕ) (n a : Usn) → IsLow e a → above (shifted e n) a ≡ above n a
shift_above e n a low = elim (cases_Bool (is_past e n)) [
  | inl past ↦
      let moved : shifted e n ≡ record { epoch = e + 1; place = n.place - 4294967296 } = cond-true (is_past e n) _ n past in
      ap (λ (m : Usn). above m a) moved ∙ epoch_above (record { epoch = e + 1; place = n.place - 4294967296 }) a (omega (arith, low.0)) ∙ sym (past_low e n a past low)
  | inr still ↦ ap (λ (m : Usn). above m a) (cond-false (is_past e n) _ n still)
]

-- the numbers of an epoch rise
pub shift_rises : (e p : ℕ) → above (shifted e (usn_after e (p + 1))) (shifted e (usn_after e p)) ≡ true
shift_rises e p = elim (cases_Bool (ltb most (p + 1))) [
  | inl past ↦
      let first : shifted e (usn_after e p) ≡ record { epoch = e + 1; place = p + 1 - 4294967296 } = moved p (ltb-true most (p + 1) past) in
      let next : shifted e (usn_after e (p + 1)) ≡ record { epoch = e + 1; place = p + 1 + 1 - 4294967296 } = moved (p + 1) (let h = ltb-true most (p + 1) past in omega (arith, h)) in
      (λ i. above (next i) (first i))
      ∙ past_above (record { epoch = e + 1; place = p + 1 + 1 - 4294967296 }) (record { epoch = e + 1; place = p + 1 - 4294967296 }) (omega arith) (let h = ltb-true most (p + 1) past in omega (arith, h))
  | inr still ↦
      let low : p + 1 ≤ most = ltb-false most (p + 1) still in
      ap (λ (m : Usn). above (shifted e (usn_after e (p + 1))) m) (unshifted e (usn_after e p) low)
      ∙ shift_above e (usn_after e (p + 1)) (usn_after e p) (omega arith, λ same. low) ∙ past_above (usn_after e (p + 1)) (usn_after e p) (omega arith) (omega arith)
]
  where
    moved : (q : ℕ) → most < q + 1 → shifted e (usn_after e q) ≡ record { epoch = e + 1; place = q + 1 - 4294967296 }
    moved q lt = cond-true (is_past e (usn_after e q)) _ (usn_after e q) (λ i. eq-eqb e e refl i && lt-ltb most (q + 1) lt i)

-- writes

covered_map : (e : ℕ) (ws : List Written) (p : ℕ) → is_covered (map (shifted_write e) ws) p ≡ is_covered ws p
covered_map e [] p = refl
covered_map e (w ∷ ws) p = ap (λ (t : Bool). covers w p || t) (covered_map e ws p)

later_map : (e : ℕ) (ws : List Written) (a : Usn) → IsLow e a → later_than a (map (shifted_write e) ws) ≡ map (shifted_write e) (later_than a ws)
later_map e [] a low = refl
later_map e (w ∷ ws) a low = by (above w.number a) (shift_above e w.number a low) (later_map e ws a low)
  where
    by : (t : Bool) → above (shifted e w.number) a ≡ t → later_than a (map (shifted_write e) ws) ≡ map (shifted_write e) (later_than a ws)
        → cond (above (shifted e w.number) a) (shifted_write e w ∷ later_than a (map (shifted_write e) ws)) (later_than a (map (shifted_write e) ws)) ≡ map (shifted_write e) (cond t (w ∷ later_than a ws) (later_than a ws))
    by true h rest = (λ i. cond (h i) (shifted_write e w ∷ rest i) (rest i))
    by false h rest = (λ i. cond (h i) (shifted_write e w ∷ rest i) (rest i))

-- a row is as long
pub shifted_len : (e : ℕ) (b : Book) (i : Item) → IsLow e (anchor_of b i.id) → row_len b (shifted_item e i) ≡ row_len b i
shifted_len e b i low =
    let modified = ap (λ (f : ℕ → Bool). count_runs false (by_place (λ p h. f p) 0 i.held)) (λ k p. covered_map e i.writes p k) in
    let since = ap (λ (ws : List Written). count_runs false (by_place (λ p h. is_covered ws p) 0 i.held)) (later_map e i.writes (anchor_of b i.id) low)
    ∙ ap (λ (f : ℕ → Bool). count_runs false (by_place (λ p h. f p) 0 i.held)) (λ k p. covered_map e (later_than (anchor_of b i.id) i.writes) p k) in
    omega (arith, modified, since)

-- what changes make of an item

abbrev pub HasLowAt : ℕ → Change → Type 0
HasLowAt e (change.Rebase item identity len at) = IsLow e at
HasLowAt e c = Unit {0}

leaves_same : (e start len : ℕ) (i : Item) → left_out start len (shifted_item e i) ≡ shifted_item e (left_out start len i)
leaves_same e start len i = λ k. record (shifted_item e i) {
  held = emptied (λ p. within start (start + len) p && not (covered_map e i.writes p k)) i.held;
  valid = cleared (λ p. within start (start + len) p && not (covered_map e i.writes p k)) i.valid;
}

reverts_same : (e : ℕ) (n : Usn) (i : Item) → reverted (shifted e n) (shifted_item e i) ≡ shifted_item e (reverted n i)
reverts_same e n i = λ k. record (reverted (shifted e n) (shifted_item e i)) { writes = by i.directory k }
  where
    by : (d : Bool) → cond d [] (record { number = shifted e n; before = length i.held; write = Put 0 (bytes_held i.held) } ∷ []) ≡ map (shifted_write e) (cond d [] (record { number = n; before = length i.held; write = Put 0 (bytes_held i.held) } ∷ []))
    by true = refl
    by false = refl

pub shifted_effect : (e : ℕ) (c : Change) (pin : Pin) (n : Usn) (i : Item) → HasLowAt e c → item_effect c pin (shifted e n) (shifted_item e i) ≡ shifted_item e (item_effect c pin n i)
shifted_effect e (change.Make item parent name kind size identity) pin n i low = refl
shifted_effect e (change.Remove item) pin n i low = refl
shifted_effect e (change.Move item parent name) pin n i low = refl
shifted_effect e (change.Write item at bytes) pin n i low = λ k. record (wrote at bytes (shifted e n) (shifted_item e i)) {
  writes = sym (map-append (shifted_write e) i.writes (record { number = n; before = length i.held; write = Put at bytes } ∷ [])) k;
}
shifted_effect e (change.Size item size) pin n i low = λ k. record (sized size (shifted e n) (shifted_item e i)) {
  writes = sym (map-append (shifted_write e) i.writes (record { number = n; before = length i.held; write = Resize size } ∷ [])) k;
}
shifted_effect e (change.Filled item start bytes) pin n i low = refl
shifted_effect e (change.Validated item start len) pin n i low = refl
shifted_effect e (change.Emptied item start len) pin n i low = leaves_same e start len i
shifted_effect e (change.SetPin item state) pin n i low = refl
shifted_effect e (change.Mark item at) pin n i low = refl
shifted_effect e (change.Clear item) pin n i low = refl
shifted_effect e (change.Convert item identity) pin n i low = refl
shifted_effect e (change.Revert item) pin n i low = reverts_same e n i
shifted_effect e (change.Rebase item identity len at) pin n i low = λ k. record (rebased identity len at (shifted_item e i)) { writes = later_map e i.writes at low k }
shifted_effect e (change.Take item identity size) pin n i low = refl
shifted_effect e (change.Copy item from parent name) pin n i low = refl
shifted_effect e (change.Populated item) pin n i low = refl
shifted_effect e (change.Keep item on) pin n i low = refl

pub shifted_copy : (e : ℕ) (id parent : ItemId) (name : List ℕ) (pin : Pin) (n : Usn) (i : Item) → copied id parent name pin (shifted e n) (shifted_item e i) ≡ shifted_item e (copied id parent name pin n i)
shifted_copy e id parent name pin n i = λ k. record (copied id parent name pin (shifted e n) (shifted_item e i)) {
  writes = sym (map-append (shifted_write e) i.writes (record { number = n; before = length i.held; write = Resize (length i.held) } ∷ [])) k;
}

pub shifted_made : (e : ℕ) (id parent : ItemId) (name : List ℕ) (kind : Kind) (size : ℕ) (identity : List ℕ) (pin : Pin) (n : Usn) → made id parent name kind size identity pin (shifted e n) ≡ shifted_item e (made id parent name kind size identity pin n)
shifted_made e id parent name kind.File size identity pin n = refl
shifted_made e id parent name kind.Dir size identity pin n = refl
shifted_made e id parent name kind.PlaceholderFile size identity pin n = refl
shifted_made e id parent name kind.PlaceholderDir size identity pin n = refl
shifted_made e id parent name kind.UnpopulatedDir size identity pin n = refl

-- an item whose number is not past the last place is as it was
pub same_item : (e : ℕ) (i : Item) → IsLow e i.number → AreUpTo i.number i.writes → shifted_item e i ≡ i
same_item e i low up = λ k. record i { number = same_low k; writes = same_writes i.writes up k }
  where
    same_low : shifted e i.number ≡ i.number
    same_low = elim (cases_Bool (is_past e i.number)) [
      | inl past ↦ let at = past_is e i.number past in absurd (omega (arith, at.1, low.1 at.0))
      | inr still ↦ cond-false (is_past e i.number) _ i.number still
    ]

    same_number : (m : Usn) → above m i.number ≡ false → shifted e m ≡ m
    same_number m h = elim (cases_Bool (is_past e m)) [
      | inl past ↦ absurd (true≢false (sym (past_low e m i.number past low) ∙ h))
      | inr still ↦ cond-false (is_past e m) _ m still
    ]

    same_writes : (ws : List Written) → AreUpTo i.number ws → map (shifted_write e) ws ≡ ws
    same_writes [] h = refl
    same_writes (w ∷ ws) h = λ k. record w { number = same_number w.number h.1 k } ∷ same_writes ws h.2 k

-- the number at which a base takes writes in, where it has room in its field
pub same_at : (e : ℕ) (at n : Usn) → at.place ≤ most → same_usn at n ≡ true → same_usn at (shifted e n) ≡ true
same_at e at n place same =
    let parts = both_true (eqb at.epoch n.epoch) (eqb at.place n.place) same in
    let low : n.place ≤ most = (let h = eqb-true at.place n.place parts.1 in omega (arith, h, place)) in
    ap (λ (m : Usn). same_usn at m) (unshifted e n low) ∙ same
