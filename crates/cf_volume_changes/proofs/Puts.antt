-- A planned change put: what it asks of the rows and clusters, and what it leaves.
use Rattle.std.proofs.Common.{◌≡◌, inl, inr, ℕ, zero, suc, ◌+◌, ◌-◌, ◌/◌, ◌<◌, ◌≤◌, Bool, true, false, ◌||◌, ◌&&◌, cond, eqb, ltb, List, [], ◌∷◌, ◌++◌, length, refl, sym, ◌∙◌, ap, subst, arith, Option, Some, None}
use Rattle.std.specs.Prelude.{All, Err, IfOk, Ok, Result, filter, min}
use Rattle.std.proofs.lemmas.Bool.{cases_eq, cond-true, cond-false, eq-eqb, ne_eqb, true≢false}
use Rattle.std.proofs.lemmas.Bool.Decides.{nat_tests}
use Rattle.std.proofs.lemmas.List.Elements.{All-append, All-cons, All-head, All-nil, All-tail}
use Rattle.std.proofs.lemmas.Option.{none-some, same_Some}
use Rattle.cf_base.specs.declared.changes.Change.{Change}
use Rattle.cf_base.specs.declared.changes.Change.TheVariants as change
use Rattle.cf_base.specs.declared.ids.ItemId.{ItemId}
use Rattle.cf_base.specs.declared.ids.Usn.{Usn}
use Rattle.cf_base.specs.declared.items.Pin.{Pin}
use Rattle.cf_base.specs.declared.items.Pin.TheVariants as pin
use Rattle.cf_base.specs.declared.memory.OutOfMemory.{OutOfMemory}
use Rattle.cf_volume_blocks.specs.Bytes.{puts_in}
use Rattle.cf_model.specs.Blocks.{blocks_of, lacks_in}
use Rattle.cf_model.specs.Items.{Item}
use Rattle.cf_model.specs.Numbers.{above, usn_after}
use Rattle.cf_model.specs.Words.{counting}
use Rattle.cf_volume_points.proofs.Frames.{all_left, all_right, clusters_more}
use Rattle.cf_volume_points.proofs.RowChanges.{found_with}
use Rattle.cf_volume_points.specs.Clusters.{clusters_in_row, clusters_in_rows}
use Rattle.cf_volume_points.specs.Known.{row_then}
use Rattle.cf_volume_points.specs.Staging.{names}
use Rattle.cf_ranges.specs.Pairs.{IsRisingFrom, cluster_at}
use Rattle.cf_table.proofs.NextChange.{next_goes_on}
use Rattle.cf_table.specs.Applied.{FitsRow, IsSpellable, item_effect}
use Rattle.cf_table.specs.Changing.{Fits, FitsRows, IsNext, item_of_change, stays}
use Rattle.cf_table.specs.Means.{IsLater, KeepsRest, Means, StaysBefore}
use Rattle.cf_table.specs.Tables.{AreTableRows, IsStored, IsTableRow, RisesFrom, pin_at, row_of, with_row}
use Rattle.cf_table.specs.declared.rows.Row.{Row}
use Rattle.cf_volume_changes.proofs.Noted.{found_id}
use Rattle.cf_volume_changes.specs.Laid.{AreRising, Plans}
use Rattle.cf_volume_changes.specs.declared.plans.Planned.{Planned}
use Rattle.cf_volume_changes.specs.Notes.{Notes}

pub some_row : (o : Option Row) → (o ≡ None → ⊥) → (r : Row) × (o ≡ Some r)
some_row None h = absurd (h refl)
some_row (Some r) h = (r, refl)

pub found_table : (rows : List Row) (id : ItemId) (r : Row) → AreTableRows rows → row_of rows id ≡ Some r → IsTableRow r
found_table [] id r h e = absurd (none-some r e)
found_table (x ∷ xs) id r h e = by (eqb x.id.0 id.0) e (found_table xs id r h.1)
  where
    by : (t : Bool) → cond t (Some x) (row_of xs id) ≡ Some r → (row_of xs id ≡ Some r → IsTableRow r) → IsTableRow r
    by true e f = subst IsTableRow (same_Some x r e) h.0
    by false e f = f e

-- blocks in order

weaker_rising : (low high : ℕ) (bs : List ℕ) → low ≤ high → AreRising high bs → AreRising low bs
weaker_rising low high [] le r = tt
weaker_rising low high (b ∷ bs) le r = (omega (arith, le, r.0), r.1)

counting_rises : (low i n : ℕ) → low ≤ i → AreRising low (counting i n)
counting_rises low i zero le = tt
counting_rises low i (suc n) le = (le, counting_rises (i + 1) (i + 1) n (omega arith))

filter_rises : (f : ℕ → Bool) (low : ℕ) (bs : List ℕ) → AreRising low bs → AreRising low (filter f bs)
filter_rises f low [] r = tt
filter_rises f low (b ∷ bs) r = by (f b) (filter_rises f (b + 1) bs r.1)
  where
    by : (t : Bool) → AreRising (b + 1) (filter f bs) → AreRising low (cond t (b ∷ filter f bs) (filter f bs))
    by true h = (r.0, h)
    by false h = weaker_rising low (b + 1) (filter f bs) (omega (arith, r.0)) h

blocks_rise : (start n : ℕ) → AreRising 0 (blocks_of start n)
blocks_rise start zero = tt
blocks_rise start (suc n) = counting_rises 0 (start / 4096) ((start + n) / 4096 + 1 - start / 4096) (omega arith)

pub puts_rise : (c : Change) (held : List (Option ℕ)) → AreRising 0 (puts_in c held)
puts_rise (change.Make item parent name kind size identity) held = tt
puts_rise (change.Remove item) held = tt
puts_rise (change.Move item parent name) held = tt
puts_rise (change.Write item at bytes) held = blocks_rise (min at (length held)) (at + length bytes - min at (length held))
puts_rise (change.Size item size) held = blocks_rise (length held) (size - length held)
puts_rise (change.Filled item start bytes) held = filter_rises (lacks_in start (start + length bytes) held) 0 (blocks_of start (length bytes)) (blocks_rise start (length bytes))
puts_rise (change.Validated item start len) held = tt
puts_rise (change.Emptied item start len) held = tt
puts_rise (change.SetPin item state) held = tt
puts_rise (change.Mark item at) held = tt
puts_rise (change.Clear item) held = tt
puts_rise (change.Convert item identity) held = tt
puts_rise (change.Revert item) held = tt
puts_rise (change.Rebase item identity len at) held = tt
puts_rise (change.Take item identity size) held = tt
puts_rise (change.Copy item from parent name) held = tt
puts_rise (change.Populated item) held = tt
puts_rise (change.Keep item on) held = tt

-- rows as they were at the last point

pub known_with : (id next : ItemId) (rows old new : List Row) (p : Row) → RisesFrom 0 rows → p.id.0 ≡ id.0 → (row_of rows id ≡ None → ⊥) → Notes id next rows old new
    → (key : ItemId) → row_then key new next (row_of (with_row p rows) key) ≡ row_then key old next (row_of rows key)
known_with id next rows old new p rises is there notes key = elim (cases_eq key.0 id.0) [
  | inl same ↦ subst (λ (k : ItemId). row_then k new next (row_of (with_row p rows) k) ≡ row_then k old next (row_of rows k)) (λ i. record { 0 = sym same i })
      (notes.here (row_of (with_row p rows) id) (λ none. absurd (there none)))
  | inr apart ↦ notes.others key (row_of (with_row p rows) key) apart
      ∙ ap (λ (o : Option Row). row_then key old next o) (found_with p 0 rows key rises ∙ cond-false (eqb p.id.0 key.0) (Some p) (row_of rows key) (ne_eqb p.id.0 key.0 (λ e. apart (sym e ∙ is))))
]

pub known_without : (id next : ItemId) (rows left old new : List Row) → ((key : ItemId) → row_of left key ≡ cond (eqb id.0 key.0) None (row_of rows key)) → Notes id next rows old new
    → (key : ItemId) → row_then key new next (row_of left key) ≡ row_then key old next (row_of rows key)
known_without id next rows left old new found notes key = elim (cases_eq key.0 id.0) [
  | inl same ↦ subst (λ (k : ItemId). row_then k new next (row_of left k) ≡ row_then k old next (row_of rows k)) (λ i. record { 0 = sym same i })
      (notes.here (row_of left id) (λ none. found id ∙ cond-true (eqb id.0 id.0) None (row_of rows id) (eq-eqb id.0 id.0 refl)))
  | inr apart ↦ notes.others key (row_of left key) apart
      ∙ ap (λ (o : Option Row). row_then key old next o) (found key ∙ cond-false (eqb id.0 key.0) None (row_of rows key) (ne_eqb id.0 key.0 (λ e. apart (sym e))))
]

-- rows of which all have something

pub all_with : (P : Row → Type 0) (p : Row) (rows : List Row) → P p → All P rows → All P (with_row p rows)
all_with P p [] h all = All-cons P p [] h (All-nil P)
all_with P p (r ∷ rs) h all = by (ltb r.id.0 p.id.0) (eqb r.id.0 p.id.0) (all_with P p rs h (All-tail P r rs all))
  where
    by : (t u : Bool) → All P (with_row p rs) → All P (cond t (r ∷ with_row p rs) (cond u (p ∷ rs) (p ∷ r ∷ rs)))
    by true u f = All-cons P r (with_row p rs) (All-head P r rs all) f
    by false true f = All-cons P p rs h (All-tail P r rs all)
    by false false f = All-cons P p (r ∷ rs) h all

-- clusters of rows

pub inside_with : (P : ℕ → Type 0) (p : Row) (rows : List Row) → All P (clusters_in_row p) → All P (clusters_in_rows rows) → All P (clusters_in_rows (with_row p rows))
inside_with P p [] h all = subst (λ (l : List ℕ). All P l) (sym (clusters_more p [])) (All-append P (clusters_in_row p) [] h (All-nil P))
inside_with P p (r ∷ rs) h all =
    let split : All P (clusters_in_row r ++ clusters_in_rows rs) = subst (λ (l : List ℕ). All P l) (clusters_more r rs) all in
    let mine = all_left P (clusters_in_row r) (clusters_in_rows rs) split in
    let rest = all_right P (clusters_in_row r) (clusters_in_rows rs) split in
    by (ltb r.id.0 p.id.0) (eqb r.id.0 p.id.0) mine rest (inside_with P p rs h rest)
  where
    by : (t u : Bool) → All P (clusters_in_row r) → All P (clusters_in_rows rs) → All P (clusters_in_rows (with_row p rs)) → All P (clusters_in_rows (cond t (r ∷ with_row p rs) (cond u (p ∷ rs) (p ∷ r ∷ rs))))
    by true u mine rest f = subst (λ (l : List ℕ). All P l) (sym (clusters_more r (with_row p rs))) (All-append P (clusters_in_row r) (clusters_in_rows (with_row p rs)) mine f)
    by false true mine rest f = subst (λ (l : List ℕ). All P l) (sym (clusters_more p rs)) (All-append P (clusters_in_row p) (clusters_in_rows rs) h rest)
    by false false mine rest f = subst (λ (l : List ℕ). All P l) (sym (clusters_more p (r ∷ rs))) (All-append P (clusters_in_row p) (clusters_in_rows (r ∷ rs)) h all)

pub found_inside : (P : ℕ → Type 0) (rows : List Row) (id : ItemId) (r : Row) → All P (clusters_in_rows rows) → row_of rows id ≡ Some r → All P (clusters_in_row r)
found_inside P [] id r all e = absurd (none-some r e)
found_inside P (x ∷ xs) id r all e =
    let split : All P (clusters_in_row x ++ clusters_in_rows xs) = subst (λ (l : List ℕ). All P l) (clusters_more x xs) all in
    by (eqb x.id.0 id.0) e (all_left P (clusters_in_row x) (clusters_in_rows xs) split) (found_inside P xs id r (all_right P (clusters_in_row x) (clusters_in_rows xs) split))
  where
    by : (t : Bool) → cond t (Some x) (row_of xs id) ≡ Some r → All P (clusters_in_row x) → (row_of xs id ≡ Some r → All P (clusters_in_row r)) → All P (clusters_in_row r)
    by true e mine f = subst (λ (y : Row). All P (clusters_in_row y)) (same_Some x r e) mine
    by false e mine f = f e

-- the cluster of a block is one of those that the extents name
pub named_inside : (P : ℕ → Type 0) (es : List (ℕ × ℕ)) (b k : ℕ) → All P (names es) → cluster_at es b ≡ Some k → P k
named_inside P [] b k all e = absurd (none-some k e)
named_inside P (x ∷ xs) b k all e = by (eqb x.0 b) e (named_inside P xs b k (All-tail P x.1 (names xs) all))
  where
    by : (t : Bool) → cond t (Some x.1) (cluster_at xs b) ≡ Some k → (cluster_at xs b ≡ Some k → P k) → P k
    by true e f = subst P (same_Some x.1 k e) (All-head P x.1 (names xs) all)
    by false e f = f e

-- past the blocks below none has a cluster
below_none : (low b : ℕ) (es : List (ℕ × ℕ)) → IsRisingFrom low es → b < low → cluster_at es b ≡ None
below_none low b [] r lt = refl
below_none low b (x ∷ xs) r lt = cond-false (eqb x.0 b) (Some x.1) (cluster_at xs b) (ne_eqb x.0 b (λ e. omega (arith, e, r.0, lt))) ∙ below_none (x.0 + 1) b xs r.1 (omega (arith, r.0, lt))

pub inside_named : (P : ℕ → Type 0) (low : ℕ) (es : List (ℕ × ℕ)) → IsRisingFrom low es → ((b k : ℕ) → cluster_at es b ≡ Some k → P k) → All P (names es)
inside_named P low [] r h = All-nil P
inside_named P low (x ∷ xs) r h = All-cons P x.1 (names xs) (h x.0 x.1 (cond-true (eqb x.0 x.0) (Some x.1) (cluster_at xs x.0) (eq-eqb x.0 x.0 refl)))
    (inside_named P (x.0 + 1) xs r.1 (λ b k e. h b k (elim (cases_eq x.0 b) [
      | inl same ↦ absurd (none-some k (sym (below_none (x.0 + 1) b xs r.1 (omega (arith, same))) ∙ e))
      | inr apart ↦ cond-false (eqb x.0 b) (Some x.1) (cluster_at xs b) (ne_eqb x.0 b apart) ∙ e
    ])))

-- numbers

next_above : (e p : ℕ) → (ltb e e || (eqb e e && ltb (p + 1) (p + 1 + 1))) ≡ true
next_above e p = grind (arith, nat_tests)

pub later_next : (epoch place : ℕ) → above (usn_after epoch (place + 1)) (usn_after epoch place) ≡ true
later_next epoch place = next_above epoch place

pub found_of : (P : Row → Type 0) (rows : List Row) (id : ItemId) (r : Row) → All P rows → row_of rows id ≡ Some r → P r
found_of P [] id r all e = absurd (none-some r e)
found_of P (x ∷ xs) id r all e = by (eqb x.id.0 id.0) e (found_of P xs id r (All-tail P x xs all))
  where
    by : (t : Bool) → cond t (Some x) (row_of xs id) ≡ Some r → (row_of xs id ≡ Some r → P r) → P r
    by true e f = subst P (same_Some x r e) (All-head P x xs all)
    by false e f = f e

pub next_with : (epoch place : ℕ) (rows : List Row) (id : ItemId) (r p : Row) → IsNext (usn_after epoch place) rows → row_of rows id ≡ Some r → StaysBefore (usn_after epoch place) r p → p.anchor ≡ r.anchor → IsNext (usn_after epoch (place + 1)) (with_row p rows)
next_with epoch place rows id r p next found later anchor =
    let all = next_goes_on (usn_after epoch place) (usn_after epoch (place + 1)) rows (later_next epoch place) next in
    let old : IsLater (usn_after epoch (place + 1)) r = found_of (λ x. IsLater (usn_after epoch (place + 1)) x) rows id r all found in
    all_with (λ x. IsLater (usn_after epoch (place + 1)) x) p rows
    (record { number = later (usn_after epoch (place + 1)) old.number (later_next epoch place); anchor = ap (λ (u : Usn). above (usn_after epoch (place + 1)) u) anchor ∙ old.anchor }) all

-- what a change that fits asks of the row of its item

rows_fit : (c : Change) (rows : List Row) → stays c ≡ true → Fits c rows → FitsRows c rows
rows_fit (change.Make item parent name kind size identity) rows s f = absurd (true≢false (sym s))
rows_fit (change.Remove item) rows s f = absurd (true≢false (sym s))
rows_fit (change.Move item parent name) rows s f = f
rows_fit (change.Write item at bytes) rows s f = f
rows_fit (change.Size item size) rows s f = f
rows_fit (change.Filled item start bytes) rows s f = f
rows_fit (change.Validated item start len) rows s f = f
rows_fit (change.Emptied item start len) rows s f = f
rows_fit (change.SetPin item state) rows s f = f
rows_fit (change.Mark item at) rows s f = f
rows_fit (change.Clear item) rows s f = f
rows_fit (change.Convert item identity) rows s f = f
rows_fit (change.Revert item) rows s f = f
rows_fit (change.Rebase item identity len at) rows s f = f
rows_fit (change.Take item identity size) rows s f = f
rows_fit (change.Copy item from parent name) rows s f = absurd (true≢false (sym s))
rows_fit (change.Populated item) rows s f = f
rows_fit (change.Keep item on) rows s f = f

pub found_fits : (c : Change) (rows : List Row) (r : Row) → stays c ≡ true → Fits c rows → row_of rows (item_of_change c) ≡ Some r → FitsRow c r
found_fits c rows r s f e = found_of (λ x. x.id.0 ≡ (item_of_change c).0 → FitsRow c x) rows (item_of_change c) r (rows_fit c rows s f) e (found_id rows (item_of_change c) r e)

-- the pin of a row that is there

pub pin_found : (rows : List Row) (id : ItemId) (r : Row) → row_of rows id ≡ Some r → r.pin ≡ pin_at rows id
pin_found [] id r e = absurd (none-some r e)
pin_found (x ∷ xs) id r e = by (eqb x.id.0 id.0) e (pin_found xs id r)
  where
    by : (t : Bool) → cond t (Some x) (row_of xs id) ≡ Some r → (row_of xs id ≡ Some r → r.pin ≡ pin_at xs id) → r.pin ≡ cond t x.pin (pin_at xs id)
    by true e f = ap (λ (y : Row). y.pin) (sym (same_Some x r e))
    by false e f = f e

pub pin_none : (rows : List Row) (id : ItemId) → row_of rows id ≡ None → pin.Unspecified ≡ pin_at rows id
pin_none [] id e = refl
pin_none (x ∷ xs) id e = by (eqb x.id.0 id.0) e (pin_none xs id)
  where
    by : (t : Bool) → cond t (Some x) (row_of xs id) ≡ None → (row_of xs id ≡ None → pin.Unspecified ≡ pin_at xs id) → pin.Unspecified ≡ cond t x.pin (pin_at xs id)
    by true e f = absurd (none-some x (sym e))
    by false e f = f e

-- what a plan says, of the row that was found

pub plans_of : (result : Result Planned OutOfMemory) (c : Change) (pin' : Pin) (n : Usn) (row : Row) → IsSpellable row
    → IfOk result (λ p. (i : Item) → Means row i → Means p.row (item_effect c pin' n i)) → IfOk result (λ p. KeepsRest row p.row) → IfOk result (λ p. StaysBefore n row p.row) → IfOk result (λ p. IsStored p.row)
    → IfOk result (λ p. IsSpellable row → IsSpellable p.row) → IfOk result (λ p. (i : Item) → Means row i → p.blocks.items ≡ puts_in c i.held)
    → (rows : List Row) (id : ItemId) → row_of rows id ≡ Some row → IfOk result (λ p. (r : Row) → row_of rows id ≡ Some r → Plans c pin' n r p.row p.blocks.items)
plans_of (Err e) c pin' n row sp means rest later stored spellable puts rows id found = tt
plans_of (Ok p) c pin' n row sp means rest later stored spellable puts rows id found =
    λ r e. subst (λ (x : Row). Plans c pin' n x p.row p.blocks.items) (same_Some row r (sym found ∙ e))
    (record { means = means; rest = rest; later = later; stored = stored; spellable = spellable sp; puts = puts })
