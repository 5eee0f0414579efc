-- Where a log is heavy, and where it is nowhere.
use Rattle.std.proofs.Common.{◌≡◌, ◌≤◌, ◌<◌, ◌+◌, ◌&&◌, max, not, ℕ, zero, suc, Bool, true, false, nat_lt, nat_le, drop, List, [], ◌∷◌, ◌++◌, length, take, refl, sym, ◌∙◌, ap, arith, append_assoc, length-append, length-take-le}
use Rattle.std.proofs.Math.Seq.{drop-append_seam, take-append_seam}
use Rattle.std.proofs.lemmas.List.{drop-append-le, drop_all, take-append-drop, take-append-le, take_all}
use Rattle.std.proofs.lemmas.Bool.{le-leb, leb-true, lt-ltb, ltb-true}
use Rattle.cf_base.specs.declared.answers.Answer.{Answer}
use Rattle.cf_base.specs.declared.changes.Change.{Change}
use Rattle.cf_base.specs.declared.events.Event.{Event}
use Rattle.cf_base.specs.declared.ids.Usn.{Usn}
use Rattle.cf_base.specs.declared.policies.Mode.{Mode}
use Rattle.cf_model.specs.Blocks.{blocks_used, is_full, passes_clusters, puts_into}
use Rattle.cf_model.specs.Changes.{may_need_room}
use Rattle.cf_model.specs.Effects.{effect}
use Rattle.cf_model.specs.Items.{Item, root}
use Rattle.cf_model.specs.Lawful.{Runs}
use Rattle.cf_model.specs.Logs.{after_changes, items_of}
use Rattle.cf_model.specs.State.{State, Volume, start}
use Rattle.cf_model.specs.Store.{Held}
use Rattle.cf_model_room.specs.Rooms.{first_puts, is_heavy, is_heavy_at, load_from, load_since, none_full, none_full_from, puts_since, sure_count}
use Rattle.cf_model_room.proofs.Loads.{IsWeighed, load_longer, load_next, weighed}

both : (a b : Bool) → (a && b) ≡ true → (a ≡ true) × (b ≡ true)
both true b e = (refl, e)
both false b e = let z : false ≡ true = e in absurd cc

both_so : (a b : Bool) → a ≡ true → b ≡ true → (a && b) ≡ true
both_so a b d e = rw d e

each : (a b c : Bool) → a ≡ true → b ≡ true → c ≡ true → (a && (b && c)) ≡ true
each a b c d e f = rw d (rw e f)

-- what a heavy place says
pub record IsHeavyAt (clusters n k : ℕ) (front behind : List (Usn × Change)) : Type 0 where
  pub there : n ≤ k
  pub puts : 0 < first_puts (items_of front) behind
  pub passes : clusters < load_since n front + first_puts (items_of front) behind

pub heavy_says : (clusters n k : ℕ) (front behind : List (Usn × Change)) → is_heavy_at clusters n k front behind ≡ true → IsHeavyAt clusters n k front behind
heavy_says clusters n k front behind h =
    let x = both (nat_le n k) (nat_lt 0 (first_puts (items_of front) behind) && nat_lt clusters (load_since n front + first_puts (items_of front) behind)) h in
    let y = both (nat_lt 0 (first_puts (items_of front) behind)) (nat_lt clusters (load_since n front + first_puts (items_of front) behind)) x.1 in record {
      there = leb-true n k x.0;
      puts = ltb-true 0 (first_puts (items_of front) behind) y.0;
      passes = ltb-true clusters (load_since n front + first_puts (items_of front) behind) y.1;
    }

pub heavy_so : (clusters n k : ℕ) (front behind : List (Usn × Change)) → IsHeavyAt clusters n k front behind → is_heavy_at clusters n k front behind ≡ true
heavy_so clusters n k front behind h =
    each (nat_le n k) (nat_lt 0 (first_puts (items_of front) behind)) (nat_lt clusters (load_since n front + first_puts (items_of front) behind))
    (le-leb n k h.there) (lt-ltb 0 (first_puts (items_of front) behind) h.puts) (lt-ltb clusters (load_since n front + first_puts (items_of front) behind) h.passes)

-- directly before one change more
pub heavy_here : (clusters n : ℕ) (log : List (Usn × Change)) (m : Usn) (c : Change) → n ≤ length log → 0 < length (puts_into (items_of log) c) → clusters < load_since n log + length (puts_into (items_of log) c)
    → is_heavy clusters n (log ++ (m, c) ∷ []) (length log) ≡ true
heavy_here clusters n log m c there puts passes =
    ap (λ (xs : List (Usn × Change)). is_heavy_at clusters n (length log) xs (drop (length log) (log ++ (m, c) ∷ []))) (take-append_seam log ((m, c) ∷ []))
    ∙ ap (λ (xs : List (Usn × Change)). is_heavy_at clusters n (length log) log xs) (drop-append_seam log ((m, c) ∷ []))
    ∙ heavy_so clusters n (length log) log ((m, c) ∷ []) (record { there = there; puts = puts; passes = passes })

-- something is behind
some_behind : (items : List Item) (k : ℕ) (log : List (Usn × Change)) → 0 < first_puts items (drop k log) → k < length log
some_behind items zero [] h = absurd (omega (arith, h))
some_behind items (suc k) [] h = absurd (omega (arith, h))
some_behind items zero (c ∷ cs) h = omega arith
some_behind items (suc k) (c ∷ cs) h = let le : k < length cs = some_behind items k cs h in omega (arith, le)

pub heavy_below : (clusters n : ℕ) (log : List (Usn × Change)) (k : ℕ) → is_heavy clusters n log k ≡ true → k < length log
heavy_below clusters n log k h = some_behind (items_of (take k log)) k log (heavy_says clusters n k (take k log) (drop k log) h).puts

first_stays : (items : List Item) (behind more : List (Usn × Change)) → 0 < first_puts items behind → first_puts items (behind ++ more) ≡ first_puts items behind
first_stays items [] more h = absurd (omega (arith, h))
first_stays items (c ∷ cs) more h = refl

-- a longer log is heavy where it was
pub heavy_longer : (clusters n : ℕ) (log more : List (Usn × Change)) (k : ℕ) → is_heavy clusters n log k ≡ true → is_heavy clusters n (log ++ more) k ≡ true
heavy_longer clusters n log more k h =
    let x : IsHeavyAt clusters n k (take k log) (drop k log) = heavy_says clusters n k (take k log) (drop k log) h in
    let lt : k < length log = heavy_below clusters n log k h in
    let le : k ≤ length log = omega (arith, lt) in
    ap (λ (xs : List (Usn × Change)). is_heavy_at clusters n k xs (drop k (log ++ more))) (take-append-le k log more le)
    ∙ ap (λ (xs : List (Usn × Change)). is_heavy_at clusters n k (take k log) xs) (drop-append-le k log more le)
    ∙ ap (λ (p : ℕ). nat_le n k && (nat_lt 0 p && nat_lt clusters (load_since n (take k log) + p))) (first_stays (items_of (take k log)) (drop k log) more x.puts)
    ∙ h

-- a commit for room is made where the log is heavy once the change is done
pub needs_heavy : (clusters n : ℕ) (v : Volume) → IsWeighed clusters n v → (c : Change) (m : Usn) → may_need_room c v ≡ true → is_heavy clusters n (v.log ++ (m, c) ∷ []) (length v.log) ≡ true
needs_heavy clusters n v w c m needs =
    let x = both (nat_lt 0 (length (puts_into v.items c))) (passes_clusters v.clusters v.items_then (v.put_since + length (puts_into v.items c))) needs in
    let puts : 0 < length (puts_into v.items c) = ltb-true 0 (length (puts_into v.items c)) x.0 in
    let same : length (puts_into v.items c) ≡ length (puts_into (items_of v.log) c) = ap (λ (is : List Item). length (puts_into is c)) w.items in
    let passes : v.clusters < blocks_used v.items_then + (v.put_since + length (puts_into v.items c)) = passed v.clusters v.items_then (v.put_since + length (puts_into v.items c)) x.1 in
    let kept : blocks_used v.items_then + v.put_since ≤ load_since n v.log = w.load in
    let holds : v.clusters ≡ clusters = w.holds in
    heavy_here clusters n v.log m c w.there (omega (arith, puts, same)) (omega (arith, passes, kept, same, holds))
  where
    passed : (limit : ℕ) (items : List Item) (p : ℕ) → passes_clusters limit items p ≡ true → limit < blocks_used items + p
    passed limit items zero h = let z : false ≡ true = h in absurd cc
    passed limit items (suc p) h = ltb-true limit (blocks_used items + suc p) h

pub needs_heavy_in_run : (m : Mode) (remote : Held) (clusters : ℕ) (trace : List (Event × Answer)) (t : State) → Runs m (start m remote clusters) trace t → (c : Change) (n : Usn) → may_need_room c t.filter.volume ≡ true
    → is_heavy clusters (sure_count t.filter.volume.points) (t.filter.volume.log ++ (n, c) ∷ []) (length t.filter.volume.log) ≡ true
needs_heavy_in_run m remote clusters trace t runs c n needs = needs_heavy clusters (sure_count t.filter.volume.points) t.filter.volume (weighed m remote clusters trace t runs) c n needs

-- where its load is no more than the clusters it is heavy nowhere

not_true : (b : Bool) → (b ≡ true → ⊥) → b ≡ false
not_true false h = refl
not_true true h = absurd (h refl)

grows_by : (items : List Item) (n : ℕ) (log front behind : List (Usn × Change)) → items ≡ items_of front → log ≡ front ++ behind → n ≤ length front → 0 < first_puts items behind → load_since n front + first_puts items behind ≤ load_since n log
grows_by items n log front [] is parts there puts = absurd (omega (arith, puts))
grows_by items n log front (c ∷ cs) is parts there puts =
    let one : load_since n (front ++ c ∷ []) ≡ max (load_since n front + length (puts_into (items_of front) c.1)) (blocks_used (effect (items_of front) c.1 c.0)) = load_next n front c.0 c.1 there in
    let long : length (front ++ c ∷ []) ≡ length front + 1 = rw (length-append front (c ∷ [])) refl in
    let more : load_since n (front ++ c ∷ []) ≤ load_since n ((front ++ c ∷ []) ++ cs) = load_longer n (front ++ c ∷ []) cs (omega (arith, there, long)) in
    let all : load_since n log ≡ load_since n ((front ++ c ∷ []) ++ cs) = ap (load_since n) (parts ∙ sym (append_assoc front (c ∷ []) cs)) in
    let same : length (puts_into items c.1) ≡ length (puts_into (items_of front) c.1) = ap (λ (xs : List Item). length (puts_into xs c.1)) is in
    omega (arith, one, more, all, same)

pub light_nowhere : (clusters n : ℕ) (log : List (Usn × Change)) → load_since n log ≤ clusters → (k : ℕ) → is_heavy clusters n log k ≡ false
light_nowhere clusters n log light k = not_true (is_heavy clusters n log k) passes
  where
    passes : is_heavy clusters n log k ≡ true → ⊥
    passes h =
        let x : IsHeavyAt clusters n k (take k log) (drop k log) = heavy_says clusters n k (take k log) (drop k log) h in
        let lt : k < length log = heavy_below clusters n log k h in
        let long : length (take k log) ≡ k = length-take-le k log (omega (arith, lt)) in
        let there : n ≤ k = x.there in
        let a : load_since n (take k log) + first_puts (items_of (take k log)) (drop k log) ≤ load_since n log
        = grows_by (items_of (take k log)) n log (take k log) (drop k log) refl (sym (take-append-drop k log)) (omega (arith, there, long)) x.puts in
        let c : clusters < load_since n (take k log) + first_puts (items_of (take k log)) (drop k log) = x.passes in
        omega (arith, a, c, light)

-- where no change had to be refused as Full, none is heavy directly behind the first n changes

not_full : (clusters : ℕ) (items : List Item) (n : ℕ) → passes_clusters clusters items n ≡ false → 0 < n → clusters < blocks_used items + n → ⊥
not_full clusters items zero h puts lt = omega (arith, puts)
not_full clusters items (suc n) h puts lt = let z : true ≡ false = sym (lt-ltb clusters (blocks_used items + suc n) lt) ∙ h in cc

first_fits : (clusters : ℕ) (items : List Item) (n : ℕ) (log : List (Usn × Change)) → none_full_from clusters items log ≡ true
    → 0 < first_puts (after_changes items (take n log)) (drop n log) → clusters < blocks_used (after_changes items (take n log)) + first_puts (after_changes items (take n log)) (drop n log) → ⊥
first_fits clusters items zero [] h puts lt = omega (arith, puts)
first_fits clusters items (suc n) [] h puts lt = omega (arith, puts)
first_fits clusters items zero (c ∷ cs) h puts lt = by (is_full clusters items c.1) refl (both (not (is_full clusters items c.1)) (none_full_from clusters (effect items c.1 c.0) cs) h).0
  where
    by : (b : Bool) → is_full clusters items c.1 ≡ b → not b ≡ true → ⊥
    by true e z = let y : false ≡ true = z in cc
    by false e z = not_full clusters items (length (puts_into items c.1)) e puts lt
first_fits clusters items (suc n) (c ∷ cs) h puts lt = first_fits clusters (effect items c.1 c.0) n cs (both (not (is_full clusters items c.1)) (none_full_from clusters (effect items c.1 c.0) cs) h).1 puts lt

none_since : (n : ℕ) (log : List (Usn × Change)) → n ≤ length log → load_since n (take n log) ≡ blocks_used (items_of (take n log))
none_since n log le =
    let whole : take n (take n log) ≡ take n log = take_all n (take n log) (let e : length (take n log) ≡ n = length-take-le n log le in omega (arith, e)) in
    let none : drop n (take n log) ≡ [] = drop_all n (take n log) (let e : length (take n log) ≡ n = length-take-le n log le in omega (arith, e)) in
    ap (λ (xs : List (Usn × Change)). load_from (items_of xs) (blocks_used (items_of xs)) (drop n (take n log))) whole
    ∙ ap (λ (xs : List (Usn × Change)). load_from (items_of (take n log)) (blocks_used (items_of (take n log))) xs) none

pub not_heavy_first : (clusters n : ℕ) (log : List (Usn × Change)) → none_full clusters log ≡ true → is_heavy clusters n log n ≡ false
not_heavy_first clusters n log fits = not_true (is_heavy clusters n log n) passes
  where
    passes : is_heavy clusters n log n ≡ true → ⊥
    passes h =
        let x : IsHeavyAt clusters n n (take n log) (drop n log) = heavy_says clusters n n (take n log) (drop n log) h in
        let lt : n < length log = heavy_below clusters n log n h in
        let e : load_since n (take n log) ≡ blocks_used (items_of (take n log)) = none_since n log (omega (arith, lt)) in
        let p : clusters < load_since n (take n log) + first_puts (items_of (take n log)) (drop n log) = x.passes in
        first_fits clusters (root ∷ []) n log fits x.puts (omega (arith, e, p))

-- one change more that has room, and a front of the changes

none_full_more : (clusters : ℕ) (items : List Item) (log : List (Usn × Change)) (m : Usn) (c : Change) → none_full_from clusters items log ≡ true → is_full clusters (after_changes items log) c ≡ false → none_full_from clusters items (log ++ (m, c) ∷ []) ≡ true
none_full_more clusters items [] m c h fits = rw fits refl
none_full_more clusters items (d ∷ log) m c h fits =
    let x = both (not (is_full clusters items d.1)) (none_full_from clusters (effect items d.1 d.0) log) h in
    both_so (not (is_full clusters items d.1)) (none_full_from clusters (effect items d.1 d.0) (log ++ (m, c) ∷ [])) x.0 (none_full_more clusters (effect items d.1 d.0) log m c x.1 fits)

pub fits_more : (clusters : ℕ) (log : List (Usn × Change)) (m : Usn) (c : Change) → none_full clusters log ≡ true → is_full clusters (items_of log) c ≡ false → none_full clusters (log ++ (m, c) ∷ []) ≡ true
fits_more clusters log m c h fits = none_full_more clusters (root ∷ []) log m c h fits

none_full_front : (clusters : ℕ) (items : List Item) (k : ℕ) (log : List (Usn × Change)) → none_full_from clusters items log ≡ true → none_full_from clusters items (take k log) ≡ true
none_full_front clusters items zero log h = refl
none_full_front clusters items (suc k) [] h = refl
none_full_front clusters items (suc k) (d ∷ log) h =
    let x = both (not (is_full clusters items d.1)) (none_full_from clusters (effect items d.1 d.0) log) h in
    both_so (not (is_full clusters items d.1)) (none_full_from clusters (effect items d.1 d.0) (take k log)) x.0 (none_full_front clusters (effect items d.1 d.0) k log x.1)

pub fits_front : (clusters k : ℕ) (log : List (Usn × Change)) → none_full clusters log ≡ true → none_full clusters (take k log) ≡ true
fits_front clusters k log h = none_full_front clusters (root ∷ []) k log h

-- Where no commit for room was made since the sure point, a change may be preceded by one wherever the log is heavy. Where ids rise, the load is
-- what was used and what was put.

passed_so : (limit : ℕ) (items : List Item) (p : ℕ) → 0 < p → limit < blocks_used items + p → passes_clusters limit items p ≡ true
passed_so limit items zero some lt = absurd (omega (arith, some))
passed_so limit items (suc p) some lt = lt-ltb limit (blocks_used items + suc p) lt

pub heavy_needs : (n : ℕ) (v : Volume) → v.items ≡ items_of v.log → v.items_then ≡ items_of (take n v.log) → v.put_since ≡ puts_since n v.log → load_since n v.log ≡ blocks_used (items_of (take n v.log)) + puts_since n v.log
    → (c : Change) (m : Usn) → is_heavy v.clusters n (v.log ++ (m, c) ∷ []) (length v.log) ≡ true → may_need_room c v ≡ true
heavy_needs n v items_are then_are put_is plain c m heavy =
    let here : is_heavy_at v.clusters n (length v.log) v.log ((m, c) ∷ []) ≡ true
    = sym (ap (λ (xs : List (Usn × Change)). is_heavy_at v.clusters n (length v.log) xs (drop (length v.log) (v.log ++ (m, c) ∷ []))) (take-append_seam v.log ((m, c) ∷ []))
    ∙ ap (λ (xs : List (Usn × Change)). is_heavy_at v.clusters n (length v.log) v.log xs) (drop-append_seam v.log ((m, c) ∷ []))) ∙ heavy in
    let x : IsHeavyAt v.clusters n (length v.log) v.log ((m, c) ∷ []) = heavy_says v.clusters n (length v.log) v.log ((m, c) ∷ []) here in
    let puts : 0 < length (puts_into (items_of v.log) c) = x.puts in
    let passes : v.clusters < load_since n v.log + length (puts_into (items_of v.log) c) = x.passes in
    let same : length (puts_into v.items c) ≡ length (puts_into (items_of v.log) c) = ap (λ (is : List Item). length (puts_into is c)) items_are in
    let used : blocks_used v.items_then ≡ blocks_used (items_of (take n v.log)) = ap blocks_used then_are in
    both_so (nat_lt 0 (length (puts_into v.items c))) (passes_clusters v.clusters v.items_then (v.put_since + length (puts_into v.items c)))
    (lt-ltb 0 (length (puts_into v.items c)) (omega (arith, puts, same)))
    (passed_so v.clusters v.items_then (v.put_since + length (puts_into v.items c)) (omega (arith, puts, same)) (omega (arith, passes, same, used, put_is, plain)))
