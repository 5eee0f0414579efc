-- What keeps a volume aimed.
use Rattle.std.proofs.Common.{◌≡◌, ◌⊎◌, ◌≤◌, ◌<◌, ◌+◌, ◌&&◌, ℕ, zero, suc, Bool, true, false, nat_le, nat_lt, drop, inl, inr, List, [], ◌∷◌, ◌++◌, length, take, refl, sym, ◌∙◌, ap, subst, arith, length-append}
use Rattle.std.specs.Prelude.{Option, Some, None}
use Rattle.std.proofs.Math.Seq.{drop-append_seam, take-append_seam}
use Rattle.std.proofs.lemmas.Bool.{cases_lt, lt-ltb, true≢false}
use Rattle.std.proofs.lemmas.List.{drop-append-le, drop_all, take-append-le, take_all}
use Rattle.cf_base.specs.declared.changes.Change.{Change}
use Rattle.cf_base.specs.declared.ids.Usn.{Usn}
use Rattle.cf_model_room.proofs.Heavy.{heavy_below, heavy_says}
use Rattle.cf_model_room.proofs.Loads.{load_next, pointed}
use Rattle.cf_model_room.specs.Rooms.{first_puts, is_heavy, is_heavy_at, load_from, load_since, sure_count}
use Rattle.cf_model.specs.Blocks.{blocks_used, passes_clusters, puts_into}
use Rattle.cf_model.specs.Books.{Book, no_book}
use Rattle.cf_model.specs.Changes.{may_need_room, next_number, put_with_book}
use Rattle.cf_model.specs.Effects.{effect}
use Rattle.cf_model.specs.Items.{Item}
use Rattle.cf_model.specs.Logs.{items_of}
use Rattle.cf_model.specs.Points.{ArePoints, HasPoints, Opens, point_now, with_room_point, with_sure_point}
use Rattle.cf_model.specs.Restarts.{opened_at}
use Rattle.cf_model.specs.State.{Point, Volume, new_volume}
use Rattle.cf_volume_room.proofs.Bounds.{uses_more}
use Rattle.cf_volume_room.specs.Aims.{HasNoRoom, IsAimed, IsAimedBy, IsAlike, IsReady, IsSettled}

-- tests

both_so : (a b : Bool) → a ≡ true → b ≡ true → (a && b) ≡ true
both_so a b d e = rw d e

not_true : (b : Bool) → (b ≡ true → ⊥) → b ≡ false
not_true false h = refl
not_true true h = absurd (h refl)

-- the same parts

alike_at : (n : ℕ) (v w : Volume) → IsAlike v w → IsAimed n v → IsAimed n w
alike_at n v w s a = record {
  alone = λ p h. a.alone p (subst (λ (ps : List Point). Opens ps p) s.points h);
  load = λ none.
      ap (λ (ps : List Point). load_since (sure_count ps) w.log) s.points ∙ ap (load_since (sure_count v.points)) s.log ∙ a.load (before none)
      ∙ sym (ap (λ (is : List Item). blocks_used is + w.put_since) s.items_then ∙ ap (λ (k : ℕ). blocks_used v.items_then + k) s.put_since);
  light = λ none lt.
      ap (λ (k : ℕ). is_heavy k (sure_count w.points) w.log n) s.clusters ∙ ap (λ (ps : List Point). is_heavy v.clusters (sure_count ps) w.log n) s.points
      ∙ ap (λ (xs : List (Usn × Change)). is_heavy v.clusters (sure_count v.points) xs n) s.log ∙ a.light (before none) (subst (λ (xs : List (Usn × Change)). n < length xs) s.log lt);
}
  where
    before : HasNoRoom w → HasNoRoom v
    before none p h = none p (subst (λ (ps : List Point). Opens ps p) (sym s.points) h)

pub same_aimed : (aim : Option ℕ) (v w : Volume) → IsAlike v w → IsAimedBy aim v → IsAimedBy aim w
same_aimed None v w s a = record {}
same_aimed (Some n) v w s a = alike_at n v w s a

-- one change more

first_stays : (items : List Item) (behind more : List (Usn × Change)) → 0 < length behind → first_puts items (behind ++ more) ≡ first_puts items behind
first_stays items [] more some = absurd (omega (arith, some))
first_stays items (c ∷ cs) more some = refl

some_left : (k : ℕ) (log : List (Usn × Change)) → k < length log → 0 < length (drop k log)
some_left zero log lt = lt
some_left (suc k) [] lt = absurd (omega (arith, lt))
some_left (suc k) (c ∷ cs) lt = some_left k cs (omega (arith, lt))

-- a longer log is as heavy where there was a change
heavy_as_before : (clusters n : ℕ) (log more : List (Usn × Change)) (k : ℕ) → k < length log → is_heavy clusters n (log ++ more) k ≡ is_heavy clusters n log k
heavy_as_before clusters n log more k lt =
    let le : k ≤ length log = omega (arith, lt) in
    ap (λ (xs : List (Usn × Change)). is_heavy_at clusters n k xs (drop k (log ++ more))) (take-append-le k log more le)
    ∙ ap (λ (xs : List (Usn × Change)). is_heavy_at clusters n k (take k log) xs) (drop-append-le k log more le)
    ∙ ap (λ (p : ℕ). nat_le n k && (nat_lt 0 p && nat_lt clusters (load_since n (take k log) + p))) (first_stays (items_of (take k log)) (drop k log) more (some_left k log lt))

passed_so : (limit : ℕ) (items : List Item) (p : ℕ) → 0 < p → limit < blocks_used items + p → passes_clusters limit items p ≡ true
passed_so limit items zero some lt = absurd (omega (arith, some))
passed_so limit items (suc p) some lt = lt-ltb limit (blocks_used items + suc p) lt

-- where the load is what was used and what was put since, a change with which the log is heavy before it may need room
heavy_needs : (n : ℕ) (v : Volume) (c : Change) (m : Usn) → v.items ≡ items_of v.log → load_since n v.log ≡ blocks_used v.items_then + v.put_since → is_heavy v.clusters n (v.log ++ (m, c) ∷ []) (length v.log) ≡ true → may_need_room c v ≡ true
heavy_needs n v c m items load heavy =
    let here : is_heavy_at v.clusters n (length v.log) v.log ((m, c) ∷ []) ≡ true
    = sym (ap (λ (xs : List (Usn × Change)). is_heavy_at v.clusters n (length v.log) xs (drop (length v.log) (v.log ++ (m, c) ∷ []))) (take-append_seam v.log ((m, c) ∷ []))
    ∙ ap (λ (xs : List (Usn × Change)). is_heavy_at v.clusters n (length v.log) v.log xs) (drop-append_seam v.log ((m, c) ∷ []))) ∙ heavy in
    let x = heavy_says v.clusters n (length v.log) v.log ((m, c) ∷ []) here in
    let puts : 0 < length (puts_into (items_of v.log) c) = x.puts in
    let passes : v.clusters < load_since n v.log + length (puts_into (items_of v.log) c) = x.passes in
    let same : length (puts_into v.items c) ≡ length (puts_into (items_of v.log) c) = ap (λ (is : List Item). length (puts_into is c)) items in
    both_so (nat_lt 0 (length (puts_into v.items c))) (passes_clusters v.clusters v.items_then (v.put_since + length (puts_into v.items c)))
    (lt-ltb 0 (length (puts_into v.items c)) (omega (arith, puts, same)))
    (passed_so v.clusters v.items_then (v.put_since + length (puts_into v.items c)) (omega (arith, puts, same)) (omega (arith, passes, same, load)))

module _ (n : ℕ) (f : Book → Book) (c : Change) (v : Volume) (r : IsReady v) (a : IsAimed n v) where
  behind : List (Usn × Change)
  behind = (next_number v, c) ∷ []

  put_load : HasNoRoom v → load_since (sure_count v.points) (v.log ++ (next_number v, c) ∷ []) ≡ blocks_used v.items_then + (v.put_since + length (puts_into v.items c))
  put_load none =
      let old : load_since (sure_count v.points) v.log ≡ blocks_used v.items_then + v.put_since = a.load none in
      let next = load_next (sure_count v.points) v.log (next_number v) c r.there in
      let now : blocks_used v.items + 0 ≤ load_since (sure_count v.points) v.log
      = (pointed v.clusters (sure_count v.points) v v.points (record { holds = refl; items = r.items; there = r.there; load = omega (arith, old) })).load in
      let more : blocks_used (effect v.items c (next_number v)) ≤ blocks_used v.items + length (puts_into v.items c) = uses_more v.items c (next_number v) r.rise in
      let puts : length (puts_into v.items c) ≡ length (puts_into (items_of v.log) c) = ap (λ (is : List Item). length (puts_into is c)) r.items in
      let used : blocks_used (effect v.items c (next_number v)) ≡ blocks_used (effect (items_of v.log) c (next_number v)) = ap (λ (is : List Item). blocks_used (effect is c (next_number v))) r.items in
      omega (arith, old, next, now, more, puts, used)

  put_light : (n ≡ length v.log → may_need_room c v ≡ false) → HasNoRoom v → n < length (v.log ++ (next_number v, c) ∷ []) → is_heavy v.clusters (sure_count v.points) (v.log ++ (next_number v, c) ∷ []) n ≡ false
  put_light unwanted none lt = elim (cases_lt n (length v.log)) [
    | inl before ↦ heavy_as_before v.clusters (sure_count v.points) v.log ((next_number v, c) ∷ []) n before ∙ a.light none before
    | inr ge ↦
        let long : length (v.log ++ (next_number v, c) ∷ []) ≡ length v.log + 1 = length-append v.log ((next_number v, c) ∷ []) in
        let here : n ≡ length v.log = omega (arith, ge, lt, long) in
        ap (is_heavy v.clusters (sure_count v.points) (v.log ++ (next_number v, c) ∷ [])) here
        ∙ not_true (is_heavy v.clusters (sure_count v.points) (v.log ++ (next_number v, c) ∷ []) (length v.log))
        (λ heavy. true≢false (sym (heavy_needs (sure_count v.points) v c (next_number v) r.items (a.load none) heavy) ∙ unwanted here))
  ]

  put_at : (n ≡ length v.log → may_need_room c v ≡ false) → IsAimed n (put_with_book f c v)
  put_at unwanted = record { alone = a.alone; load = put_load; light = put_light unwanted }

-- A change that was put in at once, where no commit is wanted before it, or none may be needed.
pub put_aimed : (aim : Option ℕ) (f : Book → Book) (c : Change) (v : Volume) → IsReady v → (aim ≡ Some (length v.log) → may_need_room c v ≡ false) → IsAimedBy aim v → IsAimedBy aim (put_with_book f c v)
put_aimed None f c v r unwanted a = record {}
put_aimed (Some n) f c v r unwanted a = put_at n f c v r a (λ e. unwanted (ap (λ (k : ℕ). Some k) e))

-- a commit for room

has_room : (v : Volume) → HasNoRoom (with_room_point v) → ⊥
has_room v none = true≢false (sym (none (point_now false v) (inl refl)))

room_alone : (n : ℕ) (v : Volume) → n ≡ length v.log → IsAimed n v → (p : Point) → Opens (with_room_point v).points p → p.sure ≡ false → p.count ≡ n
room_alone n v here a p (inl e) room = ap (λ (q : Point). q.count) e ∙ sym here
room_alone n v here a p (inr h) room = a.alone p h room

-- where one is wanted
pub room_aimed : (aim : Option ℕ) (v : Volume) → ((n : ℕ) → aim ≡ Some n → n ≡ length v.log) → IsAimedBy aim v → IsAimedBy aim (with_room_point v)
room_aimed None v wanted a = record {}
room_aimed (Some n) v wanted a = record { alone = room_alone n v (wanted n refl) a; load = λ none. absurd (has_room v none); light = λ none. absurd (has_room v none) }

-- and the change that it was made for
pub room_put_aimed : (aim : Option ℕ) (f : Book → Book) (c : Change) (v : Volume) → ((n : ℕ) → aim ≡ Some n → n ≡ length v.log) → IsAimedBy aim v → IsAimedBy aim (put_with_book f c (with_room_point v))
room_put_aimed None f c v wanted a = record {}
room_put_aimed (Some n) f c v wanted a = record { alone = room_alone n v (wanted n refl) a; load = λ none. absurd (has_room v none); light = λ none. absurd (has_room v none) }

-- a sure point

one_sure : (p : Point) → p.sure ≡ true → sure_count (p ∷ []) ≡ p.count
one_sure p e = rw e refl

pub settled_aimed : (aim : Option ℕ) (v : Volume) → IsSettled v → IsAimedBy aim v
settled_aimed None v s = record {}
settled_aimed (Some n) v s = record {
  alone = λ p h room. absurd (true≢false (sym (is_sure p h) ∙ room));
  load = λ none.
      ap (λ (xs : List (Usn × Change)). load_from (items_of xs) (blocks_used (items_of xs)) (drop (sure_count v.points) v.log)) (take_all (sure_count v.points) v.log all)
      ∙ ap (load_from (items_of v.log) (blocks_used (items_of v.log))) (drop_all (sure_count v.points) v.log all)
      ∙ (let e : blocks_used v.items_then ≡ blocks_used (items_of v.log) = ap blocks_used s.items_then in let z : v.put_since ≡ 0 = s.none_since in omega (arith, e, z));
  light = λ none lt. not_true (is_heavy v.clusters (sure_count v.points) v.log n)
      (λ heavy. let le : sure_count v.points ≤ n = (heavy_says v.clusters (sure_count v.points) n (take n v.log) (drop n v.log) heavy).there in absurd (omega (arith, le, lt, all)));
}
  where
    all : length v.log ≤ sure_count v.points
    all = let le : length v.log ≤ s.point.count = s.all in let e : sure_count v.points ≡ s.point.count = ap sure_count s.points ∙ one_sure s.point s.sure in omega (arith, le, e)

    is_sure : (p : Point) → Opens v.points p → p.sure ≡ true
    is_sure p h = elim (subst (λ (ps : List Point). Opens ps p) s.points h) [ inl e ↦ ap (λ (q : Point). q.sure) e ∙ s.sure | inr none ↦ absurd none ]

same : (n : ℕ) → n ≤ n
same n = omega arith

-- a commit at a flush or an upload
pub sure_aimed : (aim : Option ℕ) (v : Volume) → v.items ≡ items_of v.log → IsAimedBy aim (with_sure_point v)
sure_aimed aim v items = settled_aimed aim (with_sure_point v) (record { point = point_now true v; points = refl; sure = refl; all = same (length v.log); items_then = items; none_since = refl })

few : (n : ℕ) (log : List (Usn × Change)) → length (take n log) ≤ n
few zero log = omega arith
few (suc n) [] = omega arith
few (suc n) (c ∷ cs) = let h = few n cs in omega (arith, h)

-- a restart
pub opened_aimed : (aim : Option ℕ) (p : Point) (epoch : ℕ) (v : Volume) → IsAimedBy aim (opened_at p epoch v)
opened_aimed aim p epoch v = settled_aimed aim (opened_at p epoch v) (record { point = record { sure = true; count = p.count; book = p.book }; points = refl; sure = refl; all = few p.count v.log; items_then = refl; none_since = refl })

-- a volume that was just made
pub new_aimed : (aim : Option ℕ) (clusters : ℕ) → IsAimedBy aim (new_volume clusters)
new_aimed aim clusters = settled_aimed aim (new_volume clusters) (record { point = record { sure = true; count = 0; book = no_book }; points = refl; sure = refl; all = omega arith; items_then = refl; none_since = refl })

-- what a restart opens

-- Where a run may resume n changes, which are those of its last sure point or so many that the log is heavy there, the newest point of a volume
-- that is aimed at n has n.
pub newest_aimed : (n : ℕ) (v : Volume) (p : Point) (earlier : List Point) → v.points ≡ p ∷ earlier → HasPoints v → IsAimed n v
    → (n ≡ sure_count v.points) ⊎ (is_heavy v.clusters (sure_count v.points) v.log n ≡ true) → p.count ≡ n
newest_aimed n v p earlier points has a may = by earlier points (subst (ArePoints (length v.log)) points has)
  where
    by : (ps : List Point) → v.points ≡ p ∷ ps → ArePoints (length v.log) (p ∷ ps) → p.count ≡ n
    by (q ∷ qs) e h = a.alone p (subst (λ (xs : List Point). Opens xs p) (sym e) (inl refl)) h.0
    by [] e h = elim may [
      | inl here ↦ sym (here ∙ ap sure_count e ∙ one_sure p h.0)
      | inr heavy ↦ absurd (true≢false (sym heavy ∙ a.light none (heavy_below v.clusters (sure_count v.points) v.log n heavy)))
    ]
      where
        none : HasNoRoom v
        none q opens = elim (subst (λ (xs : List Point). Opens xs q) e opens) [ inl at ↦ ap (λ (x : Point). x.sure) at ∙ h.0 | inr past ↦ absurd past ]
