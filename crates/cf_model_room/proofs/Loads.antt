-- The load of a log, and what a volume keeps of it.
use Rattle.std.proofs.Common.{◌≡◌, ◌≤◌, ◌+◌, max, ℕ, zero, suc, drop, inl, inr, List, [], ◌∷◌, ◌++◌, length, length-append, length-take-le, take, refl, sym, ◌∙◌, ap, subst, arith}
use Rattle.std.proofs.lemmas.List.{drop-append-le, take-append-le}
use Rattle.cf_base.specs.declared.answers.Answer.{Answer}
use Rattle.cf_base.specs.declared.changes.Change.{Change}
use Rattle.cf_base.specs.declared.events.Event.{Event}
use Rattle.cf_base.specs.declared.ids.Usn.{Usn}
use Rattle.cf_base.specs.declared.policies.Mode.{Mode}
use Rattle.cf_model.specs.Blocks.{blocks_used, puts_into}
use Rattle.cf_model.specs.Books.{Book}
use Rattle.cf_model.specs.Changes.{next_number, put_with_book}
use Rattle.cf_model.specs.Effects.{effect}
use Rattle.cf_model.specs.Items.{Item, root}
use Rattle.cf_model.specs.Lawful.{Runs}
use Rattle.cf_model.specs.Logs.{after_changes, items_of}
use Rattle.cf_model.specs.Points.{Opens, with_sure_point}
use Rattle.cf_model.specs.Restarts.{opened_at}
use Rattle.cf_model.specs.State.{Point, State, Volume, start}
use Rattle.cf_model.specs.Store.{Held}
use Rattle.cf_model.proofs.VolumeLaws.{ClosedVolume, runs_keep_volume}
use Rattle.cf_model_room.specs.Rooms.{load_from, load_since, sure_count}

-- one change more

pub items_more : (items : List Item) (log : List (Usn × Change)) (n : Usn) (c : Change) → after_changes items (log ++ (n, c) ∷ []) ≡ effect (after_changes items log) c n
items_more items [] n c = refl
items_more items (d ∷ log) n c = items_more (effect items d.1 d.0) log n c

-- What the volume keeps of the last point and since it is at most the load of its log since the first n changes.
pub record IsWeighed (clusters n : ℕ) (v : Volume) : Type 0 where
  pub holds : v.clusters ≡ clusters
  pub items : v.items ≡ items_of v.log
  pub there : n ≤ length v.log
  pub load : blocks_used v.items_then + v.put_since ≤ load_since n v.log

-- the first changes and the rest of them make all
items_parts : (items : List Item) (n : ℕ) (log : List (Usn × Change)) → after_changes (after_changes items (take n log)) (drop n log) ≡ after_changes items log
items_parts items zero log = refl
items_parts items (suc n) [] = refl
items_parts items (suc n) (d ∷ log) = items_parts (effect items d.1 d.0) n log

-- the load

same : (n : ℕ) → n ≤ n
same n = omega arith

pub load_end : (items : List Item) (load : ℕ) (log : List (Usn × Change)) (n : Usn) (c : Change)
    → load_from items load (log ++ (n, c) ∷ []) ≡ max (load_from items load log + length (puts_into (after_changes items log) c)) (blocks_used (effect (after_changes items log) c n))
load_end items load [] n c = refl
load_end items load (d ∷ log) n c = load_end (effect items d.1 d.0) (max (load + length (puts_into items d.1)) (blocks_used (effect items d.1 d.0))) log n c

second_of_two : (a b : ℕ) → b ≤ max a b
second_of_two a b = omega arith

used_below : (items : List Item) (load : ℕ) (log : List (Usn × Change)) → blocks_used items ≤ load → blocks_used (after_changes items log) ≤ load_from items load log
used_below items load [] h = h
used_below items load (d ∷ log) h =
    used_below (effect items d.1 d.0) (max (load + length (puts_into items d.1)) (blocks_used (effect items d.1 d.0))) log
    (second_of_two (load + length (puts_into items d.1)) (blocks_used (effect items d.1 d.0)))

load_grows : (items : List Item) (load : ℕ) (log : List (Usn × Change)) → load ≤ load_from items load log
load_grows items load [] = omega arith
load_grows items load (d ∷ log) =
    let h : max (load + length (puts_into items d.1)) (blocks_used (effect items d.1 d.0)) ≤ load_from items load (d ∷ log)
    = load_grows (effect items d.1 d.0) (max (load + length (puts_into items d.1)) (blocks_used (effect items d.1 d.0))) log in
    omega (arith, h)

load_more : (items : List Item) (load : ℕ) (log more : List (Usn × Change)) → load_from items load log ≤ load_from items load (log ++ more)
load_more items load [] more = load_grows items load more
load_more items load (d ∷ log) more = load_more (effect items d.1 d.0) (max (load + length (puts_into items d.1)) (blocks_used (effect items d.1 d.0))) log more

now_below : (n : ℕ) (v : Volume) → v.items ≡ items_of v.log → blocks_used v.items ≤ load_since n v.log
now_below n v e =
    subst (λ (is : List Item). blocks_used is ≤ load_since n v.log) (items_parts (root ∷ []) n v.log ∙ sym e)
    (used_below (items_of (take n v.log)) (blocks_used (items_of (take n v.log))) (drop n v.log) (same (blocks_used (items_of (take n v.log)))))

one_longer : (xs : List (Usn × Change)) (d : Usn × Change) → length (xs ++ d ∷ []) ≡ length xs + 1
one_longer xs d = length-append xs (d ∷ [])

-- a longer log, since a change that was there

load_parts : (n : ℕ) (log more : List (Usn × Change)) → n ≤ length log → load_since n (log ++ more) ≡ load_from (items_of (take n log)) (blocks_used (items_of (take n log))) (drop n log ++ more)
load_parts n log more le =
    ap (λ (xs : List (Usn × Change)). load_from (items_of xs) (blocks_used (items_of xs)) (drop n (log ++ more))) (take-append-le n log more le)
    ∙ ap (load_from (items_of (take n log)) (blocks_used (items_of (take n log)))) (drop-append-le n log more le)

pub load_next : (n : ℕ) (log : List (Usn × Change)) (m : Usn) (c : Change) → n ≤ length log
    → load_since n (log ++ (m, c) ∷ []) ≡ max (load_since n log + length (puts_into (items_of log) c)) (blocks_used (effect (items_of log) c m))
load_next n log m c le =
    load_parts n log ((m, c) ∷ []) le ∙ load_end (items_of (take n log)) (blocks_used (items_of (take n log))) (drop n log) m c
    ∙ ap (λ (is : List Item). max (load_since n log + length (puts_into is c)) (blocks_used (effect is c m))) (items_parts (root ∷ []) n log)

pub load_longer : (n : ℕ) (log more : List (Usn × Change)) → n ≤ length log → load_since n log ≤ load_since n (log ++ more)
load_longer n log more le =
    let a : load_from (items_of (take n log)) (blocks_used (items_of (take n log))) (drop n log) ≤ load_from (items_of (take n log)) (blocks_used (items_of (take n log))) (drop n log ++ more)
    = load_more (items_of (take n log)) (blocks_used (items_of (take n log))) (drop n log) more in
    let e : load_since n (log ++ more) ≡ load_from (items_of (take n log)) (blocks_used (items_of (take n log))) (drop n log ++ more) = load_parts n log more le in
    omega (arith, a, e)

pub put_weighed : (clusters n : ℕ) (f : Book → Book) (c : Change) (v : Volume) → IsWeighed clusters n v → IsWeighed clusters n (put_with_book f c v)
put_weighed clusters n f c v w = record {
  holds = w.holds;
  items = ap (λ (is : List Item). effect is c (next_number v)) w.items ∙ sym (items_more (root ∷ []) v.log (next_number v) c);
  there = let le : n ≤ length v.log = w.there in let k : length (v.log ++ (next_number v, c) ∷ []) ≡ length v.log + 1 = one_longer v.log (next_number v, c) in omega (arith, le, k);
  load =
      let a : blocks_used v.items_then + v.put_since ≤ load_since n v.log = w.load in
      let b : load_since n (v.log ++ (next_number v, c) ∷ []) ≡ max (load_since n v.log + length (puts_into (items_of v.log) c)) (blocks_used (effect (items_of v.log) c (next_number v))) = load_next n v.log (next_number v) c w.there in
      let e : length (puts_into v.items c) ≡ length (puts_into (items_of v.log) c) = ap (λ (is : List Item). length (puts_into is c)) w.items in
      omega (arith, a, b, e);
}

pub pointed : (clusters n : ℕ) (v : Volume) (points : List Point) → IsWeighed clusters n v → IsWeighed clusters n (record v { points = points; items_then = v.items; put_since = 0 })
pointed clusters n v points w = record { holds = w.holds; items = w.items; there = w.there; load = let h : blocks_used v.items ≤ load_since n v.log = now_below n v w.items in omega (arith, h) }

-- since a point that was just made
pub renewed : (clusters : ℕ) (v : Volume) → v.clusters ≡ clusters → v.items ≡ items_of v.log → v.items_then ≡ v.items → v.put_since ≡ 0 → IsWeighed clusters (length v.log) v
renewed clusters v holds items same none = record {
  holds = holds;
  items = items;
  there = omega arith;
  load = let a : blocks_used v.items ≤ load_since (length v.log) v.log = now_below (length v.log) v items in let b : blocks_used v.items_then ≡ blocks_used v.items = ap blocks_used same in omega (arith, a, b, none);
}

-- none has more changes
abbrev AreWithin : ℕ → List Point → Type 0
AreWithin n [] = Unit {0}
AreWithin n (p ∷ ps) = (p.count ≤ n) × AreWithin n ps

-- so it is since the last sure point, which has no more changes than the log
abbrev IsWeighedNow : ℕ → Volume → Type 0
IsWeighedNow clusters v = IsWeighed clusters (sure_count v.points) v × AreWithin (length v.log) v.points

within_more : (n m : ℕ) (ps : List Point) → n ≤ m → AreWithin n ps → AreWithin m ps
within_more n m [] le h = h
within_more n m (p ∷ ps) le h = let k : p.count ≤ n = h.0 in (omega (arith, k, le), within_more n m ps le h.1)

within_opened : (n : ℕ) (ps : List Point) (p : Point) → Opens ps p → AreWithin n ps → p.count ≤ n
within_opened n [] p h w = absurd h
within_opened n (q ∷ ps) p (inl e) w = subst (λ (x : Point). x.count ≤ n) (sym e) w.0
within_opened n (q ∷ ps) p (inr h) w = within_opened n ps p h w.1

weighed_closed : (clusters : ℕ) → ClosedVolume (IsWeighedNow clusters)
weighed_closed clusters = record {
  put = λ f c v w. (put_weighed clusters (sure_count v.points) f c v w.0, within_more (length v.log) (length (v.log ++ (next_number v, c) ∷ [])) v.points (let k : length (v.log ++ (next_number v, c) ∷ []) ≡ length v.log + 1 = one_longer v.log (next_number v, c) in omega (arith, k)) w.1);
  begins = λ v w. (record { holds = w.0.holds; items = w.0.items; there = w.0.there; load = w.0.load }, (omega arith, w.1));
  sure = λ v w. (renewed clusters (with_sure_point v) w.0.holds w.0.items refl refl, (omega arith, record {}));
  room = λ v w. (pointed clusters (sure_count v.points) v _ w.0, (omega arith, w.1));
  book = λ b v w. (record { holds = w.0.holds; items = w.0.items; there = w.0.there; load = w.0.load }, w.1);
  opens = λ p epoch v is later w.
      let few : length (take p.count v.log) ≡ p.count = length-take-le p.count v.log (within_opened (length v.log) v.points p is w.1) in (
        subst (λ (k : ℕ). IsWeighed clusters k (opened_at p epoch v)) few (renewed clusters (opened_at p epoch v) w.0.holds refl refl refl),
        (omega (arith, few), record {}),
      );
}

-- in every state of a run
pub weighed : (m : Mode) (remote : Held) (clusters : ℕ) (trace : List (Event × Answer)) (t : State) → Runs m (start m remote clusters) trace t → IsWeighed clusters (sure_count t.filter.volume.points) t.filter.volume
weighed m remote clusters trace t runs =
    (runs_keep_volume (IsWeighedNow clusters) (weighed_closed clusters) m (start m remote clusters) trace t runs (record { holds = refl; items = refl; there = omega arith; load = omega arith }, (omega arith, record {}))).0

-- since a later change it is no more

load_least : (items : List Item) (a b : ℕ) (log : List (Usn × Change)) → a ≤ b → load_from items a log ≤ load_from items b log
load_least items a b [] le = le
load_least items a b (d ∷ log) le =
    load_least (effect items d.1 d.0) (max (a + length (puts_into items d.1)) (blocks_used (effect items d.1 d.0))) (max (b + length (puts_into items d.1)) (blocks_used (effect items d.1 d.0))) log
    (both_more a b (length (puts_into items d.1)) (blocks_used (effect items d.1 d.0)) le)
  where
    both_more : (a b p u : ℕ) → a ≤ b → max (a + p) u ≤ max (b + p) u
    both_more a b p u le = omega (arith, le)

load_front : (items : List Item) (load m : ℕ) (log : List (Usn × Change)) → blocks_used items ≤ load
    → load_from (after_changes items (take m log)) (blocks_used (after_changes items (take m log))) (drop m log) ≤ load_from items load log
load_front items load zero log le = load_least items (blocks_used items) load log le
load_front items load (suc m) [] le = le
load_front items load (suc m) (d ∷ log) le =
    load_front (effect items d.1 d.0) (max (load + length (puts_into items d.1)) (blocks_used (effect items d.1 d.0))) m log (second_of_two (load + length (puts_into items d.1)) (blocks_used (effect items d.1 d.0)))

later_from : (items : List Item) (n m : ℕ) (log : List (Usn × Change)) → n ≤ m
    → load_from (after_changes items (take m log)) (blocks_used (after_changes items (take m log))) (drop m log) ≤ load_from (after_changes items (take n log)) (blocks_used (after_changes items (take n log))) (drop n log)
later_from items zero m log le = load_front items (blocks_used items) m log (same (blocks_used items))
later_from items (suc n) zero log le = absurd (omega (arith, le))
later_from items (suc n) (suc m) [] le = omega arith
later_from items (suc n) (suc m) (d ∷ log) le = later_from (effect items d.1 d.0) n m log (omega (arith, le))

pub load_later : (n m : ℕ) (log : List (Usn × Change)) → n ≤ m → load_since m log ≤ load_since n log
load_later n m log le = later_from (root ∷ []) n m log le
