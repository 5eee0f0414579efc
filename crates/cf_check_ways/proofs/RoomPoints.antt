-- The points that restarts open: those of one count are one point, and what is known of points is known after an opening.
use Rattle.std.proofs.Common.{◌≡◌, ◌≤◌, ◌<◌, ◌+◌, ◌⊎◌, ℕ, Bool, true, false, List, [], ◌∷◌, length, nat_lt, take, filter, refl, sym, ◌∙◌, ap, subst, inl, inr, arith, length-take-le}
use Rattle.cf_base.specs.declared.answers.OpenedBook.{OpenedBook}
use Rattle.cf_base.specs.declared.answers.Shown.{Shown}
use Rattle.cf_base.specs.declared.answers.Shown.TheVariants as shown
use Rattle.cf_base.specs.declared.codes.Code.{Code}
use Rattle.cf_base.specs.declared.codes.Code.TheVariants as code
use Rattle.cf_model.specs.Blocks.{blocks_used}
use Rattle.cf_model.specs.Books.{opened_of}
use Rattle.cf_model.specs.Numbers.{most}
use Rattle.cf_model.specs.Points.{ArePoints, HasPoints, Opens}
use Rattle.cf_model.specs.Restarts.{epoch_after, more_epochs, open_points, open_skipping, opened_at, points_at, restart, restart_by, resumed, with_opened}
use Rattle.cf_model.specs.State.{Broken, Off, On, Point, Power, State, Volume}
use Rattle.cf_model.specs.Trees.{Ends}
use Rattle.cf_model_room.specs.Rooms.{is_heavy, load_since, sure_count}
use Rattle.cf_model_room.proofs.Heavy.{fits_front, heavy_below}
use Rattle.cf_model_room.proofs.Loads.{renewed}
use Rattle.cf_check_ways.specs.Ways.{Alike, BothResumed, FirstFits, HadRoom, IsLaden, IsOpenedAt, SameEnd, SamePoints, core_of, of_state, sures}
use Rattle.cf_check_ways.proofs.Sure.{had_same, same_points}
use Rattle.cf_check_ways.proofs.RestartsSure.{BothRefused, restart_both, ends_one_of, ends_one_point, opened_in, opens_reversed, same_opened}

-- one of the points alone is sure

not_both : (b : Bool) → b ≡ false → b ≡ true → ⊥
not_both b f t = let z : false ≡ true = sym f ∙ t in cc

sure_kept : (q : Point) (qs : List Point) → q.sure ≡ true → (filter (λ x. x.sure) (q ∷ qs) ≡ q ∷ filter (λ x. x.sure) qs) × (sure_count (q ∷ qs) ≡ q.count)
sure_kept q qs e = (rw e refl, rw e refl)

room_dropped : (q : Point) (qs : List Point) → q.sure ≡ false → (filter (λ x. x.sure) (q ∷ qs) ≡ filter (λ x. x.sure) qs) × (sure_count (q ∷ qs) ≡ sure_count qs)
room_dropped q qs e = (rw e refl, rw e refl)

sure_alone : (n : ℕ) (ps : List Point) (p : Point) → ArePoints n ps → Opens ps p → p.sure ≡ true → (filter (λ x. x.sure) ps ≡ p ∷ []) × (sure_count ps ≡ p.count)
sure_alone n [] p has is sure = absurd is
sure_alone n (q ∷ []) p has (inr is) sure = absurd is
sure_alone n (q ∷ []) p has (inl e) sure = let x = sure_kept q [] has.0 in (x.0 ∙ ap (λ (z : Point). z ∷ []) (sym e), x.1 ∙ ap (λ (z : Point). z.count) (sym e))
sure_alone n (q ∷ r ∷ ps) p has (inl e) sure = absurd (not_both q.sure has.0 (ap (λ (x : Point). x.sure) (sym e) ∙ sure))
sure_alone n (q ∷ r ∷ ps) p has (inr is) sure = let d = room_dropped q (r ∷ ps) has.0 in let x = sure_alone q.count (r ∷ ps) p has.2 is sure in (d.0 ∙ x.0, d.1 ∙ x.1)

one_head : (p q : Point) → p ∷ [] ≡ q ∷ [] → p ≡ q
one_head p q e = cc

-- a point has no more changes than the log
pub count_within : (v : Volume) (p : Point) → HasPoints v → IsLaden (core_of v) → Opens v.points p → p.count ≤ length v.log
count_within v p has laden is = by p.sure refl
  where
    by : (b : Bool) → p.sure ≡ b → p.count ≤ length v.log
    by true e = let same : sure_count v.points ≡ p.count = (sure_alone (length v.log) v.points p has is e).1 in let le : sure_count v.points ≤ length v.log = laden.there in omega (arith, same, le)
    by false e = let lt : p.count < length v.log = heavy_below v.clusters (sure_count v.points) v.log p.count (laden.heavy p is e) in omega (arith, lt)

-- the last sure point is the last of the sure ones

count_of_sures : (ps : List Point) → sure_count ps ≡ sure_count (filter (λ p. p.sure) ps)
count_of_sures [] = refl
count_of_sures (p ∷ ps) = by p.sure refl (count_of_sures ps)
  where
    by : (b : Bool) → p.sure ≡ b → sure_count ps ≡ sure_count (filter (λ x. x.sure) ps) → sure_count (p ∷ ps) ≡ sure_count (filter (λ x. x.sure) (p ∷ ps))
    by true e same = rw e refl
    by false e same = rw e same

pub counts_of_sures : (ps qs : List Point) → filter (λ p. p.sure) ps ≡ filter (λ p. p.sure) qs → sure_count ps ≡ sure_count qs
counts_of_sures ps qs e = count_of_sures ps ∙ ap sure_count e ∙ sym (count_of_sures qs)

-- no point of a commit for room has as many changes as the sure one
room_later : (v w : Volume) (p q : Point) → HasPoints v → HasPoints w → sures (core_of v) ≡ sures (core_of w) → IsLaden (core_of w) → FirstFits (core_of w) → Opens v.points p → Opens w.points q → p.sure ≡ true → q.sure ≡ false → p.count ≡ q.count → ⊥
room_later v w p q has has_too same laden fits is is_too sure room counts =
    let x = sure_alone (length v.log) v.points p has is sure in
    let count : sure_count v.points ≡ p.count = x.1 in
    let counts_are : sure_count v.points ≡ sure_count w.points = counts_of_sures v.points w.points same in
    let heavy : is_heavy w.clusters (sure_count w.points) w.log q.count ≡ true = laden.heavy q is_too room in
    not_both (is_heavy w.clusters (sure_count w.points) w.log q.count) (ap (is_heavy w.clusters (sure_count w.points) w.log) (sym counts ∙ sym count ∙ counts_are) ∙ fits) heavy

-- points of one count are one point, where the first change behind the sure ones had room
pub one_point_of_count : (v w : Volume) → HasPoints v → HasPoints w → IsLaden (core_of v) → IsLaden (core_of w) → SamePoints (core_of v) (core_of w) → FirstFits (core_of v) → FirstFits (core_of w)
    → (p q : Point) → Opens v.points p → Opens w.points q → p.count ≡ q.count → p ≡ q
one_point_of_count v w has has_too laden laden_too same fits fits_too p q is is_too counts = by p.sure q.sure refl refl
  where
    by : (b c : Bool) → p.sure ≡ b → q.sure ≡ c → p ≡ q
    by true true d e = one_head p q (sym (sure_alone (length v.log) v.points p has is d).0 ∙ same.sure ∙ (sure_alone (length w.log) w.points q has_too is_too e).0)
    by false false d e = same.room p q is is_too d e counts
    by true false d e = absurd (room_later v w p q has has_too same.sure laden_too fits_too is is_too d e counts)
    by false true d e = absurd (room_later w v q p has_too has (sym same.sure) laden fits is_too is e d (sym counts))

-- after an opening

never_room : (p q : Point) → Opens (p ∷ []) q → p.sure ≡ true → q.sure ≡ false → ⊥
never_room p q (inl e) sure room = not_both q.sure room (ap (λ (x : Point). x.sure) e ∙ sure)
never_room p q (inr h) sure room = h

pub laden_opened : (p : Point) (epoch : ℕ) (v : Volume) → p.count ≤ length v.log → IsLaden (core_of (opened_at p epoch v))
laden_opened p epoch v le =
    let w = renewed v.clusters (opened_at p epoch v) refl refl refl refl in
    let few : length (take p.count v.log) ≡ p.count = length-take-le p.count v.log le in record {
      items = refl;
      there = omega (arith, few);
      load = subst (λ (n : ℕ). blocks_used (opened_at p epoch v).items + 0 ≤ load_since n (take p.count v.log)) few w.load;
      heavy = λ q is room. absurd (never_room (record { sure = true; count = p.count; book = p.book }) q is refl room);
    }

same_after : (p q : Point) (epoch other : ℕ) (v w : Volume) → p ≡ q → SamePoints (core_of (opened_at p epoch v)) (core_of (opened_at q other w))
same_after p q epoch other v w e = record {
  sure = ap (λ (x : Point). record { sure = true; count = x.count; book = x.book } ∷ []) e;
  room = λ a b is is_too room room_too counts. absurd (never_room (record { sure = true; count = p.count; book = p.book }) a is refl room);
}

-- what a restart leaves of the points: all, or the one that it opened

points_core : (ps : List Point) (s : State) (a : Shown) (t : State) → Ends (open_points ps s) a t → (core_of t.filter.volume ≡ core_of s.filter.volume) ⊎ ((p : Point) × (epoch : ℕ) × Opens ps p × (t ≡ with_opened p epoch s))
points_core [] s a t h = inl (ap (λ (z : State). core_of z.filter.volume) h.1)
points_core (p ∷ ps) s a t h =
    let x = ends_one_point p ps s a t h in
    let y = ends_one_of (open_skipping x.0) 0 (more_epochs s) s a t x.2 in
    elim (opened_in x.0 (epoch_after y.0 s) s a t (nat_lt most (epoch_after y.0 s)) y.1) as (λ _. (core_of t.filter.volume ≡ core_of s.filter.volume) ⊎ ((q : Point) × (epoch : ℕ) × Opens (p ∷ ps) q × (t ≡ with_opened q epoch s))) [
      | inl z ↦ inl (ap (λ (w : State). core_of w.filter.volume) z.2)
      | inr z ↦ inr (x.0, epoch_after y.0 s, x.1, z.2)
    ]

pub restart_laden : (s : State) (a : Shown) (t : State) → HasPoints s.filter.volume → IsLaden (core_of s.filter.volume) → Ends (restart s) a t → IsLaden (core_of t.filter.volume)
restart_laden s a t has laden h = by s.power h
  where
    as_before : core_of t.filter.volume ≡ core_of s.filter.volume → IsLaden (core_of t.filter.volume)
    as_before e = subst IsLaden (sym e) laden

    by : (w : Power) → Ends (restart_by w s) a t → IsLaden (core_of t.filter.volume)
    by Off h = elim (points_core (points_at s) s a t h) as (λ _. IsLaden (core_of t.filter.volume)) [
      | inl e ↦ as_before e
      | inr x ↦ subst (λ (z : State). IsLaden (core_of z.filter.volume)) (sym x.3) (laden_opened x.0 x.1 s.filter.volume (count_within s.filter.volume x.0 has laden (opens_reversed x.0 s.filter.volume.points x.2)))
    ]
    by On h = as_before (ap (λ (z : State). core_of z.filter.volume) h.1)
    by Broken h = as_before (ap (λ (z : State). core_of z.filter.volume) h.1)

-- what a restart keeps had room
pub restart_fits : (s : State) (a : Shown) (t : State) → HadRoom (core_of s.filter.volume) → Ends (restart s) a t → HadRoom (core_of t.filter.volume)
restart_fits s a t had h = by s.power h
  where
    as_before : core_of t.filter.volume ≡ core_of s.filter.volume → HadRoom (core_of t.filter.volume)
    as_before e = had_same (core_of s.filter.volume) (core_of t.filter.volume) e had

    opened : (p : Point) (epoch : ℕ) → HadRoom (core_of (opened_at p epoch s.filter.volume))
    opened p epoch = record { items = refl; fits = fits_front s.filter.volume.clusters p.count s.filter.volume.log had.fits }

    by : (w : Power) → Ends (restart_by w s) a t → HadRoom (core_of t.filter.volume)
    by Off h = elim (points_core (points_at s) s a t h) as (λ _. HadRoom (core_of t.filter.volume)) [
      | inl e ↦ as_before e
      | inr x ↦ subst (λ (z : State). HadRoom (core_of z.filter.volume)) (sym x.3) (opened x.0 x.1)
    ]
    by On h = as_before (ap (λ (z : State). core_of z.filter.volume) h.1)
    by Broken h = as_before (ap (λ (z : State). core_of z.filter.volume) h.1)

-- Two restarts from alike states, with the same points, that opened points of one count: they opened one point.
pub opened_the_same : (s o : State) (a b : Shown) (t u : State) → Alike of_state s o → HasPoints s.filter.volume → HasPoints o.filter.volume → IsLaden (core_of s.filter.volume) → IsLaden (core_of o.filter.volume)
    → SamePoints (core_of s.filter.volume) (core_of o.filter.volume) → FirstFits (core_of s.filter.volume) → (r : BothResumed s o a b t u) → r.point.count ≡ r.other.count
    → (r.point ≡ r.other) × SameEnd of_state a t b u × SamePoints (core_of t.filter.volume) (core_of u.filter.volume)
opened_the_same s o a b t u e has has_too laden laden_too same fits r counts =
    let fits_too : FirstFits (core_of o.filter.volume)
    = ap (λ (x : State). is_heavy x.filter.volume.clusters (sure_count o.filter.volume.points) x.filter.volume.log (sure_count o.filter.volume.points)) (sym e)
    ∙ ap (λ (n : ℕ). is_heavy s.filter.volume.clusters n s.filter.volume.log n) (sym (counts_of_sures s.filter.volume.points o.filter.volume.points same.sure)) ∙ fits in
    let one : r.point ≡ r.other = one_point_of_count s.filter.volume o.filter.volume has has_too laden laden_too same fits fits_too r.point r.other r.opens r.opens_too counts in (
      one,
      same_opened s o a b t u e r counts (ap (λ (x : Point). x.book) one),
      subst (λ (x : State). SamePoints (core_of x.filter.volume) (core_of u.filter.volume)) (sym r.left)
          (subst (λ (x : State). SamePoints (core_of (with_opened r.point (epoch_after 0 s) s).filter.volume) (core_of x.filter.volume)) (sym r.left_too)
          (same_after r.point r.other (epoch_after 0 s) (epoch_after 0 o) s.filter.volume o.filter.volume one)),
    )

-- the same of what restarts end with, where those that resumed have one count
pub restarts_share : (s o : State) → Alike of_state s o → s.failed_opens ≡ 0 → HasPoints s.filter.volume → HasPoints o.filter.volume → IsLaden (core_of s.filter.volume) → IsLaden (core_of o.filter.volume)
    → SamePoints (core_of s.filter.volume) (core_of o.filter.volume) → FirstFits (core_of s.filter.volume) → (a b : Shown) (t u : State) → Ends (restart s) a t → Ends (restart o) b u
    → ((r : BothResumed s o a b t u) → r.point.count ≡ r.other.count) → SameEnd of_state a t b u × SamePoints (core_of t.filter.volume) (core_of u.filter.volume)
restarts_share s o e none has has_too laden laden_too same fits a b t u h k counts = by (restart_both s o e none has has_too a b t u h k)
  where
    by : BothRefused s o a b t u ⊎ BothResumed s o a b t u → SameEnd of_state a t b u × SamePoints (core_of t.filter.volume) (core_of u.filter.volume)
    by (inl x) = (x.0, same_points (core_of s.filter.volume) (core_of o.filter.volume) (core_of t.filter.volume) (core_of u.filter.volume) x.1 x.2 same)
    by (inr r) = let x = opened_the_same s o a b t u e has has_too laden laden_too same fits r (counts r) in (x.1, x.2)

-- what a restart that resumed may have opened: the last sure point, or one where the log is heavy
pub resumed_where : (s : State) (a : Shown) (t : State) (n : ℕ) (k : OpenedBook) → HasPoints s.filter.volume → IsLaden (core_of s.filter.volume) → Ends (restart s) a t → a ≡ shown.Resumed n k → IsOpenedAt s n
resumed_where s a t n k has laden h is = by s.power h
  where
    at : (p : Point) → Opens s.filter.volume.points p → p.count ≡ n → (b : Bool) → p.sure ≡ b → IsOpenedAt s n
    at p in_points counts true sure = inl (sym counts ∙ sym (sure_alone (length s.filter.volume.log) s.filter.volume.points p has in_points sure).1)
    at p in_points counts false room = inr (subst (λ (m : ℕ). is_heavy s.filter.volume.clusters (sure_count s.filter.volume.points) s.filter.volume.log m ≡ true) counts (laden.heavy p in_points room))

    none_told : (c : Code) → a ≡ shown.Refused c → IsOpenedAt s n
    none_told c told = let z : shown.Refused c ≡ shown.Resumed n k = sym told ∙ is in absurd cc

    counted : (p : Point) → a ≡ resumed p → p.count ≡ n
    counted p told = let z : shown.Resumed p.count (opened_of p.book) ≡ shown.Resumed n k = sym told ∙ is in cc

    opened : (ps : List Point) → ((p : Point) → Opens ps p → Opens s.filter.volume.points p) → Ends (open_points ps s) a t → IsOpenedAt s n
    opened [] in_points h = none_told code.NotAVolume h.0
    opened (p ∷ ps) in_points h =
        let x = ends_one_point p ps s a t h in
        let y = ends_one_of (open_skipping x.0) 0 (more_epochs s) s a t x.2 in
        elim (opened_in x.0 (epoch_after y.0 s) s a t (nat_lt most (epoch_after y.0 s)) y.1) as (λ _. IsOpenedAt s n) [ inl z ↦ none_told code.Exhausted z.1 | inr z ↦ at x.0 (in_points x.0 x.1) (counted x.0 z.1) x.0.sure refl ]

    by : (w : Power) → Ends (restart_by w s) a t → IsOpenedAt s n
    by Off h = opened (points_at s) (λ p i. opens_reversed p s.filter.volume.points i) h
    by On h = none_told code.Running h.0
    by Broken h = none_told code.Running h.0
