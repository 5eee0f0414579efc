-- The steps of the volume and of the filter that are not made of others.
use Rattle.std.proofs.Common.{arith, length, ◌≡◌, ◌<◌, ◌⊎◌, Bool, true, false, List, [], ◌∷◌, ◌++◌, map, refl, sym, ◌∙◌, ap, subst, inl, inr, append-nil, append_assoc, ℕ}
use Rattle.std.specs.Prelude.{if◌then◌else◌}
use Rattle.cf_base.specs.declared.answers.Shown.TheVariants as shown
use Rattle.cf_base.specs.declared.changes.Change.{Change}
use Rattle.cf_base.specs.declared.ids.ItemId.{ItemId}
use Rattle.cf_base.specs.declared.ids.Usn.{Usn}
use Rattle.cf_base.specs.declared.ids.WaitId.{WaitId}
use Rattle.cf_base.specs.declared.notices.Notice.{Notice}
use Rattle.cf_base.specs.declared.notices.Notice.TheVariants as notice
use Rattle.cf_base.specs.declared.waits.Cause.{Cause}
use Rattle.cf_base.specs.declared.waits.End.{End}
use Rattle.cf_model.specs.Arrows.{Arrow, each, noted, reading, ret, then_do}
use Rattle.cf_model.specs.Blocks.{is_full}
use Rattle.cf_model.specs.Books.{Book}
use Rattle.cf_model.specs.Changes.{apply, change_with, may_need_room, next_number, put_after_room, put_with_book, tell_change}
use Rattle.cf_model.specs.Effects.{effect}
use Rattle.cf_model.specs.Items.{Item, root}
use Rattle.cf_model.specs.Missing.{Wait}
use Rattle.cf_model.specs.Points.{Opens, commit, point_now, with_sure_point, with_room_point}
use Rattle.cf_model.specs.Requests.{Deed, Told, Waiting}
use Rattle.cf_model.specs.Settling.{accessed, accessed_by, ask_line, cancel_line, end_of, end_wait, is_access, is_own, settle, tell, tell_end, told_at, with_asks_told, with_ended, with_waiting}
use Rattle.cf_model.specs.State.{Filter, Point, State, Volume, in_filter, in_volume, with_filter, with_notes, with_volume}
use Rattle.cf_model.specs.Trees.{Ends}
use Rattle.cf_model.specs.Waits.{Need, all_down, background_line, begin_now, begin_with, begun, beside, own_id, with_own}
use Rattle.cf_model_room.specs.Rooms.{is_heavy, sure_count}
use Rattle.cf_model_room.proofs.Heavy.{fits_more, heavy_below, heavy_longer, needs_heavy}
use Rattle.cf_model_room.proofs.Loads.{IsWeighed, items_more, pointed, put_weighed, renewed}
use Rattle.cf_check_ways.specs.Ways.{BecomesSure, HadRoom, IsLaden, SamePoints, core_of, sures, Alike, Grown, IsFront, IsPlain, IsSure, IsSureFrom, Parted, SameEnd, fixed_filter, fixed_state, of_filter, of_state, of_volume, without_points}
use Rattle.cf_check_ways.proofs.Sure.{ends_of_mapped, ends_split, front_here, same_points, stops_of_mapped, plain_noting, plain_quiet, reads_fixed, sure_each, sure_noted, sure_one, sure_reading, sure_ret, sure_seq_from, sure_then}

-- a change, with or without a commit for room before it

-- what a change ends with, but for the points
abbrev IsPut : (Book → Book) → Change → Volume → Usn → Volume → Type 0
IsPut f c v n w = (n ≡ next_number v) × (without_points w ≡ without_points (put_with_book f c (without_points v)))

put_ends : (f : Book → Book) (c : Change) (v w : Volume) (n : Usn) (room : Bool) → Ends (put_after_room f c room v) n w → IsPut f c v n w
put_ends f c v w n false (e, d) = (e, ap without_points d)
put_ends f c v w n true (inl (e, d)) = (e, ap without_points d)
put_ends f c v w n true (inr (e, d)) = (e, ap without_points d)

-- it makes the log longer by one, and a commit for room where that may be needed

weighed_so : (v : Volume) → IsLaden (core_of v) → IsWeighed v.clusters (sure_count v.points) v
weighed_so v l = record { holds = refl; items = l.items; there = l.there; load = l.load }

put_becomes : (f : Book → Book) (c : Change) (v : Volume) → BecomesSure (core_of v) (core_of (put_with_book f c v))
put_becomes f c v = record {
  holds = refl;
  longer = ((next_number v, c) ∷ [], refl);
  laden = λ l.
      let w = put_weighed v.clusters (sure_count v.points) f c v (weighed_so v l) in record {
        items = w.items;
        there = w.there;
        load = w.load;
        heavy = λ p is room. heavy_longer v.clusters (sure_count v.points) v.log ((next_number v, c) ∷ []) p.count (l.heavy p is room);
      };
  later = λ l. omega arith;
}

room_becomes : (f : Book → Book) (c : Change) (v : Volume) → may_need_room c v ≡ true → BecomesSure (core_of v) (core_of (put_with_book f c (with_room_point v)))
room_becomes f c v needs = record {
  holds = refl;
  longer = ((next_number v, c) ∷ [], refl);
  laden = λ l.
      let w = put_weighed v.clusters (sure_count v.points) f c (with_room_point v) (pointed v.clusters (sure_count v.points) v _ (weighed_so v l)) in record {
        items = w.items;
        there = w.there;
        load = w.load;
        heavy = λ p is room. by l p is room;
      };
  later = λ l. omega arith;
}
  where
    by : IsLaden (core_of v) → (p : Point) → Opens (point_now false v ∷ v.points) p → p.sure ≡ false → is_heavy v.clusters (sure_count v.points) (v.log ++ (next_number v, c) ∷ []) p.count ≡ true
    by l p (inl e) room =
        subst (λ (x : Point). is_heavy v.clusters (sure_count v.points) (v.log ++ (next_number v, c) ∷ []) x.count ≡ true) (sym e)
        (needs_heavy v.clusters (sure_count v.points) v (weighed_so v l) c (next_number v) needs)
    by l p (inr is) room = heavy_longer v.clusters (sure_count v.points) v.log ((next_number v, c) ∷ []) p.count (l.heavy p is room)

-- the change alone, or after a commit for room
abbrev Applied : (Book → Book) → Change → Volume → Volume → Type 0
Applied f c v w = (w ≡ put_with_book f c v) ⊎ ((may_need_room c v ≡ true) × (w ≡ put_with_book f c (with_room_point v)))

applied : (f : Book → Book) (c : Change) (v : Volume) (n : Usn) (w : Volume) (room : Bool) → may_need_room c v ≡ room → Ends (put_after_room f c room v) n w → Applied f c v w
applied f c v n w false is (e, d) = inl d
applied f c v n w true is (inl (e, d)) = inl d
applied f c v n w true is (inr (e, d)) = inr (is, d)

applied_becomes : (f : Book → Book) (c : Change) (v w : Volume) → Applied f c v w → BecomesSure (core_of v) (core_of w)
applied_becomes f c v w (inl d) = subst (λ (x : Volume). BecomesSure (core_of v) (core_of x)) (sym d) (put_becomes f c v)
applied_becomes f c v w (inr (needs, d)) = subst (λ (x : Volume). BecomesSure (core_of v) (core_of x)) (sym d) (room_becomes f c v needs)

applied_sures : (f : Book → Book) (c : Change) (v w : Volume) → Applied f c v w → sures (core_of w) ≡ sures (core_of v)
applied_sures f c v w (inl d) = ap (λ (x : Volume). sures (core_of x)) d
applied_sures f c v w (inr (needs, d)) = ap (λ (x : Volume). sures (core_of x)) d

-- a point then is one from before, or that of the commit for room
applied_points : (f : Book → Book) (c : Change) (v w : Volume) → Applied f c v w → (p : Point) → Opens w.points p → Opens v.points p ⊎ (p ≡ point_now false v)
applied_points f c v w (inl d) p is = inl (subst (λ (x : Volume). Opens x.points p) d is)
applied_points f c v w (inr (needs, d)) p is = turned (subst (λ (x : Volume). Opens x.points p) d is)
  where
    turned : Opens (point_now false v ∷ v.points) p → Opens v.points p ⊎ (p ≡ point_now false v)
    turned (inl e) = inr e
    turned (inr h) = inl h

-- a point from before has fewer changes than the log
before_now : (v : Volume) (p q : Point) (n : ℕ) → IsLaden (core_of v) → Opens v.points p → p.sure ≡ false → q.count ≡ n → length v.log ≡ n → p.count ≡ q.count → ⊥
before_now v p q n l is room now long same =
    let lt : p.count < length v.log = heavy_below v.clusters (sure_count v.points) v.log p.count (l.heavy p is room) in
    omega (arith, lt, now, long, same)

applied_same : (f : Book → Book) (c : Change) (v o w u : Volume) → Alike of_volume v o → IsLaden (core_of v) → IsLaden (core_of o) → SamePoints (core_of v) (core_of o) → Applied f c v w → Applied f c o u → SamePoints (core_of w) (core_of u)
applied_same f c v o w u e laden laden_too same x y = record {
  sure = applied_sures f c v w x ∙ same.sure ∙ sym (applied_sures f c o u y);
  room = λ p q is is_too room room_too counts. by p q (applied_points f c v w x p is) (applied_points f c o u y q is_too) room room_too counts;
}
  where
    long : length v.log ≡ length o.log
    long = ap (λ (z : Volume). length z.log) e

    by : (p q : Point) → Opens v.points p ⊎ (p ≡ point_now false v) → Opens o.points q ⊎ (q ≡ point_now false o) → p.sure ≡ false → q.sure ≡ false → p.count ≡ q.count → p ≡ q
    by p q (inl is) (inl is_too) room room_too counts = same.room p q is is_too room room_too counts
    by p q (inr now) (inr now_too) room room_too counts = now ∙ ap (λ (z : Volume). point_now false z) e ∙ sym now_too
    by p q (inl is) (inr now) room room_too counts = absurd (before_now v p q (length o.log) laden is room (ap (λ (z : Point). z.count) now) long counts)
    by p q (inr now) (inl is) room room_too counts = absurd (before_now o q p (length v.log) laden_too is room_too (ap (λ (z : Point). z.count) now) (sym long) (sym counts))

-- a change that has room
abbrev pub HasRoom : Change → Volume → Type 0
HasRoom c v = is_full v.clusters v.items c ≡ false

applied_fits : (f : Book → Book) (c : Change) (v w : Volume) → HasRoom c v → Applied f c v w → HadRoom (core_of v) → HadRoom (core_of w)
applied_fits f c v w room how had = by how
  where
    more : HadRoom (core_of (put_with_book f c v))
    more = record {
      items = ap (λ (is : List Item). effect is c (next_number v)) had.items ∙ sym (items_more (root ∷ []) v.log (next_number v) c);
      fits = fits_more v.clusters v.log (next_number v) c had.fits (ap (λ (is : List Item). is_full v.clusters is c) (sym had.items) ∙ room);
    }

    by : Applied f c v w → HadRoom (core_of w)
    by (inl d) = subst (λ (x : Volume). HadRoom (core_of x)) (sym d) more
    by (inr (needs, d)) = subst (λ (x : Volume). HadRoom (core_of x)) (sym d) (record { items = more.items; fits = more.fits })

apply_sure : (f : Book → Book) (c : Change) → IsSureFrom of_volume (HasRoom c) (apply f c)
apply_sure f c = record {
  grows = λ v n w h. record { notes = ([], refl); counted = omega arith; opens = refl; good = λ g. g };
  one = λ v o e n m w u h k _ _.
      let x = put_ends f c v w n (may_need_room c v) h in
      let y = put_ends f c o u m (may_need_room c o) k in
      inl (x.0 ∙ ap next_number e ∙ sym y.0, x.1 ∙ ap (λ (z : Volume). without_points (put_with_book f c z)) e ∙ sym y.1);
  rooms = λ v n w h. applied_becomes f c v w (applied f c v n w (may_need_room c v) refl h);
  keeps = λ v o e laden laden_too same n m w u h k _ _. inl (applied_same f c v o w u e laden laden_too same (applied f c v n w (may_need_room c v) refl h) (applied f c o m u (may_need_room c o) refl k));
  halts = λ v t h. record { notes = ([], refl); counted = omega arith; opens = refl; good = λ g. g };
  stop = λ v o e t m u h k _ _. inl ([], refl);
  fits = λ v room n w h had. applied_fits f c v w room (applied f c v n w (may_need_room c v) refl h) had;
}

none_before : (before : List Notice) (n : Notice) (after : List Notice) → [] ≡ before ++ n ∷ after → ⊥
none_before [] n after e = let z : [] ≡ n ∷ after = e in absurd cc
none_before (b ∷ bs) n after e = let z : [] ≡ b ∷ (bs ++ n ∷ after) = e in absurd cc

not_parted : Parted [] [] → ⊥
not_parted (inl f) = none_before f.before _ f.after f.first_is
not_parted (inr f) = none_before f.before _ f.after f.first_is

-- a part of the volume in the filter
sure_in_volume_from : {A : Type 0} (May : Volume → Type 0) (f : Arrow Volume A) → IsSureFrom of_volume May f → IsSureFrom of_filter (λ s. May s.volume) (in_volume f)
sure_in_volume_from {A} May f sure = record {
  grows = λ s a t h. let x = ends_of_mapped (λ (w : Volume). with_volume w s) (f s.volume) a t h in subst (λ (y : Filter). Grown of_filter s y) (sym x.2) (record { notes = ([], sym (append-nil s.notes)); counted = omega arith; opens = refl; good = λ g. g });
  one = λ s o e a b t u h k _ _.
      let x = ends_of_mapped (λ (w : Volume). with_volume w s) (f s.volume) a t h in
      let y = ends_of_mapped (λ (w : Volume). with_volume w o) (f o.volume) b u k in
      inl (together s o e a b t u x.0 y.0 x.2 y.2 (sure.one s.volume o.volume (ap (λ (z : Filter). z.volume) e) a b x.0 y.0 x.1 y.1 refl refl));
  rooms = λ s a t h.
      let x = ends_of_mapped (λ (w : Volume). with_volume w s) (f s.volume) a t h in
      subst (λ (y : Filter). BecomesSure (core_of s.volume) (core_of y.volume)) (sym x.2) (sure.rooms s.volume a x.0 x.1);
  keeps = λ s o e laden laden_too same a b t u h k _ _.
      let x = ends_of_mapped (λ (w : Volume). with_volume w s) (f s.volume) a t h in
      let y = ends_of_mapped (λ (w : Volume). with_volume w o) (f o.volume) b u k in
      inl (kept t u x.0 y.0 (ap (λ (z : Filter). z.volume) x.2) (ap (λ (z : Filter). z.volume) y.2) (sure.keeps s.volume o.volume (ap (λ (z : Filter). z.volume) e) laden laden_too same a b x.0 y.0 x.1 y.1 refl refl));
  halts = λ s t h. halted s t (stops_of_mapped (λ (w : Volume). with_volume w s) (f s.volume) t h).0 (stops_of_mapped (λ (w : Volume). with_volume w s) (f s.volume) t h).2;
  stop = λ s o e t b u h k _ _.
      let x = stops_of_mapped (λ (w : Volume). with_volume w s) (f s.volume) t h in
      let y = ends_of_mapped (λ (w : Volume). with_volume w o) (f o.volume) b u k in
      inl (front_here of_filter t s o u (ap (λ (z : Filter). z.notes) x.2) e (halted o u y.0 y.2));
  fits = λ s may a t h had.
      let x = ends_of_mapped (λ (w : Volume). with_volume w s) (f s.volume) a t h in
      subst (λ (y : Filter). HadRoom (core_of y.volume)) (sym x.2) (sure.fits s.volume may a x.0 x.1 had);
}
  where
    kept : (t u : Filter) (w z : Volume) → t.volume ≡ w → u.volume ≡ z → SamePoints (core_of w) (core_of z) ⊎ Parted [] [] → SamePoints (core_of t.volume) (core_of u.volume)
    kept t u w z d g (inl same) = same_points (core_of w) (core_of z) (core_of t.volume) (core_of u.volume) (ap core_of d) (ap core_of g) same
    kept t u w z d g (inr apart) = absurd (not_parted apart)

    halted : (s t : Filter) (w : Volume) → t ≡ with_volume w s → Grown of_filter s t
    halted s t w is = subst (λ (y : Filter). Grown of_filter s y) (sym is) (record { notes = ([], sym (append-nil s.notes)); counted = omega arith; opens = refl; good = λ g. g })

    together : (s o : Filter) → Alike of_filter s o → (a b : A) (t u : Filter) (w z : Volume) → t ≡ with_volume w s → u ≡ with_volume z o → SameEnd of_volume a w b z ⊎ Parted [] [] → SameEnd of_filter a t b u
    together s o e a b t u w z d g (inl same) =
        (same.0, ap fixed_filter d ∙ ap (λ (x : Volume). record (fixed_filter s) { volume = x }) same.1 ∙ ap (λ (x : Filter). record x { volume = without_points z }) e ∙ ap fixed_filter (sym g))
    together s o e a b t u w z d g (inr apart) = absurd (not_parted apart)

pub sure_in_volume : {A : Type 0} (f : Arrow Volume A) → IsSure of_volume f → IsSure of_filter (in_volume f)
sure_in_volume f sure = sure_in_volume_from (λ v. Unit {0}) f sure

pub sure_in_filter_from : {A : Type 0} (May : Filter → Type 0) (f : Arrow Filter A) → IsSureFrom of_filter May f → IsSureFrom of_state (λ s. May s.filter) (in_filter f)
sure_in_filter_from {A} May f sure = record {
  grows = λ s a t h.
      let x = ends_of_mapped (λ (g : Filter). with_filter g s) (f s.filter) a t h in
      subst (λ (y : State). Grown of_state s y) (sym x.2) (record { notes = (sure.grows s.filter a x.0 x.1).notes; counted = omega arith; opens = refl; good = λ g. g });
  one = λ s o e a b t u h k _ _.
      let x = ends_of_mapped (λ (g : Filter). with_filter g s) (f s.filter) a t h in
      let y = ends_of_mapped (λ (g : Filter). with_filter g o) (f o.filter) b u k in
      together s o e a b t u x.0 y.0 x.2 y.2 (sure.one s.filter o.filter (ap (λ (z : State). z.filter) e) a b x.0 y.0 x.1 y.1 refl refl);
  rooms = λ s a t h.
      let x = ends_of_mapped (λ (g : Filter). with_filter g s) (f s.filter) a t h in
      subst (λ (y : State). BecomesSure (core_of s.filter.volume) (core_of y.filter.volume)) (sym x.2) (sure.rooms s.filter a x.0 x.1);
  keeps = λ s o e laden laden_too same a b t u h k _ _.
      let x = ends_of_mapped (λ (g : Filter). with_filter g s) (f s.filter) a t h in
      let y = ends_of_mapped (λ (g : Filter). with_filter g o) (f o.filter) b u k in
      kept t u x.0 y.0 (ap (λ (z : State). z.filter) x.2) (ap (λ (z : State). z.filter) y.2) (sure.keeps s.filter o.filter (ap (λ (z : State). z.filter) e) laden laden_too same a b x.0 y.0 x.1 y.1 refl refl);
  halts = λ s t h.
      let x = stops_of_mapped (λ (g : Filter). with_filter g s) (f s.filter) t h in
      subst (λ (y : State). Grown of_state s y) (sym x.2) (record { notes = (sure.halts s.filter x.0 x.1).notes; counted = omega arith; opens = refl; good = λ g. g });
  stop = λ s o e t b u h k _ _.
      let x = stops_of_mapped (λ (g : Filter). with_filter g s) (f s.filter) t h in
      let y = ends_of_mapped (λ (g : Filter). with_filter g o) (f o.filter) b u k in
      shown s o t u x.0 y.0 x.2 y.2 (sure.stop s.filter o.filter (ap (λ (z : State). z.filter) e) x.0 b y.0 x.1 y.1 refl refl);
  fits = λ s may a t h had.
      let x = ends_of_mapped (λ (g : Filter). with_filter g s) (f s.filter) a t h in
      subst (λ (y : State). HadRoom (core_of y.filter.volume)) (sym x.2) (sure.fits s.filter may a x.0 x.1 had);
}
  where
    kept : (t u : State) (w z : Filter) → t.filter ≡ w → u.filter ≡ z → SamePoints (core_of w.volume) (core_of z.volume) ⊎ Parted w.notes z.notes → SamePoints (core_of t.filter.volume) (core_of u.filter.volume) ⊎ Parted t.filter.notes u.filter.notes
    kept t u w z d g h =
        subst (λ (x : Filter). SamePoints (core_of x.volume) (core_of u.filter.volume) ⊎ Parted x.notes u.filter.notes) (sym d) (subst (λ (x : Filter). SamePoints (core_of w.volume) (core_of x.volume) ⊎ Parted w.notes x.notes) (sym g) h)

    shown : (s o t u : State) (w z : Filter) → t ≡ with_filter w s → u ≡ with_filter z o → IsFront w.notes z.notes ⊎ Parted w.notes z.notes → IsFront t.filter.notes u.filter.notes ⊎ Parted t.filter.notes u.filter.notes
    shown s o t u w z d g h =
        subst (λ (x : State). IsFront x.filter.notes u.filter.notes ⊎ Parted x.filter.notes u.filter.notes) (sym d) (subst (λ (x : State). IsFront w.notes x.filter.notes ⊎ Parted w.notes x.filter.notes) (sym g) h)

    together : (s o : State) → Alike of_state s o → (a b : A) (t u : State) (w z : Filter) → t ≡ with_filter w s → u ≡ with_filter z o
        → SameEnd of_filter a w b z ⊎ Parted w.notes z.notes → SameEnd of_state a t b u ⊎ Parted t.filter.notes u.filter.notes
    together s o e a b t u w z d g (inl same) =
        inl (same.0, ap fixed_state d ∙ ap (λ (x : Filter). record (fixed_state s) { filter = x }) same.1 ∙ ap (λ (x : State). record x { filter = fixed_filter z }) e ∙ ap fixed_state (sym g))
    together s o e a b t u w z d g (inr apart) =
        inr (subst (λ (x : State). Parted x.filter.notes u.filter.notes) (sym d) (subst (λ (x : State). Parted w.notes x.filter.notes) (sym g) apart))

pub sure_in_filter : {A : Type 0} (f : Arrow Filter A) → IsSure of_filter f → IsSure of_state (in_filter f)
sure_in_filter f sure = sure_in_filter_from (λ x. Unit {0}) f sure

pub change_sure_from : (f : Book → Book) (c : Change) → IsSureFrom of_filter (λ s. HasRoom c s.volume) (change_with f c)
change_sure_from f c =
    sure_seq_from of_filter (λ s. HasRoom c s.volume) (λ s. Unit {0}) (in_volume (apply f c)) (tell_change c) (λ s may n m ends. record {}) (sure_in_volume_from (HasRoom c) (apply f c) (apply_sure f c))
    (λ n. sure_noted of_filter (with_notes (notice.Change n c ∷ [])) (plain_noting of_filter (with_notes (notice.Change n c ∷ [])) (λ _. notice.Change n c ∷ []) (λ s. refl) (λ s. refl) (λ s. refl) (λ s. refl) (λ s. refl) (λ s. refl)))

-- what a change leaves of the volume, but for its points
pub change_leaves : (f : Book → Book) (c : Change) (s : Filter) (a : Unit {0}) (t : Filter) → Ends (change_with f c s) a t → without_points t.volume ≡ without_points (put_with_book f c s.volume)
change_leaves f c s a t h =
    let x = ends_split (in_volume (apply f c) s) (λ n. tell_change c n) a t h in
    let y = ends_of_mapped (λ (w : Volume). with_volume w s) (apply f c s.volume) x.0 x.1 x.2 in
    ap (λ (z : Filter). without_points z.volume) x.3.1 ∙ ap (λ (z : Filter). without_points z.volume) y.2 ∙ (put_ends f c s.volume y.0 x.0 (may_need_room c s.volume) y.1).1

-- a commit makes a point that is sure

never_room : (v : Volume) (p : Point) → Opens (point_now true v ∷ []) p → p.sure ≡ false → ⊥
never_room v p (inl e) room = let z : true ≡ false = sym (ap (λ (x : Point). x.sure) e) ∙ room in cc
never_room v p (inr h) room = h

committed : (v : Volume) → BecomesSure (core_of v) (core_of (with_sure_point v))
committed v = record {
  holds = refl;
  longer = ([], sym (append-nil v.log));
  laden = λ l.
      let w = renewed v.clusters (with_sure_point v) refl l.items refl refl in record {
        items = w.items;
        there = w.there;
        load = w.load;
        heavy = λ p is room. absurd (never_room v p is room);
      };
  later = λ l. l.there;
}

committed_same : (v o : Volume) → Alike of_volume v o → SamePoints (core_of (with_sure_point v)) (core_of (with_sure_point o))
committed_same v o e = record {
  sure = ap (λ (x : Volume). sures (core_of (with_sure_point x))) e;
  room = λ p q is is_too room room_too counts. absurd (never_room v p is room);
}

quiet_volume : (v w : Volume) → Grown of_volume v w
quiet_volume v w = record { notes = ([], refl); counted = omega arith; opens = refl; good = λ g. g }

commit_in_volume : IsSure of_volume commit
commit_in_volume = record {
  grows = λ v a w h. quiet_volume v w;
  one = λ v o e a b w u h k _ _. inl (h.0 ∙ sym k.0, ap without_points h.1 ∙ ap (λ (x : Volume). without_points (with_sure_point x)) e ∙ ap without_points (sym k.1));
  rooms = λ v a w h. subst (λ (x : Volume). BecomesSure (core_of v) (core_of x)) (sym h.1) (committed v);
  keeps = λ v o e _ _ same a b w u h k _ _. inl (same_points (core_of (with_sure_point v)) (core_of (with_sure_point o)) (core_of w) (core_of u) (ap core_of h.1) (ap core_of k.1) (committed_same v o e));
  halts = λ v w h. quiet_volume v w;
  stop = λ v o e t b u h k _ _. inl ([], refl);
  fits = λ v may a w h had. subst (λ (x : Volume). HadRoom (core_of x)) (sym h.1) (record { items = had.items; fits = had.fits });
}

pub commit_sure : IsSure of_filter (in_volume commit)
commit_sure = sure_in_volume commit commit_in_volume

-- what the ask rule tells

with_waiting_plain : (w : Waiting) → IsPlain of_filter (with_waiting w)
with_waiting_plain w = plain_quiet of_filter (with_waiting w) (λ s. refl) (λ s. refl) (λ s. refl) (λ s. refl) (λ s. refl) (λ s. refl)

with_asks_told_plain : (t : Told) → IsPlain of_filter (with_asks_told t)
with_asks_told_plain t = plain_noting of_filter (with_asks_told t) (λ s. map cancel_line t.cancelled ++ map ask_line t.made) (λ s. refl) (λ s. append_assoc s.notes (map cancel_line t.cancelled) (map ask_line t.made)) (λ s. refl) (λ s. refl) (λ s. refl) (λ s. refl)

accessed_plain : (item : ItemId) → IsPlain of_filter (accessed item)
accessed_plain item = plain_quiet of_filter (accessed item) (λ s. refl) (λ s. refl) (λ s. refl) (λ s. refl) (λ s. refl) (λ s. refl)

plain_after : (f g : Filter → Filter) → IsPlain of_filter f → IsPlain of_filter g → IsPlain of_filter (λ s. g (f s))
plain_after f g first next = record {
  grows = λ s.
      let a = first.grows s in
      let b = next.grows (f s) in
      record { notes = (a.notes.0 ++ b.notes.0, b.notes.1 ∙ ap (λ (xs : List Notice). xs ++ b.notes.0) a.notes.1 ∙ append_assoc s.notes a.notes.0 b.notes.0); counted = omega arith; opens = refl; good = λ h. h };
  alike = λ s o e. next.alike (f s) (f o) (first.alike s o e);
  core = λ s. next.core (f s) ∙ first.core s;
}

pub accessed_if_plain : (b : Bool) (item : ItemId) → IsPlain of_filter (λ s. if b then accessed item s else s)
accessed_if_plain true item = accessed_plain item
accessed_if_plain false item = plain_quiet of_filter (λ s. s) (λ s. refl) (λ s. refl) (λ s. refl) (λ s. refl) (λ s. refl) (λ s. refl)

tell_end_plain : (id : WaitId) (e : End) (own : Bool) → IsPlain of_filter (tell_end id e own)
tell_end_plain id e true = plain_quiet of_filter (tell_end id e true) (λ s. refl) (λ s. refl) (λ s. refl) (λ s. refl) (λ s. refl) (λ s. refl)
tell_end_plain id e false = plain_noting of_filter (tell_end id e false) (λ s. notice.Done id e ∷ []) (λ s. refl) (λ s. refl) (λ s. refl) (λ s. refl) (λ s. refl) (λ s. refl)

with_ended_plain : (e : Wait × Cause) → IsPlain of_filter (with_ended e)
with_ended_plain e = record {
  grows = λ s. (plain_after (tell_end e.0.id (end_of s.volume.items e.0 e.1) (is_own e.0.id s)) (accessed_by e.0 e.1) (tell_end_plain e.0.id (end_of s.volume.items e.0 e.1) (is_own e.0.id s)) (accessed_if_plain (is_access e.0.kind e.1) e.0.item)).grows s;
  core = λ s. (plain_after (tell_end e.0.id (end_of s.volume.items e.0 e.1) (is_own e.0.id s)) (accessed_by e.0 e.1) (tell_end_plain e.0.id (end_of s.volume.items e.0 e.1) (is_own e.0.id s)) (accessed_if_plain (is_access e.0.kind e.1) e.0.item)).core s;
  alike = λ s o d.
      let how : end_of s.volume.items e.0 e.1 ≡ end_of o.volume.items e.0 e.1 = ap (λ (z : Filter). end_of z.volume.items e.0 e.1) d in
      let owns : is_own e.0.id s ≡ is_own e.0.id o = ap (is_own e.0.id) d in
      let told : Alike of_filter (tell_end e.0.id (end_of s.volume.items e.0 e.1) (is_own e.0.id s) s) (tell_end e.0.id (end_of s.volume.items e.0 e.1) (is_own e.0.id s) o)
      = (tell_end_plain e.0.id (end_of s.volume.items e.0 e.1) (is_own e.0.id s)).alike s o d in
      (accessed_if_plain (is_access e.0.kind e.1) e.0.item).alike (tell_end e.0.id (end_of s.volume.items e.0 e.1) (is_own e.0.id s) s) (tell_end e.0.id (end_of o.volume.items e.0 e.1) (is_own e.0.id o) o)
      (told ∙ ap (λ (x : End). fixed_filter (tell_end e.0.id x (is_own e.0.id s) o)) how ∙ ap (λ (b : Bool). fixed_filter (tell_end e.0.id (end_of o.volume.items e.0 e.1) b o)) owns);
}

pub tell_sure : (r : Told × Waiting) → IsSure of_filter (tell r)
tell_sure r =
    sure_then of_filter (noted (with_waiting r.1)) (then_do (each end_wait r.0.ended) (noted (with_asks_told r.0)))
    (sure_noted of_filter (with_waiting r.1) (with_waiting_plain r.1))
    (sure_then of_filter (each end_wait r.0.ended) (noted (with_asks_told r.0))
    (sure_each of_filter end_wait r.0.ended (λ e. sure_one of_filter (with_ended e) (with_ended_plain e)))
    (sure_noted of_filter (with_asks_told r.0) (with_asks_told_plain r.0)))

pub settle_sure : (item : ItemId) (d : Deed) → IsSure of_filter (settle item d)
settle_sure item d = sure_reading of_filter (told_at item d) tell (reads_fixed of_filter (told_at item d) (λ s. refl)) tell_sure

pub downs_sure : IsSure of_filter (reading all_down tell)
downs_sure = sure_reading of_filter all_down tell (reads_fixed of_filter all_down (λ s. refl)) tell_sure

with_own_plain : (n : Need) → IsPlain of_filter (with_own n)
with_own_plain n = plain_noting of_filter (with_own n) (λ s. map background_line (beside n s)) (λ s. refl) (λ s. refl) (λ s. refl) (λ s. refl) (λ s. refl) (λ s. refl)

begin_now_sure : (n : Need) (r : Told × Waiting) → IsSure of_filter (begin_now n r)
begin_now_sure n r =
    sure_reading of_filter (own_id n) (begin_with n r) (reads_fixed of_filter (own_id n) (λ s. refl))
    (λ id. sure_then of_filter (noted (with_own n)) (then_do (tell r) (ret (shown.Pending id))) (sure_noted of_filter (with_own n) (with_own_plain n))
    (sure_then of_filter (tell r) (ret (shown.Pending id)) (tell_sure r) (sure_ret of_filter (shown.Pending id))))

pub begins_sure : (n : Need) → IsSure of_filter (reading (begun n) (begin_now n))
begins_sure n = sure_reading of_filter (begun n) (begin_now n) (reads_fixed of_filter (begun n) (λ s. refl)) (begin_now_sure n)
