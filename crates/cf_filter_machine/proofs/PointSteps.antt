-- Points of a volume, and commits.
use Rattle.std.proofs.Common.{◌≡◌, ◌≤◌, ◌+◌, inl, inr, ⊎_elim, ℕ, Bool, true, false, List, [], ◌∷◌, length, take, refl, sym, ap, subst, arith, append-nil}
use Rattle.std.proofs.lemmas.Bool.Decides.{nat_tests}
use Rattle.std.proofs.lemmas.List.{take_all}
use Rattle.cf_base.specs.declared.changes.Change.{Change}
use Rattle.cf_base.specs.declared.ids.ItemId.{ItemId}
use Rattle.cf_base.specs.declared.ids.Usn.{Usn}
use Rattle.cf_filter_machine.specs.Keeping.{HasKeptPoints, IsKeptPoint, IsKeptVolume}
use Rattle.cf_filter_machine.specs.Lasting.{Grows, IsBetween, IsOfPoint}
use Rattle.cf_filter_machine.specs.Lasts.{grows_not}
use Rattle.cf_model.specs.Books.{Tombstone}
use Rattle.cf_model.specs.Given.{IsOfLog}
use Rattle.cf_model.specs.Items.{Item}
use Rattle.cf_model.specs.Logs.{next_of}
use Rattle.cf_model.specs.Numbers.{above, usn_after}
use Rattle.cf_model.specs.Points.{Opens, point_now, with_point_begun, with_sure_point}
use Rattle.cf_model.specs.Soundness.{AllLater}
use Rattle.cf_model.specs.State.{Point, Volume}
use Rattle.cf_volume_points.specs.At.{StandsEither, StandsLast, StandsNow, StandsPoint}
use Rattle.cf_volume_points.specs.Standing.{Standing, opened}
use Rattle.cf_filter_steps.specs.Good.{Every}

-- numbers of a later epoch

above_epoch : (e p : ℕ) (n : Usn) → above (usn_after e p) n ≡ true → above (usn_after (e + 1) 0) n ≡ true
above_epoch e p n h = grind (arith, nat_tests)

not_above : (e p : ℕ) (n : Usn) → above (usn_after e p) n ≡ true → above n (usn_after (e + 1) 0) ≡ false
not_above e p n h = grind (arith, nat_tests)

all_later : (e p : ℕ) (items : List Item) → Every (λ i. above (usn_after e p) i.number ≡ true) items → AllLater (usn_after (e + 1) 0) items
all_later e p [] h = record {}
all_later e p (i ∷ is) h = (not_above e p i.number h.0, all_later e p is h.1)

all_given : (e p : ℕ) (items : List Item) → Every (λ i. above (usn_after e p) i.number ≡ true) items → Every (λ i. above (usn_after (e + 1) 0) i.number ≡ true) items
all_given e p [] h = record {}
all_given e p (i ∷ is) h = (above_epoch e p i.number h.0, all_given e p is h.1)

graves_then : (e p : ℕ) (ts : List Tombstone) → Every (λ t. above (usn_after e p) t.number ≡ true) ts → Every (λ t. above (usn_after (e + 1) 0) t.number ≡ true) ts
graves_then e p [] h = record {}
graves_then e p (t ∷ ts) h = (above_epoch e p t.number h.0, graves_then e p ts h.1)

-- the point of now

reopened : (v : Volume) → IsKeptVolume v → IsKeptVolume (record v { epoch = v.epoch + 1; place = 0 })
reopened v h = record {
  good = record {
    tree = h.good.tree;
    opened = h.good.opened;
    sound = h.good.sound;
    small = h.good.small;
    later = all_later v.epoch v.place v.items h.given;
    below = h.good.below;
    few = h.good.few;
    short = h.good.short;
    pins = h.good.pins;
  };
  items = h.items;
  given = all_given v.epoch v.place v.items h.given;
  book = record { anchors = λ id. above_epoch v.epoch v.place _ (h.book.anchors id); accesses = h.book.accesses; fits = h.book.fits; graves = graves_then v.epoch v.place v.book.tombstones h.book.graves; anchors_rise = h.book.anchors_rise; accesses_rise = h.book.accesses_rise };
}

-- what it says hangs on the parts of the volume alone
pub same_parts : (v w : Volume) → w.items ≡ v.items → w.next_item ≡ v.next_item → w.epoch ≡ v.epoch → w.place ≡ v.place → w.book ≡ v.book → IsKeptVolume v → IsKeptVolume w
same_parts v w items next epoch place book h = whole (sym items) (sym next) (sym epoch) (sym place) (sym book)
  where
    base : IsKeptVolume (record w { items = v.items; next_item = v.next_item; epoch = v.epoch; place = v.place; book = v.book })
    base = record {
      good = record {
        tree = h.good.tree;
        opened = h.good.opened;
        sound = h.good.sound;
        small = h.good.small;
        later = h.good.later;
        below = h.good.below;
        few = h.good.few;
        short = h.good.short;
        pins = h.good.pins;
      };
      items = h.items;
      given = h.given;
      book = record { anchors = h.book.anchors; accesses = h.book.accesses; fits = h.book.fits; graves = h.book.graves; anchors_rise = h.book.anchors_rise; accesses_rise = h.book.accesses_rise };
    }

    whole : v.items ≡ w.items → v.next_item ≡ w.next_item → v.epoch ≡ w.epoch → v.place ≡ w.place → v.book ≡ w.book → IsKeptVolume w
    whole i n e p b =
        let q : record w { items = v.items; next_item = v.next_item; epoch = v.epoch; place = v.place; book = v.book } ≡ w = λ j. record w { items = i j; next_item = n j; epoch = e j; place = p j; book = b j } in
        subst IsKeptVolume q base

next_id : (v : Volume) → IsOfLog v → ◌≡◌ {A = ItemId} (record { 0 = next_of v.log }) v.next_item
next_id v of_log = ap (λ (n : ℕ). record { 0 = n }) (sym of_log.1)

pub now_kept : (sure : Bool) (v : Volume) → IsOfLog v → IsKeptVolume v → IsKeptPoint v.epoch v.log (point_now sure v)
now_kept sure v of_log h = record {
  early = omega arith;
  volume = subst (λ (l : List (Usn × Change)). IsKeptVolume (opened (v.epoch + 1) l v.book 0)) (sym (take_all (length v.log) v.log (omega arith)))
      (same_parts (record v { epoch = v.epoch + 1; place = 0 }) (opened (v.epoch + 1) v.log v.book 0) (sym of_log.0) (next_id v of_log) refl refl refl (reopened v h));
}

-- points that are added

is_now : (sure : Bool) (v : Volume) (p : Point) → p ≡ point_now sure v → length v.log ≤ p.count
is_now sure v p e = subst (λ (q : Point). length v.log ≤ q.count) (sym e) (omega arith)

pub grows_begun : (v : Volume) → Grows v (with_point_begun v)
grows_begun v = record { epoch = refl; clusters = refl; more = []; log = sym (append-nil v.log); points = λ p h. ⊎_elim (λ now. inr (is_now false v p now)) (λ was. inl was) h }

pub grows_sure : (v : Volume) → Grows v (with_sure_point v)
grows_sure v = record { epoch = refl; clusters = refl; more = []; log = sym (append-nil v.log); points = λ p h. ⊎_elim (λ now. inr (is_now true v p now)) (λ never. absurd never) h }

-- what the images of a commit stand for

last_of : (v w : Volume) → w.epoch ≡ v.epoch → w.log ≡ v.log → ((p : Point) → Opens v.points p → Opens w.points p) → HasKeptPoints w → (c : List ℕ) → StandsLast v c → IsOfPoint w c
last_of v w epoch log points kept c h = by v.points refl h
  where
    by : (ps : List Point) → v.points ≡ ps → StandsPoint v.epoch v.log ps c → IsOfPoint w c
    by [] e s = absurd s
    by (p ∷ ps) e s =
        let opens : Opens w.points p = points p (subst (λ (l : List Point). Opens l p) (sym e) (inl refl)) in record {
          point = p;
          opens = opens;
          stands = subst (λ (l : List (Usn × Change)). Standing w.epoch c (take p.count l) p.book) (sym log) (subst (λ (n : ℕ). Standing n c (take p.count v.log) p.book) (sym epoch) s);
          kept = kept p opens;
        }

pub last_point : (v : Volume) → HasKeptPoints v → (c : List ℕ) → StandsLast v c → IsOfPoint v c
last_point v kept c h = last_of v v refl refl (λ p o. o) kept c h

now_stands : (sure : Bool) (v : Volume) (c : List ℕ) → StandsNow v c → Standing v.epoch c (take (point_now sure v).count v.log) (point_now sure v).book
now_stands sure v c h = subst (λ (l : List (Usn × Change)). Standing v.epoch c l v.book) (sym (take_all (length v.log) v.log (omega arith))) h

pub begun_points : (v : Volume) → IsOfLog v → IsKeptVolume v → HasKeptPoints v → HasKeptPoints (with_point_begun v)
begun_points v of_log kept points = λ p h. ⊎_elim (λ now. subst (λ (q : Point). IsKeptPoint v.epoch v.log q) (sym now) (now_kept false v of_log kept)) (λ was. points p was) h

pub sure_points : (v : Volume) → IsOfLog v → IsKeptVolume v → HasKeptPoints (with_sure_point v)
sure_points v of_log kept = λ p h. ⊎_elim (λ now. subst (λ (q : Point). IsKeptPoint v.epoch v.log q) (sym now) (now_kept true v of_log kept)) (λ never. absurd never) h

pub either_begun : (v : Volume) → IsOfLog v → IsKeptVolume v → HasKeptPoints v → (c : List ℕ) → StandsEither v c → IsOfPoint (with_point_begun v) c
either_begun v of_log kept points c (inl last) = last_of v (with_point_begun v) refl refl (λ p o. inr o) (begun_points v of_log kept points) c last
either_begun v of_log kept points c (inr now) = record { point = point_now false v; opens = inl refl; stands = now_stands false v c now; kept = now_kept false v of_log kept }

pub either_between : (v : Volume) → IsOfLog v → IsKeptVolume v → HasKeptPoints v → (c : List ℕ) → StandsEither v c → IsBetween v (with_sure_point v) c
either_between v of_log kept points c (inl last) = record { mid = v; after = grows_not v; before = grows_sure v; stands = last_point v points c last }
either_between v of_log kept points c (inr now) = record {
  mid = with_sure_point v;
  after = grows_sure v;
  before = grows_not (with_sure_point v);
  stands = record { point = point_now true v; opens = inl refl; stands = now_stands true v c now; kept = now_kept true v of_log kept };
}

pub sure_kept : (v : Volume) → IsKeptVolume v → IsKeptVolume (with_sure_point v)
sure_kept v h = same_parts v (with_sure_point v) refl refl refl refl refl h
