-- What holds of a volume holds of it in a later epoch.
use Rattle.std.proofs.Common.{◌≡◌, ℕ, zero, suc, ◌+◌, true, false, List, [], ◌∷◌, subst, arith}
use Rattle.std.proofs.lemmas.Bool.Decides.{nat_tests}
use Rattle.cf_base.specs.declared.changes.Change.{Change}
use Rattle.cf_base.specs.declared.ids.Usn.{Usn}
use Rattle.cf_filter_machine.specs.Keeping.{IsKeptVolume}
use Rattle.cf_model.specs.Books.{Book, Tombstone}
use Rattle.cf_model.specs.Items.{Item}
use Rattle.cf_model.specs.Numbers.{above, usn_after}
use Rattle.cf_model.specs.Soundness.{AllLater}
use Rattle.cf_model.specs.State.{Volume}
use Rattle.cf_volume_points.specs.Standing.{opened}
use Rattle.cf_filter_steps.specs.Good.{Every}

-- numbers of a later epoch

above_epoch : (e p : ℕ) (n : Usn) → above (usn_after e p) n ≡ true → above (usn_after (e + 1) 0) n ≡ true
above_epoch e p n h = grind (arith, nat_tests)

not_above : (e p : ℕ) (n : Usn) → above (usn_after e p) n ≡ true → above n (usn_after (e + 1) 0) ≡ false
not_above e p n h = grind (arith, nat_tests)

all_later : (e p : ℕ) (items : List Item) → Every (λ i. above (usn_after e p) i.number ≡ true) items → AllLater (usn_after (e + 1) 0) items
all_later e p [] h = record {}
all_later e p (i ∷ is) h = (not_above e p i.number h.0, all_later e p is h.1)

all_given : (e p : ℕ) (items : List Item) → Every (λ i. above (usn_after e p) i.number ≡ true) items → Every (λ i. above (usn_after (e + 1) 0) i.number ≡ true) items
all_given e p [] h = record {}
all_given e p (i ∷ is) h = (above_epoch e p i.number h.0, all_given e p is h.1)

graves_then : (e p : ℕ) (ts : List Tombstone) → Every (λ t. above (usn_after e p) t.number ≡ true) ts → Every (λ t. above (usn_after (e + 1) 0) t.number ≡ true) ts
graves_then e p [] h = record {}
graves_then e p (t ∷ ts) h = (above_epoch e p t.number h.0, graves_then e p ts h.1)

-- the volume

one_later : (v : Volume) → IsKeptVolume v → IsKeptVolume (record v { epoch = v.epoch + 1; place = 0 })
one_later v h = record {
  good = record {
    tree = h.good.tree;
    opened = h.good.opened;
    sound = h.good.sound;
    small = h.good.small;
    later = all_later v.epoch v.place v.items h.given;
    below = h.good.below;
    few = h.good.few;
    short = h.good.short;
    pins = h.good.pins;
  };
  items = h.items;
  given = all_given v.epoch v.place v.items h.given;
  book = record {
    anchors = λ id. above_epoch v.epoch v.place _ (h.book.anchors id);
    accesses = h.book.accesses;
    fits = h.book.fits;
    graves = graves_then v.epoch v.place v.book.tombstones h.book.graves;
    anchors_rise = h.book.anchors_rise;
    accesses_rise = h.book.accesses_rise;
  };
}

-- a volume that begins in a later epoch

pub kept_later : (k e : ℕ) (log : List (Usn × Change)) (b : Book) → IsKeptVolume (opened e log b 0) → IsKeptVolume (opened (e + k) log b 0)
kept_later zero e log b h = subst (λ (n : ℕ). IsKeptVolume (opened n log b 0)) (let z : e ≡ e + 0 = omega arith in z) h
kept_later (suc k) e log b h =
    let next : IsKeptVolume (opened (e + 1) log b 0) = one_later (opened e log b 0) h in
    subst (λ (n : ℕ). IsKeptVolume (opened n log b 0)) (let z : e + 1 + k ≡ e + suc k = omega arith in z) (kept_later k (e + 1) log b next)
