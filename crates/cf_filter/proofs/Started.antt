-- Filters that begin.
use Rattle.std.proofs.Common.{◌≡◌, ℕ, Bool, true, false, cond, List, [], ◌∷◌, length, Some, None, refl, sym, ap, subst, arith, eqb}
use Rattle.std.proofs.lemmas.Option.{none-some, same_Some}
use Rattle.cf_volume_room.proofs.Aimed.{settled_aimed}
use Rattle.cf_volume_room.specs.Aims.{IsSettled}
use Rattle.cf_base.specs.declared.changes.Change.{Change}
use Rattle.cf_base.specs.declared.ids.ItemId.{ItemId}
use Rattle.cf_base.specs.declared.ids.Usn.{Usn}
use Rattle.cf_base.specs.declared.policies.Policy.{Policy}
use Rattle.cf_disk.specs.Disk.{State}
use Rattle.cf_engine_queue.proofs.StaysKeepable.{none_kept}
use Rattle.cf_filter_machine.proofs.PointSteps.{sure_points}
use Rattle.cf_filter_machine.specs.Held.{Held}
use Rattle.cf_filter_machine.specs.Keeping.{HasKeptPoints, IsKeptVolume}
use Rattle.cf_filter_machine.specs.Sensing.{Stands}
use Rattle.cf_filter.specs.Starting.{desk_at}
use Rattle.cf_model.specs.Books.{Book, no_book}
use Rattle.cf_model.specs.Items.{Item, item_of, root}
use Rattle.cf_model.specs.State.{Volume, new_filter, new_volume}
use Rattle.cf_volume_points.proofs.Points.{Fair}
use Rattle.cf_volume_points.specs.At.{At}
use Rattle.cf_volume_points.specs.Holding.{FitsTable}
use Rattle.cf_volume_points.specs.Known.{Known}
use Rattle.cf_volume_points.specs.Standing.{opened}
use Rattle.cf_tree.specs.Trees as trees

-- a volume that was just made

only_root : (id : ItemId) (i : Item) → item_of (root ∷ []) id ≡ Some i → root ≡ i
only_root id i h = by (eqb 1 id.0) h
  where
    by : (t : Bool) → cond t (Some root) None ≡ Some i → root ≡ i
    by true e = same_Some root i e
    by false e = absurd (none-some i e)

not_true : (A : Type 0) → false ≡ true → A
not_true A e = let bad : ⊥ = cc in absurd bad

new_kept : (clusters : ℕ) → FitsTable (new_volume clusters).items (new_volume clusters).book → IsKeptVolume (new_volume clusters)
new_kept clusters fits = record {
  good = record {
    tree = record {
      order = (omega arith, record {});
      root = (refl, refl, refl);
      places = λ id i h. subst (λ (x : Item). trees.Stands (root ∷ []) x) (only_root id i h) (record { depth = 0; few = omega arith; under = refl; alone = refl });
    };
    opened = λ id i p h k. subst (λ (x : Item). x.populated ≡ true) (only_root i.parent p k) refl;
    sound = (
      record {
        as_long = refl;
        valid = λ p h. not_true _ h;
        past_base = λ p h lt. absurd (omega (arith, lt));
        numbers = record {};
        directory = λ h. (refl, refl, refl);
        file = λ h. not_true _ (sym h);
        in_sync = λ h. refl;
        plain = λ h. (refl, refl, refl, refl);
        kept = λ h. not_true _ h;
      },
      record {},
    );
    small = (record { size = omega arith; base = omega arith; identity = omega arith; name = λ h. not_true _ (sym h) }, record {});
    later = (refl, record {});
    below = (omega arith, record {});
    pins = (record {}, record {});
    few = fits.few;
    short = fits.short;
  };
  items = (record { written = λ p lt h. absurd (omega (arith, lt)); identity = omega arith; top = λ h. refl; unlisted = λ h k. not_true _ (sym k) }, record {});
  given = (refl, record {});
  book = record { anchors = λ id. refl; accesses = λ id i h k. refl; fits = none_kept; graves = record {}; anchors_rise = record {}; accesses_rise = record {} };
}

-- a volume that is opened

with_clusters : (clusters : ℕ) (v : Volume) → IsKeptVolume v → IsKeptVolume (record v { clusters = clusters })
with_clusters clusters v h = record {
  good = record { tree = h.good.tree; opened = h.good.opened; sound = h.good.sound; small = h.good.small; later = h.good.later; below = h.good.below; pins = h.good.pins; few = h.good.few; short = h.good.short };
  items = h.items;
  given = h.given;
  book = record { anchors = h.book.anchors; accesses = h.book.accesses; fits = h.book.fits; graves = h.book.graves; anchors_rise = h.book.anchors_rise; accesses_rise = h.book.accesses_rise };
}

module _ {D : Type 0} (state : D → State) (x : Held D) (d : D) (k : Known) (policy : Policy) (fair : Fair (state d)) (whole : k.broken ≡ false)
    (is : x ≡ record { disk = d; known = k; desk = desk_at k.epoch policy }) where
  starts : (v : Volume) → At (state d) k v → IsKeptVolume v → HasKeptPoints v → IsSettled v → Stands state x (new_filter v policy)
  starts v at kept points settled = subst (λ (y : Held D). Stands state y (new_filter v policy)) (sym is) (record {
    fair = fair;
    volume = at;
    desk = ap (λ (e : ℕ). desk_at e policy) at.now.epoch;
    whole = whole;
    good = record { volume = kept.good; files = record {}; numbered = record {}; reads = record {} };
    kept = kept;
    points = points;
    aimed = settled_aimed (state d).settings.aim v settled;
  })

  pub starts_opened : (epoch : ℕ) (log : List (Usn × Change)) (b : Book) (clusters : ℕ) → At (state d) k (opened epoch log b clusters) → IsKeptVolume (opened epoch log b 0) → Stands state x (new_filter (opened epoch log b clusters) policy)
  starts_opened epoch log b clusters at kept =
      let now = with_clusters clusters (opened epoch log b 0) kept in
      starts (opened epoch log b clusters) at now (sure_points (opened epoch log b clusters) at.now.of_log now)
      (record { point = record { sure = true; count = length log; book = b }; points = refl; sure = refl; all = omega arith; items_then = refl; none_since = refl })

  pub starts_new : (clusters : ℕ) → At (state d) k (new_volume clusters) → Stands state x (new_filter (new_volume clusters) policy)
  starts_new clusters at =
      let kept = new_kept clusters at.now.fits in starts (new_volume clusters) at kept (sure_points (new_volume clusters) at.now.of_log kept)
      (record { point = record { sure = true; count = 0; book = no_book }; points = refl; sure = refl; all = omega arith; items_then = refl; none_since = refl })
