-- A new volume can be kept.
use Rattle.std.proofs.Common.{◌≡◌, ℕ, Bool, true, false, cond, eqb, [], ◌∷◌, Some, None, refl, sym, subst, arith}
use Rattle.std.proofs.lemmas.Bool.{true≢false}
use Rattle.std.proofs.lemmas.Option.{none-some, same_Some}
use Rattle.cf_base.specs.declared.ids.ItemId.{ItemId}
use Rattle.cf_model.specs.Books.{no_book}
use Rattle.cf_model.specs.Items.{Item, item_of, root}
use Rattle.cf_model.specs.Rows as model
use Rattle.cf_model.specs.State.{new_volume}
use Rattle.cf_volume_points.specs.Sound.{IsKeepable}
use Rattle.cf_table.specs.Reading.{IsStored}
use Rattle.cf_tree.specs.Trees as tree

only_root : (id : ItemId) (i : Item) → item_of (root ∷ []) id ≡ Some i → i ≡ root
only_root id i e = by (eqb 1 id.0) e
  where
    by : (t : Bool) → cond t (Some root) None ≡ Some i → i ≡ root
    by true h = sym (same_Some root i h)
    by false h = absurd (none-some i h)

pub new_keepable : (n : ℕ) → IsKeepable (new_volume n)
new_keepable n = record {
  rows = λ id i e. subst (λ (x : Item). model.IsSoundRow (record { 0 = 2 }) (record { epoch = 1; place = 0 }) (model.row_of no_book [] x)) (sym (only_root id i e)) (record {
    id = omega arith;
    numbers = (refl, refl);
    root_name = λ same. refl;
    name = λ other. absurd (other refl);
    lengths = (omega arith, omega arith, omega arith);
    in_size = λ p is. absurd (true≢false (sym is));
    valid = λ p is. absurd (true≢false (sym is));
    modified = λ p is. absurd (true≢false (sym is));
    modified_since = λ p is. absurd (true≢false (sym is));
    past_base = λ p low high. absurd (omega (arith, high));
    directory = λ is. record {
      size = refl;
      base = refl;
      here = refl;
      valid = refl;
      modified = refl;
      modified_since = refl;
      clean = (refl, refl);
      keep = refl;
      last = refl;
      placeholder = λ is. absurd (true≢false is);
    };
    file = λ is. absurd (true≢false is);
    plain = λ is. (refl, refl, refl);
    in_sync = λ is. absurd (true≢false (sym is));
    clean = λ is. (refl, refl);
  });
  pins = λ id i e. subst (λ (x : Item). IsStored x.pin) (sym (only_root id i e)) tt;
  tree = record {
    order = (omega arith, tt);
    root = (refl, refl, refl);
    places = λ id i e. subst (λ (x : Item). tree.Stands (root ∷ []) x) (sym (only_root id i e)) (record { depth = 0; few = omega arith; under = refl; alone = refl });
  };
  populated = λ id i p e up. absurd (no_parent p (subst (λ (x : Item). item_of (root ∷ []) x.parent ≡ Some p) (only_root id i e) up));
}
  where
    no_parent : (p : Item) → item_of (root ∷ []) root.parent ≡ Some p → ⊥
    no_parent p e = none-some p e
