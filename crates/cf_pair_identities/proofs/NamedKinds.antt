-- Kinds of new items, and lists of changes that are made on a condition.
use Rattle.std.proofs.Common.{◌≡◌, Bool, true, false, List, refl, sym}
use Rattle.std.specs.Prelude.{cond, not}
use Rattle.cf_base.specs.declared.changes.Change.{Change}
use Rattle.cf_base.specs.declared.items.Kind.TheVariants as kind
use Rattle.cf_base.specs.declared.policies.Policy.{Policy}
use Rattle.cf_model.specs.Effects.{is_directory, is_populated}
use Rattle.cf_model.specs.Plans.{is_full_population, placeholder_dir}
use Rattle.cf_model.specs.Words.{when}
use Rattle.cf_model_laws.specs.Invariant.{All}
use Rattle.cf_model_laws.proofs.RightItems.{no_way}
use Rattle.cf_pair_identities.specs.Named.{Gives, StandsAs}

pub not_so : (b : Bool) → not b ≡ true → b ≡ false
not_so false e = refl
not_so true e = no_way e

pub when_give : (full b : Bool) (cs : List Change) → All (Gives full) cs → All (Gives full) (when b cs)
when_give full true cs g = g
when_give full false cs g = tt

-- a directory of an engine is one, and populated but under FULL population

pub dir_is : (p : Policy) → is_directory (placeholder_dir p) ≡ true
dir_is p = by (is_full_population p.population) where
  by : (b : Bool) → is_directory (cond b kind.UnpopulatedDir kind.PlaceholderDir) ≡ true
  by true = refl
  by false = refl

pub dir_filled : (full : Bool) (p : Policy) → StandsAs full p.population → full ≡ false → is_directory (placeholder_dir p) ≡ true → is_populated (placeholder_dir p) ≡ true
dir_filled full p stands none d = by (is_full_population p.population) (stands none) where
  by : (b : Bool) → b ≡ false → is_populated (cond b kind.UnpopulatedDir kind.PlaceholderDir) ≡ true
  by true e = no_way (sym e)
  by false e = refl
