-- States that agree with the remote as far as the cursor goes.
use Rattle.std.specs.Prelude.{false, true, Some, [], ◌≤◌, ◌∷◌, ◌≡◌}
use Rattle.cf_model.specs.Identities.{has_target}
use Rattle.cf_model.specs.Items.{Item, item_of}
use Rattle.cf_model.specs.LookUp.{item_line}
use Rattle.cf_model.specs.Numbers.{root_id}
use Rattle.cf_model.specs.Skips.{in_use}
use Rattle.cf_model.specs.State.{State, book_now, items_now}
use Rattle.cf_model.specs.Store.{Stored}
use Rattle.cf_model_laws.specs.Invariant.{All, Among}
use Rattle.cf_model_convergence.specs.Matching.{IsBelow}
use Rattle.cf_model_convergence.specs.Resting.{AreTargetsApart, IsKnown, IsTargetOf}
use Rattle.cf_model_convergence.specs.Tidy.{IsLower, IsTidy}

-- Items are trees, no parent is in use, and no two items have one target. The cursor is no later than the remote, and of a target that
-- it has passed what is known is right.
pub record IsAgreed (s : State) : Type 0 where
  pub tidy : IsTidy s.link.remote
  pub early : (book_now s).cursor ≤ s.link.remote.clock
  pub alone : AreTargetsApart (items_now s)
  pub tree : (i : Item) → IsBelow s i → (p : Item) × (item_of (items_now s) i.parent ≡ Some p) × (item_line (items_now s) i.id ≡ i.id.0 ∷ item_line (items_now s) p.id)
  pub idle : (i p : Item) → IsBelow s i → item_of (items_now s) i.parent ≡ Some p → in_use s p.id ≡ false
  pub passed : (i : Item) (r : Stored) → IsBelow s i → IsTargetOf s i r → r.changed ≤ (book_now s).cursor → IsKnown (book_now s) i r

-- The root is here, each directory is populated, and each live item of the remote that the cursor has passed is an item here.
pub record IsPassedHere (s : State) : Type 0 where
  pub top : (i : Item) × (item_of (items_now s) root_id ≡ Some i)
  pub populated : All (λ i. i.directory ≡ true → i.populated ≡ true) (items_now s)
  pub here : All (λ r. IsLower r → r.live ≡ true → r.changed ≤ (book_now s).cursor → (i : Item) × Among i (items_now s) × (has_target i r.rid ≡ true)) s.link.remote.items

-- So it is where no tombstone is left.
abbrev pub IsHereUnlessBuried : State → Type 0
IsHereUnlessBuried s = (book_now s).tombstones ≡ [] → IsPassedHere s

-- what IsAgreed has besides what each state of a run has in which no list call waits
pub record IsKeptUp (s : State) : Type 0 where
  pub passed : (i : Item) (r : Stored) → IsBelow s i → IsTargetOf s i r → r.changed ≤ (book_now s).cursor → IsKnown (book_now s) i r
