-- Uploads of removals, by what was read of their tombstones.
use Rattle.std.specs.Prelude.{◌≡◌, Bool}
use Rattle.cf_base.specs.declared.ids.Token.{Token}
use Rattle.cf_engine_queue.specs.Books.{entry_value}
use Rattle.cf_engine_steps.specs.Answering.{Whole}
use Rattle.cf_engine_uploads.specs.declared.entries.Draft.{Draft}
use Rattle.cf_model.specs.Books.{Tombstone}
use Rattle.cf_model.specs.Pushes.{is_tombstone_left_out, next_token, removal_entry}
use Rattle.cf_model.specs.State.{State}

-- the tombstone is left out
pub record IsTombstoneLeftOut {X : Type 0} (W : Whole X) (t : Tombstone) (x : X) (b : Bool) : Type 0 where
  pub is : (s : State) → W.means x s → b ≡ is_tombstone_left_out s t

-- the removal, in each state in which the token is the next one
pub record DraftsRemoval (token : Token) (t : Tombstone) (d : Draft) : Type 0 where
  pub entry : (s : State) → token ≡ next_token s → entry_value d.entry ≡ removal_entry s t
  pub expect : d.expect ≡ t.version
