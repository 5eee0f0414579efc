-- Changes counted in order, as a draft tells of them.
use Rattle.std.specs.Prelude.{◌≡◌, ◌+◌, ◌||◌, ℕ, not, List}
use Rattle.cf_base.specs.declared.changes.Change.{Change}
use Rattle.cf_volume_image.specs.declared.contents.Contents.{Contents}
use Rattle.cf_model.specs.Changes.{no_blocks, no_table, put_changes}
use Rattle.cf_model.specs.State.{Volume}
use Rattle.cf_volume_changes.specs.Drafts.{Drafts}
use Rattle.cf_volume_changes.specs.RoomLeft.{FitInTurn}
use Rattle.cf_volume_changes.specs.declared.room.tallies.Tally.{Tally}

-- The draft is that of the volume which the first of the changes make, and the rest fits it. The flags tell whether those
-- found room.
pub record Counts (c : Contents) (clusters : ℕ) (t : Tally) (rest all : List Change) (v : Volume) : Type 0 where
  pub made : Volume
  pub ends : put_changes rest made ≡ put_changes all v
  pub drafts : Drafts c t.draft made
  pub fits : FitInTurn rest made
  pub epoch : made.epoch ≡ c.last.epoch
  pub place : made.place ≡ c.last.place + t.steps
  pub clusters_are : made.clusters ≡ clusters
  pub table : no_table v all ≡ (not t.table || no_table made rest)
  pub full : no_blocks v all ≡ (not t.blocks || no_blocks made rest)
