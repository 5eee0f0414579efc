use Rattle.cf_engine_queue.specs.Books.{tombstone_value}
use Rattle.cf_engine_uploads.proofs.Removed.{removal_by, removal_none}
use Rattle.cf_engine_uploads.proofs.removals.push_removal.Goals as goal

pub returns-in_default : goal.returns-in_default
returns-in_default g c = removal_none g.S.Steps.sense g.R.Remote.told c.args.s.now c.skip.new.s c.args.e.now c.skip.new.e c.next_token.result (tombstone_value c.args.one.now) c.skip.result c.next_token.ensures c.in_default.is c.skip.ensures

pub returns : goal.returns
returns g c = removal_by g.S.Steps.sense g.R.Remote.told c.args.s.now c.push_draft-done.new.s c.args.e.now c.push_draft-done.new.e c.next_token.result (tombstone_value c.args.one.now) c.push_draft-done.result c.next_token.ensures c.in-Some.token c.draft_removal-draft.result _ c.in-Some.is c.draft_removal-draft.ensures c.push_draft-done.ensures
