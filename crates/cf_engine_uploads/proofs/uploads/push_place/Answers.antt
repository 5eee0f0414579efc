use Rattle.cf_engine_queue.specs.Books.{action_of}
use Rattle.cf_engine_steps.specs.Answering.{On}
use Rattle.cf_engine_uploads.proofs.Put.{item_none, place_by}
use Rattle.cf_filter_steps.specs.Answering.{IsAt}
use Rattle.cf_engine_uploads.proofs.uploads.push_place.Goals as goal

pub returns-in_default : goal.returns-in_default
returns-in_default g c = λ i place. item_none g.S.Steps.sense g.R.Remote.told c.args.s.now c.skip.new.s c.args.e.now c.skip.new.e c.next_token.result c.skip.result c.next_token.ensures (On (IsAt c.args.id i)) (action_of c.args.action) i c.in_default.is c.skip.ensures

pub returns : goal.returns
returns g c = λ i place. place_by g.S.Steps.sense g.R.Remote.told c.args.s.now c.push_draft-done.new.s c.args.e.now c.push_draft-done.new.e c.next_token.result c.push_draft-done.result c.next_token.ensures c.in-Some.token c.in-Some.is c.args.id i c.in_ok-draft.draft (action_of c.args.action) _ place c.in_ok-draft.ensures c.push_draft-done.ensures
