use Rattle.cf_engine_uploads.proofs.Hydrated.{all_here, asks, is_asked}
use Rattle.cf_engine_uploads.proofs.hydrations.hydrate_first.Goals as goal

pub returns-then-is_whole : goal.returns-then-is_whole
returns-then-is_whole g c = λ i. all_here g.S.Steps.sense g.R.Remote.told c.args.id i c.args.s.now c.args.e.now c.is_whole.result c.is_whole.ensures c.if-is_whole.true

pub returns-then-hydrating : goal.returns-then-hydrating
returns-then-hydrating g c = λ i. is_asked g.S.Steps.sense g.R.Remote.told c.args.id i c.args.s.now c.args.e.now c.is_whole.result c.is_whole.ensures c.requests.result.now c.hydrating.result c.requests.ensures.means c.hydrating.ensures c.if-is_whole.false c.if-hydrating.true

pub returns : goal.returns
returns g c = λ i. asks g.S.Steps.sense g.R.Remote.told c.args.id i c.args.s.now c.args.e.now c.is_whole.result c.is_whole.ensures c.requests.result.now c.hydrating.result c.requests.ensures.means c.hydrating.ensures c.hydrate.new.s c.hydrate.new.e c.hydrate.result c.if-is_whole.false c.if-hydrating.false (c.hydrate.ensures i)
