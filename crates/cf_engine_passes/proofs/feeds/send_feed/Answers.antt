use Rattle.cf_engine_steps.specs.Answering.{Any}
use Rattle.cf_engine_steps.specs.States.{whole}
use Rattle.cf_engine_steps.proofs.Laws.{reads_on}
use Rattle.cf_model.specs.Messages.{send}
use Rattle.cf_model.specs.Passes.{feed_of}
use Rattle.cf_engine_passes.proofs.feeds.send_feed.Goals as goal

pub returns : goal.returns
returns g c = reads_on (whole g.S.Steps.sense g.R.Remote.told) Any feed_of send (c.args.s.now, c.args.e.now) (c.send-done.new.s, c.send-done.new.e) c.in_ok-request.request c.send-done.result c.in_ok-request.ensures.is c.send-done.ensures
