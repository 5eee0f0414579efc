use Rattle.std.proofs.Common.{refl}
use Rattle.cf_engine_queue.specs.Books.{entry_value}
use Rattle.cf_engine_steps.specs.Answering.{Any}
use Rattle.cf_engine_steps.specs.States.{whole}
use Rattle.cf_model.specs.Arrows.{noted, then_do}
use Rattle.cf_model.specs.PushReplies.{end_and_close, take, with_done}
use Rattle.cf_engine_steps.proofs.Laws.{same_as, then_both}
use Rattle.cf_engine_steps.proofs.Noted.{noted_done}
use Rattle.cf_engine_replies.proofs.entries.take.Goals as goal

pub returns : goal.returns
returns g c = same_as (whole g.S.Steps.sense g.R.Remote.told) Any (then_do (noted with_done) (end_and_close (entry_value c.args.entry.now))) (take (entry_value c.args.entry.now)) _ _ _ (λ s. refl)
    (then_both _ (noted with_done) (end_and_close (entry_value c.args.entry.now)) _ _ _ _ _ _ _ _ (noted_done g.S.Steps.sense g.R.Remote.told Any c.args.s.now c.args.e.now c.note_done.new.self c.note_done.ensures) c.end_and_close.ensures)
