-- The parts of a delivery, which mirror the code: no definitions to believe.
use Rattle.cf_base.specs.declared.answers.Shown.{Shown}
use Rattle.cf_base.specs.declared.answers.Shown.TheVariants as shown
use Rattle.cf_base.specs.declared.messages.Reply.{Reply}
use Rattle.cf_base.specs.declared.messages.Request.{Request}
use Rattle.cf_model.specs.Arrows.{Arrow, noted, reading, ret, then_do}
use Rattle.cf_model.specs.Callbacks.{drain}
use Rattle.cf_model.specs.Messages.{act_on, is_stale}
use Rattle.cf_model.specs.Passes.{deliver_unless, showing}
use Rattle.cf_model.specs.State.{State}

-- the callbacks that wait, and then all is done
abbrev pub drained : Arrow State Shown
drained = then_do drain (ret shown.Done)

abbrev pub acted : Reply → Arrow State Shown
acted r = then_do (act_on r) drained

-- with lines of the steps that are left out
abbrev pub delivered : Reply → Arrow State Shown
delivered r = then_do (noted showing) (acted r)

abbrev pub unless_stale : Request → Reply → Arrow State Shown
unless_stale q r = reading (is_stale q r) (deliver_unless r)
