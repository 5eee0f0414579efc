-- What a step does of its own, as the deed of the definitions.
use Rattle.std.specs.Prelude.{not, cond, List, [], Option, None, filter, map, ◌==◌}
use Rattle.cf_base.specs.declared.ids.ItemId.{ItemId}
use Rattle.cf_base.specs.declared.waits.Cause.{Cause}
use Rattle.cf_base.specs.declared.waits.Cause.TheVariants as cause
use Rattle.cf_model.specs.Asks.{after_deed, cause_by, cause_if, is_over, or_met, waits_for}
use Rattle.cf_model.specs.Missing.{View, Wait, is_met}
use Rattle.cf_model.specs.Requests.{Cancels, Closes, Deed, Expires, Fails, Finishes, Leaves, Live, Nothing, Restarts, live_of}
use Rattle.cf_model.specs.Words.{counting}
use Rattle.cf_ask_rule.specs.declared.acts.Act.{Act}
use Rattle.cf_ask_rule.specs.declared.acts.Act.TheVariants as act

abbrev pub deed_of : Act → Deed
deed_of act.Nothing = Nothing
deed_of (act.Leaves key blocks) = Leaves key (counting blocks.start blocks.len)
deed_of (act.Fails key blocks cause) = Fails key (counting blocks.start blocks.len) cause
deed_of (act.Cancels id) = Cancels id
deed_of (act.Closes handle last) = Closes handle last
deed_of act.Restarts = Restarts
deed_of (act.Expires key) = Expires key
deed_of (act.Finishes key cause) = Finishes key cause

-- the asks that are left once the deed is done
abbrev pub after : Deed → List Live → List Live
after d asks = filter (λ a. not (is_over d a)) (map (after_deed d) asks)

-- the live ask whose waits a deed ends
abbrev pub awaited_by : Deed → List Live → Option Live
awaited_by (Expires key) asks = live_of asks key
awaited_by (Finishes key c) asks = live_of asks key
awaited_by _ asks = None

-- why a deed ends a wait on its item, where the ask is the one whose waits it ends
abbrev pub cause_for : Deed → View → Option Live → Wait → Option Cause
cause_for (Expires key) v ask w = cause_if (waits_for v ask w) cause.TimedOut
cause_for (Finishes key c) v ask w = cause_if (waits_for v ask w) c
cause_for d v ask w = cause_by d v [] w

-- why a wait ends after the step, by that ask
abbrev pub why_for : ItemId → View → Deed → Option Live → Wait → Option Cause
why_for item v d ask w = cond (w.item.0 == item.0) (or_met (cause_for d v ask w) (is_met v w)) None
