-- Why a wait ends, by the ask whose waits the deed ends.
use Rattle.std.proofs.Common.{◌≡◌, Option, None, List, cond, refl, eqb}
use Rattle.cf_ask_rule.specs.Deeds.{awaited_by, cause_for, why_for}
use Rattle.cf_base.specs.declared.ids.ItemId.{ItemId}
use Rattle.cf_base.specs.declared.waits.Cause.{Cause}
use Rattle.cf_model.specs.Asks.{cause_by, or_met, why}
use Rattle.cf_model.specs.Missing.{View, Wait, is_met}
use Rattle.cf_model.specs.Requests.{Cancels, Closes, Deed, Expires, Fails, Finishes, Leaves, Live, Nothing, Restarts}

same_cause : (d : Deed) (v : View) (asks : List Live) (w : Wait) → cause_for d v (awaited_by d asks) w ≡ cause_by d v asks w
same_cause Nothing v asks w = refl
same_cause (Leaves key blocks) v asks w = refl
same_cause (Fails key blocks c) v asks w = refl
same_cause (Cancels id) v asks w = refl
same_cause (Closes handle last) v asks w = refl
same_cause Restarts v asks w = refl
same_cause (Expires key) v asks w = refl
same_cause (Finishes key c) v asks w = refl

pub same_why : (item : ItemId) (v : View) (d : Deed) (asks : List Live) → ◌≡◌ {A = Wait → Option Cause} (why_for item v d (awaited_by d asks)) (why item v d asks)
same_why item v d asks = λ j w. cond (eqb w.item.0 item.0) (or_met (same_cause d v asks w j) (is_met v w)) None
