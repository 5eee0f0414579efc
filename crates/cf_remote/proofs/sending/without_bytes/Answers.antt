use Rattle.std.proofs.Common.{ap, refl}
use Rattle.std.proofs.lemmas.Result.{IfOk-weaker}
use Rattle.cf_base.specs.declared.messages.Request.{Request}
use Rattle.cf_model.specs.Peers.{is_fit}
use Rattle.cf_remote.proofs.sending.without_bytes.Goals as goal

pub returns-in-Put : goal.returns-in-Put
returns-in-Put c = rw c.in-Put.is (λ r. refl)

pub returns-in_default : goal.returns-in_default
returns-in_default c = IfOk-weaker c.copy.result _ _ (λ b e r. ap (λ (x : Request). is_fit x r) e) c.copy.ensures
