use Rattle.std.proofs.Common.{◌≡◌, ◌∙◌, ap, subst, sym}
use Rattle.std.specs.Prelude.{Err, IfOk, Option, Result}
use Rattle.cf_base.specs.declared.memory.OutOfMemory.{OutOfMemory}
use Rattle.cf_base.specs.declared.messages.Entry.{Entry}
use Rattle.cf_model.specs.Peers.{named}
use Rattle.cf_remote.specs.Entries.{IsFoundIn}
use Rattle.cf_remote.specs.declared.find_errors.FindError.{FindError}
use Rattle.cf_remote.proofs.FoundEntries.{found_listed}
use Rattle.cf_remote.proofs.entries.found_fit.Goals as goal

pub returns-in-Ok-found : goal.returns-in-Ok-found
returns-in-Ok-found c = λ rid fit. found_listed rid c.args.name.now c.args.reply c.in-Ok.entries c.in-Ok-found.entry fit c.in-Ok.ensures (subst (λ (r : Result (Option Entry) OutOfMemory). IfOk r (λ e. e ≡ named c.args.name.now c.as_slice.result.now)) c.in-Ok-found.is c.copy_named-found.ensures ∙ ap (named c.args.name.now) c.as_slice.ensures)

pub returns-in-Err : goal.returns-in-Err
returns-in-Err c = λ rid fit. subst (λ (e : FindError). IsFoundIn rid c.args.name.now c.args.reply (Err e)) (sym c.in-Err.ensures.0) (sym (c.in-Err.ensures.1 rid c.args.name.now))
