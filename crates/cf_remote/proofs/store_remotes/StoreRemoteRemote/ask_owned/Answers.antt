use Rattle.std.proofs.Common.{subst, sym}
use Rattle.cf_remote.specs.Listable.{AreListable}
use Rattle.cf_remote.proofs.ListableItems.{step_listable}
use Rattle.cf_remote.proofs.store_remotes.StoreRemoteRemote.ask_owned.Goals as goal

pub invariant_of-self-2 : goal.invariant_of-self-2
invariant_of-self-2 c = subst AreListable (sym c.in_ok-reply.ensures.step.1) (step_listable c.self.inside.store c.self.invariant c.args.q)
