use Rattle.std.proofs.Common.{sym, ◌∙◌}
use Rattle.cf_remote.proofs.StoreFinds.{finds_entry}
use Rattle.cf_remote.proofs.store_remotes.StoreRemoteRemote.find.Goals as goal

pub returns : goal.returns
returns c = rw (← c.self.view_is) (finds_entry c.self.inside.store c.args.directory c.args.name.now c.self.inside.asks c.saturating_add-self-inside-2.result c.saturating_add-self-inside-2.ensures c.self.invariant
    (sym c.is_listed.ensures ∙ c.if-not-is_listed.false) c.in_ok-found.ensures.apart c.in_ok-found.ensures.room c.in_ok-found.found c.in_ok-found.ensures.found)
