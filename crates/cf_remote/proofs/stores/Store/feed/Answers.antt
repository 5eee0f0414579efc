use Rattle.std.proofs.Common.{List, ap, ◌∙◌}
use Rattle.cf_base.specs.declared.messages.Entry.{Entry}
use Rattle.cf_base.specs.declared.messages.Reply.TheVariants as reply
use Rattle.cf_remote.proofs.stores.Store.feed.Goals as goal

pub returns-clause-told : goal.returns-clause-told
returns-clause-told c = rw (← c.self.view_is) (ap (λ (es : List Entry). reply.Feed c.args.round c.self.inside.clock es) (c.in_ok-entries.ensures.same ∙ c.in_ok-feed.ensures.told))
