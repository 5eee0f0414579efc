use Rattle.std.proofs.Common.{subst}
use Rattle.std.specs.Prelude.{Option, Result}
use Rattle.cf_base.specs.declared.messages.Entry.{Entry}
use Rattle.cf_base.specs.declared.messages.Reply.{Reply}
use Rattle.cf_base.specs.declared.messages.Request.{Request}
use Rattle.cf_model.specs.Peers.{list_of}
use Rattle.cf_remote.specs.Entries.{FindsEntry}
use Rattle.cf_remote.specs.Stops.{find_error_of}
use Rattle.cf_remote.specs.Told.{Asks}
use Rattle.cf_remote.specs.declared.ask_errors.AskError.{AskError}
use Rattle.cf_remote.specs.declared.find_errors.FindError.{FindError}
use Rattle.cf_remote.proofs.FoundEntries.{asked_in_vain, found_asked, with_find}
use Rattle.cf_remote.proofs.remotes.Remote.find.Goals as goal

pub returns-in_err-reply : goal.returns-in_err-reply
returns-in_err-reply g c =
    let asks : Asks (list_of c.args.directory) (g.Self.Remote.told c.args.self.now) c.ask-asked.result (g.Self.Remote.told c.ask-asked.new.self) =
    subst (λ (q : Request). Asks q (g.Self.Remote.told c.args.self.now) c.ask-asked.result (g.Self.Remote.told c.ask-asked.new.self)) c.list_of-request.ensures c.ask-asked.ensures in
    with_find (λ (r : Result (Option Entry) FindError). FindsEntry c.args.directory c.args.name.now (g.Self.Remote.told c.args.self.now) r (g.Self.Remote.told c.ask-asked.new.self)) c.from_residual.result (find_error_of c.in_err-reply.field-0.0) c.from_residual.ensures.1
    (asked_in_vain c.args.directory c.args.name.now (g.Self.Remote.told c.args.self.now) (g.Self.Remote.told c.ask-asked.new.self) c.in_err-reply.field-0.0
    (subst (λ (r : Result Reply AskError). Asks (list_of c.args.directory) (g.Self.Remote.told c.args.self.now) r (g.Self.Remote.told c.ask-asked.new.self)) c.in_err-reply.was asks))

pub returns : goal.returns
returns g c =
    let asks : Asks (list_of c.args.directory) (g.Self.Remote.told c.args.self.now) c.ask-asked.result (g.Self.Remote.told c.ask-asked.new.self) =
    subst (λ (q : Request). Asks q (g.Self.Remote.told c.args.self.now) c.ask-asked.result (g.Self.Remote.told c.ask-asked.new.self)) c.list_of-request.ensures c.ask-asked.ensures in
    found_asked c.args.directory c.args.name.now c.in_ok-reply.reply (g.Self.Remote.told c.args.self.now) (g.Self.Remote.told c.ask-asked.new.self) c.found_in.result
    (subst (λ (r : Result Reply AskError). Asks (list_of c.args.directory) (g.Self.Remote.told c.args.self.now) r (g.Self.Remote.told c.ask-asked.new.self)) c.in_ok-reply.was asks)
    c.found_in.ensures
