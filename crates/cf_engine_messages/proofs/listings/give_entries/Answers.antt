use Rattle.std.proofs.Common.{◌∙◌, sym}
use Rattle.cf_engine_messages.proofs.Entered.{gives_fails, gives_none, gives_refused}
use Rattle.cf_engine_messages.proofs.Operated.{refused_is}
use Rattle.cf_engine_provider.specs.Parts.{give_entries}
use Rattle.cf_engine_steps.specs.Answering.{Any}
use Rattle.cf_engine_steps.specs.States.{whole}
use Rattle.cf_engine_steps.proofs.Laws.{with_err}
use Rattle.cf_engine_messages.proofs.listings.give_entries.Goals as goal

pub returns-in_err-shown : goal.returns-in_err-shown
returns-in_err-shown g c = with_err (whole g.S.Steps.sense g.R.Remote.told) Any (give_entries c.args.key c.args.list c.args.seen.now) (c.args.s.now, c.args.e.now) (c.execute_seeing-done.new.s, c.args.e.now) c.in_err-shown.field-0.0 c.from_residual.result c.from_residual.ensures.1
    (gives_fails g.S.Steps.sense g.R.Remote.told c.args.key c.args.list c.args.seen.now c.args.s.now c.execute_seeing-done.new.s c.args.e.now c.in_err-shown.field-0.0 c.in_err-shown.ensures)

pub returns-in-Some : goal.returns-in-Some
returns-in-Some g c = gives_refused g.S.Steps.sense g.R.Remote.told c.args.key c.args.list c.args.seen.now c.args.s.now c.execute_seeing-done.new.s c.after_listing.new.s c.args.e.now c.after_listing.new.e c.in_ok-shown.shown c.in-Some.code c.after_listing.result c.in_ok-shown.ensures
    (refused_is c.in_ok-shown.shown c.in-Some.code (sym c.refusal_of-refused.ensures ∙ c.in-Some.is)) c.after_listing.ensures

pub returns-in-None : goal.returns-in-None
returns-in-None g c = gives_none g.S.Steps.sense g.R.Remote.told c.args.key c.args.list c.args.seen.now c.args.s.now c.execute_seeing-done.new.s c.args.e.now c.in_ok-shown.shown c.in_ok-shown.ensures (sym c.refusal_of-refused.ensures ∙ c.in-None.is)
