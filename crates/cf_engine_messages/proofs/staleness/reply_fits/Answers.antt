use Rattle.std.proofs.Common.{Bool}
use Rattle.cf_engine_messages.proofs.StaleReplies.{by_items}
use Rattle.cf_engine_messages.specs.Staleness.{fits_in, fits_with}
use Rattle.cf_filter_steps.proofs.Laws.{ok_map}
use Rattle.cf_filter_steps.specs.Answering.{Any, Reads}
use Rattle.cf_engine_messages.proofs.staleness.reply_fits.Goals as goal

pub returns-then-has_reply_entries : goal.returns-then-has_reply_entries
returns-then-has_reply_entries g c = ok_map c.entries_fit.result (λ (b : Bool). Reads g.S.Steps.sense Any (fits_with c.in_ok-settled.settled c.args.request.now c.args.reply.now) c.args.s.now b) (λ (b : Bool). Reads g.S.Steps.sense Any (fits_in c.args.request.now c.args.reply.now) c.args.s.now b)
    (λ b h. by_items g.S.Steps.sense c.args.s.now c.settled_token.result c.in_ok-settled.settled c.args.request.now c.args.reply.now b c.in_ok-settled.ensures c.settled_token.ensures h) c.entries_fit.ensures

pub returns : goal.returns
returns g c = ok_map c.other_fits.result (λ (b : Bool). Reads g.S.Steps.sense Any (fits_with c.in_ok-settled.settled c.args.request.now c.args.reply.now) c.args.s.now b) (λ (b : Bool). Reads g.S.Steps.sense Any (fits_in c.args.request.now c.args.reply.now) c.args.s.now b)
    (λ b h. by_items g.S.Steps.sense c.args.s.now c.settled_token.result c.in_ok-settled.settled c.args.request.now c.args.reply.now b c.in_ok-settled.ensures c.settled_token.ensures h) c.other_fits.ensures
