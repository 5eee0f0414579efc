use Rattle.std.proofs.Common.{◌∙◌, Some, None, ap, arith, cond, eqb, sym}
use Rattle.cf_model.specs.Requests.{Live}
use Rattle.cf_waits.specs.Rising.{ask_key}
use Rattle.cf_waits.proofs.ByNumber.{at_end, at_place}
use Rattle.cf_waits.proofs.ask_lists.ask_there.Goals as goal

pub returns-then-place-asks : goal.returns-then-place-asks
returns-then-place-asks c = sym (at_end ask_key c.args.number c.args.place c.args.asks.now c.requires.place c.if-place-asks.true)

pub returns : goal.returns
returns c =
    c.ask_if.ensures ∙ ap (λ (a : Live). cond (eqb a.ask.key.number c.args.number) (Some a) None) c.index-asks-place.is
    ∙ sym (at_place ask_key c.args.number c.args.place c.args.asks.now c.index-asks-place.result c.requires.rising c.requires.place (omega (arith, c.if-place-asks.false, c.requires.place.in_range)))
