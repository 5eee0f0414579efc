use Rattle.std.proofs.Common.{◌∙◌, Some, None, ap, arith, cond, eqb, sym}
use Rattle.cf_model.specs.Missing.{Wait}
use Rattle.cf_waits.specs.Rising.{wait_key}
use Rattle.cf_waits.proofs.ByNumber.{at_end, at_place}
use Rattle.cf_waits.proofs.wait_lists.wait_there.Goals as goal

pub returns-then-place-waits : goal.returns-then-place-waits
returns-then-place-waits c = sym (at_end wait_key c.args.number c.args.place c.args.waits.now c.requires.place c.if-place-waits.true)

pub returns : goal.returns
returns c =
    c.wait_if.ensures ∙ ap (λ (w : Wait). cond (eqb w.id.0.number c.args.number) (Some w) None) c.index-waits-place.is
    ∙ sym (at_place wait_key c.args.number c.args.place c.args.waits.now c.index-waits-place.result c.requires.rising c.requires.place (omega (arith, c.if-place-waits.false, c.requires.place.in_range)))
