use Rattle.std.proofs.Common.{◌≡◌, ◌+◌, ◌*◌, ◌∙◌, ap, arith, length, min, sym}
use Rattle.cf_ask_rule.proofs.Narrow.{lacks_none}
use Rattle.cf_ask_rule.proofs.misses.lacks_in.Goals as goal
use Rattle.cf_model.specs.Missing.{any_between}

pub returns : goal.returns
returns c = λ f w.
    let end : c.min-end.result ≡ min (c.args.blocks.start + c.args.blocks.len) (length c.args.v.now.lacks + 1) = omega (arith, c.min-end.ensures, c.saturating_add.ensures, c.size-size.ensures.value, c.size-size.ensures.small) in
    lacks_none c.args.v.now c.args.blocks.start c.args.blocks.len (omega (arith, c.if-blocks-size.false, c.size-size.ensures.value))
    (ap (λ e. any_between c.args.v.now.lacks (4096 * c.args.blocks.start) (4096 * e)) (sym end) ∙ sym c.lacks_between.ensures ∙ f) w
