use Rattle.std.proofs.Common.{◌-◌, refl, arith}
use Rattle.cf_base.specs.declared.spans.Span.{Span}
use Rattle.cf_table.proofs.ByteMeans.{fill_bytes}
use Rattle.cf_table.proofs.Told.{means, told}
use Rattle.cf_table.proofs.rows.Row.fill.Goals as goal

pub returns-clause-ok : goal.returns-clause-ok
returns-clause-ok c = λ i bytes l m.
    let s : Span = record { start = c.min-start.result; len = c.min-end.result - c.min-start.result } in
    means _ _ (told c.args.self.now i m)
    (fill_bytes c.args.self.now _ s c.args.span.start i bytes c.min-start.ensures (omega (arith, c.min-start.ensures, c.min-end.ensures, l)) refl refl refl refl
    c.in_ok-add.ensures.ok refl refl refl m.bytes)
