use Rattle.std.proofs.Common.{◌+◌, ◌-◌, ap, false, refl, arith}
use Rattle.cf_base.specs.declared.spans.Span.{Span}
use Rattle.cf_table.proofs.ByteMeans.{wrote_bytes}
use Rattle.cf_table.proofs.Told.{Told, means, told}
use Rattle.cf_table.proofs.rows.Row.write.Goals as goal

pub returns-clause-ok : goal.returns-clause-ok
returns-clause-ok c = λ i bytes l m.
    let s : Span = record { start = c.min-start.result; len = c.args.at + c.args.len - c.min-start.result } in
    means _ _ (ap (λ (x : Told). record x { in_sync = false; number = c.args.number }) (told c.args.self.now i m))
    (wrote_bytes c.args.self.now _ s c.args.at c.args.len c.args.number i bytes l c.min-start.ensures (omega (arith, c.min-start.ensures)) m.number c.requires.later c.max-self.ensures refl refl refl
    c.in_ok-written.ensures.here refl c.in_ok-written.ensures.modified c.in_ok-written.ensures.modified_since m.bytes)
