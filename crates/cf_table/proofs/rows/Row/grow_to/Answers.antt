use Rattle.std.proofs.Common.{◌-◌, ap, false, refl, arith}
use Rattle.cf_base.specs.declared.spans.Span.{Span}
use Rattle.cf_table.proofs.ByteMeans.{grow_bytes}
use Rattle.cf_table.proofs.Told.{Told, means, told}
use Rattle.cf_table.proofs.rows.Row.grow_to.Goals as goal

pub returns-clause-ok : goal.returns-clause-ok
returns-clause-ok c = λ i m.
    let s : Span = record { start = c.args.self.now.size; len = c.args.size - c.args.self.now.size } in
    means _ _ (ap (λ (x : Told). record x { in_sync = false; number = c.args.number }) (told c.args.self.now i m))
    (grow_bytes c.args.self.now _ s c.args.size c.args.number i refl (omega (arith, c.requires.more)) c.requires.more m.number c.requires.later refl refl refl refl
    c.in_ok-written.ensures.here refl c.in_ok-written.ensures.modified c.in_ok-written.ensures.modified_since m.bytes)
