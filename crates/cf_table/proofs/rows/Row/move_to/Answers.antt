use Rattle.std.specs.Prelude.{◌==◌}
use Rattle.cf_base.specs.declared.items.Pin.{Pin}
use Rattle.std.proofs.Common.{◌∙◌, ap, cond, false, sym}
use Rattle.cf_table.proofs.Told.{Told, means, told, told_by_row}
use Rattle.cf_table.proofs.Above.{numbers_later}
use Rattle.cf_model.specs.Numbers.{above}
use Rattle.cf_table.proofs.rows.Row.move_to.Goals as goal

pub returns-clause-means : goal.returns-clause-means
returns-clause-means c = λ i m.
    means _ _ (ap (λ (pin : Pin). record (told_by_row c.args.self.now) { parent = c.args.parent; name = c.args.name; pin = pin; in_sync = false; number = c.args.number }) c.pin_under-self.ensures
    ∙ ap (λ (x : Told). record x { parent = c.args.parent; name = c.args.name; pin = cond (x.parent.0 == c.args.parent.0) x.pin c.args.pin; in_sync = false; number = c.args.number }) (told c.args.self.now i m))
    (record {
      size = m.bytes.size;
      even = m.bytes.even;
      numbers = numbers_later i.number c.args.number i.writes (ap (λ a. above c.args.number a) (sym m.number) ∙ c.requires.number) m.bytes.numbers;
      dirty = m.bytes.dirty;
      dirty_since = m.bytes.dirty_since;
      here = m.bytes.here;
      valid = m.bytes.valid;
      modified = m.bytes.modified;
      modified_since = m.bytes.modified_since;
    })
