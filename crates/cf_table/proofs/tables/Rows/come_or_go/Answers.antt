use Rattle.std.proofs.Common.{List, ap, subst, sym}
use Rattle.cf_base.specs.declared.changes.Change.{Change}
use Rattle.cf_model.specs.Effects.{effect, without}
use Rattle.cf_table.specs.Tables.{MeansAll, Table}
use Rattle.cf_table.specs.declared.rows.Row.{Row}
use Rattle.cf_table.proofs.TableMeans.{without_means}
use Rattle.cf_table.proofs.NextChange.{below_without, next_without}
use Rattle.cf_table.specs.Changing.{IsNext}
use Rattle.cf_table.proofs.tables.Rows.come_or_go.Goals as goal

pub returns-in-Remove-clause-ok : goal.returns-in-Remove-clause-ok
returns-in-Remove-clause-ok c = λ items m.
    subst (λ (ch : Change). MeansAll c.remove_row.new.self.rows (effect items ch c.args.number)) (sym c.in-Remove.is)
    (subst (λ (l : List Row). MeansAll l (without c.in-Remove.item items)) (sym (ap (λ (t : Table). t.rows) c.remove_row.ensures)) (without_means c.in-Remove.item c.args.self.now.rows items m))

pub returns-in-Remove-clause-later : goal.returns-in-Remove-clause-later
returns-in-Remove-clause-later c = λ m h.
    subst (λ (l : List Row). IsNext m l) (sym (ap (λ (t : Table). t.rows) c.remove_row.ensures)) (next_without c.args.number m c.in-Remove.item c.args.self.now.rows c.requires.later h)

pub returns-in-Remove-clause-below : goal.returns-in-Remove-clause-below
returns-in-Remove-clause-below c = λ a. below_without c.args.self.now c.remove_row.new.self c.in-Remove.item c.remove_row.ensures a
