use Rattle.std.proofs.Common.{◌<◌, ◌≤◌, ℕ, List, ap, arith, subst}
use Rattle.std.proofs.lemmas.Bool.Decides.{nat_tests}
use Rattle.std.specs.Prelude.{Option, Some}
use Rattle.cf_table.specs.Tables.{Table}
use Rattle.cf_table.specs.Targets.{AreBounded, IsBoundOfRoot}
use Rattle.cf_table.specs.declared.rows.Row.{Row}
use Rattle.cf_table.proofs.Bounded.{targets_below}
use Rattle.cf_table.proofs.tables.Rows.is_above_targets.Goals as goal

pub returns-in-Some : goal.returns-in-Some
returns-in-Some c = λ above items m.
    let less : c.in-Some.bound < c.args.rid.0 = grind (arith, nat_tests, above) in
    let one : 1 ≤ c.in-Some.bound = subst (λ (b : Option ℕ). IsBoundOfRoot b) c.in-Some.is c.self.invariant.root in
    targets_below c.in-Some.bound c.args.rid.0 c.args.self.now.rows items
    (subst (λ (l : List Row). AreBounded (Some c.in-Some.bound) l) (ap (λ (t : Table). t.rows) c.self.view_is) (subst (λ (b : Option ℕ). AreBounded b c.self.inside.rows) c.in-Some.is c.self.invariant.bounded))
    (omega (arith, less, one)) less m
