use Rattle.std.proofs.Common.{List, arith, subst, sym}
use Rattle.std.proofs.lemmas.List.Elements.{All-push}
use Rattle.cf_table.specs.Targets.{AreBounded, IsBounded}
use Rattle.cf_table.specs.Unlisted.{is_unlisted}
use Rattle.cf_table.specs.declared.rows.Row.{Row}
use Rattle.cf_table.proofs.Bounded.{raised_all}
use Rattle.cf_table.proofs.Counts.{count_most, count_pushed, most_one}
use Rattle.cf_table.proofs.listed_rows.ListedRows.push_row.Goals as goal

pub overflow_add-self : goal.overflow_add-self
overflow_add-self c = omega (arith, c.self.invariant.unlisted, count_most c.self.inside.rows, c.in_ok-self-inside.ensures.few, c.unlisted-after.ensures, most_one (is_unlisted c.args.row))

pub invariant_of-self-2 : goal.invariant_of-self-2
invariant_of-self-2 c = record {
  table = c.in_ok-self-inside.ensures.table;
  bounded = subst (λ (l : List Row). AreBounded c.raised-bound.result l) (sym c.in_ok-self-inside.ensures.adds)
      (All-push (λ r. IsBounded c.raised-bound.result r.identity) c.self.inside.rows c.args.row
      (raised_all c.self.inside.bound c.raised-bound.result c.self.inside.rows c.raised-bound.ensures.before c.self.invariant.bounded) c.raised-bound.ensures.covers);
  root = c.raised-bound.ensures.root c.self.invariant.root;
  unlisted = count_pushed c.self.inside.unlisted c.unlisted-after.result c.args.row c.self.inside.rows c.push_row.new.rows c.self.invariant.unlisted c.unlisted-after.ensures c.in_ok-self-inside.ensures.adds;
}
