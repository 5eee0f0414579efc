use Rattle.std.proofs.Common.{◌<◌, ◌-◌, arith, length}
use Rattle.std.proofs.lemmas.Bool.Decides.{nat_tests}
use Rattle.cf_table.proofs.Searched.{pairs_short}
use Rattle.cf_table.proofs.row_lists.pair_count.Goals as goal

pub returns-clause-value : goal.returns-clause-value
returns-clause-value c =
    let some : 0 < length c.args.pairs.now = grind (arith, nat_tests, c.is_empty.ensures, c.if-is_empty.false) in
    omega (arith, c.min.ensures, pairs_short 0 (length c.args.pairs.now - 1) c.args.pairs.now (0, 0) c.requires (omega arith))
