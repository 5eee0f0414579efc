use Rattle.std.proofs.Common.{◌+◌, ◌*◌, ◌∙◌, sym, subst, arith}
use Rattle.cf_base.specs.declared.changes.Change.{Change}
use Rattle.cf_volume_changes.proofs.Longer.{filled_longer, wrote_longer}
use Rattle.cf_volume_changes.specs.Growth.{AddsAtMost}
use Rattle.cf_volume_points.proofs.RowRoom.{lighter}
use Rattle.cf_volume_changes.proofs.room.single_changes.most_added.Goals as goal

pub returns-then-never_longer-clause-most : goal.returns-then-never_longer-clause-most
returns-then-never_longer-clause-most c = λ i pin n b later puts.
    let less = lighter c.args.change.now pin n b i (sym c.never_longer.ensures ∙ c.if-never_longer.true) in
    omega (arith, less)

pub returns-in-Filled-clause-most : goal.returns-in-Filled-clause-most
returns-in-Filled-clause-most c = subst (λ (x : Change). AddsAtMost x c.args.blocks (8 * (c.args.blocks + 1))) (sym c.in-Filled.is) (λ i pin n b later puts.
    let longer = filled_longer c.in-Filled.item c.in-Filled.start c.in-Filled.bytes pin n b i in
    omega (arith, longer, puts))

pub returns-in-Write-clause-most : goal.returns-in-Write-clause-most
returns-in-Write-clause-most c = subst (λ (x : Change). AddsAtMost x c.args.blocks (8 * (c.args.blocks + 3))) (sym c.in-Write.is) (λ i pin n b later puts.
    let longer = wrote_longer c.in-Write.item c.in-Write.at c.in-Write.bytes pin n b i later in
    omega (arith, longer, puts))
