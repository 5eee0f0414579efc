use Rattle.std.proofs.Common.{◌≡◌, ◌++◌, List, OnOk, subst, sym}
use Rattle.cf_gen.specs.declared.lines.Line.{Line}
use Rattle.cf_gen.proofs.Rows.{chosen_six}
use Rattle.cf_gen.proofs.rounds.add_chosen.Goals as goal

pub returns-then-kind-eq6-clause-lines : goal.returns-then-kind-eq6-clause-lines
returns-then-kind-eq6-clause-lines c =
    let six = chosen_six c.args.kind c.args.file c.args.g.now c.if-kind-eq6.true in
    subst (λ (ls : List Line). OnOk c.add_reopening.result (c.add_reopening.new.lines.items ≡ c.args.lines.now.items ++ ls)) (sym six) c.add_reopening.ensures.lines
