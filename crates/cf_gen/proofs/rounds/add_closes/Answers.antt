use Rattle.std.proofs.Common.{ℕ, ◌+◌, ◌-◌, ◌++◌}
use Rattle.cf_gen.specs.Scripts.{closes}
use Rattle.cf_gen.proofs.Rows.{closes_more, moved}
use Rattle.cf_gen.proofs.rounds.add_closes.Goals as goal

pub loop-number-preserved : goal.loop-number-preserved
loop-number-preserved c =
    let number : ℕ = c.loop-number.number in
    let end : ℕ = c.args.first + 8 in
    rw c.in_ok-push.ensures.items (moved c.loop-number.lines.items (c.args.lines.now.items ++ closes 8 c.args.epoch c.args.first) (closes (end - (number + 1)) c.args.epoch (number + 1)) (closes (end - number) c.args.epoch number) _ (closes_more end c.args.epoch number c.loop-number-test.true) c.loop-number.invariant)
