use Rattle.std.proofs.Common.{◌+◌, ◌-◌, arith}
use Rattle.cf_remote.proofs.Levels.{live_step}
use Rattle.cf_remote.proofs.feeds.push_live.Goals as goal

pub loop-depth-preserved : goal.loop-depth-preserved
loop-depth-preserved c = record {
  told = live_step c.args.items.now c.args.seen.now c.args.entries.now.items c.loop-depth.entries.items c.push_level.new.entries.items c.loop-depth.depth
      (c.args.most + 1 - c.loop-depth.depth) (c.args.most + 1 - (c.loop-depth.depth + 1)) c.args.most (omega (arith, c.loop-depth-test.true)) c.loop-depth.invariant.told c.in_ok-push_level.ensures.told;
  room = λ h. c.in_ok-push_level.ensures.room (c.loop-depth.invariant.room h);
}
