use Rattle.std.proofs.Common.{◌-◌, arith}
use Rattle.std.specs.Vec.{vec_len}
use Rattle.cf_ranges.proofs.Joins.{taken_out}
use Rattle.cf_ranges.proofs.run_lists.take_out.Goals as goal

pub returns : goal.returns
returns c =
    taken_out c.args.from c.args.to (c.len.result - (c.args.to - c.args.from)) (vec_len c.args.runs.now) c.args.runs.now.items c.copy_within.new.self.items c.truncate.new.self.items c.args.runs.now.ok.0 c.requires.order c.requires.within
    (omega (arith, c.requires.order, c.requires.within, c.len.ensures, c.args.runs.now.ok.0)) c.copy_within.ensures.items c.truncate.ensures.items
