use Rattle.std.proofs.Common.{ap, sym}
use Rattle.cf_io.specs.Moves.{Store}
use Rattle.cf_io.proofs.Adding.{takes_front}
use Rattle.cf_io.proofs.memory.MemSourceSource.read.Goals as goal

pub returns-clause-takes : goal.returns-clause-takes
returns-clause-takes c =
    let moved = rw c.deref.ensures.value at c.copy_front-count.ensures.copied in
    takes_front c.self.inside.bytes.items c.args.self.now.bytes _ c.self.inside.at c.copy_front-count.result (ap (λ (s : Store). s.bytes) (sym c.self.view_is)) moved
