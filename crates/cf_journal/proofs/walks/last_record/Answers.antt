use Rattle.std.proofs.Common.{◌≡◌, ◌∷◌, arith, subst, ◌-◌, ◌+◌}
use Rattle.cf_disk.specs.Disk.{part}
use Rattle.cf_journal.proofs.Walking.{at_gate, last_overrun}
use Rattle.cf_journal.proofs.walks.last_record.Goals as goal

pub returns-then-gate-eq0-clause-found : goal.returns-then-gate-eq0-clause-found
returns-then-gate-eq0-clause-found g c = (
  part (c.args.at + 1) (c.args.left - 1) (g.D.Disk.state c.args.disk.now).seen,
  subst (λ n. part c.args.at c.args.left (g.D.Disk.state c.args.disk.now).seen ≡ n ∷ part (c.args.at + 1) (c.args.left - 1) (g.D.Disk.state c.args.disk.now).seen) c.if-gate-eq0.true
      (at_gate c.args.at 1 c.args.left (g.D.Disk.state c.args.disk.now).seen c.read.new.out (omega (arith, c.requires.room, c.requires.size)) c.in_ok-read.ensures.got (omega arith) c.requires.some),
)

pub returns-else-gate-eq0-clause-found : goal.returns-else-gate-eq0-clause-found
returns-else-gate-eq0-clause-found g c = last_overrun c.args.at 1 c.args.left (g.D.Disk.state c.args.disk.now).seen c.read.new.out (omega (arith, c.requires.room, c.requires.size)) c.in_ok-read.ensures.got (omega arith) c.requires.some c.requires.few c.if-gate-eq0.false
