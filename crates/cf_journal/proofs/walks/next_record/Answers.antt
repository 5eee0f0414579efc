use Rattle.std.proofs.Common.{◌≡◌, ◌∷◌, arith, subst, ap, ◌∙◌, ◌-◌, ◌+◌, get_or, List, ℕ}
use Rattle.cf_disk.specs.Disk.{part}
use Rattle.cf_journal.proofs.Walking.{at_gate, at_payload, head_overrun}
use Rattle.cf_journal.proofs.walks.next_record.Goals as goal

pub returns-then-head-eq0-clause-found : goal.returns-then-head-eq0-clause-found
returns-then-head-eq0-clause-found g c = (
  part (c.args.at + 1) (c.args.left - 1) (g.D.Disk.state c.args.disk.now).seen,
  subst (λ n. part c.args.at c.args.left (g.D.Disk.state c.args.disk.now).seen ≡ n ∷ part (c.args.at + 1) (c.args.left - 1) (g.D.Disk.state c.args.disk.now).seen) c.if-head-eq0.true
      (at_gate c.args.at 5 c.args.left (g.D.Disk.state c.args.disk.now).seen c.read.new.out (omega (arith, c.requires.room, c.requires.size)) c.in_ok-read.ensures.got (omega arith) c.requires.some),
)

pub returns-then-len-left-clause-found : goal.returns-then-len-left-clause-found
returns-then-len-left-clause-found g c =
    head_overrun c.args.at c.args.left (get_or c.read.new.out 0 0) c.len_in-len.result (g.D.Disk.state c.args.disk.now).seen c.read.new.out (omega (arith, c.requires.room, c.requires.size)) c.in_ok-read.ensures.got c.len_in-len.ensures (omega (arith, c.if-left-le-HEAD.false)) c.if-head-eq0.false c.len_in-len.type_inv (omega (arith, c.if-len-left.true))

pub overflow_add-at : goal.overflow_add-at
overflow_add-at g c = omega (arith, c.requires.room)

pub returns-clause-found : goal.returns-clause-found
returns-clause-found g c =
    let there = at_payload c.args.at c.args.left (get_or c.read.new.out 0 0) c.len_in-len.result (g.D.Disk.state c.args.disk.now).seen c.read.new.out c.in_ok-payload.payload.items (omega (arith, c.requires.room, c.requires.size)) c.in_ok-read.ensures.got c.len_in-len.ensures (omega (arith, c.if-len-left.false, c.if-left-le-HEAD.false))
    (c.in_ok-payload.ensures.got ∙ ap (λ (l : List ℕ). part (c.args.at + 5) c.len_in-len.result l) c.read.ensures.keeps.seen) in
    (get_or c.read.new.out 0 0, c.if-head-eq0.false, omega (arith, there.0, c.len_in-len.type_inv), omega (arith, there.0, c.if-len-left.false, c.if-left-le-HEAD.false), there.1)
