use Rattle.std.proofs.Common.{◌+◌, ℕ, List, length, get_or, ap, arith}
use Rattle.cf_disk.proofs.FrontLaws.{length-filled}
use Rattle.cf_disk.proofs.PoolLaws.{reach_keeps, keeps_then, keeps_kept}
use Rattle.cf_disk.proofs.old_pages.OldPages.keep_page.Goals as goal

pub add-requires-clause-reached : goal.add-requires-clause-reached
add-requires-clause-reached c = omega (arith, ap length c.reach.ensures.slots, length-filled 0 (c.args.page + 1) c.args.self.now.slots.items)

pub returns-then-number_at-eq0-clause-keeps : goal.returns-then-number_at-eq0-clause-keeps
returns-then-number_at-eq0-clause-keeps c =
    let same = c.reach.ensures.others in
    keeps_then c.args.bytes.now c.args.page c.args.page (c.args.page + 1) c.args.self.now c.reach.new.self c.add.new.self
    (reach_keeps c.args.self.now c.reach.new.self (c.args.page + 1) c.reach.ensures.slots same.0 same.1 same.2 same.3 same.4 c.args.bytes.now c.args.page) c.add.ensures.keeps

pub returns-else-number_at-eq0-clause-keeps : goal.returns-else-number_at-eq0-clause-keeps
returns-else-number_at-eq0-clause-keeps c =
    let same = c.reach.ensures.others in
    keeps_kept c.args.bytes.now c.args.page c.args.self.now c.reach.new.self
    (reach_keeps c.args.self.now c.reach.new.self (c.args.page + 1) c.reach.ensures.slots same.0 same.1 same.2 same.3 same.4 c.args.bytes.now c.args.page)
    (omega (arith, c.if-number_at-eq0.false, c.number_at.ensures, ap (λ (l : List ℕ). get_or l c.args.page 0) c.deref.ensures.value))
