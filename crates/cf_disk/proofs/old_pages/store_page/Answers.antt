use Rattle.std.proofs.Common.{ℕ, ◌+◌, ◌-◌, ◌*◌, List, ◌∙◌, ap, arith}
use Rattle.cf_disk.specs.Disk.{part}
use Rattle.cf_disk.specs.Fronts.{filled}
use Rattle.cf_disk.proofs.PoolLaws.{stores_bytes}
use Rattle.cf_disk.proofs.old_pages.store_page.Goals as goal

pub returns-clause-stores : goal.returns-clause-stores
returns-clause-stores c =
    stores_bytes c.args.pool.now.items c.args.bytes.now (part (c.args.page * 4096) (c.min-high.result - c.args.page * 4096) c.args.bytes.now) c.fill_up.new.items.items
    c.args.page c.len-start.result (omega arith) (omega (arith, c.args.pool.now.ok, c.len-start.ensures))
    (ap (λ (n : ℕ). part (c.args.page * 4096) (n - c.args.page * 4096) c.args.bytes.now) c.min-high.ensures)
    (c.fill_up.ensures.items ∙ ap (λ (l : List ℕ). filled (c.len-start.result + 4096) 0 l) c.append.ensures.items)
