use Rattle.std.proofs.Common.{◌≡◌, ℕ, sym, subst}
use Rattle.cf_base.specs.declared.policies.Choice.{Choice}
use Rattle.cf_disk.specs.Fronts.{filled}
use Rattle.cf_disk.specs.Images.{left_by}
use Rattle.cf_disk.specs.Keeping.{held_by, IsMedium}
use Rattle.cf_disk.proofs.CutSteps.{puts_all}
use Rattle.cf_disk.proofs.power_cuts.cut.Goals as goal

pub returns-in-Drop : goal.returns-in-Drop
returns-in-Drop c = λ (n : ℕ). λ (room : ℕ). λ (medium : IsMedium n room c.args.bytes.now c.args.pages.now).
    subst (λ (choice : Choice). filled n 0 c.drop_pages.new.bytes ≡ left_by choice (held_by n c.args.bytes.now c.args.pages.now)) (sym c.in-Drop.is)
    (puts_all c.args.pages.now n room c.args.bytes.now c.drop_pages.new.bytes medium c.drop_pages.auto.bytes c.drop_pages.ensures)

pub returns-in-Mix : goal.returns-in-Mix
returns-in-Mix c = λ (n : ℕ). λ (room : ℕ). λ (medium : IsMedium n room c.args.bytes.now c.args.pages.now).
    subst (λ (choice : Choice). filled n 0 c.mix_pages.new.bytes ≡ left_by choice (held_by n c.args.bytes.now c.args.pages.now)) (sym c.in-Mix.is)
    (c.mix_pages.ensures n room medium)
