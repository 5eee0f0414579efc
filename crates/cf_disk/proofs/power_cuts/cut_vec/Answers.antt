use Rattle.std.proofs.Common.{◌≡◌, ℕ, List, length, drop, ◌∙◌, ap, subst, arith}
use Rattle.std.proofs.lemmas.List.{take_at}
use Rattle.cf_disk.specs.Fronts.{filled}
use Rattle.cf_disk.specs.Images.{left_by}
use Rattle.cf_disk.specs.Keeping.{held_by, IsMedium}
use Rattle.cf_disk.proofs.power_cuts.cut_vec.Goals as goal

pub returns-clause-items : goal.returns-clause-items
returns-clause-items c = λ (n : ℕ). λ (room : ℕ). λ (medium : IsMedium n room c.args.bytes.now.items c.args.pages.now).
    ap (λ (l : List ℕ). filled n 0 l) (take_at c.cut.new.bytes (drop (length c.cut.new.bytes) c.args.bytes.now.items) c.args.bytes.now.len
    (omega (arith, c.cut.auto.bytes, ap length c.deref_mut.ensures.value, c.args.bytes.now.ok)))
    ∙ subst (λ (old : List ℕ). IsMedium n room old c.args.pages.now → filled n 0 c.cut.new.bytes ≡ left_by c.args.choice (held_by n old c.args.pages.now)) c.deref_mut.ensures.value (c.cut.ensures n room) medium
