use Rattle.std.proofs.Common.{ℕ, Bool, cond, filter, map, not, ◌≡◌, ◌∙◌, sym, subst}
use Rattle.std.specs.Prelude.{IfOk}
use Rattle.cf_ranges.specs.Positions.{touches}
use Rattle.cf_volume_changes.proofs.emptied_blocks.gone_after.Goals as goal

pub returns-then-takes_bytes : goal.returns-then-takes_bytes
returns-then-takes_bytes c =
    subst (λ (t : Bool). IfOk c.gone_blocks.result (λ v. v.items ≡ filter (λ b. not (touches c.args.here.now b)) (cond t (map (λ (e : ℕ × ℕ). e.0) c.args.pairs.now) c.args.blocks.now)))
    (sym c.if-takes_bytes.true ∙ c.takes_bytes.ensures) c.gone_blocks.ensures

pub returns-else-takes_bytes : goal.returns-else-takes_bytes
returns-else-takes_bytes c =
    subst (λ (t : Bool). IfOk c.untouched.result (λ v. v.items ≡ filter (λ b. not (touches c.args.here.now b)) (cond t (map (λ (e : ℕ × ℕ). e.0) c.args.pairs.now) c.args.blocks.now)))
    (sym c.if-takes_bytes.false ∙ c.takes_bytes.ensures) c.untouched.ensures
