use Rattle.std.proofs.Common.{◌≡◌, ◌+◌, ◌≤◌, ℕ, length, replicate, ⊎_elim, ◌∙◌, subst, arith}
use Rattle.cf_disk.specs.Disk.{part}
use Rattle.cf_volume_plain.proofs.Behind.{part_filled, part_zeros}
use Rattle.cf_volume_plain.proofs.blocks.read_block.Goals as goal

pub copy_block-requires : goal.copy_block-requires
copy_block-requires c = ⊎_elim (λ inside. omega (arith, inside, c.told-block)) (λ behind. absurd (omega (arith, behind, c.if-at-bytes.true))) c.requires.whole

pub returns-then-at-bytes : goal.returns-then-at-bytes
returns-then-at-bytes c = λ size fits.
    let inside : c.args.at + 4096 ≤ length c.args.bytes.now = ⊎_elim (λ inside. inside) (λ behind. absurd (omega (arith, behind, c.if-at-bytes.true))) c.requires.whole in
    subst (λ (n : ℕ). c.copy_block.new.block ≡ part c.args.at n c.args.bytes.now) c.told-block c.copy_block.ensures ∙ part_filled size c.args.at 4096 c.args.bytes.now inside

pub returns-else-at-bytes : goal.returns-else-at-bytes
returns-else-at-bytes c = λ size fits.
    subst (λ (n : ℕ). c.clear_block.new.block ≡ replicate n 0) c.told-block c.clear_block.ensures ∙ part_zeros size c.args.at 4096 c.args.bytes.now c.if-at-bytes.false fits
