use Rattle.std.proofs.Common.{◌≡◌, ℕ, suc, ◌+◌, ◌-◌, Bool, List, length, get_or, take, drop, ◌∙◌, ap, arith, sym}
use Rattle.cf_disk.specs.Keeping.{IsMedium}
use Rattle.cf_disk.proofs.CutSteps.{mixed_clean, mixed_kept}
use Rattle.cf_disk.proofs.power_cuts.mix_page.Goals as goal

pub copy_flags-requires-clause-page : goal.copy_flags-requires-clause-page
copy_flags-requires-clause-page c =
    let o = c.args.pages.now in
    let used : get_or o.slots.items c.args.page 0 ≡ suc (c.number_at-slot.result - 1) =
    omega (arith, c.number_at-slot.ensures, ap (λ (l : List ℕ). get_or l c.args.page 0) c.deref.ensures.value, c.if-slot-eq0.false) in
    omega (arith, (c.requires.sound.back c.args.page (c.number_at-slot.result - 1) used).0, c.requires.sound.written_size)

pub returns-then-slot-eq0 : goal.returns-then-slot-eq0
returns-then-slot-eq0 c = λ (n : ℕ). λ (room : ℕ). λ (first : List ℕ). λ (size : length first ≡ length c.args.bytes.now). λ (medium : IsMedium n room first c.args.pages.now).
    mixed_clean c.args.pages.now n room c.args.page c.args.state first c.args.bytes.now medium size
    (sym (c.number_at-slot.ensures ∙ ap (λ (l : List ℕ). get_or l c.args.page 0) c.deref.ensures.value) ∙ c.if-slot-eq0.true)

pub returns : goal.returns
returns c = λ (n : ℕ). λ (room : ℕ). λ (first : List ℕ). λ (size : length first ≡ length c.args.bytes.now). λ (medium : IsMedium n room first c.args.pages.now).
    let o = c.args.pages.now in
    let k : ℕ = c.number_at-slot.result - 1 in
    let used : get_or o.slots.items c.args.page 0 ≡ suc (c.number_at-slot.result - 1) =
    omega (arith, c.number_at-slot.ensures, ap (λ (l : List ℕ). get_or l c.args.page 0) c.deref.ensures.value, c.if-slot-eq0.false) in
    let start : c.number_at-start.result ≡ get_or o.starts.items (c.number_at-slot.result - 1) 0 =
    c.number_at-start.ensures ∙ ap (λ (l : List ℕ). get_or l (c.number_at-slot.result - 1) 0) c.deref-2.ensures.value in
    let long : c.number_at-start.result + c.min-len.result - c.number_at-start.result ≡ c.min-len.result = omega arith in
    mixed_kept o n room c.args.page c.args.state first c.args.bytes.now medium size k c.number_at-start.result c.min-len.result c.mix_part.result
    (take (c.number_at-start.result + c.min-len.result - c.number_at-start.result) (drop c.number_at-start.result c.deref-3.result.now)) c.mix_part.new.bytes
    (take c.min-len.result c.copy_flags.new.out)
    c.requires.front used start c.min-len.ensures
    (λ j. take (long j) (drop c.number_at-start.result (c.deref-3.ensures.value j))) (ap (λ (l : List Bool). take c.min-len.result l) c.copy_flags.ensures)
    c.mix_part.ensures.bytes c.mix_part.ensures.state
