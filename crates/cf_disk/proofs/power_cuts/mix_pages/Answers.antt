use Rattle.std.proofs.Common.{◌≡◌, ◌⊎◌, inl, inr, ℕ, ◌+◌, ◌*◌, ◌<◌, ◌≤◌, List, length, get_or, refl, sym, ◌∙◌, ap, arith}
use Rattle.std.proofs.lemmas.Bool.{cases_lt}
use Rattle.cf_disk.specs.Fronts.{filled}
use Rattle.cf_disk.specs.Images.{mixed_after}
use Rattle.cf_disk.specs.Keeping.{old_bytes, written_places, IsMedium}
use Rattle.cf_disk.proofs.CutSteps.{mixed_begin, mixed_end}
use Rattle.cf_disk.proofs.MarkLaws.{page_inside}
use Rattle.cf_disk.proofs.power_cuts.mix_pages.Goals as goal

pub loop-page-preserved : goal.loop-page-preserved
loop-page-preserved c = λ (n : ℕ). λ (room : ℕ). λ (medium : IsMedium n room c.args.bytes.now c.args.pages.now).
    let next : (c.loop-page.page + 1) * 4096 ≡ c.loop-page.page * 4096 + 4096 = omega arith in
    ap (λ (at : ℕ). mixed_after at c.mix_page-state.result (filled n 0 c.mix_page-state.new.bytes) (old_bytes n c.args.bytes.now c.args.pages.now) (written_places n c.args.pages.now)) next
    ∙ c.mix_page-state.ensures n room c.args.bytes.now (sym c.loop-page.auto.bytes) medium
    ∙ c.loop-page.invariant n room medium

pub end_of-requires : goal.end_of-requires
end_of-requires c = λ (k : ℕ). λ lt.
    let o = c.args.pages.now in
    let low : k < length o.pages.items = omega (arith, lt, ap length c.deref.ensures.value) in
    omega (arith, ap (λ (l : List ℕ). get_or l k 0) c.deref.ensures.value, page_inside o c.requires k low, c.requires.fits, c.requires.small)

pub loop-page-init : goal.loop-page-init
loop-page-init c = λ (n : ℕ). λ (room : ℕ). λ (medium : IsMedium n room c.args.bytes.now c.args.pages.now).
    mixed_begin c.args.pages.now n room 0 c.args.seed c.args.bytes.now c.args.bytes.now medium refl c.lowest-page.result
    (λ k lt. omega (arith, c.lowest-page.ensures k (omega (arith, lt, ap length c.deref-2.ensures.value)), ap (λ (l : List ℕ). get_or l k 0) c.deref-2.ensures.value))

pub returns : goal.returns
returns c = λ (n : ℕ). λ (room : ℕ). λ (medium : IsMedium n room c.args.bytes.now c.args.pages.now).
    let past : (length c.loop-page.bytes ≤ c.loop-page.page * 4096) ⊎ (c.end_of.result ≤ c.loop-page.page) = elim (cases_lt c.loop-page.page c.end_of.result) [
      | inl under ↦ inl (omega (arith, under, c.div_ceil.ensures, c.min-end.ensures, c.loop-page-test.false, c.loop-page.auto.bytes))
      | inr behind ↦ inr behind
    ] in
    sym (mixed_end c.args.pages.now n room 0 c.loop-page.state c.args.bytes.now c.loop-page.bytes medium (sym c.loop-page.auto.bytes) c.loop-page.page c.end_of.result
    (λ k lt. omega (arith, c.end_of.ensures k (omega (arith, lt, ap length c.deref.ensures.value)), ap (λ (l : List ℕ). get_or l k 0) c.deref.ensures.value)) past)
    ∙ c.loop-page.invariant n room medium
