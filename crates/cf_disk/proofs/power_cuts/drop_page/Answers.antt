use Rattle.std.proofs.Common.{◌≡◌, ℕ, ◌+◌, ◌-◌, ◌*◌, List, length, get_or, min, take, drop, ◌∙◌, ap, arith}
use Rattle.cf_disk.specs.Splice.{over}
use Rattle.cf_disk.proofs.CutSteps.{put_page}
use Rattle.cf_disk.proofs.MarkLaws.{page_inside}
use Rattle.cf_disk.proofs.power_cuts.drop_page.Goals as goal

pub overflow_mul-number_at : goal.overflow_mul-number_at
overflow_mul-number_at c =
    let o = c.args.pages.now in
    omega (
      arith,
      c.number_at.ensures ∙ ap (λ (l : List ℕ). get_or l c.args.number 0) c.deref.ensures.value,
      page_inside o c.requires.sound c.args.number c.requires.number,
      c.requires.sound.fits,
      c.requires.sound.small,
    )

pub returns : goal.returns
returns c =
    let o = c.args.pages.now in
    let start : c.number_at-start.result ≡ get_or o.starts.items c.args.number 0 = c.number_at-start.ensures ∙ ap (λ (l : List ℕ). get_or l c.args.number 0) c.deref-2.ensures.value in
    let long : c.number_at-start.result + c.min.result - c.number_at-start.result ≡ c.min.result = omega arith in
    put_page o c.args.number c.number_at-start.result c.min-low.result c.min.result c.args.bytes.now c.put.new.bytes c.requires.sound c.requires.number start
    (c.min-low.ensures ∙ ap (λ (p : ℕ). min (p * 4096) (length c.args.bytes.now)) (c.number_at.ensures ∙ ap (λ (l : List ℕ). get_or l c.args.number 0) c.deref.ensures.value))
    c.min.ensures (c.put.ensures ∙ (λ j. over c.min-low.result (take (long j) (drop c.number_at-start.result (c.deref-3.ensures.value j))) c.args.bytes.now))
