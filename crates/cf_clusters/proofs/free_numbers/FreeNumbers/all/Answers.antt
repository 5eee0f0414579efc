use Rattle.std.proofs.Common.{ℕ, ◌+◌, ◌/◌, List, ap, subst, sym, ◌∙◌, arith}
use Rattle.cf_clusters.specs.WordBits.{bits_in, IsWordSet}
use Rattle.cf_clusters.proofs.WordSets.{full_bits, full_set, resized}
use Rattle.cf_clusters.proofs.free_numbers.FreeNumbers.all.Goals as goal

pub invariant_of-result : goal.invariant_of-result
invariant_of-result c =
    let n = c.args.count in
    let words = resized (n / 64 + 1) c.in_ok-words.words.len 18446744073709551615 c.in_ok-words.words.items c.resize.new.self.items c.in_ok-words.ensures.items (omega (arith, c.in_ok-words.ensures.len)) c.in_ok-resize.ensures.items in
    subst (λ (l : List ℕ). IsWordSet n l c.in_ok-used.used) (sym words) (full_set n c.in_ok-used.used (omega (arith, c.ranges.count.fits)) c.in_ok-used.ensures)

pub returns : goal.returns
returns c =
    let n = c.args.count in
    let words = resized (n / 64 + 1) c.in_ok-words.words.len 18446744073709551615 c.in_ok-words.words.items c.resize.new.self.items c.in_ok-words.ensures.items (omega (arith, c.in_ok-words.ensures.len)) c.in_ok-resize.ensures.items in
    ap (λ (l : List ℕ). bits_in n l) words ∙ full_bits n
