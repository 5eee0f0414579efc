use Rattle.std.proofs.Common.{arith}
use Rattle.cf_script_words.proofs.DataMeans.{not_count, count_reads}
use Rattle.cf_script_words.proofs.byte_words.times.Goals as goal

pub returns-then-count-eq0 : goal.returns-then-count-eq0
returns-then-count-eq0 c =
    let is = c.in-Some.ensures in
    not_count c.args.word.now c.in-Some.count is.0 (λ one most. absurd (omega (arith, c.then-count-eq0.either)))

pub returns : goal.returns
returns c = count_reads c.args.word.now c.in-Some.count c.in-Some.ensures (omega (arith, c.if-count-eq0.false)) (omega (arith, c.if-count-gt-MOST_TIMES.false))
