use Rattle.std.proofs.Common.{◌≡◌, arith, false, refl, true}
use Rattle.std.proofs.lemmas.Bool.{le-leb, leb-true}
use Rattle.cf_volume_image.proofs.SetTests.{no_span, span_ends, span_in, span_of_none}
use Rattle.cf_volume_image.proofs.sets.has_span.Goals as goal

pub returns-then-to-from : goal.returns-then-to-from
returns-then-to-from c = (λ yes. span_of_none c.args.runs.now c.args.from c.args.to c.if-to-from.true, λ all. refl)

pub returns-in-None : goal.returns-in-None
returns-in-None c = (λ z. let w : false ≡ true = z in absurd cc, λ all. no_span c.args.runs.now c.args.from c.args.to (omega arith) c.in-None.ensures all)

pub returns-in-Some : goal.returns-in-Some
returns-in-Some c = (
  λ yes. span_in c.args.runs.now c.args.from c.args.to c.in-Some.run' c.in-Some.ensures (leb-true _ _ yes),
  λ all. le-leb _ _ (span_ends c.args.runs.now c.args.from c.args.to c.in-Some.run' c.in-Some.ensures (omega arith) all),
)
