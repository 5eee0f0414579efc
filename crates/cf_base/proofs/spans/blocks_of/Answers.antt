use Rattle.std.proofs.Common.{◌*◌, inl, inr, arith}
use Rattle.std.proofs.lemmas.Bool.{cases_lt}
use Rattle.cf_base.proofs.spans.blocks_of.Goals as goal

pub returns-clause-touched : goal.returns-clause-touched
returns-clause-touched c = λ k h. elim (cases_lt (4096 * k) c.args.span.start) [
  | inl low ↦ (c.args.span.start, (omega arith, omega arith), omega arith)
  | inr high ↦ (4096 * k, (omega arith, omega arith), omega arith)
]
