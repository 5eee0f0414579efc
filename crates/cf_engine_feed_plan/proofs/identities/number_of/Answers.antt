use Rattle.std.proofs.Common.{◌+◌, ◌*◌, List, ℕ, arith, drop, get_or, sym, subst}
use Rattle.std.proofs.Math.ListN.{drop_of_length-le}
use Rattle.std.proofs.lemmas.List.{drop_more}
use Rattle.cf_model.specs.Words.{number_from, number_of}
use Rattle.cf_engine_feed_plan.proofs.Capped.{Alike, alike_from_small, alike_on, capped_more, then_alike}
use Rattle.cf_engine_feed_plan.proofs.identities.number_of.Goals as goal

pub loop-byte-preserved : goal.loop-byte-preserved
loop-byte-preserved c =
    let b : ℕ = get_or c.args.bytes.now c.loop-byte.byte-index 0 in
    let more : Alike c.with_byte-number.result (c.loop-byte.number * 256 + b) =
    subst (λ (n : ℕ). Alike n (c.loop-byte.number * 256 + b)) (sym c.with_byte-number.ensures) (capped_more c.loop-byte.number b) in (
      omega (arith, c.with_byte-number.ensures),
      then_alike _ (number_from (c.loop-byte.number * 256 + b) (drop (c.loop-byte.byte-index + 1) c.args.bytes.now)) _
          (alike_on (drop (c.loop-byte.byte-index + 1) c.args.bytes.now) _ (c.loop-byte.number * 256 + b) more)
          (subst (λ (l : List ℕ). Alike (number_from c.loop-byte.number l) (number_of c.args.bytes.now)) (drop_more c.args.bytes.now c.loop-byte.byte-index 0 c.loop-byte-test.true) c.loop-byte.invariant.1),
    )

pub returns : goal.returns
returns c =
    alike_from_small c.loop-byte.number (number_of c.args.bytes.now) c.loop-byte.invariant.0
    (subst (λ (l : List ℕ). Alike (number_from c.loop-byte.number l) (number_of c.args.bytes.now)) (drop_of_length-le c.args.bytes.now c.loop-byte-test.false) c.loop-byte.invariant.1)
