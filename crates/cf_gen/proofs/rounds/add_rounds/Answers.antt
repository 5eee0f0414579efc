use Rattle.std.proofs.Common.{◌+◌, ◌-◌, ◌++◌, sym, ap, arith, ◌∙◌, append_assoc, ℕ}
use Rattle.std.proofs.lemmas.List.{append-nil}
use Rattle.cf_gen.specs.Scripts.{round, rounds}
use Rattle.cf_gen.proofs.Rows.{round_steps, rounds_end, rounds_more}
use Rattle.cf_gen.proofs.rounds.add_rounds.Goals as goal

pub loop-preserved : goal.loop-preserved
loop-preserved c =
    let g = c.loop.g in
    let k : ℕ = c.loop.counter in
    let steps = round_steps g in
    record {
      lines = rw (c.in_ok-add_round.ensures.lines, c.in_ok-add_round.ensures.after)
          (append_assoc c.loop.lines.items (round g).0 (rounds (c.args.count - (k + 1)) (round g).1)
          ∙ ap (λ t. c.loop.lines.items ++ t) (sym (rounds_more c.args.count k g c.loop-test.true)) ∙ c.loop.invariant.lines);
      epoch = rw c.in_ok-add_round.ensures.after (omega (arith, steps.epoch, c.loop.invariant.epoch, c.loop-test.true));
      first = rw c.in_ok-add_round.ensures.after (omega (arith, steps.first, c.loop.invariant.first, c.loop-test.true));
    }

pub returns : goal.returns
returns c =
    let end = rounds_end c.args.count c.loop.counter c.loop.g (omega (arith, c.loop-test.false)) in
    sym (append-nil c.loop.lines.items) ∙ ap (λ t. c.loop.lines.items ++ t) (sym end) ∙ c.loop.invariant.lines
