use Rattle.std.proofs.Common.{◌++◌, ◌∷◌, ◌+◌, ◌∙◌, List, ap, arith, drop, sym}
use Rattle.std.proofs.lemmas.List.{drop_more}
use Rattle.cf_model.specs.Missing.{Wait}
use Rattle.cf_waits.proofs.Turning.{rising_cut}
use Rattle.cf_waits.specs.Rising.{wait_key}
use Rattle.cf_waits.proofs.turns.add_waits.Goals as goal

pub add-requires-clause-rising : goal.add-requires-clause-rising
add-requires-clause-rising c =
    rising_cut wait_key _ c.loop-w.book.waits c.w-item.result (drop (c.loop-w.w-index + 1) c.args.begun.now) c.requires.rising
    (ap (λ (l : List Wait). c.loop-w.book.waits ++ l) (ap (λ (w : Wait). w ∷ drop (c.loop-w.w-index + 1) c.args.begun.now) c.w-item.is ∙ sym (drop_more c.args.begun.now c.loop-w.w-index c.w-item.result (omega (arith, c.loop-w-test.true)))) ∙ c.loop-w.invariant.all)
