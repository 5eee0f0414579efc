use Rattle.std.proofs.Common.{◌+◌, ◌||◌, ◌∙◌, ap, drop, sym}
use Rattle.std.specs.List.{list_any}
use Rattle.cf_ask_rule.proofs.Places.{any_places}
use Rattle.cf_ask_rule.proofs.Wanted.{no_run, run_wanted}
use Rattle.cf_model.specs.Words.{counting}
use Rattle.cf_ask_rule.proofs.asks.is_any_wanted.Goals as goal

pub loop-run-init : goal.loop-run-init
loop-run-init c = λ w h. sym (any_places w c.args.runs.now)

pub loop-run-preserved : goal.loop-run-preserved
loop-run-preserved c = λ w h.
    ap (λ b. b || list_any (λ r. list_any w (counting r.start r.len)) (drop (c.loop-run.run-index + 1) c.args.runs.now)) (sym c.if-is_run_wanted.false)
    ∙ run_wanted w c.loop-run.run-index c.args.runs.now _ c.is_run_wanted.result c.loop-run-test.true (c.is_run_wanted.ensures w h) ∙ c.loop-run.invariant w h

pub returns-then-is_run_wanted : goal.returns-then-is_run_wanted
returns-then-is_run_wanted c = λ w h.
    ap (λ b. b || list_any (λ r. list_any w (counting r.start r.len)) (drop (c.loop-run.run-index + 1) c.args.runs.now)) (sym c.if-is_run_wanted.true)
    ∙ run_wanted w c.loop-run.run-index c.args.runs.now _ c.is_run_wanted.result c.loop-run-test.true (c.is_run_wanted.ensures w h) ∙ c.loop-run.invariant w h

pub returns : goal.returns
returns c = λ w h. no_run w c.loop-run.run-index c.args.runs.now c.loop-run-test.false ∙ c.loop-run.invariant w h
