use Rattle.std.proofs.Common.{◌≡◌, Bool, List, [], ◌∷◌, ◌++◌, ap, map, sym, ◌∙◌}
use Rattle.cf_check_compare.proofs.ToldLines.{told_end, told_more, told_same}
use Rattle.cf_check_compare.specs.Told.{tellings_before_result}
use Rattle.cf_check_judge.specs.Judge.{is_fault_next, telling_of}
use Rattle.cf_check_model.specs.Reports.{lines_of}
use Rattle.cf_check_compare.proofs.told_faults.by_lines.Goals as goal

pub returns : goal.returns
returns c = told_end c.loop-left.told.items c.loop-left.left.now (tellings_before_result c.args.rest.now) (sym c.goes_on.ensures ∙ c.loop-left-test.false) c.loop-left.invariant

pub loop-left-preserved : goal.loop-left-preserved
loop-left-preserved c =
    told_same c.loop-left.told.items c.loop-left.left.now c.next_line.result.0.now c.next_line.result.1.now (tellings_before_result c.args.rest.now)
    c.next_line.ensures.line (sym c.goes_on.ensures ∙ c.loop-left-test.true) (sym c.is_request.ensures ∙ c.if-is_request.false) c.loop-left.invariant

pub loop-left-preserved-in_ok-push : goal.loop-left-preserved-in_ok-push
loop-left-preserved-in_ok-push c =
    let told = c.loop-left.told.items in
    let after = c.next_line.result.1.now in
    let pushed : c.push.new.self.items ≡ told ++ is_fault_next (lines_of after) ∷ [] = c.in_ok-push.ensures.items ∙ ap (λ (b : Bool). told ++ b ∷ []) c.is_fault_next.ensures in
    ap (λ (all : List Bool). map telling_of all ++ tellings_before_result after) pushed
    ∙ told_more told c.loop-left.left.now c.next_line.result.0.now after (tellings_before_result c.args.rest.now)
    c.next_line.ensures.line (sym c.goes_on.ensures ∙ c.loop-left-test.true) (sym c.is_request.ensures ∙ c.if-is_request.true) c.loop-left.invariant
