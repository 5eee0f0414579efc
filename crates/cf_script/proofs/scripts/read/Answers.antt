use Rattle.std.proofs.lemmas.Result.{IfErr-weaker, IfOk-weaker, MatchResult-from_both}
use Rattle.cf_script.specs.Script.{lines_of}
use Rattle.cf_script.proofs.FitsBack.{all_of}
use Rattle.cf_script.proofs.OneReading.{events_once, not_refused}
use Rattle.cf_script.proofs.scripts.read.Goals as goal

pub returns-clause-of : goal.returns-clause-of
returns-clause-of c = IfOk-weaker c.read_lines.result _ _ (λ events is. all_of c.args.mode c.args.text.now events.items is) c.read_lines.ensures.ok

pub returns-clause-complete : goal.returns-clause-complete
returns-clause-complete c = λ events is. MatchResult-from_both c.read_lines.result _ _
    (IfOk-weaker c.read_lines.result _ _ (λ got ok. events_once c.args.mode _ _ _ ok.0 is.0) c.read_lines.ensures.ok)
    (IfErr-weaker c.read_lines.result _ _ (λ fail cause. not_refused c.args.mode (lines_of c.args.text.now) fail cause events is.0 is.1) c.read_lines.ensures.cause)
