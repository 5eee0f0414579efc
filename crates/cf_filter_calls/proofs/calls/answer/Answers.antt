use Rattle.cf_filter_calls.proofs.Valued.{question_as}
use Rattle.cf_filter_calls.proofs.calls.answer.Goals as goal

pub returns-in-Info : goal.returns-in-Info
returns-in-Info g c = question_as g.S.Steps.sense _ _ _ c.args.question _ c.in-Info.is c.info.ensures

pub returns-in-Ranges : goal.returns-in-Ranges
returns-in-Ranges g c = question_as g.S.Steps.sense _ _ _ c.args.question _ c.in-Ranges.is c.ranges-in-Ranges.ensures

pub returns-in-Used : goal.returns-in-Used
returns-in-Used g c = question_as g.S.Steps.sense _ _ _ c.args.question _ c.in-Used.is c.used.ensures

pub returns-in-Df : goal.returns-in-Df
returns-in-Df g c = question_as g.S.Steps.sense _ _ _ c.args.question _ c.in-Df.is c.df.ensures
