use Rattle.std.proofs.Common.{sym, ◌∙◌, subst, List, ℕ}
use Rattle.cf_base.specs.declared.changes.Change.TheVariants as change
use Rattle.cf_filter_calls.specs.Handles.{PutsIn, put_in}
use Rattle.cf_filter_steps.specs.Answering.{Answers}
use Rattle.cf_filter_calls.proofs.Wrote.{write_on}
use Rattle.cf_filter_calls.proofs.writes.write_bytes.Goals as goal

pub returns : goal.returns
returns g c = write_on g.S.Steps.sense c.args.at c.args.bytes.now c.args.item c.args.s.now c.put_in.new.s c.put_in.result (sym c.is_empty.ensures ∙ c.if-is_empty.false) (sym c.is_too_far.ensures ∙ c.if-is_too_far.false)
    (subst (λ (bytes : List ℕ). Answers g.S.Steps.sense (PutsIn c.args.item (change.Write c.args.item c.args.at bytes)) (put_in c.args.item (change.Write c.args.item c.args.at bytes)) c.args.s.now c.put_in.result c.put_in.new.s) c.in_ok-bytes.ensures c.put_in.ensures)
