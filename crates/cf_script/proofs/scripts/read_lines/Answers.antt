use Rattle.std.proofs.Common.{arith, sym, ◌∙◌}
use Rattle.cf_script.proofs.LinesRead.{read_more, read_skip}
use Rattle.cf_script.proofs.scripts.read_lines.Goals as goal

pub loop-rest-preserved-in-Continue-1 : goal.loop-rest-preserved-in-Continue-1
loop-rest-preserved-in-Continue-1 c =
    let shorter = c.next_line.ensures.shorter in
    let h = rw c.next_line.ensures.line at c.loop-rest.invariant.0 in
    let few = h.few in
    let is = rw (c.in-Ok-Some.is, c.in-Ok-Some.field-0-is) at c.event_of_line.ensures in
    (rw c.in_ok-push.ensures.items (read_more _ _ _ _ _ _ _ h (sym c.is_event_line.ensures ∙ c.if-is_event_line.true) is.0 (omega (arith, c.if-len-eq-MOST_EVENTS.false, c.len.ensures, c.loop-rest.events.ok))), omega arith)

pub loop-rest-preserved : goal.loop-rest-preserved
loop-rest-preserved c =
    let shorter = c.next_line.ensures.shorter in
    let h = rw c.next_line.ensures.line at c.loop-rest.invariant.0 in
    (read_skip _ _ _ _ _ _ h (sym c.is_event_line.ensures ∙ c.if-is_event_line.false), omega arith)
