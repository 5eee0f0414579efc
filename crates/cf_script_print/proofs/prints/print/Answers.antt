use Rattle.std.proofs.Common.{◌∙◌}
use Rattle.cf_script_print.specs.Printed.{printed}
use Rattle.cf_script_print.proofs.LinesPrinted.{print_more, print_done}
use Rattle.cf_script_print.proofs.prints.print.Goals as goal

pub loop-rest-preserved : goal.loop-rest-preserved
loop-rest-preserved c = rw (c.in_ok-put_line.ensures, c.event_line-line.ensures) (print_more (printed c.args.events.now) c.loop-rest.text.items c.loop-rest.rest.now c.event-item.result c.in-len1-up.len_at_least c.event-item.is c.loop-rest.invariant)

pub returns : goal.returns
returns c = c.from_vec.ensures ∙ print_done (printed c.args.events.now) c.loop-rest.text.items c.loop-rest.rest.now c.in_default.len_below c.loop-rest.invariant
