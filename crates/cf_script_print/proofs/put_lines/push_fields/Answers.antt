use Rattle.std.proofs.Common.{arith}
use Rattle.cf_script_print.proofs.Bytes.{all_written, field_text, fields_flat}
use Rattle.cf_script_print.proofs.Loops.{one_written}
use Rattle.cf_script_print.proofs.put_lines.push_fields.Goals as goal

pub loop-field-preserved : goal.loop-field-preserved
loop-field-preserved c = one_written field_text c.args.fields.now c.loop-field.field-index c.field-item.result _ _ _ _ c.loop-field-test.true c.field-item.is c.in_ok-push_field.ensures c.loop-field.invariant

pub returns : goal.returns
returns c = all_written field_text c.args.fields.now c.loop-field.field-index c.args.text.now.items c.loop-field.text.items _ (let end = c.loop-field-test.false in omega arith) c.loop-field.invariant (fields_flat c.args.fields.now)
