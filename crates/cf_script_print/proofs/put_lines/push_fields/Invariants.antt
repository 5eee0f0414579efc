use Rattle.std.proofs.Common.{◌≡◌, ◌++◌, take}
use Rattle.std.specs.List.{flat_map}
use Rattle.cf_script_print.proofs.Bytes.{field_text}
use Rattle.cf_script_print.proofs.put_lines.push_fields.Given as goal

abbrev pub invariant-loop-field : goal.invariant-loop-field
invariant-loop-field l = l.text.items ≡ l.fn.text.items ++ flat_map field_text (take l.field-index l.fields)
