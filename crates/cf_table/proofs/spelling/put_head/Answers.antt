use Rattle.std.proofs.Common.{◌++◌, ◌∙◌, ◌∷◌, ℕ, ap}
use Rattle.std.specs.Prelude.{unwrap_or}
use Rattle.cf_model.specs.Books.{usn_bytes}
use Rattle.cf_model.specs.Rows.{flags_of, pin_byte}
use Rattle.cf_model.specs.Words.{in_bytes}
use Rattle.cf_table.specs.Spelling.{row_value}
use Rattle.cf_table.proofs.Fields.{eight_joined}
use Rattle.cf_table.proofs.TableMeans.{on_ok_map}
use Rattle.cf_table.proofs.spelling.put_head.Goals as goal

pub returns : goal.returns
returns c = on_ok_map c.put_8-3.result _ _ (λ last.
    eight_joined c.args.out.now c.put_8.new.out c.put_8-2.new.out c.put_2.new.out c.put_pin_and_size.new.out c.put_4.new.out c.put_usn.new.out c.put_usn-2.new.out c.put_8-3.new.out
    (in_bytes 8 c.args.row.now.id.0) (in_bytes 8 c.args.row.now.parent.0) (in_bytes 2 (flags_of (row_value c.args.row.now))) (pin_byte c.args.row.now.pin ∷ in_bytes 4 c.args.row.now.size)
    (in_bytes 4 (unwrap_or c.args.row.now.base 0)) (usn_bytes c.args.row.now.number) (usn_bytes c.args.row.now.anchor) (in_bytes 8 c.args.row.now.last)
    c.in_ok-put_8.ensures c.in_ok-put_8-2.ensures (c.in_ok-put_2.ensures ∙ ap (λ (v : ℕ). c.put_8-2.new.out ++ in_bytes 2 v) c.flags.ensures) c.in_ok-put_pin_and_size.ensures
    (c.in_ok-put_4.ensures ∙ ap (λ (v : ℕ). c.put_pin_and_size.new.out ++ in_bytes 4 v) c.unwrap_or.ensures) c.in_ok-put_usn.ensures c.in_ok-put_usn-2.ensures last) c.put_8-3.ensures
