use Rattle.std.proofs.Common.{◌++◌, ◌∙◌, List, ℕ, ap, length}
use Rattle.cf_model.specs.Words.{in_bytes}
use Rattle.cf_table.proofs.Fields.{last_four}
use Rattle.cf_table.proofs.TableMeans.{on_ok_map}
use Rattle.cf_volume_image.proofs.part_writes.put_count_of.Goals as goal

pub returns : goal.returns
returns c = on_ok_map c.put_4.result _ _ (λ puts.
    puts ∙ ap (λ (n : ℕ). c.args.out.now ++ in_bytes 4 n) c.count_of.ensures ∙ ap (λ (l : List ℕ). c.args.out.now ++ l) (last_four (length c.args.records.now))) c.put_4.ensures
