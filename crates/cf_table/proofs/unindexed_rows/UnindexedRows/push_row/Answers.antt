use Rattle.std.proofs.Common.{ap, ◌∙◌}
use Rattle.std.proofs.lemmas.Result.{on_ok_weaker}
use Rattle.cf_table.specs.Tables.{with_row}
use Rattle.cf_table.proofs.RowSlots.{put_last}
use Rattle.cf_table.proofs.unindexed_rows.UnindexedRows.push_row.Goals as goal

pub returns-clause-ok : goal.returns-clause-ok
returns-clause-ok c =
    on_ok_weaker c.put_slot.result (λ puts. puts ∙ ap (with_row c.args.row) c.self.view_is ∙ put_last c.args.row c.args.self.now c.requires.above) c.put_slot.ensures.puts
