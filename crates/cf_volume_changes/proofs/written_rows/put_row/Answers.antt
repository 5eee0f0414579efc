use Rattle.std.proofs.Common.{◌∙◌, sym}
use Rattle.cf_volume_changes.proofs.LowEnds.{row_room}
use Rattle.cf_volume_changes.proofs.Noted.{on_ok_map}
use Rattle.cf_volume_changes.proofs.written_rows.put_row.Goals as goal

pub returns-clause-room : goal.returns-clause-room
returns-clause-room c = on_ok_map c.put_row.result (λ is. row_room c.args.row c.requires (sym c.has_low_ends.ensures ∙ c.if-not-has_low_ends.false)) c.put_row.ensures.ok
