-- Contents that are being read, as an image.
use Rattle.std.specs.Prelude.{map}
use Rattle.cf_model.specs.Formats.{Header, Image}
use Rattle.cf_table.specs.Spelling.{row_value}
use Rattle.cf_volume_image.specs.declared.drafts.Draft.{Draft}

abbrev pub draft_header : Draft → Header
draft_header d = record { last = d.last; count = d.count; next = d.next; clock = d.clock }

abbrev pub draft_image : Draft → Image
draft_image d = record { header = draft_header d; rows = map row_value d.rows; records = d.records }
