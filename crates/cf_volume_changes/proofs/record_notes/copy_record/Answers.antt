use Rattle.std.proofs.Common.{None}
use Rattle.cf_volume_changes.proofs.NotedKeys.{found_short}
use Rattle.cf_volume_changes.proofs.record_notes.copy_record.Goals as goal

pub returns-clause-short : goal.returns-clause-short
returns-clause-short c = found_short None c.args.records.now c.args.record.now.key c.args.record.now c.image_len.ensures.rise c.requires
