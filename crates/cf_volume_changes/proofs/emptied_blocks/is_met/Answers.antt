use Rattle.cf_volume_changes.proofs.BlocksAhead.{first_decides}
use Rattle.cf_volume_changes.proofs.emptied_blocks.is_met.Goals as goal

pub returns-in-len1-up : goal.returns-in-len1-up
returns-in-len1-up c = first_decides c.args.block c.args.runs.now (record { start = 0; len = 0 }) c.in-len1-up.len_at_least c.requires.runs c.requires.ends
