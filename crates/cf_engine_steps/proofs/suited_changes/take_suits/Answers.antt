use Rattle.cf_engine_steps.proofs.Suited.{take_by}
use Rattle.cf_engine_steps.proofs.suited_changes.take_suits.Goals as goal

pub returns : goal.returns
returns g c = take_by g.S.Steps.sense c.args.item c.args.identity.now c.args.size c.args.s.now c.is_placeholder_file.result (c.is_short.ensures c.if-not-is_short.false) c.if-size-gt-MOST_FILE_BYTES.false c.is_placeholder_file.ensures
