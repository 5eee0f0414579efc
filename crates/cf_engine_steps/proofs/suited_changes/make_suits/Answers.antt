use Rattle.cf_engine_steps.proofs.Suited.{make_by}
use Rattle.cf_engine_steps.proofs.suited_changes.make_suits.Goals as goal

pub returns : goal.returns
returns g c = make_by g.S.Steps.sense c.args.item c.args.parent c.args.name.now c.args.kind c.args.size c.args.identity.now c.args.s.now c.is_next.result c.is_place.result c.if-not-is_next.false c.is_next.ensures
    (c.is_short.ensures c.if-not-is_short.false) c.if-size-gt-MOST_FILE_BYTES.false (c.kind_suits.ensures c.if-not-kind_suits.false) c.is_place.ensures
