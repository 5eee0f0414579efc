use Rattle.cf_ask_rule.proofs.Flags.{is_seen}
use Rattle.cf_ask_rule.proofs.sights.Sight.new.Goals as goal

pub returns : goal.returns
returns c = is_seen c.args.v.now.here.now c.args.v.now.valid.now c.args.v.now.modified.now _ _ c.args.v.now.size c.args.v.now.base c.args.v.now.validate c.args.v.now.full c.args.v.now.populated c.in_ok-absent.ensures.absent c.in_ok-bare.ensures.lacks
