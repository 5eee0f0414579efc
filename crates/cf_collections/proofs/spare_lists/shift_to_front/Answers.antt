use Rattle.cf_collections.proofs.Spares.{set_last}
use Rattle.cf_collections.proofs.spare_lists.shift_to_front.Goals as goal

pub returns : goal.returns
returns g c = set_last c.args.part.now c.rotate_left.new.self c.args.item c.requires c.rotate_left.ensures.after
