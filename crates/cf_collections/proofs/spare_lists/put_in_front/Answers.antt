use Rattle.cf_collections.proofs.Spares.{put_before}
use Rattle.cf_collections.proofs.spare_lists.put_in_front.Goals as goal

pub returns-clause-puts : goal.returns-clause-puts
returns-clause-puts g c = put_before c.args.places.now c.shift_to_front.new.part c.args.spare c.args.place c.args.item c.requires.spare c.requires.place c.shift_to_front.ensures
