use Rattle.cf_collections.proofs.Spares.{take_before}
use Rattle.cf_collections.proofs.spare_lists.take_in_front.Goals as goal

pub returns-clause-takes : goal.returns-clause-takes
returns-clause-takes g c = take_before c.args.places.now c.shift_back.new.part c.args.spare c.args.place c.args.filler c.requires c.shift_back.ensures.shifts
