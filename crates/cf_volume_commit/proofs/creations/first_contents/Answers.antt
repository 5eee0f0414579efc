use Rattle.cf_volume_commit.proofs.NewVolume.{first_is, first_room, root_row}
use Rattle.cf_volume_commit.proofs.creations.first_contents.Goals as goal

pub returns-clause-image : goal.returns-clause-image
returns-clause-image c = first_is c.in_ok-rows.rows c.new-records.result c.has_an_image.ensures.kept c.in_ok-rows.ensures.means c.in_ok-rows.ensures.fresh c.in_ok-rows.ensures.next c.new-records.ensures

pub returns-clause-room : goal.returns-clause-room
returns-clause-room c = first_room c.in_ok-rows.rows.rows c.has_an_image.ensures.kept (root_row c.in_ok-rows.rows.rows c.has_an_image.ensures.kept c.in_ok-rows.ensures.means c.in_ok-rows.ensures.fresh)
