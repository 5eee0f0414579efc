use Rattle.cf_volume_image.proofs.PayloadPuts.{no_row_count, no_row_put, room_of, row_count, row_put}
use Rattle.cf_volume_image.proofs.payloads.put_row.Goals as goal

pub returns-in-None-clause-spelled : goal.returns-in-None-clause-spelled
returns-in-None-clause-spelled c = no_row_put c.args.rows.now.rows c.args.id c.args.out.now c.in-None.ensures

pub returns-in-None-clause-count : goal.returns-in-None-clause-count
returns-in-None-clause-count c = no_row_count c.args.rows.now.rows c.args.id c.in-None.ensures

pub spell-requires : goal.spell-requires
spell-requires c = room_of c.args.rows.now.rows c.args.id c.in-Some.row.now c.requires c.in-Some.ensures

pub returns-in_ok-spell-in-Some-clause-spelled : goal.returns-in_ok-spell-in-Some-clause-spelled
returns-in_ok-spell-in-Some-clause-spelled c = row_put c.args.rows.now.rows c.args.id c.in-Some.row.now c.args.out.now c.spell.new.out c.in-Some.ensures c.in_ok-spell-in-Some.ensures

pub returns-in_ok-spell-in-Some-clause-count : goal.returns-in_ok-spell-in-Some-clause-count
returns-in_ok-spell-in-Some-clause-count c = row_count c.args.rows.now.rows c.args.id c.in-Some.row.now c.in-Some.ensures
