use Rattle.cf_table.proofs.TableMeans.{found_pin, no_pin, not_there}
use Rattle.cf_table.proofs.row_lists.pin_of.Goals as goal

pub returns-in-Ok : goal.returns-in-Ok
returns-in-Ok c = found_pin 0 c.args.rows.now c.args.id c.in-Ok.place c.index-rows-place.result c.requires c.in-Ok.ensures.found

pub returns-in-Err : goal.returns-in-Err
returns-in-Err c = no_pin c.args.rows.now c.args.id (not_there c.args.rows.now c.args.id.0 _ c.in-Err.ensures.absent)
