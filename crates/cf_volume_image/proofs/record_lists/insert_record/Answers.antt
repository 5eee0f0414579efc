use Rattle.cf_table.proofs.TableMeans.{on_ok_map}
use Rattle.cf_volume_image.proofs.RecordPlaces.{put_between, split}
use Rattle.cf_volume_image.proofs.record_lists.insert_record.Goals as goal

pub insert_in-requires : goal.insert_in-requires
insert_in-requires c = split c.args.aux.key c.args.records.now c.requires.rise

pub returns-clause-ok : goal.returns-clause-ok
returns-clause-ok c = on_ok_map c.insert_in.result _ _ (λ h. put_between c.args.aux c.args.records.now c.requires.rise c.insert_in.new.self c.requires.absent h) c.insert_in.ensures.ok
