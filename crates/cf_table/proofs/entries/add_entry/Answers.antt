use Rattle.std.proofs.Common.{◌∙◌}
use Rattle.cf_table.proofs.EntryPlaces.{put_there, split}
use Rattle.cf_table.proofs.TableMeans.{on_ok_map}
use Rattle.cf_table.proofs.entries.add_entry.Goals as goal

pub insert-requires : goal.insert-requires
insert-requires c = split c.args.entry c.args.entries.now c.requires

pub returns-clause-ok : goal.returns-clause-ok
returns-clause-ok c = on_ok_map c.insert.result _ _ (λ h. h ∙ put_there c.args.entry c.args.entries.now) c.insert.ensures.ok
