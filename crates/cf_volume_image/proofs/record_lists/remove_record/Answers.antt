use Rattle.std.proofs.Common.{◌-◌, List, subst, sym}
use Rattle.cf_base.specs.declared.answers.AuxRecord.{AuxRecord}
use Rattle.cf_volume_image.specs.RecordLists.{AreKept}
use Rattle.cf_volume_image.proofs.RecordPlaces.{kept_without, len_none, len_some, less_there, remove_nowhere, remove_there, split}
use Rattle.cf_volume_image.proofs.record_lists.remove_record.Goals as goal

pub len_at-requires : goal.len_at-requires
len_at-requires c = c.requires.rise

pub remove-requires : goal.remove-requires
remove-requires c = split c.args.key.now c.args.records.now c.requires.rise

pub overflow_sub-result : goal.overflow_sub-result
overflow_sub-result c = less_there c.args.key.now c.args.records.now c.requires.rise c.args.len c.in-Some.less c.requires.len c.in-Some.ensures

pub returns-in-Some-clause-kept : goal.returns-in-Some-clause-kept
returns-in-Some-clause-kept c =
    subst (λ (l : List AuxRecord). AreKept l (c.args.len - c.in-Some.less)) (sym (remove_there c.args.key.now c.args.records.now c.requires.rise c.remove.new.self (len_some _ c.in-Some.less c.in-Some.ensures) c.remove.ensures))
    (kept_without c.args.key.now c.args.records.now c.requires.rise c.args.len c.in-Some.less c.requires.len c.in-Some.ensures)

pub returns-in-Some-clause-removes : goal.returns-in-Some-clause-removes
returns-in-Some-clause-removes c = remove_there c.args.key.now c.args.records.now c.requires.rise c.remove.new.self (len_some _ c.in-Some.less c.in-Some.ensures) c.remove.ensures

pub returns-in-None-clause-removes : goal.returns-in-None-clause-removes
returns-in-None-clause-removes c = remove_nowhere c.args.key.now c.args.records.now c.requires.rise (len_none _ c.in-None.ensures)
