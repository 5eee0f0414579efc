use Rattle.std.proofs.Common.{◌∙◌, ◌-◌, List, ap, arith, subst, sym}
use Rattle.std.specs.Prelude.{option_map}
use Rattle.cf_base.specs.declared.answers.AuxRecord.{AuxRecord}
use Rattle.cf_model.specs.Images.{aux_len}
use Rattle.cf_volume_image.specs.Contents.{record_at}
use Rattle.cf_volume_image.specs.RecordLists.{AreKept}
use Rattle.cf_volume_image.proofs.RecordPlaces.{kept_added, kept_replaced, len_none, len_some, less_there}
use Rattle.cf_volume_image.proofs.record_lists.put_longer.Goals as goal

pub len_at-requires : goal.len_at-requires
len_at-requires c = c.requires.kept.1.rise

pub replace_record-requires-clause-there : goal.replace_record-requires-clause-there
replace_record-requires-clause-there c = len_some _ c.in-Some.less (c.in-Some.ensures ∙ ap (λ k. option_map aux_len (record_at c.args.records.now k)) c.as_slice.ensures)

pub replace_record-requires-clause-rise : goal.replace_record-requires-clause-rise
replace_record-requires-clause-rise c = c.requires.kept.1.rise

pub overflow_sub-result : goal.overflow_sub-result
overflow_sub-result c =
    omega (
      arith,
      c.requires.kept.2,
      less_there c.args.aux.key c.args.records.now c.requires.kept.1.rise c.requires.kept.0 c.in-Some.less c.requires.kept.1.len
          (c.in-Some.ensures ∙ ap (λ k. option_map aux_len (record_at c.args.records.now k)) c.as_slice.ensures),
    )

pub returns-in-Some-clause-kept : goal.returns-in-Some-clause-kept
returns-in-Some-clause-kept c =
    subst (λ (l : List AuxRecord). AreKept l (c.args.len - c.in-Some.less)) (sym c.replace_record.ensures)
    (kept_replaced c.args.aux c.args.records.now c.requires.kept.1.rise c.args.len c.in-Some.less c.requires.short c.requires.kept (c.in-Some.ensures ∙ ap (λ k. option_map aux_len (record_at c.args.records.now k)) c.as_slice.ensures))

pub insert_record-requires-clause-absent : goal.insert_record-requires-clause-absent
insert_record-requires-clause-absent c = len_none _ (c.in-None.ensures ∙ ap (λ k. option_map aux_len (record_at c.args.records.now k)) c.as_slice.ensures)

pub insert_record-requires-clause-rise : goal.insert_record-requires-clause-rise
insert_record-requires-clause-rise c = c.requires.kept.1.rise

pub returns-in_ok-insert_record-in-None-clause-kept : goal.returns-in_ok-insert_record-in-None-clause-kept
returns-in_ok-insert_record-in-None-clause-kept c =
    subst (λ (l : List AuxRecord). AreKept l c.args.len) (sym c.in_ok-insert_record-in-None.ensures.ok)
    (kept_added c.args.aux c.args.records.now c.requires.kept.1.rise c.args.len c.requires.short c.requires.kept (c.in-None.ensures ∙ ap (λ k. option_map aux_len (record_at c.args.records.now k)) c.as_slice.ensures))
