use Rattle.std.proofs.Common.{◌≡◌, ◌++◌, ◌∙◌, ap, subst, sym}
use Rattle.std.specs.Prelude.{codes}
use Rattle.cf_base.specs.declared.answers.AuxRecord.{AuxRecord}
use Rattle.cf_base.specs.declared.ids.Usn.{Usn}
use Rattle.cf_engine_queue.specs.Records.{FitsUsn}
use Rattle.cf_filter_machine.proofs.Buried.{grave_told}
use Rattle.cf_model.specs.Books.{tombstone_record, usn_bytes, with_tombstone}
use Rattle.cf_model.specs.Formats.{with_record}
use Rattle.cf_volume.specs.Calls.{HasRecords}
use Rattle.cf_filter_machine.proofs.removals.put_grave.Goals as goal

pub returns-clause-ok : goal.returns-clause-ok
returns-clause-ok g c = λ v t at number value keeps none.
    let key : (tombstone_record t).key ≡ c.as_slice.result.now = ap (λ (n : Usn). codes "t" ++ usn_bytes n) number ∙ sym c.in_ok-key.ensures.key ∙ sym c.as_slice.ensures in
    let told : (tombstone_record t).value ≡ c.as_slice-2.result.now = sym value ∙ sym c.as_slice-2.ensures in
    c.in-Ok.ensures.ok v (with_tombstone t v.book) at
    (subst (λ (r : AuxRecord). HasRecords v.book (with_record r c.args.volume.now.known.records) (with_tombstone t v.book)) (λ j. record { key = key j; value = told j })
    (grave_told t v.book c.args.volume.now.known.records at.now.records keeps (subst FitsUsn (sym number) c.in_ok-key.ensures.low) none))
