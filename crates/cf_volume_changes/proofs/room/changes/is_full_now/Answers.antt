use Rattle.std.proofs.Common.{[], subst, List}
use Rattle.cf_base.specs.declared.answers.AuxRecord.{AuxRecord}
use Rattle.cf_model.specs.Formats.{with_records}
use Rattle.cf_model.specs.State.{Volume as model}
use Rattle.cf_volume_changes.specs.Calls.{HasRecords}
use Rattle.cf_volume_changes.specs.Drafts.{Drafts}
use Rattle.cf_volume_changes.proofs.room.changes.is_full_now.Goals as goal

pub returns : goal.returns
returns c = λ seen v b at has.
    let counts = c.in_ok-tally.ensures seen v [] at _ in
    let drafts = subst (λ (w : model). Drafts c.args.parts.now.contents c.in_ok-tally.tally.draft w) counts.ends counts.drafts in
    c.is_full_with-full.ensures v b drafts (subst (λ (l : List AuxRecord). HasRecords v.book (with_records c.args.list.now l) b) at.records has)
