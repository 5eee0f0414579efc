use Rattle.std.proofs.Common.{◌∙◌}
use Rattle.cf_base.specs.declared.changes.Change.TheVariants as change
use Rattle.cf_model.specs.ConflictNames.{conflict_name}
use Rattle.cf_engine_feed_plan.proofs.changed_entries.copied_off.Goals as goal

pub returns : goal.returns
returns c = λ items i m mi.
    let free = c.in_ok-free.ensures items m ∙ (λ j. conflict_name items (mi.parent j) ((c.in_ok-name.ensures.0 ∙ c.as_slice.ensures ∙ mi.name) j)) in
    λ k. change.Copy (c.next.ensures k) (mi.id k) (mi.parent k) (free k)
