use Rattle.std.proofs.Common.{◌&&◌, ◌∙◌, Bool, not, ap, refl, subst, ℕ, Option}
use Rattle.std.specs.Prelude.{Ok}
use Rattle.cf_volume_changes.proofs.DraftFlags.{counts_on, number_is}
use Rattle.cf_volume_changes.specs.Drafting.{IsNextDraft}
use Rattle.cf_volume_changes.proofs.room.tallies.count_change.Goals as goal

pub returns-in_ok-steps-in-Some : goal.returns-in_ok-steps-in-Some
returns-in_ok-steps-in-Some c = λ v rest all counts.
    let number = number_is c.args.contents.now c.args.limit c.args.so_far.now c.args.change.now rest all v counts c.in_ok-number.number c.in_ok-number.ensures.number in
    let next = subst (λ (o : Option ℕ). IsNextDraft c.args.contents.now c.args.change.now c.draft_change.new.draft counts.made (Ok o)) c.in-Some.is (c.in_ok-draft_change.ensures counts.made counts.drafts number counts.fits.0 counts.fits.1) in (
      refl,
      counts_on c.args.contents.now c.args.limit c.args.so_far.now c.args.change.now rest all v counts c.draft_change.new.draft c.in-Some.asked c.in_ok-steps-in-Some.steps c.in_ok-long-in-Some.long c.in_ok-full-in-Some.full
          c.and_not-so_far-in-Some.result c.and_not-so_far.result next.0 next.1 c.in_ok-steps-in-Some.ensures c.in_ok-long-in-Some.ensures c.in_ok-full-in-Some.ensures
          (c.and_not-so_far-in-Some.ensures ∙ ap (λ (x : Bool). c.args.so_far.now.table && not x) c.is_refused.ensures) c.and_not-so_far.ensures,
    )
