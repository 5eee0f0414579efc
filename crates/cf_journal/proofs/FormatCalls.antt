-- The steps of a first image, as the code names its places.
use Rattle.std.proofs.Common.{◌≡◌, ℕ, ◌+◌, ◌<◌, ◌≤◌, ◌^◌, List, length, get_or, refl, subst}
use Rattle.cf_codec.specs.declared.formats.Format.TheVariants.{Second}
use Rattle.cf_disk.specs.Disk.{State, Near, Only, Leaves, size_of}
use Rattle.cf_journal.specs.declared.sides.Side.{Side}
use Rattle.cf_journal.specs.Format.{base, other, header}
use Rattle.cf_journal.specs.Content.{IsFresh, rewritten}
use Rattle.cf_journal.specs.Steps.{IsClosing, Closes, Stages}
use Rattle.cf_journal.proofs.FormatCrash.{close_fresh, stage_fresh, open_fresh}
use Rattle.cf_journal.proofs.RewriteCalls.{far_leaves_closing, far_closes, far_stages}

module _ (old closed staged new : State) (side : Side) (at generation : ℕ) (image : List ℕ) (at_is : at ≡ base (other side))
    (near_shut : get_or old.seen (base side) 0 ≡ 0) (far_shut : get_or old.seen (base (other side)) 0 ≡ 0) (only_old : Only old.seen old) (first : Leaves old closed (IsClosing old at)) where
  first_at : Leaves old closed (IsClosing old (base (other side)))
  first_at = far_leaves_closing old closed staged new side at image at_is first

  pub close_fresh_at : Leaves old closed (IsFresh old (rewritten image))
  close_fresh_at = close_fresh old closed staged new side generation image near_shut far_shut only_old first_at

  module _ (closes : Closes at old.seen closed.seen) (only : Only closed.seen closed) (second : Leaves closed staged (Near closed (at + 1) 1572863)) where
    closes_at : Closes (base (other side)) old.seen closed.seen
    closes_at = far_closes old closed staged new side at image at_is closes

    second_at : Leaves closed staged (Near closed (base (other side) + 1) 1572863)
    second_at = subst (λ (k : ℕ). Leaves closed staged (Near closed (k + 1) 1572863)) at_is second

    pub stage_fresh_at : Leaves old staged (IsFresh old (rewritten image))
    stage_fresh_at = stage_fresh old closed staged new side generation image near_shut far_shut only_old closes_at only first_at second_at

    pub open_fresh_at : (h : List ℕ) (size : ℕ) → h ≡ header Second generation (length image) size → size ≡ size_of old → 0 < generation → generation < 2 ^ 64 → length image ≤ 1306624 → 3145728 ≤ length old.seen
        → Stages at h image closed.seen staged.seen → Only staged.seen staged → Leaves staged new (Near staged at 1) → Leaves old new (IsFresh old (rewritten image))
    open_fresh_at h size h_is size_is positive fits short big stages only_staged third =
        open_fresh old closed staged new side generation image near_shut far_shut only_old closes_at only positive fits short big
        (far_stages old closed staged new side at image at_is h generation generation size h_is size_is refl stages) only_staged first_at second_at
        (subst (λ (k : ℕ). Leaves staged new (Near staged k 1)) at_is third)
