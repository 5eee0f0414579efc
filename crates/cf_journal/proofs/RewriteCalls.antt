-- The steps of a rewrite, as the code names its places.
use Rattle.std.proofs.Common.{◌≡◌, ℕ, ◌+◌, ◌<◌, ◌≤◌, ◌^◌, List, [], ◌∷◌, length, refl, ◌∙◌, subst}
use Rattle.cf_codec.specs.declared.formats.Format.TheVariants.{Second}
use Rattle.cf_disk.specs.Disk.{State, Holds, Near, Only, Leaves, size_of}
use Rattle.cf_journal.specs.declared.sides.Side.{Side}
use Rattle.cf_journal.specs.Format.{base, other, header}
use Rattle.cf_journal.specs.Content.{Content, IsBeforeOrAfter, rewritten}
use Rattle.cf_journal.specs.Settled.{Ready, Installs, next_of}
use Rattle.cf_journal.specs.Steps.{IsClosing, Closes, Stages}
use Rattle.cf_journal.proofs.AppendCrash.{Fair}
use Rattle.cf_journal.proofs.RewriteCrash.{close_crash, stage_crash, open_crash}
use Rattle.cf_journal.proofs.Installed.{installed}

module _ (old closed staged new : State) (side : Side) (at : ℕ) (image : List ℕ) (at_is : at ≡ base (other side)) where
  pub far_leaves_closing : Leaves old closed (IsClosing old at) → Leaves old closed (IsClosing old (base (other side)))
  far_leaves_closing l = subst (λ (k : ℕ). Leaves old closed (IsClosing old k)) at_is l

  pub far_closes : Closes at old.seen closed.seen → Closes (base (other side)) old.seen closed.seen
  far_closes h = subst (λ (k : ℕ). Closes k old.seen closed.seen) at_is h

  pub far_stages : (h : List ℕ) (generation g : ℕ) (size : ℕ) → h ≡ header Second generation (length image) size → size ≡ size_of old → generation ≡ g → Stages at h image closed.seen staged.seen → Stages (base (other side)) (header Second g (length image) (size_of old)) image closed.seen staged.seen
  far_stages h generation g size h_is size_is g_is stages =
      let there = subst (λ (k : ℕ). Stages k h image closed.seen staged.seen) at_is stages in
      subst (λ (l : List ℕ). Stages (base (other side)) l image closed.seen staged.seen) (h_is ∙ (λ i. header Second (g_is i) (length image) (size_is i))) there

  module _ (g : ℕ) (x : Content) (fair : Fair old) (ready : Ready old side g x) where
    pub close_at : Leaves old closed (IsClosing old at) → Leaves old closed (IsBeforeOrAfter old x (rewritten image))
    close_at l = close_crash old closed staged new side g x image fair ready (far_leaves_closing l)

    pub stage_at : Closes at old.seen closed.seen → Only closed.seen closed → Leaves old closed (IsClosing old at) → Leaves closed staged (Near closed (at + 1) 1572863) → Leaves old staged (IsBeforeOrAfter old x (rewritten image))
    stage_at closes only first second = stage_crash old closed staged new side g x image fair ready (far_closes closes) only (far_leaves_closing first) (subst (λ (k : ℕ). Leaves closed staged (Near closed (k + 1) 1572863)) at_is second)

    pub open_at : (h : List ℕ) (generation size : ℕ) → h ≡ header Second generation (length image) size → size ≡ size_of old → generation ≡ next_of g → length image ≤ 1306624
        → Closes at old.seen closed.seen → Only closed.seen closed → Stages at h image closed.seen staged.seen → Only staged.seen staged
        → Leaves old closed (IsClosing old at) → Leaves closed staged (Near closed (at + 1) 1572863) → Leaves staged new (Near staged at 1) → Leaves old new (IsBeforeOrAfter old x (rewritten image))
    open_at h generation size h_is size_is g_is short closes only stages only_staged first second third =
        open_crash old closed staged new side g x image fair ready (far_closes closes) only short (far_stages h generation (next_of g) size h_is size_is g_is stages) only_staged
        (far_leaves_closing first) (subst (λ (k : ℕ). Leaves closed staged (Near closed (k + 1) 1572863)) at_is second) (subst (λ (k : ℕ). Leaves staged new (Near staged k 1)) at_is third)

  pub install_at : (h : List ℕ) (generation size : ℕ) → h ≡ header Second generation (length image) size → size ≡ size_of old → 0 < generation → generation < 2 ^ 64 → length image ≤ 1306624 → 3145728 ≤ size_of old
      → Closes at old.seen closed.seen → Stages at h image closed.seen staged.seen → Holds at (1 ∷ []) staged.seen new.seen → Installs (other side) generation image old.seen new.seen
  install_at h generation size h_is size_is pos fits short big closes stages holds =
      installed (other side) generation image old.seen closed.seen staged.seen new.seen pos fits short big (far_closes closes) (far_stages h generation generation size h_is size_is refl stages)
      (subst (λ (k : ℕ). Holds k (1 ∷ []) staged.seen new.seen) at_is holds)
