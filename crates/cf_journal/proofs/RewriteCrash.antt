-- The three steps of a rewrite as calls of a disk.
use Rattle.std.proofs.Common.{◌≡◌, inl, inr, ⊎_elim, ℕ, ◌+◌, ◌≤◌, List, [], ◌∷◌, length, get_or, sym, ◌∙◌, subst, arith}
use Rattle.cf_codec.specs.declared.formats.Format.TheVariants.{Second}
use Rattle.cf_disk.specs.Disk.{State, SameBut, Holds, Near, Only, Leaves, size_of}
use Rattle.cf_disk.specs.Leaving.{leaves_weaker, leaves_then}
use Rattle.cf_disk.specs.Parts.{holds_same, same_wider, same_then}
use Rattle.cf_journal.specs.declared.sides.Side.{Side}
use Rattle.cf_journal.specs.Format.{base, other, header}
use Rattle.cf_journal.specs.Content.{Content, StandsAt, IsBeforeOrAfter, rewritten, clusters}
use Rattle.cf_journal.specs.Settled.{Ready, next_of}
use Rattle.cf_journal.specs.Steps.{IsClosing, Closes, Stages}
use Rattle.cf_journal.specs.Halves.{area_stands, both_halves, clusters_same, base_low}
use Rattle.cf_journal.proofs.AppendCrash.{Fair}
use Rattle.cf_journal.proofs.Rewrite.{closing_stands, behind_stands, opening_stands}

module _ (old closed staged new : State) (side : Side) (g : ℕ) (x : Content) (image : List ℕ) (fair : Fair old) (ready : Ready old side g x) where
  abbrev far : ℕ
  far = base (other side)

  abbrev P : List ℕ → Type 0
  P = IsBeforeOrAfter old x (rewritten image)

  low : far + 1572864 ≤ 3145728
  low = base_low (other side)

  far_gate : (d : List ℕ) → old.may_leave d → get_or d far 0 ≡ get_or old.seen far 0
  far_gate d left = (both_halves old.seen d (fair.same_size d left) (ready.durable d left) (other side)).bytes far (omega arith) (omega arith)

  closing : (c : List ℕ) → IsClosing old far c → P c
  closing c near =
      let d = near.0 in
      let stands : StandsAt d side g x = area_stands side g x old.seen d (fair.same_size d near.1) (ready.durable d near.1) ready.stands in
      inl (
        (side, g, closing_stands side g x d stands c (⊎_elim (λ h. inl (λ shut. h.0 (sym (far_gate d near.1) ∙ shut), h.1)) (λ h. inr (far_gate d near.1 ∙ h.0, h.1)) near.2)),
        (d, near.1, ⊎_elim (λ h. clusters_same far 1 d c h.1 (omega (arith, low))) (λ h. clusters_same (far + 1) 1 d c h.1 (omega (arith, low))) near.2),
      )

  pub close_crash : Leaves old closed (IsClosing old far) → Leaves old closed P
  close_crash leaves = leaves_weaker old closed (IsClosing old far) P leaves closing

  module _ (closes : Closes far old.seen closed.seen) (only : Only closed.seen closed) where
    same_closed : SameBut far 1572864 old.seen closed.seen
    same_closed = same_wider far 1572864 far 2 old.seen closed.seen closes.same (omega arith) (omega arith)

    behind_clusters : (c : List ℕ) → SameBut far 1572864 old.seen c → clusters c ≡ clusters old.seen
    behind_clusters c same = clusters_same far 1572864 old.seen c same low

    staging : (c : List ℕ) → Near closed (far + 1) 1572863 c → P c
    staging c near =
        let same : SameBut (far + 1) 1572863 closed.seen c = subst (λ (d : List ℕ). SameBut (far + 1) 1572863 d c) (only near.0 near.1) near.2 in
        let all : SameBut far 1572864 old.seen c = same_then far 1572864 old.seen closed.seen c same_closed (same_wider far 1572864 (far + 1) 1572863 closed.seen c same (omega arith) (omega arith)) in
        let shut : get_or c far 0 ≡ 0 = same.before far (omega arith) ∙ closes.gate in
        inl ((side, g, behind_stands side g x old.seen ready.stands c far 1572864 shut all (omega arith) (omega arith)), (old.seen, fair.reads_one, behind_clusters c all))

    pub stage_crash : Leaves old closed (IsClosing old far) → Leaves closed staged (Near closed (far + 1) 1572863) → Leaves old staged P
    stage_crash first second = leaves_then old closed staged P (Near closed (far + 1) 1572863) (close_crash first) second staging

    module _ (short : length image ≤ 1306624) (stages : Stages far (header Second (next_of g) (length image) (size_of old)) image closed.seen staged.seen) (only_staged : Only staged.seen staged) where
      opening : (c : List ℕ) → Near staged far 1 c → P c
      opening c near =
          let same : SameBut far 1 staged.seen c = subst (λ (d : List ℕ). SameBut far 1 d c) (only_staged near.0 near.1) near.2 in
          let all : SameBut far 1572864 old.seen c = same_then far 1572864 old.seen staged.seen c (same_then far 1572864 old.seen closed.seen staged.seen same_closed (same_wider far 1572864 (far + 1) 1572863 closed.seen staged.seen stages.same (omega arith) (omega arith))) (same_wider far 1572864 far 1 staged.seen c same (omega arith) (omega arith)) in
          ⊎_elim (λ before. inl ((side, g, before.1), (old.seen, fair.reads_one, behind_clusters c all))) (λ after. inr ((other side, next_of g, after.1), behind_clusters c all))
          (opening_stands side g x old.seen ready.stands image closed.seen staged.seen c ready.size.0 short closes stages same)

      pub open_crash : Leaves old closed (IsClosing old far) → Leaves closed staged (Near closed (far + 1) 1572863) → Leaves staged new (Near staged far 1) → Leaves old new P
      open_crash first second third = leaves_then old staged new P (Near staged far 1) (stage_crash first second) third opening

      opened_same : Holds far (1 ∷ []) staged.seen new.seen → SameBut far 1 staged.seen new.seen
      opened_same holds = holds_same far (1 ∷ []) staged.seen new.seen (omega (arith, low, ready.size.0, closes.same.size, stages.same.size)) holds
