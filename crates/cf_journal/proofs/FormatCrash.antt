-- What a crash leaves of a disk that is being formatted.
use Rattle.std.proofs.Common.{◌≡◌, ◌≢◌, ◌⊎◌, inl, inr, ⊎_elim, ℕ, ◌+◌, ◌<◌, ◌≤◌, ◌^◌, List, [], ◌∷◌, length, get_or, refl, sym, ◌∙◌, ap, subst, arith}
use Rattle.std.proofs.lemmas.Bool.{cases_eq, cases_lt}
use Rattle.cf_codec.specs.declared.formats.Format.TheVariants.{Second}
use Rattle.cf_disk.specs.Disk.{State, SameBut, Holds, Near, Follows, Goes, Only, Leaves, size_of}
use Rattle.cf_disk.specs.Leaving.{leaves_weaker, leaves_then, leaves_write}
use Rattle.cf_disk.specs.Parts.{part_same, holds_same, holds_part, same_wider, same_then, get_or-first}
use Rattle.cf_journal.specs.declared.sides.Side.{Side}
use Rattle.cf_journal.specs.declared.sides.Side.TheVariants.{A, B}
use Rattle.cf_journal.specs.Format.{base, other, header, HasSlot}
use Rattle.cf_journal.specs.Content.{Content, StandsAt, Stands, SameButTwo, NearTwo, IsFresh, IsFormatting, rewritten, clusters}
use Rattle.cf_journal.specs.Steps.{IsClosing, Closes, Stages}
use Rattle.cf_journal.specs.Halves.{clusters_same, base_low}
use Rattle.cf_journal.proofs.Records.{spells_shut}
use Rattle.cf_journal.proofs.Rewrite.{other-other}
use Rattle.cf_journal.proofs.Unique.{one_content}

-- two closed gates: no content
no_content : (c : List ℕ) (side : Side) → get_or c (base side) 0 ≡ 0 → get_or c (base (other side)) 0 ≡ 0 → (x : Content) → Stands c x → ⊥
no_content c side near far x stands = stands.2.chosen.slot.gate (gate side stands.0 near far)
  where
    gate : (side s : Side) → get_or c (base side) 0 ≡ 0 → get_or c (base (other side)) 0 ≡ 0 → get_or c (base s) 0 ≡ 0
    gate A A near far = near
    gate A B near far = far
    gate B A near far = far
    gate B B near far = near

-- a change within the other half leaves this gate
near_gate : (side : Side) (at n : ℕ) (old new : List ℕ) → SameBut at n old new → base (other side) ≤ at → at + n ≤ base (other side) + 1572864 → get_or new (base side) 0 ≡ get_or old (base side) 0
near_gate A at n old new same low high = same.before 0 (omega arith)
near_gate B at n old new same low high = same.after 1572864 (omega arith)

module _ (old closed staged new : State) (side : Side) (generation : ℕ) (image : List ℕ) (near_shut : get_or old.seen (base side) 0 ≡ 0) (far_shut : get_or old.seen (base (other side)) 0 ≡ 0) (only_old : Only old.seen old) where
  abbrev far : ℕ
  far = base (other side)

  abbrev P : List ℕ → Type 0
  P = IsFresh old (rewritten image)

  low : far + 1572864 ≤ 3145728
  low = base_low (other side)

  -- behind the closed gate of the other half nothing counts
  shut_fresh : (c : List ℕ) → SameBut far 1572864 old.seen c → get_or c far 0 ≡ 0 → P c
  shut_fresh c same shut = (
    λ x stands. absurd (no_content c side (near_gate side far 1572864 old.seen c same (omega arith) (omega arith) ∙ near_shut) shut x stands),
    clusters_same far 1572864 old.seen c same low,
  )

  closing : (c : List ℕ) → IsClosing old far c → P c
  closing c near = ⊎_elim (λ h. absurd (h.0 far_shut)) (λ h.
      let same : SameBut (far + 1) 1 old.seen c = subst (λ (d : List ℕ). SameBut (far + 1) 1 d c) (only_old near.0 near.1) h.1 in
      shut_fresh c (same_wider far 1572864 (far + 1) 1 old.seen c same (omega arith) (omega arith)) (same.before far (omega arith) ∙ far_shut)) near.2

  pub close_fresh : Leaves old closed (IsClosing old far) → Leaves old closed P
  close_fresh leaves = leaves_weaker old closed (IsClosing old far) P leaves closing

  module _ (closes : Closes far old.seen closed.seen) (only : Only closed.seen closed) where
    same_closed : SameBut far 1572864 old.seen closed.seen
    same_closed = same_wider far 1572864 far 2 old.seen closed.seen closes.same (omega arith) (omega arith)

    staging : (c : List ℕ) → Near closed (far + 1) 1572863 c → P c
    staging c near =
        let same : SameBut (far + 1) 1572863 closed.seen c = subst (λ (d : List ℕ). SameBut (far + 1) 1572863 d c) (only near.0 near.1) near.2 in
        shut_fresh c (same_then far 1572864 old.seen closed.seen c same_closed (same_wider far 1572864 (far + 1) 1572863 closed.seen c same (omega arith) (omega arith)))
        (same.before far (omega arith) ∙ closes.gate)

    pub stage_fresh : Leaves old closed (IsClosing old far) → Leaves closed staged (Near closed (far + 1) 1572863) → Leaves old staged P
    stage_fresh first second = leaves_then old closed staged P (Near closed (far + 1) 1572863) (close_fresh first) second staging

    module _ (positive : 0 < generation) (fits : generation < 2 ^ 64) (short : length image ≤ 1306624) (size : 3145728 ≤ length old.seen) (stages : Stages far (header Second generation (length image) (size_of old)) image closed.seen staged.seen) (only_staged : Only staged.seen staged) where
      open_stands : (c : List ℕ) → SameBut far 1 staged.seen c → SameBut far 1572864 old.seen c → get_or c far 0 ≢ 0 → StandsAt c (other side) generation (rewritten image)
      open_stands c same all is_open =
          let none : far + 1310720 + 0 ≡ far + 1310720 = omega arith in
          let first_gate : get_or c (far + 1310720 + 0) 0 ≡ 0 =
          ap (λ (k : ℕ). get_or c k 0) none ∙ same.after (far + 1310720) (omega arith) ∙ sym (get_or-first (far + 1310720) 1 staged.seen (omega arith)) ∙ ap (λ (l : List ℕ). get_or l 0 0) stages.gate_is in
          record {
            chosen = record {
              slot = record {
                gate = is_open;
                header_is = part_same far 1 staged.seen c same (far + 1) 27 (inr (omega arith)) ∙ stages.header_is ∙ ap (λ (n : ℕ). header Second generation (length image) n) (sym all.size);
                positive = positive;
                fits = fits;
                short = short;
              };
              newest = λ f h l slot.
                  let theirs : HasSlot f c (base side) h l = subst (λ (s : Side). HasSlot f c (base s) h l) (other-other side) slot in
                  absurd (theirs.gate (near_gate side far 1572864 old.seen c all (omega arith) (omega arith) ∙ near_shut));
            };
            image = sym (part_same far 1 staged.seen c same (far + 4096) (length image) (inr (omega arith)) ∙ stages.image_is);
            payloads = spells_shut [] [] c (far + 1310720) 0 refl refl (omega (arith, all.size, size, low)) refl (omega arith) first_gate;
          }

      opening : (c : List ℕ) → Near staged far 1 c → P c
      opening c near =
          let same : SameBut far 1 staged.seen c = subst (λ (d : List ℕ). SameBut far 1 d c) (only_staged near.0 near.1) near.2 in
          let all : SameBut far 1572864 old.seen c = same_then far 1572864 old.seen staged.seen c (same_then far 1572864 old.seen closed.seen staged.seen same_closed (same_wider far 1572864 (far + 1) 1572863 closed.seen staged.seen stages.same (omega arith) (omega arith))) (same_wider far 1572864 far 1 staged.seen c same (omega arith) (omega arith)) in
          elim (cases_eq (get_or c far 0) 0) [
            | inl shut ↦ shut_fresh c all shut
            | inr is_open ↦ (λ x stands. one_content c x (rewritten image) stands (other side, generation, open_stands c same all is_open), clusters_same far 1572864 old.seen c all low)
          ]

      pub open_fresh : Leaves old closed (IsClosing old far) → Leaves closed staged (Near closed (far + 1) 1572863) → Leaves staged new (Near staged far 1) → Leaves old new P
      open_fresh first second third = leaves_then old staged new P (Near staged far 1) (stage_fresh first second) third opening

-- the two gates
two_of : (first second at : ℕ) (old new : List ℕ) → (at ≡ first) ⊎ (at ≡ second) → SameBut at 1 old new → SameButTwo first second old new
two_of first second at old new which same = record {
  size = same.size;
  bytes = λ i a b. outside i (⊎_elim (λ p q. a (q ∙ p)) (λ p q. b (q ∙ p)) which);
}
  where
    outside : (i : ℕ) → i ≢ at → get_or new i 0 ≡ get_or old i 0
    outside i other_place = elim (cases_lt i at) [
      | inl under ↦ same.before i under
      | inr from ↦ elim (cases_eq i at) [ inl here ↦ absurd (other_place here) | inr beyond ↦ same.after i (omega (arith, from, beyond)) ]
    ]

two_then : (first second : ℕ) (old mid new : List ℕ) → SameButTwo first second old mid → SameButTwo first second mid new → SameButTwo first second old new
two_then first second old mid new p q = record { size = q.size ∙ p.size; bytes = λ i a b. q.bytes i a b ∙ p.bytes i a b }

module _ (old mid new : State) (first second : ℕ) where
  pub first_two : Follows first 1 old mid → Goes old mid → Leaves old mid (NearTwo old first second)
  first_two follows goes = leaves_weaker old mid (Near old first 1) (NearTwo old first second) (leaves_write old mid first 1 follows goes)
      (λ c near. (near.0, near.1, two_of first second first near.0 c (inl refl) near.2))

  pub second_two : Follows first 1 old mid → Goes old mid → Leaves mid new (Near mid second 1) → Leaves old new (NearTwo old first second)
  second_two follows goes leaves =
      let before = first_two follows goes in
      leaves_then old mid new (NearTwo old first second) (Near mid second 1) before leaves
      (λ c near. let was = before.now near.0 near.1 in (was.0, was.1, two_then first second was.0 near.0 c was.2 (two_of first second second near.0 c (inr refl) near.2)))

  pub both_shut : first < second → second < 3145728 → 3145728 ≤ length old.seen → Holds first (0 ∷ []) old.seen mid.seen → Holds second (0 ∷ []) mid.seen new.seen → (get_or new.seen first 0 ≡ 0) × (get_or new.seen second 0 ≡ 0)
  both_shut order low room one two =
      let p : SameBut first 1 old.seen mid.seen = holds_same first (0 ∷ []) old.seen mid.seen (omega (arith, order, low, room)) one in
      let here : second + 1 ≤ length mid.seen = omega (arith, low, room, p.size) in
      let q : SameBut second 1 mid.seen new.seen = holds_same second (0 ∷ []) mid.seen new.seen here two in (
        q.before first order ∙ sym (get_or-first first 1 mid.seen (omega arith)) ∙ ap (λ (l : List ℕ). get_or l 0 0) (holds_part first (0 ∷ []) old.seen mid.seen (omega (arith, order, low, room)) one),
        sym (get_or-first second 1 new.seen (omega arith)) ∙ ap (λ (l : List ℕ). get_or l 0 0) (holds_part second (0 ∷ []) mid.seen new.seen here two),
      )

  pub both_rest : first < second → second < 3145728 → 3145728 ≤ length old.seen → Holds first (0 ∷ []) old.seen mid.seen → Holds second (0 ∷ []) mid.seen new.seen → clusters new.seen ≡ clusters old.seen
  both_rest order low room one two =
      let p : SameBut first 1 old.seen mid.seen = holds_same first (0 ∷ []) old.seen mid.seen (omega (arith, order, low, room)) one in
      let q : SameBut second 1 mid.seen new.seen = holds_same second (0 ∷ []) mid.seen new.seen (omega (arith, low, room, p.size)) two in
      clusters_same second 1 mid.seen new.seen q (omega (arith, low)) ∙ clusters_same first 1 old.seen mid.seen p (omega (arith, order, low))

-- the two parts of a formatting
pub gates_formatting : (old new : State) (first second : ℕ) (after : Content) → first ≡ base A → second ≡ base B → Leaves old new (NearTwo old first second) → Leaves old new (IsFormatting old after)
gates_formatting old new first second after first_is second_is leaves =
    leaves_weaker old new (NearTwo old first second) (IsFormatting old after) leaves (λ c near. inl (subst (λ (k : ℕ). NearTwo old (base A) k c) second_is (subst (λ (k : ℕ). NearTwo old k second c) first_is near)))

pub then_formatting : (old closed new : State) (first second : ℕ) (after : Content) → first ≡ base A → second ≡ base B → clusters closed.seen ≡ clusters old.seen → Leaves old closed (NearTwo old first second) → Leaves closed new (IsFresh closed after)
    → Leaves old new (IsFormatting old after)
then_formatting old closed new first second after first_is second_is rest before leaves =
    leaves_then old closed new (IsFormatting old after) (IsFresh closed after) (gates_formatting old closed first second after first_is second_is before) leaves (λ c fresh. inr (fresh.0, fresh.1 ∙ rest))
