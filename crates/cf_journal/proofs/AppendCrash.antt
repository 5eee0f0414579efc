-- The two steps of an append as calls of a disk.
use Rattle.std.proofs.Common.{◌≡◌, ◌≢◌, ◌⊎◌, inl, inr, ⊎_elim, ℕ, ◌+◌, ◌≤◌, List, [], ◌∷◌, length, get_or, take, sym, ◌∙◌, ap, subst, arith}
use Rattle.cf_codec.specs.declared.formats.Format.TheVariants.{Second}
use Rattle.cf_disk.specs.Disk.{State, SameBut, Holds, Near, Only, Leaves, size_of}
use Rattle.cf_disk.specs.Leaving.{leaves_weaker, leaves_then}
use Rattle.cf_disk.specs.Parts.{holds_same, holds_part, get_or-first}
use Rattle.cf_journal.specs.declared.sides.Side.{Side}
use Rattle.cf_journal.specs.Format.{base, size_of_records}
use Rattle.cf_journal.specs.Content.{Content, StandsAt, IsBeforeOrAfter, appended, clusters, second}
use Rattle.cf_journal.specs.Settled.{Ready}
use Rattle.cf_journal.specs.Steps.{Records}
use Rattle.cf_journal.specs.Halves.{area_stands, clusters_same, base_low}
use Rattle.cf_journal.proofs.Append.{record_torn, gate_torn}

-- what the laws of a disk say of its images
pub record Fair (s : State) : Type 0 where
  pub reads_one : s.may_leave s.seen
  pub same_size : (c : List ℕ) → s.may_leave c → length c ≡ size_of s

module _ (old mid new : State) (side : Side) (g e gate : ℕ) (image : List ℕ) (qs : List (List ℕ)) (p : List ℕ) (fair : Fair old) (ready : Ready old side g (second image qs)) (ends : e ≡ size_of_records qs) (fits : e + (6 + length p) ≤ 262144) (gate_is : gate ≡ base side + 1310720 + e) where
  abbrev x : Content
  x = second image qs

  abbrev P : List ℕ → Type 0
  P = IsBeforeOrAfter old x (appended x p)

  at_gate : SameBut (gate + 1) (5 + length p) old.seen mid.seen → gate + 1 + (5 + length p) ≤ 3145728
  at_gate same = omega (arith, gate_is, base_low side)

  torn : (c : List ℕ) → Near old (gate + 1) (5 + length p) c → P c
  torn c near =
      let d = near.0 in
      let stands : StandsAt d side g x = area_stands side g x old.seen d (fair.same_size d near.1) (ready.durable d near.1) ready.stands in
      let big : 3145728 ≤ length d = omega (arith, fair.same_size d near.1, ready.size.0) in
      let same : SameBut (base side + 1310720 + e + 1) (5 + length p) d c = subst (λ (k : ℕ). SameBut (k + 1) (5 + length p) d c) gate_is near.2 in
      inl ((side, g, record_torn side g e image qs p d stands ends big fits c same), (d, near.1, clusters_same (gate + 1) (5 + length p) d c near.2 (omega (arith, gate_is, base_low side))))

  pub record_crash : Leaves old mid (Near old (gate + 1) (5 + length p)) → Leaves old mid P
  record_crash leaves = leaves_weaker old mid (Near old (gate + 1) (5 + length p)) P leaves torn

  module _ (records : Records (gate + 1) p old.seen mid.seen) (only : Only mid.seen mid) where
    records_at : Records (base side + 1310720 + e + 1) p old.seen mid.seen
    records_at = subst (λ (k : ℕ). Records (k + 1) p old.seen mid.seen) gate_is records

    opens : (c : List ℕ) → SameBut gate 1 mid.seen c → ((get_or c (base side + 1310720 + e) 0 ≡ 0) × StandsAt c side g x) ⊎ ((get_or c (base side + 1310720 + e) 0 ≢ 0) × StandsAt c side g (appended x p))
    opens c same = gate_torn side g e image qs p old.seen ready.stands ends ready.size.0 fits mid.seen c records_at (subst (λ (k : ℕ). SameBut k 1 mid.seen c) gate_is same)

    behind : (c : List ℕ) → SameBut gate 1 mid.seen c → clusters c ≡ clusters old.seen
    behind c same = clusters_same gate 1 mid.seen c same (omega (arith, gate_is, base_low side)) ∙ clusters_same (gate + 1) (5 + length p) old.seen mid.seen records.same (omega (arith, gate_is, base_low side))

    at_gate_torn : (c : List ℕ) → Near mid gate 1 c → P c
    at_gate_torn c near =
        let same : SameBut gate 1 mid.seen c = subst (λ (d : List ℕ). SameBut gate 1 d c) (only near.0 near.1) near.2 in
        ⊎_elim (λ before. inl ((side, g, before.1), (old.seen, fair.reads_one, behind c same))) (λ after. inr ((side, g, after.1), behind c same)) (opens c same)

    pub gate_crash : Leaves old mid (Near old (gate + 1) (5 + length p)) → Leaves mid new (Near mid gate 1) → Leaves old new P
    gate_crash first second = leaves_then old mid new P (Near mid gate 1) (record_crash first) second at_gate_torn

    opened_same : Holds gate (1 ∷ []) mid.seen new.seen → SameBut gate 1 mid.seen new.seen
    opened_same holds = holds_same gate (1 ∷ []) mid.seen new.seen (omega (arith, gate_is, base_low side, ready.size.0, records.same.size)) holds

    pub opened : Holds gate (1 ∷ []) mid.seen new.seen → StandsAt new.seen side g (appended x p)
    opened holds =
        let one : get_or new.seen gate 0 ≡ 1 = sym (get_or-first gate 1 new.seen (omega arith)) ∙ ap (λ (l : List ℕ). get_or l 0 0) (holds_part gate (1 ∷ []) mid.seen new.seen (omega (arith, gate_is, base_low side, ready.size.0, records.same.size)) holds) in
        ⊎_elim (λ before. absurd (not_both (ap (λ (k : ℕ). get_or new.seen k 0) gate_is) one before.0)) (λ after. after.1) (opens new.seen (opened_same holds))
      where
        not_both : get_or new.seen gate 0 ≡ get_or new.seen (base side + 1310720 + e) 0 → get_or new.seen gate 0 ≡ 1 → get_or new.seen (base side + 1310720 + e) 0 ≡ 0 → ⊥
        not_both a b z = omega arith

    pub opened_ready : Holds gate (1 ∷ []) mid.seen new.seen → Only new.seen new → Ready new side g (appended x p)
    opened_ready holds all = record {
      stands = opened holds;
      durable = λ d left. ap (λ (l : List ℕ). take 3145728 l) (all d left);
      size = (omega (arith, ready.size.0, records.same.size, (opened_same holds).size), omega (arith, ready.size.1, records.same.size, (opened_same holds).size));
    }

-- whatever the disk stands for
pub append_rest : (side : Side) (e gate : ℕ) (p old mid new : List ℕ) → gate ≡ base side + 1310720 + e → e + (6 + length p) ≤ 262144 → 3145728 ≤ length old → Records (gate + 1) p old mid → Holds gate (1 ∷ []) mid new → clusters new ≡ clusters old
append_rest side e gate p old mid new gate_is fits size records holds =
    clusters_same gate 1 mid new (holds_same gate (1 ∷ []) mid new (omega (arith, gate_is, base_low side, size, records.same.size)) holds) (omega (arith, gate_is, base_low side))
    ∙ clusters_same (gate + 1) (5 + length p) old mid records.same (omega (arith, gate_is, base_low side))

-- a content of format 2
pub is_second : (x : Content) → x.format ≡ Second → second x.image x.payloads ≡ x
is_second x e = (λ j. record { format = sym e j; image = x.image; payloads = x.payloads })

pub ready_second : (s : State) (side : Side) (g : ℕ) (x : Content) → x.format ≡ Second → Ready s side g x → Ready s side g (second x.image x.payloads)
ready_second s side g x e ready = subst (λ (y : Content). Ready s side g y) (sym (is_second x e)) ready

pub appended_ready : (s : State) (side : Side) (g : ℕ) (x : Content) (p : List ℕ) → x.format ≡ Second → Ready s side g (appended (second x.image x.payloads) p) → Ready s side g (appended x p)
appended_ready s side g x p e ready = subst (λ (y : Content). Ready s side g (appended y p)) (is_second x e) ready

pub leaves_second : (old new : State) (x : Content) (p : List ℕ) → x.format ≡ Second → Leaves old new (IsBeforeOrAfter old (second x.image x.payloads) (appended (second x.image x.payloads) p)) → Leaves old new (IsBeforeOrAfter old x (appended x p))
leaves_second old new x p e leaves = subst (λ (y : Content). Leaves old new (IsBeforeOrAfter old y (appended y p))) (is_second x e) leaves
