-- What taking a slot out of use leaves.
use Rattle.std.proofs.Common.{◌≡◌, ◌≢◌, inl, inr, ℕ, ◌+◌, ◌≤◌, List, [], ◌∷◌, length, get_or, sym, ◌∙◌, ap, arith}
use Rattle.std.proofs.lemmas.Bool.{cases_eq}
use Rattle.cf_disk.specs.Disk.{State, part, Holds, Near, Keeps, Goes, Leaves}
use Rattle.cf_disk.specs.Leaving.{leaves_weaker, leaves_then, leaves_keep}
use Rattle.cf_disk.specs.Parts.{get_or-first, same_none, same_wider, holds_same, holds_part}
use Rattle.cf_journal.specs.Steps.{IsClosing, Closes}

none_closing : (old : State) (at : ℕ) (c : List ℕ) → old.may_leave c → IsClosing old at c
none_closing old at c left = elim (cases_eq (get_or old.seen at 0) 0) [
  | inl shut ↦ (c, left, inr (shut, same_none (at + 1) 1 c))
  | inr is_open ↦ (c, left, inl (is_open, same_none at 1 c))
]

-- the read
pub read_closing : (old read : State) (at : ℕ) → Keeps old read → Goes old read → Leaves old read (IsClosing old at)
read_closing old read at keeps goes = leaves_weaker old read old.may_leave (IsClosing old at) (leaves_keep old read keeps goes) (none_closing old at)

module _ (old read new : State) (at : ℕ) (keeps : Keeps old read) (goes : Goes old read) where
  pub letter_closing : get_or old.seen at 0 ≡ 0 → Leaves read new (Near read (at + 1) 1) → Leaves old new (IsClosing old at)
  letter_closing shut leaves = leaves_then old read new (IsClosing old at) (Near read (at + 1) 1) (read_closing old read at keeps goes) leaves
      (λ c near. (near.0, keeps.crash near.0 near.1, inr (shut, near.2)))

  pub gate_closing : get_or old.seen at 0 ≢ 0 → Leaves read new (Near read at 1) → Leaves old new (IsClosing old at)
  gate_closing is_open leaves = leaves_then old read new (IsClosing old at) (Near read at 1) (read_closing old read at keeps goes) leaves
      (λ c near. (near.0, keeps.crash near.0 near.1, inl (is_open, near.2)))

  pub letter_closes : at + 2 ≤ length old.seen → get_or old.seen at 0 ≡ 0 → Holds (at + 1) (0 ∷ []) read.seen new.seen → Closes at old.seen new.seen
  letter_closes room shut holds =
      let holds_old : Holds (at + 1) (0 ∷ []) old.seen new.seen = rw (← keeps.seen) holds in
      let same = holds_same (at + 1) (0 ∷ []) old.seen new.seen (omega arith) holds_old in
      record { gate = same.before at (omega arith) ∙ shut; same = same_wider at 2 (at + 1) 1 old.seen new.seen same (omega arith) (omega arith) }

  pub gate_closes : at + 2 ≤ length old.seen → Holds at (0 ∷ []) read.seen new.seen → Closes at old.seen new.seen
  gate_closes room holds =
      let holds_old : Holds at (0 ∷ []) old.seen new.seen = rw (← keeps.seen) holds in
      let same = holds_same at (0 ∷ []) old.seen new.seen (omega arith) holds_old in
      let here : part at 1 new.seen ≡ 0 ∷ [] = holds_part at (0 ∷ []) old.seen new.seen (omega arith) holds_old in
      record { gate = sym (get_or-first at 1 new.seen (omega arith)) ∙ ap (λ (l : List ℕ). get_or l 0 0) here; same = same_wider at 2 at 1 old.seen new.seen same (omega arith) (omega arith) }

-- the gate as it was read
pub gate_read : (at : ℕ) (seen out : List ℕ) → out ≡ part at 1 seen → get_or out 0 0 ≡ get_or seen at 0
gate_read at seen out is = ap (λ (l : List ℕ). get_or l 0 0) is ∙ get_or-first at 1 seen (omega arith)
