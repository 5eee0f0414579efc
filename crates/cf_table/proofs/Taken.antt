-- What is taken of a text in parts, and where a fault lies then.
use Rattle.std.proofs.Common.{ℕ, ◌+◌, List, ◌++◌, sym, ap, ◌∙◌, append_assoc, arith, length-append, inl, inr}
use Rattle.cf_codec.specs.Left.{Left, Takes}
use Rattle.cf_table.specs.Faults.{Then}
use Rattle.cf_table.specs.declared.failures.RowError.{RowError}

pub takes_both : {a b : List ℕ} {old mid new : Left} → Takes a old mid → Takes b mid new → Takes (a ++ b) old new
takes_both {a} {b} {old} {mid} {new} h k = record {
  parts = h.parts ∙ ap (λ x. a ++ x) k.parts ∙ sym (append_assoc a b new.rest);
  place = omega (arith, h.place, k.place, length-append a b);
}

pub first : {X : Type 0} (At : Left → RowError → Type 0) (Is : X → Type 0) (spell : X → List ℕ) (Next : X → Left → RowError → Type 0) (left : Left) (e : RowError) → At left e → Then At Is spell Next left e
first At Is spell Next left e h = inl h

pub later : {X : Type 0} (At : Left → RowError → Type 0) (Is : X → Type 0) (spell : X → List ℕ) (Next : X → Left → RowError → Type 0) (left mid : Left) (e : RowError) (x : X)
    → Is x → Takes (spell x) left mid → Next x mid e → Then At Is spell Next left e
later At Is spell Next left mid e x is takes fault = inr (record { part = x; is_part = is; mid = mid; takes = takes; fault = fault })
