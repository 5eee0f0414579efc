-- The numbers of an identity, from its bytes.
use Rattle.std.proofs.Common.{◌≡◌, ◌≢◌, ◌==◌, true, false, ◌<◌, ℕ, List, ◌++◌, length, inl, inr, sym, ◌∙◌, ap, subst}
use Rattle.std.specs.Prelude.{Option, Some, None, MatchOption}
use Rattle.cf_engine_queue.specs.Identities.{IsOurs, numbers_of}
use Rattle.cf_engine_queue.specs.declared.identities.Numbers.{Numbers}
use Rattle.cf_model.specs.Words.{in_bytes}
use Rattle.cf_model.proofs.ReplyLaws.{read_back}

abbrev IsRead : List ℕ → Numbers → Type 0
IsRead bytes n = (n.target < 18446744073709551616) × (n.base < 18446744073709551616) × (n.version < 18446744073709551616) × (bytes ≡ in_bytes 8 n.target ++ in_bytes 8 n.base ++ in_bytes 8 n.version)

back : (n : Numbers) → n.target < 18446744073709551616 → n.base < 18446744073709551616 → n.version < 18446744073709551616 → n ≡ numbers_of (in_bytes 8 n.target ++ in_bytes 8 n.base ++ in_bytes 8 n.version)
back n t b v = λ k. record { target = sym (read_back n.target t) k; base = sym (read_back n.base b) k; version = sym (read_back n.version v) k }

pub of_bytes : (bytes : List ℕ) (n : Numbers) → IsRead bytes n → n ≡ numbers_of bytes
of_bytes bytes n h = subst (λ (l : List ℕ). n ≡ numbers_of l) (sym h.3) (back n h.0 h.1 h.2)

-- bytes that are not empty
pub of_read : (bytes identity : List ℕ) (r : Option Numbers) → bytes ≡ identity → (length bytes == 0) ≡ false → MatchOption r (length bytes ≢ 24) (λ n. IsRead bytes n) → MatchOption r (IsOurs identity → ⊥) (λ n. n ≡ numbers_of identity)
of_read bytes identity None same some odd = λ ours. elim ours [
  | inl none ↦
      let z : true ≡ false = ap (λ (l : List ℕ). length l == 0) (sym none) ∙ sym (ap (λ (l : List ℕ). length l == 0) same) ∙ some in
      absurd cc
  | inr len ↦ odd (ap length same ∙ len)
]
of_read bytes identity (Some n) same some read = subst (λ (l : List ℕ). n ≡ numbers_of l) same (of_bytes bytes n read)
