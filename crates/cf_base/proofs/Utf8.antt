-- The test for UTF-8.
use Rattle.std.proofs.Common.{◌≡◌, ℕ, List, true, false, inl, inr, sym}
use Rattle.std.specs.Str.{IsUtf8, is_utf8}
use Rattle.std.proofs.lemmas.Bool.{cases_Bool}
use Rattle.std.proofs.lemmas.Str.{is_utf8-from_IsUtf8, IsUtf8-from_is_utf8}

pub test_holds : (bs : List ℕ) → IsUtf8 bs → true ≡ is_utf8 bs
test_holds bs h = sym (is_utf8-from_IsUtf8 bs h)

pub test_fails : (bs : List ℕ) → (IsUtf8 bs → ⊥) → false ≡ is_utf8 bs
test_fails bs h = elim (cases_Bool (is_utf8 bs)) [
  | inl hit ↦ elim (h (IsUtf8-from_is_utf8 bs hit)) [ ]
  | inr miss ↦ sym miss
]
