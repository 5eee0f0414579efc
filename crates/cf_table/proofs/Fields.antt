-- Numbers of a fixed width, and how many runs have room in one.
use Rattle.std.proofs.Common.{◌≡◌, ℕ, ◌+◌, ◌*◌, ◌/◌, ◌%◌, ◌^◌, ◌<◌, ◌≤◌, List, [], ◌∷◌, ◌++◌, length, ap, ◌∙◌, append_assoc, arith}
use Rattle.std.proofs.lemmas.List.Elements.{All-head, All-tail}
use Rattle.std.specs.Int.{w16, w32, w64, to_be_bytes}
use Rattle.cf_base.specs.declared.spans.Span.{Span}
use Rattle.cf_model.specs.Words.{in_bytes}
use Rattle.cf_ranges.specs.Positions.{IsRunsFrom}
use Rattle.cf_table.specs.Spelling.{EndBelow}

by_one : (n : ℕ) → n ≡ n / 1
by_one n = omega arith

pub two_bytes : (n : ℕ) → to_be_bytes w16 n ≡ in_bytes 2 n
two_bytes n = ap (λ v. (n / 256) % 256 ∷ v % 256 ∷ []) (by_one n)

pub four_bytes : (n : ℕ) → to_be_bytes w32 n ≡ in_bytes 4 n
four_bytes n = ap (λ v. (n / 16777216) % 256 ∷ (n / 65536) % 256 ∷ (n / 256) % 256 ∷ v % 256 ∷ []) (by_one n)

-- the last four bytes of a number are those of what is left of it by 2 ^ 32
pub last_four : (n : ℕ) → in_bytes 4 (n % 4294967296) ≡ in_bytes 4 n
last_four n = same ((n % 4294967296) / 16777216 % 256) _ ((n % 4294967296) / 65536 % 256) _ ((n % 4294967296) / 256 % 256) _ ((n % 4294967296) / 1 % 256) _ (omega arith) (omega arith) (omega arith) (omega arith) where
  same : (a b c d e f g h : ℕ) → a ≡ b → c ≡ d → e ≡ f → g ≡ h → a ∷ c ∷ e ∷ g ∷ [] ≡ b ∷ d ∷ f ∷ h ∷ []
  same a b c d e f g h p q r s = λ j. p j ∷ q j ∷ r j ∷ s j ∷ []

pub eight_bytes : (n : ℕ) → to_be_bytes w64 n ≡ in_bytes 8 n
eight_bytes n =
    ap (λ v. (n / 72057594037927936) % 256 ∷ (n / 281474976710656) % 256 ∷ (n / 1099511627776) % 256 ∷ (n / 4294967296) % 256 ∷ (n / 16777216) % 256 ∷ (n / 65536) % 256 ∷ (n / 256) % 256 ∷ v % 256 ∷ []) (by_one n)

pub few_runs : (low : ℕ) (runs : List Span) → low ≤ 2 ^ 32 → IsRunsFrom low runs → EndBelow runs → low + 2 * length runs ≤ 2 ^ 32
few_runs low [] le h e = omega arith
few_runs low (r ∷ rs) le h e =
    let first : r.start + r.len < 2 ^ 32 = All-head (λ s. s.start + s.len < 2 ^ 32) r rs e in
    omega (arith, h.0, h.1, first, few_runs (r.start + r.len + 1) rs (omega (arith, first)) h.3 (All-tail (λ s. s.start + s.len < 2 ^ 32) r rs e))

-- what is put is put behind what stood there
pub joined : (a b c : List ℕ) (x y : List ℕ) → b ≡ a ++ x → c ≡ b ++ y → c ≡ a ++ (x ++ y)
joined a b c x y e f = f ∙ ap (λ v. v ++ y) e ∙ append_assoc a x y

pub eight_joined : (o a b c d e f g h : List ℕ) (p q r s t u v w : List ℕ) → a ≡ o ++ p → b ≡ a ++ q → c ≡ b ++ r → d ≡ c ++ s → e ≡ d ++ t → f ≡ e ++ u → g ≡ f ++ v → h ≡ g ++ w →
    h ≡ o ++ (p ++ q ++ r ++ s ++ t ++ u ++ v ++ w)
eight_joined o a b c d e f g h p q r s t u v w i j k l m n x y =
    joined o g h (p ++ q ++ r ++ s ++ t ++ u ++ v) w (joined o f g (p ++ q ++ r ++ s ++ t ++ u) v (joined o e f (p ++ q ++ r ++ s ++ t) u
    (joined o d e (p ++ q ++ r ++ s) t (joined o c d (p ++ q ++ r) s (joined o b c (p ++ q) r (joined o a b p q i j) k) l) m) n) x) y

-- the eight bytes of a number are the four of what it has above 2 ^ 32 and the four of the rest
pub usn_halves : (n : ℕ) → in_bytes 4 (n / 4294967296) ++ in_bytes 4 (n % 4294967296) ≡ in_bytes 8 n
usn_halves n =
    same ((n / 4294967296) / 16777216 % 256) _ ((n / 4294967296) / 65536 % 256) _ ((n / 4294967296) / 256 % 256) _ ((n / 4294967296) / 1 % 256) _
    ((n % 4294967296) / 16777216 % 256) _ ((n % 4294967296) / 65536 % 256) _ ((n % 4294967296) / 256 % 256) _ ((n % 4294967296) / 1 % 256) _
    (omega arith) (omega arith) (omega arith) (omega arith) (omega arith) (omega arith) (omega arith) (omega arith) where
      same : (a a' b b' c c' d d' e e' f f' g g' h h' : ℕ) → a ≡ a' → b ≡ b' → c ≡ c' → d ≡ d' → e ≡ e' → f ≡ f' → g ≡ g' → h ≡ h' →
          a ∷ b ∷ c ∷ d ∷ e ∷ f ∷ g ∷ h ∷ [] ≡ a' ∷ b' ∷ c' ∷ d' ∷ e' ∷ f' ∷ g' ∷ h' ∷ []
      same a a' b b' c c' d d' e e' f f' g g' h h' p q r s t u v w = λ j. p j ∷ q j ∷ r j ∷ s j ∷ t j ∷ u j ∷ v j ∷ w j ∷ []
