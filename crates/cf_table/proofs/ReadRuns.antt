-- Runs, extents and flags as they are read.
use Rattle.std.proofs.Common.{◌≡◌, ℕ, zero, suc, ◌+◌, ◌-◌, ◌*◌, ◌/◌, ◌%◌, ◌^◌, ◌<◌, ◌==◌, List, [], ◌∷◌, ◌++◌, refl, sym, ap, subst, ◌∙◌, append_assoc, arith, append-nil, inl, inr}
use Rattle.std.specs.Prelude.{map}
use Rattle.cf_base.specs.declared.spans.Span.{Span}
use Rattle.cf_codec.specs.Left.{Left, Takes}
use Rattle.cf_model.specs.Rows.{Extent, flag_of, spell_extent, spell_run}
use Rattle.cf_ranges.specs.Pairs.{IsRisingFrom}
use Rattle.cf_ranges.specs.Positions.{IsRunsFrom}
use Rattle.cf_table.specs.Faults.{AtExtent, AtExtents, AtRun, AtRuns}
use Rattle.cf_table.specs.Reading.{AreExtentsFrom, AreRunsFrom, IsExtent, IsRun}
use Rattle.cf_table.specs.Spelling.{extent_of, spell_pairs, spell_spans}
use Rattle.cf_table.specs.declared.failures.RowError.{RowError}
use Rattle.cf_table.specs.declared.failures.RowError.TheVariants.{OutOfMemory}
use Rattle.cf_table.proofs.Taken.{takes_both}

pub runs_are : (low : ℕ) (runs : List Span) → AreRunsFrom low runs → IsRunsFrom low runs
runs_are low [] h = tt
runs_are low (s ∷ ss) h = let end : s.start + s.len < 2 ^ 32 = h.0.2 in (h.0.0, h.0.1, omega arith, runs_are (s.start + s.len + 1) ss h.1)

pub rising_are : (low : ℕ) (pairs : List (ℕ × ℕ)) → AreExtentsFrom low (map extent_of pairs) → IsRisingFrom low pairs
rising_are low [] h = tt
rising_are low (p ∷ ps) h = (h.0.0, rising_are (p.0 + 1) ps h.1)

-- a step of the reading of so many runs

pub one_less : (count i : ℕ) → i < count → count - i ≡ suc (count - (i + 1))
one_less count i h = omega arith

pub run_fault : (low n m : ℕ) (left : Left) (e : RowError) → n ≡ suc m → AtRun low left e → AtRuns low n left e
run_fault low n m left e is h = rw is (inl h)

pub behind_run : (low n m : ℕ) (left mid : Left) (e : RowError) (s : Span) → n ≡ suc m → IsRun low s → Takes (spell_run s) left mid → AtRuns (s.start + s.len + 1) m mid e → AtRuns low n left e
behind_run low n m left mid e s is fits takes h = rw is (inr (record { part = s; is_part = fits; mid = mid; takes = takes; fault = h }))

pub no_memory_for_runs : (low n m : ℕ) (left : Left) → n ≡ suc m → AtRuns low n left OutOfMemory
no_memory_for_runs low n m left is = rw is (inl (inl tt))

pub extent_fault : (low n m : ℕ) (left : Left) (e : RowError) → n ≡ suc m → AtExtent low left e → AtExtents low n left e
extent_fault low n m left e is h = rw is (inl h)

pub behind_extent : (low n m : ℕ) (left mid : Left) (e : RowError) (x : Extent) → n ≡ suc m → IsExtent low x → Takes (spell_extent x) left mid → AtExtents (x.block + 1) m mid e → AtExtents low n left e
behind_extent low n m left mid e x is fits takes h = rw is (inr (record { part = x; is_part = fits; mid = mid; takes = takes; fault = h }))

pub no_memory_for_extents : (low n m : ℕ) (left : Left) → n ≡ suc m → AtExtents low n left OutOfMemory
no_memory_for_extents low n m left is = rw is (inl (inl tt))

-- one more at the end

pub spans_more : (xs : List Span) (s : Span) → spell_spans (xs ++ s ∷ []) ≡ spell_spans xs ++ spell_run s
spans_more [] s = refl
spans_more (x ∷ xs) s = ap (λ t. spell_run x ++ t) (spans_more xs s) ∙ sym (append_assoc (spell_run x) (spell_spans xs) (spell_run s))

pub pairs_more : (xs : List (ℕ × ℕ)) (p : ℕ × ℕ) → spell_pairs (xs ++ p ∷ []) ≡ spell_pairs xs ++ spell_extent (extent_of p)
pairs_more [] p = refl
pairs_more (x ∷ xs) p = ap (λ t. spell_extent (extent_of x) ++ t) (pairs_more xs p) ∙ sym (append_assoc (spell_extent (extent_of x)) (spell_pairs xs) (spell_extent (extent_of p)))

pub spans_taken : (xs : List Span) (s : Span) (old mid new : Left) → Takes (spell_spans xs) old mid → Takes (spell_run s) mid new → Takes (spell_spans (xs ++ s ∷ [])) old new
spans_taken xs s old mid new h k = rw (spans_more xs s) (takes_both h k)

pub pairs_taken : (xs : List (ℕ × ℕ)) (p : ℕ × ℕ) (old mid new : Left) → Takes (spell_pairs xs) old mid → Takes (spell_extent (extent_of p)) mid new → Takes (spell_pairs (xs ++ p ∷ [])) old new
pairs_taken xs p old mid new h k = rw (pairs_more xs p) (takes_both h k)

pub runs_then : (low : ℕ) (xs : List Span) (s : Span) (from : ℕ) → ((more : List Span) → AreRunsFrom low more → AreRunsFrom from (xs ++ more)) → IsRun low s →
    (more : List Span) → AreRunsFrom (s.start + s.len + 1) more → AreRunsFrom from ((xs ++ s ∷ []) ++ more)
runs_then low xs s from so is more h = rw (append_assoc xs (s ∷ []) more) (so (s ∷ more) (is, h))

pub runs_end : (low : ℕ) (xs : List Span) → ((more : List Span) → AreRunsFrom low more → AreRunsFrom 0 (xs ++ more)) → AreRunsFrom 0 xs
runs_end low xs so = subst (λ v. AreRunsFrom 0 v) (append-nil xs) (so [] tt)

extents_more : (xs : List (ℕ × ℕ)) (p : ℕ × ℕ) (more : List Extent) → map extent_of (xs ++ p ∷ []) ++ more ≡ map extent_of xs ++ (extent_of p ∷ more)
extents_more [] p more = refl
extents_more (x ∷ xs) p more = ap (λ t. extent_of x ∷ t) (extents_more xs p more)

pub extents_then : (low : ℕ) (xs : List (ℕ × ℕ)) (p : ℕ × ℕ) (from : ℕ) → ((more : List Extent) → AreExtentsFrom low more → AreExtentsFrom from (map extent_of xs ++ more)) → IsExtent low (extent_of p) →
    (more : List Extent) → AreExtentsFrom (p.0 + 1) more → AreExtentsFrom from (map extent_of (xs ++ p ∷ []) ++ more)
extents_then low xs p from so is more h = rw (extents_more xs p more) (so (extent_of p ∷ more) (is, h))

pub extents_end : (low : ℕ) (xs : List (ℕ × ℕ)) → ((more : List Extent) → AreExtentsFrom low more → AreExtentsFrom 0 (map extent_of xs ++ more)) → AreExtentsFrom 0 (map extent_of xs)
extents_end low xs so = subst (λ v. AreExtentsFrom 0 v) (append-nil (map extent_of xs)) (so [] tt)

-- flags

flag_value : (n : ℕ) (w : ℕ) → flag_of (n % 2 == 1) w ≡ w * (n % 2)
flag_value n w = two (n % 2) (omega arith) where
  two : (b : ℕ) → b < 2 → flag_of (b == 1) w ≡ w * b
  two zero h = omega arith
  two (suc zero) h = omega arith
  two (suc (suc b)) h = absurd (omega arith)

halves : (n : ℕ) → n ≡ n % 2 + 2 * (n / 2)
halves n = omega arith

eight : (a b c d e f g h i : ℕ) → i < 2 → h ≡ i → g ≡ g % 2 + 2 * h → f ≡ f % 2 + 2 * g → e ≡ e % 2 + 2 * f → d ≡ d % 2 + 2 * e → c ≡ c % 2 + 2 * d → b ≡ b % 2 + 2 * c → a ≡ a % 2 + 2 * b →
    1 * (a % 2) + 2 * (b % 2) + 4 * (c % 2) + 8 * (d % 2) + 16 * (e % 2) + 32 * (f % 2) + 64 * (g % 2) + 128 * (h % 2) ≡ a
eight a b c d e f g h i l p q r s t u v w = omega arith

pub flags_value : (n : ℕ) → n < 256 →
    flag_of (n / 1 % 2 == 1) 1 + flag_of (n / 2 % 2 == 1) 2 + flag_of (n / 4 % 2 == 1) 4 + flag_of (n / 8 % 2 == 1) 8 + flag_of (n / 16 % 2 == 1) 16
    + flag_of (n / 32 % 2 == 1) 32 + flag_of (n / 64 % 2 == 1) 64 + flag_of (n / 128 % 2 == 1) 128 ≡ n
flags_value n h =
    rw (flag_value (n / 1) 1, flag_value (n / 2) 2, flag_value (n / 4) 4, flag_value (n / 8) 8, flag_value (n / 16) 16, flag_value (n / 32) 32, flag_value (n / 64) 64, flag_value (n / 128) 128)
    (ap (λ a. 1 * (a % 2) + 2 * (n / 2 % 2) + 4 * (n / 4 % 2) + 8 * (n / 8 % 2) + 16 * (n / 16 % 2) + 32 * (n / 32 % 2) + 64 * (n / 64 % 2) + 128 * (n / 128 % 2)) (omega arith)
    ∙ eight n (n / 2) (n / 4) (n / 8) (n / 16) (n / 32) (n / 64) (n / 128) (n / 128) (omega arith) refl (omega arith) (omega arith) (omega arith) (omega arith) (omega arith) (omega arith) (omega arith))
