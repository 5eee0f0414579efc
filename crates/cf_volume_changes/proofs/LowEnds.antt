-- Tests of the room that rows have in their spelling.
use Rattle.std.proofs.Common.{◌≡◌, ℕ, zero, suc, ◌+◌, ◌-◌, ◌^◌, ◌<◌, ◌≤◌, Bool, true, false, ◌&&◌, ltb, List, [], ◌∷◌, length, Some, refl, sym, ◌∙◌, ap, arith}
use Rattle.std.specs.Prelude.{slice_get}
use Rattle.std.proofs.lemmas.Bool.{le-ltb, lt-ltb, ltb-false, ltb-true, true≢false}
use Rattle.std.proofs.lemmas.List.Elements.{All-nil, All-cons}
use Rattle.std.proofs.lemmas.Option.{none-some, same_Some}
use Rattle.cf_base.specs.declared.spans.Span.{Span}
use Rattle.cf_ranges.specs.Positions.{IsRunsFrom}
use Rattle.cf_table.specs.Applied.{IsSpellable}
use Rattle.cf_table.specs.Spelling.{EndBelow, HasRoom}
use Rattle.cf_table.specs.declared.rows.Row.{Row}
use Rattle.cf_volume_changes.specs.Writable.{are_low, has_low_ends}

abbrev is_low : Span → Bool
is_low s = ltb (s.start + s.len) 4294967296

pub last_high : (low n : ℕ) (runs : List Span) (s : Span) → IsRunsFrom low runs → length runs ≡ suc n → slice_get runs n ≡ Some s → low ≤ s.start + s.len
last_high low n [] s r e at = absurd (none-some s at)
last_high low zero (x ∷ xs) s r e at = let same = ap (λ (y : Span). y.start + y.len) (same_Some x s at) in omega (arith, same, r.0)
last_high low (suc n) (x ∷ xs) s r e at = let rest = last_high (x.start + x.len + 1) n xs s r.3 (omega (arith, e)) at in omega (arith, rest, r.0)

-- the last of the runs ends last
pub last_decides : (low n : ℕ) (runs : List Span) (s : Span) → IsRunsFrom low runs → length runs ≡ suc n → slice_get runs n ≡ Some s → are_low runs ≡ is_low s
last_decides low n [] s r e at = absurd (none-some s at)
last_decides low zero (x ∷ []) s r e at = and_true (is_low x) ∙ ap is_low (same_Some x s at)
  where
    and_true : (b : Bool) → (b && true) ≡ b
    and_true true = refl
    and_true false = refl
last_decides low zero (x ∷ y ∷ ys) s r e at = absurd (omega (arith, e))
last_decides low (suc n) (x ∷ xs) s r e at =
    both (is_low x) (is_low s) (last_high (x.start + x.len + 1) n xs s r.3 (omega (arith, e)) at) (last_decides (x.start + x.len + 1) n xs s r.3 (omega (arith, e)) at) refl refl
  where
    both : (a b : Bool) → x.start + x.len + 1 ≤ s.start + s.len → are_low xs ≡ is_low s → is_low x ≡ a → is_low s ≡ b → (is_low x && are_low xs) ≡ is_low s
    both true b low rest f g = ap (λ (t : Bool). t && are_low xs) f ∙ rest
    both false true low rest f g = absurd (true≢false (sym (lt-ltb (x.start + x.len) 4294967296 (let h = ltb-true (s.start + s.len) 4294967296 g in omega (arith, h, low))) ∙ f))
    both false false low rest f g = ap (λ (t : Bool). t && are_low xs) f ∙ sym g

pub low_sum : (start len : ℕ) → len < 4294967296 → ltb start (4294967296 - len) ≡ ltb (start + len) 4294967296
low_sum start len lt = by (ltb start (4294967296 - len)) refl
  where
    by : (t : Bool) → ltb start (4294967296 - len) ≡ t → ltb start (4294967296 - len) ≡ ltb (start + len) 4294967296
    by true e = e ∙ sym (lt-ltb (start + len) 4294967296 (let h = ltb-true start (4294967296 - len) e in omega (arith, h, lt)))
    by false e = e ∙ sym (le-ltb (start + len) 4294967296 (let h = ltb-false start (4294967296 - len) e in omega (arith, h, lt)))

-- the test of a row

both_true : (a b : Bool) → (a && b) ≡ true → (a ≡ true) × (b ≡ true)
both_true true true e = (refl, refl)
both_true true false e = absurd (true≢false (sym e))
both_true false b e = absurd (true≢false (sym e))

low_ends : (runs : List Span) → are_low runs ≡ true → EndBelow runs
low_ends [] e = All-nil (λ (s : Span). s.start + s.len < 2 ^ 32)
low_ends (x ∷ xs) e =
    let parts = both_true (is_low x) (are_low xs) e in
    All-cons (λ (s : Span). s.start + s.len < 2 ^ 32) x xs (let h = ltb-true (x.start + x.len) 4294967296 parts.0 in omega (arith, h)) (low_ends xs parts.1)

pub row_room : (r : Row) → IsSpellable r → has_low_ends r ≡ true → HasRoom r
row_room r texts e =
    let last = both_true (are_low r.here && are_low r.valid && are_low r.modified && are_low r.modified_since) (ltb (length r.extents) 4294967296) e in
    let since = both_true (are_low r.here && are_low r.valid && are_low r.modified) (are_low r.modified_since) last.0 in
    let modified = both_true (are_low r.here && are_low r.valid) (are_low r.modified) since.0 in
    let valid = both_true (are_low r.here) (are_low r.valid) modified.0 in
    record {
      texts = texts;
      here = low_ends r.here valid.0;
      valid = low_ends r.valid valid.1;
      modified = low_ends r.modified modified.1;
      modified_since = low_ends r.modified_since since.1;
      extents = let h = ltb-true (length r.extents) 4294967296 last.1 in omega (arith, h);
    }
