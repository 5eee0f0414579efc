-- Bytes behind a front of others, and bytes that are zero from their end on.
use Rattle.std.proofs.Common.{◌≡◌, ℕ, zero, suc, ◌+◌, ◌-◌, ◌<◌, ◌≤◌, max, List, ◌++◌, length, get_or, take, drop, replicate, refl, sym, ◌∙◌, ap, arith, append_assoc}
use Rattle.std.proofs.Math.Seq.{drop-append-add, take-append-add}
use Rattle.std.proofs.lemmas.List.{drop-append-le, ext_get_or, get_or-append_right, get_or-replicate, length-append, length-drop, length-replicate, length-take, replicate-append-replicate, take-append-le}
use Rattle.cf_disk.specs.Disk.{part}
use Rattle.cf_disk.specs.Fronts.{filled}
use Rattle.cf_disk.specs.Parts.{get_or-part}
use Rattle.cf_disk.specs.Splice.{length-over, over}

pub over_behind : (zs xs mid : List ℕ) (at : ℕ) → over (length zs + at) mid (zs ++ xs) ≡ zs ++ over at mid xs
over_behind zs xs mid at =
    let same : length zs + at + length mid ≡ length zs + (at + length mid) = omega arith in
    (λ i. take-append-add zs xs at i ++ mid ++ (ap (λ (n : ℕ). drop n (zs ++ xs)) same ∙ drop-append-add zs xs (at + length mid)) i)
    ∙ ap (λ (l : List ℕ). l ++ drop (at + length mid) xs) (append_assoc zs (take at xs) mid)
    ∙ append_assoc zs (take at xs ++ mid) (drop (at + length mid) xs)

pub part_behind : (zs xs : List ℕ) (at n : ℕ) → part (length zs + at) n (zs ++ xs) ≡ part at n xs
part_behind zs xs at n = ap (λ (l : List ℕ). take n l) (drop-append-add zs xs at)

-- bytes up to a length, of which those behind the ones that lie there are zero

pub length-zeroed : (n : ℕ) (xs : List ℕ) → length (filled n 0 xs) ≡ max n (length xs)
length-zeroed n xs = omega (arith, length-append xs (replicate (n - length xs) 0), length-replicate {A = ℕ} (n - length xs) 0)

zero_at : (n i : ℕ) → ◌≡◌ {A = ℕ} (get_or (replicate n 0) i 0) 0
zero_at zero i = refl
zero_at (suc n) zero = refl
zero_at (suc n) (suc i) = zero_at n i

zeroed_behind : (n i : ℕ) (xs : List ℕ) → length xs ≤ i → get_or (filled n 0 xs) i 0 ≡ 0
zeroed_behind n i xs le = get_or-append_right xs (replicate (n - length xs) 0) (length xs) i 0 refl le ∙ zero_at (n - length xs) (i - length xs)

pub zeroed_again : (n size : ℕ) (xs : List ℕ) → n ≤ size → length xs ≤ size → filled size 0 (filled n 0 xs) ≡ filled size 0 xs
zeroed_again n size xs le fits =
    append_assoc xs (replicate (n - length xs) 0) (replicate (size - length (filled n 0 xs)) 0)
    ∙ ap (λ (l : List ℕ). xs ++ l) (replicate-append-replicate (n - length xs) (size - length (filled n 0 xs)) 0)
    ∙ (let rest : n - length xs + (size - length (filled n 0 xs)) ≡ size - length xs = omega (arith, length-zeroed n xs) in ap (λ (k : ℕ). xs ++ replicate k 0) rest)

pub zeroed_over : (size at : ℕ) (mid xs : List ℕ) → at + length mid ≤ length xs → filled size 0 (over at mid xs) ≡ over at mid (filled size 0 xs)
zeroed_over size at mid xs room =
    ap (λ (k : ℕ). over at mid xs ++ replicate (size - k) 0) (length-over 0 at mid xs room)
    ∙ append_assoc (take at xs ++ mid) (drop (at + length mid) xs) (replicate (size - length xs) 0)
    ∙ ap (λ (l : List ℕ). take at xs ++ mid ++ l) (sym (drop-append-le (at + length mid) xs (replicate (size - length xs) 0) room))
    ∙ ap (λ (l : List ℕ). l ++ mid ++ drop (at + length mid) (filled size 0 xs)) (sym (take-append-le at xs (replicate (size - length xs) 0) (omega arith)))

-- a part of the bytes that lie there
pub part_filled : (size at n : ℕ) (xs : List ℕ) → at + n ≤ length xs → part at n xs ≡ part at n (filled size 0 xs)
part_filled size at n xs inside = sym (
    ap (λ (l : List ℕ). take n l) (drop-append-le at xs (replicate (size - length xs) 0) (omega arith))
    ∙ take-append-le n (drop at xs) (replicate (size - length xs) 0) (omega (arith, length-drop at xs)))

-- zeros where none lie
pub part_zeros : (size at n : ℕ) (xs : List ℕ) → length xs ≤ at → at + n ≤ size → replicate n 0 ≡ part at n (filled size 0 xs)
part_zeros size at n xs behind inside = ext_get_or 0 (replicate n 0) (part at n (filled size 0 xs))
    (omega (arith, length-replicate {A = ℕ} n 0, length-take n (drop at (filled size 0 xs)), length-drop at (filled size 0 xs), length-zeroed size xs))
    (λ i lt. let low : i < n = omega (arith, lt, length-replicate {A = ℕ} n 0) in
    get_or-replicate n i 0 0 low
    ∙ sym (get_or-part at n (filled size 0 xs) i low ∙ zeroed_behind size (at + i) xs (omega (arith, behind))))
