-- Laws on parts of an image, and on images that are the same but for a part.
use Rattle.std.proofs.Common.{◌≡◌, ◌⊎◌, inl, inr, ℕ, ◌+◌, ◌-◌, ◌<◌, ◌≤◌, List, ◌++◌, length, get_or, take, drop, refl, sym, ◌∙◌, ap, arith, take-append-drop}
use Rattle.std.proofs.lemmas.List.{length-take, length-drop, get_or-take, get_or-drop, ext_get_or, drop-drop, take-take, drop-take}
use Rattle.cf_disk.specs.Disk.{part, Holds, SameBut}
use Rattle.cf_disk.specs.Splice.{length-spliced, spliced_before, spliced_in, spliced_after}

pub length-part : (at n : ℕ) (xs : List ℕ) → at + n ≤ length xs → length (part at n xs) ≡ n
length-part at n xs room = omega (arith, length-take n (drop at xs), length-drop at xs)

pub get_or-part : (at n : ℕ) (xs : List ℕ) (i : ℕ) → i < n → get_or (part at n xs) i 0 ≡ get_or xs (at + i) 0
get_or-part at n xs i lt = get_or-take n (drop at xs) i 0 lt ∙ get_or-drop at xs i 0

-- two parts that agree place by place
pub part_ext : (at n : ℕ) (xs ys : List ℕ) → length xs ≡ length ys → ((i : ℕ) → at ≤ i → i < at + n → get_or xs i 0 ≡ get_or ys i 0) → part at n xs ≡ part at n ys
part_ext at n xs ys size same = ext_get_or 0 (part at n xs) (part at n ys)
    (omega (arith, length-take n (drop at xs), length-drop at xs, length-take n (drop at ys), length-drop at ys))
    (λ i lt. let low : i < n = omega (arith, length-take n (drop at xs)) in
    get_or-part at n xs i low ∙ same (at + i) (omega arith) (omega arith) ∙ sym (get_or-part at n ys i low))

-- a part outside of what changed
pub part_same : (at n : ℕ) (old new : List ℕ) → SameBut at n old new → (k m : ℕ) → (k + m ≤ at) ⊎ (at + n ≤ k) → part k m new ≡ part k m old
part_same at n old new same k m (inl low) = part_ext k m new old same.size (λ i _ lt. same.before i (omega arith))
part_same at n old new same k m (inr high) = part_ext k m new old same.size (λ i from _. same.after i (omega arith))

pub front_same : (at n : ℕ) (old new : List ℕ) → SameBut at n old new → (m : ℕ) → m ≤ at → take m new ≡ take m old
front_same at n old new same m low = part_same at n old new same 0 m (inl (omega arith))

-- the end behind what changed
pub end_same : (at n : ℕ) (old new : List ℕ) → SameBut at n old new → (k : ℕ) → at + n ≤ k → drop k new ≡ drop k old
end_same at n old new same k high = ext_get_or 0 (drop k new) (drop k old)
    (omega (arith, length-drop k new, length-drop k old, same.size))
    (λ i _. get_or-drop k new i 0 ∙ same.after (k + i) (omega arith) ∙ sym (get_or-drop k old i 0))

pub part-append : (at m n : ℕ) (xs : List ℕ) → part at (m + n) xs ≡ part at m xs ++ part (at + m) n xs
part-append at m n xs =
    sym (take-append-drop m (part at (m + n) xs))
    ∙ (λ i. take-take m (m + n) (drop at xs) (omega arith) i ++ (drop-take m n (drop at xs) ∙ ap (λ (l : List ℕ). take n l) (drop-drop m at xs)) i)

-- a part of a part
pub part-part : (at n k m : ℕ) (xs : List ℕ) → k + m ≤ n → part k m (part at n xs) ≡ part (at + k) m xs
part-part at n k m xs room = ext_get_or 0 (part k m (part at n xs)) (part (at + k) m xs)
    (omega (arith, length-take m (drop k (part at n xs)), length-drop k (part at n xs), length-take n (drop at xs), length-drop at xs, length-take m (drop (at + k) xs), length-drop (at + k) xs))
    (λ i lt. let low : i < m = omega (arith, length-take m (drop k (part at n xs))) in
    get_or-part k m (part at n xs) i low ∙ get_or-part at n xs (k + i) (omega arith)
    ∙ (let here : at + (k + i) ≡ at + k + i = omega arith in ap (λ (j : ℕ). get_or xs j 0) here)
    ∙ sym (get_or-part (at + k) m xs i low))

pub same_none : (at n : ℕ) (xs : List ℕ) → SameBut at n xs xs
same_none at n xs = record { size = refl; before = λ i _. refl; after = λ i _. refl }

pub same_wider : (at n k m : ℕ) (xs ys : List ℕ) → SameBut k m xs ys → at ≤ k → k + m ≤ at + n → SameBut at n xs ys
same_wider at n k m xs ys same low high = record { size = same.size; before = λ i lt. same.before i (omega arith); after = λ i le. same.after i (omega arith) }

pub same_then : (at n : ℕ) (xs ys zs : List ℕ) → SameBut at n xs ys → SameBut at n ys zs → SameBut at n xs zs
same_then at n xs ys zs p q = record { size = q.size ∙ p.size; before = λ i lt. q.before i lt ∙ p.before i lt; after = λ i le. q.after i le ∙ p.after i le }

pub holds_same : (at : ℕ) (bytes old new : List ℕ) → at + length bytes ≤ length old → Holds at bytes old new → SameBut at (length bytes) old new
holds_same at bytes old new room holds = record {
  size = ap length holds ∙ length-spliced at bytes old room;
  before = λ i lt. ap (λ (l : List ℕ). get_or l i 0) holds ∙ spliced_before at bytes old room i lt;
  after = λ i le. ap (λ (l : List ℕ). get_or l i 0) holds ∙ spliced_after at bytes old room i le;
}

pub holds_part : (at : ℕ) (bytes old new : List ℕ) → at + length bytes ≤ length old → Holds at bytes old new → part at (length bytes) new ≡ bytes
holds_part at bytes old new room holds = ext_get_or 0 (part at (length bytes) new) bytes
    (length-part at (length bytes) new (omega (arith, (holds_same at bytes old new room holds).size)))
    (λ i lt. let low : i < length bytes = omega (arith, length-take (length bytes) (drop at new)) in
    get_or-part at (length bytes) new i low
    ∙ ap (λ (l : List ℕ). get_or l (at + i) 0) holds
    ∙ spliced_in at bytes old room (at + i) (omega arith) (omega arith)
    ∙ (let here : at + i - at ≡ i = omega arith in ap (λ (j : ℕ). get_or bytes j 0) here))

pub get_or-first : (at n : ℕ) (xs : List ℕ) → 0 < n → get_or (part at n xs) 0 0 ≡ get_or xs at 0
get_or-first at n xs lt = let here : at + 0 ≡ at = omega arith in get_or-part at n xs 0 lt ∙ ap (λ (k : ℕ). get_or xs k 0) here
