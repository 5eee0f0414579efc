-- The root of a tree of the least numbers, and the numbers that are there.
use Rattle.std.proofs.Common.{◌≡◌, ◌⊎◌, inl, inr, ℕ, zero, suc, ◌+◌, ◌-◌, ◌*◌, ◌<◌, ◌≤◌, ◌^◌, Bool, true, false, List, length, get_or, set, take, drop, replicate, refl, sym, ap, ◌∙◌, arith, get_or-set_same, get_or-set_other, length-set}
use Rattle.std.specs.Prelude.{nat_lt}
use Rattle.std.specs.List.{position_or_len}
use Rattle.std.proofs.lemmas.Bool.{cases_eq, cases_lt, lt-ltb, le-ltb}
use Rattle.std.proofs.lemmas.List.{ext_get_or, get_or-map, get_or-take, get_or-drop, get_or-replicate, length-map, length-take, length-drop, length-replicate}
use Rattle.std.proofs.lemmas.List.Sums.{position_or_len_is}
use Rattle.cf_clusters.specs.LeastNumbers.{AreNodes, HasLeaves, IsTree, Puts, flags_in}

-- twice a number, or one more
halves : (i : ℕ) → (h : ℕ) × ((i ≡ 2 * h) ⊎ (i ≡ 2 * h + 1))
halves zero = (0, inl (omega arith))
halves (suc i) = let h = halves i in elim h.1 [
  | inl even ↦ (h.0, inr (omega (arith, even)))
  | inr odd ↦ (h.0 + 1, inl (omega (arith, odd)))
]

module _ (width : ℕ) (l : List ℕ) (nodes : AreNodes width l) where
  -- no place has less than the root
  root_least : (n i : ℕ) → i ≤ n → 0 < i → i < 2 * width → get_or l 1 0 ≤ get_or l i 0
  root_least zero i fuel some under = absurd (omega (arith, fuel, some))
  root_least (suc n) i fuel some under = elim (cases_lt 1 i) [
    | inl more ↦ let h = halves i in elim h.1 [
      | inl even ↦ omega (arith, root_least n h.0 (omega (arith, even, fuel, more)) (omega (arith, even, more)) (omega (arith, even, under, more)), nodes h.0 (omega (arith, even, more)) (omega (arith, even, under)), ap (λ (k : ℕ). get_or l k 0) even)
      | inr odd ↦ omega (arith, root_least n h.0 (omega (arith, odd, fuel, more)) (omega (arith, odd, more)) (omega (arith, odd, under, more)), nodes h.0 (omega (arith, odd, more)) (omega (arith, odd, under)), ap (λ (k : ℕ). get_or l k 0) odd)
    ]
    | inr one ↦ let same : i ≡ 1 = omega (arith, one, some) in omega (arith, ap (λ (k : ℕ). get_or l k 0) same)
  ]

  -- what a place has stands at one of the last places
  from_leaf : (n i : ℕ) → 2 * width ≤ i + n → 0 < i → i < 2 * width → (j : ℕ) × (width ≤ j) × (j < 2 * width) × (get_or l i 0 ≡ get_or l j 0)
  from_leaf zero i fuel some under = absurd (omega (arith, fuel, under))
  from_leaf (suc n) i fuel some under = elim (cases_lt i width) [
    | inl inner ↦ elim (cases_lt (get_or l (2 * i) 0) (get_or l (2 * i + 1) 0)) [
      | inl left ↦ let below = from_leaf n (2 * i) (omega (arith, fuel, some)) (omega (arith, some)) (omega (arith, inner)) in
          (below.0, below.1, below.2, omega (arith, nodes i some inner, left, below.3))
      | inr right ↦ let below = from_leaf n (2 * i + 1) (omega (arith, fuel, some)) (omega (arith, some)) (omega (arith, inner)) in
          (below.0, below.1, below.2, omega (arith, nodes i some inner, right, below.3))
    ]
    | inr leaf ↦ (i, leaf, under, refl)
  ]

pub length-flags : (count : ℕ) (l : List ℕ) → length l ≡ 2 * (count + 1) → length (flags_in count l) ≡ count
length-flags count l size = omega (arith, length-map (take count (drop (count + 1) l)) (λ v. nat_lt v count), length-take count (drop (count + 1) l), length-drop (count + 1) l, size)

flag_at : (count : ℕ) (l : List ℕ) (k : ℕ) → length l ≡ 2 * (count + 1) → k < count → get_or (flags_in count l) k false ≡ nat_lt (get_or l (count + 1 + k) 0) count
flag_at count l k size lt =
    get_or-map (λ v. nat_lt v count) (take count (drop (count + 1) l)) k 0 false (omega (arith, lt, length-take count (drop (count + 1) l), length-drop (count + 1) l, size))
    ∙ ap (λ (v : ℕ). nat_lt v count) (get_or-take count (drop (count + 1) l) k 0 lt ∙ get_or-drop (count + 1) l k 0)

-- the root is the least number that is there, or the count
pub root_is : (count : ℕ) (l : List ℕ) → IsTree count l → get_or l 1 0 ≡ position_or_len (λ b. b) (flags_in count l)
root_is count l is = sym (position_or_len_is (λ b. b) (flags_in count l) (get_or l 1 0) false
    (omega (arith, length-flags count l is.size, below count (omega arith), last))
    (λ k lt. flag_at count l k is.size (under k lt) ∙ missing k lt)
    (λ lt. found (omega (arith, lt, length-flags count l is.size)))) where
      below : (k : ℕ) → k ≤ count → get_or l 1 0 ≤ get_or l (count + 1 + k) 0
      below k le = root_least (count + 1) l is.nodes (count + 1 + k) (count + 1 + k) (omega arith) (omega arith) (omega (arith, le))

      last : get_or l (count + 1 + count) 0 ≡ count
      last = elim (is.leaves count (omega arith)) [ inl e ↦ e | inr e ↦ e ]

      under : (k : ℕ) → k < get_or l 1 0 → k < count
      under k lt = omega (arith, lt, below count (omega arith), last)

      missing : (k : ℕ) → k < get_or l 1 0 → nat_lt (get_or l (count + 1 + k) 0) count ≡ false
      missing k lt = elim (is.leaves k (omega (arith, under k lt))) [
        | inl there ↦ absurd (omega (arith, there, lt, below k (omega (arith, under k lt))))
        | inr gone ↦ le-ltb (get_or l (count + 1 + k) 0) count (omega (arith, gone))
      ]

      found : get_or l 1 0 < count → get_or (flags_in count l) (get_or l 1 0) false ≡ true
      found lt =
          let leaf = from_leaf (count + 1) l is.nodes (2 * (count + 1)) 1 (omega arith) (omega arith) (omega arith) in
          let k : ℕ = leaf.0 - (count + 1) in
          let place : count + 1 + k ≡ leaf.0 = omega (arith, leaf.1) in
          let value : get_or l (count + 1 + k) 0 ≡ get_or l 1 0 = ap (λ (i : ℕ). get_or l i 0) place ∙ sym leaf.3 in
          elim (is.leaves k (omega (arith, leaf.1, leaf.2))) [
            | inl there ↦
                let same : get_or l 1 0 ≡ k = sym value ∙ there in
                ap (λ (i : ℕ). get_or (flags_in count l) i false) same ∙ flag_at count l k is.size (omega (arith, same, lt)) ∙ lt-ltb (get_or l (count + 1 + k) 0) count (omega (arith, value, lt))
            | inr gone ↦ absurd (omega (arith, gone, value, lt))
          ]

-- one number is put in or taken out
module _ (count k value : ℕ) (old new : List ℕ) (is : IsTree count old) (lt : k < count) (size : length new ≡ length old) (puts : Puts (count + 1) (count + 1 + k) value old new) where
  pub flags_put : (b : Bool) → nat_lt value count ≡ b → flags_in count new ≡ set (flags_in count old) k b
  flags_put b is_b = ext_get_or false (flags_in count new) (set (flags_in count old) k b)
      (length-flags count new (size ∙ is.size) ∙ sym (length-set (flags_in count old) k b ∙ length-flags count old is.size))
      (λ n less. let inside : n < count = omega (arith, less, length-flags count new (size ∙ is.size)) in
      flag_at count new n (size ∙ is.size) inside ∙ elim (cases_eq n k) [
        | inl same ↦
            ap (λ (i : ℕ). nat_lt (get_or new (count + 1 + i) 0) count) same ∙ ap (λ (v : ℕ). nat_lt v count) puts.here ∙ is_b
            ∙ sym (ap (λ (i : ℕ). get_or (set (flags_in count old) k b) i false) same ∙ get_or-set_same (flags_in count old) k b false (omega (arith, lt, length-flags count old is.size)))
        | inr other ↦
            ap (λ (v : ℕ). nat_lt v count) (puts.others (count + 1 + n) (omega arith) (λ (h : count + 1 + n ≡ count + 1 + k). other (omega (arith, h))))
            ∙ sym (get_or-set_other (flags_in count old) k n b false other ∙ flag_at count old n is.size inside)
      ])

  pub tree_put : AreNodes (count + 1) new → (value ≡ k) ⊎ (value ≡ count) → IsTree count new
  tree_put nodes either = record {
    size = size ∙ is.size;
    small = is.small;
    leaves = λ j le. elim (cases_eq j k) [
      | inl same ↦ elim either [
        | inl there ↦ inl (ap (λ (i : ℕ). get_or new (count + 1 + i) 0) same ∙ puts.here ∙ there ∙ sym same)
        | inr gone ↦ inr (ap (λ (i : ℕ). get_or new (count + 1 + i) 0) same ∙ puts.here ∙ gone)
      ]
      | inr other ↦
          let kept = puts.others (count + 1 + j) (omega arith) (λ (h : count + 1 + j ≡ count + 1 + k). other (omega (arith, h))) in
          elim (is.leaves j le) [ inl there ↦ inl (kept ∙ there) | inr gone ↦ inr (kept ∙ gone) ]
    ];
    nodes = nodes;
  }

-- a tree with all numbers
pub full_tree : (count : ℕ) (l : List ℕ) → length l ≡ 2 * (count + 1) → count < 2 ^ 32 → HasLeaves (count + 1) l → AreNodes (count + 1) l → IsTree count l
full_tree count l size small leaves nodes = record { size = size; small = small; leaves = λ k le. inl (leaves k (omega (arith, le))); nodes = nodes }

pub full_flags : (count : ℕ) (l : List ℕ) → length l ≡ 2 * (count + 1) → HasLeaves (count + 1) l → flags_in count l ≡ replicate count true
full_flags count l size leaves = ext_get_or false (flags_in count l) (replicate count true)
    (length-flags count l size ∙ sym (length-replicate count true))
    (λ k less. let lt : k < count = omega (arith, less, length-flags count l size) in
    flag_at count l k size lt ∙ lt-ltb (get_or l (count + 1 + k) 0) count (omega (arith, leaves k (omega (arith, lt)), lt)) ∙ sym (get_or-replicate count k true false lt))
