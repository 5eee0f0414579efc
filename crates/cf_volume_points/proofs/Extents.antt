-- How often a cluster is named by extents, as they are put and taken.
use Rattle.std.proofs.Common.{◌≡◌, ℕ, ◌+◌, ◌<◌, ◌≤◌, ◌==◌, Bool, true, false, cond, eqb, ltb, List, [], ◌∷◌, refl, sym, ◌∙◌, ap, subst, arith, inl, inr, Option, Some, None}
use Rattle.std.proofs.lemmas.Bool.{cases_order, cond-true, cond-false, eq-eqb, eqb-true, le-ltb, lt-ltb, ne_eqb, true≢false}
use Rattle.std.proofs.lemmas.Option.{none-some, same_Some}
use Rattle.cf_volume_points.specs.Clusters.{times}
use Rattle.cf_volume_points.specs.Staging.{names}
use Rattle.cf_ranges.proofs.Maps.{one_list}
use Rattle.cf_ranges.specs.Pairs.{IsRising, IsRisingFrom, Puts, cluster_at}

-- 1 where the cluster is this one
abbrev pub is_one : ℕ → Option ℕ → ℕ
is_one k None = 0
is_one k (Some j) = cond (j == k) 1 0

-- no pair below the first
below : (low b : ℕ) (es : List (ℕ × ℕ)) → IsRisingFrom low es → b < low → cluster_at es b ≡ None
below low b [] r lt = refl
below low b (e ∷ es) r lt = cond-false (eqb e.0 b) (Some e.1) (cluster_at es b) (ne_eqb e.0 b (λ same. omega (arith, same, r.0, lt))) ∙ below (e.0 + 1) b es r.1 (omega (arith, r.0, lt))

lower : (low high : ℕ) (es : List (ℕ × ℕ)) → low ≤ high → IsRisingFrom high es → IsRisingFrom low es
lower low high [] le r = tt
lower low high (e ∷ es) le r = (omega (arith, r.0, le), r.1)

-- the pairs with another cluster for the block, or none

abbrev with_pair : ℕ → Option ℕ → List (ℕ × ℕ) → List (ℕ × ℕ)
with_pair b None es = es
with_pair b (Some k) es = (b, k) ∷ es

abbrev placed : ℕ → Option ℕ → List (ℕ × ℕ) → List (ℕ × ℕ)
placed b v [] = with_pair b v []
placed b v (e ∷ es) = cond (ltb e.0 b) (e ∷ placed b v es) (cond (eqb e.0 b) (with_pair b v es) (with_pair b v (e ∷ es)))

-- what holds of the pairs so made
record IsPlaced (low b : ℕ) (v : Option ℕ) (es fs : List (ℕ × ℕ)) : Type 0 where
  rising : low ≤ b → IsRisingFrom low fs
  puts : Puts es fs b v
  named : (k : ℕ) → times k (names fs) + is_one k (cluster_at es b) ≡ times k (names es) + is_one k v

front_rises : (low b : ℕ) (v : Option ℕ) (es : List (ℕ × ℕ)) → low ≤ b → IsRisingFrom (b + 1) es → IsRisingFrom low (with_pair b v es)
front_rises low b None es le r = lower low (b + 1) es (omega arith) r
front_rises low b (Some k) es le r = (le, r)

front_puts : (b : ℕ) (v : Option ℕ) (es : List (ℕ × ℕ)) → IsRisingFrom (b + 1) es → (q : ℕ) → cluster_at (with_pair b v es) q ≡ cond (eqb q b) v (cluster_at es q)
front_puts b None es r q = by (eqb q b) refl
  where
    by : (t : Bool) → eqb q b ≡ t → cluster_at es q ≡ cond t None (cluster_at es q)
    by false e = refl
    by true e = let same : q ≡ b = eqb-true q b e in below (b + 1) q es r (omega (arith, same))
front_puts b (Some k) es r q = ap (λ (t : Bool). cond t (Some k) (cluster_at es q)) (swap_test b q)
  where
    swap_test : (a c : ℕ) → eqb a c ≡ eqb c a
    swap_test a c = by (eqb a c) refl (eqb c a) refl
      where
        by : (t : Bool) → eqb a c ≡ t → (u : Bool) → eqb c a ≡ u → t ≡ u
        by true p true q = refl
        by false p false q = refl
        by true p false q = absurd (true≢false (sym (eq-eqb c a (sym (eqb-true a c p))) ∙ q))
        by false p true q = absurd (true≢false (sym (eq-eqb a c (sym (eqb-true c a q))) ∙ p))

front_named : (k b : ℕ) (v : Option ℕ) (es : List (ℕ × ℕ)) → times k (names (with_pair b v es)) ≡ times k (names es) + is_one k v
front_named k b None es = let e : times k (names es) ≡ times k (names es) + 0 = omega arith in e
front_named k b (Some j) es = omega arith

is_placed : (low b : ℕ) (v : Option ℕ) (es : List (ℕ × ℕ)) → IsRisingFrom low es → IsPlaced low b v es (placed b v es)
is_placed low b v [] r = record {
  rising = λ le. front_rises low b v [] le tt;
  puts = front_puts b v [] tt;
  named = λ k. let h = front_named k b v [] in omega (arith, h);
}
is_placed low b v (e ∷ es) r = elim (cases_order e.0 b) [
  | inl same ↦ subst (λ (l : List (ℕ × ℕ)). IsPlaced low b v (e ∷ es) l)
      (sym (cond-false (ltb e.0 b) _ _ (le-ltb e.0 b (omega (arith, same))) ∙ cond-true (eqb e.0 b) _ _ (eq-eqb e.0 b same)))
      (record {
        rising = λ le. front_rises low b v es le (subst (λ (n : ℕ). IsRisingFrom (n + 1) es) same r.1);
        puts = λ q. front_puts b v es (subst (λ (n : ℕ). IsRisingFrom (n + 1) es) same r.1) q ∙ here q same (eqb q b) refl;
        named = λ k. let h = front_named k b v es in let at : cluster_at (e ∷ es) b ≡ Some e.1 = cond-true (eqb e.0 b) (Some e.1) (cluster_at es b) (eq-eqb e.0 b same) in let one : is_one k (cluster_at (e ∷ es) b) ≡ is_one k (Some e.1) = ap (is_one k) at in omega (arith, h, one);
      })
  | inr other ↦ elim other [
    | inl less ↦ subst (λ (l : List (ℕ × ℕ)). IsPlaced low b v (e ∷ es) l) (sym (cond-true (ltb e.0 b) _ _ (lt-ltb e.0 b less)))
        (let h : IsPlaced (e.0 + 1) b v es (placed b v es) = is_placed (e.0 + 1) b v es r.1 in
        record {
          rising = λ le. (r.0, h.rising (omega arith));
          puts = λ q. first q less (eqb e.0 q) refl (h.puts q);
          named = λ k. let n = h.named k in let at : cluster_at (e ∷ es) b ≡ cluster_at es b = cond-false (eqb e.0 b) (Some e.1) (cluster_at es b) (ne_eqb e.0 b (λ s. omega (arith, s, less))) in let one : is_one k (cluster_at (e ∷ es) b) ≡ is_one k (cluster_at es b) = ap (is_one k) at in omega (arith, n, one);
        })
    | inr more ↦ subst (λ (l : List (ℕ × ℕ)). IsPlaced low b v (e ∷ es) l)
        (sym (cond-false (ltb e.0 b) _ _ (le-ltb e.0 b (omega (arith, more))) ∙ cond-false (eqb e.0 b) _ _ (ne_eqb e.0 b (λ s. omega (arith, s, more)))))
        (record {
          rising = λ le. front_rises low b v (e ∷ es) le (omega (arith, more), r.1);
          puts = front_puts b v (e ∷ es) (omega (arith, more), r.1);
          named = λ k. let h = front_named k b v (e ∷ es) in let at : cluster_at (e ∷ es) b ≡ None = below (b + 1) b (e ∷ es) (omega (arith, more), r.1) (omega arith) in let one : is_one k (cluster_at (e ∷ es) b) ≡ 0 = ap (is_one k) at in omega (arith, h, one);
        })
  ]
]
  where
    here : (q : ℕ) → e.0 ≡ b → (t : Bool) → eqb q b ≡ t → cond t v (cluster_at es q) ≡ cond t v (cluster_at (e ∷ es) q)
    here q same true p = refl
    here q same false p = sym (cond-false (eqb e.0 q) (Some e.1) (cluster_at es q) (ne_eqb e.0 q (λ s. true≢false (sym (eq-eqb q b (sym s ∙ same)) ∙ p))))

    first : (q : ℕ) → e.0 < b → (t : Bool) → eqb e.0 q ≡ t → cluster_at (placed b v es) q ≡ cond (eqb q b) v (cluster_at es q) → cond t (Some e.1) (cluster_at (placed b v es) q) ≡ cond (eqb q b) v (cond t (Some e.1) (cluster_at es q))
    first q less false p h = h
    first q less true p h = let s : e.0 ≡ q = eqb-true e.0 q p in sym (cond-false (eqb q b) v (Some e.1) (ne_eqb q b (λ z. omega (arith, s, z, less))))

-- Another cluster for a block: the one before is named once less, and the new one once more.
pub put_times : (es fs : List (ℕ × ℕ)) (b : ℕ) (v : Option ℕ) → IsRising es → IsRising fs → Puts es fs b v → (k : ℕ) → times k (names fs) + is_one k (cluster_at es b) ≡ times k (names es) + is_one k v
put_times es fs b v res rfs puts k =
    let h : IsPlaced 0 b v es (placed b v es) = is_placed 0 b v es res in
    let same : fs ≡ placed b v es = one_list 0 0 fs (placed b v es) rfs (h.rising (omega arith)) (λ q. puts q ∙ sym (h.puts q)) in
    let n : times k (names fs) ≡ times k (names (placed b v es)) = ap (λ (l : List (ℕ × ℕ)). times k (names l)) same in
    let m = h.named k in
    omega (arith, n, m)

-- what the extents name
pub named_once : (es : List (ℕ × ℕ)) (b k : ℕ) → cluster_at es b ≡ Some k → 1 ≤ times k (names es)
named_once [] b k e = absurd (none-some k e)
named_once (p ∷ ps) b k e = by (eqb p.0 b) e (named_once ps b k)
  where
    by : (t : Bool) → cond t (Some p.1) (cluster_at ps b) ≡ Some k → (cluster_at ps b ≡ Some k → 1 ≤ times k (names ps)) → 1 ≤ cond (eqb p.1 k) 1 0 + times k (names ps)
    by true h f = let one : eqb p.1 k ≡ true = eq-eqb p.1 k (same_Some p.1 k h) in let n : ◌≡◌ {A = ℕ} (cond (eqb p.1 k) 1 0) 1 = ap (λ (t : Bool). cond {A = ℕ} t 1 0) one in omega (arith, n)
    by false h f = let r = f h in omega (arith, r)
