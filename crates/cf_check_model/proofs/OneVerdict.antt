-- At most one verdict is right.
use Rattle.std.proofs.Common.{◌≡◌, ◌⊎◌, ◌≤◌, ◌<◌, ◌+◌, ◌-◌, ℕ, zero, suc, List, length, refl, sym, ap, subst, arith, inl, inr}
use Rattle.cf_base.specs.declared.events.Event.{Event}
use Rattle.cf_check_model.specs.Judging.{IsFirstWrong, IsVerdict, accepts}
use Rattle.cf_check_model.specs.declared.verdicts.Verdict.{Verdict}
use Rattle.cf_check_model.specs.declared.verdicts.Verdict.TheVariants.{Lawful, Unlawful, Undecided}
use Rattle.cf_check_model.proofs.Fronts.{accepts_less}

module _ (events : List Event) (report : List ℕ) (clusters : ℕ) where
  -- all of a number of events are accepted where more of them are
  fewer : (more n : ℕ) → accepts events report clusters (more + n) → accepts events report clusters n
  fewer zero n h = subst (λ (k : ℕ). accepts events report clusters k) (omega arith) h
  fewer (suc more) n h = fewer more n (accepts_less events report clusters (more + n) (subst (λ (k : ℕ). accepts events report clusters k) (omega arith) h))

  up_to : (n m : ℕ) → n ≤ m → accepts events report clusters m → accepts events report clusters n
  up_to n m le h = fewer (m - n) n (subst (λ (k : ℕ). accepts events report clusters k) (omega (arith, le)) h)

  not_wrong : (n : ℕ) → IsFirstWrong events report clusters n → accepts events report clusters (length events) → ⊥
  not_wrong zero w h = w.1 (up_to zero (length events) (omega arith) h)
  not_wrong (suc n) w h = w.2 (up_to (suc n) (length events) (omega (arith, w.0)) h)

  -- the lesser of two is accepted
  apart : (n m : ℕ) → IsFirstWrong events report clusters n → IsFirstWrong events report clusters m → n < m → ⊥
  apart zero zero v w lt = omega (arith, lt)
  apart zero (suc m) v w lt = v.1 (up_to zero m (omega arith) w.1)
  apart (suc n) zero v w lt = omega (arith, lt)
  apart (suc n) (suc m) v w lt = v.2 (up_to (suc n) m (omega (arith, lt)) w.1)

  below_or_not : (n m : ℕ) → (n < m) ⊎ (m ≤ n)
  below_or_not n zero = inr (omega arith)
  below_or_not zero (suc m) = inl (omega arith)
  below_or_not (suc n) (suc m) = elim (below_or_not n m) as (λ _. (suc n < suc m) ⊎ (suc m ≤ suc n)) [ inl h ↦ inl (omega (arith, h)) | inr h ↦ inr (omega (arith, h)) ]

  same_place : (n m : ℕ) → IsFirstWrong events report clusters n → IsFirstWrong events report clusters m → n ≡ m
  same_place n m v w = by (below_or_not n m) (below_or_not m n)
    where
      by : (n < m) ⊎ (m ≤ n) → (m < n) ⊎ (n ≤ m) → n ≡ m
      by (inl a) k = absurd (apart n m v w a)
      by (inr a) (inl b) = absurd (apart m n w v b)
      by (inr a) (inr b) = omega (arith, a, b)

  pub one_verdict : (v w : Verdict) → IsVerdict events report clusters v → IsVerdict events report clusters w → v ≡ w
  one_verdict Lawful Lawful is so = refl
  one_verdict (Undecided n) w is so = sym (so.where_undecided n (is.undecided n refl))
  one_verdict v (Undecided n) is so = is.where_undecided n (so.undecided n refl)
  one_verdict Lawful (Unlawful n) is so = absurd (not_wrong n (so.unlawful n refl) (is.lawful refl))
  one_verdict (Unlawful n) Lawful is so = absurd (not_wrong n (is.unlawful n refl) (so.lawful refl))
  one_verdict (Unlawful n) (Unlawful m) is so = ap (λ (k : ℕ). Unlawful k) (same_place n m (is.unlawful n refl) (so.unlawful m refl))
