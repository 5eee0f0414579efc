-- What makes a verdict right.
use Rattle.std.proofs.Common.{◌≡◌, ◌⊎◌, ◌≤◌, ◌<◌, ◌+◌, ◌-◌, ℕ, zero, suc, List, [], ◌∷◌, ◌++◌, length, refl, sym, ap, subst, arith, inl, inr}
use Rattle.cf_base.specs.declared.events.DeviceEvent.TheVariants as device
use Rattle.cf_base.specs.declared.events.Event.{Event}
use Rattle.cf_base.specs.declared.events.Event.TheVariants as event
use Rattle.cf_check_model.specs.Judging.{IsFirstUndecided, IsFirstWrong, IsUndecided, IsVerdict, accepts}
use Rattle.cf_check_model.specs.declared.verdicts.Verdict.TheVariants.{Lawful, Unlawful, Undecided}
use Rattle.cf_check_model.proofs.Fronts.{accepts_less}

not_unlawful : (n : ℕ) → Lawful ≡ Unlawful n → ⊥
not_unlawful n e = cc

not_undecided : (n : ℕ) → Lawful ≡ Undecided n → ⊥
not_undecided n e = cc

wrong_or_open : (n m : ℕ) → Unlawful n ≡ Undecided m → ⊥
wrong_or_open n m e = cc

not_lawful : (n : ℕ) → Unlawful n ≡ Lawful → ⊥
not_lawful n e = cc

open_not_lawful : (n : ℕ) → Undecided n ≡ Lawful → ⊥
open_not_lawful n e = cc

same_wrong : (n m : ℕ) → Unlawful n ≡ Unlawful m → n ≡ m
same_wrong n m e = cc

same_open : (n m : ℕ) → Undecided n ≡ Undecided m → n ≡ m
same_open n m e = cc

module _ (events : List Event) (report : List ℕ) (clusters : ℕ) where
  fewer : (more n : ℕ) → accepts events report clusters (more + n) → accepts events report clusters n
  fewer zero n h = subst (λ (k : ℕ). accepts events report clusters k) (omega arith) h
  fewer (suc more) n h = fewer more n (accepts_less events report clusters (more + n) (subst (λ (k : ℕ). accepts events report clusters k) (omega arith) h))

  up_to : (n m : ℕ) → n ≤ m → accepts events report clusters m → accepts events report clusters n
  up_to n m le h = fewer (m - n) n (subst (λ (k : ℕ). accepts events report clusters k) (omega (arith, le)) h)

  below_all : (n : ℕ) → IsUndecided events report clusters n → n ≤ length events
  below_all zero h = omega arith
  below_all (suc n) h = let lt : n < length events = h.0 in omega (arith, lt)

  -- no event is open
  pub lawful_verdict : accepts events report clusters (length events) → ((n : ℕ) → n ≤ length events → IsUndecided events report clusters n → ⊥) → IsVerdict events report clusters Lawful
  lawful_verdict taken none = record {
    lawful = λ e. taken;
    undecided = λ n e. absurd (not_undecided n e);
    where_undecided = λ n first. absurd (none n (below_all n first.0) first.0);
    unlawful = λ n e. absurd (not_unlawful n e);
    otherwise = λ all closed. refl;
  }

  -- the first event of which nothing can be said
  pub open_verdict : (n : ℕ) → IsUndecided events report clusters (suc n) → ((m : ℕ) → m ≤ n → IsUndecided events report clusters m → ⊥) → IsVerdict events report clusters (Undecided (suc n))
  open_verdict n unsaid none = record {
    lawful = λ e. absurd (open_not_lawful (suc n) e);
    undecided = λ m e. subst (λ (k : ℕ). IsFirstUndecided events report clusters k) (same_open (suc n) m e) (unsaid, λ earlier lt. none earlier (omega (arith, lt)));
    where_undecided = λ m first. ap (λ (k : ℕ). Undecided k) (where_first m first);
    unlawful = λ m e. absurd (wrong_or_open m (suc n) (sym e));
    otherwise = λ all closed. absurd (closed (suc n) unsaid);
  }
    where
      where_first : (m : ℕ) → IsFirstUndecided events report clusters m → suc n ≡ m
      where_first m first = by (below_or_not m (suc n)) (below_or_not (suc n) m)
        where
          below_or_not : (x y : ℕ) → (x < y) ⊎ (y ≤ x)
          below_or_not x zero = inr (omega arith)
          below_or_not zero (suc y) = inl (omega arith)
          below_or_not (suc x) (suc y) = elim (below_or_not x y) as (λ _. (suc x < suc y) ⊎ (suc y ≤ suc x)) [ inl h ↦ inl (omega (arith, h)) | inr h ↦ inr (omega (arith, h)) ]

          by : (m < suc n) ⊎ (suc n ≤ m) → (suc n < m) ⊎ (m ≤ suc n) → suc n ≡ m
          by (inl lt) k = absurd (none m (omega (arith, lt)) first.0)
          by (inr ge) (inl lt) = absurd (first.1 (suc n) lt unsaid)
          by (inr ge) (inr le) = omega (arith, ge, le)

  -- what is undecided later was accepted before
  taken_before : (n m : ℕ) → suc n < m → IsUndecided events report clusters m → accepts events report clusters (suc n)
  taken_before n zero lt h = absurd (omega (arith, lt))
  taken_before n (suc m) lt (below, inl x) = up_to (suc n) m (omega (arith, lt)) x.0
  taken_before n (suc m) lt (below, inr x) = up_to (suc n) (suc m) (omega (arith, lt)) (x.2.0 ++ (event.Device device.Restart, x.2.1) ∷ [], x.0, x.2.5)

  -- the first event with which nothing is accepted
  pub wrong_verdict : (n : ℕ) → n < length events → accepts events report clusters n → (accepts events report clusters (suc n) → ⊥) → ((m : ℕ) → m ≤ suc n → IsUndecided events report clusters m → ⊥) → IsVerdict events report clusters (Unlawful (suc n))
  wrong_verdict n below taken wrong none = record {
    lawful = λ e. absurd (not_lawful (suc n) e);
    undecided = λ m e. absurd (wrong_or_open (suc n) m e);
    where_undecided = λ m first. absurd (never m first.0);
    unlawful = λ m e. subst (λ (k : ℕ). IsFirstWrong events report clusters k) (same_wrong (suc n) m e) (below, taken, wrong);
    otherwise = λ all closed. absurd (wrong (up_to (suc n) (length events) (omega (arith, below)) all));
  }
    where
      never : (m : ℕ) → IsUndecided events report clusters m → ⊥
      never m h = by (le_or_more m)
        where
          le_or_more : (k : ℕ) → (k ≤ suc n) ⊎ (suc n < k)
          le_or_more k = go k (suc n)
            where
              go : (x y : ℕ) → (x ≤ y) ⊎ (y < x)
              go zero y = inl (omega arith)
              go (suc x) zero = inr (omega arith)
              go (suc x) (suc y) = elim (go x y) as (λ _. (suc x ≤ suc y) ⊎ (suc y < suc x)) [ inl h ↦ inl (omega (arith, h)) | inr h ↦ inr (omega (arith, h)) ]

          by : (m ≤ suc n) ⊎ (suc n < m) → ⊥
          by (inl le) = none m le h
          by (inr lt) = wrong (taken_before n m lt h)

  -- a script without events
  pub empty_verdict : events ≡ [] → (accepts events report clusters 0 → ⊥) → IsVerdict events report clusters (Unlawful 0)
  empty_verdict none wrong = record {
    lawful = λ e. absurd (not_lawful 0 e);
    undecided = λ m e. absurd (wrong_or_open 0 m e);
    where_undecided = λ m first. absurd (never m first.0);
    unlawful = λ m e. subst (λ (k : ℕ). IsFirstWrong events report clusters k) (same_wrong 0 m e) (none, wrong);
    otherwise = λ all closed. absurd (wrong (up_to 0 (length events) (omega arith) all));
  }
    where
      never : (m : ℕ) → IsUndecided events report clusters m → ⊥
      never zero h = h
      never (suc m) h = let lt : m < length events = h.0 in let e : length events ≡ 0 = ap (λ (es : List Event). length es) none in omega (arith, lt, e)
