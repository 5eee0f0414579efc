-- The next number of which a test holds.
use Rattle.std.proofs.Common.{◌≡◌, ℕ, zero, suc, ◌+◌, ◌-◌, ◌^◌, ◌<◌, ◌≤◌, ◌⊎◌, ◌≢◌, inl, inr, Bool, true, false, ◌&&◌, ◌||◌, cond, leb, Option, Some, None, List, [], ◌∷◌, ◌++◌, length, get_or, max, refl, sym, ap, subst, ◌∙◌, arith}
use Rattle.std.specs.Prelude.{IfSome, map, nat_lt, nat_le}
use Rattle.std.proofs.lemmas.Bool.{cases_lt, leb-false, leb-true}
use Rattle.std.proofs.lemmas.List.{get_or_default}
use Rattle.std.proofs.lemmas.List.Sorted.{IsPartitionedBy-leb}
use Rattle.std.specs.List.Sorted.{IsNonDecreasingBy, IsPartitionPoint, IsPartitionedBy}
use Rattle.std.proofs.lemmas.Bool.Decides.{nat_tests}
use Rattle.cf_base.specs.declared.spans.Span.{Span}
use Rattle.cf_ask_rule.proofs.Search.{from_low}
use Rattle.cf_ask_rule.specs.Nexts.{IsEnd, IsFirstRun, IsNext, IsPlaceBeyond, lacks_at}
use Rattle.cf_ask_rule.specs.Sights.{flags_of}
use Rattle.cf_ask_rule.proofs.Flags.{contains_append}
use Rattle.cf_ask_rule.proofs.Wanting.{flag_below}
use Rattle.cf_model.specs.Missing.{View}
use Rattle.cf_model.specs.Words.{counting, passes_at}
use Rattle.cf_ranges.specs.Positions.{IsRuns, IsRunsFrom, contains, in_span, within}

-- in runs

outside : (u n p : ℕ) → p < u → within u (u + n) p ≡ false
outside u n p h = grind (arith, nat_tests)

beyond : (u n p : ℕ) → u + n ≤ p → within u (u + n) p ≡ false
beyond u n p h = grind (arith, nat_tests)

inside : (u n p : ℕ) → u ≤ p → p < u + n → within u (u + n) p ≡ true
inside u n p h k = grind (arith, nat_tests)

none_from : (low p : ℕ) (runs : List Span) → IsRunsFrom low runs → p < low → contains runs p ≡ false
none_from low p [] h l = refl
none_from low p (r ∷ rs) h l = let k : low ≤ r.start = h.0 in ap (λ b. b || contains rs p) (outside r.start r.len p (omega arith)) ∙ none_from (r.start + r.len + 1) p rs h.3 (omega arith)

-- the first run that reaches beyond a number gives the next
pub first_run : (low from : ℕ) (r : Span) (rs : List Span) → IsRunsFrom low (r ∷ rs) → from < r.start + r.len → IsNext (contains (r ∷ rs)) from (Some (max r.start from))
first_run low from r rs h l = let k : 0 < r.len = h.1 in (
  omega arith,
  ap (λ b. b || contains rs (max r.start from)) (inside r.start r.len (max r.start from) (omega arith) (omega arith)),
  λ p g m. ap (λ b. b || contains rs p) (outside r.start r.len p (omega arith)) ∙ none_from (r.start + r.len + 1) p rs h.3 (omega arith),
)

-- a run that ends by then is no matter
pub skip_run : (from : ℕ) (r : Span) (rs : List Span) (o : Option ℕ) → r.start + r.len ≤ from → IsNext (contains rs) from o → IsNext (contains (r ∷ rs)) from o
skip_run from r rs None l h = λ p g. ap (λ b. b || contains rs p) (beyond r.start r.len p (omega arith)) ∙ h p g
skip_run from r rs (Some n) l h = let a : from ≤ n = h.0 in (a, ap (λ b. b || contains rs n) (beyond r.start r.len n (omega arith)) ∙ h.1, λ p g m. ap (λ b. b || contains rs p) (beyond r.start r.len p (omega arith)) ∙ h.2 p g m)

-- what the place that a search by the ends gives says

ends_rise : (low : ℕ) (runs : List Span) → IsRunsFrom low runs → IsNonDecreasingBy (λ (r : Span). r.start + r.len) runs
ends_rise low [] h i j d le lt = absurd (omega arith)
ends_rise low (r ∷ rs) h zero zero d le lt = omega arith
ends_rise low (r ∷ rs) h zero (suc j) d le lt = let k : r.start + r.len + 1 ≤ (get_or rs j d).start = from_low (r.start + r.len + 1) j rs d h.3 (omega arith) in omega arith
ends_rise low (r ∷ rs) h (suc i) zero d le lt = absurd (omega arith)
ends_rise low (r ∷ rs) h (suc i) (suc j) d le lt = ends_rise (r.start + r.len + 1) rs h.3 i j d (omega arith) (omega arith)

pub parted : (at : ℕ) (runs : List Span) → IsRuns runs → IsPartitionedBy (λ (r : Span). leb (r.start + r.len) at) runs
parted at runs h = IsPartitionedBy-leb (λ (r : Span). r.start + r.len) runs at (ends_rise 0 runs h)

next_at : (low from i : ℕ) (runs : List Span) (d : Span) → IsRunsFrom low runs → ((k : ℕ) → k < i → (get_or runs k d).start + (get_or runs k d).len ≤ from) → i < length runs → from < (get_or runs i d).start + (get_or runs i d).len
    → IsNext (contains runs) from (Some (max (get_or runs i d).start from))
next_at low from i [] d h below lt more = absurd (omega arith)
next_at low from zero (r ∷ rs) d h below lt more = first_run low from r rs h more
next_at low from (suc i) (r ∷ rs) d h below lt more =
    skip_run from r rs (Some (max (get_or rs i d).start from)) (below 0 (omega arith)) (next_at (r.start + r.len + 1) from i rs d h.3 (λ k l. below (suc k) (omega arith)) (omega arith) more)

next_none : (from : ℕ) (runs : List Span) (d : Span) → ((k : ℕ) → k < length runs → (get_or runs k d).start + (get_or runs k d).len ≤ from) → IsNext (contains runs) from None
next_none from [] d below = λ p l. refl
next_none from (r ∷ rs) d below = skip_run from r rs None (below 0 (omega arith)) (next_none from rs d (λ k l. below (suc k) (omega arith)))

has_run : (low i : ℕ) (runs : List Span) (d : Span) → IsRunsFrom low runs → i < length runs → (p : ℕ) → (get_or runs i d).start ≤ p → p < (get_or runs i d).start + (get_or runs i d).len → contains runs p ≡ true
has_run low i [] d h lt p l m = absurd (omega arith)
has_run low zero (r ∷ rs) d h lt p l m = ap (λ b. b || contains rs p) (inside r.start r.len p l m)
has_run low (suc i) (r ∷ rs) d h lt p l m = or_true (in_span r p) (contains rs p) (has_run (r.start + r.len + 1) i rs d h.3 (omega arith) p l m) where
  or_true : (a b : Bool) → b ≡ true → (a || b) ≡ true
  or_true true b e = refl
  or_true false b e = e

small_run : (low i : ℕ) (runs : List Span) (d : Span) → IsRunsFrom low runs → i < length runs → (get_or runs i d).start + (get_or runs i d).len ≤ 2 ^ 40
small_run low i [] d h lt = absurd (omega arith)
small_run low zero (r ∷ rs) d h lt = h.2
small_run low (suc i) (r ∷ rs) d h lt = small_run (r.start + r.len + 1) i rs d h.3 (omega arith)

pub place_found : (from i : ℕ) (runs : List Span) → i ≤ length runs → IsPartitionPoint (λ (r : Span). leb (r.start + r.len) from ≡ true) (λ (r : Span). leb (r.start + r.len) from ≡ false) runs i → IsPlaceBeyond from runs i
place_found from i runs h point = record { in_range = h; by = λ k d less. leb-true _ _ (point.0 k d (omega arith) less); beyond = λ k d ge less. leb-false _ _ (point.1 k d ge less) }

is_most : (m n : ℕ) → nat_le m n ≡ true → m ≤ n
is_most m n h = grind (arith, nat_tests)

is_more : (m n : ℕ) → nat_le m n ≡ false → n < m
is_more m n h = grind (arith, nat_tests)

-- the run at a place ends beyond a number, and the one before it does not
pub place_near : (from i : ℕ) (runs : List Span) (d e : Span) (b c : Bool) → IsRuns runs → i < length runs → b ≡ nat_le ((get_or runs i d).start + (get_or runs i d).len) from → b ≡ false
    → c ≡ nat_le ((get_or runs (i - 1) e).start + (get_or runs (i - 1) e).len) from → (0 < i → c ≡ true) → IsPlaceBeyond from runs i
place_near from i runs d e b c h lt is f was t = record {
  in_range = omega arith;
  by = λ k x less.
      let m : (get_or runs k e).start + (get_or runs k e).len ≤ (get_or runs (i - 1) e).start + (get_or runs (i - 1) e).len = ends_rise 0 runs h k (i - 1) e (omega arith) (omega arith) in
      let n : (get_or runs (i - 1) e).start + (get_or runs (i - 1) e).len ≤ from = is_most _ _ (sym was ∙ t (omega arith)) in
      let q : (get_or runs k x).start + (get_or runs k x).len ≡ (get_or runs k e).start + (get_or runs k e).len = ap (λ (r : Span). r.start + r.len) (get_or_default runs k x e (omega arith)) in
      omega arith;
  beyond = λ k x ge less.
      let m : (get_or runs i d).start + (get_or runs i d).len ≤ (get_or runs k d).start + (get_or runs k d).len = ends_rise 0 runs h i k d ge less in
      let n : from < (get_or runs i d).start + (get_or runs i d).len = is_more _ _ (sym is ∙ f) in
      let q : (get_or runs k x).start + (get_or runs k x).len ≡ (get_or runs k d).start + (get_or runs k d).len = ap (λ (r : Span). r.start + r.len) (get_or_default runs k x d less) in
      omega arith;
}

pub point_some : (from i : ℕ) (runs : List Span) (d r : Span) → IsRuns runs → IsPlaceBeyond from runs i → i ≢ length runs → r ≡ get_or runs i d → IsFirstRun runs from (Some r)
point_some from i runs d r h point ne e = subst (λ (x : Span). IsFirstRun runs from (Some x)) (sym e)
    (beyond_it, small_run 0 i runs d h lt, next_at 0 from i runs d h (λ k less. point.by k d less) lt beyond_it, has_run 0 i runs d h lt)
  where
    lt : i < length runs
    lt = let le : i ≤ length runs = point.in_range in omega arith

    beyond_it : from < (get_or runs i d).start + (get_or runs i d).len
    beyond_it = point.beyond i d (omega arith) lt

pub point_none : (from i : ℕ) (runs : List Span) → IsPlaceBeyond from runs i → i ≡ length runs → IsFirstRun runs from None
point_none from i runs point e = next_none from runs (record { start = 0; len = 0 }) (λ k less. point.by k (record { start = 0; len = 0 }) (omega arith))

-- the end of the run that has a position

pub end_some : (runs : List Span) (r : Span) (at end : ℕ) → IsFirstRun runs at (Some r) → end ≡ cond (nat_le r.start at) (r.start + r.len) at → IsEnd runs at end
end_some runs r at end h e = subst (λ (n : ℕ). IsEnd runs at n) (sym e) (one (nat_le r.start at) refl) where
  begun : (s a : ℕ) → nat_le s a ≡ true → s ≤ a
  begun s a t = grind (arith, nat_tests)

  later : (s a : ℕ) → nat_le s a ≡ false → a < s
  later s a t = grind (arith, nat_tests)

  one : (b : Bool) → nat_le r.start at ≡ b → IsEnd runs at (cond b (r.start + r.len) at)
  one true t =
      let s : r.start ≤ at = begun r.start at t in
      let m : at < r.start + r.len = h.0 in
      record {
        from = omega arith;
        all = λ p l k. h.3 p (omega arith) k;
        none = λ q. absurd (omega arith);
        small = λ l. h.1;
      }
  one false t =
      let s : at < r.start = later r.start at t in
      record {
        from = omega arith;
        all = λ p l m. absurd (omega arith);
        none = λ q. h.2.2 at (omega arith) (omega arith);
        small = λ l. absurd (omega arith);
      }

pub end_none : (runs : List Span) (at : ℕ) → IsFirstRun runs at None → IsEnd runs at at
end_none runs at h = record {
  from = omega arith;
  all = λ p l m. absurd (omega arith);
  none = λ q. h at (omega arith);
  small = λ l. absurd (omega arith);
}

-- the same test

pub same_next : (f g : ℕ → Bool) (from : ℕ) (o : Option ℕ) → ((p : ℕ) → f p ≡ g p) → IsNext f from o → IsNext g from o
same_next f g from None e h = λ p l. sym (e p) ∙ h p l
same_next f g from (Some n) e h = (h.0, sym (e n) ∙ h.1, λ p l m. sym (e p) ∙ h.2 p l m)

-- flags

flag_from : (runs : List Span) (i n p : ℕ) → passes_at (λ b. b) (map (contains runs) (counting i n)) p ≡ (nat_lt p n && contains runs (i + p))
flag_from runs i zero p = none p where
  none : (p : ℕ) → false ≡ (nat_lt p zero && contains runs (i + p))
  none p = grind (arith, nat_tests)
flag_from runs i (suc n) zero = let e : i + 0 ≡ i = omega arith in ap (contains runs) (sym e) ∙ there n (contains runs (i + 0)) where
  there : (n : ℕ) (b : Bool) → b ≡ (nat_lt 0 (suc n) && b)
  there n true = grind (arith, nat_tests)
  there n false = grind (arith, nat_tests)
flag_from runs i (suc n) (suc p) = let e : i + 1 + p ≡ i + suc p = omega arith in flag_from runs (i + 1) n p ∙ ap (λ k. nat_lt p n && contains runs k) e ∙ ap (λ b. b && contains runs (i + suc p)) (same p n) where
  same : (p n : ℕ) → nat_lt p n ≡ nat_lt (suc p) (suc n)
  same p n = grind (arith, nat_tests)

pub flag_at : (runs : List Span) (n p : ℕ) → passes_at (λ b. b) (flags_of runs n) p ≡ (nat_lt p n && contains runs p)
flag_at runs n p = let e : 0 + p ≡ p = omega arith in flag_from runs 0 n p ∙ ap (λ k. nat_lt p n && contains runs k) e

-- what lacks, by two lists of runs and the size

pub lacks_next : (absent bare : List Span) (size from : ℕ) (v : View) (o : Option ℕ) → v.lacks ≡ flags_of (absent ++ bare) size → IsNext (λ p. nat_lt p size && (contains absent p || contains bare p)) from o → IsNext (lacks_at v) from o
lacks_next absent bare size from v o e h = same_next _ (lacks_at v) from o (λ p. ap (λ b. nat_lt p size && b) (sym (contains_append absent bare p)) ∙ sym (flag_at (absent ++ bare) size p) ∙ ap (λ f. passes_at (λ b. b) f p) (sym e)) h

pub next_small : (v : View) (from : ℕ) (o : Option ℕ) → length v.lacks ≤ 2 ^ 24 → IsNext (lacks_at v) from o → IfSome o (λ n. n < 2 ^ 24)
next_small v from None l h = tt
next_small v from (Some n) l h = let k : n < length v.lacks = flag_below v.lacks n h.1 in omega arith

-- what lacks and is needed, by turns

and_left : (a b : Bool) → a ≡ false → (a && b) ≡ false
and_left a b e = ap (λ x. x && b) e

and_right : (a b : Bool) → b ≡ false → (a && b) ≡ false
and_right true b e = e
and_right false b e = refl

sooner : (f g : ℕ → Bool) (from at n : ℕ) → ((p : ℕ) → from ≤ p → p < at → (f p && g p) ≡ false) → IsNext f at (Some n) → (p : ℕ) → from ≤ p → p < n → (f p && g p) ≡ false
sooner f g from at n k h p a b = by (cases_lt p at) where
  by : (p < at) ⊎ (at ≤ p) → (f p && g p) ≡ false
  by (inl l) = k p a l
  by (inr r) = and_left (f p) (g p) (h.2 p r b)

pub first_none : (f g : ℕ → Bool) (from at : ℕ) → ((p : ℕ) → from ≤ p → p < at → (f p && g p) ≡ false) → IsNext f at None → IsNext (λ p. f p && g p) from None
first_none f g from at k h = λ p a. by p a (cases_lt p at) where
  by : (p : ℕ) → from ≤ p → (p < at) ⊎ (at ≤ p) → (f p && g p) ≡ false
  by p a (inl l) = k p a l
  by p a (inr r) = and_left (f p) (g p) (h p r)

pub second_none : (f g : ℕ → Bool) (from at n : ℕ) → ((p : ℕ) → from ≤ p → p < at → (f p && g p) ≡ false) → IsNext f at (Some n) → IsNext g n None → IsNext (λ p. f p && g p) from None
second_none f g from at n k h i = λ p a. by p a (cases_lt p n) where
  by : (p : ℕ) → from ≤ p → (p < n) ⊎ (n ≤ p) → (f p && g p) ≡ false
  by p a (inl l) = sooner f g from at n k h p a l
  by p a (inr r) = and_right (f p) (g p) (i p r)

pub at_both : (f g : ℕ → Bool) (from at n m : ℕ) → from ≤ at → ((p : ℕ) → from ≤ p → p < at → (f p && g p) ≡ false) → IsNext f at (Some n) → IsNext g n (Some m) → m ≡ n → IsNext (λ p. f p && g p) from (Some n)
at_both f g from at n m l k h i e = let a : at ≤ n = h.0 in (omega arith, ap (λ x. x && g n) h.1 ∙ ap g (sym e) ∙ i.1, λ p x y. sooner f g from at n k h p x y)

pub later_both : (f g : ℕ → Bool) (from at n m : ℕ) → ((p : ℕ) → from ≤ p → p < at → (f p && g p) ≡ false) → IsNext f at (Some n) → IsNext g n (Some m) → (p : ℕ) → from ≤ p → p < m → (f p && g p) ≡ false
later_both f g from at n m k h i p a b = by (cases_lt p n) where
  by : (p < n) ⊎ (n ≤ p) → (f p && g p) ≡ false
  by (inl l) = sooner f g from at n k h p a l
  by (inr r) = and_right (f p) (g p) (i.2 p r b)
