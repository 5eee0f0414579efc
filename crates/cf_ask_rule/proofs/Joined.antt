-- Spans that are sorted and joined have the positions that they had.
use Rattle.std.proofs.Common.{◌≡◌, ℕ, suc, ◌+◌, ◌-◌, ◌<◌, ◌≤◌, ◌^◌, Bool, true, false, ◌&&◌, ◌||◌, cond, List, [], ◌∷◌, ◌++◌, drop, length, get_or, max, refl, sym, ap, ◌∙◌, arith, eqb, eq-eqb, ◌⊎◌, ◌≢◌, inl, inr}
use Rattle.std.specs.Prelude.{All, filter, map, min, nat_le, nat_lt}
use Rattle.std.specs.List.{AllByRecursion, list_any}
use Rattle.std.specs.List.Sorted.{IsNonDecreasingBy, IsPermutation}
use Rattle.std.proofs.lemmas.Bool.Decides.{eqb_tells, nat_tests}
use Rattle.std.proofs.lemmas.List.{drop_more}
use Rattle.std.proofs.lemmas.List.Elements.{All-append, All-cons, All-head, All-nil, All-tail}
use Rattle.std.proofs.lemmas.List.Sorted.{All-permutation, list_any-IsPermutation}
use Rattle.cf_base.specs.declared.spans.Span.{Span}
use Rattle.cf_ask_rule.proofs.Flags.{contains_append}
use Rattle.cf_ask_rule.specs.Near.{is_on}
use Rattle.cf_ask_rule.specs.Nexts.{cut, is_needed}
use Rattle.cf_ask_rule.specs.Unions.{IsSmall, joined_on}
use Rattle.cf_base.specs.declared.ids.ItemId.{ItemId}
use Rattle.cf_model.specs.Asks.{is_owned}
use Rattle.cf_model.specs.Missing.{View, Wait, needed}
use Rattle.cf_model.specs.Requests.{Live, has_block}
use Rattle.cf_ranges.specs.Positions.{IsRuns, IsRunsFrom, contains, in_span, within}
use Rattle.cf_ranges.specs.Steps.{piece}

piece_has : (u e p : ℕ) (b : Bool) → u < e → (within u (u + (e - u)) p || b) ≡ (within u e p || b)
piece_has u e p b h = let q : u + (e - u) ≡ e = omega arith in ap (λ k. within u k p || b) q

no_piece : (u e p : ℕ) (b : Bool) → e ≤ u → b ≡ (within u e p || b)
no_piece u e p true h = grind (arith, nat_tests)
no_piece u e p false h = grind (arith, nat_tests)

is_less : (m n : ℕ) → nat_lt m n ≡ true → m < n
is_less m n h = grind (arith, nat_tests)

is_not_less : (m n : ℕ) → nat_lt m n ≡ false → n ≤ m
is_not_less m n h = grind (arith, nat_tests)

is_most : (m n : ℕ) → nat_le m n ≡ true → m ≤ n
is_most m n h = grind (arith, nat_tests)

is_more : (m n : ℕ) → nat_le m n ≡ false → n < m
is_more m n h = grind (arith, nat_tests)

contains_piece : (u e p : ℕ) (rest : List Span) → contains (piece u e rest) p ≡ (within u e p || contains rest p)
contains_piece u e p rest = one (nat_lt u e) refl where
  one : (b : Bool) → nat_lt u e ≡ b → contains (cond b (record { start = u; len = e - u } ∷ rest) rest) p ≡ (within u e p || contains rest p)
  one true h = piece_has u e p (contains rest p) (is_less u e h)
  one false h = no_piece u e p (contains rest p) (is_not_less u e h)

lower : (low next : ℕ) (runs : List Span) → low ≤ next → IsRunsFrom next runs → IsRunsFrom low runs
lower low next [] l h = tt
lower low next (r ∷ rs) l h = let k : next ≤ r.start = h.0 in (omega arith, h.1, h.2, h.3)

runs_piece : (low u e next : ℕ) (rest : List Span) → low ≤ u → e ≤ 2 ^ 40 → u ≤ e → e + 1 ≤ next → IsRunsFrom next rest → IsRunsFrom low (piece u e rest)
runs_piece low u e next rest l m n o h = one (nat_lt u e) refl where
  one : (b : Bool) → nat_lt u e ≡ b → IsRunsFrom low (cond b (record { start = u; len = e - u } ∷ rest) rest)
  one true t = let k : u < e = is_less u e t in (l, omega arith, omega arith, lower (u + (e - u) + 1) next rest (omega arith) h)
  one false t = lower low next rest (omega arith) h

-- in order of their starts, from one on
abbrev Rises : ℕ → List Span → Type 0
Rises u [] = Unit {0}
Rises u (s ∷ ss) = (u ≤ s.start) × Rises s.start ss

rises_below : (u v : ℕ) (ss : List Span) → u ≤ v → Rises v ss → Rises u ss
rises_below u v [] l h = tt
rises_below u v (s ∷ ss) l h = let k : v ≤ s.start = h.0 in (omega arith, h.1)

rises : (u : ℕ) (ss : List Span) → ((k : ℕ) (d : Span) → k < length ss → u ≤ (get_or ss k d).start) → IsNonDecreasingBy (λ (s : Span). s.start) ss → Rises u ss
rises u [] l h = tt
rises u (s ∷ ss) l h = (l 0 s (omega arith), rises s.start ss (λ k d m. h 0 (suc k) d (omega arith) (omega arith)) (λ i j d a b. h (suc i) (suc j) d (omega arith) (omega arith)))

grown : (u s n e p : ℕ) (b : Bool) → u ≤ s → s ≤ e → (within u (max e (s + n)) p || b) ≡ (within u e p || (within s (s + n) p || b))
grown u s n e p true h k = grind (arith, nat_tests)
grown u s n e p false h k = grind (arith, nat_tests)

contains_joined : (u e p : ℕ) (ss : List Span) → Rises u ss → contains (joined_on u e ss) p ≡ (within u e p || contains ss p)
contains_joined u e p [] h = contains_piece u e p []
contains_joined u e p (s ∷ ss) h = one (nat_le s.start e) refl (contains_joined u (max e (s.start + s.len)) p ss (rises_below u s.start ss h.0 h.1)) (contains_joined s.start (s.start + s.len) p ss h.1) where
  one : (b : Bool) → nat_le s.start e ≡ b → contains (joined_on u (max e (s.start + s.len)) ss) p ≡ (within u (max e (s.start + s.len)) p || contains ss p)
      → contains (joined_on s.start (s.start + s.len) ss) p ≡ (within s.start (s.start + s.len) p || contains ss p)
      → contains (cond b (joined_on u (max e (s.start + s.len)) ss) (piece u e (joined_on s.start (s.start + s.len) ss))) p ≡ (within u e p || (in_span s p || contains ss p))
  one true t f g = f ∙ grown u s.start s.len e p (contains ss p) h.0 (is_most s.start e t)
  one false t f g = contains_piece u e p (joined_on s.start (s.start + s.len) ss) ∙ ap (λ b. within u e p || b) g

runs_joined : (low u e : ℕ) (ss : List Span) → low ≤ u → u ≤ e → e ≤ 2 ^ 40 → Rises u ss → AllByRecursion IsSmall ss → IsRunsFrom low (joined_on u e ss)
runs_joined low u e [] l m n h a = runs_piece low u e (e + 1) [] l n m (omega arith) tt
runs_joined low u e (s ∷ ss) l m n h a = one (nat_le s.start e) refl (λ t k. runs_joined low u (max e (s.start + s.len)) ss l t k (rises_below u s.start ss h.0 h.1) a.1) (λ t k. runs_joined (e + 1) s.start (s.start + s.len) ss t (omega arith) k h.1 a.1) where
  one : (b : Bool) → nat_le s.start e ≡ b → (u ≤ max e (s.start + s.len) → max e (s.start + s.len) ≤ 2 ^ 40 → IsRunsFrom low (joined_on u (max e (s.start + s.len)) ss)) → (e + 1 ≤ s.start → s.start + s.len ≤ 2 ^ 40 → IsRunsFrom (e + 1) (joined_on s.start (s.start + s.len) ss))
      → IsRunsFrom low (cond b (joined_on u (max e (s.start + s.len)) ss) (piece u e (joined_on s.start (s.start + s.len) ss)))
  one true t f g = let k : s.start + s.len ≤ 2 ^ 40 = a.0 in f (omega arith) (omega arith)
  one false t f g = let k : e < s.start = is_more s.start e t in let q : s.start + s.len ≤ 2 ^ 40 = a.0 in runs_piece low u e (e + 1) (joined_on s.start (s.start + s.len) ss) l n m (omega arith) (g (omega arith) q)

contains_any : (p : ℕ) (ss : List Span) → contains ss p ≡ list_any (λ s. in_span s p) ss
contains_any p [] = refl
contains_any p (s ∷ ss) = ap (λ b. in_span s p || b) (contains_any p ss)

same_places : (p : ℕ) (xs ys : List Span) → IsPermutation xs ys → contains ys p ≡ contains xs p
same_places p xs ys h = contains_any p ys ∙ sym (list_any-IsPermutation (λ s. in_span s p) xs ys h) ∙ sym (contains_any p xs)

none_within : (p : ℕ) (b : Bool) → (within 0 0 p || b) ≡ b
none_within p true = grind (arith, nat_tests)
none_within p false = grind (arith, nat_tests)

pub union_has : (p : ℕ) (xs ys : List Span) → IsPermutation xs ys → IsNonDecreasingBy (λ (s : Span). s.start) ys → contains (joined_on 0 0 ys) p ≡ contains xs p
union_has p xs ys h k = contains_joined 0 0 p ys (rises 0 ys (λ i d l. omega arith) k) ∙ none_within p (contains ys p) ∙ same_places p xs ys h

each_small : (ss : List Span) → All IsSmall ss → AllByRecursion IsSmall ss
each_small [] h = tt
each_small (s ∷ ss) h = (All-head IsSmall s ss h, each_small ss (All-tail IsSmall s ss h))

pub sorted_small : (xs ys : List Span) → IsPermutation xs ys → All IsSmall xs → AllByRecursion IsSmall ys
sorted_small xs ys h a = each_small ys (All-permutation IsSmall xs ys h a)

pub union_runs : (xs ys : List Span) → IsPermutation xs ys → All IsSmall xs → IsNonDecreasingBy (λ (s : Span). s.start) ys → IsRuns (joined_on 0 0 ys)
union_runs xs ys h a k = runs_joined 0 0 0 ys (omega arith) (omega arith) (omega arith) (rises 0 ys (λ i d l. omega arith) k) (sorted_small xs ys h a)

pub piece_then : (u e : ℕ) (rest : List Span) → piece u e [] ++ rest ≡ piece u e rest
piece_then u e rest = one (nat_lt u e) where
  one : (b : Bool) → cond b (record { start = u; len = e - u } ∷ []) [] ++ rest ≡ cond b (record { start = u; len = e - u } ∷ rest) rest
  one true = refl
  one false = refl

-- what waits need

cut_has : (u n t m size p : ℕ) → t ≡ min u size → m ≡ min n (size - t) → p < size → within t (t + m) p ≡ within u (u + n) p
cut_has u n t m size p e f h = grind (arith, nat_tests)

cut_small : (u n size : ℕ) → size ≤ 2 ^ 24 → min u size + min n (size - min u size) ≤ 2 ^ 40
cut_small u n size h = omega arith

pub spans_have : (item : ItemId) (v : View) (ws : List Wait) (p : ℕ) → p < length v.lacks → contains (map (λ w. cut (length v.lacks) (needed v w)) (filter (is_on item) ws)) p ≡ is_needed item v ws p
spans_have item v [] p h = refl
spans_have item v (w ∷ ws) p h = one (is_on item w) (spans_have item v ws p h) where
  one : (b : Bool) → contains (map (λ w. cut (length v.lacks) (needed v w)) (filter (is_on item) ws)) p ≡ is_needed item v ws p
      → contains (map (λ w. cut (length v.lacks) (needed v w)) (cond b (w ∷ filter (is_on item) ws) (filter (is_on item) ws))) p ≡ ((b && in_span (needed v w) p) || is_needed item v ws p)
  one true g = ap (λ b. b || contains (map (λ w. cut (length v.lacks) (needed v w)) (filter (is_on item) ws)) p) (cut_has (needed v w).start (needed v w).len _ _ (length v.lacks) p refl refl h) ∙ ap (λ b. in_span (needed v w) p || b) g
  one false g = g

pub spans_small : (v : View) (ws : List Wait) → length v.lacks ≤ 2 ^ 24 → All IsSmall (map (λ w. cut (length v.lacks) (needed v w)) ws)
spans_small v [] h = All-nil IsSmall
spans_small v (w ∷ ws) h = All-cons IsSmall (cut (length v.lacks) (needed v w)) (map (λ w. cut (length v.lacks) (needed v w)) ws) (cut_small (needed v w).start (needed v w).len (length v.lacks) h) (spans_small v ws h)

-- what asks own

small_from : (low : ℕ) (runs : List Span) → IsRunsFrom low runs → All IsSmall runs
small_from low [] h = All-nil IsSmall
small_from low (r ∷ rs) h = All-cons IsSmall r rs h.2 (small_from (r.start + r.len + 1) rs h.3)

pub more_small : (spans runs : List Span) → All IsSmall spans → IsRuns runs → All IsSmall (spans ++ runs)
more_small spans runs h k = All-append IsSmall spans runs h (small_from 0 runs k)

turned : (a b c : Bool) → ((a || b) || c) ≡ (a || (b || c))
turned true b c = refl
turned false b c = refl

unlike : (m n : ℕ) → m ≢ n → eqb m n ≡ false
unlike m n h = by (eqb_tells m n) where
  by : ((eqb m n ≡ true) × (m ≡ n)) ⊎ ((eqb m n ≡ false) × (m ≢ n)) → eqb m n ≡ false
  by (inl e) = absurd (h e.1)
  by (inr e) = e.0

pub owned_more : (item : ItemId) (a : Live) (asks : List Live) (i : ℕ) (spans runs new : List Span) → new ≡ spans ++ runs → drop i asks ≡ a ∷ drop (i + 1) asks → a.ask.item.0 ≡ item.0 → ((b : ℕ) → contains runs b ≡ has_block a.owned b)
    → ((b : ℕ) → (contains spans b || is_owned item (drop i asks) b) ≡ is_owned item asks b) → (b : ℕ) → (contains new b || is_owned item (drop (i + 1) asks) b) ≡ is_owned item asks b
owned_more item a asks i spans runs new n d t r h b =
    ap (λ (v : List Span). contains v b || is_owned item (drop (i + 1) asks) b) n
    ∙ ap (λ x. x || is_owned item (drop (i + 1) asks) b) (contains_append spans runs b ∙ ap (λ x. contains spans b || x) (r b))
    ∙ turned (contains spans b) (has_block a.owned b) (is_owned item (drop (i + 1) asks) b)
    ∙ ap (λ x. contains spans b || ((x && has_block a.owned b) || is_owned item (drop (i + 1) asks) b)) (sym (eq-eqb a.ask.item.0 item.0 t))
    ∙ ap (λ (v : List Live). contains spans b || is_owned item v b) (sym d)
    ∙ h b

pub owned_skipped : (item : ItemId) (a : Live) (asks : List Live) (i : ℕ) (spans new : List Span) → new ≡ spans → drop i asks ≡ a ∷ drop (i + 1) asks → a.ask.item.0 ≢ item.0
    → ((b : ℕ) → (contains spans b || is_owned item (drop i asks) b) ≡ is_owned item asks b) → (b : ℕ) → (contains new b || is_owned item (drop (i + 1) asks) b) ≡ is_owned item asks b
owned_skipped item a asks i spans new n d t h b =
    ap (λ (v : List Span). contains v b || is_owned item (drop (i + 1) asks) b) n
    ∙ ap (λ x. contains spans b || ((x && has_block a.owned b) || is_owned item (drop (i + 1) asks) b)) (sym (unlike a.ask.item.0 item.0 t))
    ∙ ap (λ (v : List Live). contains spans b || is_owned item v b) (sym d)
    ∙ h b

pub drop_at : (asks : List Live) (i : ℕ) (a : Live) → i < length asks → a ≡ get_or asks i a → drop i asks ≡ a ∷ drop (i + 1) asks
drop_at asks i a h is = drop_more asks i a h ∙ ap (λ (x : Live). x ∷ drop (i + 1) asks) (sym is)
