-- Reads in line: what is added and what is left stands in line, and a search by halves finds those that need something of a span.
use Rattle.std.proofs.Common.{◌≡◌, ℕ, zero, suc, ◌+◌, ◌^◌, ◌<◌, ◌≤◌, Bool, true, false, ◌&&◌, ◌||◌, cond, Option, Some, None, List, [], ◌∷◌, ◌++◌, get_or, length, take, drop, max, min, refl, sym, ap, subst, ◌∙◌, arith, eqb, leb, ltb}
use Rattle.std.specs.Prelude.{IfSome, filter, is_some, nat_lt}
use Rattle.std.specs.List.{AllByRecursion, list_any}
use Rattle.std.specs.List.Sorted.{IsNonDecreasingBy, IsPartitionPoint, IsPartitionedBy}
use Rattle.std.proofs.lemmas.Bool.{leb-true, ltb-false}
use Rattle.std.proofs.lemmas.Bool.Decides.{nat_tests}
use Rattle.std.proofs.lemmas.List.Sorted.{IsPartitionedBy-leb, IsPartitionedBy-ltb}
use Rattle.cf_ask_rule.specs.Narrowing.{AreNear, reaches_into}
use Rattle.cf_base.specs.declared.ids.ItemId.{ItemId}
use Rattle.cf_base.specs.declared.spans.Span.{Span}
use Rattle.cf_base.specs.declared.waits.WaitKind.{WaitKind}
use Rattle.cf_base.specs.declared.waits.WaitKind.TheVariants as wait_kind
use Rattle.cf_model.specs.Missing.{View, Wait, needed, needed_by, needed_by_read}
use Rattle.cf_waits.proofs.Skipped.{near_first}
use Rattle.cf_waits.specs.Lines.{AreBehind, InLine, IsLine, is_read}

-- one more, and some left

pushed : (from to e : ℕ) (ws : List Wait) (w : Wait) → AreBehind from to ws → is_read w.kind ≡ true → to ≤ w.span.start → w.span.start + w.span.len ≤ e → AreBehind from e (ws ++ w ∷ [])
pushed from to e [] w h r l k = let a : from ≤ to = h in (r, omega arith, k)
pushed from to e (x ∷ xs) w h r l k = (h.0, h.1, pushed (x.span.start + x.span.len) to e xs w h.2 r l k)

line_on : (end e : ℕ) (w : Wait) (ws : List Wait) → (is_read w.kind ≡ true) × (end ≤ w.span.start) × (w.span.start + w.span.len ≤ e) × (e ≤ 2 ^ 52) → InLine (Some end) ws → InLine (Some e) (ws ++ w ∷ [])
line_on end e w ws g h = (pushed 0 end e ws w h.0 g.0 g.1 g.2, g.3)

pub line_by : (end : ℕ) (next : Option ℕ) (w : Wait) (ws : List Wait) → IfSome next (λ e. (is_read w.kind ≡ true) × (end ≤ w.span.start) × (w.span.start + w.span.len ≤ e) × (e ≤ 2 ^ 52)) → InLine (Some end) ws → InLine next (ws ++ w ∷ [])
line_by end None w ws g h = tt
line_by end (Some e) w ws g h = line_on end e w ws g h

lower : (from low to : ℕ) (ws : List Wait) → low ≤ from → AreBehind from to ws → AreBehind low to ws
lower from low to [] l h = let a : from ≤ to = h in omega arith
lower from low to (w ∷ ws) l h = let a : from ≤ w.span.start = h.1 in (h.0, omega arith, h.2)

fewer : (p : Wait → Bool) (from to : ℕ) (ws : List Wait) → AreBehind from to ws → AreBehind from to (filter p ws)
fewer p from to [] h = h
fewer p from to (w ∷ ws) h = one (p w) (fewer p (w.span.start + w.span.len) to ws h.2) where
  one : (b : Bool) → AreBehind (w.span.start + w.span.len) to (filter p ws) → AreBehind from to (cond b (w ∷ filter p ws) (filter p ws))
  one true g = (h.0, h.1, g)
  one false g = let a : from ≤ w.span.start = h.1 in lower (w.span.start + w.span.len) from to (filter p ws) (omega arith) g

pub line_fewer : (p : Wait → Bool) (line : Option ℕ) (ws : List Wait) → InLine line ws → InLine line (filter p ws)
line_fewer p None ws h = tt
line_fewer p (Some e) ws h = (fewer p 0 e ws h.0, h.1)

pub line_kept : (p : Wait → Bool) (line : Option ℕ) (ws left : List Wait) → InLine line ws → left ≡ filter p ws → InLine line left
line_kept p line ws left h e = subst (λ (l : List Wait). InLine line l) (sym e) (line_fewer p line ws h)

pub line_none : (ws : List Wait) → ws ≡ [] → InLine (Some 0) ws
line_none ws e = subst (λ (l : List Wait). InLine (Some 0) l) (sym e) (omega arith, omega arith)

dropped : (n from to : ℕ) (ws : List Wait) → AreBehind from to ws → AreBehind 0 to (drop n ws)
dropped zero from to ws h = lower from 0 to ws (omega arith) h
dropped (suc n) from to [] h = omega arith
dropped (suc n) from to (w ∷ ws) h = dropped n (w.span.start + w.span.len) to ws h.2

pub line_is : (line : Option ℕ) (ws : List Wait) → is_some line ≡ true → InLine line ws → IsLine ws
line_is None ws s h = let z : false ≡ true = s in cc
line_is (Some e) ws s h = (e, h.0)

-- in order of their starts, and of their ends

start_from : (from to j : ℕ) (ws : List Wait) (d : Wait) → AreBehind from to ws → j < length ws → from ≤ (get_or ws j d).span.start
start_from from to j [] d h l = absurd (omega arith)
start_from from to zero (w ∷ ws) d h l = h.1
start_from from to (suc j) (w ∷ ws) d h l =
    let a : from ≤ w.span.start = h.1 in
    let b : w.span.start + w.span.len ≤ (get_or ws j d).span.start = start_from (w.span.start + w.span.len) to j ws d h.2 (omega arith) in
    omega arith

starts_rise : (from to : ℕ) (ws : List Wait) → AreBehind from to ws → IsNonDecreasingBy (λ (w : Wait). w.span.start) ws
starts_rise from to [] h i j d le l = absurd (omega arith)
starts_rise from to (w ∷ ws) h zero zero d le l = omega arith
starts_rise from to (w ∷ ws) h zero (suc j) d le l = let b : w.span.start + w.span.len ≤ (get_or ws j d).span.start = start_from (w.span.start + w.span.len) to j ws d h.2 (omega arith) in omega arith
starts_rise from to (w ∷ ws) h (suc i) zero d le l = absurd (omega arith)
starts_rise from to (w ∷ ws) h (suc i) (suc j) d le l = starts_rise (w.span.start + w.span.len) to ws h.2 i j d (omega arith) (omega arith)

ends_rise : (from to : ℕ) (ws : List Wait) → AreBehind from to ws → IsNonDecreasingBy (λ (w : Wait). w.span.start + w.span.len) ws
ends_rise from to [] h i j d le l = absurd (omega arith)
ends_rise from to (w ∷ ws) h zero zero d le l = omega arith
ends_rise from to (w ∷ ws) h zero (suc j) d le l = let b : w.span.start + w.span.len ≤ (get_or ws j d).span.start = start_from (w.span.start + w.span.len) to j ws d h.2 (omega arith) in omega arith
ends_rise from to (w ∷ ws) h (suc i) zero d le l = absurd (omega arith)
ends_rise from to (w ∷ ws) h (suc i) (suc j) d le l = ends_rise (w.span.start + w.span.len) to ws h.2 i j d (omega arith) (omega arith)

pub parted_ends : (at : ℕ) (ws : List Wait) → IsLine ws → IsPartitionedBy (λ (w : Wait). leb (w.span.start + w.span.len) at) ws
parted_ends at ws h = IsPartitionedBy-leb (λ (w : Wait). w.span.start + w.span.len) ws at (ends_rise 0 h.0 ws h.1)

pub parted_starts : (at n : ℕ) (ws rest : List Wait) → IsLine ws → rest ≡ drop n ws → IsPartitionedBy (λ (w : Wait). ltb w.span.start at) rest
parted_starts at n ws rest h e = IsPartitionedBy-ltb (λ (w : Wait). w.span.start) rest at (subst (λ (l : List Wait). IsNonDecreasingBy (λ (w : Wait). w.span.start) l) (sym e) (starts_rise 0 h.0 (drop n ws) (dropped n 0 h.0 ws h.1)))

-- those that end before the span, or begin behind it

needed_read : (kind : WaitKind) (v : View) (s : Span) → is_read kind ≡ true → v.whole ≡ false → needed_by kind v s ≡ s
needed_read wait_kind.Read v s r w = ap (λ b. needed_by_read b (length v.lacks) s) w
needed_read wait_kind.Hydrate v s r w = let z : false ≡ true = r in cc
needed_read wait_kind.Background v s r w = let z : false ≡ true = r in cc
needed_read wait_kind.List v s r w = let z : false ≡ true = r in cc
needed_read wait_kind.Dehydrate v s r w = let z : false ≡ true = r in cc

no_reach : (s n start end : ℕ) → s + n ≤ start → nat_lt (max s start) (min (s + n) end) ≡ false
no_reach s n start end l = grind (arith, nat_tests)

no_reach_behind : (s n start end : ℕ) → end ≤ s → nat_lt (max s start) (min (s + n) end) ≡ false
no_reach_behind s n start end l = grind (arith, nat_tests)

and_false : (a b : Bool) → b ≡ false → (a && b) ≡ false
and_false true b h = h
and_false false b h = refl

module _ (item : ItemId) (v : View) (start end : ℕ) (part : v.whole ≡ false) where
  abbrev needing : Wait → Bool
  needing w = (eqb w.item.0 item.0) && reaches_into (needed v w) start end

  far_read : (w : Wait) → is_read w.kind ≡ true → reaches_into w.span start end ≡ false → needing w ≡ false
  far_read w r h = and_false (eqb w.item.0 item.0) (reaches_into (needed v w) start end) (ap (λ (s : Span). reaches_into s start end) (needed_read w.kind v w.span r part) ∙ h)

  far_front : (n from to : ℕ) (ws : List Wait) → AreBehind from to ws → ((k : ℕ) (d : Wait) → k < n → k < length ws → (get_or ws k d).span.start + (get_or ws k d).span.len ≤ start) → AllByRecursion (λ w. needing w ≡ false) (take n ws)
  far_front zero from to ws h f = tt
  far_front (suc n) from to [] h f = tt
  far_front (suc n) from to (w ∷ ws) h f =
      (far_read w h.0 (no_reach w.span.start w.span.len start end (f 0 w (omega arith) (omega arith))), far_front n (w.span.start + w.span.len) to ws h.2 (λ k d l m. f (suc k) d (omega arith) (omega arith)))

  far_back : (n from to : ℕ) (ws : List Wait) → AreBehind from to ws → ((k : ℕ) (d : Wait) → n ≤ k → k < length ws → end ≤ (get_or ws k d).span.start) → list_any needing (drop n ws) ≡ false
  far_back zero from to [] h f = refl
  far_back zero from to (w ∷ ws) h f =
      ap (λ b. b || list_any needing ws) (far_read w h.0 (no_reach_behind w.span.start w.span.len start end (f 0 w (omega arith) (omega arith))))
      ∙ far_back zero (w.span.start + w.span.len) to ws h.2 (λ k d l m. f (suc k) d (omega arith) (omega arith))
  far_back (suc n) from to [] h f = refl
  far_back (suc n) from to (w ∷ ws) h f = far_back n (w.span.start + w.span.len) to ws h.2 (λ k d l m. f (suc k) d (omega arith) (omega arith))

  pub near_line : (waits rest : List Wait) (n k : ℕ) → rest ≡ drop n waits → IsLine waits → n ≤ length waits
      → IsPartitionPoint (λ (w : Wait). leb (w.span.start + w.span.len) start ≡ true) (λ (w : Wait). leb (w.span.start + w.span.len) start ≡ false) waits n
      → IsPartitionPoint (λ (w : Wait). ltb w.span.start end ≡ true) (λ (w : Wait). ltb w.span.start end ≡ false) rest k → AreNear item v start end (take k rest) waits
  near_line waits rest n k e line le p q =
      near_first item v start end waits rest (take k rest) n k e (far_front n 0 line.0 waits line.1 (λ j d l m. leb-true _ _ (p.0 j d (omega arith) l))) refl
      (far_back k 0 line.0 rest (subst (λ (l : List Wait). AreBehind 0 line.0 l) (sym e) (dropped n 0 line.0 waits line.1)) (λ j d l m. ltb-false _ _ (q.1 j d l m)))
