-- Where a view lacks less than one by which its item was settled: the waits that end need something of what changed, and the
-- asks that own nothing there, and nothing that the ended waits need, stay.
use Rattle.std.proofs.Common.{◌≡◌, ℕ, zero, suc, ◌+◌, ◌*◌, ◌/◌, ◌^◌, ◌<◌, ◌≤◌, ◌⊎◌, inl, inr, Bool, true, false, ◌&&◌, ◌||◌, not, cond, Option, Some, None, List, [], ◌∷◌, get_or, length, max, min, take, refl, sym, ap, subst, ◌∙◌, arith, eqb}
use Rattle.std.specs.Prelude.{is_some, nat_lt}
use Rattle.std.specs.List.{AllByRecursion, list_any}
use Rattle.std.proofs.lemmas.Bool.Decides.{nat_tests}
use Rattle.cf_ask_rule.proofs.Blocks.{misses_counting}
use Rattle.cf_ask_rule.proofs.Filters.{all_then, not_both, or_left}
use Rattle.cf_ask_rule.proofs.Wanting.{flag, flag_below, hit_all, hit_between, some_between, some_missed}
use Rattle.cf_ask_rule.specs.Deeds.{cause_for, why_for}
use Rattle.cf_ask_rule.specs.Narrowing.{IsWithin, Narrows, reaches_into, why_near}
use Rattle.cf_ask_rule.specs.Near.{is_on}
use Rattle.cf_ask_rule.specs.Nexts.{is_needed, lacks_at}
use Rattle.cf_base.specs.declared.ids.ItemId.{ItemId}
use Rattle.cf_base.specs.declared.spans.Span.{Span}
use Rattle.cf_base.specs.declared.waits.Cause.{Cause}
use Rattle.cf_base.specs.declared.waits.WaitKind.{WaitKind}
use Rattle.cf_base.specs.declared.waits.WaitKind.TheVariants as wait_kind
use Rattle.cf_model.specs.Asks.{ended_of, is_wanted, left_of, misses_in, or_met, with_end}
use Rattle.cf_model.specs.Missing.{View, Wait, any_between, is_met, is_met_by, misses, misses_between, needed, needed_by, needed_by_read, span_of}
use Rattle.cf_model.specs.Requests.{Deed, Live}
use Rattle.cf_model.specs.Words.{counting}
use Rattle.cf_ranges.specs.Positions.{in_span, within}

-- what is needed is the same

needed_kind : (u v : View) (kind : WaitKind) (s : Span) → length v.lacks ≡ length u.lacks → v.whole ≡ u.whole → needed_by kind v s ≡ needed_by kind u s
needed_kind u v wait_kind.Read s l w = ap (λ b. needed_by_read b (length v.lacks) s) w ∙ ap (λ n. needed_by_read u.whole n s) l
needed_kind u v wait_kind.Hydrate s l w = ap (span_of 0) l
needed_kind u v wait_kind.Background s l w = ap (span_of 0) l
needed_kind u v wait_kind.List s l w = refl
needed_kind u v wait_kind.Dehydrate s l w = refl

needed_same : (u v : View) (start end : ℕ) (w : Wait) → Narrows u v start end → needed v w ≡ needed u w
needed_same u v start end w h = needed_kind u v w.kind w.span h.size h.whole

-- a wait that needs nothing of what changed stays unmet

outside : (s n start end p : ℕ) → s ≤ p → p < s + n → nat_lt (max s start) (min (s + n) end) ≡ false → within start end p ≡ false
outside s n start end p a b h = grind (arith, nat_tests)

misses_still : (u v : View) (start end : ℕ) (w : Wait) → Narrows u v start end → reaches_into (needed v w) start end ≡ false → misses u w ≡ true → misses v w ≡ true
misses_still u v start end w h away m =
    let n : Span = needed u w in
    let same : needed v w ≡ n = needed_same u v start end w h in
    let r : (p : ℕ) × (max n.start 0 ≤ p) × (p < min (n.start + n.len) (length u.lacks)) × (flag u.lacks p ≡ true) = some_between u.lacks (max n.start 0) (min (n.start + n.len) (length u.lacks)) m in
    let low : max n.start 0 ≤ r.0 = r.1 in
    let high : r.0 < min (n.start + n.len) (length u.lacks) = r.2 in
    let size : length v.lacks ≡ length u.lacks = h.size in
    let gone : within start end r.0 ≡ false = outside n.start n.len start end r.0 (omega arith) (omega arith) (subst (λ (s : Span). reaches_into s start end ≡ false) same away) in
    subst (λ (s : Span). any_between v.lacks (max s.start 0) (min (s.start + s.len) (length v.lacks)) ≡ true) (sym same)
    (hit_between v.lacks (max n.start 0) (min (n.start + n.len) (length v.lacks)) r.0 low (omega arith) (h.same r.0 gone r.3))

missed : (b : Bool) → not b ≡ false → b ≡ true
missed true h = refl
missed false h = let z : true ≡ false = h in cc

unmet_by : (kind : WaitKind) (u v : View) (w : Wait) → (misses u w ≡ true → misses v w ≡ true) → v.populated ≡ u.populated → is_met_by kind u w ≡ false → is_met_by kind v w ≡ false
unmet_by wait_kind.Read u v w f p h = ap not (f (missed (misses u w) h))
unmet_by wait_kind.Hydrate u v w f p h = ap not (f (missed (misses u w) h))
unmet_by wait_kind.Background u v w f p h = ap not (f (missed (misses u w) h))
unmet_by wait_kind.List u v w f p h = p ∙ h
unmet_by wait_kind.Dehydrate u v w f p h = refl

with_near : (b m : Bool) → (b ≡ false → m ≡ false) → (b && m) ≡ m
with_near true m h = refl
with_near false m h = sym (h refl)

near_is : (item : ItemId) (u v : View) (d : Deed) (ask : Option Live) (start end : ℕ) (w : Wait) → Narrows u v start end → (is_on item w ≡ true → is_met u w ≡ false) → why_near item v d ask start end w ≡ why_for item v d ask w
near_is item u v d ask start end w h unmet = one (eqb w.item.0 item.0) refl where
  one : (b : Bool) → eqb w.item.0 item.0 ≡ b → cond b (or_met (cause_for d v ask w) (reaches_into (needed v w) start end && is_met v w)) None ≡ cond b (or_met (cause_for d v ask w) (is_met v w)) None
  one true e = ap (or_met (cause_for d v ask w)) (with_near (reaches_into (needed v w) start end) (is_met v w) (λ f. unmet_by w.kind u v w (misses_still u v start end w h f) h.populated (unmet e)))
  one false e = refl

pub all_near : (item : ItemId) (u v : View) (d : Deed) (ask : Option Live) (start end : ℕ) (ws : List Wait) → Narrows u v start end → AllByRecursion (λ w. is_on item w ≡ true → is_met u w ≡ false) ws → AllByRecursion (λ w. why_near item v d ask start end w ≡ why_for item v d ask w) ws
all_near item u v d ask start end ws h unmet = all_then (λ w. is_on item w ≡ true → is_met u w ≡ false) (λ w. why_near item v d ask start end w ≡ why_for item v d ask w) (λ w g. near_is item u v d ask start end w h g) ws unmet

pub ended_same : (f g : Wait → Option Cause) (ws : List Wait) → AllByRecursion (λ w. f w ≡ g w) ws → ended_of f ws ≡ ended_of g ws
ended_same f g [] h = refl
ended_same f g (w ∷ ws) h = ap (λ o. with_end w o (ended_of f ws)) h.0 ∙ ap (with_end w (g w)) (ended_same f g ws h.1)

-- of the waits that end, and of each wait that would end

pub of_ended : (P : Wait → Type 0) (f : Wait → Option Cause) (ws : List Wait) → AllByRecursion (λ (e : Wait × Cause). P e.0) (ended_of f ws) → AllByRecursion (λ w. is_some (f w) ≡ true → P w) ws
of_ended P f [] h = tt
of_ended P f (w ∷ ws) h = one (f w) (of_ended P f ws) h where
  one : (o : Option Cause) → (AllByRecursion (λ (e : Wait × Cause). P e.0) (ended_of f ws) → AllByRecursion (λ w. is_some (f w) ≡ true → P w) ws)
      → AllByRecursion (λ (e : Wait × Cause). P e.0) (with_end w o (ended_of f ws)) → (is_some o ≡ true → P w) × AllByRecursion (λ w. is_some (f w) ≡ true → P w) ws
  one None more k = ((λ t. absurd (not_both false t refl)), more k)
  one (Some c) more k = ((λ t. k.0), more k.1)

-- a block outside of what changed, and of what the ended waits need, is wanted still

both : (a b : Bool) → (a && b) ≡ true → (a ≡ true) × (b ≡ true)
both true b h = (refl, h)
both false b h = let z : false ≡ true = h in cc

either : (a b : Bool) → (a || b) ≡ true → (a ≡ true) ⊎ (b ≡ true)
either true b h = inl refl
either false b h = inr h

or_right : (a b : Bool) → b ≡ true → (a || b) ≡ true
or_right true b e = refl
or_right false b e = e

not_within : (lo hi s n p : ℕ) → lo ≤ s → min (s + n) (2 ^ 32) ≤ hi → p < 2 ^ 32 → within lo hi p ≡ false → within s (s + n) p ≡ false
not_within lo hi s n p a b l h = grind (arith, nat_tests)

needed_left : (item : ItemId) (u v : View) (start end lo hi p : ℕ) (f : Wait → Option Cause) (ws : List Wait) → Narrows u v start end → p < 2 ^ 32 → within lo hi p ≡ false → AllByRecursion (λ w. is_some (f w) ≡ true → IsWithin v lo hi w) ws
    → is_needed item u ws p ≡ true → is_needed item v (left_of f ws) p ≡ true
needed_left item u v start end lo hi p f [] h l out all t = t
needed_left item u v start end lo hi p f (w ∷ ws) h l out all t = elim (either (eqb w.item.0 item.0 && in_span (needed u w) p) (is_needed item u ws p) t) [
  | inl e ↦ here (is_some (f w)) refl e
  | inr e ↦ more (is_some (f w)) (needed_left item u v start end lo hi p f ws h l out all.1 e)
] where
  on : eqb w.item.0 item.0 && in_span (needed u w) p ≡ true → eqb w.item.0 item.0 && in_span (needed v w) p ≡ true
  on e = ap (λ (s : Span). eqb w.item.0 item.0 && in_span s p) (needed_same u v start end w h) ∙ e

  here : (b : Bool) → is_some (f w) ≡ b → (eqb w.item.0 item.0 && in_span (needed u w) p) ≡ true → is_needed item v (cond (not b) (w ∷ left_of f ws) (left_of f ws)) p ≡ true
  here true g e =
      let a : IsWithin v lo hi w = all.0 g in
      absurd (not_both (in_span (needed v w) p) (both (eqb w.item.0 item.0) (in_span (needed v w) p) (on e)).1 (not_within lo hi (needed v w).start (needed v w).len p a.0 a.1 l out))
  here false g e = or_left (eqb w.item.0 item.0 && in_span (needed v w) p) (is_needed item v (left_of f ws) p) (on e)

  more : (b : Bool) → is_needed item v (left_of f ws) p ≡ true → is_needed item v (cond (not b) (w ∷ left_of f ws) (left_of f ws)) p ≡ true
  more true e = e
  more false e = or_right (eqb w.item.0 item.0 && in_span (needed v w) p) (is_needed item v (left_of f ws) p) e

outside_both : (lo hi start end p : ℕ) → lo ≤ start → end ≤ hi → within lo hi p ≡ false → within start end p ≡ false
outside_both lo hi start end p a b h = grind (arith, nat_tests)

untrue : (b : Bool) → (b ≡ true → ⊥) → b ≡ false
untrue true f = absurd (f refl)
untrue false f = refl

from_within : (lo hi p : ℕ) → within lo hi p ≡ true → (lo ≤ p) × (p < hi)
from_within lo hi p h = (from lo hi p h, to lo hi p h) where
  from : (lo hi p : ℕ) → within lo hi p ≡ true → lo ≤ p
  from lo hi p h = grind (arith, nat_tests)

  to : (lo hi p : ℕ) → within lo hi p ≡ true → p < hi
  to lo hi p h = grind (arith, nat_tests)

is_within : (lo hi p : ℕ) → lo ≤ p → p < hi → within lo hi p ≡ true
is_within lo hi p a b = grind (arith, nat_tests)

-- the blocks that have a position from lo up to hi
abbrev pub in_blocks : ℕ → ℕ → ℕ → Bool
in_blocks lo hi b = within (lo / 4096) ((min hi (2 ^ 32) + 4095) / 4096) b

out_of_blocks : (lo hi b p : ℕ) → in_blocks lo hi b ≡ false → 4096 * b ≤ p → p < 4096 * b + 4096 → p < 2 ^ 32 → within lo hi p ≡ false
out_of_blocks lo hi b p h low high small = untrue (within lo hi p) (λ t.
    let i : (lo ≤ p) × (p < hi) = from_within lo hi p t in
    let a : lo ≤ p = i.0 in
    let c : p < hi = i.1 in
    not_both (in_blocks lo hi b) (is_within (lo / 4096) ((min hi (2 ^ 32) + 4095) / 4096) b (omega arith) (omega arith)) h)

wanted_still : (item : ItemId) (u v : View) (start end lo hi : ℕ) (f : Wait → Option Cause) (ws : List Wait) (b : ℕ) → Narrows u v start end → length v.lacks ≤ 2 ^ 24 → lo ≤ start → end ≤ hi → AllByRecursion (λ w. is_some (f w) ≡ true → IsWithin v lo hi w) ws
    → in_blocks lo hi b ≡ false → is_wanted item u ws b ≡ true → is_wanted item v (left_of f ws) b ≡ true
wanted_still item u v start end lo hi f ws b h small low high all out t =
    let r : (p : ℕ) × (4096 * b ≤ p) × (p < 4096 * b + 4096) × (lacks_at u p ≡ true) × (is_needed item u ws p ≡ true) = some_missed item u ws b t in
    let from : 4096 * b ≤ r.0 = r.1 in
    let to : r.0 < 4096 * b + 4096 = r.2 in
    let size : length v.lacks ≡ length u.lacks = h.size in
    let below : r.0 < length u.lacks = flag_below u.lacks r.0 r.3 in
    let gone : within lo hi r.0 ≡ false = out_of_blocks lo hi b r.0 out from to (omega arith) in
    let lacks : lacks_at v r.0 ≡ true = h.same r.0 (outside_both lo hi start end r.0 low high gone) r.3 in
    let block : r.0 / 4096 ≡ b = omega arith in
    subst (λ (k : ℕ). is_wanted item v (left_of f ws) k ≡ true) block (hit_all item v (left_of f ws) r.0 lacks (needed_left item u v start end lo hi r.0 f ws h (omega arith) gone all r.4))

any_but : (f g h : ℕ → Bool) → ((b : ℕ) → f b ≡ true → g b ≡ false → h b ≡ true) → (xs : List ℕ) → list_any f xs ≡ true → list_any g xs ≡ false → list_any h xs ≡ true
any_but f g h k [] t e = t
any_but f g h k (x ∷ xs) t e = elim (either (f x) (list_any f xs) t) [
  | inl a ↦ or_left (h x) (list_any h xs) (k x a (first (g x) (list_any g xs) e))
  | inr a ↦ or_right (h x) (list_any h xs) (any_but f g h k xs a (second (g x) (list_any g xs) e))
] where
  first : (a b : Bool) → (a || b) ≡ false → a ≡ false
  first true b z = let y : true ≡ false = z in cc
  first false b z = refl

  second : (a b : Bool) → (a || b) ≡ false → b ≡ false
  second true b z = let y : true ≡ false = z in cc
  second false b z = z

-- An ask that owns nothing there has a wanted block, as before.
pub untouched_wanted : (item : ItemId) (u v : View) (start end lo hi : ℕ) (f : Wait → Option Cause) (ws : List Wait) (owned : List ℕ) → Narrows u v start end → length v.lacks ≤ 2 ^ 24 → lo ≤ start → end ≤ hi → AllByRecursion (λ w. is_some (f w) ≡ true → IsWithin v lo hi w) ws
    → list_any (is_wanted item u ws) owned ≡ true → list_any (in_blocks lo hi) owned ≡ false → list_any (is_wanted item v (left_of f ws)) owned ≡ true
untouched_wanted item u v start end lo hi f ws owned h small low high all t e =
    any_but (is_wanted item u ws) (in_blocks lo hi) (is_wanted item v (left_of f ws)) (λ b a g. wanted_still item u v start end lo hi f ws b h small low high all g a) owned t e

-- what is wanted was wanted before

needed_before : (item : ItemId) (u v : View) (start end p : ℕ) (f : Wait → Option Cause) (ws : List Wait) → Narrows u v start end → is_needed item v (left_of f ws) p ≡ true → is_needed item u ws p ≡ true
needed_before item u v start end p f [] h t = t
needed_before item u v start end p f (w ∷ ws) h t = one (is_some (f w)) (needed_before item u v start end p f ws h) t where
  one : (b : Bool) → (is_needed item v (left_of f ws) p ≡ true → is_needed item u ws p ≡ true) → is_needed item v (cond (not b) (w ∷ left_of f ws) (left_of f ws)) p ≡ true → is_needed item u (w ∷ ws) p ≡ true
  one true more e = or_right (eqb w.item.0 item.0 && in_span (needed u w) p) (is_needed item u ws p) (more e)
  one false more e = elim (either (eqb w.item.0 item.0 && in_span (needed v w) p) (is_needed item v (left_of f ws) p) e) [
    | inl a ↦ or_left (eqb w.item.0 item.0 && in_span (needed u w) p) (is_needed item u ws p) (ap (λ (s : Span). eqb w.item.0 item.0 && in_span s p) (sym (needed_same u v start end w h)) ∙ a)
    | inr a ↦ or_right (eqb w.item.0 item.0 && in_span (needed u w) p) (is_needed item u ws p) (more a)
  ]

pub wanted_before : (item : ItemId) (u v : View) (start end : ℕ) (f : Wait → Option Cause) (ws : List Wait) (b : ℕ) → Narrows u v start end → is_wanted item v (left_of f ws) b ≡ true → is_wanted item u ws b ≡ true
wanted_before item u v start end f ws b h t =
    let r : (p : ℕ) × (4096 * b ≤ p) × (p < 4096 * b + 4096) × (lacks_at v p ≡ true) × (is_needed item v (left_of f ws) p ≡ true) = some_missed item v (left_of f ws) b t in
    let from : 4096 * b ≤ r.0 = r.1 in
    let to : r.0 < 4096 * b + 4096 = r.2 in
    let block : r.0 / 4096 ≡ b = omega arith in
    subst (λ (k : ℕ). is_wanted item u ws k ≡ true) block (hit_all item u ws r.0 (h.less r.0 r.3) (needed_before item u v start end r.0 f ws h r.4))

-- where nothing lacks, no wait misses anything

none_missed : (v : View) (w : Wait) (s e : ℕ) → any_between v.lacks s e ≡ false → misses_between v w s e ≡ false
none_missed v w s e h = untrue (misses_between v w s e) (λ t.
    let n : Span = needed v w in
    let r : (p : ℕ) × (max n.start s ≤ p) × (p < min (n.start + n.len) e) × (flag v.lacks p ≡ true) = some_between v.lacks (max n.start s) (min (n.start + n.len) e) t in
    let a : max n.start s ≤ r.0 = r.1 in
    let b : r.0 < min (n.start + n.len) e = r.2 in
    not_both (any_between v.lacks s e) (hit_between v.lacks s e r.0 (omega arith) (omega arith) r.3) h)

pub lacks_none : (v : View) (s n : ℕ) → s ≤ length v.lacks → any_between v.lacks (4096 * s) (4096 * min (s + n) (length v.lacks + 1)) ≡ false → (w : Wait) → misses_in v (counting s n) w ≡ false
lacks_none v s n l h w = misses_counting v w s n l ∙ none_missed v w (4096 * s) (4096 * min (s + n) (length v.lacks + 1)) h

-- one more of the waits that end

one_within : (v : View) (lo hi low high i : ℕ) (es : List (Wait × Cause)) (d : Wait × Cause) → low ≤ lo → hi ≤ high → i < length es → IsWithin v low high (get_or es i d).0 → AllByRecursion (λ (e : Wait × Cause). IsWithin v lo hi e.0) (take i es)
    → AllByRecursion (λ (e : Wait × Cause). IsWithin v low high e.0) (take (suc i) es)
one_within v lo hi low high i [] d a b l h t = absurd (omega arith)
one_within v lo hi low high zero (e ∷ es) d a b l h t = (h, tt)
one_within v lo hi low high (suc i) (e ∷ es) d a b l h t =
    let x : lo ≤ (needed v e.0).start = t.0.0 in
    let y : min ((needed v e.0).start + (needed v e.0).len) (2 ^ 32) ≤ hi = t.0.1 in
    ((omega arith, omega arith), one_within v lo hi low high i es d a b (omega arith) h t.1)

pub more_within : (v : View) (lo hi low high i : ℕ) (es : List (Wait × Cause)) (d : Wait × Cause) → low ≤ lo → hi ≤ high → i < length es → d ≡ get_or es i d → IsWithin v low high d.0 → AllByRecursion (λ (e : Wait × Cause). IsWithin v lo hi e.0) (take i es)
    → AllByRecursion (λ (e : Wait × Cause). IsWithin v low high e.0) (take (i + 1) es)
more_within v lo hi low high i es d a b l is h t =
    let n : suc i ≡ i + 1 = omega arith in
    subst (λ (n : ℕ). AllByRecursion (λ (e : Wait × Cause). IsWithin v low high e.0) (take n es)) n (one_within v lo hi low high i es d a b l (subst (λ (e : Wait × Cause). IsWithin v low high e.0) is h) t)
