-- A plan for what is near, as changes, is one of the step.
use Rattle.std.proofs.Common.{◌≡◌, ◌+◌, Bool, true, false, Option, Some, None, Result, ℕ, List, [], ◌∷◌, ◌++◌, cond, length, refl, sym, ap, subst, append-nil, ◌∙◌, arith, eqb}
use Rattle.std.specs.Prelude.{filter}
use Rattle.std.specs.List.{AllByRecursion}
use Rattle.std.specs.Option.{option_map}
use Rattle.std.proofs.lemmas.Bool.Decides.{nat_tests}
use Rattle.std.proofs.lemmas.List.Elements.{filter-append}
use Rattle.cf_ask_rule.specs.Near.{is_near, is_on, named}
use Rattle.cf_ask_rule.specs.Plans.{Outlook, Planned, plan_of}
use Rattle.cf_base.specs.declared.codes.CallError.{CallError}
use Rattle.cf_base.specs.declared.ids.Handle.{Handle}
use Rattle.cf_base.specs.declared.ids.ItemId.{ItemId}
use Rattle.cf_base.specs.declared.ids.WaitId.{WaitId}
use Rattle.cf_base.specs.declared.spans.Span.{Span}
use Rattle.cf_base.specs.declared.waits.WaitKind.{WaitKind}
use Rattle.cf_model.specs.Asks.{step_of}
use Rattle.cf_model.specs.Missing.{View, Wait}
use Rattle.cf_model.specs.Requests.{Cancels, Deed, Live, Waiting, with_waits}
use Rattle.cf_waits.proofs.Changes.{near_is}
use Rattle.cf_waits.proofs.Soundness.{begun_sound, new_fresh}
use Rattle.cf_waits.specs.Deltas.{delta_of}
use Rattle.cf_waits.specs.Rising.{AreNext}
use Rattle.cf_waits.specs.Sound.{IsSound}
use Rattle.cf_waits.specs.Steps.{CancelsAt, Steps, carried, first_waits}
use Rattle.cf_waits.specs.declared.limits.Limits.TheVariants as limits
use Rattle.cf_waits.specs.declared.moves.Moves.{Moves}

pub record IsOutlook (o q : Outlook) : Type 0 where
  pub ended : o.ended ≡ q.ended
  pub left : o.left ≡ q.left
  pub cancelled : o.cancelled ≡ q.cancelled
  pub kept : o.kept ≡ q.kept
  pub made : o.made ≡ q.made

same_outlook : (o q : Outlook) → IsOutlook o q → o ≡ q
same_outlook o q h = λ j. record { ended = h.ended j; left = h.left j; cancelled = h.cancelled j; kept = h.kept j; made = h.made j }

all_on : (item : ItemId) (ws : List Wait) → AllByRecursion (λ w. is_on item w ≡ true) ws → filter (is_on item) ws ≡ ws
all_on item [] h = refl
all_on item (w ∷ ws) h = ap (λ b. cond b (w ∷ filter (is_on item) ws) (filter (is_on item) ws)) h.0 ∙ ap (λ l. w ∷ l) (all_on item ws h.1)

pub looked : (item : ItemId) (u v : View) (d : Deed) (p : Planned) (s t : Waiting) (begun near : List Wait) (asks : List Live) (o : Outlook) → u ≡ v → t ≡ s → IsSound t → AreNext begun s → AllByRecursion (λ w. is_on item w ≡ true) begun
    → near ≡ filter (is_on item) t.waits ++ begun → asks ≡ filter (is_near item (named d)) t.asks → IsOutlook o (plan_of item u d near asks) → p ≡ delta_of item u d o
    → carried p (with_waits begun s) ≡ step_of item v d (with_waits begun s)
looked item u v d p s t begun near asks o view same sound next on waits live is delta =
    let all : near ≡ filter (is_on item) (s.waits ++ begun) =
    waits ∙ ap (λ (x : Waiting). filter (is_on item) x.waits ++ begun) same ∙ ap (λ (l : List Wait). filter (is_on item) s.waits ++ l) (sym (all_on item begun on)) ∙ sym (filter-append (is_on item) s.waits begun) in
    ap (λ (x : Planned). carried x (with_waits begun s)) (delta ∙ ap (delta_of item u d) (same_outlook o (plan_of item u d near asks) is))
    ∙ ap (λ (x : View). carried (delta_of item x d (plan_of item x d near asks)) (with_waits begun s)) view
    ∙ ap (λ (l : List Wait). carried (delta_of item v d (plan_of item v d l asks)) (with_waits begun s)) all
    ∙ ap (λ (l : List Live). carried (delta_of item v d (plan_of item v d (filter (is_on item) (s.waits ++ begun)) l)) (with_waits begun s)) (live ∙ ap (λ (x : Waiting). filter (is_near item (named d)) x.asks) same)
    ∙ near_is item v d (with_waits begun s) (begun_sound begun s (subst (λ (x : Waiting). IsSound x) same sound) next)

pub made_fresh : (item : ItemId) (v : View) (d : Deed) (ws : List Wait) (asks made : List Live) → made ≡ (plan_of item v d ws asks).made → AllByRecursion (λ a. a.ticks ≡ 0) made
made_fresh item v d ws asks made e = subst (λ (l : List Live). AllByRecursion (λ a. a.ticks ≡ 0) l) (sym e) (new_fresh item v (plan_of item v d ws asks).left (plan_of item v d ws asks).kept)

-- no wait begins

pub with_none : (s : Waiting) → with_waits [] s ≡ s
with_none s = λ j. record { epoch = s.epoch; waits = append-nil s.waits j; asks = s.asks; wait_count = none s.wait_count j; key_count = s.key_count } where
  none : (n : ℕ) → n + 0 ≡ n
  none n = omega arith

-- the waits that begin are next

pub first_next : (kind : WaitKind) (item : ItemId) (handle : Option Handle) (asked : Span) (beside : Bool) (s : Waiting) (ws : List Wait) → ws ≡ first_waits kind item handle asked beside s → AreNext ws s
first_next kind item handle asked true s ws e = subst (λ (l : List Wait). AreNext l s) (sym e) (refl, omega arith, (refl, omega arith, omega arith))
first_next kind item handle asked false s ws e = subst (λ (l : List Wait). AreNext l s) (sym e) (refl, omega arith, omega arith)

pub first_on : (kind : WaitKind) (item : ItemId) (handle : Option Handle) (asked : Span) (beside : Bool) (s : Waiting) (ws : List Wait) → ws ≡ first_waits kind item handle asked beside s → AllByRecursion (λ w. is_on item w ≡ true) ws
first_on kind item handle asked true s ws e = subst (λ (l : List Wait). AllByRecursion (λ w. is_on item w ≡ true) l) (sym e) (itself item.0, (itself item.0, tt)) where
  itself : (n : ℕ) → eqb n n ≡ true
  itself n = grind (arith, nat_tests)
first_on kind item handle asked false s ws e = subst (λ (l : List Wait). AllByRecursion (λ w. is_on item w ≡ true) l) (sym e) (itself item.0, tt) where
  itself : (n : ℕ) → eqb n n ≡ true
  itself n = grind (arith, nat_tests)

pub first_count : (kind : WaitKind) (item : ItemId) (handle : Option Handle) (asked : Span) (beside : Bool) (s : Waiting) (ws : List Wait) → ws ≡ first_waits kind item handle asked beside s → length ws ≡ 1 + cond beside 1 0
first_count kind item handle asked true s ws e = ap length e
first_count kind item handle asked false s ws e = ap length e

-- the item of the wait that is cancelled
pub cancels : (o : Option Wait) (item : ItemId) (id : WaitId) (v : View) (old : Waiting) (r : Result Moves CallError) (new : Waiting) → Some item ≡ option_map (λ w. w.item) o → Steps limits.Free (step_of item v (Cancels id) old) old r new → CancelsAt o id v old r new
cancels None item id v old r new e h = cc
cancels (Some w) item id v old r new e h = let f : item ≡ w.item = cc in subst (λ (i : ItemId). Steps limits.Free (step_of i v (Cancels id) old) old r new) f h
