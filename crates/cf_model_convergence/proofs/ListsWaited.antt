-- Each live list ask is waited for.
use Rattle.std.proofs.Common.{◌≡◌, ℕ, Bool, true, false, List, [], ◌∷◌, ◌++◌, ◌+◌, refl, sym, ◌∙◌, subst}
use Rattle.std.specs.Prelude.{Option, Some, None, cond, filter, is_some, map, not, ◌&&◌, ◌||◌, ◌==◌}
use Rattle.std.proofs.lemmas.Bool.{eqb-true}
use Rattle.cf_base.specs.declared.ids.ItemId.{ItemId}
use Rattle.cf_base.specs.declared.waits.Ask.{Ask}
use Rattle.cf_base.specs.declared.waits.AskKind.{AskKind}
use Rattle.cf_base.specs.declared.waits.AskKind.TheVariants as ask_kind
use Rattle.cf_base.specs.declared.waits.Cause.{Cause}
use Rattle.cf_model.specs.Asks.{after_deed, ask_of_run, dehydrate_ask, dehydrate_asks, is_cancelled, is_cut, is_idle, is_idle_by, is_over, left_of, list_ask, list_asks, new_asks, open_blocks, runs_of, why, with_keys}
use Rattle.cf_model.specs.Missing.{View, Wait}
use Rattle.cf_model.specs.Requests.{Deed, Live, Waiting, aged, is_list, is_list_wait}
use Rattle.cf_model.specs.Words.{when}
use Rattle.cf_model_laws.specs.Invariant.{All}
use Rattle.cf_model_laws.proofs.Gathered.{all_any, all_append, all_filter, all_map, all_passed, all_weaker}
use Rattle.cf_model_laws.proofs.OutboxFacts.{Boxing, BoxingRuns}
use Rattle.cf_model_laws.proofs.RightItems.{no_way}
use Rattle.cf_model_laws.proofs.SoundSettles.{any_longer, deed_ask, neither, no_cause, not_false, not_true}
use Rattle.cf_model_convergence.specs.Trees.{AreListsWaited, is_listing_on}

abbrev IsWaited : List Wait → Live → Type 0
IsWaited ws a = is_list a.ask.kind ≡ true → is_listing_on ws a.ask.item ≡ true

-- list waits on other items stay
stays_listed : (item : ItemId) (f : Wait → Option Cause) (at : ItemId) → ((w : Wait) → (w.item.0 == item.0) ≡ false → f w ≡ None) → (at.0 == item.0) ≡ false → (ws : List Wait) → is_listing_on ws at ≡ true → is_listing_on (left_of f ws) at ≡ true
stays_listed item f at k apart [] h = h
stays_listed item f at k apart (w ∷ ws) h = by (f w) (w.item.0 == at.0) (is_list_wait w.kind) refl refl refl h (stays_listed item f at k apart ws) where
  other : (a b c : ℕ) → (a == b) ≡ true → (b == c) ≡ false → (a == c) ≡ false
  other a b c h k = subst (λ (n : ℕ). (n == c) ≡ false) (sym (eqb-true a b h)) k

  none_some : (c : Cause) → ◌≡◌ {A = Option Cause} (Some c) None → ⊥
  none_some c e = cc

  by : (o : Option Cause) (b l : Bool) → f w ≡ o → (w.item.0 == at.0) ≡ b → is_list_wait w.kind ≡ l → ((b && l) || is_listing_on ws at) ≡ true → (is_listing_on ws at ≡ true → is_listing_on (left_of f ws) at ≡ true)
      → is_listing_on (cond (not (is_some o)) (w ∷ left_of f ws) (left_of f ws)) at ≡ true
  by None true true e q p h g = rw q (rw p refl)
  by None true false e q p h g = rw q (rw p (g h))
  by None false l e q p h g = rw q (g h)
  by (Some c) true l e q p h g = absurd (none_some c (sym e ∙ k w (other w.item.0 at.0 item.0 q apart)))
  by (Some c) false l e q p h g = g h

-- of another kind
other_kind : (ws : List Wait) (a : Live) → is_list a.ask.kind ≡ false → IsWaited ws a
other_kind ws a e z = no_way (sym e ∙ z)

run_kind : (fetch : Bool) → is_list (cond fetch ask_kind.Fetch ask_kind.Validate) ≡ false
run_kind true = refl
run_kind false = refl

keyed : (ws : List Wait) (epoch n : ℕ) (asks : List Live) → All (IsWaited ws) asks → All (IsWaited ws) (with_keys epoch n asks)
keyed ws epoch n [] h = tt
keyed ws epoch n (a ∷ as') h = (h.0, keyed ws epoch (n + 1) as' h.1)

right_false : (a b : Bool) → a ≡ true → (a && b) ≡ false → b ≡ false
right_false true b q e = e
right_false false b q e = no_way q

-- a step of the ask rule
module _ (w : Waiting) (item : ItemId) (v : View) (d : Deed) where
  abbrev ws : List Wait
  ws = left_of (why item v d w.asks) w.waits

  abbrev kept : List Live
  kept = filter (λ a. not (is_cancelled item v d ws a)) (filter (λ a. not (is_over d a)) (map (after_deed d) w.asks))

  kept_one : (a : Live) → not (is_cancelled item v d ws a) ≡ true → IsWaited w.waits a → IsWaited ws a
  kept_one a e h z = by (a.ask.item.0 == item.0) refl where
    idle : is_idle item v ws a ≡ false
    idle = neither (is_cut item d a) (is_idle item v ws a) (not_true (is_cancelled item v d ws a) e)

    kind : (k : AskKind) → is_list k ≡ true → is_idle_by k item v ws a ≡ false → is_listing_on ws item ≡ true
    kind ask_kind.Fetch z e = no_way z
    kind ask_kind.Validate z e = no_way z
    kind ask_kind.List z e = not_false (is_listing_on ws item) e
    kind ask_kind.Dehydrate z e = no_way z

    by : (b : Bool) → (a.ask.item.0 == item.0) ≡ b → is_listing_on ws a.ask.item ≡ true
    by true q =
        subst (λ (n : ℕ). is_listing_on ws (record { 0 = n }) ≡ true) (sym (eqb-true a.ask.item.0 item.0 q))
        (kind a.ask.kind z (right_false (a.ask.item.0 == item.0) (is_idle_by a.ask.kind item v ws a) q idle))
    by false q = stays_listed item (why item v d w.asks) a.ask.item (λ u e. no_cause item v d w.asks u e) q w.waits (h z)

  kept_all : All (IsWaited w.waits) w.asks → All (IsWaited ws) kept
  kept_all h =
      all_passed (IsWaited w.waits) (IsWaited ws) (λ a. not (is_cancelled item v d ws a)) kept_one (filter (λ a. not (is_over d a)) (map (after_deed d) w.asks))
      (all_filter (IsWaited w.waits) (λ a. not (is_over d a)) (map (after_deed d) w.asks) (all_map (IsWaited w.waits) (IsWaited w.waits) (after_deed d) (λ a k. subst (λ (q : Ask). is_list q.kind ≡ true → is_listing_on w.waits q.item ≡ true) (sym (deed_ask d a)) k) w.asks h))

  lists_waited : All (IsWaited ws) (list_asks item ws kept)
  lists_waited = by (is_listing_on ws item) _ refl where
    by : (b c : Bool) → is_listing_on ws item ≡ b → All (IsWaited ws) (when (b && c) (list_ask item ∷ []))
    by true true q = ((λ z. q), tt)
    by true false q = tt
    by false c q = tt

  new_all : All (IsWaited ws) (new_asks item v ws kept)
  new_all =
      all_append (IsWaited ws) (map (ask_of_run item v.base) (runs_of v (open_blocks item v ws kept)) ++ list_asks item ws kept) (dehydrate_asks item ws kept)
      (all_append (IsWaited ws) (map (ask_of_run item v.base) (runs_of v (open_blocks item v ws kept))) (list_asks item ws kept)
      (all_map (λ r. Unit {0}) (IsWaited ws) (ask_of_run item v.base) (λ r _. other_kind ws (ask_of_run item v.base r) (run_kind r.fetch)) (runs_of v (open_blocks item v ws kept)) (all_any (λ r. Unit {0}) (λ r. tt) (runs_of v (open_blocks item v ws kept))))
      lists_waited)
      (all_map (λ u. Unit {0}) (IsWaited ws) dehydrate_ask (λ u _. other_kind ws (dehydrate_ask u) refl) _ (all_any (λ u. Unit {0}) (λ u. tt) _))

  step_waited : All (IsWaited w.waits) w.asks → All (IsWaited ws) (kept ++ with_keys w.epoch w.key_count (new_asks item v ws kept))
  step_waited h = all_append (IsWaited ws) kept (with_keys w.epoch w.key_count (new_asks item v ws kept)) (kept_all h) (keyed ws w.epoch w.key_count (new_asks item v ws kept) new_all)

lists_boxing : Boxing AreListsWaited
lists_boxing = record {
  steps = λ o w item v d h. (step_waited w item v d h, step_waited w item v d h);
  begins = λ o w ws h. all_weaker (IsWaited w.waits) (IsWaited (w.waits ++ ws)) (λ a k z. any_longer (λ u. (u.item.0 == a.ask.item.0) && is_list_wait u.kind) w.waits ws (k z)) w.asks h;
  downs = λ o w h. tt;
  ticks = λ o w n h. all_map (IsWaited w.waits) (IsWaited w.waits) (aged n) (λ a k. k) w.asks h;
  pops = λ a o w h. h;
}

pub lists_runs : BoxingRuns AreListsWaited
lists_runs = record { boxing = lists_boxing; crashes = λ o w h. tt; opens = λ epoch. tt }
