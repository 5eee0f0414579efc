-- Waits that begin on an item for which nothing is left to do: what the plan for these alone changes is the step.
use Rattle.std.proofs.Common.{◌≡◌, ℕ, ◌+◌, Bool, false, ◌&&◌, ◌||◌, not, Option, None, Some, List, [], ◌∷◌, ◌++◌, refl, sym, ap, subst, ◌∙◌, eqb}
use Rattle.std.specs.Prelude.{IfSome, is_some, map}
use Rattle.std.specs.List.{AllByRecursion, list_any}
use Rattle.cf_ask_rule.proofs.Beginning.{begins}
use Rattle.cf_ask_rule.proofs.Filters.{all_filter, all_of, filter_same}
use Rattle.cf_ask_rule.specs.Fronts.{NeedsFrom}
use Rattle.cf_ask_rule.specs.Plans.{Begins, Outlook, plan_of}
use Rattle.cf_ask_rule.specs.Settled.{IsSettled}
use Rattle.cf_base.specs.declared.ids.ItemId.{ItemId}
use Rattle.cf_base.specs.declared.ids.Key.{Key}
use Rattle.cf_base.specs.declared.waits.AskKind.{AskKind}
use Rattle.cf_base.specs.declared.waits.AskKind.TheVariants as ask_kind
use Rattle.cf_base.specs.declared.waits.Cause.{Cause}
use Rattle.cf_model.specs.Asks.{ask_of_run, dehydrate_ask, dehydrate_asks, ended_of, is_idle, is_idle_by, is_owned, is_wanted, left_of, list_ask, list_asks, new_asks, open_blocks, runs_of, step_of, why}
use Rattle.cf_model.specs.Missing.{View, Wait}
use Rattle.cf_model.specs.Numbers.{same_key}
use Rattle.cf_model.specs.Requests.{Live, Nothing, Told, Waiting, aged, has_block, is_dehydrate_wait, is_list, is_list_wait, with_waits}
use Rattle.cf_model.specs.Words.{when}
use Rattle.cf_waits.proofs.Changes.{whole}
use Rattle.cf_waits.proofs.Soundness.{begun_sound}
use Rattle.cf_waits.specs.Rising.{AreNext}
use Rattle.cf_waits.specs.Sound.{IsSound}
use Rattle.cf_waits.specs.Steps.{carried}

-- which asks are made does not hang on ticks

abbrev ticking : (Live → ℕ) → Live → Live
ticking m a = record a { ticks = m a }

any_aged : (f : Live → Bool) → ((a : Live) (n : ℕ) → f (record a { ticks = n }) ≡ f a) → (m : Live → ℕ) (xs : List Live) → list_any f xs ≡ list_any f (map (ticking m) xs)
any_aged f h m [] = refl
any_aged f h m (x ∷ xs) = ap (λ b. b || list_any f xs) (sym (h x (m x))) ∙ ap (λ b. f (ticking m x) || b) (any_aged f h m xs)

open_aged : (item : ItemId) (v : View) (ws : List Wait) (m : Live → ℕ) (xs : List Live) → open_blocks item v ws xs ≡ open_blocks item v ws (map (ticking m) xs)
open_aged item v ws m xs = filter_same (λ b. is_wanted item v ws b && not (is_owned item xs b)) (λ b. is_wanted item v ws b && not (is_owned item (map (ticking m) xs) b)) _
    (all_of (λ b. (is_wanted item v ws b && not (is_owned item xs b)) ≡ (is_wanted item v ws b && not (is_owned item (map (ticking m) xs) b)))
    (λ b. ap (λ o. is_wanted item v ws b && not o) (any_aged (λ a. (eqb a.ask.item.0 item.0) && has_block a.owned b) (λ a n. refl) m xs)) _)

lists_aged : (item : ItemId) (ws : List Wait) (m : Live → ℕ) (xs : List Live) → list_asks item ws xs ≡ list_asks item ws (map (ticking m) xs)
lists_aged item ws m xs =
    ap (λ b. when (list_any (λ (w : Wait). (eqb w.item.0 item.0) && is_list_wait w.kind) ws && not b) (list_ask item ∷ [])) (any_aged (λ a. (eqb a.ask.item.0 item.0) && is_list a.ask.kind) (λ a n. refl) m xs)

abbrev lacks : ItemId → List Live → Wait → Bool
lacks item asks w = (eqb w.item.0 item.0) && is_dehydrate_wait w.kind && not (list_any (λ a. same_key a.wait.0 w.id.0) asks)

dehydrates_aged : (item : ItemId) (ws : List Wait) (m : Live → ℕ) (xs : List Live) → dehydrate_asks item ws xs ≡ dehydrate_asks item ws (map (ticking m) xs)
dehydrates_aged item ws m xs = ap (map dehydrate_ask)
    (filter_same (lacks item xs) (lacks item (map (ticking m) xs)) ws
    (all_of (λ w. lacks item xs w ≡ lacks item (map (ticking m) xs) w) (λ w. ap (λ b. (eqb w.item.0 item.0) && is_dehydrate_wait w.kind && not b) (any_aged (λ a. same_key a.wait.0 w.id.0) (λ a n. refl) m xs)) ws))

pub made_aged : (item : ItemId) (v : View) (ws : List Wait) (m : Live → ℕ) (xs : List Live) → new_asks item v ws xs ≡ new_asks item v ws (map (ticking m) xs)
made_aged item v ws m xs =
    ap (λ (bs : List ℕ). map (ask_of_run item v.base) (runs_of v bs) ++ list_asks item ws xs ++ dehydrate_asks item ws xs) (open_aged item v ws m xs)
    ∙ ap (λ (l : List Live). map (ask_of_run item v.base) (runs_of v (open_blocks item v ws (map (ticking m) xs))) ++ l ++ dehydrate_asks item ws xs) (lists_aged item ws m xs)
    ∙ ap (λ (l : List Live). map (ask_of_run item v.base) (runs_of v (open_blocks item v ws (map (ticking m) xs))) ++ list_asks item ws (map (ticking m) xs) ++ l) (dehydrates_aged item ws m xs)

-- an item for which nothing is left to do stays so

idle_ticking : (kind : AskKind) (item : ItemId) (v : View) (ws : List Wait) (a : Live) (n : ℕ) → is_idle_by kind item v ws (record a { ticks = n }) ≡ is_idle_by kind item v ws a
idle_ticking ask_kind.Fetch item v ws a n = refl
idle_ticking ask_kind.Validate item v ws a n = refl
idle_ticking ask_kind.List item v ws a n = refl
idle_ticking ask_kind.Dehydrate item v ws a n = refl

awaited_aged : (item : ItemId) (v : View) (ws : List Wait) (m : Live → ℕ) (xs : List Live) → AllByRecursion (λ a. is_idle item v ws a ≡ false) xs → AllByRecursion (λ a. is_idle item v ws a ≡ false) (map (ticking m) xs)
awaited_aged item v ws m [] h = tt
awaited_aged item v ws m (x ∷ xs) h = (ap (λ b. (eqb x.ask.item.0 item.0) && b) (idle_ticking x.ask.kind item v ws x (m x)) ∙ h.0, awaited_aged item v ws m xs h.1)

settled_aged : (item : ItemId) (v : View) (ws : List Wait) (m : Live → ℕ) (xs : List Live) → IsSettled item v ws xs → IsSettled item v ws (map (ticking m) xs)
settled_aged item v ws m xs h = record {
  unmet = h.unmet;
  awaited = awaited_aged item v ws m xs h.awaited;
  owned = sym (open_aged item v ws m xs) ∙ h.owned;
  listed = sym (lists_aged item ws m xs) ∙ h.listed;
  consented = sym (dehydrates_aged item ws m xs) ∙ h.consented;
}

pub last_aged : (last : Option (ItemId × View)) (n : ℕ) (ws : List Wait) (xs new : List Live) → IfSome last (λ p. IsSettled p.0 p.1 ws xs) → new ≡ map (aged n) xs → IfSome last (λ p. IsSettled p.0 p.1 ws new)
last_aged None n ws xs new h e = tt
last_aged (Some p) n ws xs new h e = subst (λ (l : List Live). IsSettled p.0 p.1 ws l) (sym e) (settled_aged p.0 p.1 ws (λ a. a.ticks + n) xs h)

-- waits that are left need nothing before a block either
pub needs_left : (v : View) (first : Option ℕ) (f : Wait → Option Cause) (ws : List Wait) → IfSome first (λ n. AllByRecursion (NeedsFrom v n) ws) → IfSome first (λ n. AllByRecursion (NeedsFrom v n) (left_of f ws))
needs_left v None f ws h = h
needs_left v (Some n) f ws h = all_filter (NeedsFrom v n) (λ w. not (is_some (f w))) ws h

-- the step

pub beside : (item : ItemId) (v : View) (ended : List (Wait × Cause)) (made : List Live) (s : Waiting) (begun : List Wait) → IsSettled item v s.waits s.asks → IsSound s → AreNext begun s
    → ended ≡ ended_of (why item v Nothing []) begun → made ≡ new_asks item v (left_of (why item v Nothing []) begun) s.asks
    → carried (record { ended = ended; cancelled = []; dropped = None; changed = None; made = made; item = item; view = v }) (with_waits begun s) ≡ step_of item v Nothing (with_waits begun s)
beside item v ended made s begun settled sound next e m =
    let all : Outlook = plan_of item v Nothing (s.waits ++ begun) s.asks in
    let b : Begins item v begun s.asks all = begins item v s.waits begun s.asks settled sound.full in
    let f : List (Wait × Cause) → List Key → List Live → Told × Waiting = λ e c m. carried (record { ended = e; cancelled = c; dropped = None; changed = None; made = m; item = item; view = v }) (with_waits begun s) in
    ap (λ x. f x [] made) (e ∙ sym b.ended) ∙ ap (λ x. f all.ended x made) (sym b.cancelled)
    ∙ ap (λ x. f all.ended all.cancelled x) (m ∙ sym b.made)
    ∙ whole item v Nothing (with_waits begun s) (begun_sound begun s sound next)
