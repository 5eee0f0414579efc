-- The ask rule: which waits end after a step, which asks are cancelled, and which are made. A step concerns one item.
use Rattle.std.specs.Prelude.{ℕ, Bool, true, false, not, cond, List, [], ◌∷◌, ◌++◌, length, map, filter, Option, Some, None, is_some, min, ◌+◌, ◌-◌, ◌*◌, ◌/◌, ◌&&◌, ◌||◌, ◌==◌}
use Rattle.std.specs.Bool.{beq}
use Rattle.std.specs.List.{list_any}
use Rattle.cf_base.specs.declared.ids.ItemId.{ItemId}
use Rattle.cf_base.specs.declared.ids.Key.{Key}
use Rattle.cf_base.specs.declared.waits.AskKind.{AskKind}
use Rattle.cf_base.specs.declared.waits.AskKind.TheVariants as ask_kind
use Rattle.cf_base.specs.declared.waits.Cause.{Cause}
use Rattle.cf_base.specs.declared.waits.Cause.TheVariants as cause
use Rattle.cf_model.specs.Missing.{Wait, View, any_between, is_met, misses_block, no_span, span_of}
use Rattle.cf_model.specs.Numbers.{key_after, no_key, same_key}
use Rattle.cf_model.specs.Words.{counting, is_empty, says, when}
use Rattle.cf_model.specs.Requests.{Cancels, Closes, Deed, Expires, Fails, Finishes, Leaves, Live, Nothing, Restarts, Told, Waiting, has_block, is_background, is_data, is_dehydrate_wait, is_list, is_list_wait, live_of}

-- which waits end, and why

abbrev pub misses_in : View → List ℕ → Wait → Bool
misses_in v blocks w = list_any (misses_block v w) blocks

-- the wait waits for the ask: it misses a byte in its blocks, or it is one of the waits of a list or dehydrate ask
abbrev pub waits_by : AskKind → View → Live → Wait → Bool
waits_by ask_kind.Fetch v a w = misses_in v a.owned w
waits_by ask_kind.Validate v a w = misses_in v a.owned w
waits_by ask_kind.List v a w = is_list_wait w.kind
waits_by ask_kind.Dehydrate v a w = same_key w.id.0 a.wait.0

abbrev pub waits_for : View → Option Live → Wait → Bool
waits_for v a w = says (λ b. waits_by b.ask.kind v b w) a

abbrev pub cause_if : Bool → Cause → Option Cause
cause_if true c = Some c
cause_if false c = None

abbrev pub closed_by : Bool → Bool → Option Cause
closed_by true last = Some cause.Cancelled
closed_by false last = cause_if last cause.Closed

-- why the step ends a wait on its item, if it does
abbrev pub cause_by : Deed → View → List Live → Wait → Option Cause
cause_by Nothing v asks w = None
cause_by (Leaves key blocks) v asks w = None
cause_by (Fails key blocks c) v asks w = cause_if (misses_in v blocks w) c
cause_by (Cancels id) v asks w = cause_if (same_key w.id.0 id.0) cause.Cancelled
cause_by (Closes handle last) v asks w = closed_by (says (λ h. same_key h.0 handle.0) w.handle) (last && is_background w.kind)
cause_by Restarts v asks w = None
cause_by (Expires key) v asks w = cause_if (waits_for v (live_of asks key) w) cause.TimedOut
cause_by (Finishes key c) v asks w = cause_if (waits_for v (live_of asks key) w) c

abbrev pub or_met : Option Cause → Bool → Option Cause
or_met (Some c) met = Some c
or_met None met = cause_if met cause.Met

-- why a wait ends after the step, if it does
abbrev pub why : ItemId → View → Deed → List Live → Wait → Option Cause
why item v d asks w = cond (w.item.0 == item.0) (or_met (cause_by d v asks w) (is_met v w)) None

abbrev pub with_end : Wait → Option Cause → List (Wait × Cause) → List (Wait × Cause)
with_end w None es = es
with_end w (Some c) es = (w, c) ∷ es

abbrev pub ended_of : (Wait → Option Cause) → List Wait → List (Wait × Cause)
ended_of why [] = []
ended_of why (w ∷ ws) = with_end w (why w) (ended_of why ws)

abbrev pub left_of : (Wait → Option Cause) → List Wait → List Wait
left_of why ws = filter (λ w. not (is_some (why w))) ws

-- which asks go

abbrev pub released : Key → List ℕ → Live → Live
released key blocks a = cond (same_key a.ask.key key) (record a { owned = filter (λ b. not (has_block blocks b)) a.owned; ticks = 0 }) a

-- the ask after blocks have left it
abbrev pub after_deed : Deed → Live → Live
after_deed (Leaves key blocks) a = released key blocks a
after_deed (Fails key blocks c) a = released key blocks a
after_deed _ a = a

-- an accepted operation answered the ask, which is then over without a line
abbrev pub is_finished : Deed → Live → Bool
is_finished (Finishes key c) a = same_key a.ask.key key
is_finished _ a = false

-- over without a line: answered, or its last block left it
abbrev pub is_over : Deed → Live → Bool
is_over d a = is_finished d a || (is_data a.ask.kind && is_empty a.owned)

-- the step itself cancels the ask: it ends by time or by a restart
abbrev pub is_cut : ItemId → Deed → Live → Bool
is_cut item (Expires key) a = same_key a.ask.key key
is_cut item Restarts a = (a.ask.item.0 == item.0) && is_data a.ask.kind
is_cut item _ a = false

-- some wait on the item misses a byte of the block
abbrev pub is_wanted : ItemId → View → List Wait → ℕ → Bool
is_wanted item v ws b = list_any (λ w. (w.item.0 == item.0) && misses_block v w b) ws

abbrev pub is_idle_by : AskKind → ItemId → View → List Wait → Live → Bool
is_idle_by ask_kind.Fetch item v ws a = not (list_any (is_wanted item v ws) a.owned)
is_idle_by ask_kind.Validate item v ws a = not (list_any (is_wanted item v ws) a.owned)
is_idle_by ask_kind.List item v ws a = not (list_any (λ w. (w.item.0 == item.0) && is_list_wait w.kind) ws)
is_idle_by ask_kind.Dehydrate item v ws a = not (list_any (λ w. same_key w.id.0 a.wait.0) ws)

-- an ask of the item that none of these waits waits for
abbrev pub is_idle : ItemId → View → List Wait → Live → Bool
is_idle item v ws a = (a.ask.item.0 == item.0) && is_idle_by a.ask.kind item v ws a

abbrev pub is_cancelled : ItemId → View → Deed → List Wait → Live → Bool
is_cancelled item v d ws a = is_cut item d a || is_idle item v ws a

-- which asks are made

-- neighbouring blocks of one kind: those that are fetched have a byte that is not here
pub record Run : Type 0 where
  pub fetch : Bool
  pub first : ℕ
  pub count : ℕ

abbrev pub is_fetched : View → ℕ → Bool
is_fetched v b = any_between v.absent (4096 * b) (4096 * b + 4096)

-- the maximal runs of the blocks, the first of them begun already
abbrev pub runs_on : View → Run → List ℕ → List Run
runs_on v r [] = r ∷ []
runs_on v r (b ∷ bs) = elim ((b == r.first + r.count) && beq (is_fetched v b) r.fetch) as (λ _. List Run) [
  | true ↦ runs_on v (record r { count = r.count + 1 }) bs
  | false ↦ r ∷ runs_on v (record { fetch = is_fetched v b; first = b; count = 1 }) bs
]

abbrev pub runs_of : View → List ℕ → List Run
runs_of v [] = []
runs_of v (b ∷ bs) = runs_on v (record { fetch = is_fetched v b; first = b; count = 1 }) bs

abbrev pub is_owned : ItemId → List Live → ℕ → Bool
is_owned item asks b = list_any (λ a. (a.ask.item.0 == item.0) && has_block a.owned b) asks

-- the blocks that hold a missing needed byte and that no ask owns
abbrev pub open_blocks : ItemId → View → List Wait → List Live → List ℕ
open_blocks item v ws asks = filter (λ b. is_wanted item v ws b && not (is_owned item asks b)) (counting 0 ((length v.lacks + 4095) / 4096))

-- the span of a run ends at the base length at the latest
abbrev pub ask_of_run : ItemId → ℕ → Run → Live
ask_of_run item base r = record {
  ask = record {
    key = no_key;
    kind = cond r.fetch ask_kind.Fetch ask_kind.Validate;
    item = item;
    span = span_of (4096 * r.first) (min base (4096 * (r.first + r.count)) - 4096 * r.first);
  };
  owned = counting r.first r.count;
  ticks = 0;
  wait = record { 0 = no_key };
}

abbrev pub list_ask : ItemId → Live
list_ask item = record { ask = record { key = no_key; kind = ask_kind.List; item = item; span = no_span }; owned = []; ticks = 0; wait = record { 0 = no_key } }

abbrev pub dehydrate_ask : Wait → Live
dehydrate_ask w = record { ask = record { key = no_key; kind = ask_kind.Dehydrate; item = w.item; span = w.span }; owned = []; ticks = 0; wait = w.id }

-- a list wait waits on the item, and no list ask is live
abbrev pub list_asks : ItemId → List Wait → List Live → List Live
list_asks item ws asks =
    when (list_any (λ w. (w.item.0 == item.0) && is_list_wait w.kind) ws && not (list_any (λ a. (a.ask.item.0 == item.0) && is_list a.ask.kind) asks)) (list_ask item ∷ [])

-- a dehydrate wait has no ask yet
abbrev pub dehydrate_asks : ItemId → List Wait → List Live → List Live
dehydrate_asks item ws asks =
    map dehydrate_ask (filter (λ w. (w.item.0 == item.0) && is_dehydrate_wait w.kind && not (list_any (λ a. same_key a.wait.0 w.id.0) asks)) ws)

-- the asks that are made, in order, still without keys
abbrev pub new_asks : ItemId → View → List Wait → List Live → List Live
new_asks item v ws asks = map (ask_of_run item v.base) (runs_of v (open_blocks item v ws asks)) ++ list_asks item ws asks ++ dehydrate_asks item ws asks

-- under the next keys of the epoch
abbrev pub with_keys : ℕ → ℕ → List Live → List Live
with_keys epoch n [] = []
with_keys epoch n (a ∷ as') = record a { ask = record a.ask { key = key_after epoch n } } ∷ with_keys epoch (n + 1) as'

-- the rule

-- what follows once it is known which waits are left
abbrev pub settled_with : ItemId → View → Deed → (Wait → Option Cause) → Waiting → List Wait → List Live → Told × Waiting
settled_with item v d why s ws asks =
    let kept : List Live = filter (λ a. not (is_cancelled item v d ws a)) asks in
    let made : List Live = with_keys s.epoch s.key_count (new_asks item v ws kept) in (
      record { ended = ended_of why s.waits; cancelled = map (λ a. a.ask.key) (filter (is_cancelled item v d ws) asks); made = made },
      record s { waits = ws; asks = kept ++ made; key_count = s.key_count + length made },
    )

-- One step: its deed is done, and then the lines of the rule follow.
abbrev pub step_of : ItemId → View → Deed → Waiting → Told × Waiting
step_of item v d s =
    settled_with item v d (why item v d s.asks) s (left_of (why item v d s.asks) s.waits) (filter (λ a. not (is_over d a)) (map (after_deed d) s.asks))

-- the provider is gone: all waits end, in order, and all asks without a line
abbrev pub downed : Waiting → Told × Waiting
downed s = (record { ended = map (λ w. (w, cause.Down)) s.waits; cancelled = []; made = [] }, record s { waits = []; asks = [] })
