-- One step of the ask rule, as a call does it: refused by a limit and nothing changed, or done.
use Rattle.std.specs.Prelude.{ℕ, Bool, true, false, not, cond, List, [], ◌∷◌, ◌++◌, length, map, filter, Option, Some, None, Result, Ok, Err, ◌+◌, ◌≡◌, ◌||◌}
use Rattle.std.specs.List.{list_any}
use Rattle.cf_base.specs.declared.codes.Code.{Code}
use Rattle.cf_base.specs.declared.codes.Code.TheVariants as code
use Rattle.cf_base.specs.declared.codes.CallError.{CallError}
use Rattle.cf_base.specs.declared.codes.CallError.TheVariants.{No, OutOfMemory}
use Rattle.cf_base.specs.declared.ids.Handle.{Handle}
use Rattle.cf_base.specs.declared.ids.ItemId.{ItemId}
use Rattle.cf_base.specs.declared.ids.Key.{Key}
use Rattle.cf_base.specs.declared.ids.WaitId.{WaitId}
use Rattle.cf_base.specs.declared.spans.Span.{Span}
use Rattle.cf_base.specs.declared.waits.Cause.{Cause}
use Rattle.cf_base.specs.declared.waits.WaitKind.{WaitKind}
use Rattle.cf_base.specs.declared.waits.WaitKind.TheVariants as wait_kind
use Rattle.cf_ask_rule.specs.Plans.{Planned}
use Rattle.cf_model.specs.Asks.{step_of, with_keys}
use Rattle.cf_model.specs.Missing.{View, Wait, no_span}
use Rattle.cf_model.specs.Numbers.{key_after, same_key}
use Rattle.cf_model.specs.Requests.{Cancels, Deed, Live, Nothing, Told, Waiting, also_background, background_beside, no_numbers, too_many_asks, too_many_waits, wait_after, with_waits}
use Rattle.cf_model.specs.Words.{first_of, says, when}
use Rattle.cf_waits.specs.declared.limits.Limits.{Limits}
use Rattle.cf_waits.specs.declared.limits.Limits.TheVariants as limits
use Rattle.cf_waits.specs.declared.moves.Moves.{Moves}

-- the first limit that the state after a step passes
abbrev pub limit_of : Limits → Waiting → Option Code
limit_of limits.Begins s = first_of ((too_many_waits s, code.TooManyWaits) ∷ (too_many_asks s, code.TooManyAsks) ∷ (no_numbers s, code.Exhausted) ∷ [])
limit_of limits.Asks s = first_of ((too_many_asks s, code.TooManyAsks) ∷ (no_numbers s, code.Exhausted) ∷ [])
limit_of limits.Numbers s = first_of ((no_numbers s, code.Exhausted) ∷ [])
limit_of limits.Free s = None

-- what a step is held to
abbrev pub limits_waits : Limits → Bool
limits_waits limits.Begins = true
limits_waits _ = false

abbrev pub limits_asks : Limits → Bool
limits_asks limits.Begins = true
limits_asks limits.Asks = true
limits_asks _ = false

abbrev pub limits_numbers : Limits → Bool
limits_numbers limits.Free = false
limits_numbers _ = true

-- what a call tells of a step; a background wait that began is told too
abbrev pub moved_of : Option WaitId → Told → Moves
moved_of background t = record { background = background; ended = t.ended; cancelled = t.cancelled; asks = map (λ a. a.ask) t.made }

-- A step that leads to the told, and to the state after.
abbrev pub Steps : Limits → Told × Waiting → Waiting → Result Moves CallError → Waiting → Type 0
Steps l after old (Ok m) new = (limit_of l after.1 ≡ None) × (m ≡ moved_of None after.0) × (new ≡ after.1)
Steps l after old (Err (No c)) new = (limit_of l after.1 ≡ Some c) × (new ≡ old)
Steps l after old (Err OutOfMemory) new = new ≡ old

-- what a plan takes out of the state that it was made for, and changes in it

abbrev pub is_ended : List (Wait × Cause) → Wait → Bool
is_ended es w = list_any (λ e. same_key e.0.id.0 w.id.0) es

abbrev pub is_gone : List Key → Option Key → Live → Bool
is_gone cancelled dropped a = list_any (same_key a.ask.key) cancelled || says (same_key a.ask.key) dropped

-- blocks have left the ask, whose time begins anew
abbrev pub changed_by : Option Live → Live → Live
changed_by None a = a
changed_by (Some c) a = cond (same_key a.ask.key c.ask.key) (record a { owned = c.owned; ticks = 0 }) a

-- waits begin and end, and asks go, change and are made
abbrev pub turned : List Wait → List (Wait × Cause) → List Key → Option Key → Option Live → List Live → Waiting → Waiting
turned begun ended cancelled dropped changed made s = record s {
  waits = filter (λ w. not (is_ended ended w)) (s.waits ++ begun);
  asks = map (changed_by changed) (filter (λ a. not (is_gone cancelled dropped a)) s.asks) ++ made;
  wait_count = s.wait_count + length begun;
  key_count = s.key_count + length made;
}

abbrev pub carried : Planned → Waiting → Told × Waiting
carried p s = (
  record { ended = p.ended; cancelled = p.cancelled; made = with_keys s.epoch s.key_count p.made },
  record s {
    waits = filter (λ w. not (is_ended p.ended w)) s.waits;
    asks = map (changed_by p.changed) (filter (λ a. not (is_gone p.cancelled p.dropped a)) s.asks) ++ with_keys s.epoch s.key_count p.made;
    key_count = s.key_count + length (with_keys s.epoch s.key_count p.made);
  },
)

-- the plan is one of a step in this state, on its item by its view
abbrev pub IsPlanned : Planned → Waiting → Type 0
IsPlanned p s = (item : ItemId) × (v : View) × (d : Deed) × (carried p s ≡ step_of item v d s) × (p.item ≡ item) × (p.view ≡ v)

-- beginning a wait, and one for the rest of the file beside it where that is wanted and none is live

abbrev pub begun : WaitKind → ItemId → Option Handle → Span → Bool → View → Waiting → Told × Waiting
begun kind item handle asked wanted v s = step_of item v Nothing (with_waits (wait_after s 0 kind item handle asked ∷ background_beside wanted item s) s)

-- the wait, and the one beside it where that is said
abbrev pub first_waits : WaitKind → ItemId → Option Handle → Span → Bool → Waiting → List Wait
first_waits kind item handle asked beside s = wait_after s 0 kind item handle asked ∷ when beside (wait_after s 1 wait_kind.Background item None no_span ∷ [])

abbrev pub tried : WaitKind → ItemId → Option Handle → Span → Bool → Waiting → Waiting
tried kind item handle asked beside s = with_waits (first_waits kind item handle asked beside s) s

abbrev pub begun_id : ℕ → Waiting → WaitId
begun_id n s = record { 0 = key_after s.epoch (s.wait_count + n) }

abbrev pub background_id : Bool → ItemId → Waiting → Option WaitId
background_id wanted item s = cond (also_background wanted item s) (Some (begun_id 1 s)) None

-- waits for consent to a dehydration count for no limit
abbrev pub limits_by : WaitKind → Limits
limits_by wait_kind.Dehydrate = limits.Numbers
limits_by _ = limits.Begins

abbrev pub Begins : Limits → Option WaitId → Told × Waiting → Waiting → Result (WaitId × Moves) CallError → Waiting → Type 0
Begins l background after old (Ok m) new = (limit_of l after.1 ≡ None) × (m.0 ≡ begun_id 0 old) × (m.1 ≡ moved_of background after.0) × (new ≡ after.1)
Begins l background after old (Err (No c)) new = (limit_of l after.1 ≡ Some c) × (new ≡ old)
Begins l background after old (Err OutOfMemory) new = new ≡ old

-- The wait ends as cancelled; of a number that is not live it is refused.
abbrev pub CancelsAt : Option Wait → WaitId → View → Waiting → Result Moves CallError → Waiting → Type 0
CancelsAt None id v old r new = (r ≡ Err (No code.NoWait)) × (new ≡ old)
CancelsAt (Some w) id v old r new = Steps limits.Free (step_of w.item v (Cancels id) old) old r new
