-- A callback, from what is seen as it begins.
use Rattle.std.proofs.Common.{◌≡◌, List, [], ◌++◌, refl, sym, ◌∙◌, ap, subst}
use Rattle.std.specs.Prelude.{Option, Some, None, IfSome, MatchOption, option_map}
use Rattle.cf_engine_provider.specs.Agencies.{Agency, Any, Leaves, Plays, Sees}
use Rattle.cf_engine_provider.specs.Answering.{Answers, IsLive, Suits}
use Rattle.cf_engine_provider.specs.Parts.{Carries}
use Rattle.cf_engine_provider.proofs.Played.{as_well, nothing, within}
use Rattle.cf_base.specs.declared.messages.Reply.{Reply}
use Rattle.cf_base.specs.declared.messages.Request.{Request}
use Rattle.cf_base.specs.declared.operations.Operation.TheVariants as operation
use Rattle.cf_base.specs.declared.policies.Mode.{Mode}
use Rattle.cf_base.specs.declared.waits.Ask.{Ask}
use Rattle.cf_base.specs.declared.waits.AskKind.{AskKind}
use Rattle.cf_base.specs.declared.waits.AskKind.TheVariants as ask_kind
use Rattle.cf_provider.specs.Sights.{Sight}
use Rattle.cf_provider.specs.declared.outcomes.Callback.{Callback}
use Rattle.cf_model.specs.Agents.{agent, agent_on}
use Rattle.cf_model.specs.Arrows.{ret, unit}
use Rattle.cf_model.specs.Items.{Item, item_of}
use Rattle.cf_model.specs.Messages.{send_now, take_reply}
use Rattle.cf_model.specs.Callbacks.{call_back, provider}
use Rattle.cf_model.specs.Ports.{Act, Acts, HasFailed}
use Rattle.cf_model.specs.Requests.{Waiting, live_of}
use Rattle.cf_model.specs.State.{Filter, State, items_now}
use Rattle.cf_model.specs.Trees.{Ends, Stops}
use Rattle.cf_remote.specs.Told.{Told}
use Rattle.cf_table.specs.Means.{Means}
use Rattle.cf_table.specs.Tables.{row_of}
use Rattle.cf_table.specs.declared.rows.Row.{Row}
use Rattle.cf_table.proofs.Lengths.{rows_are_items}

module _ {R : Type 0} (told : R → Told) (sight : Sight) (call : Callback) where
  agent_at : (k : AskKind) (o : Option Item) (z : State) → call.ask.kind ≡ k → item_of (items_now z) call.ask.item ≡ o → agent call.ask z ≡ agent_on k call.ask o z
  agent_at k o z is at = (λ j. agent_on (is j) call.ask (at j) z)

  pub not_validated : (p : Agency R) → call.ask.kind ≡ ask_kind.Validate → Answers told p sight call [] p
  not_validated p is = as_well told (Suits sight call) (ret unit) (agent call.ask) p p [] (λ z there. sym (agent_at ask_kind.Validate (item_of (items_now z) call.ask.item) z is refl)) (nothing told Any p)

  -- bytes

  pub gone : (k : AskKind) (p : Agency R) → ((z : State) → ret unit z ≡ agent_on k call.ask None z) → call.ask.kind ≡ k → row_of sight.table.rows call.ask.item ≡ None → Answers told p sight call [] p
  gone k p nothing_now is none = as_well told (Suits sight call) (ret unit) (agent call.ask) p p [] (λ z there.
      let m : MatchOption (row_of sight.table.rows call.ask.item) (item_of (items_now z) call.ask.item ≡ None) (λ r. (i : Item) × (item_of (items_now z) call.ask.item ≡ Some i) × Means r i) = rows_are_items sight.table.rows (items_now z) call.ask.item there.shows.rows in
      let at : item_of (items_now z) call.ask.item ≡ None = subst (λ (o : Option Row). MatchOption o (item_of (items_now z) call.ask.item ≡ None) (λ r. (i : Item) × (item_of (items_now z) call.ask.item ≡ Some i) × Means r i)) none m in
      nothing_now z ∙ sym (agent_at k None z is at)) (nothing told Any p)

  -- a request about the item
  module _ (k : AskKind) (of : Item → Request) (sends_now : (i : Item) (z : State) → send_now (of i) z ≡ agent_on k call.ask (Some i) z) (row : Row) (o : Option Request) (is : call.ask.kind ≡ k) (there : row_of sight.table.rows call.ask.item ≡ Some row)
      (asked : IfSome o (λ q. (i : Item) → Means row i → q ≡ of i)) where
    abbrev At : State → Type 0
    At z = (i : Item) × (item_of (items_now z) call.ask.item ≡ Some i) × Means row i

    at : (z : State) → Suits sight call z.filter → At z
    at z h =
        let m : MatchOption (row_of sight.table.rows call.ask.item) (item_of (items_now z) call.ask.item ≡ None) (λ r. (i : Item) × (item_of (items_now z) call.ask.item ≡ Some i) × Means r i) = rows_are_items sight.table.rows (items_now z) call.ask.item h.shows.rows in
        subst (λ (x : Option Row). MatchOption x (item_of (items_now z) call.ask.item ≡ None) (λ r. (i : Item) × (item_of (items_now z) call.ask.item ≡ Some i) × Means r i)) there m

    module _ (q : Request) (some : o ≡ Some q) where
      asks : (i : Item) → Means row i → q ≡ of i
      asks = subst (λ (x : Option Request). IfSome x (λ y. (i : Item) → Means row i → y ≡ of i)) some asked

      sends : (z : State) → Suits sight call z.filter → send_now q z ≡ agent call.ask z
      sends z h =
          let n : At z = at z h in
          ap (λ (x : Request). send_now x z) (asks n.0 n.2) ∙ sends_now n.0 z ∙ sym (agent_at k (Some n.0) z is n.1)

      pub unanswered : (p m : Agency R) (acts : List Act) → Carries told (Suits sight call) q p None acts m → Answers told p sight call (acts ++ []) m
      unanswered p m acts c = within told (Suits sight call) (send_now q) (agent call.ask) p m (acts ++ []) sends (c.plays [] m (nothing told (Suits sight call) m))

      pub answered : (Holds : Filter → Type 0) (p m n : Agency R) (acts more : List Act) (r : Reply) → ((f : Filter) → Suits sight call f → Holds f) → Carries told (Suits sight call) q p (Some r) acts m → Plays told Holds (take_reply q r) m more n
          → Answers told p sight call (acts ++ more) n
      answered Holds p m n acts more r so c h =
          within told (Suits sight call) (send_now q) (agent call.ask) p n (acts ++ more) sends (c.plays more n (record {
            ends = λ z g sees holds does fine. h.ends z g sees (so z.filter holds) does fine;
            stops = λ z g sees holds does failed. h.stops z g sees (so z.filter holds) does failed;
            faults = h.faults;
          }))

  -- what was seen of the ask is so
  pub live_now : (live : Option Ask) → live ≡ option_map (λ a. a.ask) (live_of sight.waiting.asks call.ask.key) → (f : Filter) → Suits sight call f → IsLive call.ask.key live f
  live_now live e f h = sym (e ∙ ap (λ (w : Waiting). option_map (λ a. a.ask) (live_of w.asks call.ask.key)) h.shows.waiting)

-- as the definitions call it back

pub callback_ends : {R : Type 0} (told : R → Told) (p q : Agency R) (sight : Sight) (call : Callback) (acts : List Act) (z : State) (f : Filter) → Answers told p sight call acts q → Sees told p z → Suits sight call z.filter → Acts z.filter acts f → (HasFailed acts → ⊥)
    → Leaves told (Ends (call_back call.ask z) unit) f q
callback_ends told p q sight call acts z f h sees suits does fine =
    let e = h.ends z f sees suits does fine in
    record { state = e.state; is = subst (λ (m : Mode). Ends (provider m call.ask z) unit e.state) (sym sees.replays) e.is; filter = e.filter; sees = e.sees }

pub callback_stops : {R : Type 0} (told : R → Told) (p q : Agency R) (sight : Sight) (call : Callback) (acts : List Act) (z : State) (f : Filter) → Answers told p sight call acts q → Sees told p z → Suits sight call z.filter → Acts z.filter acts f → HasFailed acts
    → Leaves told (Stops (call_back call.ask z)) f q
callback_stops told p q sight call acts z f h sees suits does failed =
    let e = h.stops z f sees suits does failed in
    record { state = e.state; is = subst (λ (m : Mode). Stops (provider m call.ask z) e.state) (sym sees.replays) e.is; filter = e.filter; sees = e.sees }
