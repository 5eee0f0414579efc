-- What a property must be kept by, to be kept by the whole machine: each step that is not made of others.
use Rattle.std.specs.Prelude.{Bool, List, ℕ}
use Rattle.cf_base.specs.declared.answers.Shown.{Shown}
use Rattle.cf_base.specs.declared.changes.Change.{Change}
use Rattle.cf_base.specs.declared.codes.Code.{Code}
use Rattle.cf_base.specs.declared.ids.Handle.{Handle}
use Rattle.cf_base.specs.declared.ids.ItemId.{ItemId}
use Rattle.cf_base.specs.declared.ids.Usn.{Usn}
use Rattle.cf_base.specs.declared.messages.Reply.{Reply}
use Rattle.cf_base.specs.declared.notices.Frame.{Frame}
use Rattle.cf_base.specs.declared.operations.Operation.{Operation}
use Rattle.cf_base.specs.declared.policies.Policy.{Policy}
use Rattle.cf_base.specs.declared.waits.Ask.{Ask}
use Rattle.cf_model.specs.Arrows.{Preserves, reading}
use Rattle.cf_model.specs.Trees.{Keeps}
use Rattle.cf_base.specs.declared.messages.Request.{Request}
use Rattle.cf_model.specs.Books.{Book, QueueEntry}
use Rattle.cf_model.specs.Callbacks.{begin_call, with_operation_told, with_outbox, without_plan}
use Rattle.cf_model.specs.Calls.{with_handle, with_policy}
use Rattle.cf_model.specs.Changes.{change_with}
use Rattle.cf_model.specs.EngineEvents.{with_inline}
use Rattle.cf_model.specs.Events.{begun as event_begun, with_planned}
use Rattle.cf_model.specs.Feeds.{all_released, with_clock_seen}
use Rattle.cf_model.specs.Messages.{ask, fault_line, with_lost, with_message}
use Rattle.cf_model.specs.Operations.{as_it_is}
use Rattle.cf_model.specs.Passes.{showing, with_round, without_done}
use Rattle.cf_model.specs.Peers.{with_stray, with_token_used}
use Rattle.cf_model.specs.Points.{Opens, commit}
use Rattle.cf_model.specs.PushReplies.{held_and_closed, not_in_row, round_closed, taken_from_row, with_done, with_not_empty, with_taken_name}
use Rattle.cf_model.specs.Pushes.{with_token}
use Rattle.cf_model.specs.Requests.{Deed}
use Rattle.cf_model.specs.Restarts.{crashed, failed_open, open_skipping}
use Rattle.cf_model.specs.Settling.{accessed, settle, tell}
use Rattle.cf_model.specs.Skips.{skipped, with_book, with_volatile}
use Rattle.cf_model.specs.State.{Filter, Point, State, in_volume, with_filter}
use Rattle.cf_model.specs.Waits.{Need, accessed_now, all_down, begin_now, begun, connected_again, disconnected, with_time, without_handle}

-- of the filter
pub record ClosedFilter (P : Filter → Type 0) : Type 0 where
  pub change : (f : Book → Book) (c : Change) → Preserves P (change_with f c)
  pub commits : Preserves P (in_volume commit)
  pub settled : (item : ItemId) (d : Deed) → Preserves P (settle item d)
  pub begins : (n : Need) → Preserves P (reading (begun n) (begin_now n))
  pub downs : Preserves P (reading all_down tell)
  pub keeps_accessed : (x1 : ItemId) → (s : Filter) → P s → P (accessed x1 s)
  pub keeps_accessed_now : (x1 : Need) → (s : Filter) → P s → P (accessed_now x1 s)
  pub keeps_as_it_is : (s : Filter) → P s → P (as_it_is s)
  pub keeps_begin_call : (s : Filter) → P s → P (begin_call s)
  pub keeps_connected_again : (s : Filter) → P s → P (connected_again s)
  pub keeps_disconnected : (s : Filter) → P s → P (disconnected s)
  pub keeps_with_handle : (x1 : ItemId) → (s : Filter) → P s → P (with_handle x1 s)
  pub keeps_with_policy : (x1 : Policy) → (s : Filter) → P s → P (with_policy x1 s)
  pub keeps_with_time : (x1 : ℕ) → (s : Filter) → P s → P (with_time x1 s)
  pub keeps_without_handle : (x1 : Handle) → (s : Filter) → P s → P (without_handle x1 s)

-- of the whole, but for events of other devices
pub record Closed (P : State → Type 0) : Type 0 where
  pub on_filter : (s : State) → P s → ClosedFilter (λ x. P (with_filter x s))
  pub opens : (s : State) (p : Point) (skipped : ℕ) → Opens s.filter.volume.points p → P s → Keeps P (open_skipping p skipped s)
  pub asks : (q : Request) → Preserves P (ask q)
  pub keeps_begun : (s : State) → P s → P (event_begun s)
  pub keeps_crashed : (s : State) → P s → P (crashed s)
  pub keeps_failed_open : (s : State) → P s → P (failed_open s)
  pub keeps_fault_line : (x1 : ℕ) → (s : State) → P s → P (fault_line x1 s)
  pub keeps_showing : (s : State) → P s → P (showing s)
  pub keeps_skipped : (x1 : Code) → (s : State) → P s → P (skipped x1 s)
  pub keeps_volatile_all_released : (s : State) → P s → P (with_volatile all_released s)
  pub keeps_volatile_held_and_closed : (x1 : QueueEntry) → (s : State) → P s → P (with_volatile (held_and_closed x1) s)
  pub keeps_volatile_not_in_row : (x1 : QueueEntry) → (s : State) → P s → P (with_volatile (not_in_row x1) s)
  pub keeps_volatile_round_closed : (s : State) → P s → P (with_volatile round_closed s)
  pub keeps_volatile_taken_from_row : (x1 : QueueEntry) → (s : State) → P s → P (with_volatile (taken_from_row x1) s)
  pub keeps_volatile_with_not_empty : (x1 : Usn) → (s : State) → P s → P (with_volatile (with_not_empty x1) s)
  pub keeps_volatile_with_round : (s : State) → P s → P (with_volatile with_round s)
  pub keeps_volatile_with_taken_name : (x1 : ItemId) → (s : State) → P s → P (with_volatile (with_taken_name x1) s)
  pub keeps_volatile_with_token : (s : State) → P s → P (with_volatile with_token s)
  pub keeps_with_book : (x1 : (Book → Book)) → (s : State) → P s → P (with_book x1 s)
  pub keeps_with_clock_seen : (x1 : ℕ) → (s : State) → P s → P (with_clock_seen x1 s)
  pub keeps_with_done : (s : State) → P s → P (with_done s)
  pub keeps_with_inline : (x1 : Bool) → (s : State) → P s → P (with_inline x1 s)
  pub keeps_with_lost : (x1 : Frame) → (s : State) → P s → P (with_lost x1 s)
  pub keeps_with_message : (x1 : Frame) → (s : State) → P s → P (with_message x1 s)
  pub keeps_with_operation_told : (x1 : Shown) → (s : State) → P s → P (with_operation_told x1 s)
  pub keeps_with_outbox : (x1 : List Ask) → (s : State) → P s → P (with_outbox x1 s)
  pub keeps_with_planned : (x1 : Bool) → (x2 : Operation) → (s : State) → P s → P (with_planned x1 x2 s)
  pub keeps_without_done : (s : State) → P s → P (without_done s)
  pub keeps_without_plan : (s : State) → P s → P (without_plan s)

-- and what those do besides their requests
pub record ClosedToPeers (P : State → Type 0) : Type 0 where
  pub keeps_with_stray : (x1 : Reply) → (s : State) → P s → P (with_stray x1 s)
  pub keeps_with_token_used : (s : State) → P s → P (with_token_used s)
