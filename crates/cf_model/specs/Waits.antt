-- Calls that may wait, and ends of waits from outside.
use Rattle.std.specs.Prelude.{ℕ, Bool, true, false, not, List, [], ◌∷◌, ◌++◌, filter, map, Option, Some, None, Result, Ok, Err, find, ◌==◌}
use Rattle.std.specs.List.{list_any}
use Rattle.cf_base.specs.declared.answers.Shown.{Shown}
use Rattle.cf_base.specs.declared.answers.Shown.TheVariants as shown
use Rattle.cf_base.specs.declared.codes.Code.{Code}
use Rattle.cf_base.specs.declared.codes.Code.TheVariants as code
use Rattle.cf_base.specs.declared.ids.Handle.{Handle}
use Rattle.cf_base.specs.declared.ids.ItemId.{ItemId}
use Rattle.cf_base.specs.declared.ids.Key.{Key}
use Rattle.cf_base.specs.declared.ids.WaitId.{WaitId}
use Rattle.cf_base.specs.declared.notices.Notice.{Notice}
use Rattle.cf_base.specs.declared.notices.Notice.TheVariants as notice
use Rattle.cf_base.specs.declared.policies.Hydration.{Hydration}
use Rattle.cf_base.specs.declared.policies.Hydration.TheVariants as hydration
use Rattle.cf_base.specs.declared.spans.Span.{Span}
use Rattle.cf_base.specs.declared.waits.Cause.TheVariants as cause
use Rattle.cf_base.specs.declared.waits.WaitKind.{WaitKind}
use Rattle.cf_base.specs.declared.waits.WaitKind.TheVariants as wait_kind
use Rattle.cf_model.specs.Arrows.{Arrow, choose, each, noted, one, reading, ret, then_do}
use Rattle.cf_model.specs.Asks.{downed, step_of}
use Rattle.cf_model.specs.Requests.{Cancels, Closes, Expires, Live, Nothing, Told, Waiting, background_beside, expired, live_of, no_numbers, ticked, too_many_asks, too_many_waits, wait_after, with_waits}
use Rattle.cf_model.specs.Books.{with_ticks}
use Rattle.cf_model.specs.Items.{Item}
use Rattle.cf_model.specs.LookUp.{find_path}
use Rattle.cf_model.specs.Missing.{Wait, is_met, no_span}
use Rattle.cf_model.specs.Numbers.{same_key}
use Rattle.cf_model.specs.Operations.{checked, done}
use Rattle.cf_model.specs.Settling.{accessed_by, end_of, settle, tell, view_at}
use Rattle.cf_model.specs.State.{Filter, Open, Volume}

-- what a path, a handle leads to

abbrev pub on_ok : {X : Type 0} → (X → Arrow Filter Shown) → Result X Code → Arrow Filter Shown
on_ok f (Ok x) = f x
on_ok f (Err c) = ret (shown.Refused c)

abbrev pub at_path : List ℕ → Filter → Result Item Code
at_path path s = find_path s.volume.items path

-- on what stands at the path
abbrev pub on_path : List ℕ → (Item → Arrow Filter Shown) → Arrow Filter Shown
on_path path f = reading (at_path path) (on_ok f)

abbrev pub refused : Code → Arrow Filter Shown
refused c = ret (shown.Refused c)

abbrev pub but_directory : (Item → Arrow Filter Shown) → Item → Arrow Filter Shown
but_directory f i = choose i.directory (refused code.IsDirectory) (f i)

-- on the file at the path
abbrev pub on_file : List ℕ → (Item → Arrow Filter Shown) → Arrow Filter Shown
on_file path f = on_path path (but_directory f)

abbrev pub opened_by : Handle → Filter → Option Open
opened_by h s = find (λ o. same_key o.handle.0 h.0) s.handles

abbrev pub on_open : (ItemId → Arrow Filter Shown) → Option Open → Arrow Filter Shown
on_open f None = refused code.NoHandle
on_open f (Some o) = f o.item

-- on the file of a handle
abbrev pub on_handle : Handle → (ItemId → Arrow Filter Shown) → Arrow Filter Shown
on_handle h f = reading (opened_by h) (on_open f)

-- a call that needs something

-- What a call asks for. Background says whether the rest of the file is wanted too.
pub record Need : Type 0 where
  pub kind : WaitKind
  pub item : ItemId
  pub handle : Option Handle
  pub span : Span
  pub background : Bool

abbrev pub wait_for : Need → Filter → Wait
wait_for n s = wait_after s.waiting 0 n.kind n.item n.handle n.span

abbrev pub beside : Need → Filter → List Wait
beside n s = background_beside n.background n.item s.waiting

abbrev pub with_new_waits : Need → Filter → Waiting
with_new_waits n s = with_waits (wait_for n s ∷ beside n s) s.waiting

-- the waits and asks once the wait has begun
abbrev pub begun : Need → Filter → Told × Waiting
begun n s = step_of n.item (view_at s n.item) Nothing (with_new_waits n s)

abbrev pub begin_tests : Need → Filter → List (Bool × Code)
begin_tests n s =
    (not s.connected, code.ProviderDown) ∷ (too_many_waits (begun n s).1, code.TooManyWaits) ∷ (too_many_asks (begun n s).1, code.TooManyAsks)
    ∷ (no_numbers (begun n s).1, code.Exhausted) ∷ []

abbrev pub background_line : Wait → Notice
background_line w = notice.Background w.id w.item

-- the call's own wait, which has not ended yet, and the one beside it
abbrev pub with_own : Need → Filter → Filter
with_own n s = record s { own = Some (wait_for n s).id; ending = None; notes = s.notes ++ map background_line (beside n s) }

abbrev pub begin_with : Need → Told × Waiting → WaitId → Arrow Filter Shown
begin_with n r id = then_do (noted (with_own n)) (then_do (tell r) (ret (shown.Pending id)))

abbrev pub own_id : Need → Filter → WaitId
own_id n s = (wait_for n s).id

abbrev pub begin_now : Need → Told × Waiting → Arrow Filter Shown
begin_now n r = reading (own_id n) (begin_with n r)

-- the wait begins
abbrev pub begin : Need → Arrow Filter Shown
begin n = checked (begin_tests n) (reading (begun n) (begin_now n))

abbrev pub is_met_now : Need → Filter → Bool
is_met_now n s = is_met (view_at s n.item) (wait_for n s)

abbrev pub end_now : Need → Filter → Shown
end_now n s = shown.Ended (end_of s.volume.items (wait_for n s) cause.Met)

abbrev pub accessed_now : Need → Filter → Filter
accessed_now n s = accessed_by (wait_for n s) cause.Met s

-- nothing is missing: a step, because a read reads the device
abbrev pub answer_with : Need → Shown → Arrow Filter Shown
answer_with n answer = then_do (one (accessed_now n)) (ret answer)

abbrev pub answer_now : Need → Arrow Filter Shown
answer_now n = reading (end_now n) (answer_with n)

abbrev pub answer_or_begin : Need → Bool → Arrow Filter Shown
answer_or_begin n true = answer_now n
answer_or_begin n false = begin n

-- A call answers at once where nothing is missing, and draws no number then; else it waits.
abbrev pub need : Need → Arrow Filter Shown
need n = reading (is_met_now n) (answer_or_begin n)

abbrev pub is_progressive : Hydration → Bool
is_progressive hydration.Progressive = true
is_progressive _ = false

abbrev pub wants_rest : Filter → Bool
wants_rest s = is_progressive s.policy.hydration

abbrev pub read_need : Handle → Span → ItemId → Bool → Need
read_need h asked item background = record { kind = wait_kind.Read; item = item; handle = Some h; span = asked; background = background }

abbrev pub read_file : Handle → Span → ItemId → Bool → Arrow Filter Shown
read_file h asked item background = need (read_need h asked item background)

abbrev pub read_item : Handle → Span → ItemId → Arrow Filter Shown
read_item h asked item = reading wants_rest (read_file h asked item)

-- a read of an open file
abbrev pub read : Handle → Span → Arrow Filter Shown
read h asked = on_handle h (read_item h asked)

abbrev pub plain_need : WaitKind → ItemId → Span → Need
plain_need kind item asked = record { kind = kind; item = item; handle = None; span = asked; background = false }

abbrev pub get_item : Span → Item → Arrow Filter Shown
get_item asked i = need (plain_need wait_kind.Read i.id asked)

-- a read by path
abbrev pub get : List ℕ → Span → Arrow Filter Shown
get path asked = on_file path (get_item asked)

abbrev pub list_item : Item → Arrow Filter Shown
list_item i = choose i.directory (need (plain_need wait_kind.List i.id no_span)) (refused code.NotDirectory)

-- the entries of a directory
abbrev pub list : List ℕ → Arrow Filter Shown
list path = on_path path list_item

-- the whole file of an item
abbrev pub hydrate_file : ItemId → Arrow Filter Shown
hydrate_file item = need (plain_need wait_kind.Hydrate item no_span)

abbrev pub hydrate_item : Item → Arrow Filter Shown
hydrate_item i = choose i.placeholder (hydrate_file i.id) (refused code.NotPlaceholder)

abbrev pub hydrate : List ℕ → Arrow Filter Shown
hydrate path = on_file path hydrate_item

-- ends from outside

abbrev pub waiting_by : WaitId → Filter → Option Wait
waiting_by id s = find (λ w. same_key w.id.0 id.0) s.waiting.waits

abbrev pub cancel_wait : WaitId → Option Wait → Arrow Filter Shown
cancel_wait id None = refused code.NoWait
cancel_wait id (Some w) = then_do (settle w.item (Cancels id)) done

abbrev pub cancel : WaitId → Arrow Filter Shown
cancel id = reading (waiting_by id) (cancel_wait id)

abbrev pub without_handle : Handle → Filter → Filter
without_handle h s = record s { handles = filter (λ o. not (same_key o.handle.0 h.0)) s.handles }

-- no handle on the file is left
abbrev pub is_last : ItemId → Filter → Bool
is_last item s = not (list_any (λ o. o.item.0 == item.0) s.handles)

abbrev pub end_handle : Handle → ItemId → Bool → Arrow Filter (Unit {0})
end_handle h item last = settle item (Closes h last)

abbrev pub close_item : Handle → ItemId → Arrow Filter Shown
close_item h item = then_do (noted (without_handle h)) (then_do (reading (is_last item) (end_handle h item)) done)

abbrev pub close : Handle → Arrow Filter Shown
close h = on_handle h (close_item h)

-- time

abbrev pub with_clock : ℕ → Volume → Volume
with_clock n v = record v { book = with_ticks n v.book }

abbrev pub with_time : ℕ → Filter → Filter
with_time n s = record s { volume = with_clock n s.volume; waiting = ticked n s.waiting }

abbrev pub expire_live : Key → Option Live → Arrow Filter (Unit {0})
expire_live key None = ret (record {})
expire_live key (Some a) = settle a.ask.item (Expires key)

abbrev pub still_live : Key → Filter → Option Live
still_live key s = live_of s.waiting.asks key

-- an ask that an earlier step cancelled is not ended again
abbrev pub expire : Key → Arrow Filter (Unit {0})
expire key = reading (still_live key) (expire_live key)

abbrev pub expired_keys : Filter → List Key
expired_keys s = map (λ a. a.ask.key) (expired s.waiting)

-- the clock rises, and each ask on which 60 ticks have passed ends, in order of key, as a step of its own
abbrev pub tick : ℕ → Arrow Filter Shown
tick n = then_do (noted (with_time n)) (then_do (reading expired_keys (each expire)) done)

-- the provider

abbrev pub connected_again : Filter → Filter
connected_again s = record s { connected = true }

abbrev pub disconnected : Filter → Filter
disconnected s = record s { connected = false }

abbrev pub all_down : Filter → Told × Waiting
all_down s = downed s.waiting

-- without a provider all waits end, and all asks without a line
abbrev pub connect : Bool → Arrow Filter Shown
connect true = then_do (noted connected_again) done
connect false = then_do (noted disconnected) (then_do (reading all_down tell) done)
