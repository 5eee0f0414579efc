-- The parts of `Waits` keep identities named.
use Rattle.std.specs.Prelude.{ℕ, Bool, true, false, List, Option, Some, None, Result, Ok, Err}
use Rattle.cf_base.specs.declared.answers.Shown.{Shown}
use Rattle.cf_base.specs.declared.answers.Shown.TheVariants as shown
use Rattle.cf_base.specs.declared.codes.Code.{Code}
use Rattle.cf_base.specs.declared.codes.Code.TheVariants as code
use Rattle.cf_base.specs.declared.ids.Handle.{Handle}
use Rattle.cf_base.specs.declared.ids.ItemId.{ItemId}
use Rattle.cf_base.specs.declared.ids.Key.{Key}
use Rattle.cf_base.specs.declared.ids.WaitId.{WaitId}
use Rattle.cf_base.specs.declared.spans.Span.{Span}
use Rattle.cf_base.specs.declared.waits.WaitKind.TheVariants as wait_kind
use Rattle.cf_model.specs.Arrows.{Arrow, each, noted, one, Preserves, reading, ret, then_do}
use Rattle.cf_model.specs.Items.{Item}
use Rattle.cf_model.specs.Missing.{no_span, Wait}
use Rattle.cf_model.specs.Operations.{done}
use Rattle.cf_model.specs.Requests.{Cancels, Closes, Expires, Live}
use Rattle.cf_model.specs.Settling.{settle, tell}
use Rattle.cf_model.specs.State.{Filter, Open}
use Rattle.cf_model.specs.Waits.{accessed_now, all_down, answer_now, answer_or_begin, answer_with, at_path, begin, begin_now, begin_tests, begun, but_directory, cancel, cancel_wait, close, close_item, connect, connected_again, disconnected, end_handle, end_now, expire, expire_live, expired_keys, get, get_item, hydrate, hydrate_file, hydrate_item, is_last, is_met_now, list, list_item, Need, need, on_file, on_handle, on_ok, on_open, on_path, opened_by, plain_need, read, read_file, read_item, read_need, refused, still_live, tick, waiting_by, wants_rest, with_time, without_handle}
use Rattle.cf_model.proofs.ArrowLaws.{keeps_choose, keeps_each, keeps_noted, keeps_one, keeps_reading, keeps_ret, keeps_then}
use Rattle.cf_pair_identities.specs.Named.{NamedIn}
use Rattle.cf_pair_identities.proofs.NamedSteps.{accessed_now_named, begins_named, downs_named, settled_named}
use Rattle.cf_pair_identities.proofs.OperationsNamed as operations_named

pub on_ok_keeps : {X : Type 0} → (full : Bool) → (x1 : (X → Arrow Filter Shown)) → ((z0_0 : X) → Preserves (NamedIn full) (x1 z0_0)) → (x2 : Result X Code) → Preserves (NamedIn full) (on_ok x1 x2)
on_ok_keeps full f f_keeps (Ok x) = f_keeps x
on_ok_keeps full f f_keeps (Err c) = keeps_ret (NamedIn full) (shown.Refused c)

pub on_path_keeps : (full : Bool) → (x1 : List ℕ) → (x2 : (Item → Arrow Filter Shown)) → ((z1_0 : Item) → Preserves (NamedIn full) (x2 z1_0)) → Preserves (NamedIn full) (on_path x1 x2)
on_path_keeps full path f f_keeps = keeps_reading (NamedIn full) (at_path path) (on_ok f) (on_ok_keeps full f f_keeps)

pub refused_keeps : (full : Bool) → (x1 : Code) → Preserves (NamedIn full) (refused x1)
refused_keeps full c = keeps_ret (NamedIn full) (shown.Refused c)

pub but_directory_keeps : (full : Bool) → (x1 : (Item → Arrow Filter Shown)) → ((z0_0 : Item) → Preserves (NamedIn full) (x1 z0_0)) → (x2 : Item) → Preserves (NamedIn full) (but_directory x1 x2)
but_directory_keeps full f f_keeps i = keeps_choose (NamedIn full) i.directory (refused code.IsDirectory) (f i) (refused_keeps full code.IsDirectory) (f_keeps i)

pub on_file_keeps : (full : Bool) → (x1 : List ℕ) → (x2 : (Item → Arrow Filter Shown)) → ((z1_0 : Item) → Preserves (NamedIn full) (x2 z1_0)) → Preserves (NamedIn full) (on_file x1 x2)
on_file_keeps full path f f_keeps = on_path_keeps full path (but_directory f) (but_directory_keeps full f f_keeps)

pub on_open_keeps : (full : Bool) → (x1 : (ItemId → Arrow Filter Shown)) → ((z0_0 : ItemId) → Preserves (NamedIn full) (x1 z0_0)) → (x2 : Option Open) → Preserves (NamedIn full) (on_open x1 x2)
on_open_keeps full f f_keeps None = refused_keeps full code.NoHandle
on_open_keeps full f f_keeps (Some o) = f_keeps o.item

pub on_handle_keeps : (full : Bool) → (x1 : Handle) → (x2 : (ItemId → Arrow Filter Shown)) → ((z1_0 : ItemId) → Preserves (NamedIn full) (x2 z1_0)) → Preserves (NamedIn full) (on_handle x1 x2)
on_handle_keeps full h f f_keeps = keeps_reading (NamedIn full) (opened_by h) (on_open f) (on_open_keeps full f f_keeps)

pub begin_keeps : (full : Bool) → (x1 : Need) → Preserves (NamedIn full) (begin x1)
begin_keeps full n = operations_named.checked_keeps full (begin_tests n) (reading (begun n) (begin_now n)) (begins_named full n)

pub answer_with_keeps : (full : Bool) → (x1 : Need) → (x2 : Shown) → Preserves (NamedIn full) (answer_with x1 x2)
answer_with_keeps full n answer = keeps_then (NamedIn full) (one (accessed_now n)) (ret answer) (keeps_one (NamedIn full) (accessed_now n) (accessed_now_named full n)) (keeps_ret (NamedIn full) answer)

pub answer_now_keeps : (full : Bool) → (x1 : Need) → Preserves (NamedIn full) (answer_now x1)
answer_now_keeps full n = keeps_reading (NamedIn full) (end_now n) (answer_with n) (answer_with_keeps full n)

pub answer_or_begin_keeps : (full : Bool) → (x1 : Need) → (x2 : Bool) → Preserves (NamedIn full) (answer_or_begin x1 x2)
answer_or_begin_keeps full n true = answer_now_keeps full n
answer_or_begin_keeps full n false = begin_keeps full n

pub need_keeps : (full : Bool) → (x1 : Need) → Preserves (NamedIn full) (need x1)
need_keeps full n = keeps_reading (NamedIn full) (is_met_now n) (answer_or_begin n) (answer_or_begin_keeps full n)

pub read_file_keeps : (full : Bool) → (x1 : Handle) → (x2 : Span) → (x3 : ItemId) → (x4 : Bool) → Preserves (NamedIn full) (read_file x1 x2 x3 x4)
read_file_keeps full h asked item background = need_keeps full (read_need h asked item background)

pub read_item_keeps : (full : Bool) → (x1 : Handle) → (x2 : Span) → (x3 : ItemId) → Preserves (NamedIn full) (read_item x1 x2 x3)
read_item_keeps full h asked item = keeps_reading (NamedIn full) wants_rest (read_file h asked item) (read_file_keeps full h asked item)

pub read_keeps : (full : Bool) → (x1 : Handle) → (x2 : Span) → Preserves (NamedIn full) (read x1 x2)
read_keeps full h asked = on_handle_keeps full h (read_item h asked) (read_item_keeps full h asked)

pub get_item_keeps : (full : Bool) → (x1 : Span) → (x2 : Item) → Preserves (NamedIn full) (get_item x1 x2)
get_item_keeps full asked i = need_keeps full (plain_need wait_kind.Read i.id asked)

pub get_keeps : (full : Bool) → (x1 : List ℕ) → (x2 : Span) → Preserves (NamedIn full) (get x1 x2)
get_keeps full path asked = on_file_keeps full path (get_item asked) (get_item_keeps full asked)

pub list_item_keeps : (full : Bool) → (x1 : Item) → Preserves (NamedIn full) (list_item x1)
list_item_keeps full i =
    keeps_choose (NamedIn full) i.directory (need (plain_need wait_kind.List i.id no_span)) (refused code.NotDirectory)
    (need_keeps full (plain_need wait_kind.List i.id no_span))
    (refused_keeps full code.NotDirectory)

pub list_keeps : (full : Bool) → (x1 : List ℕ) → Preserves (NamedIn full) (list x1)
list_keeps full path = on_path_keeps full path list_item (list_item_keeps full)

pub hydrate_file_keeps : (full : Bool) → (x1 : ItemId) → Preserves (NamedIn full) (hydrate_file x1)
hydrate_file_keeps full item = need_keeps full (plain_need wait_kind.Hydrate item no_span)

pub hydrate_item_keeps : (full : Bool) → (x1 : Item) → Preserves (NamedIn full) (hydrate_item x1)
hydrate_item_keeps full i = keeps_choose (NamedIn full) i.placeholder (hydrate_file i.id) (refused code.NotPlaceholder) (hydrate_file_keeps full i.id) (refused_keeps full code.NotPlaceholder)

pub hydrate_keeps : (full : Bool) → (x1 : List ℕ) → Preserves (NamedIn full) (hydrate x1)
hydrate_keeps full path = on_file_keeps full path hydrate_item (hydrate_item_keeps full)

pub cancel_wait_keeps : (full : Bool) → (x1 : WaitId) → (x2 : Option Wait) → Preserves (NamedIn full) (cancel_wait x1 x2)
cancel_wait_keeps full id None = refused_keeps full code.NoWait
cancel_wait_keeps full id (Some w) = keeps_then (NamedIn full) (settle w.item (Cancels id)) done (settled_named full w.item (Cancels id)) (operations_named.done_keeps full)

pub cancel_keeps : (full : Bool) → (x1 : WaitId) → Preserves (NamedIn full) (cancel x1)
cancel_keeps full id = keeps_reading (NamedIn full) (waiting_by id) (cancel_wait id) (cancel_wait_keeps full id)

pub end_handle_keeps : (full : Bool) → (x1 : Handle) → (x2 : ItemId) → (x3 : Bool) → Preserves (NamedIn full) (end_handle x1 x2 x3)
end_handle_keeps full h item last = settled_named full item (Closes h last)

pub close_item_keeps : (full : Bool) → (x1 : Handle) → (x2 : ItemId) → Preserves (NamedIn full) (close_item x1 x2)
close_item_keeps full h item =
    keeps_then (NamedIn full) (noted (without_handle h)) (then_do (reading (is_last item) (end_handle h item)) done)
    (keeps_noted (NamedIn full) (without_handle h) (λ s h. h))
    (keeps_then (NamedIn full) (reading (is_last item) (end_handle h item)) done (keeps_reading (NamedIn full) (is_last item) (end_handle h item) (end_handle_keeps full h item)) (operations_named.done_keeps full))

pub close_keeps : (full : Bool) → (x1 : Handle) → Preserves (NamedIn full) (close x1)
close_keeps full h = on_handle_keeps full h (close_item h) (close_item_keeps full h)

pub expire_live_keeps : (full : Bool) → (x1 : Key) → (x2 : Option Live) → Preserves (NamedIn full) (expire_live x1 x2)
expire_live_keeps full key None = keeps_ret (NamedIn full) (record {})
expire_live_keeps full key (Some a) = settled_named full a.ask.item (Expires key)

pub expire_keeps : (full : Bool) → (x1 : Key) → Preserves (NamedIn full) (expire x1)
expire_keeps full key = keeps_reading (NamedIn full) (still_live key) (expire_live key) (expire_live_keeps full key)

pub tick_keeps : (full : Bool) → (x1 : ℕ) → Preserves (NamedIn full) (tick x1)
tick_keeps full n = keeps_then (NamedIn full) (noted (with_time n)) (then_do (reading expired_keys (each expire)) done) (keeps_noted (NamedIn full) (with_time n) (λ s h. h)) (keeps_then (NamedIn full) (reading expired_keys (each expire)) done (keeps_reading (NamedIn full) expired_keys (each expire) (λ z1. keeps_each (NamedIn full) expire z1 (expire_keeps full))) (operations_named.done_keeps full))

pub connect_keeps : (full : Bool) → (x1 : Bool) → Preserves (NamedIn full) (connect x1)
connect_keeps full true = keeps_then (NamedIn full) (noted connected_again) done (keeps_noted (NamedIn full) connected_again (λ s h. h)) (operations_named.done_keeps full)
connect_keeps full false =
    keeps_then (NamedIn full) (noted disconnected) (then_do (reading all_down tell) done)
    (keeps_noted (NamedIn full) disconnected (λ s h. h))
    (keeps_then (NamedIn full) (reading all_down tell) done (downs_named full) (operations_named.done_keeps full))
