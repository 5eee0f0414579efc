-- The parts of `Waits` are sure, each by its own parts.
use Rattle.std.proofs.Common.{refl}
use Rattle.std.specs.Prelude.{ℕ, Bool, true, false, List, Option, Some, None, Result, Ok, Err}
use Rattle.cf_base.specs.declared.answers.Shown.{Shown}
use Rattle.cf_base.specs.declared.answers.Shown.TheVariants as shown
use Rattle.cf_base.specs.declared.codes.Code.{Code}
use Rattle.cf_base.specs.declared.codes.Code.TheVariants as code
use Rattle.cf_base.specs.declared.ids.Handle.{Handle}
use Rattle.cf_base.specs.declared.ids.ItemId.{ItemId}
use Rattle.cf_base.specs.declared.ids.Key.{Key}
use Rattle.cf_base.specs.declared.ids.WaitId.{WaitId}
use Rattle.cf_base.specs.declared.spans.Span.{Span}
use Rattle.cf_base.specs.declared.waits.WaitKind.TheVariants as wait_kind
use Rattle.cf_base.specs.declared.waits.Cause.TheVariants as cause
use Rattle.cf_model.specs.Arrows.{Arrow, each, noted, one, reading, ret, then_do}
use Rattle.cf_model.specs.Requests.{Cancels, Closes, Expires, Live}
use Rattle.cf_model.specs.Items.{Item}
use Rattle.cf_model.specs.Missing.{Wait, no_span}
use Rattle.cf_model.specs.Operations.{done}
use Rattle.cf_model.specs.Settling.{is_access, settle, tell}
use Rattle.cf_model.specs.State.{Filter, Open}
use Rattle.cf_model.specs.Waits.{Need, accessed_now, all_down, answer_now, answer_or_begin, answer_with, at_path, begin, begin_now, begin_tests, begun, but_directory, cancel, cancel_wait, close, close_item, connect, connected_again, disconnected, end_handle, end_now, expire, expire_live, expired_keys, get, get_item, hydrate, hydrate_file, hydrate_item, is_last, is_met_now, list, list_item, need, on_file, on_handle, on_ok, on_open, on_path, opened_by, plain_need, read, read_file, read_item, read_need, refused, still_live, tick, waiting_by, wants_rest, with_time, without_handle}
use Rattle.cf_check_ways.specs.Ways.{IsSure, of_filter}
use Rattle.cf_check_ways.proofs.Sure.{plain_quiet, reads_fixed, sure_choose, sure_each, sure_noted, sure_one, sure_reading, sure_ret, sure_then}
use Rattle.cf_check_ways.proofs.VolumeSteps.{accessed_if_plain, begins_sure, downs_sure, settle_sure}
use Rattle.cf_check_ways.proofs.OperationsSure as operations_sure

pub on_ok_sure : {X : Type 0} → (x1 : (X → Arrow Filter Shown)) → ((z0_0 : X) → IsSure of_filter (x1 z0_0)) → (x2 : Result X Code) → IsSure of_filter (on_ok x1 x2)
on_ok_sure f f_sure (Ok x) = f_sure x
on_ok_sure f f_sure (Err c) = sure_ret of_filter (shown.Refused c)

pub on_path_sure : (x1 : List ℕ) → (x2 : (Item → Arrow Filter Shown)) → ((z1_0 : Item) → IsSure of_filter (x2 z1_0)) → IsSure of_filter (on_path x1 x2)
on_path_sure path f f_sure = sure_reading of_filter (at_path path) (on_ok f) (reads_fixed of_filter (at_path path) (λ s. refl)) (on_ok_sure f f_sure)

pub refused_sure : (x1 : Code) → IsSure of_filter (refused x1)
refused_sure c = sure_ret of_filter (shown.Refused c)

pub but_directory_sure : (x1 : (Item → Arrow Filter Shown)) → ((z0_0 : Item) → IsSure of_filter (x1 z0_0)) → (x2 : Item) → IsSure of_filter (but_directory x1 x2)
but_directory_sure f f_sure i = sure_choose of_filter i.directory (refused code.IsDirectory) (f i) (refused_sure code.IsDirectory) (f_sure i)

pub on_file_sure : (x1 : List ℕ) → (x2 : (Item → Arrow Filter Shown)) → ((z1_0 : Item) → IsSure of_filter (x2 z1_0)) → IsSure of_filter (on_file x1 x2)
on_file_sure path f f_sure = on_path_sure path (but_directory f) (but_directory_sure f f_sure)

pub on_open_sure : (x1 : (ItemId → Arrow Filter Shown)) → ((z0_0 : ItemId) → IsSure of_filter (x1 z0_0)) → (x2 : Option Open) → IsSure of_filter (on_open x1 x2)
on_open_sure f f_sure None = refused_sure code.NoHandle
on_open_sure f f_sure (Some o) = f_sure o.item

pub on_handle_sure : (x1 : Handle) → (x2 : (ItemId → Arrow Filter Shown)) → ((z1_0 : ItemId) → IsSure of_filter (x2 z1_0)) → IsSure of_filter (on_handle x1 x2)
on_handle_sure h f f_sure = sure_reading of_filter (opened_by h) (on_open f) (reads_fixed of_filter (opened_by h) (λ s. refl)) (on_open_sure f f_sure)

pub begin_sure : (x1 : Need) → IsSure of_filter (begin x1)
begin_sure n = operations_sure.checked_sure (begin_tests n) (reading (begun n) (begin_now n)) (reads_fixed of_filter (begin_tests n) (λ s. refl)) (begins_sure n)

pub answer_with_sure : (x1 : Need) → (x2 : Shown) → IsSure of_filter (answer_with x1 x2)
answer_with_sure n answer = sure_then of_filter (one (accessed_now n)) (ret answer) (sure_one of_filter (accessed_now n) (accessed_if_plain (is_access n.kind cause.Met) n.item)) (sure_ret of_filter answer)

pub answer_now_sure : (x1 : Need) → IsSure of_filter (answer_now x1)
answer_now_sure n = sure_reading of_filter (end_now n) (answer_with n) (reads_fixed of_filter (end_now n) (λ s. refl)) (answer_with_sure n)

pub answer_or_begin_sure : (x1 : Need) → (x2 : Bool) → IsSure of_filter (answer_or_begin x1 x2)
answer_or_begin_sure n true = answer_now_sure n
answer_or_begin_sure n false = begin_sure n

pub need_sure : (x1 : Need) → IsSure of_filter (need x1)
need_sure n = sure_reading of_filter (is_met_now n) (answer_or_begin n) (reads_fixed of_filter (is_met_now n) (λ s. refl)) (answer_or_begin_sure n)

pub read_file_sure : (x1 : Handle) → (x2 : Span) → (x3 : ItemId) → (x4 : Bool) → IsSure of_filter (read_file x1 x2 x3 x4)
read_file_sure h asked item background = need_sure (read_need h asked item background)

pub read_item_sure : (x1 : Handle) → (x2 : Span) → (x3 : ItemId) → IsSure of_filter (read_item x1 x2 x3)
read_item_sure h asked item = sure_reading of_filter wants_rest (read_file h asked item) (reads_fixed of_filter wants_rest (λ s. refl)) (read_file_sure h asked item)

pub read_sure : (x1 : Handle) → (x2 : Span) → IsSure of_filter (read x1 x2)
read_sure h asked = on_handle_sure h (read_item h asked) (read_item_sure h asked)

pub get_item_sure : (x1 : Span) → (x2 : Item) → IsSure of_filter (get_item x1 x2)
get_item_sure asked i = need_sure (plain_need wait_kind.Read i.id asked)

pub get_sure : (x1 : List ℕ) → (x2 : Span) → IsSure of_filter (get x1 x2)
get_sure path asked = on_file_sure path (get_item asked) (get_item_sure asked)

pub list_item_sure : (x1 : Item) → IsSure of_filter (list_item x1)
list_item_sure i = sure_choose of_filter i.directory (need (plain_need wait_kind.List i.id no_span)) (refused code.NotDirectory) (need_sure (plain_need wait_kind.List i.id no_span)) (refused_sure code.NotDirectory)

pub list_sure : (x1 : List ℕ) → IsSure of_filter (list x1)
list_sure path = on_path_sure path list_item (list_item_sure)

pub hydrate_file_sure : (x1 : ItemId) → IsSure of_filter (hydrate_file x1)
hydrate_file_sure item = need_sure (plain_need wait_kind.Hydrate item no_span)

pub hydrate_item_sure : (x1 : Item) → IsSure of_filter (hydrate_item x1)
hydrate_item_sure i = sure_choose of_filter i.placeholder (hydrate_file i.id) (refused code.NotPlaceholder) (hydrate_file_sure i.id) (refused_sure code.NotPlaceholder)

pub hydrate_sure : (x1 : List ℕ) → IsSure of_filter (hydrate x1)
hydrate_sure path = on_file_sure path hydrate_item (hydrate_item_sure)

pub cancel_wait_sure : (x1 : WaitId) → (x2 : Option Wait) → IsSure of_filter (cancel_wait x1 x2)
cancel_wait_sure id None = refused_sure code.NoWait
cancel_wait_sure id (Some w) = sure_then of_filter (settle w.item (Cancels id)) done (settle_sure w.item (Cancels id)) (operations_sure.done_sure)

pub cancel_sure : (x1 : WaitId) → IsSure of_filter (cancel x1)
cancel_sure id = sure_reading of_filter (waiting_by id) (cancel_wait id) (reads_fixed of_filter (waiting_by id) (λ s. refl)) (cancel_wait_sure id)

pub end_handle_sure : (x1 : Handle) → (x2 : ItemId) → (x3 : Bool) → IsSure of_filter (end_handle x1 x2 x3)
end_handle_sure h item last = settle_sure item (Closes h last)

pub close_item_sure : (x1 : Handle) → (x2 : ItemId) → IsSure of_filter (close_item x1 x2)
close_item_sure h item = sure_then of_filter (noted (without_handle h)) (then_do (reading (is_last item) (end_handle h item)) done) (sure_noted of_filter (without_handle h) (plain_quiet of_filter (without_handle h) (λ s. refl) (λ s. refl) (λ s. refl) (λ s. refl) (λ s. refl) (λ s. refl))) (sure_then of_filter (reading (is_last item) (end_handle h item)) done (sure_reading of_filter (is_last item) (end_handle h item) (reads_fixed of_filter (is_last item) (λ s. refl)) (end_handle_sure h item)) (operations_sure.done_sure))

pub close_sure : (x1 : Handle) → IsSure of_filter (close x1)
close_sure h = on_handle_sure h (close_item h) (close_item_sure h)

pub expire_live_sure : (x1 : Key) → (x2 : Option Live) → IsSure of_filter (expire_live x1 x2)
expire_live_sure key None = sure_ret of_filter (record {})
expire_live_sure key (Some a) = settle_sure a.ask.item (Expires key)

pub expire_sure : (x1 : Key) → IsSure of_filter (expire x1)
expire_sure key = sure_reading of_filter (still_live key) (expire_live key) (reads_fixed of_filter (still_live key) (λ s. refl)) (expire_live_sure key)

pub tick_sure : (x1 : ℕ) → IsSure of_filter (tick x1)
tick_sure n = sure_then of_filter (noted (with_time n)) (then_do (reading expired_keys (each expire)) done) (sure_noted of_filter (with_time n) (plain_quiet of_filter (with_time n) (λ s. refl) (λ s. refl) (λ s. refl) (λ s. refl) (λ s. refl) (λ s. refl))) (sure_then of_filter (reading expired_keys (each expire)) done (sure_reading of_filter expired_keys (each expire) (reads_fixed of_filter expired_keys (λ s. refl)) (λ z1. sure_each of_filter expire z1 (expire_sure))) (operations_sure.done_sure))

pub connect_sure : (x1 : Bool) → IsSure of_filter (connect x1)
connect_sure true = sure_then of_filter (noted connected_again) done (sure_noted of_filter connected_again (plain_quiet of_filter connected_again (λ s. refl) (λ s. refl) (λ s. refl) (λ s. refl) (λ s. refl) (λ s. refl))) (operations_sure.done_sure)
connect_sure false = sure_then of_filter (noted disconnected) (then_do (reading all_down tell) done) (sure_noted of_filter disconnected (plain_quiet of_filter disconnected (λ s. refl) (λ s. refl) (λ s. refl) (λ s. refl) (λ s. refl) (λ s. refl))) (sure_then of_filter (reading all_down tell) done downs_sure (operations_sure.done_sure))
