-- What the parts of `Pushes` keep, each by what its own parts keep.
use Rattle.std.specs.Prelude.{Bool, true, false, not, List, [], map, Option, Some, None}
use Rattle.cf_base.specs.declared.answers.Shown.{Shown}
use Rattle.cf_base.specs.declared.answers.Shown.TheVariants as shown
use Rattle.cf_base.specs.declared.changes.Change.TheVariants as change
use Rattle.cf_base.specs.declared.codes.Code.TheVariants as code
use Rattle.cf_base.specs.declared.ids.ItemId.{ItemId}
use Rattle.cf_base.specs.declared.messages.Request.{Request}
use Rattle.cf_model.specs.Arrows.{and_then, choose, each, one, only_if, reading, unit}
use Rattle.cf_model.specs.Books.{Action, MakeDir, MoveItem, PutFile, QueueEntry, Tombstone, with_entry}
use Rattle.cf_model.specs.Callbacks.{calling}
use Rattle.cf_model.specs.Identities.{base_version, is_untargeted, no_identity, stands_at_seen}
use Rattle.cf_model.specs.Items.{Item, bytes_held, is_all_here, is_dirty}
use Rattle.cf_model.specs.LookUp.{by_depth}
use Rattle.cf_model.specs.Messages.{send}
use Rattle.cf_model.specs.PushReplies.{whatever}
use Rattle.cf_model.specs.Skips.{in_book, try_book, try_change, try_mark_now, with_volatile}
use Rattle.cf_model.specs.State.{State, book_now, items_now}
use Rattle.cf_model.specs.Waits.{hydrate_file}
use Rattle.cf_model.proofs.CallbacksKeep as callbacks_keep
use Rattle.cf_model.proofs.MessagesKeep as messages_keep
use Rattle.cf_model.proofs.PushRepliesKeep as push_replies_keep
use Rattle.cf_model.proofs.SkipsKeep as skips_keep
use Rattle.cf_model.proofs.WaitsKeep as waits_keep
use Rattle.cf_model.specs.Pushes.{after_hydrate, anchored, bury_unless, entry_by, hydrate_first, hydrate_if, hydrate_unless, is_hydrating, is_left_out, is_tombstone_left_out, item_now, mark_item, push, push_all, push_by_case, push_here, push_item, push_lists, push_removal, push_tombstone, push_turn, push_unless, put_file, put_if, put_whole, removal_entry, request_of, send_if, try_token, upload, upload_if, upload_new, upload_now, why_no_token, with_token}
use Rattle.cf_model.proofs.Closed.{Closed}
use Rattle.cf_model.proofs.ArrowLaws.{keeps_and_then, keeps_choose, keeps_each, keeps_one, keeps_only_if, keeps_reading, keeps_ret, keeps_seq, keeps_then}
use Rattle.cf_model.specs.Arrows.{Preserves}
use Rattle.cf_model.specs.State.{with_filter}

pub try_token_keeps : (P : State → Type 0) → Closed P → Preserves P (try_token)
try_token_keeps P closed = skips_keep.tried_keeps P closed why_no_token (one (with_volatile with_token)) (keeps_one P (with_volatile with_token) (closed.keeps_volatile_with_token))

pub send_if_keeps : (P : State → Type 0) → Closed P → (x1 : QueueEntry) → (x2 : Request) → (x3 : Bool) → Preserves P (send_if x1 x2 x3)
send_if_keeps P closed e q true = keeps_then P (in_book (anchored e)) (send q) (skips_keep.in_book_keeps P closed (anchored e)) (messages_keep.send_keeps P closed q)
send_if_keeps P closed e q false = keeps_ret P unit

pub push_keeps : (P : State → Type 0) → Closed P → (x1 : QueueEntry) → (x2 : Request) → Preserves P (push x1 x2)
push_keeps P closed e q = keeps_seq P (and_then try_token (try_book (with_entry e))) (send_if e q) (keeps_and_then P try_token (try_book (with_entry e)) (try_token_keeps P closed) (skips_keep.try_book_keeps P closed (with_entry e))) (send_if_keeps P closed e q)

pub push_item_keeps : (P : State → Type 0) → Closed P → (x1 : Action) → (x2 : Item) → Preserves P (push_item x1 x2)
push_item_keeps P closed action i = record { keeps = λ s i_. ((push_keeps P closed (entry_by action i s) (request_of (entry_by action i s) (base_version i) (bytes_held i.held)))).keeps s i_ }

pub after_hydrate_keeps : (P : State → Type 0) → Closed P → (x1 : Shown) → Preserves P (after_hydrate x1)
after_hydrate_keeps P closed (shown.Refused code.TooManyWaits) = skips_keep.skip_keeps P closed code.TooManyWaits
after_hydrate_keeps P closed (shown.Refused code.TooManyAsks) = skips_keep.skip_keeps P closed code.TooManyAsks
after_hydrate_keeps P closed (shown.Refused code.Exhausted) = skips_keep.skip_keeps P closed code.Exhausted
after_hydrate_keeps P closed _ = keeps_ret P unit

pub hydrate_unless_keeps : (P : State → Type 0) → Closed P → (x1 : ItemId) → (x2 : Bool) → Preserves P (hydrate_unless x1 x2)
hydrate_unless_keeps P closed item true = keeps_ret P unit
hydrate_unless_keeps P closed item false = keeps_seq P (calling (hydrate_file item)) after_hydrate (callbacks_keep.calling_keeps P closed (hydrate_file item) (λ t1 i2. (waits_keep.hydrate_file_keeps (λ x. P (with_filter x t1)) (closed.on_filter t1 i2) item))) (after_hydrate_keeps P closed)

pub hydrate_if_keeps : (P : State → Type 0) → Closed P → (x1 : ItemId) → (x2 : Bool) → Preserves P (hydrate_if x1 x2)
hydrate_if_keeps P closed item true = keeps_ret P unit
hydrate_if_keeps P closed item false = keeps_reading P (is_hydrating item) (hydrate_unless item) (hydrate_unless_keeps P closed item)

pub hydrate_first_keeps : (P : State → Type 0) → Closed P → (x1 : Item) → Preserves P (hydrate_first x1)
hydrate_first_keeps P closed i = hydrate_if_keeps P closed i.id (is_all_here i)

pub put_if_keeps : (P : State → Type 0) → Closed P → (x1 : Item) → (x2 : Bool) → Preserves P (put_if x1 x2)
put_if_keeps P closed i true = push_item_keeps P closed PutFile i
put_if_keeps P closed i false = keeps_ret P unit

pub put_whole_keeps : (P : State → Type 0) → Closed P → (x1 : Option Item) → Preserves P (put_whole x1)
put_whole_keeps P closed None = keeps_ret P unit
put_whole_keeps P closed (Some i) = put_if_keeps P closed i (is_all_here i)

pub put_file_keeps : (P : State → Type 0) → Closed P → (x1 : Item) → Preserves P (put_file x1)
put_file_keeps P closed i = keeps_then P (hydrate_first i) (reading (item_now i.id) put_whole) (hydrate_first_keeps P closed i) (keeps_reading P (item_now i.id) put_whole (put_whole_keeps P closed))

pub upload_keeps : (P : State → Type 0) → Closed P → (x1 : Item) → Preserves P (upload x1)
upload_keeps P closed i = keeps_choose P i.directory (push_item MakeDir i) (put_file i) (push_item_keeps P closed MakeDir i) (put_file_keeps P closed i)

pub upload_now_keeps : (P : State → Type 0) → Closed P → (x1 : Option Item) → Preserves P (upload_now x1)
upload_now_keeps P closed None = keeps_ret P unit
upload_now_keeps P closed (Some i) = upload_keeps P closed i

pub upload_if_keeps : (P : State → Type 0) → Closed P → (x1 : ItemId) → (x2 : Bool) → Preserves P (upload_if x1 x2)
upload_if_keeps P closed item true = keeps_reading P (item_now item) upload_now (upload_now_keeps P closed)
upload_if_keeps P closed item false = keeps_ret P unit

pub upload_new_keeps : (P : State → Type 0) → Closed P → (x1 : Item) → Preserves P (upload_new x1)
upload_new_keeps P closed i = keeps_seq P (only_if (not i.placeholder) (try_change (change.Convert i.id no_identity))) (upload_if i.id) (keeps_only_if P (not i.placeholder) (try_change (change.Convert i.id no_identity)) (skips_keep.try_change_keeps P closed (change.Convert i.id no_identity))) (upload_if_keeps P closed i.id)

pub mark_item_keeps : (P : State → Type 0) → Closed P → (x1 : ItemId) → Preserves P (mark_item x1)
mark_item_keeps P closed item = keeps_seq P (try_mark_now item) whatever (skips_keep.try_mark_now_keeps P closed item) (push_replies_keep.whatever_keeps P closed)

pub push_by_case_keeps : (P : State → Type 0) → Closed P → (x1 : Item) → Preserves P (push_by_case x1)
push_by_case_keeps P closed i = record { keeps = λ s i_. ((keeps_choose P (is_untargeted i) (upload_new i) (choose (not (stands_at_seen (items_now s) (book_now s) i)) (push_item MoveItem i) (choose (is_dirty i) (upload i) (mark_item i.id))) (upload_new_keeps P closed i) (keeps_choose P (not (stands_at_seen (items_now s) (book_now s) i)) (push_item MoveItem i) (choose (is_dirty i) (upload i) (mark_item i.id)) (push_item_keeps P closed MoveItem i) (keeps_choose P (is_dirty i) (upload i) (mark_item i.id) (upload_keeps P closed i) (mark_item_keeps P closed i.id))))).keeps s i_ }

pub push_unless_keeps : (P : State → Type 0) → Closed P → (x1 : Item) → (x2 : Bool) → Preserves P (push_unless x1 x2)
push_unless_keeps P closed i true = keeps_ret P unit
push_unless_keeps P closed i false = push_by_case_keeps P closed i

pub push_here_keeps : (P : State → Type 0) → Closed P → (x1 : Option Item) → Preserves P (push_here x1)
push_here_keeps P closed None = keeps_ret P unit
push_here_keeps P closed (Some i) = keeps_reading P (λ s. is_left_out s i) (push_unless i) (push_unless_keeps P closed i)

pub push_turn_keeps : (P : State → Type 0) → Closed P → (x1 : ItemId) → Preserves P (push_turn x1)
push_turn_keeps P closed item = keeps_reading P (item_now item) push_here (push_here_keeps P closed)

pub push_removal_keeps : (P : State → Type 0) → Closed P → (x1 : Tombstone) → Preserves P (push_removal x1)
push_removal_keeps P closed t = record { keeps = λ s i_. ((push_keeps P closed (removal_entry s t) (request_of (removal_entry s t) t.version []))).keeps s i_ }

pub bury_unless_keeps : (P : State → Type 0) → Closed P → (x1 : Tombstone) → (x2 : Bool) → Preserves P (bury_unless x1 x2)
bury_unless_keeps P closed t true = keeps_ret P unit
bury_unless_keeps P closed t false = push_removal_keeps P closed t

pub push_tombstone_keeps : (P : State → Type 0) → Closed P → (x1 : Tombstone) → Preserves P (push_tombstone x1)
push_tombstone_keeps P closed t = keeps_reading P (λ s. is_tombstone_left_out s t) (bury_unless t) (bury_unless_keeps P closed t)

pub push_lists_keeps : (P : State → Type 0) → Closed P → (x1 : List Tombstone) → (x2 : List ItemId) → Preserves P (push_lists x1 x2)
push_lists_keeps P closed ts ids = keeps_then P (each push_tombstone ts) (each push_turn ids) (keeps_each P push_tombstone ts (push_tombstone_keeps P closed)) (keeps_each P push_turn ids (push_turn_keeps P closed))

pub push_all_keeps : (P : State → Type 0) → Closed P → Preserves P (push_all)
push_all_keeps P closed = record { keeps = λ s i_. ((push_lists_keeps P closed ((book_now s).tombstones) (map (λ i. i.id) (by_depth (items_now s) (items_now s))))).keeps s i_ }
