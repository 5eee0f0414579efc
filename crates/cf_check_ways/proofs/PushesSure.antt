-- The parts of `Pushes` are sure, each by its own parts.
use Rattle.std.proofs.Common.{◌≡◌, refl}
use Rattle.std.specs.Prelude.{Bool, true, false, not, List, [], map, Option, Some, None}
use Rattle.cf_base.specs.declared.answers.Shown.{Shown}
use Rattle.cf_base.specs.declared.answers.Shown.TheVariants as shown
use Rattle.cf_base.specs.declared.changes.Change.TheVariants as change
use Rattle.cf_base.specs.declared.codes.Code.TheVariants as code
use Rattle.cf_base.specs.declared.ids.ItemId.{ItemId}
use Rattle.cf_base.specs.declared.messages.Request.{Request}
use Rattle.cf_model.specs.Arrows.{and_then, choose, each, one, only_if, reading, unit}
use Rattle.cf_model.specs.Books.{Action, MakeDir, MoveItem, PutFile, QueueEntry, RemoveItem, Tombstone, with_entry}
use Rattle.cf_model.specs.Callbacks.{calling}
use Rattle.cf_model.specs.Identities.{base_version, is_untargeted, no_identity, stands_at_seen}
use Rattle.cf_model.specs.Items.{Item, bytes_held, is_all_here, is_dirty}
use Rattle.cf_model.specs.LookUp.{by_depth}
use Rattle.cf_model.specs.Messages.{send}
use Rattle.cf_model.specs.PushReplies.{whatever}
use Rattle.cf_model.specs.Skips.{in_book, try_book, try_change, try_mark_now, with_volatile}
use Rattle.cf_model.specs.State.{State, book_now, items_now}
use Rattle.cf_model.specs.Waits.{hydrate_file}
use Rattle.cf_model.specs.Pushes.{after_hydrate, anchored, bury_unless, entry_by, hydrate_first, hydrate_if, hydrate_unless, is_hydrating, is_left_out, is_tombstone_left_out, item_now, mark_item, push, push_all, push_by_case, push_here, push_item, push_lists, push_removal, push_tombstone, push_turn, push_unless, put_file, put_if, put_whole, removal_entry, request_of, send_if, try_token, upload, upload_if, upload_new, upload_now, why_no_token, with_token}
use Rattle.cf_check_ways.specs.Ways.{IsSure, fixed_state, of_state}
use Rattle.cf_check_ways.proofs.Sure.{reads_fixed, sure_and_then, sure_at, sure_choose, sure_each, sure_fixed, sure_one, sure_only_if, sure_reading, sure_ret, sure_seq, sure_then}
use Rattle.cf_check_ways.proofs.StateSteps.{volatile_plain}
use Rattle.cf_check_ways.proofs.CallbacksSure as callbacks_sure
use Rattle.cf_check_ways.proofs.MessagesSure as messages_sure
use Rattle.cf_check_ways.proofs.PushRepliesSure as push_replies_sure
use Rattle.cf_check_ways.proofs.SkipsSure as skips_sure
use Rattle.cf_check_ways.proofs.WaitsSure as waits_sure

pub try_token_sure : IsSure of_state (try_token)
try_token_sure = skips_sure.tried_sure why_no_token (one (with_volatile with_token)) (reads_fixed of_state why_no_token (λ s. refl)) (sure_one of_state (with_volatile with_token) (volatile_plain with_token))

pub send_if_sure : (x1 : QueueEntry) → (x2 : Request) → (x3 : Bool) → IsSure of_state (send_if x1 x2 x3)
send_if_sure e q true = sure_then of_state (in_book (anchored e)) (send q) (skips_sure.in_book_sure (anchored e)) (messages_sure.send_sure q)
send_if_sure e q false = sure_ret of_state unit

pub push_sure : (x1 : QueueEntry) → (x2 : Request) → IsSure of_state (push x1 x2)
push_sure e q = sure_seq of_state (and_then try_token (try_book (with_entry e))) (send_if e q) (sure_and_then of_state try_token (try_book (with_entry e)) (try_token_sure) (skips_sure.try_book_sure (with_entry e))) (send_if_sure e q)

same_entry : (action : Action) (i : Item) (s : State) → entry_by action i s ≡ entry_by action i (fixed_state s)
same_entry PutFile i s = refl
same_entry MakeDir i s = refl
same_entry MoveItem i s = refl
same_entry RemoveItem i s = refl

pub push_item_sure : (action : Action) → (i : Item) → IsSure of_state (push_item action i)
push_item_sure action i =
    sure_at of_state (push_item action i) (entry_by action i) (λ e. push e (request_of e (base_version i) (bytes_held i.held))) (λ s. refl) (reads_fixed of_state (entry_by action i) (same_entry action i))
    (λ e. push_sure e (request_of e (base_version i) (bytes_held i.held)))

pub after_hydrate_sure : (x1 : Shown) → IsSure of_state (after_hydrate x1)
after_hydrate_sure (shown.Refused code.TooManyWaits) = skips_sure.skip_sure code.TooManyWaits
after_hydrate_sure (shown.Refused code.TooManyAsks) = skips_sure.skip_sure code.TooManyAsks
after_hydrate_sure (shown.Refused code.Exhausted) = skips_sure.skip_sure code.Exhausted
after_hydrate_sure _ = sure_ret of_state unit

pub hydrate_unless_sure : (x1 : ItemId) → (x2 : Bool) → IsSure of_state (hydrate_unless x1 x2)
hydrate_unless_sure item true = sure_ret of_state unit
hydrate_unless_sure item false = sure_seq of_state (calling (hydrate_file item)) after_hydrate (callbacks_sure.calling_sure (hydrate_file item) (waits_sure.hydrate_file_sure item)) (after_hydrate_sure)

pub hydrate_if_sure : (x1 : ItemId) → (x2 : Bool) → IsSure of_state (hydrate_if x1 x2)
hydrate_if_sure item true = sure_ret of_state unit
hydrate_if_sure item false = sure_reading of_state (is_hydrating item) (hydrate_unless item) (reads_fixed of_state (is_hydrating item) (λ s. refl)) (hydrate_unless_sure item)

pub hydrate_first_sure : (x1 : Item) → IsSure of_state (hydrate_first x1)
hydrate_first_sure i = hydrate_if_sure i.id (is_all_here i)

pub put_if_sure : (x1 : Item) → (x2 : Bool) → IsSure of_state (put_if x1 x2)
put_if_sure i true = push_item_sure PutFile i
put_if_sure i false = sure_ret of_state unit

pub put_whole_sure : (x1 : Option Item) → IsSure of_state (put_whole x1)
put_whole_sure None = sure_ret of_state unit
put_whole_sure (Some i) = put_if_sure i (is_all_here i)

pub put_file_sure : (x1 : Item) → IsSure of_state (put_file x1)
put_file_sure i = sure_then of_state (hydrate_first i) (reading (item_now i.id) put_whole) (hydrate_first_sure i) (sure_reading of_state (item_now i.id) put_whole (reads_fixed of_state (item_now i.id) (λ s. refl)) (put_whole_sure))

pub upload_sure : (x1 : Item) → IsSure of_state (upload x1)
upload_sure i = sure_choose of_state i.directory (push_item MakeDir i) (put_file i) (push_item_sure MakeDir i) (put_file_sure i)

pub upload_now_sure : (x1 : Option Item) → IsSure of_state (upload_now x1)
upload_now_sure None = sure_ret of_state unit
upload_now_sure (Some i) = upload_sure i

pub upload_if_sure : (x1 : ItemId) → (x2 : Bool) → IsSure of_state (upload_if x1 x2)
upload_if_sure item true = sure_reading of_state (item_now item) upload_now (reads_fixed of_state (item_now item) (λ s. refl)) (upload_now_sure)
upload_if_sure item false = sure_ret of_state unit

pub upload_new_sure : (x1 : Item) → IsSure of_state (upload_new x1)
upload_new_sure i = sure_seq of_state (only_if (not i.placeholder) (try_change (change.Convert i.id no_identity))) (upload_if i.id) (sure_only_if of_state (not i.placeholder) (try_change (change.Convert i.id no_identity)) (skips_sure.try_change_sure (change.Convert i.id no_identity))) (upload_if_sure i.id)

pub mark_item_sure : (x1 : ItemId) → IsSure of_state (mark_item x1)
mark_item_sure item = sure_seq of_state (try_mark_now item) whatever (skips_sure.try_mark_now_sure item) (push_replies_sure.whatever_sure)

pub push_by_case_sure : (x1 : Item) → IsSure of_state (push_by_case x1)
push_by_case_sure i = sure_fixed of_state (push_by_case i) (λ x. choose (is_untargeted i) (upload_new i) (choose (not (stands_at_seen (items_now x) (book_now x) i)) (push_item MoveItem i) (choose (is_dirty i) (upload i) (mark_item i.id)))) (λ s. refl) (λ x. sure_choose of_state (is_untargeted i) (upload_new i) (choose (not (stands_at_seen (items_now x) (book_now x) i)) (push_item MoveItem i) (choose (is_dirty i) (upload i) (mark_item i.id))) (upload_new_sure i) (sure_choose of_state (not (stands_at_seen (items_now x) (book_now x) i)) (push_item MoveItem i) (choose (is_dirty i) (upload i) (mark_item i.id)) (push_item_sure MoveItem i) (sure_choose of_state (is_dirty i) (upload i) (mark_item i.id) (upload_sure i) (mark_item_sure i.id))))

pub push_unless_sure : (x1 : Item) → (x2 : Bool) → IsSure of_state (push_unless x1 x2)
push_unless_sure i true = sure_ret of_state unit
push_unless_sure i false = push_by_case_sure i

pub push_here_sure : (x1 : Option Item) → IsSure of_state (push_here x1)
push_here_sure None = sure_ret of_state unit
push_here_sure (Some i) = sure_reading of_state (λ s. is_left_out s i) (push_unless i) (reads_fixed of_state (λ s. is_left_out s i) (λ s. refl)) (push_unless_sure i)

pub push_turn_sure : (x1 : ItemId) → IsSure of_state (push_turn x1)
push_turn_sure item = sure_reading of_state (item_now item) push_here (reads_fixed of_state (item_now item) (λ s. refl)) (push_here_sure)

pub push_removal_sure : (x1 : Tombstone) → IsSure of_state (push_removal x1)
push_removal_sure t = sure_fixed of_state (push_removal t) (λ x. push (removal_entry x t) (request_of (removal_entry x t) t.version [])) (λ s. refl) (λ x. push_sure (removal_entry x t) (request_of (removal_entry x t) t.version []))

pub bury_unless_sure : (x1 : Tombstone) → (x2 : Bool) → IsSure of_state (bury_unless x1 x2)
bury_unless_sure t true = sure_ret of_state unit
bury_unless_sure t false = push_removal_sure t

pub push_tombstone_sure : (x1 : Tombstone) → IsSure of_state (push_tombstone x1)
push_tombstone_sure t = sure_reading of_state (λ s. is_tombstone_left_out s t) (bury_unless t) (reads_fixed of_state (λ s. is_tombstone_left_out s t) (λ s. refl)) (bury_unless_sure t)

pub push_lists_sure : (x1 : List Tombstone) → (x2 : List ItemId) → IsSure of_state (push_lists x1 x2)
push_lists_sure ts ids = sure_then of_state (each push_tombstone ts) (each push_turn ids) (sure_each of_state push_tombstone ts (push_tombstone_sure)) (sure_each of_state push_turn ids (push_turn_sure))

pub push_all_sure : IsSure of_state (push_all)
push_all_sure = sure_fixed of_state push_all (λ x. push_lists ((book_now x).tombstones) (map (λ i. i.id) (by_depth (items_now x) (items_now x)))) (λ s. refl) (λ x. push_lists_sure ((book_now x).tombstones) (map (λ i. i.id) (by_depth (items_now x) (items_now x))))
