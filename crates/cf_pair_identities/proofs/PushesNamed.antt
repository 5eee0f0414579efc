-- The parts of `Pushes` keep identities named.
use Rattle.std.proofs.Common.{refl}
use Rattle.std.specs.Prelude.{Bool, true, false, not, List, [], map, Option, Some, None}
use Rattle.cf_base.specs.declared.answers.Shown.{Shown}
use Rattle.cf_base.specs.declared.answers.Shown.TheVariants as shown
use Rattle.cf_base.specs.declared.changes.Change.TheVariants as change
use Rattle.cf_base.specs.declared.codes.Code.TheVariants as code
use Rattle.cf_base.specs.declared.ids.ItemId.{ItemId}
use Rattle.cf_base.specs.declared.messages.Request.{Request}
use Rattle.cf_model.specs.Arrows.{and_then, choose, each, one, only_if, Preserves, reading, unit}
use Rattle.cf_model.specs.Books.{Action, MakeDir, MoveItem, PutFile, QueueEntry, Tombstone, with_entry}
use Rattle.cf_model.specs.Callbacks.{calling}
use Rattle.cf_model.specs.Identities.{base_version, is_untargeted, no_identity, stands_at_seen}
use Rattle.cf_model.specs.Items.{bytes_held, is_all_here, is_dirty, Item}
use Rattle.cf_model.specs.LookUp.{by_depth}
use Rattle.cf_model.specs.Messages.{send}
use Rattle.cf_model.specs.PushReplies.{whatever}
use Rattle.cf_model.specs.Pushes.{after_hydrate, anchored, bury_unless, entry_by, hydrate_first, hydrate_if, hydrate_unless, is_hydrating, is_left_out, is_tombstone_left_out, item_now, mark_item, push, push_all, push_by_case, push_here, push_item, push_lists, push_removal, push_tombstone, push_turn, push_unless, put_file, put_if, put_whole, removal_entry, request_of, send_if, try_token, upload, upload_if, upload_new, upload_now, why_no_token, with_token}
use Rattle.cf_model.specs.Skips.{in_book, try_book, try_change, try_mark_now, with_volatile}
use Rattle.cf_model.specs.State.{book_now, items_now}
use Rattle.cf_model.specs.Waits.{hydrate_file}
use Rattle.cf_model.proofs.ArrowLaws.{keeps_and_then, keeps_choose, keeps_each, keeps_one, keeps_only_if, keeps_reading, keeps_ret, keeps_seq, keeps_then}
use Rattle.cf_pair_identities.specs.Named.{Named}
use Rattle.cf_pair_identities.proofs.CallbacksNamed as callbacks_named
use Rattle.cf_pair_identities.proofs.MessagesNamed as messages_named
use Rattle.cf_pair_identities.proofs.PushRepliesNamed as push_replies_named
use Rattle.cf_pair_identities.proofs.SkipsNamed as skips_named
use Rattle.cf_pair_identities.proofs.WaitsNamed as waits_named

pub try_token_keeps : (full : Bool) → Preserves (Named full) (try_token)
try_token_keeps full = skips_named.tried_keeps full why_no_token (one (with_volatile with_token)) (keeps_one (Named full) (with_volatile with_token) (λ s h. h))

pub send_if_keeps : (full : Bool) → (x1 : QueueEntry) → (x2 : Request) → (x3 : Bool) → Preserves (Named full) (send_if x1 x2 x3)
send_if_keeps full e q true = keeps_then (Named full) (in_book (anchored e)) (send q) (skips_named.in_book_keeps full (anchored e)) (messages_named.send_keeps full q)
send_if_keeps full e q false = keeps_ret (Named full) unit

pub push_keeps : (full : Bool) → (x1 : QueueEntry) → (x2 : Request) → Preserves (Named full) (push x1 x2)
push_keeps full e q =
    keeps_seq (Named full) (and_then try_token (try_book (with_entry e))) (send_if e q)
    (keeps_and_then (Named full) try_token (try_book (with_entry e)) (try_token_keeps full) (skips_named.try_book_keeps full (with_entry e)))
    (send_if_keeps full e q)

pub push_item_keeps : (full : Bool) → (x1 : Action) → (x2 : Item) → Preserves (Named full) (push_item x1 x2)
push_item_keeps full action i = record { keeps = λ s h. (push_keeps full (entry_by action i s) (request_of (entry_by action i s) (base_version i) (bytes_held i.held))).keeps s h }

pub after_hydrate_keeps : (full : Bool) → (x1 : Shown) → Preserves (Named full) (after_hydrate x1)
after_hydrate_keeps full (shown.Refused code.TooManyWaits) = skips_named.skip_keeps full code.TooManyWaits
after_hydrate_keeps full (shown.Refused code.TooManyAsks) = skips_named.skip_keeps full code.TooManyAsks
after_hydrate_keeps full (shown.Refused code.Exhausted) = skips_named.skip_keeps full code.Exhausted
after_hydrate_keeps full _ = keeps_ret (Named full) unit

pub hydrate_unless_keeps : (full : Bool) → (x1 : ItemId) → (x2 : Bool) → Preserves (Named full) (hydrate_unless x1 x2)
hydrate_unless_keeps full item true = keeps_ret (Named full) unit
hydrate_unless_keeps full item false =
    keeps_seq (Named full) (calling (hydrate_file item)) after_hydrate
    (callbacks_named.calling_keeps full (hydrate_file item) (waits_named.hydrate_file_keeps full item))
    (after_hydrate_keeps full)

pub hydrate_if_keeps : (full : Bool) → (x1 : ItemId) → (x2 : Bool) → Preserves (Named full) (hydrate_if x1 x2)
hydrate_if_keeps full item true = keeps_ret (Named full) unit
hydrate_if_keeps full item false = keeps_reading (Named full) (is_hydrating item) (hydrate_unless item) (hydrate_unless_keeps full item)

pub hydrate_first_keeps : (full : Bool) → (x1 : Item) → Preserves (Named full) (hydrate_first x1)
hydrate_first_keeps full i = hydrate_if_keeps full i.id (is_all_here i)

pub put_if_keeps : (full : Bool) → (x1 : Item) → (x2 : Bool) → Preserves (Named full) (put_if x1 x2)
put_if_keeps full i true = push_item_keeps full PutFile i
put_if_keeps full i false = keeps_ret (Named full) unit

pub put_whole_keeps : (full : Bool) → (x1 : Option Item) → Preserves (Named full) (put_whole x1)
put_whole_keeps full None = keeps_ret (Named full) unit
put_whole_keeps full (Some i) = put_if_keeps full i (is_all_here i)

pub put_file_keeps : (full : Bool) → (x1 : Item) → Preserves (Named full) (put_file x1)
put_file_keeps full i = keeps_then (Named full) (hydrate_first i) (reading (item_now i.id) put_whole) (hydrate_first_keeps full i) (keeps_reading (Named full) (item_now i.id) put_whole (put_whole_keeps full))

pub upload_keeps : (full : Bool) → (x1 : Item) → Preserves (Named full) (upload x1)
upload_keeps full i = keeps_choose (Named full) i.directory (push_item MakeDir i) (put_file i) (push_item_keeps full MakeDir i) (put_file_keeps full i)

pub upload_now_keeps : (full : Bool) → (x1 : Option Item) → Preserves (Named full) (upload_now x1)
upload_now_keeps full None = keeps_ret (Named full) unit
upload_now_keeps full (Some i) = upload_keeps full i

pub upload_if_keeps : (full : Bool) → (x1 : ItemId) → (x2 : Bool) → Preserves (Named full) (upload_if x1 x2)
upload_if_keeps full item true = keeps_reading (Named full) (item_now item) upload_now (upload_now_keeps full)
upload_if_keeps full item false = keeps_ret (Named full) unit

pub upload_new_keeps : (full : Bool) → (x1 : Item) → Preserves (Named full) (upload_new x1)
upload_new_keeps full i =
    keeps_seq (Named full) (only_if (not i.placeholder) (try_change (change.Convert i.id no_identity))) (upload_if i.id)
    (keeps_only_if (Named full) (not i.placeholder) (try_change (change.Convert i.id no_identity)) (skips_named.try_change_keeps full (change.Convert i.id no_identity) refl))
    (upload_if_keeps full i.id)

pub mark_item_keeps : (full : Bool) → (x1 : ItemId) → Preserves (Named full) (mark_item x1)
mark_item_keeps full item = keeps_seq (Named full) (try_mark_now item) whatever (skips_named.try_mark_now_keeps full item) (push_replies_named.whatever_keeps full)

pub push_by_case_keeps : (full : Bool) → (x1 : Item) → Preserves (Named full) (push_by_case x1)
push_by_case_keeps full i = record { keeps = λ s h. (keeps_choose (Named full) (is_untargeted i) (upload_new i) (choose (not (stands_at_seen (items_now s) (book_now s) i)) (push_item MoveItem i) (choose (is_dirty i) (upload i) (mark_item i.id))) (upload_new_keeps full i) (keeps_choose (Named full) (not (stands_at_seen (items_now s) (book_now s) i)) (push_item MoveItem i) (choose (is_dirty i) (upload i) (mark_item i.id)) (push_item_keeps full MoveItem i) (keeps_choose (Named full) (is_dirty i) (upload i) (mark_item i.id) (upload_keeps full i) (mark_item_keeps full i.id)))).keeps s h }

pub push_unless_keeps : (full : Bool) → (x1 : Item) → (x2 : Bool) → Preserves (Named full) (push_unless x1 x2)
push_unless_keeps full i true = keeps_ret (Named full) unit
push_unless_keeps full i false = push_by_case_keeps full i

pub push_here_keeps : (full : Bool) → (x1 : Option Item) → Preserves (Named full) (push_here x1)
push_here_keeps full None = keeps_ret (Named full) unit
push_here_keeps full (Some i) = keeps_reading (Named full) (λ s. is_left_out s i) (push_unless i) (push_unless_keeps full i)

pub push_turn_keeps : (full : Bool) → (x1 : ItemId) → Preserves (Named full) (push_turn x1)
push_turn_keeps full item = keeps_reading (Named full) (item_now item) push_here (push_here_keeps full)

pub push_removal_keeps : (full : Bool) → (x1 : Tombstone) → Preserves (Named full) (push_removal x1)
push_removal_keeps full t = record { keeps = λ s h. (push_keeps full (removal_entry s t) (request_of (removal_entry s t) t.version [])).keeps s h }

pub bury_unless_keeps : (full : Bool) → (x1 : Tombstone) → (x2 : Bool) → Preserves (Named full) (bury_unless x1 x2)
bury_unless_keeps full t true = keeps_ret (Named full) unit
bury_unless_keeps full t false = push_removal_keeps full t

pub push_tombstone_keeps : (full : Bool) → (x1 : Tombstone) → Preserves (Named full) (push_tombstone x1)
push_tombstone_keeps full t = keeps_reading (Named full) (λ s. is_tombstone_left_out s t) (bury_unless t) (bury_unless_keeps full t)

pub push_lists_keeps : (full : Bool) → (x1 : List Tombstone) → (x2 : List ItemId) → Preserves (Named full) (push_lists x1 x2)
push_lists_keeps full ts ids =
    keeps_then (Named full) (each push_tombstone ts) (each push_turn ids)
    (keeps_each (Named full) push_tombstone ts (push_tombstone_keeps full))
    (keeps_each (Named full) push_turn ids (push_turn_keeps full))

pub push_all_keeps : (full : Bool) → Preserves (Named full) (push_all)
push_all_keeps full = record { keeps = λ s h. (push_lists_keeps full ((book_now s).tombstones) (map (λ i. i.id) (by_depth (items_now s) (items_now s)))).keeps s h }
