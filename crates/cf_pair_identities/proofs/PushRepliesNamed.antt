-- The parts of `PushReplies` keep identities named.
use Rattle.std.proofs.Common.{◌≡◌, inr, refl, ap, ◌∙◌}
use Rattle.std.specs.Prelude.{Bool, true, false, Option, Some, None}
use Rattle.cf_base.specs.declared.codes.Code.{Code}
use Rattle.cf_base.specs.declared.codes.Code.TheVariants as code
use Rattle.cf_base.specs.declared.ids.Rid.{Rid}
use Rattle.cf_base.specs.declared.ids.Version.{Version}
use Rattle.cf_base.specs.declared.messages.Why.{Why}
use Rattle.cf_base.specs.declared.messages.Why.TheVariants as why
use Rattle.cf_model.specs.Arrows.{and_then, only_if, Preserves, reading, seq, then_do, unit}
use Rattle.cf_model.specs.Books.{Action, MakeDir, MoveItem, PutFile, QueueEntry, RemoveItem, with_cursor, with_tombstone, without_entry, without_tombstone}
use Rattle.cf_model.specs.Items.{Item, item_of}
use Rattle.cf_model.specs.PushReplies.{bury_new, by_why, cursor_reset_if, done_by, done_move, done_removal, done_upload, done_upload_on, drop_if, end_and_close, end_entry, end_tombstone, entry_seen, held_and_closed, is_new_entry, is_removal, item_of_entry, lost_place, move_away, name_taken, name_taken_again, name_taken_by, not_empty, not_empty_by, not_in_row, nothing_further, rebase_of, rebase_unless, reset_cursor, reset_if, see_and_mark, take, take_done, take_refused, take_void, taken_from_row, tombstone_left, was_directory, was_name_taken, was_not_empty, whatever, why_no_rebase, with_done, with_not_empty, with_taken_name}
use Rattle.cf_model.specs.Skips.{do_change, in_book, in_volatile, is_cursor, skip, to_conflict, try_book, try_mark, try_seen, with_volatile}
use Rattle.cf_model.specs.State.{items_now, State}
use Rattle.cf_model.specs.Trees.{Keeps}
use Rattle.cf_model.proofs.ArrowLaws.{keeps_and_then, keeps_noted, keeps_only_if, keeps_reading, keeps_ret, keeps_seq, keeps_then}
use Rattle.cf_model.proofs.TreeLaws.{keeps_bind}
use Rattle.cf_model_laws.proofs.FoundItems.{found_id}
use Rattle.cf_model_laws.proofs.SoundSettles.{same_item}
use Rattle.cf_pair_identities.specs.Named.{GivesOver, Named}
use Rattle.cf_pair_identities.proofs.NamedItems.{one_found}
use Rattle.cf_pair_identities.proofs.NamedSteps.{keeps_on}
use Rattle.cf_pair_identities.proofs.SkipsNamed as skips_named

pub end_entry_keeps : (full : Bool) → (x1 : QueueEntry) → Preserves (Named full) (end_entry x1)
end_entry_keeps full e = skips_named.in_book_keeps full (without_entry e.token)

pub end_and_close_keeps : (full : Bool) → (x1 : QueueEntry) → Preserves (Named full) (end_and_close x1)
end_and_close_keeps full e = keeps_then (Named full) (end_entry e) (in_volatile (taken_from_row e)) (end_entry_keeps full e) (keeps_noted (Named full) (with_volatile (taken_from_row e)) (λ s h. h))

pub take_keeps : (full : Bool) → (x1 : QueueEntry) → Preserves (Named full) (take x1)
take_keeps full e = record { keeps = λ s h. (end_and_close_keeps full e).keeps (with_done s) h }

pub whatever_keeps : (full : Bool) → (x1 : Bool) → Preserves (Named full) (whatever x1)
whatever_keeps full done = keeps_ret (Named full) unit

pub see_and_mark_keeps : (full : Bool) → (x1 : QueueEntry) → Preserves (Named full) (see_and_mark x1)
see_and_mark_keeps full e =
    keeps_seq (Named full) (and_then (only_if (is_new_entry e) (try_seen (entry_seen e))) (try_mark e.item e.number)) whatever
    (keeps_and_then (Named full) (only_if (is_new_entry e) (try_seen (entry_seen e))) (try_mark e.item e.number) (keeps_only_if (Named full) (is_new_entry e) (try_seen (entry_seen e)) (skips_named.try_seen_keeps full (entry_seen e))) (skips_named.try_mark_keeps full e.item e.number))
    (whatever_keeps full)

-- The identity is that of the item's kind, and the items stay until it is given.
abbrev StandsThere : Bool → Item → State → Type 0
StandsThere full i s = Named full s × (item_of (items_now s) i.id ≡ Some i)

as_its_kind : (full : Bool) (e : QueueEntry) (rid : Rid) (version : Version) (i : Item) (s : State) → StandsThere full i s → GivesOver full (items_now s) (rebase_of e rid version i)
as_its_kind full e rid version i s h = λ j there. inr (i.directory, rid, version, (λ d. ap (λ (k : Item). k.directory) (one_found (items_now s) i.id i j h.1 there) ∙ d), refl)

rebase_unless_at : (full : Bool) (e : QueueEntry) (rid : Rid) (version : Version) (i : Item) (o : Option Code) (s : State) → StandsThere full i s → Keeps (Named full) (rebase_unless e (rebase_of e rid version i) o s)
rebase_unless_at full e rid version i (Some code) s h = (skips_named.skip_keeps full code).keeps s h.0
rebase_unless_at full e rid version i None s h =
    keeps_on (StandsThere full i) (Named full) (take e s) (λ u t. then_do (do_change (rebase_of e rid version i)) (see_and_mark e) t) (λ t k. k.0) (h, h)
    (λ u t k. keeps_bind (Named full) (do_change (rebase_of e rid version i) t) (λ v r. see_and_mark e r) (skips_named.do_change_over full (rebase_of e rid version i) t (as_its_kind full e rid version i t k) k.0) (λ v r j. (see_and_mark_keeps full e).keeps r j))

pub bury_new_keeps : (full : Bool) → (x1 : QueueEntry) → (x2 : Rid) → (x3 : Version) → Preserves (Named full) (bury_new x1 x2 x3)
bury_new_keeps full e rid version =
    keeps_then (Named full) (take e) (seq (only_if (is_new_entry e) (try_book (with_tombstone (tombstone_left e rid version)))) whatever)
    (take_keeps full e)
    (keeps_seq (Named full) (only_if (is_new_entry e) (try_book (with_tombstone (tombstone_left e rid version)))) whatever (keeps_only_if (Named full) (is_new_entry e) (try_book (with_tombstone (tombstone_left e rid version))) (skips_named.try_book_keeps full (with_tombstone (tombstone_left e rid version)))) (whatever_keeps full))

pub done_upload_keeps : (full : Bool) → (x1 : QueueEntry) → (x2 : Rid) → (x3 : Version) → Preserves (Named full) (done_upload x1 x2 x3)
done_upload_keeps full e rid version = record { keeps = λ s h. by s h (item_of_entry e s) refl } where
  by : (s : State) → Named full s → (o : Option Item) → item_of_entry e s ≡ o → Keeps (Named full) (done_upload_on e rid version o s)
  by s h None q = (bury_new_keeps full e rid version).keeps s h
  by s h (Some i) q =
      let own : i.id ≡ e.item = same_item i.id e.item (found_id e.item (items_now s) i q) in
      rebase_unless_at full e rid version i (why_no_rebase e (rebase_of e rid version i) s) s (h, ap (item_of (items_now s)) own ∙ q)

pub done_move_keeps : (full : Bool) → (x1 : QueueEntry) → Preserves (Named full) (done_move x1)
done_move_keeps full e =
    keeps_then (Named full) (take e) (seq (and_then (try_seen (entry_seen e)) (try_mark e.item e.number)) whatever)
    (take_keeps full e)
    (keeps_seq (Named full) (and_then (try_seen (entry_seen e)) (try_mark e.item e.number)) whatever (keeps_and_then (Named full) (try_seen (entry_seen e)) (try_mark e.item e.number) (skips_named.try_seen_keeps full (entry_seen e)) (skips_named.try_mark_keeps full e.item e.number)) (whatever_keeps full))

pub cursor_reset_if_keeps : (full : Bool) → (x1 : Bool) → Preserves (Named full) (cursor_reset_if x1)
cursor_reset_if_keeps full true = keeps_ret (Named full) unit
cursor_reset_if_keeps full false = skips_named.in_book_keeps full (with_cursor 0)

pub reset_cursor_keeps : (full : Bool) → Preserves (Named full) (reset_cursor)
reset_cursor_keeps full = keeps_reading (Named full) (is_cursor 0) cursor_reset_if (cursor_reset_if_keeps full)

pub reset_if_keeps : (full : Bool) → (x1 : Bool) → Preserves (Named full) (reset_if x1)
reset_if_keeps full true = reset_cursor_keeps full
reset_if_keeps full false = keeps_ret (Named full) unit

pub end_tombstone_keeps : (full : Bool) → (x1 : QueueEntry) → (x2 : Bool) → Preserves (Named full) (end_tombstone x1 x2)
end_tombstone_keeps full e directory = keeps_then (Named full) (reset_if directory) (in_book (without_tombstone e.number)) (reset_if_keeps full directory) (skips_named.in_book_keeps full (without_tombstone e.number))

pub done_removal_keeps : (full : Bool) → (x1 : QueueEntry) → Preserves (Named full) (done_removal x1)
done_removal_keeps full e = keeps_then (Named full) (take e) (reading (was_directory e) (end_tombstone e)) (take_keeps full e) (keeps_reading (Named full) (was_directory e) (end_tombstone e) (end_tombstone_keeps full e))

pub done_by_keeps : (full : Bool) → (x1 : Action) → (x2 : QueueEntry) → (x3 : Rid) → (x4 : Version) → Preserves (Named full) (done_by x1 x2 x3 x4)
done_by_keeps full PutFile e rid version = done_upload_keeps full e rid version
done_by_keeps full MakeDir e rid version = done_upload_keeps full e rid version
done_by_keeps full MoveItem e rid version = done_move_keeps full e
done_by_keeps full RemoveItem e rid version = done_removal_keeps full e

pub take_done_keeps : (full : Bool) → (x1 : QueueEntry) → (x2 : Rid) → (x3 : Version) → Preserves (Named full) (take_done x1 x2 x3)
take_done_keeps full e rid version = done_by_keeps full e.action e rid version

pub take_void_keeps : (full : Bool) → (x1 : QueueEntry) → Preserves (Named full) (take_void x1)
take_void_keeps full e = end_and_close_keeps full e

pub drop_if_keeps : (full : Bool) → (x1 : Bool) → (x2 : QueueEntry) → Preserves (Named full) (drop_if x1 x2)
drop_if_keeps full true e = skips_named.in_book_keeps full (without_tombstone e.number)
drop_if_keeps full false e = keeps_ret (Named full) unit

pub lost_place_keeps : (full : Bool) → (x1 : QueueEntry) → Preserves (Named full) (lost_place x1)
lost_place_keeps full e =
    keeps_then (Named full) (in_volatile (not_in_row e)) (then_do reset_cursor (drop_if (is_removal e) e))
    (keeps_noted (Named full) (with_volatile (not_in_row e)) (λ s h. h))
    (keeps_then (Named full) reset_cursor (drop_if (is_removal e) e) (reset_cursor_keeps full) (drop_if_keeps full (is_removal e) e))

pub move_away_keeps : (full : Bool) → (x1 : Option Item) → Preserves (Named full) (move_away x1)
move_away_keeps full None = keeps_ret (Named full) unit
move_away_keeps full (Some i) = keeps_seq (Named full) (to_conflict i) whatever (skips_named.to_conflict_keeps full i) (whatever_keeps full)

pub name_taken_again_keeps : (full : Bool) → (x1 : QueueEntry) → Preserves (Named full) (name_taken_again x1)
name_taken_again_keeps full e =
    keeps_then (Named full) (in_volatile (not_in_row e)) (reading (item_of_entry e) move_away)
    (keeps_noted (Named full) (with_volatile (not_in_row e)) (λ s h. h))
    (keeps_reading (Named full) (item_of_entry e) move_away (move_away_keeps full))

pub name_taken_by_keeps : (full : Bool) → (x1 : QueueEntry) → (x2 : Bool) → Preserves (Named full) (name_taken_by x1 x2)
name_taken_by_keeps full e true = name_taken_again_keeps full e
name_taken_by_keeps full e false = keeps_noted (Named full) (with_volatile (with_taken_name e.item)) (λ s h. h)

pub not_empty_by_keeps : (full : Bool) → (x1 : QueueEntry) → (x2 : Bool) → Preserves (Named full) (not_empty_by x1 x2)
not_empty_by_keeps full e true = lost_place_keeps full e
not_empty_by_keeps full e false = keeps_noted (Named full) (with_volatile (with_not_empty e.number)) (λ s h. h)

pub nothing_further_keeps : (full : Bool) → (x1 : QueueEntry) → Preserves (Named full) (nothing_further x1)
nothing_further_keeps full e = keeps_noted (Named full) (with_volatile (not_in_row e)) (λ s h. h)

pub name_taken_keeps : (full : Bool) → (x1 : Bool) → (x2 : QueueEntry) → Preserves (Named full) (name_taken x1 x2)
name_taken_keeps full true e = nothing_further_keeps full e
name_taken_keeps full false e = keeps_reading (Named full) (was_name_taken e.item) (name_taken_by e) (name_taken_by_keeps full e)

pub not_empty_keeps : (full : Bool) → (x1 : Bool) → (x2 : QueueEntry) → Preserves (Named full) (not_empty x1 x2)
not_empty_keeps full true e = keeps_reading (Named full) (was_not_empty e.number) (not_empty_by e) (not_empty_by_keeps full e)
not_empty_keeps full false e = nothing_further_keeps full e

pub by_why_keeps : (full : Bool) → (x1 : Why) → (x2 : QueueEntry) → Preserves (Named full) (by_why x1 x2)
by_why_keeps full why.Conflict e = lost_place_keeps full e
by_why_keeps full why.NotThere e = lost_place_keeps full e
by_why_keeps full why.NameTaken e = name_taken_keeps full (is_removal e) e
by_why_keeps full why.NotEmpty e = not_empty_keeps full (is_removal e) e
by_why_keeps full why.Quota e = keeps_then (Named full) (nothing_further e) (skip code.Quota) (nothing_further_keeps full e) (skips_named.skip_keeps full code.Quota)
by_why_keeps full why.Loop e = nothing_further_keeps full e
by_why_keeps full why.BadName e = nothing_further_keeps full e
by_why_keeps full why.TooDeep e = nothing_further_keeps full e
by_why_keeps full why.TooLarge e = nothing_further_keeps full e

pub take_refused_keeps : (full : Bool) → (x1 : QueueEntry) → (x2 : Why) → Preserves (Named full) (take_refused x1 x2)
take_refused_keeps full e w =
    keeps_then (Named full) (end_entry e) (then_do (in_volatile (held_and_closed e)) (by_why w e))
    (end_entry_keeps full e)
    (keeps_then (Named full) (in_volatile (held_and_closed e)) (by_why w e) (keeps_noted (Named full) (with_volatile (held_and_closed e)) (λ s h. h)) (by_why_keeps full w e))
