-- Uploads of removals.
use Rattle.std.proofs.Common.{◌≡◌, ◌==◌, Bool, true, false, not, List, [], sym, ◌∙◌, ap, subst, ℕ}
use Rattle.std.specs.Prelude.{◌||◌, Result, Ok, Option, Some, None}
use Rattle.cf_base.specs.declared.codes.CallError.{CallError}
use Rattle.cf_base.specs.declared.codes.Code.TheVariants as code
use Rattle.cf_base.specs.declared.ids.Token.{Token}
use Rattle.cf_engine_queue.specs.Books.{entry_value}
use Rattle.cf_engine_steps.specs.Answering.{Answers, Any, Reads, Whole}
use Rattle.cf_engine_steps.specs.BookReads.{has_target_entry_in, tombstone_in}
use Rattle.cf_engine_steps.specs.Readings.{token_left}
use Rattle.cf_engine_steps.specs.States.{Own, whole}
use Rattle.cf_engine_steps.proofs.Laws.{reads_on, returned}
use Rattle.cf_engine_uploads.proofs.Pushed.{no_token, none_left, token_is}
use Rattle.cf_engine_uploads.proofs.Trees.{same_at}
use Rattle.cf_engine_uploads.specs.Removals.{DraftsRemoval, IsTombstoneLeftOut}
use Rattle.cf_engine_uploads.specs.declared.entries.Draft.{Draft}
use Rattle.cf_filter_steps.specs.Answering as steps
use Rattle.cf_model.specs.Arrows.{unit}
use Rattle.cf_model.specs.Books.{Tombstone, tombstone_of}
use Rattle.cf_model.specs.PushReplies.{has_number}
use Rattle.cf_model.specs.Pushes.{bury_unless, has_rid_entry, is_tombstone_left_out, push, push_removal, push_tombstone, removal_entry, request_of}
use Rattle.cf_model.specs.Skips.{skip}
use Rattle.cf_model.specs.State.{book_now}
use Rattle.cf_model.specs.Words.{says}
use Rattle.cf_remote.specs.Told.{Told}

pub tombstone_left_out : {X R : Type 0} (S : steps.Sense X) (told : R → Told) (x : X) (e : Own R) (t : Tombstone) (found : Option Tombstone) (b there sent held : Bool) → b ≡ (not there || sent || held) → steps.Reads S steps.Any (tombstone_in t.number) x found → there ≡ says (λ u. u.rid.0 == t.rid.0) found
    → steps.Reads S steps.Any (has_target_entry_in t.rid) x sent → held ≡ has_number e.volatile.held_tombstones t.number → IsTombstoneLeftOut (whole S told) t (x, e) b
tombstone_left_out S told x e t found b there sent held is reads is_there on_way kept = record {
  is = λ s m.
      let there_is : there ≡ says (λ (u : Tombstone). u.rid.0 == t.rid.0) (tombstone_of (book_now s) t.number) = is_there ∙ ap (says (λ (u : Tombstone). u.rid.0 == t.rid.0)) (reads.is s.filter m.filter (record {})) in
      let sent_is : sent ≡ has_rid_entry s t = on_way.is s.filter m.filter (record {}) in
      let held_is : held ≡ has_number s.volatile.held_tombstones t.number = kept ∙ (λ j. has_number (m.volatile j).held_tombstones t.number) in
      is ∙ (λ j. not (there_is j) || sent_is j || held_is j);
}

module _ {X R : Type 0} (S : steps.Sense X) (told : R → Told) (x y : X) (e f : Own R) (o : Option Token) (t : Tombstone) (r : Result (Unit {0}) CallError) (reads : Reads (whole S told) Any token_left (x, e) o) where
  pub removal_none : o ≡ None → Answers (whole S told) Any (skip code.Exhausted) (x, e) r (y, f) → Answers (whole S told) Any (push_removal t) (x, e) r (y, f)
  removal_none is h = record {
    leads = λ s m p. (none_left (whole S told) (removal_entry s t) (request_of (removal_entry s t) t.version []) (x, e) (y, f) r h).leads s m (no_token (whole S told) (x, e) o reads s m is);
  }

  pub removal_by : (token : Token) (d : Draft) (bytes : List ℕ) → o ≡ Some token → DraftsRemoval token t d → Answers (whole S told) Any (push (entry_value d.entry) (request_of (entry_value d.entry) d.expect bytes)) (x, e) r (y, f) → Answers (whole S told) Any (push_removal t) (x, e) r (y, f)
  removal_by token d bytes is drafts h = same_at (whole S told) (x, e) r (y, f) Any (push (entry_value d.entry) (request_of (entry_value d.entry) d.expect bytes)) (push_removal t)
      (λ s m p. let i = token_is (whole S told) (x, e) o reads s m token is in λ j. push (drafts.entry s i.1 j) (request_of (drafts.entry s i.1 j) (drafts.expect j) bytes) s) h

module _ {X : Type 0} (W : Whole X) (x : X) (t : Tombstone) (b : Bool) (left : IsTombstoneLeftOut W t x b) where
  reads_left : Reads W Any (λ s. is_tombstone_left_out s t) x b
  reads_left = record { is = λ s m p. left.is s m }

  pub not_buried : b ≡ true → Answers W Any (push_tombstone t) x (Ok unit) x
  not_buried is = reads_on W Any (λ s. is_tombstone_left_out s t) (bury_unless t) x x b (Ok unit) reads_left (subst (λ (c : Bool). Answers W Any (bury_unless t c) x (Ok unit) x) (sym is) (returned W Any unit x))

  pub buries : (y : X) (r : Result (Unit {0}) CallError) → b ≡ false → Answers W Any (push_removal t) x r y → Answers W Any (push_tombstone t) x r y
  buries y r is h = reads_on W Any (λ s. is_tombstone_left_out s t) (bury_unless t) x y b r reads_left (subst (λ (c : Bool). Answers W Any (bury_unless t c) x r y) (sym is) h)
