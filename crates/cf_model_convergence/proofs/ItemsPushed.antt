-- Each upload of a pass is reported.
use Rattle.cf_model_laws.proofs.SoundStates.{sound_enters_any}
use Rattle.std.proofs.Common.{◌≡◌, Bool, true, false, [], refl}
use Rattle.std.specs.Prelude.{Option, Some, None, cond}
use Rattle.cf_model.specs.Books.{Action, MakeDir, MoveItem, PutFile, RemoveItem, Tombstone}
use Rattle.cf_model.specs.Identities.{base_version, is_untargeted}
use Rattle.cf_model.specs.Items.{Item, bytes_held}
use Rattle.cf_model.specs.Messages.{no_number}
use Rattle.cf_model.specs.Pushes.{next_token, placed, push, push_item, push_removal, removal_entry, request_of, without_place, without_rid}
use Rattle.cf_model.specs.State.{State, book_now}
use Rattle.cf_model.specs.Store.{Recorded, recorded_at}
use Rattle.cf_model.specs.Trees.{Keeps, Ends}
use Rattle.cf_model_laws.specs.Invariant.{Invariant}
use Rattle.cf_model_laws.specs.Premises.{IsFair}
use Rattle.cf_model_laws.proofs.ContentLaws.{sound_whole}
use Rattle.cf_model_laws.proofs.PushesGuarded.{lone, push_dir_at, push_move_at, push_put_at, push_removal_at}
use Rattle.cf_model_laws.proofs.UploadsGuarded.{unrecorded}
use Rattle.cf_model_convergence.specs.Telling.{IsListening, IsPushable, IsTold}
use Rattle.cf_model_convergence.proofs.PushesTold.{push_told}

-- a fresh token has no record
pub fresh_token : (s : State) → Invariant s → IsFair s.link → recorded_at s.link.remote.tokens (next_token s) ≡ None
fresh_token s h fair = by (recorded_at s.link.remote.tokens (next_token s)) refl where
  by : (o : Option Recorded) → recorded_at s.link.remote.tokens (next_token s) ≡ o → o ≡ None
  by None q = refl
  by (Some d) q = absurd (unrecorded s.filter.volume.epoch s.volatile.tokens s.link.remote.tokens d (h.1 fair).recorded q)

pub item_told : (a : Action) (i : Item) (s : State) (u : Unit {0}) (t : State) → Invariant s → IsFair s.link → IsListening s → IsPushable a s i → Ends (push_item a i s) u t → no_number t ≡ false → IsTold s t
item_told PutFile i s u t h fair listening ok ends left = by (is_untargeted i) (push_put_at Invariant sound_whole.closed sound_whole.entering.uploads i s ok.0 (λ f. lone (book_now s).entries i.id ok.1) (λ f. (ok.2, ok.3)) ok.4 h) ends where
  by : (b : Bool)
      → Keeps Invariant (push (cond b (placed PutFile i s) (without_place (placed PutFile i s))) (request_of (cond b (placed PutFile i s) (without_place (placed PutFile i s))) (base_version i) (bytes_held i.held)) s)
      → Ends (push (cond b (placed PutFile i s) (without_place (placed PutFile i s))) (request_of (cond b (placed PutFile i s) (without_place (placed PutFile i s))) (base_version i) (bytes_held i.held)) s) u t → IsTold s t
  by true k e = push_told PutFile (placed PutFile i s) (base_version i) (bytes_held i.held) s u t listening (fresh_token s h fair) k e left
  by false k e = push_told PutFile (without_place (placed PutFile i s)) (base_version i) (bytes_held i.held) s u t listening (fresh_token s h fair) k e left
item_told MakeDir i s u t h fair listening ok ends left =
    push_told MakeDir (without_rid (placed MakeDir i s)) (base_version i) (bytes_held i.held) s u t listening (fresh_token s h fair) (push_dir_at (λ x y. Unit {0}) Invariant sound_whole.closed sound_enters_any i s ok.0 (λ f. lone (book_now s).entries i.id ok.1) ok.2 (λ f. tt) h) ends left
item_told MoveItem i s u t h fair listening ok ends left =
    push_told MoveItem (placed MoveItem i s) (base_version i) (bytes_held i.held) s u t listening (fresh_token s h fair) (push_move_at Invariant sound_whole.closed sound_whole.entering.uploads i s ok.0 (λ f. lone (book_now s).entries i.id ok.1) ok.2 h) ends left
item_told RemoveItem i s u t h fair listening ok ends left = absurd ok

pub removal_told : (x : Tombstone) (s : State) (u : Unit {0}) (t : State) → Invariant s → IsFair s.link → IsListening s → Ends (push_removal x s) u t → no_number t ≡ false → IsTold s t
removal_told x s u t h fair listening ends left =
    push_told RemoveItem (removal_entry s x) x.version [] s u t listening (fresh_token s h fair) (push_removal_at (λ x y. Unit {0}) Invariant sound_whole.closed sound_enters_any x s (λ f. tt) h) ends left
