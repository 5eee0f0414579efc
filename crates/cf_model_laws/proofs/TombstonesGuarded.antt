-- What the ends of uploads keep in `replay`, and the tombstones that come and go with them.
use Rattle.std.proofs.Common.{◌≡◌, ◌⊎◌, ◌≤◌, ◌+◌, ℕ, Bool, true, false, ◌∷◌, refl, ◌∙◌, inl, inr, arith}
use Rattle.std.specs.Prelude.{Some, None, cond}
use Rattle.std.proofs.lemmas.Bool.{eqb-true}
use Rattle.cf_base.specs.declared.codes.Code.{Code}
use Rattle.cf_base.specs.declared.ids.Rid.{Rid}
use Rattle.cf_base.specs.declared.ids.Version.{Version}
use Rattle.cf_model.specs.Arrows.{Arrow, Preserves, only_if}
use Rattle.cf_model.specs.Books.{Book, MakeDir, PutFile, QueueEntry, RemoveItem, entry_of, with_cursor, with_tombstone, without_entry, without_tombstone}
use Rattle.cf_model.specs.Changes.{change as put}
use Rattle.cf_model.specs.Items.{item_of}
use Rattle.cf_model.specs.PushReplies.{bury_new, cursor_reset_if, done_removal, drop_if, end_and_close, end_entry, end_tombstone, held_back, is_new_entry, is_removal, lost_place, not_in_row, reset_cursor, round_closed, taken_from_row, tombstone_left, was_directory, whatever, with_done, without_item, without_number}
use Rattle.cf_model.specs.Skips.{in_book, in_volatile, is_cursor, skip_line, try_book, why_no_record, with_book, with_volatile}
use Rattle.cf_model.specs.State.{Filter, State, Volatile, book_now, items_now, with_filter}
use Rattle.cf_model.specs.Store.{RecordedDone, recorded_at}
use Rattle.cf_model.specs.Trees.{Asked, Fork, Keeps, Ret, Step, Tree, bind, mapped}
use Rattle.cf_model.proofs.ArrowLaws.{keeps_noted, keeps_one, keeps_then}
use Rattle.cf_model.proofs.TreeLaws.{keeps_bind}
use Rattle.cf_model_laws.specs.Premises.{IsFair}
use Rattle.cf_model_laws.proofs.Guarded.{Guarded, IsDoneAt, IsTakenBy}
use Rattle.cf_model_laws.proofs.SkipsGuarded.{Framing, Unnamed, Whichever, cursor_stays, guarded_skipping, leaves_early, tried_at}

pub end_entry_keeps : (P : State → Type 0) → Guarded P → (e : QueueEntry) → Preserves P (end_entry e)
end_entry_keeps P closed e = keeps_one P (with_book (without_entry e.token)) (λ s h. closed.leaves e.token s h)

pub end_and_close_keeps : (P : State → Type 0) → Guarded P → (x1 : QueueEntry) → Preserves P (end_and_close x1)
end_and_close_keeps P closed e = keeps_then P (end_entry e) (in_volatile (taken_from_row e)) (end_entry_keeps P closed e) (keeps_noted P (with_volatile (taken_from_row e)) (closed.keeps_volatile_taken_from_row e))

-- What a Done tells: its entry is live, and the remote has recorded the version.
abbrev pub DoneIn : State → QueueEntry → Rid → Version → Type 0
DoneIn s e rid version = (entry_of (book_now s) e.token ≡ Some e) × (recorded_at s.link.remote.tokens e.token ≡ Some (RecordedDone rid version)) × ((e.action ≡ PutFile) ⊎ (e.action ≡ MakeDir) → rid.0 ≡ 1 → ⊥)

-- once a reply was taken the round is closed

abbrev pub IsShut : State → Type 0
IsShut s = s.volatile.round_open ≡ false

pub shut_frame : Framing Whichever IsShut
shut_frame = record { change = λ c s ok fit h. stays (put c s.filter) s h; books = λ f s keeps cursor h. h; skips = λ c s h. line s.running.shows_skips c (record s { running = record s.running { skips = s.running.skips + 1 } }) h } where
  stays : (p : Tree Filter (Unit {0})) (s : State) → IsShut s → Keeps IsShut (mapped (λ x. with_filter x s) p)
  stays (Ret a x) s h = h
  stays (Step x p) s h = (h, stays p s h)
  stays (Fork p q) s h = (stays p s h, stays q s h)
  stays (Asked k) s h = λ x. stays (k x) s h

  line : (b : Bool) (c : Code) (s : State) → IsShut s → IsShut (skip_line b c s)
  line true c s h = h
  line false c s h = h

pub row_open : (e : QueueEntry) (v : Volatile) → (not_in_row e v).round_open ≡ v.round_open
row_open e v = by (is_removal e) where
  by : (b : Bool) → (cond b (record v { not_empty = without_number e.number v.not_empty }) (record v { taken_names = without_item e.item v.taken_names })).round_open ≡ v.round_open
  by true = refl
  by false = refl

pub back_open : (e : QueueEntry) (v : Volatile) → (held_back e v).round_open ≡ v.round_open
back_open e v = by (is_removal e) where
  by : (b : Bool) → (cond b (record v { held_tombstones = e.number ∷ v.held_tombstones }) (record v { held_items = e.item ∷ v.held_items })).round_open ≡ v.round_open
  by true = refl
  by false = refl

-- an upload that was done leaves

module _ (P : State → Type 0) (closed : Guarded P) (e : QueueEntry) (s : State) (h : P s) where
  abbrev Taken : State
  Taken = with_volatile (taken_from_row e) (with_book (without_entry e.token) (with_done s))

  one : P (with_done s)
  one = closed.keeps_with_done s h

  two : P Taken
  two = closed.keeps_volatile_taken_from_row e (with_book (without_entry e.token) (with_done s)) (closed.leaves e.token (with_done s) one)

  taken_by : entry_of (book_now s) e.token ≡ Some e → IsTakenBy P e Taken
  taken_by live = (s, h, live, refl, refl, refl, refl)

  -- of a new item that is gone a tombstone is left
  pub bury_new_at : (rid : Rid) (version : Version) → item_of (items_now s) e.item ≡ None → (IsFair s.link → DoneIn s e rid version) → Keeps P (bury_new e rid version s)
  bury_new_at rid version none done = (one, keeps_bind P (only_if (is_new_entry e) (try_book f) Taken) whatever (by (is_new_entry e) refl) (λ b t j. j)) where
    f : Book → Book
    f = with_tombstone (tombstone_left e rid version)

    by : (b : Bool) → is_new_entry e ≡ b → Keeps P (only_if b (try_book f) Taken)
    by false q = two
    by true q = tried_at Unnamed P (guarded_skipping P closed) (why_no_record f) (in_book f) Taken two
        (two, closed.books f Taken (λ b. refl) (λ fair. leaves_early f Taken (λ b. refl) (cursor_stays f Taken (λ b. refl))) (λ fair. inl ((λ b. refl), (λ b. refl), inr (inl (e, taken_by (done fair).0, q, none, rid, version, (done fair).1, λ b. refl)))) two)

-- once the round is closed the cursor may go back, and a tombstone may go

module _ (P : State → Type 0) (closed : Guarded P) where
  reset_then : (s : State) (g : Arrow State (Unit {0})) → IsShut s → P s → ((t : State) → P t → IsShut t → (book_now t).cursor ≡ 0 → Keeps P (g t)) → Keeps P (bind (reset_cursor s) (λ _ t. g t))
  reset_then s g shut h k = by (is_cursor 0 s) refl where
    none : (n : ℕ) → 0 ≤ n
    none n = omega arith

    by : (b : Bool) → is_cursor 0 s ≡ b → Keeps P (bind (cursor_reset_if b s) (λ _ t. g t))
    by true q = k s h shut (eqb-true (book_now s).cursor 0 q)
    by false q =
        (h, k (with_book (with_cursor 0) s) (closed.books (with_cursor 0) s (λ b. refl) (λ fair. leaves_early (with_cursor 0) s (λ b. refl) (inl (none (book_now s).cursor))) (λ fair. inr (inr (inl ((λ b. refl), shut)))) h) shut refl)

  abbrev Why : QueueEntry → State → Type 0
  Why e s = ((book_now s).cursor ≡ 0) ⊎ ((d : QueueEntry) × IsTakenBy P d s × (d.action ≡ RemoveItem) × (d.number ≡ e.number) × (rid : Rid) × (version : Version) × IsDoneAt s d rid version × (was_directory d s ≡ false))

  unbury_at : (e : QueueEntry) (s : State) → IsShut s → (IsFair s.link → Why e s) → P s → Keeps P (in_book (without_tombstone e.number) s)
  unbury_at e s shut why h =
      let f : Book → Book = without_tombstone e.number in
      (h, closed.books f s (λ b. refl) (λ fair. leaves_early f s (λ b. refl) (cursor_stays f s (λ b. refl))) (λ fair. inl ((λ b. refl), (λ b. refl), inr (inr (e.number, (λ b. refl), shut, why fair)))) h)

  end_tombstone_at : (e : QueueEntry) (directory : Bool) (s : State) → IsShut s → (directory ≡ false → IsFair s.link → Why e s) → P s → Keeps P (end_tombstone e directory s)
  end_tombstone_at e true s shut why h = reset_then s (in_book (without_tombstone e.number)) shut h (λ t j closed zero. unbury_at e t closed (λ fair. inl zero) j)
  end_tombstone_at e false s shut why h = unbury_at e s shut (why refl) h

  pub done_removal_at : (e : QueueEntry) (rid : Rid) (version : Version) (s : State) → e.action ≡ RemoveItem → (IsFair s.link → DoneIn s e rid version) → P s → Keeps P (done_removal e s)
  done_removal_at e rid version s is done h = (one P closed e s h, end_tombstone_at e (was_directory e taken) taken (row_open e (round_closed s.volatile)) (λ q fair. inr (e, taken_by P closed e s h (done fair).0, is, refl, rid, version, (done fair).1, q)) (two P closed e s h)) where
    taken : State
    taken = with_volatile (taken_from_row e) (with_book (without_entry e.token) (with_done s))

  drop_if_at : (b : Bool) (e : QueueEntry) (s : State) → IsShut s → (book_now s).cursor ≡ 0 → P s → Keeps P (drop_if b e s)
  drop_if_at true e s shut zero h = unbury_at e s shut (λ fair. inl zero) h
  drop_if_at false e s shut zero h = h

  pub lost_place_at : (e : QueueEntry) (s : State) → IsShut s → P s → Keeps P (lost_place e s)
  lost_place_at e s shut h =
      reset_then (with_volatile (not_in_row e) s) (drop_if (is_removal e) e) (row_open e s.volatile ∙ shut) (closed.keeps_volatile_not_in_row e s h) (λ t j shut zero. drop_if_at (is_removal e) e t shut zero j)
