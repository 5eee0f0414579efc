-- Facts on a filter that the lines of an event may bear on: what keeps them, and that each accepted change has its line.
use Rattle.std.proofs.Common.{◌≡◌, ◌⊎◌, Bool, true, false, List, [], ◌∷◌, ◌++◌, refl, sym, ◌∙◌, ap, subst, inl, inr, if◌then◌else◌}
use Rattle.std.specs.Prelude.{None, map}
use Rattle.std.proofs.lemmas.List.{append_assoc, append-nil}
use Rattle.cf_base.specs.declared.answers.Shown.TheVariants as shown
use Rattle.cf_base.specs.declared.changes.Change.{Change}
use Rattle.cf_base.specs.declared.ids.ItemId.{ItemId}
use Rattle.cf_base.specs.declared.ids.Usn.{Usn}
use Rattle.cf_base.specs.declared.ids.WaitId.{WaitId}
use Rattle.cf_base.specs.declared.notices.Notice.{Notice}
use Rattle.cf_base.specs.declared.notices.Notice.TheVariants as notice
use Rattle.cf_base.specs.declared.waits.Ask.{Ask}
use Rattle.cf_base.specs.declared.waits.Cause.{Cause}
use Rattle.cf_base.specs.declared.waits.Cause.TheVariants as cause
use Rattle.cf_base.specs.declared.waits.End.{End}
use Rattle.cf_model.specs.Arrows.{each, noted}
use Rattle.cf_model.specs.Books.{Book}
use Rattle.cf_model.specs.Changes.{change_with, next_number, put_with_book}
use Rattle.cf_model.specs.Missing.{Wait}
use Rattle.cf_model.specs.Points.{with_room_point}
use Rattle.cf_model.specs.Requests.{Told, Waiting}
use Rattle.cf_model.specs.Settling.{accessed, ask_line, cancel_line, end_of, end_wait, is_access, is_own, tell, tell_end, told_at, with_asks_told, with_ended, with_waiting}
use Rattle.cf_model.specs.State.{Filter, Volume, with_notes, with_volume}
use Rattle.cf_model.specs.Trees.{Keeps, Ret}
use Rattle.cf_model.specs.Waits.{Need, all_down, background_line, begun, beside, own_id, with_own}
use Rattle.cf_model.proofs.ArrowLaws.{keeps_each, keeps_one, keeps_then}
use Rattle.cf_model.proofs.Closed.{ClosedFilter}
use Rattle.cf_model.proofs.TreeLaws.{keeps_bind}
use Rattle.cf_model_laws.proofs.Leading.{kept_leads}
use Rattle.cf_model_laws.proofs.SoundFilters.{change_leads}
use Rattle.cf_model_headline.specs.Reads.{data_shown}
use Rattle.cf_model_headline.specs.Reports.{change_in, changes_in}

-- what keeps a fact on the filter within an event: each part of a call, the lines of the link and of steps left out, and what
-- happens to callbacks and book
pub record Noticed (Q : Filter → Type 0) : Type 0 where
  pub closed : ClosedFilter Q
  pub notes : (n : Notice) (x : Filter) → change_in n ≡ [] → data_shown n ≡ None → Q x → Q (with_notes (n ∷ []) x)
  pub boxes : (asks : List Ask) (x : Filter) → Q x → Q (record x { outbox = asks })
  pub books : (b : Book) (x : Filter) → Q x → Q (with_volume (record x.volume { book = b }) x)

-- the changes in more lines

pub changes_more : (ns ms : List Notice) → changes_in (ns ++ ms) ≡ changes_in ns ++ changes_in ms
changes_more [] ms = refl
changes_more (n ∷ ns) ms = ap (λ (cs : List (Usn × Change)). change_in n ++ cs) (changes_more ns ms) ∙ sym (append_assoc (change_in n) (changes_in ns) (changes_in ms))

pub none_in : {X : Type 0} (f : X → Notice) → ((x : X) → change_in (f x) ≡ []) → (xs : List X) → changes_in (map f xs) ≡ []
none_in f h [] = refl
none_in f h (x ∷ xs) = ap (λ (cs : List (Usn × Change)). cs ++ changes_in (map f xs)) (h x) ∙ none_in f h xs

-- The log is these changes and those that the lines of the event show.
abbrev pub Shows : List (Usn × Change) → Filter → Type 0
Shows base x = x.volume.log ≡ base ++ changes_in x.notes

-- lines without a change
pub shows_more : (base : List (Usn × Change)) (ns : List Notice) (x : Filter) → changes_in ns ≡ [] → Shows base x → Shows base (with_notes ns x)
shows_more base ns x none h = h ∙ ap (λ (cs : List (Usn × Change)). base ++ cs) (sym (changes_more x.notes ns ∙ ap (λ (cs : List (Usn × Change)). changes_in x.notes ++ cs) none ∙ append-nil (changes_in x.notes)))

-- a change with its line
shows_change : (base : List (Usn × Change)) (f : Book → Book) (c : Change) (x : Filter) → Shows base x → Keeps (Shows base) (change_with f c x)
shows_change base f c x h = kept_leads (Shows base) (change_with f c x) (change_leads (Shows base) (Shows base) f c x h h h (λ v is. by v is)) where
  more : (log : List (Usn × Change)) (n : Usn) → log ≡ base ++ changes_in x.notes → log ++ (n, c) ∷ [] ≡ base ++ changes_in (x.notes ++ notice.Change n c ∷ [])
  more log n e =
      ap (λ (cs : List (Usn × Change)). cs ++ (n, c) ∷ []) e ∙ append_assoc base (changes_in x.notes) ((n, c) ∷ [])
      ∙ ap (λ (cs : List (Usn × Change)). base ++ cs) (sym (changes_more x.notes (notice.Change n c ∷ [])))

  by : (v : Volume) → (v ≡ x.volume) ⊎ (v ≡ with_room_point x.volume) → Shows base (with_notes (notice.Change (next_number v) c ∷ []) (with_volume (put_with_book f c v) x))
  by v (inl e) = subst (λ (w : Volume). Shows base (with_notes (notice.Change (next_number w) c ∷ []) (with_volume (put_with_book f c w) x))) (sym e) (more x.volume.log (next_number x.volume) h)
  by v (inr e) = subst (λ (w : Volume). Shows base (with_notes (notice.Change (next_number w) c ∷ []) (with_volume (put_with_book f c w) x))) (sym e) (more x.volume.log (next_number x.volume) h)

-- what is told after a step

shows_end : (base : List (Usn × Change)) (id : WaitId) (e : End) (own : Bool) (x : Filter) → Shows base x → Shows base (tell_end id e own x)
shows_end base id e true x h = h
shows_end base id e false x h = shows_more base (notice.Done id e ∷ []) x refl h

shows_access : (base : List (Usn × Change)) (item : ItemId) (is : Bool) (x : Filter) → Shows base x → Shows base (if is then accessed item x else x)
shows_access base item true x h = h
shows_access base item false x h = h

shows_ended : (base : List (Usn × Change)) (e : Wait × Cause) (x : Filter) → Shows base x → Shows base (with_ended e x)
shows_ended base e x h =
    shows_access base e.0.item (is_access e.0.kind e.1) (tell_end e.0.id (end_of x.volume.items e.0 e.1) (is_own e.0.id x) x)
    (shows_end base e.0.id (end_of x.volume.items e.0 e.1) (is_own e.0.id x) x h)

shows_asks : (base : List (Usn × Change)) (t : Told) (x : Filter) → Shows base x → Shows base (with_asks_told t x)
shows_asks base t x h =
    shows_more base (map ask_line t.made) (with_notes (map cancel_line t.cancelled) x) (none_in ask_line (λ a. refl) t.made)
    (shows_more base (map cancel_line t.cancelled) x (none_in cancel_line (λ k. refl) t.cancelled) h)

shows_told : (base : List (Usn × Change)) (r : Told × Waiting) (x : Filter) → Shows base x → Keeps (Shows base) (tell r x)
shows_told base r x h =
    (keeps_then (Shows base) (each end_wait r.0.ended) (noted (with_asks_told r.0))
    (keeps_each (Shows base) end_wait r.0.ended (λ e. keeps_one (Shows base) (with_ended e) (shows_ended base e))) (record { keeps = λ y j. shows_asks base r.0 y j })).keeps (with_waiting r.1 x) h

shows_begun : (base : List (Usn × Change)) (n : Need) (x : Filter) → Shows base x → Keeps (λ t. Shows base t) (tell (begun n x) (with_own n x))
shows_begun base n x h = shows_told base (begun n x) (with_own n x) (shows_more base (map background_line (beside n x)) x (none_in background_line (λ w. refl) (beside n x)) h)

pub changes_shown : (base : List (Usn × Change)) → Noticed (Shows base)
changes_shown base = record {
  closed = record {
    change = λ f c. record { keeps = λ x h. shows_change base f c x h };
    commits = record { keeps = λ x h. (h, h) };
    settled = λ item d. record { keeps = λ x h. shows_told base (told_at item d x) x h };
    begins = λ n. record { keeps = λ x h. keeps_bind (Shows base) (tell (begun n x) (with_own n x)) (λ _ t. Ret (shown.Pending (own_id n x)) t) (shows_begun base n x h) (λ a t j. j) };
    downs = record { keeps = λ x h. shows_told base (all_down x) x h };
    keeps_accessed = λ item x h. h;
    keeps_accessed_now = λ n x h. shows_access base n.item (is_access n.kind cause.Met) x h;
    keeps_as_it_is = λ x h. h;
    keeps_begin_call = λ x h. h;
    keeps_connected_again = λ x h. h;
    keeps_disconnected = λ x h. h;
    keeps_with_handle = λ item x h. h;
    keeps_with_policy = λ p x h. h;
    keeps_with_time = λ n x h. h;
    keeps_without_handle = λ handle x h. h;
  };
  notes = λ n x none plain h. shows_more base (n ∷ []) x (ap (λ (cs : List (Usn × Change)). cs ++ []) none) h;
  boxes = λ asks x h. h;
  books = λ b x h. h;
}
