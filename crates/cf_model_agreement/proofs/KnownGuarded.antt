-- What is known of the remote in each state of a run in `replay`, and at each point that a restart may open.
use Rattle.std.proofs.Common.{◌≡◌, ℕ, Bool, true, List, [], ◌∷◌, refl, sym, ◌∙◌, subst, inl, inr, take}
use Rattle.std.specs.Prelude.{Some}
use Rattle.cf_base.specs.declared.answers.Answer.{Answer}
use Rattle.cf_base.specs.declared.events.Event.{Event}
use Rattle.cf_base.specs.declared.ids.Rid.{Rid}
use Rattle.cf_base.specs.declared.ids.Version.{Version}
use Rattle.cf_base.specs.declared.messages.Entry.{Entry}
use Rattle.cf_base.specs.declared.messages.Request.{Request}
use Rattle.cf_base.specs.declared.policies.Mode.TheVariants as mode
use Rattle.cf_model.specs.Books.{Action, Book, MakeDir, MoveItem, QueueEntry, entry_of, no_book, with_seen, without_entry}
use Rattle.cf_model.specs.Changes.{next_number}
use Rattle.cf_model.specs.Identities.{target_of}
use Rattle.cf_model.specs.Items.{root}
use Rattle.cf_model.specs.Lawful.{Runs}
use Rattle.cf_model.specs.Logs.{items_of, next_of}
use Rattle.cf_model.specs.Numbers.{same_key}
use Rattle.cf_model.specs.PushReplies.{entry_seen}
use Rattle.cf_model.specs.Soundness.{Each}
use Rattle.cf_model.specs.State.{Link, Point, State, book_now, items_now, start, with_filter}
use Rattle.cf_model.specs.Store.{Held, RecordedDone, recorded_at, remote_step}
use Rattle.cf_model_laws.specs.Invariant.{All, IsPointRight, IsRight, IsSound, NamesTarget}
use Rattle.cf_model_laws.specs.Premises.{IsFair, IsFresh}
use Rattle.cf_model_laws.specs.Taken.{Since, Known}
use Rattle.cf_model_laws.proofs.EventsGuarded.{Whole, runs_keep}
use Rattle.cf_model_laws.proofs.Gathered.{all_both, all_found, all_weaker, each_weaker}
use Rattle.cf_model_laws.proofs.Guarded.{AskedIn, IsMovedBy, IsRecordBy}
use Rattle.cf_model_laws.proofs.SinceKept.{change_told}
use Rattle.cf_model_laws.proofs.SoundChanges.{KeepsEntries}
use Rattle.cf_model_convergence.specs.Lasting.{AreTargetsAlone, AtPoint, HoldsIn, IsBaseEarly, IsCursorEarly, LastsIn}
use Rattle.cf_model_convergence.specs.Agreeing.{IsKeptUp}
use Rattle.cf_model_convergence.specs.Passed.{ArePassedRight, AreTargetsLower}
use Rattle.cf_model_convergence.specs.Tidy.{IsTidy}
use Rattle.cf_model_convergence.proofs.LastingGuarded.{LastingOver, start_lasts, whole_over}
use Rattle.cf_model_convergence.proofs.PassedSteps.{passed_now}
use Rattle.cf_model_convergence.proofs.RightTargets.{base_early}
use Rattle.cf_model_agreement.specs.Known.{AreDoneLate, AreKnown}
use Rattle.cf_model_agreement.specs.Messages.{IsLate}
use Rattle.cf_model_agreement.proofs.CursorsRaised.{IsApartIn, IsKnownIn, apart_whole, told, turned}
use Rattle.cf_model_agreement.proofs.EntriesHeard.{IsEntryRight, heard_right}
use Rattle.cf_model_agreement.proofs.KnownFacts.{asked_known, change_known, done_fewer, entered_known, left_known, lower_of, passed_same, removed_known, reset_known, seen_known}
use Rattle.cf_model_agreement.proofs.KnownSteps.{raised_turned}
use Rattle.cf_model_agreement.proofs.RunsTrue.{below_of, early_of, start_true}

-- an entry that counted since is right
pub entry_right : (l : Link) → IsFair l → (late : Bool) (cursor : ℕ) (e : Entry) → Since IsKnownIn l late cursor e → IsEntryRight l.remote late cursor e
entry_right l fair late cursor e k =
    let s = k.0 in
    let same : l ≡ s.link = k.3 in
    let now : IsFair s.link = subst IsFair same fair in
    subst (λ (y : Link). IsEntryRight y.remote late cursor e) (sym same)
    (subst (λ (n : ℕ). IsEntryRight s.link.remote late n e) (sym k.4) (heard_right s k.1.0.0 ((k.1.1 now).0.1) now late e k.2))

lower_now : (s : State) → IsSound s.link s.volatile.tokens s.filter → AreTargetsLower (items_now s)
lower_now s sound = lower_of s.link.remote _ (items_now s) sound.now.right

-- a record of the book
record_known : (f : Book → Book) (s : State) → KeepsEntries f → IsFair s.link → IsRecordBy IsKnownIn f s → IsSound s.link s.volatile.tokens s.filter → IsApartIn s → AreKnown s.link.remote (items_now s) (book_now s) → AreKnown s.link.remote (items_now s) (f (book_now s))
record_known f s keeps fair known sound h k = by known where
  r : Held
  r = s.link.remote

  b : Book
  b = book_now s

  by : IsRecordBy IsKnownIn f s → AreKnown r (items_now s) (f b)
  by (inl z) = (passed_same r (items_now s) b (f b) (z.1 b) (z.0 b) k.0, done_fewer r (items_now s) (items_now s) b (f b) (z.1 b) (keeps b) k.1)
  by (inr (inl (p, is, seen))) =
      subst (AreKnown r (items_now s)) (sym (is b)) (seen_known r (items_now s) b p seen.0 (entry_right s.link fair true b.cursor seen.0 seen.1) seen.2 sound.counted k.0, done_fewer r (items_now s) (items_now s) b (with_seen p b) refl refl k.1)
  by (inr (inr (inl z))) = subst (AreKnown r (items_now s)) (sym (z.0 b)) (reset_known r (items_now s) b ((h.0.1 fair).0) (lower_now s sound) k)
  by (inr (inr (inr (clock, is, fed)))) =
      subst (AreKnown r (items_now s)) (sym (is b)) (
        raised_turned r b (items_now s) clock fed.entries sound.counted (lower_now s sound) (all_weaker (IsRight r _) (IsBaseEarly r) (base_early r _) (items_now s) sound.now.right) (told clock s fed fair) (turned clock s fed fair) k.0,
        subst (All (λ e. (rid : Rid) (version : Version) → recorded_at r.tokens e.token ≡ Some (RecordedDone rid version) → IsLate r clock rid)) (sym fed.none) tt,
      )

-- a Done of a Move
moved_known : (e : QueueEntry) (s : State) → e.action ≡ MoveItem → entry_of (book_now s) e.token ≡ Some e → IsFair s.link → IsMovedBy IsKnownIn e s → IsSound s.link s.volatile.tokens s.filter → AreKnown s.link.remote (items_now s) (book_now s)
    → AreKnown s.link.remote (items_now s) (with_seen (entry_seen e) (without_entry e.token (book_now s)))
moved_known e s move live fair known sound k = (
  seen_known r (items_now s) (without_entry e.token b) (entry_seen e) known.0 (entry_right s.link fair true b.cursor known.0 known.1)
      (each_weaker e.item (λ i. (target_of i).0 ≡ e.rid.0) (λ i. (i.id.0 ≡ 1 → ⊥) → (target_of i).0 ≡ known.0.rid.0) (λ i z below. z ∙ sym known.2) (items_now s) target) sound.counted left.0,
  done_fewer r (items_now s) (items_now s) (without_entry e.token b) (with_seen (entry_seen e) (without_entry e.token b)) refl refl left.1,
) where
  r : Held
  r = s.link.remote

  b : Book
  b = book_now s

  left : AreKnown r (items_now s) (without_entry e.token b)
  left = left_known r (items_now s) b e.token k

  no_make : (a : Action) → a ≡ MoveItem → a ≡ MakeDir → ⊥
  no_make a x y = cc

  target : Each e.item (λ i. (target_of i).0 ≡ e.rid.0) (items_now s)
  target = (all_found (NamesTarget (items_now s)) (λ d. same_key d.token.0 e.token.0) b.entries e live sound.now.targets).0 (no_make e.action move)

-- the remote is asked
remote_known : (s : State) (q : Request) → IsFair s.link → IsSound s.link s.volatile.tokens s.filter → AskedIn s q → IsApartIn s → LastsIn AreKnown s.link.remote s.filter.volume → LastsIn AreKnown (remote_step s.link.remote q).1 s.filter.volume
remote_known s q fair sound well h k = (
  asked_known r q s.link.messages s.filter.volume.epoch s.volatile.tokens s.filter.volume.next_item.0 (next_number s.filter.volume) (items_now s) (book_now s) sound.counted (early_of s h.0.0 fair) well.asks sound.now.given sound.now.asked k.0,
  all_both (λ p. IsRightPoint p × AtPoint IsCursorEarly r s.filter.volume.log p) (AtPoint AreKnown r s.filter.volume.log) (AtPoint AreKnown (remote_step r q).1 s.filter.volume.log) one s.filter.volume.points
      (all_both IsRightPoint (AtPoint IsCursorEarly r s.filter.volume.log) (λ p. IsRightPoint p × AtPoint IsCursorEarly r s.filter.volume.log p) (λ p a c. (a, c)) s.filter.volume.points sound.kept (h.0.0.1 fair).1) k.1,
) where
  r : Held
  r = s.link.remote

  IsRightPoint : Point → Type 0
  IsRightPoint p = IsPointRight r s.link.messages s.filter.volume.epoch s.volatile.tokens (next_number s.filter.volume) s.filter.volume.log p

  one : (p : Point) → IsRightPoint p × AtPoint IsCursorEarly r s.filter.volume.log p → AtPoint AreKnown r s.filter.volume.log p → AtPoint AreKnown (remote_step r q).1 s.filter.volume.log p
  one p (right, early) (count, known) =
      (count, asked_known r q s.link.messages s.filter.volume.epoch s.volatile.tokens (next_of (take p.count s.filter.volume.log)) (next_number s.filter.volume) (items_of (take p.count s.filter.volume.log)) p.book sound.counted early.1 well.asks right.1.given right.1.asked known)

known_lasting : LastingOver AreKnown IsApartIn
known_lasting = record {
  changes = λ s f c x keeps seen fit fair known sound h k.
      let right = change_told (λ late n e. IsEntryRight s.link.remote late n e) (Known IsKnownIn s) (entry_right s.link fair) x f c known in
      change_known s.link.remote x f c (next_number x.volume) sound.counted (lower_of s.link.remote _ x.volume.items sound.now.right) (below_of (with_filter x s) h.0.0 fair) keeps seen.2 fit right.0 right.1 k;
  removes = λ s f item keeps seen cursor buries fair sound h k. removed_known s.link.remote (items_now s) (book_now s) f item (next_number s.filter.volume) sound.counted keeps seen cursor k;
  alike = λ r items b d same k. (passed_same r items b d same.cursor same.seen k.0, done_fewer r items items b d same.cursor same.entries k.1);
  records = λ f s keeps placed fair known sound h k. record_known f s keeps fair known sound h k;
  sees = moved_known;
  leaves = λ token r items b k. left_known r items b token k;
  enters = λ e s well fair h k. entered_known s.link.remote (items_now s) (book_now s) e well.0.fresh k;
  asked = remote_known;
}

pub known_whole : Whole IsKnownIn
known_whole = whole_over AreKnown IsApartIn known_lasting apart_whole (λ s h. h.0.0.0.0)

-- of a new volume nothing is passed but the root
none_known : (remote : Held) → AreKnown remote (root ∷ []) no_book
none_known remote = (((λ below. absurd (below refl)), tt), tt)

pub run_known_in : (remote : Held) (clusters : ℕ) (trace : List (Event × Answer)) (s : State) → Runs mode.Replay (start mode.Replay remote clusters) trace s → IsFresh remote → IsTidy remote → IsKnownIn s
run_known_in remote clusters trace s runs fresh tidy =
    runs_keep IsKnownIn known_whole (start mode.Replay remote clusters) trace s runs ((start_true remote clusters fresh tidy, start_lasts AreTargetsAlone remote clusters (tt, tt)), start_lasts AreKnown remote clusters (none_known remote))

-- of an upload on its way
pub run_late : (remote : Held) (clusters : ℕ) (trace : List (Event × Answer)) (s : State) → Runs mode.Replay (start mode.Replay remote clusters) trace s → IsFresh remote → IsTidy remote → HoldsIn AreDoneLate s
run_late remote clusters trace s runs fresh tidy fair =
    let k = (run_known_in remote clusters trace s runs fresh tidy).1 fair in
    (k.0.1, all_weaker (AtPoint AreKnown s.link.remote s.filter.volume.log) (AtPoint AreDoneLate s.link.remote s.filter.volume.log) (λ p j. (j.0, j.1.1)) s.filter.volume.points k.1)

pub run_passed : (remote : Held) (clusters : ℕ) (trace : List (Event × Answer)) (s : State) → Runs mode.Replay (start mode.Replay remote clusters) trace s → IsFresh remote → IsTidy remote → HoldsIn ArePassedRight s
run_passed remote clusters trace s runs fresh tidy fair =
    let k = (run_known_in remote clusters trace s runs fresh tidy).1 fair in
    (k.0.0, all_weaker (AtPoint AreKnown s.link.remote s.filter.volume.log) (AtPoint ArePassedRight s.link.remote s.filter.volume.log) (λ p j. (j.0, j.1.0)) s.filter.volume.points k.1)

pub run_kept_up : (remote : Held) (clusters : ℕ) (trace : List (Event × Answer)) (s : State) → Runs mode.Replay (start mode.Replay remote clusters) trace s → IsFresh remote → IsTidy remote → IsFair s.link → IsKeptUp s
run_kept_up remote clusters trace s runs fresh tidy fair = passed_now s (run_passed remote clusters trace s runs fresh tidy fair).0
