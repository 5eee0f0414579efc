-- What is kept beside a property of the machine in `replay`: a fact on the log, the open handles and the waits.
use Rattle.std.proofs.Common.{◌≡◌, ◌⊎◌, ◌<◌, ◌+◌, ℕ, Bool, true, false, List, [], ◌∷◌, ◌++◌, refl, sym, subst, inl, inr, length, take}
use Rattle.std.specs.Prelude.{filter, if◌then◌else◌}
use Rattle.cf_base.specs.declared.answers.Shown.TheVariants as shown
use Rattle.cf_base.specs.declared.changes.Change.{Change}
use Rattle.cf_base.specs.declared.changes.Change.TheVariants as change
use Rattle.cf_base.specs.declared.codes.Code.{Code}
use Rattle.cf_base.specs.declared.ids.ItemId.{ItemId}
use Rattle.cf_base.specs.declared.ids.Usn.{Usn}
use Rattle.cf_base.specs.declared.ids.WaitId.{WaitId}
use Rattle.cf_base.specs.declared.waits.Cause.{Cause}
use Rattle.cf_base.specs.declared.waits.Cause.TheVariants as cause
use Rattle.cf_base.specs.declared.waits.End.{End}
use Rattle.cf_model.specs.Arrows.{each, noted, reading, then_do}
use Rattle.cf_model.specs.Books.{Book}
use Rattle.cf_model.specs.Calls.{next_handle}
use Rattle.cf_model.specs.Changes.{change_with, next_number, put_with_book}
use Rattle.cf_model.specs.Dehydration.{in_use}
use Rattle.cf_model.specs.Growth.{Extends}
use Rattle.cf_model.specs.Missing.{Wait}
use Rattle.cf_model.specs.Operations.{done}
use Rattle.cf_model.specs.Points.{commit, with_room_point}
use Rattle.cf_model.specs.Requests.{Deed, Told, Waiting}
use Rattle.cf_model.specs.Restarts.{epoch_after}
use Rattle.cf_model.specs.Settling.{accessed, end_of, end_wait, is_access, is_own, settle, tell, tell_end, told_at, with_asks_told, with_ended, with_waiting}
use Rattle.cf_model.specs.Skips.{skip_line}
use Rattle.cf_model.specs.State.{Filter, Link, Open, Point, State, Volume, in_volume, with_filter}
use Rattle.cf_model.specs.Store.{Held}
use Rattle.cf_model.specs.Trees.{Keeps, Ret}
use Rattle.cf_model.specs.Waits.{Need, all_down, begin_now, begun, beside, own_id, wait_for, with_own, is_met_now}
use Rattle.cf_model.proofs.ArrowLaws.{keeps_each, keeps_one, keeps_then}
use Rattle.cf_model.proofs.StoreLaws.{step_extends}
use Rattle.cf_model.proofs.TreeLaws.{keeps_bind}
use Rattle.cf_model_laws.specs.Fitting.{Fits, IsLeaf}
use Rattle.cf_model_laws.specs.Invariant.{IsSound}
use Rattle.cf_model_laws.specs.Premises.{IsFair}
use Rattle.cf_model_laws.specs.Seats.{IsSeated, NeedsWell}
use Rattle.cf_model_laws.proofs.ContentLaws.{next_epoch}
use Rattle.cf_model_laws.proofs.EventsGuarded.{Unruled, Whole, unruled, with_ruling}
use Rattle.cf_model_laws.proofs.Guarded.{Commanding, Entering, Guarded, GuardedFilter, Ruling}
use Rattle.cf_model_laws.proofs.Leading.{kept_leads}
use Rattle.cf_model_laws.proofs.RightItems.{no_way}
use Rattle.cf_model_laws.proofs.SkipsGuarded.{keeps_both}
use Rattle.cf_model_laws.proofs.SoundFilters.{change_leads}
use Rattle.cf_model_laws.proofs.SoundStates.{small_before}
use Rattle.cf_model_laws.proofs.SinceKept.{moved_weaker, on_filter_weaker, record_weaker}
use Rattle.cf_model_laws.specs.Taken.{Knowledge}

-- of the link, the epoch and its last place, the log, the handles and how many were given, the waits and how many were
abbrev pub Fact : Type 1
Fact = Link → ℕ → ℕ → List (Usn × Change) → List Open → ℕ → List Wait → ℕ → Type 0

abbrev pub Holds : Fact → Link → Filter → Type 0
Holds F l x = F l x.volume.epoch x.volume.place x.volume.log x.handles x.handle_count x.waiting.waits x.waiting.wait_count

-- after one more change
abbrev pub HoldsAfter : Fact → Link → Change → Filter → Type 0
HoldsAfter F l c x = F l x.volume.epoch (x.volume.place + 1) (x.volume.log ++ (next_number x.volume, c) ∷ []) x.handles x.handle_count x.waiting.waits x.waiting.wait_count

-- what keeps it
pub record Beside (F : Fact) : Type 0 where
  pub puts : (l : Link) (tokens : ℕ) (c : Change) (x : Filter) → (IsFair l → IsSound l tokens x) → (IsFair l → Fits l.remote x c) → Holds F l x → HoldsAfter F l c x
  pub ends : (l : Link) (e p : ℕ) (log : List (Usn × Change)) (hs : List Open) (hn : ℕ) (ws : List Wait) (wn : ℕ) (stays : Wait → Bool) → F l e p log hs hn ws wn → F l e p log hs hn (filter stays ws) wn
  pub begins : (l : Link) (tokens : ℕ) (n : Need) (x : Filter) → (IsFair l → IsSound l tokens x) → Holds F l x → F l x.volume.epoch x.volume.place x.volume.log x.handles x.handle_count (x.waiting.waits ++ wait_for n x ∷ beside n x) (x.waiting.wait_count + length (wait_for n x ∷ beside n x))
  pub opens : (l : Link) (item : ItemId) (x : Filter) → Holds F l x → F l x.volume.epoch x.volume.place x.volume.log (x.handles ++ record { handle = next_handle x; item = item } ∷ []) (x.handle_count + 1) x.waiting.waits x.waiting.wait_count
  pub closes : (l : Link) (e p : ℕ) (log : List (Usn × Change)) (hs : List Open) (hn : ℕ) (ws : List Wait) (wn : ℕ) (stays : Open → Bool) → F l e p log hs hn ws wn → F l e p log (filter stays hs) hn ws wn
  pub stops : (l : Link) (e p : ℕ) (log : List (Usn × Change)) (hs : List Open) (hn : ℕ) (ws : List Wait) (wn : ℕ) → F l e p log hs hn ws wn → F l e p log hs hn [] wn
  pub grows : (l k : Link) (e p : ℕ) (log : List (Usn × Change)) (hs : List Open) (hn : ℕ) (ws : List Wait) (wn : ℕ) → (IsFair k → IsFair l × Extends l.remote k.remote) → F l e p log hs hn ws wn → F k e p log hs hn ws wn

-- and where so much is known of the filter, and of what a step meets
pub record Knowing (K : Filter → Type 0) (F : Fact) : Type 0 where
  pub puts : (l : Link) (tokens : ℕ) (c : Change) (x : Filter) → (IsFair l → IsSound l tokens x) → (IsFair l → Fits l.remote x c) → (IsFair l → K x) → Holds F l x → HoldsAfter F l c x
  pub ends : (l : Link) (e p : ℕ) (log : List (Usn × Change)) (hs : List Open) (hn : ℕ) (ws : List Wait) (wn : ℕ) (stays : Wait → Bool) → F l e p log hs hn ws wn → F l e p log hs hn (filter stays ws) wn
  pub begins : (l : Link) (tokens : ℕ) (n : Need) (x : Filter) → (IsFair l → IsSound l tokens x) → (IsFair l → NeedsWell n x) → is_met_now n x ≡ false → (IsFair l → K x) → Holds F l x
      → F l x.volume.epoch x.volume.place x.volume.log x.handles x.handle_count (x.waiting.waits ++ wait_for n x ∷ beside n x) (x.waiting.wait_count + length (wait_for n x ∷ beside n x))
  pub opens : (l : Link) (tokens : ℕ) (item : ItemId) (x : Filter) → (IsFair l → IsSound l tokens x) → (IsFair l → IsSeated x.volume.items item false) → Holds F l x
      → F l x.volume.epoch x.volume.place x.volume.log (x.handles ++ record { handle = next_handle x; item = item } ∷ []) (x.handle_count + 1) x.waiting.waits x.waiting.wait_count
  pub closes : (l : Link) (e p : ℕ) (log : List (Usn × Change)) (hs : List Open) (hn : ℕ) (ws : List Wait) (wn : ℕ) (stays : Open → Bool) → F l e p log hs hn ws wn → F l e p log (filter stays hs) hn ws wn
  pub stops : (l : Link) (e p : ℕ) (log : List (Usn × Change)) (hs : List Open) (hn : ℕ) (ws : List Wait) (wn : ℕ) → F l e p log hs hn ws wn → F l e p log hs hn [] wn
  pub grows : (l k : Link) (e p : ℕ) (log : List (Usn × Change)) (hs : List Open) (hn : ℕ) (ws : List Wait) (wn : ℕ) → (IsFair k → IsFair l × Extends l.remote k.remote) → F l e p log hs hn ws wn → F k e p log hs hn ws wn

abbrev Whatever : Filter → Type 0
Whatever x = Unit {0}

knowing : (F : Fact) → Beside F → Knowing Whatever F
knowing F b = record {
  puts = λ l tokens c x sound fit known h. b.puts l tokens c x sound fit h;
  ends = b.ends;
  begins = λ l tokens n x sound fit unmet known h. b.begins l tokens n x sound h;
  opens = λ l tokens item x sound fit h. b.opens l item x h;
  closes = b.closes;
  stops = b.stops;
  grows = b.grows;
}

-- a change

changed_beside : (F : Fact) (l : Link) (f : Book → Book) (c : Change) (x : Filter) → Holds F l x → HoldsAfter F l c x → Keeps (Holds F l) (change_with f c x)
changed_beside F l f c x h k = kept_leads (Holds F l) (change_with f c x) (change_leads (Holds F l) (Holds F l) f c x h h h (λ v is. by v is)) where
  by : (v : Volume) → (v ≡ x.volume) ⊎ (v ≡ with_room_point x.volume) → F l (put_with_book f c v).epoch (put_with_book f c v).place (put_with_book f c v).log x.handles x.handle_count x.waiting.waits x.waiting.wait_count
  by v (inl e) = subst (λ (w : Volume). F l (put_with_book f c w).epoch (put_with_book f c w).place (put_with_book f c w).log x.handles x.handle_count x.waiting.waits x.waiting.wait_count) (sym e) k
  by v (inr e) = subst (λ (w : Volume). F l (put_with_book f c w).epoch (put_with_book f c w).place (put_with_book f c w).log x.handles x.handle_count x.waiting.waits x.waiting.wait_count) (sym e) k

-- what is told after a step

ended_beside : (F : Fact) (l : Link) (e : Wait × Cause) (x : Filter) → Holds F l x → Holds F l (with_ended e x)
ended_beside F l e x h = accesses (is_access e.0.kind e.1) (tell_end e.0.id (end_of x.volume.items e.0 e.1) (is_own e.0.id x) x) (tells e.0.id (end_of x.volume.items e.0 e.1) (is_own e.0.id x)) where
  tells : (i : WaitId) (d : End) (own : Bool) → Holds F l (tell_end i d own x)
  tells i d true = h
  tells i d false = h

  accesses : (is : Bool) (y : Filter) → Holds F l y → Holds F l (if is then accessed e.0.item y else y)
  accesses true y k = k
  accesses false y k = k

pub tell_beside : (F : Fact) (l : Link) (r : Told × Waiting) (x : Filter) → Holds F l (with_waiting r.1 x) → Keeps (Holds F l) (tell r x)
tell_beside F l r x h =
    (keeps_then (Holds F l) (each end_wait r.0.ended) (noted (with_asks_told r.0)) (keeps_each (Holds F l) end_wait r.0.ended (λ e. keeps_one (Holds F l) (with_ended e) (λ y j. ended_beside F l e y j))) (record { keeps = λ y j. j })).keeps (with_waiting r.1 x) h

settle_beside : (K : Filter → Type 0) (F : Fact) → Knowing K F → (l : Link) (item : ItemId) (d : Deed) (x : Filter) → Holds F l x → Keeps (Holds F l) (settle item d x)
settle_beside K F b l item d x h = tell_beside F l (told_at item d x) x (b.ends l x.volume.epoch x.volume.place x.volume.log x.handles x.handle_count x.waiting.waits x.waiting.wait_count _ h)

begins_beside : (K : Filter → Type 0) (F : Fact) → Knowing K F → (l : Link) (tokens : ℕ) (n : Need) (x : Filter) → (IsFair l → IsSound l tokens x) → (IsFair l → NeedsWell n x) → is_met_now n x ≡ false → (IsFair l → K x) → Holds F l x → Keeps (Holds F l) (reading (begun n) (begin_now n) x)
begins_beside K F b l tokens n x sound fit unmet known h =
    keeps_bind (Holds F l) (tell (begun n x) (with_own n x)) (λ _ t. Ret (shown.Pending (own_id n x)) t)
    (tell_beside F l (begun n x) (with_own n x) (b.ends l x.volume.epoch x.volume.place x.volume.log x.handles x.handle_count (x.waiting.waits ++ wait_for n x ∷ beside n x) (x.waiting.wait_count + length (wait_for n x ∷ beside n x)) _ (b.begins l tokens n x sound fit unmet known h))) (λ a t j. j)

accessed_beside : (F : Fact) (l : Link) (item : ItemId) (is : Bool) (x : Filter) → Holds F l x → Holds F l (if is then accessed item x else x)
accessed_beside F l item true x h = h
accessed_beside F l item false x h = h

-- the filter

filter_beside : (K : Filter → Type 0) (F : Fact) → Knowing K F → {On : Knowledge} (l : Link) (tokens : ℕ) (P : Filter → Type 0) → ((x : Filter) → P x → IsFair l → K x) → GuardedFilter On l tokens P → GuardedFilter On l tokens (λ x. P x × Holds F l x)
filter_beside K F b l tokens P knows closed = record {
  sound = λ x h fair. closed.sound x h.0 fair;
  change = λ f c x keeps seen free fit known h. keeps_both P (Holds F l) (change_with f c x) (closed.change f c x keeps seen free fit known h.0) (changed_beside F l f c x h.1 (b.puts l tokens c x (closed.sound x h.0) fit (knows x h.0) h.1));
  touch = λ f c item d x quiet keeps seen on fit known h. keeps_both P (Holds F l) (then_do (change_with f c) (then_do (settle item d) done) x) (closed.touch f c item d x quiet keeps seen on fit known h.0)
      (keeps_bind (Holds F l) (change_with f c x) (λ _ t. then_do (settle item d) done t) (changed_beside F l f c x h.1 (b.puts l tokens c x (closed.sound x h.0) fit (knows x h.0) h.1)) (λ a t j. keeps_bind (Holds F l) (settle item d t) (λ _ y. done y) (settle_beside K F b l item d t j) (λ a y m. m)));
  commits = record { keeps = λ x h. keeps_both P (Holds F l) (in_volume commit x) (closed.commits.keeps x h.0) (h.1, h.1) };
  settled = λ item d x others h. keeps_both P (Holds F l) (settle item d x) (closed.settled item d x others h.0) (settle_beside K F b l item d x h.1);
  begins = λ n x plain fit unmet h. keeps_both P (Holds F l) (reading (begun n) (begin_now n) x) (closed.begins n x plain fit unmet h.0) (begins_beside K F b l tokens n x (closed.sound x h.0) fit unmet (knows x h.0) h.1);
  downs = record { keeps = λ x h. keeps_both P (Holds F l) (reading all_down tell x) (closed.downs.keeps x h.0) (tell_beside F l (all_down x) x (b.stops l x.volume.epoch x.volume.place x.volume.log x.handles x.handle_count x.waiting.waits x.waiting.wait_count h.1)) };
  keeps_accessed = λ item x h. (closed.keeps_accessed item x h.0, h.1);
  keeps_accessed_now = λ n x h. (closed.keeps_accessed_now n x h.0, accessed_beside F l n.item (is_access n.kind cause.Met) x h.1);
  keeps_as_it_is = λ x h. (closed.keeps_as_it_is x h.0, h.1);
  keeps_begin_call = λ x h. (closed.keeps_begin_call x h.0, h.1);
  keeps_connected_again = λ x h. (closed.keeps_connected_again x h.0, h.1);
  keeps_with_handle = λ item x fit h. (closed.keeps_with_handle item x fit h.0, b.opens l tokens item x (closed.sound x h.0) fit h.1);
  keeps_with_time = λ n x h. (closed.keeps_with_time n x h.0, h.1);
  keeps_without_handle = λ handle x h. (closed.keeps_without_handle handle x h.0, b.closes l x.volume.epoch x.volume.place x.volume.log x.handles x.handle_count x.waiting.waits x.waiting.wait_count _ h.1);
}

-- the whole

abbrev pub HoldsIn : Fact → State → Type 0
HoldsIn F s = Holds F s.link s.filter

line_beside : (F : Fact) (b : Bool) (c : Code) (s : State) → HoldsIn F s → HoldsIn F (skip_line b c s)
line_beside F true c s h = h
line_beside F false c s h = h

-- in a link of the same remote that is as fair
linked : (K : Filter → Type 0) (F : Fact) → Knowing K F → (l k : Link) (x : Filter) → (IsFair k → IsFair l) → k.remote ≡ l.remote → Holds F l x → Holds F k x
linked K F b l k x fair same h =
    b.grows l k x.volume.epoch x.volume.place x.volume.log x.handles x.handle_count x.waiting.waits x.waiting.wait_count (λ z. (fair z, subst (λ (r : Held). Extends l.remote r) (sym same) (record { versions = λ rid version bytes e. e; tokens = λ token r e. e }))) h

pub guarded_knowing : (K : Filter → Type 0) (F : Fact) → Knowing K F → (P : State → Type 0) → ((s : State) → P s → IsFair s.link → K s.filter) → Guarded P → Guarded (λ s. P s × HoldsIn F s)
guarded_knowing K F b P knows closed = record {
  replay = λ s h. closed.replay s h.0;
  on_filter = λ s h. filter_beside K F b s.link s.volatile.tokens (λ x. P (with_filter x s)) (λ x k fair. knows (with_filter x s) k fair) (on_filter_weaker P (λ t. P t × HoldsIn F t) (λ t k. k.0) s _ (closed.on_filter s h.0));
  keeps_counted = λ s h. (closed.keeps_counted s h.0, linked K F b s.link _ s.filter (λ fair. fair) refl h.1);
  asked = λ q s well h. (
    closed.asked q s well h.0,
    b.grows s.link _ s.filter.volume.epoch s.filter.volume.place s.filter.volume.log s.filter.handles s.filter.handle_count s.filter.waiting.waits s.filter.waiting.wait_count (λ fair. ((fair.0, small_before s.link.remote q fair.1), step_extends s.link.remote q)) h.1,
  );
  told = λ held s h. (
    closed.told held s h.0,
    b.grows s.link _ s.filter.volume.epoch s.filter.volume.place s.filter.volume.log s.filter.handles s.filter.handle_count s.filter.waiting.waits s.filter.waiting.wait_count (λ fair. no_way fair.0) h.1,
  );
  posts = λ f s other well now h. (closed.posts f s other well now h.0, linked K F b s.link _ s.filter (λ fair. fair) refl h.1);
  loses = λ f s h. (closed.loses f s h.0, linked K F b s.link _ s.filter (λ fair. fair) refl h.1);
  books = λ f s keeps placed known h. (closed.books f s keeps placed (λ fair. record_weaker P (λ t. P t × HoldsIn F t) (λ t k. k.0) f s (known fair)) h.0, h.1);
  moved = λ e s is live known h. (closed.moved e s is live (λ fair. moved_weaker P (λ t. P t × HoldsIn F t) (λ t k. k.0) e s (known fair)) h.0, h.1);
  leaves = λ token s h. (closed.leaves token s h.0, h.1);
  keeps_fault_line = λ m s h. (closed.keeps_fault_line m s h.0, h.1);
  keeps_showing = λ s h. (closed.keeps_showing s h.0, h.1);
  keeps_skipped = λ c s h. (closed.keeps_skipped c s h.0, line_beside F s.running.shows_skips c (record s { running = record s.running { skips = s.running.skips + 1 } }) h.1);
  keeps_volatile_all_released = λ s h. (closed.keeps_volatile_all_released s h.0, h.1);
  keeps_volatile_held_and_closed = λ e s h. (closed.keeps_volatile_held_and_closed e s h.0, h.1);
  keeps_volatile_not_in_row = λ e s h. (closed.keeps_volatile_not_in_row e s h.0, h.1);
  keeps_volatile_round_closed = λ s h. (closed.keeps_volatile_round_closed s h.0, h.1);
  keeps_volatile_taken_from_row = λ e s h. (closed.keeps_volatile_taken_from_row e s h.0, h.1);
  keeps_volatile_with_not_empty = λ n s h. (closed.keeps_volatile_with_not_empty n s h.0, h.1);
  keeps_volatile_with_round = λ s h. (closed.keeps_volatile_with_round s h.0, h.1);
  keeps_volatile_with_taken_name = λ item s h. (closed.keeps_volatile_with_taken_name item s h.0, h.1);
  keeps_volatile_with_token = λ s h. (closed.keeps_volatile_with_token s h.0, h.1);
  keeps_with_clock_seen = λ clock s h. (closed.keeps_with_clock_seen clock s h.0, h.1);
  keeps_with_done = λ s h. (closed.keeps_with_done s h.0, h.1);
  keeps_with_outbox = λ a rest s e h. (closed.keeps_with_outbox a rest s e h.0, h.1);
  keeps_with_stray = λ r s h. (closed.keeps_with_stray r s h.0, h.1);
  keeps_with_token_used = λ s h. (closed.keeps_with_token_used s h.0, h.1);
  keeps_without_done = λ s h. (closed.keeps_without_done s h.0, h.1);
}

pub guarded_beside : (F : Fact) → Beside F → (P : State → Type 0) → Guarded P → Guarded (λ s. P s × HoldsIn F s)
guarded_beside F b P closed = guarded_knowing Whatever F (knowing F b) P (λ s h fair. tt) closed

pub commanding_knowing : (K : Filter → Type 0) (F : Fact) → Knowing K F → (P : State → Type 0) → ((s : State) → P s → IsFair s.link → K s.filter) → Guarded P → Commanding P → Commanding (λ s. P s × HoldsIn F s)
commanding_knowing K F b P knows closed commanding = record {
  waits = λ s n x fit unmet h. keeps_both (λ y. P (with_filter y s)) (Holds F s.link) (reading (begun n) (begin_now n) x) (commanding.waits s n x fit unmet h.0)
      (begins_beside K F b s.link s.volatile.tokens n x ((closed.on_filter (with_filter x s) h.0).sound x h.0) fit unmet (knows (with_filter x s) h.0) h.1);
  disconnects = λ s h. (commanding.disconnects s h.0, h.1);
  inlines = λ inline s h. (commanding.inlines inline s h.0, linked K F b s.link _ s.filter (λ fair. fair) refl h.1);
}

pub commanding_beside : (F : Fact) → Beside F → (P : State → Type 0) → Guarded P → Commanding P → Commanding (λ s. P s × HoldsIn F s)
commanding_beside F b P closed commanding = commanding_knowing Whatever F (knowing F b) P (λ s h fair. tt) closed commanding

pub entering_knowing : (K : Filter → Type 0) (F : Fact) → Knowing K F → (P : State → Type 0) → Entering P → Entering (λ s. P s × HoldsIn F s)
entering_knowing K F b P entering = record {
  uploads = record { enters = λ e s well h. (entering.uploads.enters e s well h.0, h.1) };
  feeds = λ f s well now h. (entering.feeds f s well now h.0, linked K F b s.link _ s.filter (λ fair. fair) refl h.1);
}

pub entering_beside : (F : Fact) → Beside F → (P : State → Type 0) → Entering P → Entering (λ s. P s × HoldsIn F s)
entering_beside F b P entering = entering_knowing Whatever F (knowing F b) P entering

pub ruling_beside : (F : Fact) (P : State → Type 0) → Ruling P → Ruling (λ s. P s × HoldsIn F s)
ruling_beside F P ruling = record { rules = λ p s v h. (ruling.rules p s v h.0, h.1) }

-- what keeps it over whole runs
pub record BesideRuns (F : Fact) : Type 0 where
  pub beside : Beside F
  pub removes : (l : Link) (tokens : ℕ) (item : ItemId) (x : Filter) → (IsFair l → IsSound l tokens x) → in_use item x ≡ false → Holds F l x → HoldsAfter F l (change.Remove item) x
  pub crashes : (l : Link) (e p : ℕ) (log : List (Usn × Change)) (hs : List Open) (hn : ℕ) (ws : List Wait) (wn : ℕ) → F l e p log hs hn ws wn → F l e p log [] hn [] wn
  pub opens : (l : Link) (p : Point) (epoch : ℕ) (v : Volume) (hs : List Open) (hn : ℕ) (ws : List Wait) (wn : ℕ) → v.epoch < epoch → F l v.epoch v.place v.log hs hn ws wn → F l epoch 0 (take p.count v.log) [] 0 [] 0

pub record KnowingRuns (K : Filter → Type 0) (F : Fact) : Type 0 where
  pub knowing : Knowing K F
  pub removes : (l : Link) (tokens : ℕ) (item : ItemId) (x : Filter) → (IsFair l → IsSound l tokens x) → in_use item x ≡ false → (IsFair l → IsLeaf x.volume.items item) → Holds F l x → HoldsAfter F l (change.Remove item) x
  pub crashes : (l : Link) (e p : ℕ) (log : List (Usn × Change)) (hs : List Open) (hn : ℕ) (ws : List Wait) (wn : ℕ) → F l e p log hs hn ws wn → F l e p log [] hn [] wn
  pub opens : (l : Link) (p : Point) (epoch : ℕ) (v : Volume) (hs : List Open) (hn : ℕ) (ws : List Wait) (wn : ℕ) → v.epoch < epoch → F l v.epoch v.place v.log hs hn ws wn → F l epoch 0 (take p.count v.log) [] 0 [] 0

pub unruled_knowing : (K : Filter → Type 0) (F : Fact) → KnowingRuns K F → (P : State → Type 0) → ((s : State) → P s → IsFair s.link → K s.filter) → Unruled P → Unruled (λ s. P s × HoldsIn F s)
unruled_knowing K F b P knows rest = record {
  closed = guarded_knowing K F b.knowing P knows rest.closed;
  entering = entering_knowing K F b.knowing P rest.entering;
  deleting = record {
    deletes = λ f item s keeps seen cursor idle leaf h. keeps_both (λ x. P (with_filter x s)) (Holds F s.link) (change_with f (change.Remove item) s.filter) (rest.deleting.deletes f item s keeps seen cursor idle leaf h.0)
        (changed_beside F s.link f (change.Remove item) s.filter h.1 (b.removes s.link s.volatile.tokens item s.filter ((rest.closed.on_filter s h.0).sound s.filter h.0) idle (λ fair. (leaf fair).0) h.1));
  };
  commanding = commanding_knowing K F b.knowing P knows rest.closed rest.commanding;
  begins = λ s h. (rest.begins s h.0, h.1);
  breaks = λ s h. (rest.breaks s h.0, h.1);
  crashes = λ s h. (rest.crashes s h.0, b.crashes s.link s.filter.volume.epoch s.filter.volume.place s.filter.volume.log s.filter.handles s.filter.handle_count s.filter.waiting.waits s.filter.waiting.wait_count h.1);
  fails = λ s h. (rest.fails s h.0, h.1);
  opens = λ p skipped s is h. (rest.opens p skipped s is h.0, b.opens s.link p (epoch_after skipped s) s.filter.volume s.filter.handles s.filter.handle_count s.filter.waiting.waits s.filter.waiting.wait_count (next_epoch s.filter.volume.epoch skipped) h.1);
}

pub whole_knowing : (K : Filter → Type 0) (F : Fact) → KnowingRuns K F → (P : State → Type 0) → ((s : State) → P s → IsFair s.link → K s.filter) → Whole P → Whole (λ s. P s × HoldsIn F s)
whole_knowing K F b P knows whole = with_ruling (λ s. P s × HoldsIn F s) (unruled_knowing K F b P knows (unruled P whole)) (ruling_beside F P whole.ruling)

pub whole_beside : (F : Fact) → BesideRuns F → (P : State → Type 0) → Whole P → Whole (λ s. P s × HoldsIn F s)
whole_beside F b P whole =
    whole_knowing Whatever F (record { knowing = knowing F b.beside; removes = λ l tokens item x sound idle leaf h. b.removes l tokens item x sound idle h; crashes = b.crashes; opens = b.opens }) P (λ s h fair. tt) whole
