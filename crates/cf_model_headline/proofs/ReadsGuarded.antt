-- Lines with data in `replay`: the machine keeps what is said of them within an event.
use Rattle.std.proofs.Common.{◌≡◌, ◌⊎◌, ◌<◌, ◌≤◌, ◌+◌, ℕ, Bool, true, false, List, [], ◌∷◌, ◌++◌, refl, sym, subst, inl, inr, arith, length, if◌then◌else◌}
use Rattle.std.specs.Prelude.{None, map}
use Rattle.cf_base.specs.declared.answers.Shown.TheVariants as shown
use Rattle.cf_base.specs.declared.changes.Change.{Change}
use Rattle.cf_base.specs.declared.changes.Change.TheVariants as change
use Rattle.cf_base.specs.declared.codes.Code.{Code}
use Rattle.cf_base.specs.declared.events.Event.{Event}
use Rattle.cf_base.specs.declared.events.Event.TheVariants as event
use Rattle.cf_base.specs.declared.ids.ItemId.{ItemId}
use Rattle.cf_base.specs.declared.notices.Notice.{Notice}
use Rattle.cf_base.specs.declared.notices.Notice.TheVariants as notice
use Rattle.cf_base.specs.declared.policies.Mode.TheVariants as mode
use Rattle.cf_base.specs.declared.waits.Cause.{Cause}
use Rattle.cf_base.specs.declared.waits.Cause.TheVariants as cause
use Rattle.cf_base.specs.declared.waits.WaitKind.TheVariants as wait_kind
use Rattle.cf_model.specs.Arrows.{Preserves, reading, then_do}
use Rattle.cf_model.specs.Asks.{why}
use Rattle.cf_model.specs.Books.{Book}
use Rattle.cf_model.specs.Changes.{change_with, next_number, put_with_book}
use Rattle.cf_model.specs.Events.{event_now, is_of}
use Rattle.cf_model.specs.Growth.{Extends}
use Rattle.cf_model.specs.Messages.{counted, distrusted, with_remote}
use Rattle.cf_model.specs.Missing.{Wait, no_span}
use Rattle.cf_model.specs.Numbers.{key_after}
use Rattle.cf_model.specs.Operations.{done}
use Rattle.cf_model.specs.Points.{commit, with_room_point}
use Rattle.cf_model.specs.Requests.{Deed, Leaves, Nothing, also_background, wait_after}
use Rattle.cf_model.specs.Settling.{accessed, is_access, settle, tell, view_at}
use Rattle.cf_model.specs.Skips.{skip_line}
use Rattle.cf_model.specs.State.{Filter, Link, State, Volume, in_volume, with_filter, with_notes, with_volume}
use Rattle.cf_model.specs.Store.{remote_step}
use Rattle.cf_model.specs.Trees.{Keeps, Ret}
use Rattle.cf_model.specs.Waits.{Need, all_down, background_line, begin_now, begun, beside, own_id, wait_for, with_own}
use Rattle.cf_model.specs.Words.{when}
use Rattle.cf_model.proofs.StoreLaws.{step_extends}
use Rattle.cf_model.proofs.TreeLaws.{keeps_bind}
use Rattle.cf_model_laws.specs.Fitting.{Fits, Touches}
use Rattle.cf_model_laws.specs.GivenOnce.{WasGiven}
use Rattle.cf_model_laws.specs.Invariant.{All, IsSound, NoItem}
use Rattle.cf_model_laws.specs.Premises.{IsFair}
use Rattle.cf_model_laws.proofs.EventsGuarded.{call_now_keeps, other_event_keeps}
use Rattle.cf_model_laws.proofs.Gathered.{all_append, all_filter, all_map}
use Rattle.cf_model_laws.proofs.Guarded.{Commanding, Deleting, EndsOthers, Entering, Guarded, GuardedFilter, IsQuiet, Ruling}
use Rattle.cf_model_laws.proofs.Leading.{Leads, kept_leads, leads_bind, leads_kept, leads_weaker}
use Rattle.cf_model_laws.proofs.RightItems.{fits_aims, fits_meets, no_way, no_way_back}
use Rattle.cf_model_laws.proofs.SkipsGuarded.{keeps_both}
use Rattle.cf_model_laws.proofs.SoundChanges.{KeepsEntries}
use Rattle.cf_model_laws.proofs.SoundFilters.{change_leads, changed_at}
use Rattle.cf_model_laws.proofs.SoundStates.{small_before}
use Rattle.cf_model_headline.specs.Reads.{data_shown}
use Rattle.cf_model_headline.specs.Reports.{changes_in, is_device}
use Rattle.cf_model_headline.proofs.ReadLines.{EndsMet, IsTruly, Known, Log, Reading, ReadingOf, all_ended, all_lines, changing, growing, plainly, settles, sound_truly, step_ends, told}
use Rattle.cf_model_headline.proofs.ShownChanges.{none_in}
use Rattle.cf_model_laws.proofs.SinceKept.{moved_weaker, on_filter_weaker, record_weaker}
use Rattle.cf_model_laws.specs.Taken.{Knowledge}

-- a step that ends no wait of its own
pub quiet_others : (d : Deed) → IsQuiet d → (x : Filter) → EndsOthers d x
quiet_others Nothing q x = tt
quiet_others (Leaves key blocks) q x = tt
quiet_others d q x = absurd q

module _ (base : Log) (ws : List Wait) (e n : ℕ) where
  abbrev At : Link → Filter → Type 0
  At l x = Reading base ws e n (IsFair l) l.remote x

  -- a change, after which contents are still what is held over the base
  changed : (l : Link) (tokens : ℕ) (f : Book → Book) (c : Change) (x : Filter) → KeepsEntries f → (IsFair l → Fits l.remote x c) → (IsFair l → IsSound l tokens x) → At l x
      → Leads (At l) (λ u t. At l t × (IsFair l → IsTruly l.remote t)) (change_with f c x)
  changed l tokens f c x keeps fit sound h =
      change_leads (At l) (λ t. At l t × (IsFair l → IsTruly l.remote t)) f c x h h h
      (λ v is. (put v is, λ fair. sound_truly (Touches c) l tokens (with_notes (notice.Change (next_number v) c ∷ []) (with_volume (put_with_book f c v) x)) (changed_at l tokens f c x keeps (fits_meets l.remote x c (fit fair), fits_aims l.remote x c (fit fair)) (sound fair) v is)))
    where
      put : (v : Volume) → (v ≡ x.volume) ⊎ (v ≡ with_room_point x.volume) → At l (with_notes (notice.Change (next_number v) c ∷ []) (with_volume (put_with_book f c v) x))
      put v (inl q) = subst (λ (w : Volume). At l (with_notes (notice.Change (next_number w) c ∷ []) (with_volume (put_with_book f c w) x))) (sym q)
          (changing base ws e n (IsFair l) l.remote x.volume.log x.notes x.waiting.epoch x.waiting.waits x.waiting.wait_count (next_number x.volume) c h)
      put v (inr q) = subst (λ (w : Volume). At l (with_notes (notice.Change (next_number w) c ∷ []) (with_volume (put_with_book f c w) x))) (sym q)
          (changing base ws e n (IsFair l) l.remote x.volume.log x.notes x.waiting.epoch x.waiting.waits x.waiting.wait_count (next_number x.volume) c h)

  -- a wait that begins

  new_unknown : (epoch count k : ℕ) → epoch ≡ e → n ≤ count → WasGiven e n (key_after epoch (count + k)) → ⊥
  new_unknown epoch count k same more (inl h) = less epoch e same h where
    less : (a b : ℕ) → a ≡ b → a < b → ⊥
    less a b e h = omega (arith, e, h)
  new_unknown epoch count k same more (inr h) = past count k n more h.1 where
    past : (c k n : ℕ) → n ≤ c → c + k + 1 ≤ n → ⊥
    past c k n h g = omega (arith, h, g)

  known_new : (need : Need) (x : Filter) → x.waiting.epoch ≡ e → n ≤ x.waiting.wait_count → All (Known base ws e n) (wait_for need x ∷ beside need x)
  known_new need x same more = ((λ given. absurd (new_unknown x.waiting.epoch x.waiting.wait_count 0 same more given)), others (also_background need.background need.item x.waiting)) where
    others : (b : Bool) → All (Known base ws e n) (when b (wait_after x.waiting 1 wait_kind.Background need.item None no_span ∷ []))
    others true = ((λ given. absurd (new_unknown x.waiting.epoch x.waiting.wait_count 1 same more given)), tt)
    others false = tt

  begins_reading : (l : Link) (tokens : ℕ) (need : Need) (x : Filter) → (IsFair l → IsSound l tokens x) → At l x → Keeps (At l) (tell (begun need x) (with_own need x))
  begins_reading l tokens need x sound h =
      told base ws e n (IsFair l) l.remote (with_own need x) (begun need x) (λ fair. sound_truly NoItem l tokens (with_own need x) (sound fair))
      (all_ended (Known base ws e n) (λ w. Known base ws e n w.0 × EndsMet x w) (why need.item (view_at x need.item) Nothing x.waiting.asks) (λ w c k is. (k, step_ends x need.item Nothing tt w c is)) (x.waiting.waits ++ wait_for need x ∷ beside need x) known)
      (record {
        shown = lines.shown;
        same = lines.same;
        later = more n x.waiting.wait_count (length (wait_for need x ∷ beside need x)) h.later;
        known = all_filter (Known base ws e n) _ (x.waiting.waits ++ wait_for need x ∷ beside need x) known;
        lines = lines.lines;
      })
    where
      more : (a b c : ℕ) → a ≤ b → a ≤ b + c
      more a b c h = omega (arith, h)

      known : All (Known base ws e n) (x.waiting.waits ++ wait_for need x ∷ beside need x)
      known = all_append (Known base ws e n) x.waiting.waits (wait_for need x ∷ beside need x) h.known (known_new need x h.same h.later)

      lines : ReadingOf base ws e n (IsFair l) l.remote x.volume.log (x.notes ++ map background_line (beside need x)) x.waiting.epoch x.waiting.waits x.waiting.wait_count
      lines = plainly base ws e n (IsFair l) l.remote x.volume.log x.notes (map background_line (beside need x)) x.waiting.epoch x.waiting.waits x.waiting.wait_count (none_in background_line (λ w. refl) (beside need x)) (all_lines background_line (λ w. refl) (beside need x)) h

  downs_reading : (l : Link) (tokens : ℕ) (x : Filter) → (IsFair l → IsSound l tokens x) → At l x → Keeps (At l) (tell (all_down x) x)
  downs_reading l tokens x sound h =
      told base ws e n (IsFair l) l.remote x (all_down x) (λ fair. sound_truly NoItem l tokens x (sound fair))
      (all_map (Known base ws e n) (λ w. Known base ws e n w.0 × EndsMet x w) (λ w. (w, cause.Down)) (λ w k. (k, λ read met. absurd (not_down met))) x.waiting.waits h.known)
      (record { shown = h.shown; same = h.same; later = h.later; known = tt; lines = h.lines })
    where
      not_down : cause.Down ≡ cause.Met → ⊥
      not_down z = let y : ◌≡◌ {A = Cause} cause.Down cause.Met = z in cc

  begin_reading : (l : Link) (tokens : ℕ) (need : Need) (x : Filter) → (IsFair l → IsSound l tokens x) → At l x → Keeps (At l) (reading (begun need) (begin_now need) x)
  begin_reading l tokens need x sound h = keeps_bind (At l) (tell (begun need x) (with_own need x)) (λ _ t. Ret (shown.Pending (own_id need x)) t) (begins_reading l tokens need x sound h) (λ a t j. j)

  accesses : (l : Link) (item : ItemId) (is : Bool) (x : Filter) → At l x → At l (if is then accessed item x else x)
  accesses l item true x h = h
  accesses l item false x h = h

  filter_reading : {On : Knowledge} (l : Link) (tokens : ℕ) (P : Filter → Type 0) → GuardedFilter On l tokens P → GuardedFilter On l tokens (λ x. P x × At l x)
  filter_reading l tokens P closed = record {
    sound = λ x h fair. closed.sound x h.0 fair;
    change = λ f c x keeps seen free fit known h. keeps_both P (At l) (change_with f c x) (closed.change f c x keeps seen free fit known h.0)
        (kept_leads (At l) (change_with f c x) (leads_weaker (At l) (λ u t. At l t × (IsFair l → IsTruly l.remote t)) (λ u t. At l t) (change_with f c x) (λ u t k. k.0) (changed l tokens f c x keeps fit (closed.sound x h.0) h.1)));
    touch = λ f c item d x quiet keeps seen on fit known h. keeps_both P (At l) (then_do (change_with f c) (then_do (settle item d) done) x) (closed.touch f c item d x quiet keeps seen on fit known h.0)
        (kept_leads (At l) (then_do (change_with f c) (then_do (settle item d) done) x)
        (leads_bind (At l) (λ u t. At l t × (IsFair l → IsTruly l.remote t)) (λ u t. At l t) (change_with f c x) (λ _ t. then_do (settle item d) done t) (changed l tokens f c x keeps fit (closed.sound x h.0) h.1)
        (λ u t k. leads_kept (At l) (then_do (settle item d) done t) (keeps_bind (At l) (settle item d t) (λ _ y. done y) (settles base ws e n (IsFair l) l.remote item d t (quiet_others d quiet t) k.1 k.0) (λ b y m. m)))));
    commits = record { keeps = λ x h. keeps_both P (At l) (in_volume commit x) (closed.commits.keeps x h.0) (h.1, h.1) };
    settled = λ item d x others h. keeps_both P (At l) (settle item d x) (closed.settled item d x others h.0) (settles base ws e n (IsFair l) l.remote item d x others.0 (λ fair. sound_truly NoItem l tokens x (closed.sound x h.0 fair)) h.1);
    begins = λ need x plain fit unmet h. keeps_both P (At l) (reading (begun need) (begin_now need) x) (closed.begins need x plain fit unmet h.0) (begin_reading l tokens need x (closed.sound x h.0) h.1);
    downs = record { keeps = λ x h. keeps_both P (At l) (reading all_down tell x) (closed.downs.keeps x h.0) (downs_reading l tokens x (closed.sound x h.0) h.1) };
    keeps_accessed = λ item x h. (closed.keeps_accessed item x h.0, h.1);
    keeps_accessed_now = λ need x h. (closed.keeps_accessed_now need x h.0, accesses l need.item (is_access need.kind cause.Met) x h.1);
    keeps_as_it_is = λ x h. (closed.keeps_as_it_is x h.0, h.1);
    keeps_begin_call = λ x h. (closed.keeps_begin_call x h.0, h.1);
    keeps_connected_again = λ x h. (closed.keeps_connected_again x h.0, h.1);
    keeps_with_handle = λ item x fit h. (closed.keeps_with_handle item x fit h.0, h.1);
    keeps_with_time = λ ticks x h. (closed.keeps_with_time ticks x h.0, h.1);
    keeps_without_handle = λ handle x h. (closed.keeps_without_handle handle x h.0, h.1);
  }

  -- the whole

  abbrev AtState : State → Type 0
  AtState s = At s.link s.filter

  -- a line without a change and without data
  noted : (l : Link) (m : Notice) (x : Filter) → changes_in (m ∷ []) ≡ [] → data_shown m ≡ None → At l x → At l (with_notes (m ∷ []) x)
  noted l m x none plain h = plainly base ws e n (IsFair l) l.remote x.volume.log x.notes (m ∷ []) x.waiting.epoch x.waiting.waits x.waiting.wait_count none (plain, tt) h

  lined : (b : Bool) (c : Code) (s : State) → AtState s → AtState (skip_line b c s)
  lined true c s h = noted s.link (notice.Skipped c) s.filter refl refl h
  lined false c s h = h

  grown : (l k : Link) (x : Filter) → (IsFair k → IsFair l × Extends l.remote k.remote) → At l x → At k x
  grown l k x more h = growing base ws e n (IsFair l) (IsFair k) l.remote k.remote x.volume.log x.notes x.waiting.epoch x.waiting.waits x.waiting.wait_count more h

  module _ (P : State → Type 0) where
    abbrev pub Both : State → Type 0
    Both s = P s × AtState s

    pub guarded_reading : Guarded P → Guarded Both
    guarded_reading closed = record {
      replay = λ s h. closed.replay s h.0;
      on_filter = λ s h. filter_reading s.link s.volatile.tokens (λ x. P (with_filter x s)) (on_filter_weaker P Both (λ t k. k.0) s _ (closed.on_filter s h.0));
      keeps_counted = λ s h. (closed.keeps_counted s h.0, h.1);
      asked = λ q s well h. (closed.asked q s well h.0, grown s.link (with_remote (remote_step s.link.remote q).1 (counted s)).link s.filter (λ fair. ((fair.0, small_before s.link.remote q fair.1), step_extends s.link.remote q)) h.1);
      told = λ held s h. (closed.told held s h.0, grown s.link (distrusted (with_remote held (counted s))).link s.filter (λ fair. no_way fair.0) h.1);
      posts = λ f s other well now h. (closed.posts f s other well now h.0, noted s.link (notice.Message _) s.filter refl refl h.1);
      loses = λ f s h. (closed.loses f s h.0, noted s.link (notice.Message _) s.filter refl refl h.1);
      books = λ f s keeps placed known h. (closed.books f s keeps placed (λ fair. record_weaker P Both (λ t k. k.0) f s (known fair)) h.0, h.1);
      moved = λ e s is live known h. (closed.moved e s is live (λ fair. moved_weaker P Both (λ t k. k.0) e s (known fair)) h.0, h.1);
      leaves = λ token s h. (closed.leaves token s h.0, h.1);
      keeps_fault_line = λ m s h. (closed.keeps_fault_line m s h.0, noted s.link (notice.Fault m) s.filter refl refl h.1);
      keeps_showing = λ s h. (closed.keeps_showing s h.0, h.1);
      keeps_skipped = λ c s h. (closed.keeps_skipped c s h.0, lined s.running.shows_skips c (record s { running = record s.running { skips = s.running.skips + 1 } }) h.1);
      keeps_volatile_all_released = λ s h. (closed.keeps_volatile_all_released s h.0, h.1);
      keeps_volatile_held_and_closed = λ e s h. (closed.keeps_volatile_held_and_closed e s h.0, h.1);
      keeps_volatile_not_in_row = λ e s h. (closed.keeps_volatile_not_in_row e s h.0, h.1);
      keeps_volatile_round_closed = λ s h. (closed.keeps_volatile_round_closed s h.0, h.1);
      keeps_volatile_taken_from_row = λ e s h. (closed.keeps_volatile_taken_from_row e s h.0, h.1);
      keeps_volatile_with_not_empty = λ u s h. (closed.keeps_volatile_with_not_empty u s h.0, h.1);
      keeps_volatile_with_round = λ s h. (closed.keeps_volatile_with_round s h.0, h.1);
      keeps_volatile_with_taken_name = λ item s h. (closed.keeps_volatile_with_taken_name item s h.0, h.1);
      keeps_volatile_with_token = λ s h. (closed.keeps_volatile_with_token s h.0, h.1);
      keeps_with_clock_seen = λ clock s h. (closed.keeps_with_clock_seen clock s h.0, h.1);
      keeps_with_done = λ s h. (closed.keeps_with_done s h.0, h.1);
      keeps_with_outbox = λ a rest s e h. (closed.keeps_with_outbox a rest s e h.0, h.1);
      keeps_with_stray = λ r s h. (closed.keeps_with_stray r s h.0, h.1);
      keeps_with_token_used = λ s h. (closed.keeps_with_token_used s h.0, h.1);
      keeps_without_done = λ s h. (closed.keeps_without_done s h.0, h.1);
    }

    entering_reading : Entering P → Entering Both
    entering_reading entering = record { uploads = record { enters = λ e s well h. (entering.uploads.enters e s well h.0, h.1) }; feeds = λ f s well now h. (entering.feeds f s well now h.0, noted s.link (notice.Message _) s.filter refl refl h.1) }

    removing : (s : State) (f : Book → Book) (item : ItemId) → AtState s → Keeps (At s.link) (change_with f (change.Remove item) s.filter)
    removing s f item h = kept_leads (At s.link) (change_with f (change.Remove item) s.filter) (change_leads (At s.link) (λ t. At s.link t) f (change.Remove item) s.filter h h h (λ v is. put v is)) where
      put : (v : Volume) → (v ≡ s.filter.volume) ⊎ (v ≡ with_room_point s.filter.volume) → At s.link (with_notes (notice.Change (next_number v) (change.Remove item) ∷ []) (with_volume (put_with_book f (change.Remove item) v) s.filter))
      put v (inl q) = subst (λ (w : Volume). At s.link (with_notes (notice.Change (next_number w) (change.Remove item) ∷ []) (with_volume (put_with_book f (change.Remove item) w) s.filter))) (sym q)
          (changing base ws e n (IsFair s.link) s.link.remote s.filter.volume.log s.filter.notes s.filter.waiting.epoch s.filter.waiting.waits s.filter.waiting.wait_count (next_number s.filter.volume) (change.Remove item) h)
      put v (inr q) = subst (λ (w : Volume). At s.link (with_notes (notice.Change (next_number w) (change.Remove item) ∷ []) (with_volume (put_with_book f (change.Remove item) w) s.filter))) (sym q)
          (changing base ws e n (IsFair s.link) s.link.remote s.filter.volume.log s.filter.notes s.filter.waiting.epoch s.filter.waiting.waits s.filter.waiting.wait_count (next_number s.filter.volume) (change.Remove item) h)

    deleting_reading : Deleting P → Deleting Both
    deleting_reading deleting = record {
      deletes = λ f item s keeps seen cursor idle leaf h. keeps_both (λ x. P (with_filter x s)) (At s.link) (change_with f (change.Remove item) s.filter) (deleting.deletes f item s keeps seen cursor idle leaf h.0) (removing s f item h.1);
    }

    commanding_reading : Guarded P → Commanding P → Commanding Both
    commanding_reading closed commanding = record {
      waits = λ s need x fit unmet h. keeps_both (λ y. P (with_filter y s)) (At s.link) (reading (begun need) (begin_now need) x) (commanding.waits s need x fit unmet h.0) (begin_reading s.link s.volatile.tokens need x ((closed.on_filter (with_filter x s) h.0).sound x h.0) h.1);
      disconnects = λ s h. (commanding.disconnects s h.0, h.1);
      inlines = λ inline s h. (commanding.inlines inline s h.0, h.1);
    }

    ruling_reading : Ruling P → Ruling Both
    ruling_reading ruling = record { rules = λ p s v h. (ruling.rules p s v h.0, h.1) }

    -- an event other than those of the device
    pub event_reads : Guarded P → Entering P → Deleting P → Commanding P → Ruling P → (v : Event) → is_of mode.Replay v ≡ true → is_device v ≡ false → Preserves Both (event_now v)
    event_reads closed entering deleting commanding ruling (event.Call c) is off = call_now_keeps Both (guarded_reading closed) (commanding_reading closed commanding) c (λ _. deleting_reading deleting) (λ _. ruling_reading ruling)
    event_reads closed entering deleting commanding ruling (event.Device d) is off = no_way_back off
    event_reads closed entering deleting commanding ruling (event.Peer p) is off = other_event_keeps Both (guarded_reading closed) (entering_reading entering) (commanding_reading closed commanding) (ruling_reading ruling) (event.Peer p) is refl
    event_reads closed entering deleting commanding ruling (event.Engine g) is off = other_event_keeps Both (guarded_reading closed) (entering_reading entering) (commanding_reading closed commanding) (ruling_reading ruling) (event.Engine g) is refl
    event_reads closed entering deleting commanding ruling (event.Provider p) is off = no_way is
