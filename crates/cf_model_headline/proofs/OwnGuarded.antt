-- A read that waits in its own call: the machine keeps what is said of its end.
use Rattle.std.proofs.Common.{◌≡◌, ◌⊎◌, ◌+◌, ℕ, Bool, true, false, List, [], ◌∷◌, ◌++◌, refl, sym, ap, subst, inl, inr, if◌then◌else◌}
use Rattle.std.specs.Prelude.{None, map, Option, Some}
use Rattle.cf_base.specs.declared.answers.Shown.TheVariants as shown
use Rattle.cf_base.specs.declared.changes.Change.{Change}
use Rattle.cf_base.specs.declared.codes.Code.{Code}
use Rattle.cf_base.specs.declared.ids.ItemId.{ItemId}
use Rattle.cf_base.specs.declared.notices.Notice.{Notice}
use Rattle.cf_base.specs.declared.notices.Notice.TheVariants as notice
use Rattle.cf_base.specs.declared.waits.Cause.{Cause}
use Rattle.cf_base.specs.declared.waits.Cause.TheVariants as cause
use Rattle.cf_model.specs.Arrows.{reading, then_do}
use Rattle.cf_model.specs.Books.{Book}
use Rattle.cf_model.specs.Changes.{change_with, next_number, put_with_book}
use Rattle.cf_model.specs.Growth.{Extends}
use Rattle.cf_model.specs.Messages.{counted, distrusted, with_remote}
use Rattle.cf_model.specs.Operations.{done}
use Rattle.cf_model.specs.Points.{commit, with_room_point}
use Rattle.cf_model.specs.Settling.{accessed, is_access, settle, tell}
use Rattle.cf_model.specs.Skips.{skip_line}
use Rattle.cf_model.specs.State.{Filter, Link, State, Volume, in_volume, with_filter, with_notes, with_volume}
use Rattle.cf_model.specs.Store.{remote_step}
use Rattle.cf_model.specs.Trees.{Keeps, Ret}
use Rattle.cf_model.specs.Waits.{Need, all_down, background_line, begin_now, begun, beside, own_id, with_own}
use Rattle.cf_model.proofs.StoreLaws.{step_extends}
use Rattle.cf_model.proofs.TreeLaws.{keeps_bind}
use Rattle.cf_model_laws.specs.Fitting.{Fits, Touches}
use Rattle.cf_model_laws.specs.Invariant.{All, IsSound, NoItem}
use Rattle.cf_model_laws.specs.Premises.{IsFair}
use Rattle.cf_model_laws.proofs.Gathered.{all_map}
use Rattle.cf_model_laws.proofs.Guarded.{Guarded, GuardedFilter}
use Rattle.cf_model_laws.proofs.Leading.{Leads, kept_leads, leads_bind, leads_kept, leads_weaker}
use Rattle.cf_model_laws.proofs.RightItems.{fits_aims, fits_meets, no_way}
use Rattle.cf_model_laws.proofs.SkipsGuarded.{keeps_both}
use Rattle.cf_model_laws.proofs.SoundChanges.{KeepsEntries}
use Rattle.cf_model_laws.proofs.SoundFilters.{change_leads, changed_at}
use Rattle.cf_model_laws.proofs.SoundStates.{small_before}
use Rattle.cf_model_headline.specs.Reports.{changes_in}
use Rattle.cf_model_headline.proofs.ReadLines.{EndsMet, IsTruly, Log, sound_truly}
use Rattle.cf_model_headline.proofs.ShownChanges.{none_in}
use Rattle.cf_base.specs.declared.ids.WaitId.{WaitId}
use Rattle.cf_base.specs.declared.spans.Span.{Span}
use Rattle.cf_base.specs.declared.waits.End.{End}
use Rattle.cf_base.specs.declared.waits.End.TheVariants as end
use Rattle.cf_model_laws.proofs.BesideGuarded.{HoldsIn}
use Rattle.cf_model_headline.proofs.AskedReads.{IsThe, IsWait, not_new}
use Rattle.cf_model_headline.proofs.OwnReads.{At, Knows, OwnOf, all_the, begins_own, changing, growing, plainly, settles, told, under}
use Rattle.cf_model_headline.proofs.ReadsGuarded.{quiet_others}
use Rattle.cf_model_laws.proofs.SinceKept.{moved_weaker, on_filter_weaker, record_weaker}
use Rattle.cf_model_laws.specs.Taken.{Knowledge}

module _ (base : Log) (id : WaitId) (item : ItemId) (span : Span) where
  abbrev Of : Link → Filter → Type 0
  Of l x = At base id item span l x

  abbrev Known : Link → Filter → Type 0
  Known l x = Knows base id item span l x

  -- a change, after which contents are still what is held over the base
  changed : (l : Link) (tokens : ℕ) (f : Book → Book) (c : Change) (x : Filter) → KeepsEntries f → (IsFair l → Fits l.remote x c) → (IsFair l → IsSound l tokens x) → Known l x → Of l x
      → Leads (Of l) (λ u t. Of l t × (IsFair l → IsTruly l.remote t) × (IsFair l → All (IsThe id.0 item span) t.waiting.waits)) (change_with f c x)
  changed l tokens f c x keeps fit sound known h =
      change_leads (Of l) (λ t. Of l t × (IsFair l → IsTruly l.remote t) × (IsFair l → All (IsThe id.0 item span) t.waiting.waits)) f c x h h h
      (λ v is. (
        put v is,
        (λ fair. sound_truly (Touches c) l tokens (with_notes (notice.Change (next_number v) c ∷ []) (with_volume (put_with_book f c v) x)) (changed_at l tokens f c x keeps (fits_meets l.remote x c (fit fair), fits_aims l.remote x c (fit fair)) (sound fair) v is)),
        λ fair. (known fair).1,
      ))
    where
      put : (v : Volume) → (v ≡ x.volume) ⊎ (v ≡ with_room_point x.volume) → Of l (with_notes (notice.Change (next_number v) c ∷ []) (with_volume (put_with_book f c v) x))
      put v (inl q) = subst (λ (w : Volume). Of l (with_notes (notice.Change (next_number w) c ∷ []) (with_volume (put_with_book f c w) x))) (sym q)
          (changing base id item span (IsFair l) l.remote x.volume.log x.notes x.own x.ending (next_number x.volume) c h)
      put v (inr q) = subst (λ (w : Volume). Of l (with_notes (notice.Change (next_number w) c ∷ []) (with_volume (put_with_book f c w) x))) (sym q)
          (changing base id item span (IsFair l) l.remote x.volume.log x.notes x.own x.ending (next_number x.volume) c h)

  -- another wait begins
  begins_other_own : (l : Link) (tokens : ℕ) (need : Need) (x : Filter) → (IsFair l → IsSound l tokens x) → Known l x → Of l x → Keeps (Of l) (tell (begun need x) (with_own need x))
  begins_other_own l tokens need x sound known h =
      begins_own base id item span l tokens need x sound (all_the base id item span l tokens need x sound known)
      (record { shown = lines.shown; bytes_right = λ fair is bytes shows. absurd (other fair is) })
    where
      lines : OwnOf base id item span (IsFair l) l.remote x.volume.log (x.notes ++ map background_line (beside need x)) x.own x.ending
      lines = plainly base id item span (IsFair l) l.remote x.volume.log x.notes (map background_line (beside need x)) x.own x.ending (none_in background_line (λ w. refl) (beside need x)) h

      other : IsFair l → ◌≡◌ {A = Option WaitId} (Some (own_id need x)) (Some id) → ⊥
      other fair z = let y : own_id need x ≡ id = cc in not_new x.volume.epoch x.waiting.wait_count 0 x.waiting.epoch id.0 (sound fair).one_epoch (known fair).0 (ap (λ (w : WaitId). w.0) y)

  downs_own : (l : Link) (tokens : ℕ) (x : Filter) → (IsFair l → IsSound l tokens x) → Known l x → Of l x → Keeps (Of l) (tell (all_down x) x)
  downs_own l tokens x sound known h =
      told base id item span (IsFair l) l.remote x (all_down x) (λ fair. sound_truly NoItem l tokens x (sound fair))
      (all_map (λ w. IsFair l → IsThe id.0 item span w) (λ w. (IsFair l → IsThe id.0 item span w.0) × EndsMet x w) (λ w. (w, cause.Down)) (λ w k. (k, λ read met. absurd (not_down met))) x.waiting.waits (under (IsFair l) (IsThe id.0 item span) x.waiting.waits (λ fair. (known fair).1))) h
    where
      not_down : cause.Down ≡ cause.Met → ⊥
      not_down z = let y : ◌≡◌ {A = Cause} cause.Down cause.Met = z in cc

  filter_own : {On : Knowledge} (l : Link) (tokens : ℕ) (P : Filter → Type 0) → ((x : Filter) → P x → Known l x) → GuardedFilter On l tokens P → GuardedFilter On l tokens (λ x. P x × Of l x)
  filter_own l tokens P knows closed = record {
    sound = λ x h fair. closed.sound x h.0 fair;
    change = λ f c x keeps seen free fit known h. keeps_both P (Of l) (change_with f c x) (closed.change f c x keeps seen free fit known h.0)
        (kept_leads (Of l) (change_with f c x) (leads_weaker (Of l) (λ u t. Of l t × (IsFair l → IsTruly l.remote t) × (IsFair l → All (IsThe id.0 item span) t.waiting.waits)) (λ u t. Of l t) (change_with f c x) (λ u t k. k.0) (changed l tokens f c x keeps fit (closed.sound x h.0) (knows x h.0) h.1)));
    touch = λ f c i d x quiet keeps seen on fit known h. keeps_both P (Of l) (then_do (change_with f c) (then_do (settle i d) done) x) (closed.touch f c i d x quiet keeps seen on fit known h.0)
        (kept_leads (Of l) (then_do (change_with f c) (then_do (settle i d) done) x)
        (leads_bind (Of l) (λ u t. Of l t × (IsFair l → IsTruly l.remote t) × (IsFair l → All (IsThe id.0 item span) t.waiting.waits)) (λ u t. Of l t) (change_with f c x) (λ _ t. then_do (settle i d) done t) (changed l tokens f c x keeps fit (closed.sound x h.0) (knows x h.0) h.1)
        (λ u t k. leads_kept (Of l) (then_do (settle i d) done t) (keeps_bind (Of l) (settle i d t) (λ _ y. done y) (settles base id item span (IsFair l) l.remote i d t (quiet_others d quiet t) k.1 k.2 k.0) (λ b y m. m)))));
    commits = record { keeps = λ x h. keeps_both P (Of l) (in_volume commit x) (closed.commits.keeps x h.0) (h.1, h.1) };
    settled = λ i d x others h. keeps_both P (Of l) (settle i d x) (closed.settled i d x others h.0) (settles base id item span (IsFair l) l.remote i d x others.0 (λ fair. sound_truly NoItem l tokens x (closed.sound x h.0 fair)) (λ fair. (knows x h.0 fair).1) h.1);
    begins = λ need x plain fit unmet h. keeps_both P (Of l) (reading (begun need) (begin_now need) x) (closed.begins need x plain fit unmet h.0)
        (keeps_bind (Of l) (tell (begun need x) (with_own need x)) (λ _ t. Ret (shown.Pending (own_id need x)) t) (begins_other_own l tokens need x (closed.sound x h.0) (knows x h.0) h.1) (λ a t j. j));
    downs = record { keeps = λ x h. keeps_both P (Of l) (reading all_down tell x) (closed.downs.keeps x h.0) (downs_own l tokens x (closed.sound x h.0) (knows x h.0) h.1) };
    keeps_accessed = λ i x h. (closed.keeps_accessed i x h.0, h.1);
    keeps_accessed_now = λ need x h. (closed.keeps_accessed_now need x h.0, accesses l need.item (is_access need.kind cause.Met) x h.1);
    keeps_as_it_is = λ x h. (closed.keeps_as_it_is x h.0, h.1);
    keeps_begin_call = λ x h. (closed.keeps_begin_call x h.0, record { shown = h.1.shown; bytes_right = λ fair is bytes shows. absurd (no_ending bytes shows) });
    keeps_connected_again = λ x h. (closed.keeps_connected_again x h.0, h.1);
    keeps_with_handle = λ i x fit h. (closed.keeps_with_handle i x fit h.0, h.1);
    keeps_with_time = λ ticks x h. (closed.keeps_with_time ticks x h.0, h.1);
    keeps_without_handle = λ handle x h. (closed.keeps_without_handle handle x h.0, h.1);
  }
    where
      accesses : (l : Link) (i : ItemId) (is : Bool) (x : Filter) → Of l x → Of l (if is then accessed i x else x)
      accesses l i true x h = h
      accesses l i false x h = h

      no_ending : (bytes : List ℕ) → ◌≡◌ {A = Option End} None (Some (end.Data bytes)) → ⊥
      no_ending bytes z = cc

  -- the whole

  abbrev pub OfState : State → Type 0
  OfState s = Of s.link s.filter

  -- a line without a change
  noted : (l : Link) (m : Notice) (x : Filter) → changes_in (m ∷ []) ≡ [] → Of l x → Of l (with_notes (m ∷ []) x)
  noted l m x none h = plainly base id item span (IsFair l) l.remote x.volume.log x.notes (m ∷ []) x.own x.ending none h

  lined : (b : Bool) (c : Code) (s : State) → OfState s → OfState (skip_line b c s)
  lined true c s h = noted s.link (notice.Skipped c) s.filter refl h
  lined false c s h = h

  grown : (l k : Link) (x : Filter) → (IsFair k → IsFair l × Extends l.remote k.remote) → Of l x → Of k x
  grown l k x more h = growing base id item span (IsFair l) (IsFair k) l.remote k.remote x.volume.log x.notes x.own x.ending more h

  pub guarded_own : (P : State → Type 0) → ((s : State) → P s → HoldsIn (IsWait id.0 item span) s) → Guarded P → Guarded (λ s. P s × OfState s)
  guarded_own P knows closed = record {
    replay = λ s h. closed.replay s h.0;
    on_filter = λ s h. filter_own s.link s.volatile.tokens (λ x. P (with_filter x s)) (λ x k. knows (with_filter x s) k) (on_filter_weaker P (λ t. P t × OfState t) (λ t k. k.0) s _ (closed.on_filter s h.0));
    keeps_counted = λ s h. (closed.keeps_counted s h.0, h.1);
    asked = λ q s well h. (closed.asked q s well h.0, grown s.link (with_remote (remote_step s.link.remote q).1 (counted s)).link s.filter (λ fair. ((fair.0, small_before s.link.remote q fair.1), step_extends s.link.remote q)) h.1);
    told = λ held s h. (closed.told held s h.0, grown s.link (distrusted (with_remote held (counted s))).link s.filter (λ fair. no_way fair.0) h.1);
    posts = λ f s other well now h. (closed.posts f s other well now h.0, noted s.link (notice.Message _) s.filter refl h.1);
    loses = λ f s h. (closed.loses f s h.0, noted s.link (notice.Message _) s.filter refl h.1);
    books = λ f s keeps placed known h. (closed.books f s keeps placed (λ fair. record_weaker P (λ t. P t × OfState t) (λ t k. k.0) f s (known fair)) h.0, h.1);
    moved = λ e s is live known h. (closed.moved e s is live (λ fair. moved_weaker P (λ t. P t × OfState t) (λ t k. k.0) e s (known fair)) h.0, h.1);
    leaves = λ token s h. (closed.leaves token s h.0, h.1);
    keeps_fault_line = λ m s h. (closed.keeps_fault_line m s h.0, noted s.link (notice.Fault m) s.filter refl h.1);
    keeps_showing = λ s h. (closed.keeps_showing s h.0, h.1);
    keeps_skipped = λ c s h. (closed.keeps_skipped c s h.0, lined s.running.shows_skips c (record s { running = record s.running { skips = s.running.skips + 1 } }) h.1);
    keeps_volatile_all_released = λ s h. (closed.keeps_volatile_all_released s h.0, h.1);
    keeps_volatile_held_and_closed = λ e s h. (closed.keeps_volatile_held_and_closed e s h.0, h.1);
    keeps_volatile_not_in_row = λ e s h. (closed.keeps_volatile_not_in_row e s h.0, h.1);
    keeps_volatile_round_closed = λ s h. (closed.keeps_volatile_round_closed s h.0, h.1);
    keeps_volatile_taken_from_row = λ e s h. (closed.keeps_volatile_taken_from_row e s h.0, h.1);
    keeps_volatile_with_not_empty = λ u s h. (closed.keeps_volatile_with_not_empty u s h.0, h.1);
    keeps_volatile_with_round = λ s h. (closed.keeps_volatile_with_round s h.0, h.1);
    keeps_volatile_with_taken_name = λ item s h. (closed.keeps_volatile_with_taken_name item s h.0, h.1);
    keeps_volatile_with_token = λ s h. (closed.keeps_volatile_with_token s h.0, h.1);
    keeps_with_clock_seen = λ clock s h. (closed.keeps_with_clock_seen clock s h.0, h.1);
    keeps_with_done = λ s h. (closed.keeps_with_done s h.0, h.1);
    keeps_with_outbox = λ a rest s e h. (closed.keeps_with_outbox a rest s e h.0, h.1);
    keeps_with_stray = λ r s h. (closed.keeps_with_stray r s h.0, h.1);
    keeps_with_token_used = λ s h. (closed.keeps_with_token_used s h.0, h.1);
    keeps_without_done = λ s h. (closed.keeps_without_done s h.0, h.1);
  }
