-- Lines that come while no feed is asked for.
use Rattle.std.proofs.Common.{◌≡◌, ◌+◌, Bool, true, false, List, [], ◌∷◌, ◌++◌, refl, sym, ◌∙◌, ap, map}
use Rattle.std.specs.Prelude.{ℕ, if◌then◌else◌, ◌||◌}
use Rattle.std.specs.List.{list_any}
use Rattle.std.proofs.lemmas.List.{append-nil, append_assoc}
use Rattle.cf_base.specs.declared.answers.Shown.TheVariants as shown
use Rattle.cf_base.specs.declared.changes.Change.{Change}
use Rattle.cf_base.specs.declared.codes.Code.{Code}
use Rattle.cf_base.specs.declared.ids.ItemId.{ItemId}
use Rattle.cf_base.specs.declared.ids.WaitId.{WaitId}
use Rattle.cf_base.specs.declared.notices.Frame.{Frame}
use Rattle.cf_base.specs.declared.notices.Notice.{Notice}
use Rattle.cf_base.specs.declared.notices.Notice.TheVariants as notice
use Rattle.cf_base.specs.declared.waits.Cause.{Cause}
use Rattle.cf_base.specs.declared.waits.End.{End}
use Rattle.cf_model.specs.Arrows.{each, noted, reading, then_do}
use Rattle.cf_model.specs.Books.{Book}
use Rattle.cf_model.specs.Changes.{change_with, next_number}
use Rattle.cf_model.specs.Messages.{next_message}
use Rattle.cf_model.specs.Missing.{Wait}
use Rattle.cf_model.specs.Operations.{done}
use Rattle.cf_model.specs.Points.{commit}
use Rattle.cf_model.specs.Requests.{Told, Waiting}
use Rattle.cf_model.specs.Settling.{accessed, ask_line, cancel_line, end_of, end_wait, is_access, is_own, settle, tell, tell_end, told_at, with_asks_told, with_ended, with_waiting}
use Rattle.cf_model.specs.Skips.{skip_line}
use Rattle.cf_model.specs.State.{Filter, Link, State, in_volume, with_filter}
use Rattle.cf_model.specs.Trees.{Keeps, Ret}
use Rattle.cf_model.specs.Waits.{Need, all_down, background_line, begin_now, begun, beside, own_id, with_own}
use Rattle.cf_model.proofs.ArrowLaws.{keeps_each, keeps_one, keeps_then}
use Rattle.cf_model.proofs.TreeLaws.{keeps_bind}
use Rattle.cf_model_laws.proofs.Guarded.{Guarded, GuardedFilter, Uploading}
use Rattle.cf_model_laws.proofs.Leading.{kept_leads}
use Rattle.cf_model_laws.proofs.RightItems.{no_way_back}
use Rattle.cf_model_laws.proofs.SinceKept.{moved_weaker, on_filter_weaker, record_weaker}
use Rattle.cf_model_laws.proofs.SkipsGuarded.{keeps_both}
use Rattle.cf_model_laws.proofs.SoundFilters.{change_leads}
use Rattle.cf_model_laws.specs.Taken.{Knowledge, is_feed}
use Rattle.cf_model_quiet.specs.LastPass.{asks_round}

-- none of these lines asks for a feed
abbrev pub AreUnfed : List Notice → Type 0
AreUnfed ns = list_any asks_round ns ≡ false

pub unfed_append : (xs ys : List Notice) → AreUnfed xs → AreUnfed ys → AreUnfed (xs ++ ys)
unfed_append [] ys h k = k
unfed_append (x ∷ xs) ys h k = by (asks_round x) h (unfed_append xs ys) where
  by : (b : Bool) → (b || list_any asks_round xs) ≡ false → (AreUnfed xs → AreUnfed ys → AreUnfed (xs ++ ys)) → (b || list_any asks_round (xs ++ ys)) ≡ false
  by true z more = no_way_back z
  by false z more = more z k

lines_unfed : {A : Type 0} (f : A → Notice) → ((a : A) → asks_round (f a) ≡ false) → (xs : List A) → AreUnfed (map f xs)
lines_unfed f none [] = refl
lines_unfed f none (x ∷ xs) = unfed_append (f x ∷ []) (map f xs) (rw (none x) refl) (lines_unfed f none xs)

one_unfed : (n : Notice) → asks_round n ≡ false → AreUnfed (n ∷ [])
one_unfed n e = rw e refl

-- since these notes
module _ (w : List Notice) where
  abbrev pub Unfed : List Notice → Type 0
  Unfed ns = (ls : List Notice) × (ns ≡ w ++ ls) × AreUnfed ls

  more : (new ns : List Notice) → AreUnfed new → Unfed ns → Unfed (ns ++ new)
  more new ns none h = (h.0 ++ new, ap (λ (xs : List Notice). xs ++ new) h.1 ∙ append_assoc w h.0 new, unfed_append h.0 new h.2 none)

  abbrev pub UnfedFilter : Filter → Type 0
  UnfedFilter x = Unfed x.notes

  change_unfed : (f : Book → Book) (c : Change) (x : Filter) → UnfedFilter x → Keeps UnfedFilter (change_with f c x)
  change_unfed f c x h = kept_leads UnfedFilter (change_with f c x) (change_leads UnfedFilter UnfedFilter f c x h h h (λ v is. more (notice.Change (next_number v) c ∷ []) x.notes refl h))

  accessed_unfed : (item : ItemId) (is : Bool) (x : Filter) → UnfedFilter x → UnfedFilter (if is then accessed item x else x)
  accessed_unfed item true x h = h
  accessed_unfed item false x h = h

  ended_unfed : (e : Wait × Cause) (x : Filter) → UnfedFilter x → UnfedFilter (with_ended e x)
  ended_unfed e x h = accessed_unfed e.0.item (is_access e.0.kind e.1) (tell_end e.0.id (end_of x.volume.items e.0 e.1) (is_own e.0.id x) x) (tells e.0.id (end_of x.volume.items e.0 e.1) (is_own e.0.id x)) where
    tells : (i : WaitId) (d : End) (own : Bool) → UnfedFilter (tell_end i d own x)
    tells i d true = h
    tells i d false = more (notice.Done i d ∷ []) x.notes refl h

  tell_unfed : (r : Told × Waiting) (x : Filter) → UnfedFilter x → Keeps UnfedFilter (tell r x)
  tell_unfed r x h =
      (keeps_then UnfedFilter (each end_wait r.0.ended) (noted (with_asks_told r.0)) (keeps_each UnfedFilter end_wait r.0.ended (λ e. keeps_one UnfedFilter (with_ended e) (λ y j. ended_unfed e y j)))
      (record { keeps = λ y j. asks y j })).keeps (with_waiting r.1 x) h where
        asks : (y : Filter) → UnfedFilter y → UnfedFilter (with_asks_told r.0 y)
        asks y j = more (map ask_line r.0.made) (y.notes ++ map cancel_line r.0.cancelled) (lines_unfed ask_line (λ a. refl) r.0.made) (more (map cancel_line r.0.cancelled) y.notes (lines_unfed cancel_line (λ k. refl) r.0.cancelled) j)

  begin_unfed : (n : Need) (x : Filter) → UnfedFilter x → Keeps UnfedFilter (reading (begun n) (begin_now n) x)
  begin_unfed n x h =
      keeps_bind UnfedFilter (tell (begun n x) (with_own n x)) (λ _ t. Ret (shown.Pending (own_id n x)) t)
      (tell_unfed (begun n x) (with_own n x) (more (map background_line (beside n x)) x.notes (lines_unfed background_line (λ u. refl) (beside n x)) h)) (λ a t j. j)

  filter_unfed : {On : Knowledge} (l : Link) (tokens : ℕ) (P : Filter → Type 0) → GuardedFilter On l tokens P → GuardedFilter On l tokens (λ x. P x × UnfedFilter x)
  filter_unfed l tokens P closed = record {
    sound = λ x h fair. closed.sound x h.0 fair;
    change = λ f c x keeps seen free fit known h. keeps_both P UnfedFilter (change_with f c x) (closed.change f c x keeps seen free fit known h.0) (change_unfed f c x h.1);
    touch = λ f c item d x quiet keeps seen on fit known h. keeps_both P UnfedFilter (then_do (change_with f c) (then_do (settle item d) done) x) (closed.touch f c item d x quiet keeps seen on fit known h.0)
        (keeps_bind UnfedFilter (change_with f c x) (λ _ t. then_do (settle item d) done t) (change_unfed f c x h.1) (λ a t j. keeps_bind UnfedFilter (settle item d t) (λ _ y. done y) (tell_unfed (told_at item d t) t j) (λ b y m. m)));
    commits = record { keeps = λ x h. keeps_both P UnfedFilter (in_volume commit x) (closed.commits.keeps x h.0) (h.1, h.1) };
    settled = λ item d x ends h. keeps_both P UnfedFilter (settle item d x) (closed.settled item d x ends h.0) (tell_unfed (told_at item d x) x h.1);
    begins = λ n x plain fit unmet h. keeps_both P UnfedFilter (reading (begun n) (begin_now n) x) (closed.begins n x plain fit unmet h.0) (begin_unfed n x h.1);
    downs = record { keeps = λ x h. keeps_both P UnfedFilter (reading all_down tell x) (closed.downs.keeps x h.0) (tell_unfed (all_down x) x h.1) };
    keeps_accessed = λ item x h. (closed.keeps_accessed item x h.0, h.1);
    keeps_accessed_now = λ n x h. (closed.keeps_accessed_now n x h.0, accessed_unfed n.item _ x h.1);
    keeps_as_it_is = λ x h. (closed.keeps_as_it_is x h.0, h.1);
    keeps_begin_call = λ x h. (closed.keeps_begin_call x h.0, h.1);
    keeps_connected_again = λ x h. (closed.keeps_connected_again x h.0, h.1);
    keeps_with_handle = λ item x fit h. (closed.keeps_with_handle item x fit h.0, h.1);
    keeps_with_time = λ n x h. (closed.keeps_with_time n x h.0, h.1);
    keeps_without_handle = λ handle x h. (closed.keeps_without_handle handle x h.0, h.1);
  }

  abbrev pub UnfedIn : State → Type 0
  UnfedIn s = UnfedFilter s.filter

  line_unfed : (b : Bool) (c : Code) (s : State) → UnfedIn s → UnfedIn (skip_line b c s)
  line_unfed true c s h = more (notice.Skipped c ∷ []) s.filter.notes refl h
  line_unfed false c s h = h

  posted : (f : Frame) (s : State) → is_feed f ≡ false → AreUnfed (notice.Message (record { message = next_message s; frame = f; lost = false }) ∷ [])
  posted f s other = one_unfed (notice.Message (record { message = next_message s; frame = f; lost = false })) other

  module _ (P : State → Type 0) where
    abbrev pub Both : State → Type 0
    Both s = P s × UnfedIn s

    pub guarded_unfed : Guarded P → Guarded Both
    guarded_unfed closed = record {
      replay = λ s h. closed.replay s h.0;
      on_filter = λ s h. filter_unfed s.link s.volatile.tokens (λ x. P (with_filter x s)) (on_filter_weaker P Both (λ t k. k.0) s _ (closed.on_filter s h.0));
      keeps_counted = λ s h. (closed.keeps_counted s h.0, h.1);
      asked = λ q s well h. (closed.asked q s well h.0, h.1);
      told = λ held s h. (closed.told held s h.0, h.1);
      posts = λ f s other well now h. (closed.posts f s other well now h.0, more (notice.Message (record { message = next_message s; frame = f; lost = false }) ∷ []) s.filter.notes (posted f s other) h.1);
      loses = λ f s h. (closed.loses f s h.0, more (notice.Message (record { message = next_message s; frame = f; lost = true }) ∷ []) s.filter.notes refl h.1);
      books = λ f s keeps placed known h. (closed.books f s keeps placed (λ fair. record_weaker P Both (λ t k. k.0) f s (known fair)) h.0, h.1);
      moved = λ e s is live known h. (closed.moved e s is live (λ fair. moved_weaker P Both (λ t k. k.0) e s (known fair)) h.0, h.1);
      leaves = λ token s h. (closed.leaves token s h.0, h.1);
      keeps_fault_line = λ m s h. (closed.keeps_fault_line m s h.0, more (notice.Fault m ∷ []) s.filter.notes refl h.1);
      keeps_showing = λ s h. (closed.keeps_showing s h.0, h.1);
      keeps_skipped = λ c s h. (closed.keeps_skipped c s h.0, line_unfed s.running.shows_skips c (record s { running = record s.running { skips = s.running.skips + 1 } }) h.1);
      keeps_volatile_all_released = λ s h. (closed.keeps_volatile_all_released s h.0, h.1);
      keeps_volatile_held_and_closed = λ e s h. (closed.keeps_volatile_held_and_closed e s h.0, h.1);
      keeps_volatile_not_in_row = λ e s h. (closed.keeps_volatile_not_in_row e s h.0, h.1);
      keeps_volatile_round_closed = λ s h. (closed.keeps_volatile_round_closed s h.0, h.1);
      keeps_volatile_taken_from_row = λ e s h. (closed.keeps_volatile_taken_from_row e s h.0, h.1);
      keeps_volatile_with_not_empty = λ n s h. (closed.keeps_volatile_with_not_empty n s h.0, h.1);
      keeps_volatile_with_round = λ s h. (closed.keeps_volatile_with_round s h.0, h.1);
      keeps_volatile_with_taken_name = λ item s h. (closed.keeps_volatile_with_taken_name item s h.0, h.1);
      keeps_volatile_with_token = λ s h. (closed.keeps_volatile_with_token s h.0, h.1);
      keeps_with_clock_seen = λ clock s h. (closed.keeps_with_clock_seen clock s h.0, h.1);
      keeps_with_done = λ s h. (closed.keeps_with_done s h.0, h.1);
      keeps_with_outbox = λ a rest s e h. (closed.keeps_with_outbox a rest s e h.0, h.1);
      keeps_with_stray = λ r s h. (closed.keeps_with_stray r s h.0, h.1);
      keeps_with_token_used = λ s h. (closed.keeps_with_token_used s h.0, h.1);
      keeps_without_done = λ s h. (closed.keeps_without_done s h.0, h.1);
    }

    pub uploading_unfed : Uploading P → Uploading Both
    uploading_unfed uploads = record { enters = λ e s well h. (uploads.enters e s well h.0, h.1) }

  pub none_yet : Unfed w
  none_yet = ([], sym (append-nil w), refl)
