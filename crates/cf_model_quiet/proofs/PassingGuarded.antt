-- What a pass leaves of what it rests on: the link answers at once, lines of what is left out stand, a provider is connected, no list call waits, and each
-- dehydration that waits has its live ask, whose callback was called.
use Rattle.std.proofs.Common.{◌≡◌, ◌+◌, ◌++◌, ◌∙◌, ℕ, Bool, true, false, List, [], ◌∷◌, refl, subst, sym}
use Rattle.std.specs.Prelude.{None, map, if◌then◌else◌}
use Rattle.std.proofs.lemmas.List.{append-nil}
use Rattle.cf_base.specs.declared.answers.Shown.TheVariants as shown
use Rattle.cf_base.specs.declared.changes.Change.{Change}
use Rattle.cf_base.specs.declared.codes.Code.{Code}
use Rattle.cf_base.specs.declared.ids.ItemId.{ItemId}
use Rattle.cf_base.specs.declared.ids.WaitId.{WaitId}
use Rattle.cf_base.specs.declared.waits.Ask.{Ask}
use Rattle.cf_base.specs.declared.waits.WaitKind.TheVariants as wait_kind
use Rattle.cf_model.specs.Arrows.{each, noted, reading, then_do}
use Rattle.cf_model.specs.Asks.{downed, left_of, new_asks, step_of, why, with_keys}
use Rattle.cf_model.specs.Books.{Book}
use Rattle.cf_model.specs.Changes.{change_with}
use Rattle.cf_model.specs.Missing.{View, Wait, no_span}
use Rattle.cf_model.specs.Operations.{done}
use Rattle.cf_model.specs.Points.{commit}
use Rattle.cf_model.specs.Requests.{Deed, Live, Nothing, Told, Waiting, also_background, is_dehydrate_wait, is_list_wait, wait_after}
use Rattle.cf_model.specs.Settling.{accessed, end_of, end_wait, is_access, is_own, settle, tell, tell_end, told_at, view_at, with_asks_told, with_ended, with_waiting}
use Rattle.cf_model.specs.Skips.{skip_line}
use Rattle.cf_model.specs.State.{Filter, Link, State, in_volume, with_filter}
use Rattle.cf_model.specs.Trees.{Keeps, Ret}
use Rattle.cf_model.specs.Waits.{Need, all_down, begin_now, begun, beside, own_id, wait_for, with_new_waits, with_own}
use Rattle.cf_model.specs.Words.{when}
use Rattle.cf_base.specs.declared.waits.Cause.{Cause}
use Rattle.cf_base.specs.declared.waits.Cause.TheVariants as cause
use Rattle.cf_base.specs.declared.waits.End.{End}
use Rattle.cf_model.proofs.ArrowLaws.{keeps_each, keeps_one, keeps_then}
use Rattle.cf_model.proofs.TreeLaws.{keeps_bind}
use Rattle.cf_model_laws.specs.Invariant.{All}
use Rattle.cf_model_laws.specs.Taken.{Knowledge}
use Rattle.cf_model_laws.proofs.Gathered.{all_append, all_both, all_filter, all_map, all_weaker}
use Rattle.cf_model_laws.proofs.Guarded.{EndsOn, Guarded, GuardedFilter, IsPlainNeed, Entering}
use Rattle.cf_model_laws.proofs.Leading.{kept_leads}
use Rattle.cf_model_laws.proofs.OutboxFacts.{Holds, change_keeps, told_keeps}
use Rattle.cf_model_laws.proofs.RightItems.{no_way}
use Rattle.cf_model_laws.proofs.SinceKept.{moved_weaker, on_filter_weaker, record_weaker}
use Rattle.cf_model_laws.proofs.SkipsGuarded.{keeps_both}
use Rattle.cf_model_laws.proofs.SoundFilters.{change_leads}
use Rattle.cf_model_convergence.specs.Hearing.{IsPlainAsk, IsPlainWait, is_asked_for}
use Rattle.cf_model_convergence.proofs.LinkGuarded.{filter_beside}
use Rattle.cf_model_convergence.proofs.WaitsCalm.{keyed_plain, new_plain}
use Rattle.cf_model_quiet.specs.Asked.{AreAsked, AreAskedBut}
use Rattle.cf_model_quiet.proofs.AskedGuarded.{aims_of, begun_but, none_asked, quiet_on, timed_asked}
use Rattle.cf_model_quiet.proofs.AskedWaits.{Aims, asked_but, kept, kept_asked, step_asked}

abbrev IsUnlisted : Wait → Type 0
IsUnlisted u = is_list_wait u.kind ≡ false

-- of the callbacks that are still to be called, and of what waits and is asked
abbrev pub Plainly : List Ask → Waiting → Type 0
Plainly o w = All IsUnlisted w.waits × AreAsked w × All IsPlainAsk o

-- a step of the ask rule, before which each dehydration that waits is asked for
module _ (o : List Ask) (w : Waiting) (item : ItemId) (v : View) (d : Deed) (h : AreAskedBut item w) (aims : Aims item d w.asks) (none : All IsUnlisted w.waits) (all : All (λ u. is_dehydrate_wait u.kind ≡ true → is_asked_for w.asks u ≡ true) w.waits) (boxed : All IsPlainAsk o) where
  abbrev ws : List Wait
  ws = left_of (why item v d w.asks) w.waits

  abbrev left : List Live
  left = kept w item v d h aims

  none_left : All IsUnlisted ws
  none_left = all_filter IsUnlisted _ w.waits none

  plain_left : All (IsPlainWait left) ws
  plain_left =
      all_both IsUnlisted (λ u. is_dehydrate_wait u.kind ≡ true → is_asked_for left u ≡ true) (IsPlainWait left) (λ u a b. (a, b)) ws none_left
      (all_both (λ u. is_dehydrate_wait u.kind ≡ true → is_asked_for w.asks u ≡ true) (λ u. is_asked_for w.asks u ≡ true → is_asked_for left u ≡ true) (λ u. is_dehydrate_wait u.kind ≡ true → is_asked_for left u ≡ true) (λ u a k e. k (a e)) ws
      (all_filter (λ u. is_dehydrate_wait u.kind ≡ true → is_asked_for w.asks u ≡ true) _ w.waits all) (kept_asked w item v d h aims))

  made_plain : All IsPlainAsk (map (λ a. a.ask) (step_of item v d w).0.made)
  made_plain =
      all_map (λ a. IsPlainAsk a.ask) IsPlainAsk (λ a. a.ask) (λ a k. k) (with_keys w.epoch w.key_count (new_asks item v ws left))
      (keyed_plain w.epoch w.key_count (new_asks item v ws left) (new_plain item v ws left plain_left))

  pub step_before : Plainly o (step_of item v d w).1
  step_before = (none_left, step_asked w item v d h aims, boxed)

  pub step_after : Plainly (o ++ map (λ a. a.ask) (step_of item v d w).0.made) (step_of item v d w).1
  step_after = (none_left, step_asked w item v d h aims, all_append IsPlainAsk o (map (λ a. a.ask) (step_of item v d w).0.made) boxed made_plain)

abbrev pub PlainFilter : Filter → Type 0
PlainFilter x = Holds Plainly x

settle_plain : (item : ItemId) (d : Deed) (x : Filter) → EndsOn item d x → PlainFilter x → Keeps PlainFilter (settle item d x)
settle_plain item d x on h =
    told_keeps Plainly x (told_at item d x)
    (step_before x.outbox x.waiting item (view_at x item) d (asked_but item x.waiting h.1) (aims_of item d x on) h.0 h.1.asked h.2)
    (step_after x.outbox x.waiting item (view_at x item) d (asked_but item x.waiting h.1) (aims_of item d x on) h.0 h.1.asked h.2)

-- a wait that begins for bytes

module _ (n : Need) (x : Filter) (plain : IsPlainNeed n) (h : PlainFilter x) where
  abbrev new : List Wait
  new = wait_for n x ∷ beside n x

  new_plainly : All (λ u. (is_list_wait u.kind ≡ false) × (is_dehydrate_wait u.kind ≡ false)) new
  new_plainly = (plain, by (also_background n.background n.item x.waiting)) where
    by : (b : Bool) → All (λ u. (is_list_wait u.kind ≡ false) × (is_dehydrate_wait u.kind ≡ false)) (when b (wait_after x.waiting 1 wait_kind.Background n.item None no_span ∷ []))
    by true = ((refl, refl), tt)
    by false = tt

  unlisted : All IsUnlisted (with_new_waits n x).waits
  unlisted = all_append IsUnlisted x.waiting.waits new h.0 (all_weaker (λ u. (is_list_wait u.kind ≡ false) × (is_dehydrate_wait u.kind ≡ false)) IsUnlisted (λ u k. k.0) new new_plainly)

  all_asked : All (λ u. is_dehydrate_wait u.kind ≡ true → is_asked_for x.waiting.asks u ≡ true) (with_new_waits n x).waits
  all_asked =
      all_append (λ u. is_dehydrate_wait u.kind ≡ true → is_asked_for x.waiting.asks u ≡ true) x.waiting.waits new h.1.asked
      (all_weaker (λ u. (is_list_wait u.kind ≡ false) × (is_dehydrate_wait u.kind ≡ false)) (λ u. is_dehydrate_wait u.kind ≡ true → is_asked_for x.waiting.asks u ≡ true) (λ u k e. no_way (sym k.1 ∙ e)) new new_plainly)

  pub begin_plain : Keeps PlainFilter (reading (begun n) (begin_now n) x)
  begin_plain =
      keeps_bind PlainFilter (tell (begun n x) (with_own n x)) (λ _ t. Ret (shown.Pending (own_id n x)) t)
      (told_keeps Plainly (with_own n x) (begun n x)
      (step_before x.outbox (with_new_waits n x) n.item (view_at x n.item) Nothing (begun_but n x h.1) tt unlisted all_asked h.2)
      (step_after x.outbox (with_new_waits n x) n.item (view_at x n.item) Nothing (begun_but n x h.1) tt unlisted all_asked h.2)) (λ a t j. j)

down_plain : (x : Filter) → PlainFilter x → Keeps PlainFilter (tell (all_down x) x)
down_plain x h =
    let k : Plainly x.outbox (downed x.waiting).1 = (tt, none_asked x.waiting h.1, h.2) in
    told_keeps Plainly x (all_down x) k (subst (λ (o : List Ask). Plainly o (downed x.waiting).1) (sym (append-nil x.outbox)) k)

-- and a provider is connected

abbrev IsUp : Filter → Type 0
IsUp x = x.connected ≡ true

change_up : (f : Book → Book) (c : Change) (x : Filter) → IsUp x → Keeps IsUp (change_with f c x)
change_up f c x h = kept_leads IsUp (change_with f c x) (change_leads IsUp IsUp f c x h h h (λ v is. h))

accessed_up : (item : ItemId) (is : Bool) (x : Filter) → IsUp x → IsUp (if is then accessed item x else x)
accessed_up item true x h = h
accessed_up item false x h = h

ended_up : (e : Wait × Cause) (x : Filter) → IsUp x → IsUp (with_ended e x)
ended_up e x h = accessed_up e.0.item (is_access e.0.kind e.1) (tell_end e.0.id (end_of x.volume.items e.0 e.1) (is_own e.0.id x) x) (tells e.0.id (end_of x.volume.items e.0 e.1) (is_own e.0.id x)) where
  tells : (i : WaitId) (d : End) (own : Bool) → IsUp (tell_end i d own x)
  tells i d true = h
  tells i d false = h

tell_up : (r : Told × Waiting) (x : Filter) → IsUp x → Keeps IsUp (tell r x)
tell_up r x h = (keeps_then IsUp (each end_wait r.0.ended) (noted (with_asks_told r.0)) (keeps_each IsUp end_wait r.0.ended (λ e. keeps_one IsUp (with_ended e) (λ y j. ended_up e y j))) (record { keeps = λ y j. j })).keeps (with_waiting r.1 x) h

begin_up : (n : Need) (x : Filter) → IsUp x → Keeps IsUp (reading (begun n) (begin_now n) x)
begin_up n x h = keeps_bind IsUp (tell (begun n x) (with_own n x)) (λ _ t. Ret (shown.Pending (own_id n x)) t) (tell_up (begun n x) (with_own n x) h) (λ a t j. j)

abbrev pub Serves : Filter → Type 0
Serves x = PlainFilter x × IsUp x

change_serves : (f : Book → Book) (c : Change) (x : Filter) → Serves x → Keeps Serves (change_with f c x)
change_serves f c x h = keeps_both PlainFilter IsUp (change_with f c x) ((change_keeps Plainly f c).keeps x h.0) (change_up f c x h.1)

settle_serves : (item : ItemId) (d : Deed) (x : Filter) → EndsOn item d x → Serves x → Keeps Serves (settle item d x)
settle_serves item d x on h = keeps_both PlainFilter IsUp (settle item d x) (settle_plain item d x on h.0) (tell_up (told_at item d x) x h.1)

begin_serves : (n : Need) (x : Filter) → IsPlainNeed n → Serves x → Keeps Serves (reading (begun n) (begin_now n) x)
begin_serves n x plain h = keeps_both PlainFilter IsUp (reading (begun n) (begin_now n) x) (begin_plain n x plain h.0) (begin_up n x h.1)

accessed_serves : (item : ItemId) (is : Bool) (x : Filter) → Serves x → Serves (if is then accessed item x else x)
accessed_serves item true x h = h
accessed_serves item false x h = h

filter_serves : {On : Knowledge} (l : Link) (tokens : ℕ) (P : Filter → Type 0) → GuardedFilter On l tokens P → GuardedFilter On l tokens (λ x. P x × Serves x)
filter_serves l tokens P closed = record {
  sound = λ x h fair. closed.sound x h.0 fair;
  change = λ f c x keeps seen free fit known h. keeps_both P Serves (change_with f c x) (closed.change f c x keeps seen free fit known h.0) (change_serves f c x h.1);
  touch = λ f c item d x quiet keeps seen on fit known h. keeps_both P Serves (then_do (change_with f c) (then_do (settle item d) done) x) (closed.touch f c item d x quiet keeps seen on fit known h.0)
      (keeps_bind Serves (change_with f c x) (λ _ t. then_do (settle item d) done t) (change_serves f c x h.1) (λ a t j. keeps_bind Serves (settle item d t) (λ _ y. done y) (settle_serves item d t (quiet_on d quiet item t) j) (λ b y m. m)));
  commits = record { keeps = λ x h. keeps_both P Serves (in_volume commit x) (closed.commits.keeps x h.0) (h.1, h.1) };
  settled = λ item d x ends h. keeps_both P Serves (settle item d x) (closed.settled item d x ends h.0) (settle_serves item d x ends.1 h.1);
  begins = λ n x plain fit unmet h. keeps_both P Serves (reading (begun n) (begin_now n) x) (closed.begins n x plain fit unmet h.0) (begin_serves n x plain h.1);
  downs = record { keeps = λ x h. keeps_both P Serves (reading all_down tell x) (closed.downs.keeps x h.0) (keeps_both PlainFilter IsUp (tell (all_down x) x) (down_plain x h.1.0) (tell_up (all_down x) x h.1.1)) };
  keeps_accessed = λ item x h. (closed.keeps_accessed item x h.0, h.1);
  keeps_accessed_now = λ n x h. (closed.keeps_accessed_now n x h.0, accessed_serves n.item (is_access n.kind cause.Met) x h.1);
  keeps_as_it_is = λ x h. (closed.keeps_as_it_is x h.0, h.1);
  keeps_begin_call = λ x h. (closed.keeps_begin_call x h.0, h.1);
  keeps_connected_again = λ x h. (closed.keeps_connected_again x h.0, (h.1.0, refl));
  keeps_with_handle = λ item x fit h. (closed.keeps_with_handle item x fit h.0, h.1);
  keeps_with_time = λ n x h. (closed.keeps_with_time n x h.0, ((h.1.0.0, timed_asked n x.waiting h.1.0.1, h.1.0.2), h.1.1));
  keeps_without_handle = λ handle x h. (closed.keeps_without_handle handle x h.0, h.1);
}

-- the whole

-- the link answers at once, and lines of what is left out stand
abbrev pub IsAnswering : State → Type 0
IsAnswering s = (s.link.inline ≡ true) × (s.running.shows_skips ≡ true)

line_serves : (b : Bool) (c : Code) (s : State) → Serves s.filter → Serves (skip_line b c s).filter
line_serves true c s h = h
line_serves false c s h = h

line_answers : (b : Bool) (c : Code) (s : State) → IsAnswering s → IsAnswering (skip_line b c s)
line_answers true c s h = h
line_answers false c s h = h

popped : (a : Ask) (rest outbox : List Ask) → outbox ≡ a ∷ rest → All IsPlainAsk outbox → All IsPlainAsk rest
popped a rest outbox e h = let k : All IsPlainAsk (a ∷ rest) = subst (All IsPlainAsk) e h in k.1

module _ (P : State → Type 0) where
  abbrev pub Passing : State → Type 0
  Passing s = (P s × Serves s.filter) × IsAnswering s

  pub guarded_passing : Guarded P → Guarded Passing
  guarded_passing closed = record {
    replay = λ s h. closed.replay s h.0.0;
    on_filter = λ s h. filter_beside s.link s.volatile.tokens (IsAnswering s) (λ x. P (with_filter x s) × Serves x) h.1 (filter_serves s.link s.volatile.tokens (λ x. P (with_filter x s)) (on_filter_weaker P Passing (λ t k. k.0.0) s _ (closed.on_filter s h.0.0)));
    keeps_counted = λ s h. ((closed.keeps_counted s h.0.0, h.0.1), h.1);
    asked = λ q s well h. ((closed.asked q s well h.0.0, h.0.1), h.1);
    told = λ held s h. ((closed.told held s h.0.0, h.0.1), h.1);
    posts = λ f s other well now h. ((closed.posts f s other well now h.0.0, h.0.1), h.1);
    loses = λ f s h. ((closed.loses f s h.0.0, h.0.1), h.1);
    books = λ f s keeps placed known h. ((closed.books f s keeps placed (λ fair. record_weaker P Passing (λ t k. k.0.0) f s (known fair)) h.0.0, h.0.1), h.1);
    moved = λ e s is live known h. ((closed.moved e s is live (λ fair. moved_weaker P Passing (λ t k. k.0.0) e s (known fair)) h.0.0, h.0.1), h.1);
    leaves = λ token s h. ((closed.leaves token s h.0.0, h.0.1), h.1);
    keeps_fault_line = λ m s h. ((closed.keeps_fault_line m s h.0.0, h.0.1), h.1);
    keeps_showing = λ s h. ((closed.keeps_showing s h.0.0, h.0.1), (h.1.0, refl));
    keeps_skipped = λ c s h. ((closed.keeps_skipped c s h.0.0, line_serves s.running.shows_skips c (record s { running = record s.running { skips = s.running.skips + 1 } }) h.0.1), line_answers s.running.shows_skips c (record s { running = record s.running { skips = s.running.skips + 1 } }) h.1);
    keeps_volatile_all_released = λ s h. ((closed.keeps_volatile_all_released s h.0.0, h.0.1), h.1);
    keeps_volatile_held_and_closed = λ e s h. ((closed.keeps_volatile_held_and_closed e s h.0.0, h.0.1), h.1);
    keeps_volatile_not_in_row = λ e s h. ((closed.keeps_volatile_not_in_row e s h.0.0, h.0.1), h.1);
    keeps_volatile_round_closed = λ s h. ((closed.keeps_volatile_round_closed s h.0.0, h.0.1), h.1);
    keeps_volatile_taken_from_row = λ e s h. ((closed.keeps_volatile_taken_from_row e s h.0.0, h.0.1), h.1);
    keeps_volatile_with_not_empty = λ n s h. ((closed.keeps_volatile_with_not_empty n s h.0.0, h.0.1), h.1);
    keeps_volatile_with_round = λ s h. ((closed.keeps_volatile_with_round s h.0.0, h.0.1), h.1);
    keeps_volatile_with_taken_name = λ item s h. ((closed.keeps_volatile_with_taken_name item s h.0.0, h.0.1), h.1);
    keeps_volatile_with_token = λ s h. ((closed.keeps_volatile_with_token s h.0.0, h.0.1), h.1);
    keeps_with_clock_seen = λ clock s h. ((closed.keeps_with_clock_seen clock s h.0.0, h.0.1), h.1);
    keeps_with_done = λ s h. ((closed.keeps_with_done s h.0.0, h.0.1), h.1);
    keeps_with_outbox = λ a rest s e h. ((closed.keeps_with_outbox a rest s e h.0.0, ((h.0.1.0.0, h.0.1.0.1, popped a rest s.filter.outbox e h.0.1.0.2), h.0.1.1)), h.1);
    keeps_with_stray = λ r s h. ((closed.keeps_with_stray r s h.0.0, h.0.1), h.1);
    keeps_with_token_used = λ s h. ((closed.keeps_with_token_used s h.0.0, h.0.1), h.1);
    keeps_without_done = λ s h. ((closed.keeps_without_done s h.0.0, h.0.1), h.1);
  }

  pub entering_passing : Entering P → Entering Passing
  entering_passing entering = record { uploads = record { enters = λ e s well h. ((entering.uploads.enters e s well h.0.0, h.0.1), h.1) }; feeds = λ f s well now h. ((entering.feeds f s well now h.0.0, h.0.1), h.1) }
