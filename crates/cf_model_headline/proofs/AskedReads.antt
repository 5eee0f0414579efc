-- The wait of a read that was answered `pending`: as long as it is live it is for the file and the span that were asked for.
use Rattle.std.proofs.Common.{◌≡◌, ◌<◌, ◌≤◌, ◌+◌, ℕ, suc, Bool, true, false, List, [], ◌∷◌, ◌++◌, refl, sym, ◌∙◌, ap, subst, inl, inr, arith, length}
use Rattle.std.specs.Prelude.{Option, Some, None, Result, Ok}
use Rattle.cf_base.specs.declared.answers.Answer.{Answer}
use Rattle.cf_base.specs.declared.answers.Shown.{Shown}
use Rattle.cf_base.specs.declared.answers.Shown.TheVariants as shown
use Rattle.cf_base.specs.declared.calls.Call.TheVariants as call
use Rattle.cf_base.specs.declared.codes.Code.{Code}
use Rattle.cf_base.specs.declared.codes.Code.TheVariants as code
use Rattle.cf_base.specs.declared.events.Event.{Event}
use Rattle.cf_base.specs.declared.events.Event.TheVariants as event
use Rattle.cf_base.specs.declared.ids.Handle.{Handle}
use Rattle.cf_base.specs.declared.ids.ItemId.{ItemId}
use Rattle.cf_base.specs.declared.ids.Key.{Key}
use Rattle.cf_base.specs.declared.ids.WaitId.{WaitId}
use Rattle.cf_base.specs.declared.policies.Mode.TheVariants as mode
use Rattle.cf_base.specs.declared.spans.Span.{Span}
use Rattle.cf_base.specs.declared.waits.End.{End}
use Rattle.cf_base.specs.declared.waits.WaitKind.TheVariants as wait_kind
use Rattle.cf_model.specs.Arrows.{Arrow, choose, reading, unless}
use Rattle.cf_model.specs.Callbacks.{calling, drain, end_or_pending, finish, finish_call, result_of}
use Rattle.cf_model.specs.Events.{begun, tree_of}
use Rattle.cf_model.specs.Items.{Item}
use Rattle.cf_model.specs.Lawful.{IsStep, Runs}
use Rattle.cf_model.specs.LookUp.{find_path}
use Rattle.cf_model.specs.Missing.{Wait, no_span, span_of}
use Rattle.cf_model.specs.Numbers.{key_after}
use Rattle.cf_model.specs.Requests.{also_background, wait_after}
use Rattle.cf_model.specs.State.{Filter, Link, Open, State, in_filter, items_now, start, with_filter}
use Rattle.cf_model.specs.Settling.{tell}
use Rattle.cf_model.specs.Store.{Held}
use Rattle.cf_model.specs.Trees.{Asked, Fork, Keeps, Ret, Step, Tree}
use Rattle.cf_model.specs.Waits as waits
use Rattle.cf_model.specs.Waits.{Need, answer_or_begin, begin_tests, beside, but_directory, get, get_item, is_met_now, need, on_ok, on_open, opened_by, own_id, plain_need, read, read_item, read_need, refused, wait_for, wants_rest, with_own}
use Rattle.cf_model.specs.Words.{first_of, when}
use Rattle.cf_model_laws.specs.GivenOnce.{WasGiven}
use Rattle.cf_model_laws.specs.Invariant.{All, Invariant, IsSound}
use Rattle.cf_model_laws.specs.Premises.{IsFair, IsFresh}
use Rattle.cf_model_laws.proofs.BesideGuarded.{BesideRuns, Fact, Holds, HoldsIn, guarded_beside, tell_beside, whole_beside}
use Rattle.cf_model_laws.proofs.CallbacksGuarded.{drain_keeps}
use Rattle.cf_model_laws.proofs.ContentLaws.{run_sound, sound_whole, start_sound}
use Rattle.cf_model_laws.proofs.EventsGuarded.{runs_keep}
use Rattle.cf_model.proofs.TraceLaws.{runs_join}
use Rattle.cf_model_laws.proofs.FoundItems.{found_id}
use Rattle.cf_model_laws.proofs.Gathered.{all_append, all_filter, all_weaker}
use Rattle.cf_model_laws.proofs.Leading.{Leads, leads_any, leads_bind, leads_mapped}
use Rattle.cf_model_laws.proofs.Plainly.{kept_with}
use Rattle.cf_model_laws.proofs.SoundSettles.{same_item}
use Rattle.cf_model_laws.proofs.SoundStates.{sound_guarded}
use Rattle.cf_model_laws.proofs.WaitsGuarded as waits_keep
use Rattle.cf_model_headline.specs.Reads.{IsIn, IsSpanOf, Reads, ReadsAnswered}
use Rattle.cf_model_headline.specs.Reports.{Report, changes_in, standing}
use Rattle.cf_model_headline.proofs.ReadsAtOnceLaws.{led_ends}
use Rattle.cf_model_headline.proofs.ReadsLaws.{data_in_event}
use Rattle.cf_model_laws.proofs.FairBefore.{fair_before}
use Rattle.cf_model_headline.proofs.StepCases.{IsCase, IsOver, step_case}

-- numbers that were given are not given again

given_more : (e n m : ℕ) (k : Key) → WasGiven e n k → WasGiven e (n + m) k
given_more e n m k (inl h) = inl h
given_more e n m k (inr h) = inr (h.0, let z : k.number ≤ n = h.1 in omega (arith, z))

given_later : (e f n : ℕ) (k : Key) → e < f → WasGiven e n k → WasGiven f 0 k
given_later e f n k less (inl h) = inl (let z : k.epoch < e = h in omega (arith, less, z))
given_later e f n k less (inr h) = inl (let z : k.epoch ≡ e = h.0 in omega (arith, less, z))

pub not_new : (e n m f : ℕ) (k : Key) → f ≡ e → WasGiven e n k → key_after f (n + m) ≡ k → ⊥
not_new e n m f k same given z = by given where
  epochs : k.epoch ≡ e
  epochs = sym (ap (λ (x : Key). x.epoch) z) ∙ same

  numbers : k.number ≡ n + m + 1
  numbers = sym (ap (λ (x : Key). x.number) z)

  past : (a b c : ℕ) → a ≡ b + c + 1 → a ≤ b → ⊥
  past a b c e h = omega (arith, e, h)

  less : (a b : ℕ) → a ≡ b → a < b → ⊥
  less a b e h = omega (arith, e, h)

  by : WasGiven e n k → ⊥
  by (inl h) = less k.epoch e epochs h
  by (inr h) = past k.number n m numbers h.1

-- each live wait was given its number

abbrev pub AllGiven : Fact
AllGiven l e p log hs hn ws wn = IsFair l → All (λ w. WasGiven e wn w.id.0) ws

begins_given : (l : Link) (tokens : ℕ) (n : Need) (x : Filter) → (IsFair l → IsSound l tokens x) → Holds AllGiven l x → IsFair l → All (λ w. WasGiven x.volume.epoch (x.waiting.wait_count + length (wait_for n x ∷ beside n x)) w.id.0) (x.waiting.waits ++ wait_for n x ∷ beside n x)
begins_given l tokens n x sound h fair = by (also_background n.background n.item x.waiting) where
  same : x.waiting.epoch ≡ x.volume.epoch
  same = (sound fair).one_epoch

  old : (m : ℕ) → All (λ w. WasGiven x.volume.epoch (x.waiting.wait_count + m) w.id.0) x.waiting.waits
  old m = all_weaker (λ w. WasGiven x.volume.epoch x.waiting.wait_count w.id.0) (λ w. WasGiven x.volume.epoch (x.waiting.wait_count + m) w.id.0) (λ w k. given_more x.volume.epoch x.waiting.wait_count m w.id.0 k) x.waiting.waits (h fair)

  first : (m : ℕ) → 1 ≤ m → WasGiven x.volume.epoch (x.waiting.wait_count + m) (wait_for n x).id.0
  first m some = inr (same, less x.waiting.wait_count m some) where
    less : (a m : ℕ) → 1 ≤ m → a + 0 + 1 ≤ a + m
    less a m h = omega (arith, h)

  one : 1 ≤ 1
  one = omega arith

  two : 1 ≤ 2
  two = omega arith

  last : WasGiven x.volume.epoch (x.waiting.wait_count + 2) (key_after x.waiting.epoch (x.waiting.wait_count + 1))
  last = inr (same, less x.waiting.wait_count) where
    less : (a : ℕ) → a + 1 + 1 ≤ a + 2
    less a = omega arith

  by : (b : Bool) → All (λ w. WasGiven x.volume.epoch (x.waiting.wait_count + length (wait_for n x ∷ when b (wait_after x.waiting 1 wait_kind.Background n.item None no_span ∷ []))) w.id.0) (x.waiting.waits ++ wait_for n x ∷ when b (wait_after x.waiting 1 wait_kind.Background n.item None no_span ∷ []))
  by true = all_append (λ w. WasGiven x.volume.epoch (x.waiting.wait_count + 2) w.id.0) x.waiting.waits _ (old 2) (first 2 two, (last, tt))
  by false = all_append (λ w. WasGiven x.volume.epoch (x.waiting.wait_count + 1) w.id.0) x.waiting.waits _ (old 1) (first 1 one, tt)

given_runs : BesideRuns AllGiven
given_runs = record {
  beside = record {
    puts = λ l tokens c x sound fit h. h;
    ends = λ l e p log hs hn ws wn stays h fair. all_filter (λ w. WasGiven e wn w.id.0) stays ws (h fair);
    begins = begins_given;
    opens = λ l item x h. h;
    closes = λ l e p log hs hn ws wn stays h. h;
    stops = λ l e p log hs hn ws wn h fair. tt;
    grows = λ l k e p log hs hn ws wn fair h z. h (fair z).0;
  };
  removes = λ l tokens item x sound idle h. h;
  crashes = λ l e p log hs hn ws wn h fair. tt;
  opens = λ l p epoch v hs hn ws wn more h fair. tt;
}

pub run_given : (remote : Held) (clusters : ℕ) (trace : Report) (s : State) → IsFresh remote → Runs mode.Replay (start mode.Replay remote clusters) trace s → HoldsIn AllGiven s
run_given remote clusters trace s fresh runs =
    (runs_keep (λ u. Invariant u × HoldsIn AllGiven u) (whole_beside AllGiven given_runs Invariant sound_whole) (start mode.Replay remote clusters) trace s runs (start_sound remote clusters fresh, λ fair. tt)).1

-- a wait with this number is this read

abbrev pub IsThe : Key → ItemId → Span → Wait → Type 0
IsThe k item span w = w.id.0 ≡ k → (w.item ≡ item) × (w.span ≡ span)

abbrev pub IsWait : Key → ItemId → Span → Fact
IsWait k item span l e p log hs hn ws wn = IsFair l → WasGiven e wn k × All (IsThe k item span) ws

pub begins_other : (k : Key) (item : ItemId) (span : Span) (l : Link) (tokens : ℕ) (n : Need) (x : Filter) → (IsFair l → IsSound l tokens x) → Holds (IsWait k item span) l x
    → IsWait k item span l x.volume.epoch x.volume.place x.volume.log x.handles x.handle_count (x.waiting.waits ++ wait_for n x ∷ beside n x) (x.waiting.wait_count + length (wait_for n x ∷ beside n x))
begins_other k item span l tokens n x sound h fair =
    (given_more x.volume.epoch x.waiting.wait_count _ k (h fair).0, all_append (IsThe k item span) x.waiting.waits (wait_for n x ∷ beside n x) (h fair).1 (other (wait_for n x) 0, others (also_background n.background n.item x.waiting)))
  where
    other : (w : Wait) (m : ℕ) → key_after x.waiting.epoch (x.waiting.wait_count + m) ≡ k → (w.item ≡ item) × (w.span ≡ span)
    other w m z = absurd (not_new x.volume.epoch x.waiting.wait_count m x.waiting.epoch k (sound fair).one_epoch (h fair).0 z)

    others : (b : Bool) → All (IsThe k item span) (when b (wait_after x.waiting 1 wait_kind.Background n.item None no_span ∷ []))
    others true = (other (wait_after x.waiting 1 wait_kind.Background n.item None no_span) 1, tt)
    others false = tt

pub wait_runs : (k : Key) (item : ItemId) (span : Span) → BesideRuns (IsWait k item span)
wait_runs k item span = record {
  beside = record {
    puts = λ l tokens c x sound fit h. h;
    ends = λ l e p log hs hn ws wn stays h fair. ((h fair).0, all_filter (IsThe k item span) stays ws (h fair).1);
    begins = begins_other k item span;
    opens = λ l i x h. h;
    closes = λ l e p log hs hn ws wn stays h. h;
    stops = λ l e p log hs hn ws wn h fair. ((h fair).0, tt);
    grows = λ l m e p log hs hn ws wn fair h z. h (fair z).0;
  };
  removes = λ l tokens i x sound idle h. h;
  crashes = λ l e p log hs hn ws wn h fair. ((h fair).0, tt);
  opens = λ l p epoch v hs hn ws wn more h fair. (given_later v.epoch epoch wn k more (h fair).0, tt);
}

-- a read that waits

pub any_kept : {S A : Type 0} (P : S → Type 0) (p : Tree S A) → Keeps P p → Leads (λ s. Unit {0}) (λ a s. P s) p
any_kept P (Ret a s) h = h
any_kept P (Step s p) h = (tt, any_kept P p h.1)
any_kept P (Fork p q) h = (any_kept P p h.0, any_kept P q h.1)
any_kept P (Asked g) h = λ x. any_kept P (g x) (h x)

abbrev Any : {S : Type 0} → S → Type 0
Any s = Unit {0}

abbrev Waits_so : Link → ItemId → Span → Shown → Filter → Type 0
Waits_so l item span q x = (wait : WaitId) → q ≡ shown.Pending wait → Holds (IsWait wait.0 item span) l x

not_pending : (l : Link) (item : ItemId) (span : Span) (x : Filter) (c : Code) → Waits_so l item span (shown.Refused c) x
not_pending l item span x c wait z = let y : ◌≡◌ {A = Shown} (shown.Refused c) (shown.Pending wait) = z in cc

-- of the waits that a need adds only its own has its number
pub all_new : (l : Link) (tokens : ℕ) (n : Need) (x : Filter) → (IsFair l → IsSound l tokens x) → Holds AllGiven l x → IsFair l → All (IsThe (own_id n x).0 n.item n.span) (x.waiting.waits ++ wait_for n x ∷ beside n x)
all_new l tokens n x sound given fair = all_append (IsThe (own_id n x).0 n.item n.span) x.waiting.waits (wait_for n x ∷ beside n x) old ((λ z. (refl, refl)), others (also_background n.background n.item x.waiting)) where
  old : All (IsThe (own_id n x).0 n.item n.span) x.waiting.waits
  old = all_weaker (λ w. WasGiven x.volume.epoch x.waiting.wait_count w.id.0) (IsThe (own_id n x).0 n.item n.span) (λ w k z. absurd (not_new x.volume.epoch x.waiting.wait_count 0 x.waiting.epoch w.id.0 (sound fair).one_epoch k (sym z))) x.waiting.waits (given fair)

  apart : (a : ℕ) → a + 1 + 1 ≡ a + 0 + 1 → ⊥
  apart a e = omega (arith, e)

  others : (b : Bool) → All (IsThe (own_id n x).0 n.item n.span) (when b (wait_after x.waiting 1 wait_kind.Background n.item None no_span ∷ []))
  others true = ((λ z. absurd (apart x.waiting.wait_count (ap (λ (y : Key). y.number) z))), tt)
  others false = tt

pub begun_waits : (l : Link) (tokens : ℕ) (n : Need) (x : Filter) → (IsFair l → IsSound l tokens x) → Holds AllGiven l x → Keeps (Holds (IsWait (own_id n x).0 n.item n.span) l) (tell (waits.begun n x) (with_own n x))
begun_waits l tokens n x sound given =
    tell_beside (IsWait (own_id n x).0 n.item n.span) l (waits.begun n x) (with_own n x) (λ fair. (more fair, all_filter (IsThe (own_id n x).0 n.item n.span) _ (x.waiting.waits ++ wait_for n x ∷ beside n x) (all_new l tokens n x sound given fair)))
  where
    more : IsFair l → WasGiven x.volume.epoch (x.waiting.wait_count + length (wait_for n x ∷ beside n x)) (own_id n x).0
    more fair = inr ((sound fair).one_epoch, less x.waiting.wait_count (length (beside n x))) where
      less : (a b : ℕ) → a + 0 + 1 ≤ a + suc b
      less a b = omega arith

pending_is : (n : Need) (x : Filter) (l : Link) (t : Filter) (item : ItemId) (span : Span) → n.item ≡ item → n.span ≡ span → Holds (IsWait (own_id n x).0 n.item n.span) l t → Waits_so l item span (shown.Pending (own_id n x)) t
pending_is n x l t item span e f h wait z =
    let y : own_id n x ≡ wait = (let w : ◌≡◌ {A = Shown} (shown.Pending (own_id n x)) (shown.Pending wait) = z in cc) in
    subst (λ (w : WaitId). Holds (IsWait w.0 item span) l t) y (subst (λ (p : Span). Holds (IsWait (own_id n x).0 item p) l t) f (subst (λ (i : ItemId). Holds (IsWait (own_id n x).0 i n.span) l t) e h))

need_waits : (l : Link) (tokens : ℕ) (n : Need) (x : Filter) (item : ItemId) (span : Span) → n.item ≡ item → n.span ≡ span → (IsFair l → IsSound l tokens x) → Holds AllGiven l x → Leads Any (Waits_so l item span) (need n x)
need_waits l tokens n x item span e f sound given = by (is_met_now n x) where
  tests : (o : Option Code) → Leads Any (Waits_so l item span) (unless shown.Refused o (reading (waits.begun n) (waits.begin_now n)) x)
  tests (Some c) = not_pending l item span x c
  tests None =
      leads_bind Any (λ a t. Holds (IsWait (own_id n x).0 n.item n.span) l t) (Waits_so l item span) (tell (waits.begun n x) (with_own n x)) (λ _ t. Ret (shown.Pending (own_id n x)) t)
      (any_kept (Holds (IsWait (own_id n x).0 n.item n.span) l) (tell (waits.begun n x) (with_own n x)) (begun_waits l tokens n x sound given)) (λ a t h. pending_is n x l t item span e f h)

  by : (b : Bool) → Leads Any (Waits_so l item span) (answer_or_begin n b x)
  by true = (tt, λ wait z. let y : ◌≡◌ {A = Shown} (shown.Ended _) (shown.Pending wait) = z in cc)
  by false = tests (first_of (begin_tests n x))

get_waits : (l : Link) (tokens : ℕ) (path : List ℕ) (asked : Span) (i : Item) (x : Filter) → find_path x.volume.items path ≡ Ok i → (IsFair l → IsSound l tokens x) → Holds AllGiven l x → Leads Any (Waits_so l i.id asked) (get path asked x)
get_waits l tokens path asked i x found sound given = subst (λ (r : Result Item Code). Leads Any (Waits_so l i.id asked) (on_ok (but_directory (get_item asked)) r x)) (sym found) (by i.directory) where
  by : (b : Bool) → Leads Any (Waits_so l i.id asked) (choose b (refused code.IsDirectory) (get_item asked i) x)
  by true = not_pending l i.id asked x code.IsDirectory
  by false = need_waits l tokens (plain_need wait_kind.Read i.id asked) x i.id asked refl refl sound given

read_waits : (l : Link) (tokens : ℕ) (h : Handle) (asked : Span) (o : Open) (x : Filter) → opened_by h x ≡ Some o → (IsFair l → IsSound l tokens x) → Holds AllGiven l x → Leads Any (Waits_so l o.item asked) (read h asked x)
read_waits l tokens h asked o x opened sound given =
    subst (λ (r : Option Open). Leads Any (Waits_so l o.item asked) (on_open (read_item h asked) r x)) (sym opened) (need_waits l tokens (read_need h asked o.item (wants_rest x)) x o.item asked refl refl sound given)

-- the callbacks of the call change nothing of it

abbrev is_pending : Shown → Bool
is_pending (shown.Pending wait) = true
is_pending _ = false

abbrev Read_so : ItemId → Span → Shown → State → Type 0
Read_so item span q s = (wait : WaitId) → q ≡ shown.Pending wait → HoldsIn (IsWait wait.0 item span) s

calling_waits : (part : Arrow Filter Shown) (item : ItemId) (span : Span) (s : State) → Keeps (λ x. Invariant (with_filter x s)) (part s.filter) → Leads Any (Waits_so s.link item span) (part s.filter) → Leads Any (Read_so item span) (calling part s)
calling_waits part item span s kept waited =
    leads_bind Any (λ q t. Invariant t × Read_so item span q t) (Read_so item span) (in_filter part s) finish_call
    (leads_mapped (λ x. Invariant (with_filter x s)) (λ q x. Invariant (with_filter x s) × Waits_so s.link item span q x) Any (λ q t. Invariant t × Read_so item span q t) (λ x. with_filter x s) (part s.filter) (λ x h. tt) (λ q x h. h)
    (kept_with (λ x. Invariant (with_filter x s)) (Waits_so s.link item span) (part s.filter) kept waited))
    (λ q t h. after q t h)
  where
    pends : (o : Option End) (id wait : WaitId) → end_or_pending id o ≡ shown.Pending wait → shown.Pending id ≡ shown.Pending wait
    pends None id wait z = z
    pends (Some e) id wait z = let y : ◌≡◌ {A = Shown} (shown.Ended e) (shown.Pending wait) = z in cc

    was_pending : (q : Shown) (u : Filter) (wait : WaitId) → result_of q u ≡ shown.Pending wait → q ≡ shown.Pending wait
    was_pending (shown.Pending id) u wait z = pends u.ending id wait z
    was_pending q u wait z = z

    finishes : (q : Shown) (u : State) → ((wait : WaitId) → q ≡ shown.Pending wait → HoldsIn (IsWait wait.0 item span) u) → Leads Any (Read_so item span) (in_filter (finish q) u)
    finishes q u h = λ wait z. h wait (was_pending q u.filter wait z)

    -- another answer than `pending`
    never : {A : Type 0} (q : Shown) (wait : WaitId) → is_pending q ≡ false → q ≡ shown.Pending wait → A
    never q wait other z = absurd (no_truth (sym other ∙ ap is_pending z)) where
      no_truth : false ≡ true → ⊥
      no_truth y = cc

    after : (q : Shown) (t : State) → Invariant t × Read_so item span q t → Leads Any (Read_so item span) (finish_call q t)
    after (shown.Pending id) t h =
        let P : State → Type 0 = λ u. Invariant u × HoldsIn (IsWait id.0 item span) u in
        leads_bind Any (λ a u. P u) (Read_so item span) (drain t) (λ _ u. in_filter (finish (shown.Pending id)) u)
        (any_kept P (drain t) ((drain_keeps P (guarded_beside (IsWait id.0 item span) (wait_runs id.0 item span).beside Invariant sound_guarded)).keeps t (h.0, h.1 id refl)))
        (λ a u k. finishes (shown.Pending id) u (λ wait z. subst (λ (w : WaitId). HoldsIn (IsWait w.0 item span) u) (let y : id ≡ wait = cc in y) k.1))
    after q t h = leads_bind Any (λ a u. Unit {0}) (Read_so item span) (drain t) (λ _ u. in_filter (finish q) u) (leads_any (λ a u. Unit {0}) (drain t) (λ a u. tt)) (λ a u k. finishes q u (λ wait z. never q wait refl z))

tree_waits : (s : State) (e : Event) (i : Item) (asked : Span) → Invariant s → HoldsIn AllGiven s → Reads s e i asked → Leads Any (Read_so i.id asked) (tree_of e s)
tree_waits s (event.Call (call.Get path offset len)) i asked sound given h =
    subst (λ (p : Span). Leads Any (Read_so i.id p) (tree_of (event.Call (call.Get path offset len)) s)) (sym h.1)
    (calling_waits (get path (span_of offset len)) i.id (span_of offset len) (begun s)
    ((waits_keep.get_keeps s.link s.volatile.tokens (λ x. Invariant (with_filter x (begun s))) (sound_guarded.on_filter (begun s) sound) path (span_of offset len)).keeps (begun s).filter sound)
    (get_waits s.link s.volatile.tokens path (span_of offset len) i (begun s).filter h.0 sound.1 given))
tree_waits s (event.Call (call.Read handle offset len)) i asked sound given h =
    subst (λ (p : Span). Leads Any (Read_so i.id p) (tree_of (event.Call (call.Read handle offset len)) s)) (sym h.3)
    (subst (λ (k : ItemId). Leads Any (Read_so k (span_of offset len)) (tree_of (event.Call (call.Read handle offset len)) s)) (sym (same_item i.id h.0.item (found_id h.0.item (items_now s) i h.2)))
    (calling_waits (read handle (span_of offset len)) h.0.item (span_of offset len) (begun s)
    ((waits_keep.read_keeps s.link s.volatile.tokens (λ x. Invariant (with_filter x (begun s))) (sound_guarded.on_filter (begun s) sound) handle (span_of offset len)).keeps (begun s).filter sound)
    (read_waits s.link s.volatile.tokens handle (span_of offset len) h.0 (begun s).filter h.1 sound.1 given)))
tree_waits s e i asked sound given h = absurd h

step_waits : (s : State) (e : Event) (b : Answer) (t : State) (i : Item) (asked : Span) (wait : WaitId) → Invariant s → HoldsIn AllGiven s → IsStep mode.Replay s e b t → Reads s e i asked → b.shown ≡ shown.Pending wait → HoldsIn (IsWait wait.0 i.id asked) t
step_waits s e b t i asked wait sound given is h pending = by (step_case mode.Replay s e b t is) where
  refused_not : (c : Code) → ◌≡◌ {A = Shown} (shown.Refused c) (shown.Pending wait) → HoldsIn (IsWait wait.0 i.id asked) t
  refused_not c z = cc

  over : IsOver s e (t, b) → HoldsIn (IsWait wait.0 i.id asked) t
  over (inl k) = led_ends (Read_so i.id asked) (tree_of e s) k.0 t (tree_waits s e i asked sound given h) k.1 wait (sym (ap (λ (x : Answer). x.shown) k.2) ∙ pending)
  over (inr k) = refused_not code.Device (sym (ap (λ (x : Answer). x.shown) k.3) ∙ pending)

  by : IsCase s e (t, b) → HoldsIn (IsWait wait.0 i.id asked) t
  by (inl k) = refused_not k.0 (sym (ap (λ (x : Answer). x.shown) k.3) ∙ pending)
  by (inr k) = over k.1

in_all : (P : Wait → Type 0) (ws : List Wait) (w : Wait) → All P ws → IsIn w ws → P w
in_all P [] w h is = absurd is
in_all P (v ∷ vs) w h (inl e) = subst P (sym e) h.0
in_all P (v ∷ vs) w h (inr is) = in_all P vs w h.1 is

pub reads_answered : (remote : Held) (clusters : ℕ) (report : Report) (last : State) → IsFresh remote → IsFair last.link → ReadsAnswered remote clusters report last
reads_answered remote clusters report last fresh fair early between rest s t u v ask e b a parts led asks on is leads i asked wait reads pending front back line bytes lines shows =
    subst (λ (p : Span). IsSpanOf last.link.remote (standing (early ++ (ask, b) ∷ between) ++ changes_in front) i.id p bytes) the.1
    (subst (λ (k : ItemId). IsSpanOf last.link.remote (standing (early ++ (ask, b) ∷ between) ++ changes_in front) k x.0.span bytes) the.0 x.3)
  where
    sound : Invariant s
    sound = run_sound remote clusters early s led fresh

    next : Invariant t
    next = runs_keep Invariant sound_whole s ((ask, b) ∷ []) t (t, asks, refl) sound

    there : Invariant u × HoldsIn (IsWait wait.0 i.id asked) u
    there = runs_keep (λ y. Invariant y × HoldsIn (IsWait wait.0 i.id asked) y) (whole_beside (IsWait wait.0 i.id asked) (wait_runs wait.0 i.id asked) Invariant sound_whole) t between u on
        (next, step_waits s ask b t i asked wait sound (run_given remote clusters early s fresh led) asks reads pending)

    fair_then : IsFair u.link
    fair_then = fair_before u ((e, a) ∷ rest) last there.0 (v, is, leads) fair

    known : WasGiven u.filter.volume.epoch u.filter.waiting.wait_count wait.0 × All (IsThe wait.0 i.id asked) u.filter.waiting.waits
    known = there.1 fair_then

    x : (w : Wait) × IsIn w u.filter.waiting.waits × (w.id ≡ wait) × IsSpanOf last.link.remote (standing (early ++ (ask, b) ∷ between) ++ changes_in front) w.item w.span bytes
    x = data_in_event remote clusters last fresh fair (early ++ (ask, b) ∷ between) rest u e a v (runs_join mode.Replay (start mode.Replay remote clusters) s u early ((ask, b) ∷ between) led (t, asks, on)) is leads front back line wait bytes lines shows known.0

    the : (x.0.item ≡ i.id) × (x.0.span ≡ asked)
    the = in_all (IsThe wait.0 i.id asked) u.filter.waiting.waits x.0 known.1 x.1 (ap (λ (w : WaitId). w.0) x.2)
