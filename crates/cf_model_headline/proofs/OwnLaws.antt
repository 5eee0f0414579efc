-- A read that is answered with data in its own call.
use Rattle.std.proofs.Common.{◌≡◌, ◌⊎◌, ◌+◌, ℕ, Bool, true, false, List, [], ◌∷◌, ◌++◌, append-nil, refl, sym, ◌∙◌, ap, subst, inl, inr}
use Rattle.std.specs.Prelude.{Option, Some, None, Result, Ok, slice_range, ◌==◌}
use Rattle.cf_base.specs.declared.answers.Answer.{Answer}
use Rattle.cf_base.specs.declared.answers.Shown.{Shown}
use Rattle.cf_base.specs.declared.answers.Shown.TheVariants as shown
use Rattle.cf_base.specs.declared.calls.Call.TheVariants as call
use Rattle.cf_base.specs.declared.codes.Code.{Code}
use Rattle.cf_base.specs.declared.codes.Code.TheVariants as code
use Rattle.cf_base.specs.declared.events.Event.{Event}
use Rattle.cf_base.specs.declared.events.Event.TheVariants as event
use Rattle.cf_base.specs.declared.ids.Handle.{Handle}
use Rattle.cf_base.specs.declared.ids.ItemId.{ItemId}
use Rattle.cf_base.specs.declared.ids.WaitId.{WaitId}
use Rattle.cf_base.specs.declared.notices.Notice.{Notice}
use Rattle.cf_base.specs.declared.policies.Mode.TheVariants as mode
use Rattle.cf_base.specs.declared.spans.Span.{Span}
use Rattle.cf_base.specs.declared.waits.Cause.TheVariants as cause
use Rattle.cf_base.specs.declared.waits.End.{End}
use Rattle.cf_base.specs.declared.waits.End.TheVariants as end
use Rattle.cf_base.specs.declared.waits.WaitKind.TheVariants as wait_kind
use Rattle.cf_model.specs.Arrows.{Arrow, choose, reading, unless}
use Rattle.cf_model.specs.Callbacks.{calling, drain, end_or_pending, finish, finish_call}
use Rattle.cf_model.specs.Contents.{IsTrueTo}
use Rattle.cf_model.specs.Events.{begun, tree_of}
use Rattle.cf_model.specs.Growth.{Extends}
use Rattle.cf_model.specs.Identities.{content}
use Rattle.cf_model.specs.Items.{Item, item_of}
use Rattle.cf_model.specs.Lawful.{Runs}
use Rattle.cf_model.specs.Logs.{items_of}
use Rattle.cf_model.specs.LookUp.{find_path}
use Rattle.cf_model.specs.Missing.{span_of}
use Rattle.cf_model.specs.Numbers.{most}
use Rattle.cf_model.specs.Settling.{end_of, tell}
use Rattle.cf_model.specs.State.{Filter, Link, Open, State, in_filter, items_now, start, with_filter}
use Rattle.cf_model.specs.Store.{Held}
use Rattle.cf_model.specs.Trees.{Keeps, Ret}
use Rattle.cf_model.specs.Waits as waits
use Rattle.cf_model.specs.Waits.{Need, answer_or_begin, begin_tests, but_directory, get, get_item, is_met_now, need, on_ok, on_open, opened_by, own_id, plain_need, read, read_item, read_need, refused, wait_for, wants_rest, with_own}
use Rattle.cf_model.specs.Words.{first_of}
use Rattle.cf_model.proofs.RemoteLaws.{runs_extend}
use Rattle.cf_model_laws.specs.Invariant.{HasBase, Invariant, IsSound, NoItem}
use Rattle.cf_model_laws.specs.Premises.{IsFair, IsFresh}
use Rattle.cf_model_laws.proofs.BesideGuarded.{Holds, HoldsIn, guarded_beside}
use Rattle.cf_model_laws.proofs.CallbacksGuarded.{drain_keeps}
use Rattle.cf_model_laws.proofs.ContentLaws.{run_sound, sound_whole}
use Rattle.cf_model_laws.proofs.EventsGuarded.{runs_keep}
use Rattle.cf_model_laws.proofs.FoundItems.{found_id}
use Rattle.cf_model_laws.proofs.Gathered.{all_found}
use Rattle.cf_model_laws.proofs.Leading.{Leads, leads_any, leads_bind, leads_mapped}
use Rattle.cf_model_laws.proofs.LoggedGuarded.{content_grows}
use Rattle.cf_model_laws.proofs.Plainly.{kept_with}
use Rattle.cf_model_laws.proofs.ReadLaws.{read_right}
use Rattle.cf_model_laws.proofs.SkipsGuarded.{keeps_both}
use Rattle.cf_model_laws.proofs.SoundSettles.{same_item}
use Rattle.cf_model_laws.proofs.SoundStates.{sound_guarded}
use Rattle.cf_model_laws.proofs.WaitsGuarded as waits_keep
use Rattle.cf_model_headline.specs.Reads.{IsSpanOf, Reads, ReadsInCall}
use Rattle.cf_model_headline.specs.Reports.{OfEach, Report, changes_in, standing}
use Rattle.cf_model_headline.proofs.AskedReads.{AllGiven, IsWait, all_new, any_kept, begun_waits, run_given, wait_runs}
use Rattle.cf_model_headline.proofs.OwnCalls.{IsOwn, drained_own, tell_own}
use Rattle.cf_model_headline.proofs.OwnGuarded.{OfState, guarded_own}
use Rattle.cf_model_headline.proofs.OwnReads.{At, begins_own, plainly_begun}
use Rattle.cf_model_headline.proofs.ReadLines.{IsRight, IsTruly, Log, sound_truly}
use Rattle.cf_model_headline.proofs.ReadsAtOnceLaws.{led_ends}
use Rattle.cf_model_laws.proofs.FairBefore.{fair_before}
use Rattle.cf_model_headline.proofs.StandingLaws.{shows_all}
use Rattle.cf_model_headline.proofs.StepCases.{IsCase, IsOver, step_case}

abbrev Any : {S : Type 0} → S → Type 0
Any s = Unit {0}

-- what a call's part leaves: right data, or a wait that is this read
module _ (base : Log) (l : Link) (tokens : ℕ) (item : ItemId) (span : Span) where
  abbrev Begins_so : Shown → Filter → Type 0
  Begins_so q x =
      ((bytes : List ℕ) → q ≡ shown.Ended (end.Data bytes) → IsFair l → IsRight l.remote base item span bytes)
      × ((wait : WaitId) → q ≡ shown.Pending wait → Holds (IsWait wait.0 item span) l x × At base wait item span l x × IsOwn wait x)

  neither : (c : Code) (x : Filter) → Begins_so (shown.Refused c) x
  neither c x = (
    (λ bytes z. absurd (not_data bytes z)),
    λ wait z. let y : ◌≡◌ {A = Shown} (shown.Refused c) (shown.Pending wait) = z in cc,
  )
    where
      not_data : (bytes : List ℕ) → ◌≡◌ {A = Shown} (shown.Refused c) (shown.Ended (end.Data bytes)) → ⊥
      not_data bytes z = cc

  ends_with : (d : End) (x : Filter) → ((bytes : List ℕ) → d ≡ end.Data bytes → IsFair l → IsRight l.remote base item span bytes) → Begins_so (shown.Ended d) x
  ends_with d x h = (
    (λ bytes z. h bytes (inner bytes z)),
    λ wait z. let y : ◌≡◌ {A = Shown} (shown.Ended d) (shown.Pending wait) = z in cc,
  )
    where
      inner : (bytes : List ℕ) → ◌≡◌ {A = Shown} (shown.Ended d) (shown.Ended (end.Data bytes)) → d ≡ end.Data bytes
      inner bytes z = cc

  module _ (n : Need) (x : Filter) (kind : n.kind ≡ wait_kind.Read) (of : n.item ≡ item) (at : n.span ≡ span) (sound : IsFair l → IsSound l tokens x) (given : Holds AllGiven l x) (log : x.volume.log ≡ base) (none : x.notes ≡ []) where
    bytes_same : (a b : List ℕ) → end.Data a ≡ end.Data b → a ≡ b
    bytes_same a b z = let y : ◌≡◌ {A = End} (end.Data a) (end.Data b) = z in cc

    met_right : is_met_now n x ≡ true → (bytes : List ℕ) → end_of x.volume.items (wait_for n x) cause.Met ≡ end.Data bytes → IsFair l → IsRight l.remote base item span bytes
    met_right met bytes shows fair i found file =
        let t : IsTruly l.remote x = sound_truly NoItem l tokens x (sound fair) in
        let now : item_of x.volume.items n.item ≡ Some i = subst (λ (k : ItemId). item_of x.volume.items k ≡ Some i) (sym of) (subst (λ (js : List Item). item_of js item ≡ Some i) (ap items_of (sym log) ∙ sym t.of_log) found) in (
          (all_found (λ j. HasBase l.remote j.identity) (λ j. j.id.0 == n.item.0) x.volume.items i now t.based).0,
          bytes_same bytes (slice_range (content l.remote i) n.span.start (n.span.start + n.span.len))
              (sym shows ∙ read_right l.remote x (wait_for n x) i t.unvalidated ((all_found (λ j. j.directory ≡ false → IsTrueTo l.remote j) (λ j. j.id.0 == n.item.0) x.volume.items i now t.contents).0 file) kind now met)
              ∙ ap (λ (p : Span). slice_range (content l.remote i) p.start (p.start + p.len)) at,
        )

    abbrev AllThree : Filter → Type 0
    AllThree t = (Holds (IsWait (own_id n x).0 n.item n.span) l t × At base (own_id n x) n.item n.span l t) × IsOwn (own_id n x) t

    begun_three : Keeps AllThree (tell (waits.begun n x) (with_own n x))
    begun_three =
        keeps_both (λ t. Holds (IsWait (own_id n x).0 n.item n.span) l t × At base (own_id n x) n.item n.span l t) (IsOwn (own_id n x)) (tell (waits.begun n x) (with_own n x))
        (keeps_both (Holds (IsWait (own_id n x).0 n.item n.span) l) (At base (own_id n x) n.item n.span l) (tell (waits.begun n x) (with_own n x)) (begun_waits l tokens n x sound given)
        (begins_own base (own_id n x) n.item n.span l tokens n x sound (all_new l tokens n x sound given) (plainly_begun base l n x log none)))
        (tell_own (own_id n x) (waits.begun n x) (with_own n x) refl)

    pends : (t : Filter) → AllThree t → Begins_so (shown.Pending (own_id n x)) t
    pends t h = (
      (λ bytes z. absurd (not_data bytes z)),
      λ wait z. subst (λ (w : WaitId). Holds (IsWait w.0 item span) l t × At base w item span l t × IsOwn w t) (same wait z)
          (subst (λ (p : Span). Holds (IsWait (own_id n x).0 item p) l t × At base (own_id n x) item p l t × IsOwn (own_id n x) t) at
          (subst (λ (k : ItemId). Holds (IsWait (own_id n x).0 k n.span) l t × At base (own_id n x) k n.span l t × IsOwn (own_id n x) t) of (h.0.0, h.0.1, h.1))),
    )
      where
        not_data : (bytes : List ℕ) → ◌≡◌ {A = Shown} (shown.Pending (own_id n x)) (shown.Ended (end.Data bytes)) → ⊥
        not_data bytes z = cc

        same : (wait : WaitId) → ◌≡◌ {A = Shown} (shown.Pending (own_id n x)) (shown.Pending wait) → own_id n x ≡ wait
        same wait z = cc

    need_begins : Leads Any Begins_so (need n x)
    need_begins = by (is_met_now n x) refl where
      tests : (o : Option Code) → Leads Any Begins_so (unless shown.Refused o (reading (waits.begun n) (waits.begin_now n)) x)
      tests (Some c) = neither c x
      tests None =
          leads_bind Any (λ a t. AllThree t) Begins_so (tell (waits.begun n x) (with_own n x)) (λ _ t. Ret (shown.Pending (own_id n x)) t)
          (any_kept AllThree (tell (waits.begun n x) (with_own n x)) begun_three) (λ a t h. pends t h)

      by : (b : Bool) → is_met_now n x ≡ b → Leads Any Begins_so (answer_or_begin n b x)
      by true met = (tt, ends_with (end_of x.volume.items (wait_for n x) cause.Met) (waits.accessed_now n x) (met_right met))
      by false met = tests (first_of (begin_tests n x))

  get_begins : (path : List ℕ) (i : Item) (x : Filter) → find_path x.volume.items path ≡ Ok i → i.id ≡ item → (IsFair l → IsSound l tokens x) → Holds AllGiven l x → x.volume.log ≡ base → x.notes ≡ [] → Leads Any Begins_so (get path span x)
  get_begins path i x found of sound given log none = subst (λ (r : Result Item Code). Leads Any Begins_so (on_ok (but_directory (get_item span)) r x)) (sym found) (by i.directory) where
    by : (b : Bool) → Leads Any Begins_so (choose b (refused code.IsDirectory) (get_item span i) x)
    by true = neither code.IsDirectory x
    by false = need_begins (plain_need wait_kind.Read i.id span) x refl of refl sound given log none

  read_begins : (h : Handle) (o : Open) (x : Filter) → opened_by h x ≡ Some o → o.item ≡ item → (IsFair l → IsSound l tokens x) → Holds AllGiven l x → x.volume.log ≡ base → x.notes ≡ [] → Leads Any Begins_so (read h span x)
  read_begins h o x opened of sound given log none = subst (λ (r : Option Open). Leads Any Begins_so (on_open (read_item h span) r x)) (sym opened) (need_begins (read_need h span o.item (wants_rest x)) x refl of refl sound given log none)

-- the whole call

module _ (base : Log) (item : ItemId) (span : Span) (s : State) where
  abbrev Begun_so : Shown → State → Type 0
  Begun_so q t =
      ((bytes : List ℕ) → q ≡ shown.Ended (end.Data bytes) → IsFair s.link → IsRight s.link.remote base item span bytes)
      × ((wait : WaitId) → q ≡ shown.Pending wait → HoldsIn (IsWait wait.0 item span) t × OfState base wait item span t × IsOwn wait t.filter)

  -- it was right in the state before, or is behind some first lines
  abbrev Final : Shown → State → Type 0
  Final q t =
      (bytes : List ℕ) → q ≡ shown.Ended (end.Data bytes)
      → (IsFair s.link → IsRight s.link.remote base item span bytes) ⊎ (IsFair t.link → (front : List Notice) × (back : List Notice) × (t.filter.notes ≡ front ++ back) × IsRight t.link.remote (base ++ changes_in front) item span bytes)

  calling_begins : (part : Arrow Filter Shown) → Keeps (λ x. Invariant (with_filter x s)) (part s.filter) → Leads Any (Begins_so base s.link s.volatile.tokens item span) (part s.filter) → Leads Any Final (calling part s)
  calling_begins part kept led =
      leads_bind Any (λ q t. Invariant t × Begun_so q t) Final (in_filter part s) finish_call
      (leads_mapped (λ x. Invariant (with_filter x s)) (λ q x. Invariant (with_filter x s) × Begins_so base s.link s.volatile.tokens item span q x) Any (λ q t. Invariant t × Begun_so q t) (λ x. with_filter x s) (part s.filter) (λ x h. tt) (λ q x h. h)
      (kept_with (λ x. Invariant (with_filter x s)) (Begins_so base s.link s.volatile.tokens item span) (part s.filter) kept led))
      (λ q t h. after q t h)
    where
      inner : (d : End) (bytes : List ℕ) → ◌≡◌ {A = Shown} (shown.Ended d) (shown.Ended (end.Data bytes)) → ◌≡◌ {A = Option End} (Some d) (Some (end.Data bytes))
      inner d bytes z = let y : d ≡ end.Data bytes = cc in ap (λ (e : End). Some e) y

      ended : (id : WaitId) (o : Option End) (bytes : List ℕ) → end_or_pending id o ≡ shown.Ended (end.Data bytes) → o ≡ Some (end.Data bytes)
      ended id None bytes z = let y : ◌≡◌ {A = Shown} (shown.Pending id) (shown.Ended (end.Data bytes)) = z in cc
      ended id (Some d) bytes z = inner d bytes z

      after : (q : Shown) (t : State) → Invariant t × Begun_so q t → Leads Any Final (finish_call q t)
      after (shown.Pending id) t h =
          let three = h.1.1 id refl in
          let P : State → Type 0 = λ u. (Invariant u × HoldsIn (IsWait id.0 item span) u) × OfState base id item span u in
          let Q : State → Type 0 = λ u. IsOwn id u.filter in
          leads_bind Any (λ a u. P u × Q u) Final (drain t) (λ _ u. in_filter (finish (shown.Pending id)) u)
          (any_kept (λ u. P u × Q u) (drain t) (keeps_both P Q (drain t)
          ((drain_keeps P (guarded_own base id item span (λ u. Invariant u × HoldsIn (IsWait id.0 item span) u) (λ u k. k.1) (guarded_beside (IsWait id.0 item span) (wait_runs id.0 item span).beside Invariant sound_guarded))).keeps t ((h.0, three.0), three.1))
          ((drained_own id most).keeps t three.2)))
          (λ a u k bytes z. inr (λ fair. k.0.1.bytes_right fair k.1 bytes (ended id u.filter.ending bytes z)))
      after q t h =
          leads_bind Any (λ a u. Unit {0}) Final (drain t) (λ _ u. in_filter (finish q) u) (leads_any (λ a u. Unit {0}) (drain t) (λ a u. tt))
          (λ a u k bytes z. inl (h.1.0 bytes z))

tree_begins : (s : State) (e : Event) (i : Item) (asked : Span) → Invariant s → HoldsIn AllGiven s → Reads s e i asked → Leads Any (Final s.filter.volume.log i.id asked s) (tree_of e s)
tree_begins s (event.Call (call.Get path offset len)) i asked sound given h =
    subst (λ (p : Span). Leads Any (Final s.filter.volume.log i.id p s) (tree_of (event.Call (call.Get path offset len)) s)) (sym h.1)
    (calling_begins s.filter.volume.log i.id (span_of offset len) (begun s) (get path (span_of offset len))
    ((waits_keep.get_keeps s.link s.volatile.tokens (λ x. Invariant (with_filter x (begun s))) (sound_guarded.on_filter (begun s) sound) path (span_of offset len)).keeps (begun s).filter sound)
    (get_begins s.filter.volume.log s.link s.volatile.tokens i.id (span_of offset len) path i (begun s).filter h.0 refl sound.1 given refl refl))
tree_begins s (event.Call (call.Read handle offset len)) i asked sound given h =
    subst (λ (p : Span). Leads Any (Final s.filter.volume.log i.id p s) (tree_of (event.Call (call.Read handle offset len)) s)) (sym h.3)
    (calling_begins s.filter.volume.log i.id (span_of offset len) (begun s) (read handle (span_of offset len))
    ((waits_keep.read_keeps s.link s.volatile.tokens (λ x. Invariant (with_filter x (begun s))) (sound_guarded.on_filter (begun s) sound) handle (span_of offset len)).keeps (begun s).filter sound)
    (read_begins s.filter.volume.log s.link s.volatile.tokens i.id (span_of offset len) handle h.0 (begun s).filter h.1 (sym (same_item i.id h.0.item (found_id h.0.item (items_now s) i h.2))) sound.1 given refl refl))
tree_begins s e i asked sound given h = absurd h

-- right in a remote, and in one that has more
still_right : (r held : Held) (log : Log) (item : ItemId) (span : Span) (bytes : List ℕ) → Extends r held → IsRight r log item span bytes → IsSpanOf held log item span bytes
still_right r held log item span bytes more h i found file =
    let k = h i found file in
    k.1 ∙ ap (λ (c : List ℕ). slice_range c span.start (span.start + span.len)) (sym (content_grows r held more i k.0))

pub reads_in_call : (remote : Held) (clusters : ℕ) (report : Report) (last : State) → IsFresh remote → IsFair last.link → Runs mode.Replay (start mode.Replay remote clusters) report last
    → OfEach mode.Replay remote clusters report last (λ before s e a t. ReadsInCall last.link.remote before s e a)
reads_in_call remote clusters report last fresh fair all before rest s e a t parts runs is on i asked bytes reads answered = by (step_case mode.Replay s e a t is) where
  sound : Invariant s
  sound = run_sound remote clusters before s runs fresh

  next : Invariant t
  next = runs_keep Invariant sound_whole s ((e, a) ∷ []) t (t, is, refl) sound

  log : s.filter.volume.log ≡ standing before
  log = shows_all mode.Replay remote clusters before s fresh runs

  Goal : Type 0
  Goal = (front : List Notice) × (back : List Notice) × (a.notes ≡ front ++ back) × IsSpanOf last.link.remote (standing before ++ changes_in front) i.id asked bytes

  refused_not : (c : Code) → a.shown ≡ shown.Refused c → Goal
  refused_not c z = let y : ◌≡◌ {A = Shown} (shown.Refused c) (shown.Ended (end.Data bytes)) = sym z ∙ answered in cc

  final : (u : State) → u ≡ t → a.notes ≡ u.filter.notes
      → (IsFair s.link → IsRight s.link.remote s.filter.volume.log i.id asked bytes)
      ⊎ (IsFair u.link → (front : List Notice) × (back : List Notice) × (u.filter.notes ≡ front ++ back) × IsRight u.link.remote (s.filter.volume.log ++ changes_in front) i.id asked bytes) → Goal
  final u same notes (inl h) = (
    [],
    a.notes,
    refl,
    subst (λ (l : Log). IsSpanOf last.link.remote l i.id asked bytes) (log ∙ sym (append-nil (standing before)))
        (still_right s.link.remote last.link.remote s.filter.volume.log i.id asked bytes (runs_extend mode.Replay s ((e, a) ∷ rest) last (t, is, on)) (h (fair_before s ((e, a) ∷ rest) last sound (t, is, on) fair))),
  )
  final u same notes (inr h) =
      let x = h (subst (λ (w : State). IsFair w.link) (sym same) (fair_before t rest last next on fair)) in (
        x.0,
        x.1,
        notes ∙ x.2,
        subst (λ (l : Log). IsSpanOf last.link.remote (l ++ changes_in x.0) i.id asked bytes) log
            (still_right u.link.remote last.link.remote (s.filter.volume.log ++ changes_in x.0) i.id asked bytes (subst (λ (w : State). Extends w.link.remote last.link.remote) (sym same) (runs_extend mode.Replay t rest last on)) x.3),
      )

  ran : IsOver s e (t, a) → Goal
  ran (inl h) =
      final t refl (ap (λ (x : Answer). x.notes) h.2)
      (led_ends (Final s.filter.volume.log i.id asked s) (tree_of e s) h.0 t (tree_begins s e i asked sound (run_given remote clusters before s fresh runs) reads) h.1 bytes (sym (ap (λ (x : Answer). x.shown) h.2) ∙ answered))
  ran (inr h) = refused_not code.Device (ap (λ (x : Answer). x.shown) h.3)

  by : IsCase s e (t, a) → Goal
  by (inl h) = refused_not h.0 (ap (λ (x : Answer). x.shown) h.3)
  by (inr h) = ran h.1
