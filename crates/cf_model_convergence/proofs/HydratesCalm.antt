-- A file that lacks bytes is hydrated before it is uploaded: a line reports it, or it is waited for, and nothing else is another.
use Rattle.std.proofs.Common.{◌≡◌, ◌⊎◌, ◌+◌, ℕ, Bool, true, false, List, [], ◌∷◌, ◌++◌, refl, sym, ◌∙◌, ap, subst, inl, inr, arith, map, eq-eqb}
use Rattle.std.specs.Prelude.{Option, Some, None, cond, not, ◌&&◌, ◌||◌, ◌==◌}
use Rattle.std.specs.List.{list_any}
use Rattle.std.proofs.lemmas.Bool.{eqb-true}
use Rattle.std.proofs.lemmas.Bool.Decides.{nat_tests}
use Rattle.cf_base.specs.declared.answers.Shown.{Shown}
use Rattle.cf_base.specs.declared.answers.Shown.TheVariants as shown
use Rattle.cf_base.specs.declared.codes.Code.{Code}
use Rattle.cf_base.specs.declared.codes.Code.TheVariants as code
use Rattle.cf_base.specs.declared.ids.ItemId.{ItemId}
use Rattle.cf_base.specs.declared.ids.WaitId.{WaitId}
use Rattle.cf_base.specs.declared.waits.Ask.{Ask}
use Rattle.cf_base.specs.declared.waits.Cause.{Cause}
use Rattle.cf_base.specs.declared.waits.End.{End}
use Rattle.cf_base.specs.declared.waits.WaitKind.TheVariants as wait_kind
use Rattle.cf_model.specs.Arrows.{Arrow, each, unless}
use Rattle.cf_model.specs.Callbacks.{begin_call, calling, drain, end_or_pending, finish, finish_call, result_of}
use Rattle.cf_model.specs.Dehydration.{in_use as is_used}
use Rattle.cf_model.specs.Numbers.{most}
use Rattle.cf_model.specs.Pushes.{after_hydrate, hydrate_unless}
use Rattle.cf_model.specs.Requests.{is_busy_beside}
use Rattle.cf_model.specs.Skips.{in_use, skip}
use Rattle.cf_model.specs.State.{Open, Running, in_filter, with_filter}
use Rattle.cf_model.specs.Trees.{Keeps, Ends}
use Rattle.cf_model_laws.proofs.CallbacksGuarded.{calling_at}
use Rattle.cf_model_laws.proofs.FetchingGuarded.{in_filter_at}
use Rattle.cf_model_laws.proofs.Guarded.{Guarded}
use Rattle.cf_model_laws.proofs.PushesGuarded.{after_hydrate_keeps}
use Rattle.cf_model_laws.proofs.WaitsGuarded.{hydrate_file_at}
use Rattle.cf_model_convergence.specs.Telling.{IsTold}
use Rattle.cf_model_convergence.proofs.AddingGuarded.{itself}
use Rattle.cf_model_convergence.proofs.FetchesCalm.{IsDrained, drained_calm}
use Rattle.cf_model_convergence.proofs.HeardLines.{ends_mapped, heard_after, heard_of, heard_then}
use Rattle.cf_model_convergence.proofs.PushesTold.{skip_told}
use Rattle.cf_model.specs.Asks.{left_of, why, or_met}
use Rattle.cf_model.specs.Items.{Item, is_all_here, item_of}
use Rattle.cf_model.specs.Missing.{View, Wait, absent_flags, is_met, lacking, misses, no_span, view_of}
use Rattle.cf_model.specs.Numbers.{key_after, no_key, same_key}
use Rattle.cf_model.specs.Pushes.{is_hydrating}
use Rattle.cf_model.specs.Requests.{Nothing, Waiting, is_hydrate_wait}
use Rattle.cf_model.specs.Settling.{end_wait, tell, view_at, with_asks_told, with_waiting, no_view}
use Rattle.cf_model.specs.State.{Filter, State, items_now}
use Rattle.cf_model.specs.Trees.{Ret}
use Rattle.cf_model.specs.Waits.{Need, begin_tests, begun, hydrate_file, is_met_now, own_id, plain_need, wait_for, with_own, begin_now, answer_or_begin}
use Rattle.cf_model.specs.Words.{first_of, part}
use Rattle.cf_model.proofs.TreeLaws.{kept_at_end}
use Rattle.cf_model_laws.specs.Invariant.{All, Invariant}
use Rattle.cf_model_laws.specs.Premises.{IsFair}
use Rattle.cf_model_laws.proofs.Gathered.{all_append, all_filter, all_map}
use Rattle.cf_model_laws.proofs.RightItems.{no_way}
use Rattle.cf_model_laws.proofs.SoundSettles.{left_true, no_cause, or_right, right_true, same_item}
use Rattle.cf_model_convergence.specs.Hearing.{IsCalm, IsHeard, IsOpenTo, IsPlainAsk, IsPlainWait}
use Rattle.cf_model_convergence.specs.Telling.{IsListening}
use Rattle.cf_model_convergence.proofs.TurnsTold.{ends_bind}
use Rattle.cf_model_convergence.proofs.WaitsCalm.{IsSameBut, ends_same, kept_asks, kept_plain, keyed_plain, lacks_some, last_left, more_plain, new_plain, some_missed, stays_any, was_any}
use Rattle.cf_model_convergence.proofs.SinceGuarded.{Follows, Since, since_follows, since_guarded, since_start}

-- the hydration of a file that lacks a byte

skip_line_told : (c : Code) (m : State) (u : Unit {0}) (t : State) → m.running.shows_skips ≡ true → Ends (skip c m) u t → IsTold m t
skip_line_told c m u t shows e = subst (IsTold m) (sym e.1) (skip_told m.running.shows_skips c m (record m { running = record m.running { skips = m.running.skips + 1 } }) shows refl)

abbrev IsSkipCode : Code → Type 0
IsSkipCode c = (c ≡ code.TooManyWaits) ⊎ (c ≡ code.TooManyAsks) ⊎ (c ≡ code.Exhausted)

first_code : (a b c d : Bool) → a ≡ false → (o : Option Code) → first_of ((a, code.ProviderDown) ∷ (b, code.TooManyWaits) ∷ (c, code.TooManyAsks) ∷ (d, code.Exhausted) ∷ []) ≡ o → (k : Code) → o ≡ Some k → IsSkipCode k
first_code true b c d z o e k f = no_way (sym z)
first_code false true c d z o e k f = inl (inner (sym f ∙ sym e)) where
  inner : ◌≡◌ {A = Option Code} (Some k) (Some code.TooManyWaits) → k ≡ code.TooManyWaits
  inner q = cc
first_code false false true d z o e k f = inr (inl (inner (sym f ∙ sym e))) where
  inner : ◌≡◌ {A = Option Code} (Some k) (Some code.TooManyAsks) → k ≡ code.TooManyAsks
  inner q = cc
first_code false false false true z o e k f = inr (inr (inner (sym f ∙ sym e))) where
  inner : ◌≡◌ {A = Option Code} (Some k) (Some code.Exhausted) → k ≡ code.Exhausted
  inner q = cc
first_code false false false false z o e k f = absurd (inner (sym f ∙ sym e)) where
  inner : ◌≡◌ {A = Option Code} (Some k) None → ⊥
  inner q = cc

module _ (i : Item) (s : State) (h : Invariant s) (fair : IsFair s.link) (listening : IsListening s) (ready : IsOpenTo s) (there : item_of (items_now s) i.id ≡ Some i) (file : i.directory ≡ false) (lacks : is_all_here i ≡ false) where
  abbrev need : Need
  need = plain_need wait_kind.Hydrate i.id no_span

  abbrev x : Filter
  x = s.filter

  abbrev own : Wait
  own = wait_for need x

  abbrev left : Wait → Option Cause
  left = why i.id (view_at x i.id) Nothing x.waiting.asks

  -- the wait is not met
  viewed : view_at x i.id ≡ view_of x.policy i
  viewed = ap (λ (o : Option Item). part (view_of x.policy) no_view o) there

  flags : (view_at x i.id).lacks ≡ absent_flags i
  flags = ap (λ (v : View). v.lacks) viewed ∙ ap (λ (b : Bool). lacking b i) (h.1 fair).unvalidated

  missed : misses (view_at x i.id) own ≡ true
  missed = some_missed (view_at x i.id).lacks (subst (λ (bs : List Bool). list_any (λ b. b) bs ≡ true) (sym flags) (lacks_some i.held lacks))

  unmet : is_met_now need x ≡ false
  unmet = ap (λ (b : Bool). not b) missed

  own_left : left own ≡ None
  own_left = by (i.id.0 == i.id.0) where
    by : (b : Bool) → cond b (or_met None (is_met (view_at x i.id) own)) None ≡ None
    by true = ap (λ (b : Bool). or_met None b) unmet
    by false = refl

  other_left : (w : Wait) → (w.item.0 == i.id.0) ≡ false → left w ≡ None
  other_left w e = no_cause i.id (view_at x i.id) Nothing x.waiting.asks w e

  -- what begins
  record IsBegun (y : Filter) : Type 0 where
    pub same : IsSameBut (with_asks_told (begun need x).0 (with_waiting (begun need x).1 (with_own need x))) y

  part_ends : (r : Shown) (y : Filter) → Ends (hydrate_file i.id x) r y → ((c : Code) × (r ≡ shown.Refused c) × IsSkipCode c × (y ≡ x)) ⊎ ((r ≡ shown.Pending (own_id need x)) × IsBegun y)
  part_ends r y e = met (is_met_now need x) unmet e where
    begins : Ends (begin_now need (begun need x) x) r y → (r ≡ shown.Pending (own_id need x)) × IsBegun y
    begins f =
        let k = ends_bind (tell (begun need x) (with_own need x)) (λ _ z. Ret (shown.Pending (own_id need x)) z) r y f in
        let j = ends_bind (each end_wait (begun need x).0.ended (with_waiting (begun need x).1 (with_own need x))) (λ _ z. Ret (record {}) (with_asks_told (begun need x).0 z)) k.0 k.1 k.2 in
        let m : IsSameBut (with_waiting (begun need x).1 (with_own need x)) j.1 =
        ends_same (begun need x).0.ended (with_waiting (begun need x).1 (with_own need x)) (with_waiting (begun need x).1 (with_own need x)) j.0 j.1
        (record { items = refl; cursor = refl; entries = refl; seen = refl; tombstones = refl; handles = refl; connected = refl; waiting = refl; outbox = refl }) j.2 in (
          k.3.0,
          record {
            same = subst (λ (z : Filter). IsSameBut (with_asks_told (begun need x).0 (with_waiting (begun need x).1 (with_own need x))) z) (sym (k.3.1 ∙ j.3.1)) (record {
              items = m.items;
              cursor = m.cursor;
              entries = m.entries;
              seen = m.seen;
              tombstones = m.tombstones;
              handles = m.handles;
              connected = m.connected;
              waiting = m.waiting;
              outbox = ap (λ (os : List Ask). os ++ map (λ a. a.ask) (begun need x).0.made) m.outbox;
            });
          },
        )

    tested : (o : Option Code) → first_of (begin_tests need x) ≡ o → Ends (unless shown.Refused o (λ z. begin_now need (begun need z) z) x) r y → ((c : Code) × (r ≡ shown.Refused c) × IsSkipCode c × (y ≡ x)) ⊎ ((r ≡ shown.Pending (own_id need x)) × IsBegun y)
    tested None q f = inr (begins f)
    tested (Some c) q f = inl (c, f.0, first_code (not x.connected) _ _ _ (ap (λ (b : Bool). not b) ready.connected) (Some c) q c refl, f.1)

    met : (b : Bool) → b ≡ false → Ends (answer_or_begin need b x) r y → ((c : Code) × (r ≡ shown.Refused c) × IsSkipCode c × (y ≡ x)) ⊎ ((r ≡ shown.Pending (own_id need x)) × IsBegun y)
    met true z f = no_way (sym z)
    met false z f = tested (first_of (begin_tests need x)) refl f

  -- the call, and its callbacks

  abbrev call : Arrow State Shown
  call = calling (hydrate_file i.id)

  here : IsFair s.link → (item_of (items_now s) i.id ≡ Some i) × (i.directory ≡ false)
  here f = (there, file)

  call_keeps : (P : State → Type 0) → Guarded P → P s → Keeps P (call s)
  call_keeps P closed k = calling_at P closed (hydrate_file i.id) s (hydrate_file_at s.link s.volatile.tokens (λ z. P (with_filter z s)) (closed.on_filter s k) i s.filter here k)

  part_keeps : (P : State → Type 0) → Guarded P → P s → Keeps P (in_filter (hydrate_file i.id) s)
  part_keeps P closed k = in_filter_at P (hydrate_file i.id) s (hydrate_file_at s.link s.volatile.tokens (λ z. P (with_filter z s)) (closed.on_filter s k) i s.filter here k)

  -- what is left of the waits
  waits_own : (y : Filter) → IsBegun y → is_hydrating i.id (with_filter y s) ≡ true
  waits_own y b =
      subst (λ (w : Waiting). list_any (λ v. is_hydrate_wait v.kind && (v.item.0 == i.id.0)) w.waits ≡ true) (sym b.same.waiting)
      (last_left left (λ v. is_hydrate_wait v.kind && (v.item.0 == i.id.0)) own own_left (eq-eqb i.id.0 i.id.0 refl) x.waiting.waits)

  module _ (y : Filter) (b : IsBegun y) where
    abbrev ended : State
    ended = with_filter y s

    abbrev now : List Wait
    now = left_of left (x.waiting.waits ++ own ∷ [])

    waits_now : y.waiting.waits ≡ now
    waits_now = ap (λ (w : Waiting). w.waits) b.same.waiting

    new_key : (e n : ℕ) → same_key (key_after e n) no_key ≡ false
    new_key e n = grind (arith, nat_tests)

    elsewhere : (id : ItemId) (c : Bool) (v : Wait) → (id.0 == i.id.0) ≡ false → ((v.item.0 == id.0) && c) ≡ true → left v ≡ None
    elsewhere id c v apart e = other_left v (subst (λ (n : ℕ). (n == i.id.0) ≡ false) (sym (eqb-true v.item.0 id.0 (left_true (v.item.0 == id.0) c e))) apart)

    busy_wait : (id : ItemId) → is_busy_beside id (record { 0 = no_key }) x.waiting ≡ true → is_busy_beside id (record { 0 = no_key }) y.waiting ≡ true
    busy_wait id e = subst (λ (ws : List Wait). list_any (λ v. (v.item.0 == id.0) && not (same_key v.id.0 no_key)) ws ≡ true) (sym waits_now) (by (id.0 == i.id.0) refl) where
      by : (c : Bool) → (id.0 == i.id.0) ≡ c → list_any (λ v. (v.item.0 == id.0) && not (same_key v.id.0 no_key)) now ≡ true
      by true q = last_left left (λ v. (v.item.0 == id.0) && not (same_key v.id.0 no_key)) own own_left (rw (eq-eqb i.id.0 id.0 (sym (eqb-true id.0 i.id.0 q))) (ap (λ (c : Bool). not c) (new_key x.waiting.epoch (x.waiting.wait_count + 0)))) x.waiting.waits
      by false q = stays_any left (λ v. (v.item.0 == id.0) && not (same_key v.id.0 no_key)) (λ v z. elsewhere id (not (same_key v.id.0 no_key)) v q z) x.waiting.waits (own ∷ []) e

    used : (id : ItemId) → in_use s id ≡ true → in_use ended id ≡ true
    used id e = by (list_any (λ o. o.item.0 == id.0) x.handles) refl e where
      by : (c : Bool) → list_any (λ o. o.item.0 == id.0) x.handles ≡ c → (c || is_busy_beside id (record { 0 = no_key }) x.waiting) ≡ true → in_use ended id ≡ true
      by true q z = subst (λ (hs : List Open). (list_any (λ o. o.item.0 == id.0) hs || is_busy_beside id (record { 0 = no_key }) y.waiting) ≡ true) (sym b.same.handles) (rw q refl)
      by false q z = or_right (list_any (λ o. o.item.0 == id.0) y.handles) (is_busy_beside id (record { 0 = no_key }) y.waiting) (busy_wait id z)

    hydrates : (id : ItemId) → is_hydrating id s ≡ true → is_hydrating id ended ≡ true
    hydrates id e = subst (λ (ws : List Wait). list_any (λ v. is_hydrate_wait v.kind && (v.item.0 == id.0)) ws ≡ true) (sym waits_now) (by (id.0 == i.id.0) refl) where
      by : (c : Bool) → (id.0 == i.id.0) ≡ c → list_any (λ v. is_hydrate_wait v.kind && (v.item.0 == id.0)) now ≡ true
      by true q = last_left left (λ v. is_hydrate_wait v.kind && (v.item.0 == id.0)) own own_left (eq-eqb i.id.0 id.0 (sym (eqb-true id.0 i.id.0 q))) x.waiting.waits
      by false q =
          stays_any left (λ v. is_hydrate_wait v.kind && (v.item.0 == id.0))
          (λ v z. other_left v (subst (λ (n : ℕ). (n == i.id.0) ≡ false) (sym (eqb-true v.item.0 id.0 (right_true (is_hydrate_wait v.kind) (v.item.0 == id.0) z))) q)) x.waiting.waits (own ∷ []) e

    fresh : (id : ItemId) → in_use ended id ≡ true → (in_use s id ≡ true) ⊎ ((j : Item) × (item_of (items_now s) id ≡ Some j) × (j.directory ≡ false))
    fresh id e = by (list_any (λ o. o.item.0 == id.0) x.handles) refl (subst (λ (hs : List Open). (list_any (λ o. o.item.0 == id.0) hs || is_busy_beside id (record { 0 = no_key }) y.waiting) ≡ true) b.same.handles e) where
      waited : (list_any (λ v. (v.item.0 == id.0) && not (same_key v.id.0 no_key)) x.waiting.waits ≡ true) ⊎ (((i.id.0 == id.0) && not (same_key own.id.0 no_key)) ≡ true) → (in_use s id ≡ true) ⊎ ((j : Item) × (item_of (items_now s) id ≡ Some j) × (j.directory ≡ false))
      waited (inl z) = inl (or_right (list_any (λ o. o.item.0 == id.0) x.handles) (is_busy_beside id (record { 0 = no_key }) x.waiting) z)
      waited (inr z) = inr (i, subst (λ (k : ItemId). item_of (items_now s) k ≡ Some i) (same_item i.id id (eqb-true i.id.0 id.0 (left_true (i.id.0 == id.0) (not (same_key own.id.0 no_key)) z))) there, file)

      by : (c : Bool) → list_any (λ o. o.item.0 == id.0) x.handles ≡ c → (c || is_busy_beside id (record { 0 = no_key }) y.waiting) ≡ true → (in_use s id ≡ true) ⊎ ((j : Item) × (item_of (items_now s) id ≡ Some j) × (j.directory ≡ false))
      by true q z = inl (rw q refl)
      by false q z = waited (was_any left (λ v. (v.item.0 == id.0) && not (same_key v.id.0 no_key)) own x.waiting.waits (subst (λ (ws : List Wait). list_any (λ v. (v.item.0 == id.0) && not (same_key v.id.0 no_key)) ws ≡ true) waits_now z))

    now_plain : All (IsPlainWait (kept_asks i.id (view_at x i.id) now x.waiting.asks)) now
    now_plain = kept_plain i.id (view_at x i.id) now x.waiting.asks (all_filter (IsPlainWait x.waiting.asks) _ (x.waiting.waits ++ own ∷ []) (all_append (IsPlainWait x.waiting.asks) x.waiting.waits (own ∷ []) ready.waits ((refl, λ z. no_way z), tt)))

    plain_waits : All (IsPlainWait y.waiting.asks) y.waiting.waits
    plain_waits = subst (λ (w : Waiting). All (IsPlainWait w.asks) w.waits) (sym b.same.waiting) (more_plain (kept_asks i.id (view_at x i.id) now x.waiting.asks) (begun need x).0.made now now_plain)

    plain_boxed : All IsPlainAsk y.outbox
    plain_boxed =
        subst (All IsPlainAsk) (sym b.same.outbox)
        (all_append IsPlainAsk x.outbox (map (λ a. a.ask) (begun need x).0.made) ready.boxed
        (all_map (λ a. IsPlainAsk a.ask) IsPlainAsk (λ a. a.ask) (λ a k. k) (begun need x).0.made
        (keyed_plain x.waiting.epoch x.waiting.key_count _ (new_plain i.id (view_at x i.id) now _ now_plain))))

    -- the state once the callbacks are over, with nothing heard
    over : (m t : State) → IsDrained ended m → t ≡ with_filter (begin_call m.filter) m → IsCalm s t × (is_hydrating i.id t ≡ true) × IsOpenTo t
    over m t d e = subst (λ (z : State). IsCalm s z × (is_hydrating i.id z ≡ true) × IsOpenTo z) (sym e) (calm d.filter) where
      calm : m.filter ≡ record y { notes = m.filter.notes; outbox = m.filter.outbox } → IsCalm s (with_filter (begin_call m.filter) m) × (is_hydrating i.id (with_filter (begin_call m.filter) m) ≡ true) × IsOpenTo (with_filter (begin_call m.filter) m)
      calm f = (
        record {
          items = ap (λ (g : Filter). g.volume.items) f ∙ b.same.items;
          cursor = ap (λ (g : Filter). g.volume.book.cursor) f ∙ b.same.cursor;
          entries = ap (λ (g : Filter). g.volume.book.entries) f ∙ b.same.entries;
          seen = ap (λ (g : Filter). g.volume.book.seen) f ∙ b.same.seen;
          tombstones = ap (λ (g : Filter). g.volume.book.tombstones) f ∙ b.same.tombstones;
          volatile = d.volatile;
          remote = d.remote;
          inline = d.inline;
          honest = d.honest;
          shows = ap (λ (r : Running). r.shows_skips) d.running;
          busy = λ id z. subst (λ (g : Filter). is_used id (begin_call g) ≡ true) (sym f) (used id z);
          hydrating = λ id z. subst (λ (g : Filter). list_any (λ v. is_hydrate_wait v.kind && (v.item.0 == id.0)) g.waiting.waits ≡ true) (sym f) (hydrates id z);
          fresh = λ id z. fresh id (subst (λ (g : Filter). is_used id (begin_call g) ≡ true) f z);
        },
        subst (λ (g : Filter). list_any (λ v. is_hydrate_wait v.kind && (v.item.0 == i.id.0)) g.waiting.waits ≡ true) (sym f) (waits_own y b),
        record {
          connected = ap (λ (g : Filter). g.connected) f ∙ b.same.connected ∙ ready.connected;
          waits = subst (λ (g : Filter). All (IsPlainWait g.waiting.asks) g.waiting.waits) (sym f) plain_waits;
          boxed = d.boxed;
        },
      )

  after_pending : (id : WaitId) (o : Option End) (m : State) (u : Unit {0}) (t : State) → Ends (after_hydrate (end_or_pending id o) m) u t → t ≡ m
  after_pending id None m u t e = e.1
  after_pending id (Some d) m u t e = e.1

  skipped_told : (c : Code) (m : State) (u : Unit {0}) (t : State) → IsSkipCode c → m.running.shows_skips ≡ true → Ends (after_hydrate (shown.Refused c) m) u t → IsTold m t
  skipped_told c m u t (inl z) shows e = skip_line_told code.TooManyWaits m u t shows (subst (λ (k : Code). Ends (after_hydrate (shown.Refused k) m) u t) z e)
  skipped_told c m u t (inr (inl z)) shows e = skip_line_told code.TooManyAsks m u t shows (subst (λ (k : Code). Ends (after_hydrate (shown.Refused k) m) u t) z e)
  skipped_told c m u t (inr (inr z)) shows e = skip_line_told code.Exhausted m u t shows (subst (λ (k : Code). Ends (after_hydrate (shown.Refused k) m) u t) z e)

  pub hydrate_calm : (u : Unit {0}) (t : State) → Ends (hydrate_unless i.id false s) u t → IsHeard s t ⊎ (IsCalm s t × (is_hydrating i.id t ≡ true) × IsOpenTo t)
  hydrate_calm u t ends = by (part_ends q.0 w.0 w.1) where
    k : (a : Shown) × (m : State) × Ends (call s) a m × Ends (after_hydrate a m) u t
    k = ends_bind (call s) after_hydrate u t ends

    q : (r : Shown) × (m : State) × Ends (in_filter (hydrate_file i.id) s) r m × Ends (finish_call r m) k.0 k.1
    q = ends_bind (in_filter (hydrate_file i.id) s) finish_call k.0 k.1 k.2

    w : (y : Filter) × Ends (hydrate_file i.id x) q.0 y × (q.1 ≡ with_filter y s)
    w = ends_mapped (λ z. with_filter z s) (hydrate_file i.id x) q.0 q.1 q.2

    d : (v : Unit {0}) × (m : State) × Ends (drain q.1) v m × Ends (in_filter (finish q.0) m) k.0 k.1
    d = ends_bind (drain q.1) (λ _ z. in_filter (finish q.0) z) k.0 k.1 q.3

    -- the call adds to the notes
    hm : Since s k.1
    hm = kept_at_end (Since s) (call s) k.0 k.1 (call_keeps (Since s) (since_guarded s) (since_start s h)) k.2

    ht : Follows k.1 t
    ht = since_follows k.1 t (kept_at_end (Since k.1) (after_hydrate k.0 k.1) u t ((after_hydrate_keeps (Since k.1) (since_guarded k.1) k.0).keeps k.1 (since_start k.1 hm.0.0)) k.3)

    hq : Since s q.1
    hq = kept_at_end (Since s) (in_filter (hydrate_file i.id) s) q.0 q.1 (part_keeps (Since s) (since_guarded s) (since_start s h)) q.2

    drained_now : All IsPlainAsk q.1.filter.outbox → IsHeard q.1 d.1 ⊎ IsDrained q.1 d.1
    drained_now plain =
        drained_calm most q.1 d.0 d.1 hq.0.0 (subst (λ (z : State). IsFair z.link) (sym w.2) fair)
        (record { inline = ap (λ (z : State). z.link.inline) w.2 ∙ listening.inline; shows = ap (λ (z : State). z.running.shows_skips) w.2 ∙ listening.shows }) plain d.2

    to_k : Follows d.1 k.1
    to_k = subst (Follows d.1) (sym d.3.1) (record { adds = itself d.1.filter; unfair = λ e. e })

    heard_all : IsHeard q.1 d.1 → IsHeard s t
    heard_all z = heard_after s q.1 t hq.0.1.lines hq.0.1.noted (heard_then q.1 k.1 t (heard_then q.1 d.1 k.1 z to_k) ht)

    shows_k : IsDrained q.1 d.1 → k.1.running.shows_skips ≡ true
    shows_k z = ap (λ (v : State). v.running.shows_skips) d.3.1 ∙ ap (λ (r : Running). r.shows_skips) z.running ∙ ap (λ (v : State). v.running.shows_skips) w.2 ∙ listening.shows

    refused : (c : Code) → q.0 ≡ shown.Refused c → IsSkipCode c → IsHeard q.1 d.1 ⊎ IsDrained q.1 d.1 → IsHeard s t
    refused c is skips (inl z) = heard_all z
    refused c is skips (inr z) =
        heard_after s k.1 t hm.0.1.lines hm.0.1.noted
        (heard_of k.1 t (skipped_told c k.1 u t skips (shows_k z) (subst (λ (a : Shown). Ends (after_hydrate a k.1) u t) (d.3.0 ∙ ap (λ (r : Shown). result_of r d.1.filter) is) k.3)))

    pending : q.0 ≡ shown.Pending (own_id need x) → (b : IsBegun w.0) → IsHeard q.1 d.1 ⊎ IsDrained q.1 d.1 → IsHeard s t ⊎ (IsCalm s t × (is_hydrating i.id t ≡ true) × IsOpenTo t)
    pending is b (inl z) = inl (heard_all z)
    pending is b (inr z) =
        inr (over w.0 b d.1 t (subst (λ (v : State). IsDrained v d.1) w.2 z)
        (after_pending (own_id need x) d.1.filter.ending k.1 u t (subst (λ (a : Shown). Ends (after_hydrate a k.1) u t) (d.3.0 ∙ ap (λ (r : Shown). result_of r d.1.filter) is) k.3) ∙ d.3.1))

    by : ((c : Code) × (q.0 ≡ shown.Refused c) × IsSkipCode c × (w.0 ≡ x)) ⊎ ((q.0 ≡ shown.Pending (own_id need x)) × IsBegun w.0) → IsHeard s t ⊎ (IsCalm s t × (is_hydrating i.id t ≡ true) × IsOpenTo t)
    by (inl z) = inl (refused z.0 z.1 z.2 (drained_now (subst (λ (v : State). All IsPlainAsk v.filter.outbox) (sym w.2) (subst (λ (g : Filter). All IsPlainAsk g.outbox) (sym z.3) ready.boxed))))
    by (inr z) = pending z.0 z.1 (drained_now (subst (λ (v : State). All IsPlainAsk v.filter.outbox) (sym w.2) (plain_boxed w.0 z.1)))
