-- Where no policy of FULL population was accepted each directory is populated, and no list call waits.
use Rattle.std.proofs.Common.{◌≡◌, ◌⊎◌, ℕ, Bool, true, false, List, [], ◌∷◌, ◌++◌, refl, sym, ◌∙◌, ap, subst, inl, inr}
use Rattle.std.specs.Prelude.{Option, Some, None, ◌&&◌, ◌||◌, ◌==◌}
use Rattle.std.specs.List.{list_any}
use Rattle.cf_base.specs.declared.answers.Answer.{Answer}
use Rattle.cf_base.specs.declared.answers.Shown.{Shown}
use Rattle.cf_base.specs.declared.answers.Shown.TheVariants as shown
use Rattle.cf_base.specs.declared.calls.Call.{Call}
use Rattle.cf_base.specs.declared.calls.Call.TheVariants as call
use Rattle.cf_base.specs.declared.changes.Change.{Change}
use Rattle.cf_base.specs.declared.changes.Change.TheVariants as change
use Rattle.cf_base.specs.declared.codes.Code.{Code}
use Rattle.cf_base.specs.declared.events.Event.{Event}
use Rattle.cf_base.specs.declared.events.Event.TheVariants as event
use Rattle.cf_base.specs.declared.ids.ItemId.{ItemId}
use Rattle.cf_base.specs.declared.policies.Mode.{Mode}
use Rattle.cf_base.specs.declared.policies.Mode.TheVariants as mode
use Rattle.cf_base.specs.declared.policies.Policy.{Policy}
use Rattle.cf_base.specs.declared.waits.WaitKind.{WaitKind}
use Rattle.cf_base.specs.declared.waits.WaitKind.TheVariants as wait_kind
use Rattle.cf_model.specs.Calls.{policy_tests, set_policy, with_policy}
use Rattle.cf_model.specs.Changes.{next_number}
use Rattle.cf_model.specs.Effects.{effect}
use Rattle.cf_model.specs.Events.{answered, begun, no_volume, outcome}
use Rattle.cf_model.specs.Items.{Item, root}
use Rattle.cf_model.specs.Lawful.{IsStep, Runs}
use Rattle.cf_model.specs.Logs.{items_of}
use Rattle.cf_model.specs.Missing.{View, Wait, is_met_by, no_span, view_of}
use Rattle.cf_model.specs.Numbers.{root_id}
use Rattle.cf_model.specs.Plans.{is_full_population}
use Rattle.cf_model.specs.Requests.{is_list, is_list_wait, wait_after, Live}
use Rattle.cf_model.specs.Settling.{no_view, view_at}
use Rattle.cf_model.specs.State.{Filter, Off, On, Broken, Power, State, start, with_filter, in_filter}
use Rattle.cf_model.specs.Store.{Held}
use Rattle.cf_model.specs.Trees.{Choices, walk, Tree, mapped}
use Rattle.cf_model.specs.Waits.{Need, beside, is_met_now, wait_for}
use Rattle.cf_model.specs.Words.{first_of, part, when}
use Rattle.cf_model_laws.specs.Invariant.{All, IsSound}
use Rattle.cf_model_laws.specs.Premises.{IsFair, IsFresh}
use Rattle.cf_model_laws.specs.Seats.{IsSeated, NeedsWell, HasByte, IsOpenOn}
use Rattle.cf_model_laws.specs.Uses.{sets_policy, is_ruling}
use Rattle.cf_model_laws.proofs.BesideGuarded as beside_keep
use Rattle.cf_model_laws.proofs.EventsGuarded.{Unruled, step_keeps, unruled, step_by}
use Rattle.cf_model_laws.proofs.Gathered.{all_append, all_filter, all_found, all_weaker}
use Rattle.cf_model_laws.proofs.LoggedGuarded.{items_more}
use Rattle.cf_model_laws.proofs.RightItems.{no_way}
use Rattle.cf_model_laws.proofs.SoundSettles.{same_item, not_true}
use Rattle.cf_model_convergence.specs.Lasting.{AtPoint, HoldsIn}
use Rattle.cf_model_convergence.specs.Quiet.{allows_unpopulated, is_accepted, is_always_populated}
use Rattle.cf_model_convergence.specs.Trees.{AreTrees, AtAll, is_listing_on}
use Rattle.cf_model_convergence.proofs.PlacedItems.{IsPlacedIn, at_first, at_front, at_more, at_now, placed_trees, placed_whole, run_placed}
use Rattle.cf_model_populated.specs.Populated.{ArePopulated, AreUnlisted, IsPopulated}
use Rattle.cf_model_populated.proofs.PolicyGuarded.{unruled_policy}
use Rattle.cf_model_populated.proofs.PopulatedItems.{effect_populated}
use Rattle.cf_model.specs.Arrows.{Preserves, noted, then_do, unless}
use Rattle.cf_model.specs.Operations.{done}
use Rattle.cf_model.proofs.ArrowLaws.{keeps_lifted}
use Rattle.cf_model_laws.proofs.CallsGuarded.{set_policy_keeps}

-- beside what the machine keeps of items and waits

abbrev pub IsPartial : Policy → Type 0
IsPartial p = is_full_population p.population ≡ false

abbrev pub IsUnlisted : Wait → Type 0
IsUnlisted w = is_list_wait w.kind ≡ false

abbrev pub Full : beside_keep.Fact
Full l e p log hs hn ws wn = IsFair l → AtAll (All IsPopulated) log × All IsUnlisted ws

abbrev Known : Filter → Type 0
Known x = IsPartial x.policy × AreTrees x.volume.items

-- a list call does not wait for a directory that is populated
list_met : (k : WaitKind) (v : View) (w : Wait) → is_list_wait k ≡ true → is_met_by k v w ≡ v.populated
list_met wait_kind.List v w e = refl
list_met wait_kind.Read v w e = no_way e
list_met wait_kind.Hydrate v w e = no_way e
list_met wait_kind.Background v w e = no_way e
list_met wait_kind.Dehydrate v w e = no_way e

module _ (x : Filter) (trees : AreTrees x.volume.items) (full : All IsPopulated x.volume.items) where
  seen_populated : (id : ItemId) → IsSeated x.volume.items id true → (view_at x id).populated ≡ true
  seen_populated id (inl k) =
      ap (λ (o : Option Item). (part (view_of x.policy) no_view o).populated) k.1 ∙ (all_found IsPopulated (λ j. j.id.0 == id.0) x.volume.items k.0 k.1 full).0 k.2
  seen_populated id (inr k) =
      ap (λ (y : ItemId). (view_at x y).populated) (same_item id root_id k.0)
      ∙ ap (λ (o : Option Item). (part (view_of x.policy) no_view o).populated) trees.top.1 ∙ (all_found IsPopulated (λ j. j.id.0 == root_id.0) x.volume.items trees.top.0 trees.top.1 full).0 trees.top.2

  begins_unlisted : (n : Need) → NeedsWell n x → is_met_now n x ≡ false → is_list_wait n.kind ≡ false
  begins_unlisted n fit unmet = by (is_list_wait n.kind) refl fit.on where
    by : (b : Bool) → is_list_wait n.kind ≡ b → IsSeated x.volume.items n.item (is_list_wait n.kind) ⊎ ((is_list_wait n.kind ≡ false) × (IsOpenOn x n.item ⊎ HasByte x n.item)) → is_list_wait n.kind ≡ false
    by false q k = q
    by true q (inl k) = no_way (sym unmet ∙ list_met n.kind (view_at x n.item) (wait_for n x) q ∙ seen_populated n.item (subst (IsSeated x.volume.items n.item) q k))
    by true q (inr k) = k.0

  waits_unlisted : (n : Need) → NeedsWell n x → is_met_now n x ≡ false → All IsUnlisted (wait_for n x ∷ beside n x)
  waits_unlisted n fit unmet = (begins_unlisted n fit unmet, others (n.background) _) where
    others : (a b : Bool) → All IsUnlisted (when (a && b) (wait_after x.waiting 1 wait_kind.Background n.item None no_span ∷ []))
    others true true = (refl, tt)
    others true false = tt
    others false b = tt

more : (x : Filter) (c : Change) → x.volume.items ≡ items_of x.volume.log → AtAll (All IsPopulated) x.volume.log → All IsPopulated (effect x.volume.items c (next_number x.volume)) → AtAll (All IsPopulated) (x.volume.log ++ (next_number x.volume, c) ∷ [])
more x c is h k =
    at_more (All IsPopulated) x.volume.log (next_number x.volume, c) h
    (subst (All IsPopulated) (sym (items_more (root ∷ []) x.volume.log (next_number x.volume) c ∙ ap (λ (items : List Item). effect items c (next_number x.volume)) (sym is))) k)

pub now : (x : Filter) → x.volume.items ≡ items_of x.volume.log → AtAll (All IsPopulated) x.volume.log → All IsPopulated x.volume.items
now x is h = subst (All IsPopulated) (sym is) (at_now (All IsPopulated) x.volume.log h)

full_knowing : beside_keep.Knowing Known Full
full_knowing = record {
  puts = λ l tokens c x sound fit known h fair. (
    more x c (sound fair).of_log.0 (h fair).0 (effect_populated l.remote x c (next_number x.volume) (known fair).0 (fit fair) (now x (sound fair).of_log.0 (h fair).0)),
    (h fair).1,
  );
  ends = λ l e p log hs hn ws wn stays h fair. ((h fair).0, all_filter IsUnlisted stays ws (h fair).1);
  begins = λ l tokens n x sound fit unmet known h fair. (
    (h fair).0,
    all_append IsUnlisted x.waiting.waits (wait_for n x ∷ beside n x) (h fair).1 (waits_unlisted x (known fair).1 (now x (sound fair).of_log.0 (h fair).0) n (fit fair) unmet),
  );
  opens = λ l tokens item x sound fit h fair. h fair;
  closes = λ l e p log hs hn ws wn stays h fair. h fair;
  stops = λ l e p log hs hn ws wn h fair. ((h fair).0, tt);
  grows = λ l k e p log hs hn ws wn fair h z. h (fair z).0;
}

full_runs : beside_keep.KnowingRuns Known Full
full_runs = record {
  knowing = full_knowing;
  removes = λ l tokens item x sound idle leaf h fair. (more x (change.Remove item) (sound fair).of_log.0 (h fair).0 (all_filter IsPopulated _ x.volume.items (now x (sound fair).of_log.0 (h fair).0)), (h fair).1);
  crashes = λ l e p log hs hn ws wn h fair. ((h fair).0, tt);
  opens = λ l p epoch v hs hn ws wn later h fair. (at_front (All IsPopulated) p.count v.log (h fair).0, tt);
}

abbrev pub IsPartialIn : State → Type 0
IsPartialIn s = IsPlacedIn s × IsPartial s.filter.policy

abbrev pub IsFullIn : State → Type 0
IsFullIn s = IsPartialIn s × beside_keep.HoldsIn Full s

pub full_rest : Unruled IsFullIn
full_rest =
    beside_keep.unruled_knowing Known Full full_runs IsPartialIn (λ s h fair. (h.1, placed_trees s h.0 fair))
    (unruled_policy IsPartial IsPlacedIn (unruled IsPlacedIn placed_whole))

pub full_ruling : (p : Policy) (s : State) → IsPartial p → p.validate ≡ false → IsFullIn s → IsFullIn (with_filter (with_policy p s.filter) s)
full_ruling p s partial v h = ((placed_whole.ruling.rules p s v h.0.0, partial), h.1)

-- an event that sets a policy

call_ruling : (c : Call) → is_ruling c ≡ true → (p : Policy) × (c ≡ call.Policy p)
call_ruling (call.Policy p) e = (p, refl)
call_ruling (call.Open path) e = no_way e
call_ruling (call.Close handle) e = no_way e
call_ruling (call.Cancel wait) e = no_way e
call_ruling (call.Tick ticks) e = no_way e
call_ruling (call.Read handle offset len) e = no_way e
call_ruling (call.Get path offset len) e = no_way e
call_ruling (call.Write handle offset bytes) e = no_way e
call_ruling (call.Size handle size) e = no_way e
call_ruling call.Flush e = no_way e
call_ruling (call.Create path) e = no_way e
call_ruling (call.Mkdir path) e = no_way e
call_ruling (call.Delete path) e = no_way e
call_ruling (call.Rename from to) e = no_way e
call_ruling (call.List path) e = no_way e
call_ruling (call.Pin path pin reach) e = no_way e
call_ruling (call.Hydrate path) e = no_way e
call_ruling (call.Dehydrate path range) e = no_way e
call_ruling (call.Info path) e = no_way e
call_ruling (call.Ranges path class) e = no_way e
call_ruling call.Df e = no_way e
call_ruling (call.Keep path on) e = no_way e
call_ruling (call.Used path) e = no_way e
call_ruling (call.Connect on) e = no_way e

event_ruling : (e : Event) → sets_policy e ≡ true → (p : Policy) × (e ≡ event.Call (call.Policy p))
event_ruling (event.Call c) e = let k = call_ruling c e in (k.0, ap (λ (d : Call). event.Call d) k.1)
event_ruling (event.Device d) e = no_way e
event_ruling (event.Peer d) e = no_way e
event_ruling (event.Engine d) e = no_way e
event_ruling (event.Provider d) e = no_way e

abbrev setting : Policy → Event
setting p = event.Call (call.Policy p)

-- what the machine keeps where no policy is set, and what such a policy leaves
module _ (P : State → Type 0) (rest : Unruled P) (ruling : (p : Policy) (s : State) → IsPartial p → p.validate ≡ false → P s → P (with_filter (with_policy p s.filter) s)) where
  -- a policy that is not of FULL population
  partial_full : (s : State) (p : Policy) (a : Answer) (t : State) → IsPartial p → IsStep mode.Replay s (setting p) a t → P s → P t
  partial_full s p a t partial is h = step_by P rest.breaks s (setting p) a t is h (kept.keeps (begun s) (rest.begins s h)) where
    m : Mode
    m = s.mode

    kept : Preserves P (in_filter (set_policy m p))
    kept =
        keeps_lifted P (λ x. x.filter) with_filter (set_policy m p) (λ y k. k)
        (λ y k. set_policy_keeps (λ x. P (with_filter x y)) m p (rest.closed.replay s h) (λ v x j. ruling p (with_filter x y) partial v j))

  -- one that is, and is refused
  module _ (s : State) (p : Policy) (a : Answer) (t : State) (refused : is_accepted a.shown ≡ false) (c : Choices) (h : P s) where
    abbrev begins : State
    begins = begun s

    abbrev set_by : Option Code → Tree State Shown
    set_by o = mapped (λ x. with_filter x begins) (unless shown.Refused o (then_do (noted (with_policy p)) done) begins.filter)

    set_kept : (o : Option Code) → outcome (walk c.stop c.forks c.tellings (set_by o)) ≡ (t, a) → P t
    set_kept (Some k) z = subst P (ap (λ (x : State × Answer). x.0) z) (rest.begins s h)
    set_kept None z = no_way (sym refused ∙ ap is_accepted (sym (ap (λ (x : State × Answer). x.1.shown) z)))

    power_kept : (w : Power) → answered (no_volume true w) c s (setting p) ≡ (t, a) → P t
    power_kept On z = set_kept (first_of (policy_tests s.mode p begins.filter)) z
    power_kept Broken z = subst P (ap (λ (x : State × Answer). x.0) z) h
    power_kept Off z = subst P (ap (λ (x : State × Answer). x.0) z) h

  set_full : (s : State) (p : Policy) (a : Answer) (t : State) → IsStep mode.Replay s (setting p) a t → allows_unpopulated (setting p, a) ≡ false → P s → P t
  set_full s p a t is none h = by (is_full_population p.population) refl none where
    by : (b : Bool) → is_full_population p.population ≡ b → (b && is_accepted a.shown) ≡ false → P t
    by false q z = partial_full s p a t q is h
    by true q z = power_kept s p a t z is.1 h s.power is.2

  step_full : (s : State) (e : Event) (a : Answer) (t : State) → IsStep mode.Replay s e a t → allows_unpopulated (e, a) ≡ false → P s → P t
  step_full s e a t is none h = by (sets_policy e) refl where
    by : (b : Bool) → sets_policy e ≡ b → P t
    by false q = step_keeps P rest s e a t is (λ z. no_way (sym q ∙ z)) h
    by true q =
        let k = event_ruling e q in
        set_full s k.0 a t (subst (λ (d : Event). IsStep mode.Replay s d a t) k.1 is) (subst (λ (d : Event). allows_unpopulated (d, a) ≡ false) k.1 none) h

  pub runs_partial : (s : State) (trace : List (Event × Answer)) (t : State) → Runs mode.Replay s trace t → list_any allows_unpopulated trace ≡ false → P s → P t
  runs_partial s [] t runs none h = subst P (sym runs) h
  runs_partial s (p ∷ ps) t runs none h = runs_partial runs.0 ps t runs.2 (right_none (allows_unpopulated p) none) (step_full s p.0 p.1 runs.0 runs.1 (left_none (allows_unpopulated p) none) h) where
    left_none : (b : Bool) → (b || list_any allows_unpopulated ps) ≡ false → b ≡ false
    left_none true z = z
    left_none false z = refl

    right_none : (b : Bool) → (b || list_any allows_unpopulated ps) ≡ false → list_any allows_unpopulated ps ≡ false
    right_none true z = no_way (sym z)
    right_none false z = z

pub run_full : (remote : Held) (clusters : ℕ) (trace : List (Event × Answer)) (s : State) → Runs mode.Replay (start mode.Replay remote clusters) trace s → IsFresh remote → is_always_populated trace ≡ true → IsFullIn s
run_full remote clusters trace s runs fresh always =
    runs_partial IsFullIn full_rest full_ruling (start mode.Replay remote clusters) trace s runs (not_true (list_any allows_unpopulated trace) always)
    ((run_placed remote clusters [] (start mode.Replay remote clusters) refl fresh, refl), λ fair. (at_first (All IsPopulated) ((λ d. refl), tt), tt))

-- the laws

pub dirs_populated : (remote : Held) (clusters : ℕ) (trace : List (Event × Answer)) (s : State) → Runs mode.Replay (start mode.Replay remote clusters) trace s → IsFresh remote → is_always_populated trace ≡ true → HoldsIn ArePopulated s
dirs_populated remote clusters trace s runs fresh always fair = (now s.filter sound.of_log.0 full, all_weaker _ (AtPoint ArePopulated s.link.remote s.filter.volume.log) (λ p k. (k.0, full p.count k.0)) s.filter.volume.points sound.kept) where
  h : IsFullIn s
  h = run_full remote clusters trace s runs fresh always

  sound : IsSound s.link s.volatile.tokens s.filter
  sound = h.0.0.0.0.1 fair

  full : AtAll (All IsPopulated) s.filter.volume.log
  full = (h.1 fair).0

none_listing : (ws : List Wait) (item : ItemId) → All IsUnlisted ws → is_listing_on ws item ≡ false
none_listing [] item h = refl
none_listing (w ∷ ws) item h = by (w.item.0 == item.0) (is_list_wait w.kind) h.0 (none_listing ws item h.1) where
  by : (a b : Bool) → b ≡ false → is_listing_on ws item ≡ false → ((a && b) || is_listing_on ws item) ≡ false
  by true true z k = no_way (sym z)
  by true false z k = k
  by false b z k = k

pub none_listed : (remote : Held) (clusters : ℕ) (trace : List (Event × Answer)) (s : State) → Runs mode.Replay (start mode.Replay remote clusters) trace s → IsFresh remote → IsFair s.link → is_always_populated trace ≡ true → AreUnlisted s
none_listed remote clusters trace s runs fresh fair always = ((h.1 fair).1, all_weaker _ (λ a. is_list a.ask.kind ≡ false) (λ a k. by (is_list a.ask.kind) refl a k) s.filter.waiting.asks h.0.0.0.1) where
  h : IsFullIn s
  h = run_full remote clusters trace s runs fresh always

  by : (b : Bool) → {c : Bool} → c ≡ b → (a : Live) → (c ≡ true → is_listing_on s.filter.waiting.waits a.ask.item ≡ true) → c ≡ false
  by false q a k = q
  by true q a k = no_way (sym (none_listing s.filter.waiting.waits a.ask.item (h.1 fair).1) ∙ k q)
