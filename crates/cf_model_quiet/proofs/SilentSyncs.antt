-- A sync whose last pass is silent leaves a settled state.
use Rattle.std.proofs.Common.{◌≡◌, ◌⊎◌, ℕ, Bool, true, false, List, refl, sym, ◌∙◌, ap, subst, inl, inr}
use Rattle.cf_base.specs.declared.answers.Answer.{Answer}
use Rattle.cf_base.specs.declared.answers.Shown.{Shown}
use Rattle.cf_base.specs.declared.answers.Shown.TheVariants as shown
use Rattle.cf_base.specs.declared.events.EngineEvent.TheVariants as engine
use Rattle.cf_base.specs.declared.events.Event.{Event}
use Rattle.cf_base.specs.declared.events.Event.TheVariants as event
use Rattle.cf_base.specs.declared.notices.Notice.{Notice}
use Rattle.cf_base.specs.declared.policies.Mode.TheVariants as mode
use Rattle.cf_model.specs.Arrows.{ret, then_do}
use Rattle.cf_model.specs.Callbacks.{drain}
use Rattle.cf_model.specs.Events.{begun}
use Rattle.cf_model.specs.Lawful.{IsStep, Runs}
use Rattle.cf_model.specs.Messages.{no_number}
use Rattle.cf_model.specs.Passes.{pass, settle_all, show_unsettled, showing, sync_now, sync_passes, work_now}
use Rattle.cf_model.specs.Requests.{is_dehydrate_wait, is_list_wait}
use Rattle.cf_model.specs.Settled.{is_settled}
use Rattle.cf_model.specs.State.{Link, State, start}
use Rattle.cf_model.specs.Store.{Held}
use Rattle.cf_model.specs.Trees.{Asked, Ends, Fork, Ret, Step, Tree, bind}
use Rattle.cf_model.proofs.TreeLaws.{kept_at_end}
use Rattle.cf_model_laws.specs.Invariant.{All, Invariant}
use Rattle.cf_model_laws.specs.Keys.{AreKeysWithin}
use Rattle.cf_model_laws.specs.Premises.{IsFair, IsFresh}
use Rattle.cf_model_laws.proofs.CallbacksGuarded.{drain_keeps}
use Rattle.cf_model_laws.proofs.ContentLaws.{run_sound, sound_whole}
use Rattle.cf_model_laws.proofs.Gathered.{all_both}
use Rattle.cf_model_laws.proofs.Guarded.{Entering, Guarded}
use Rattle.cf_model_laws.proofs.PassesGuarded.{pass_keeps, settle_all_keeps}
use Rattle.cf_model_laws.proofs.RightItems.{no_way}
use Rattle.cf_model_laws.proofs.SoundStates.{small_before}
use Rattle.cf_model_convergence.specs.Agreeing.{IsHereUnlessBuried}
use Rattle.cf_model_convergence.specs.Hearing.{ArePlainWaits, IsHeard, IsPlainWait, is_asked_for}
use Rattle.cf_model_convergence.specs.Quiet.{is_count}
use Rattle.cf_model_convergence.specs.Tidy.{IsTidy}
use Rattle.cf_model_convergence.specs.Trees.{NoneLists}
use Rattle.cf_model_convergence.proofs.EventsCalm.{run_event_by}
use Rattle.cf_model_convergence.proofs.FairBefore.{step_fair}
use Rattle.cf_model_convergence.proofs.LastPasses.{last_pass}
use Rattle.cf_model_convergence.proofs.LinkGuarded.{OfLink, entering_link, guarded_link}
use Rattle.cf_model_convergence.proofs.PassedSteps.{passed_now}
use Rattle.cf_model_convergence.proofs.PassesCalm.{IsSet}
use Rattle.cf_model_convergence.proofs.PlacedItems.{IsPlacedIn, placed_dirs, placed_idle, placed_tree, placed_whole, run_placed}
use Rattle.cf_model_convergence.proofs.SettledItems.{settled_none}
use Rattle.cf_model_convergence.proofs.SyncsCalm.{IsDone, IsLeft}
use Rattle.cf_model_convergence.proofs.TurnsTold.{ends_bind}
use Rattle.cf_model_convergence.proofs.WorksCalm.{work_over}
use Rattle.cf_model_agreement.proofs.CursorsRaised.{IsKnownIn}
use Rattle.cf_model_agreement.proofs.KnownGuarded.{known_whole, run_kept_up, run_known_in}
use Rattle.cf_model_agreement.proofs.RunsTrue.{early_of}
use Rattle.cf_model_quiet.specs.LastPass.{ends_silent}
use Rattle.cf_model_quiet.proofs.AskedGuarded.{run_asked}
use Rattle.cf_model_quiet.proofs.BothGuarded.{Both, entering_both, guarded_both}
use Rattle.cf_model_quiet.proofs.PassingGuarded.{Passing, entering_passing, guarded_passing}
use Rattle.cf_model_quiet.proofs.PassLines.{IsPassedTo, pass_lines, passed_silent}

-- a link that is fair was fair before the pass

module _ (m : State) where
  abbrev WasFair : Link → Type 0
  WasFair l = IsFair l → IsFair m.link

  fair_of : OfLink WasFair
  fair_of = record {
    counts = λ l h. h;
    asks = λ l q h fair. h (fair.0, small_before l.remote q fair.1);
    distrusts = λ l r h fair. no_way fair.0;
    posts = λ l f n h. h;
  }

  abbrev Was : State → Type 0
  Was t = Invariant t × WasFair t.link

  was_guarded : Guarded Was
  was_guarded = guarded_link WasFair fair_of Invariant sound_whole.closed

  was_fair : (k t : State) (u v : Unit {0}) → Invariant m → Ends (pass m) u k → Ends (drain k) v t → IsFair t.link → IsFair m.link
  was_fair k t u v h ends drains =
      (kept_at_end Was (drain k) v t
      ((drain_keeps Was was_guarded).keeps k (kept_at_end Was (pass m) u k ((pass_keeps Was was_guarded (entering_link WasFair fair_of Invariant sound_whole.entering)).keeps m (h, λ z. z)) ends)) drains).1

-- two parts of a tree

ends_join : {S A B : Type 0} (p : Tree S A) (g : A → S → Tree S B) (a : A) (m : S) (b : B) (t : S) → Ends p a m → Ends (g a m) b t → Ends (bind p g) b t
ends_join {S} {A} {B} (Ret c s) g a m b t e k = subst (λ (x : S). Ends (g c x) b t) e.1 (subst (λ (x : A). Ends (g x m) b t) e.0 k)
ends_join (Step s p) g a m b t e k = ends_join p g a m b t e k
ends_join (Fork p q) g a m b t (inl e) k = inl (ends_join p g a m b t e k)
ends_join (Fork p q) g a m b t (inr e) k = inr (ends_join q g a m b t e k)
ends_join (Asked f) g a m b t e k = (e.0, ends_join (f e.0) g a m b t e.1 k)

-- a pass that shows what it leaves out, and the callbacks after it, are a `work`

module _ (m : State) (shows : m.running.shows_skips ≡ true) where
  shown_so : showing m ≡ m
  shown_so = ap (λ (b : Bool). record m { running = record m.running { shows_skips = b } }) (sym shows)

  worked : (k t : State) (u v : Unit {0}) → Ends (pass m) u k → Ends (drain k) v t → Ends (work_now m) shown.Done t
  worked k t u v ends drains = ends_join (pass (showing m)) (λ _ x. then_do drain (ret shown.Done) x) u k shown.Done t (subst (λ (x : State). Ends (pass x) u k) (sym shown_so) ends) (ends_join (drain k) (λ _ x. ret shown.Done x) v t shown.Done t drains (refl, refl))

-- It is beside whatever else is kept. The state is settled as a whole, if so it is asked for, where from what is kept each live item that the cursor has passed
-- is here once no tombstone is left.
module _ (Q : State → Type 0) (closed : Guarded Q) (entering : Entering Q) (all : Bool) (here : (m : State) → Q m → IsFair m.link → all ≡ true → IsHereUnlessBuried m) where
  -- what a pass rests on, and leaves

  abbrev IsBased : State → Type 0
  IsBased s = Both (Both IsKnownIn IsPlacedIn) Q s

  abbrev IsPlain : State → Type 0
  IsPlain s = Passing IsBased s

  plain_guarded : Guarded IsPlain
  plain_guarded = guarded_passing IsBased (guarded_both (Both IsKnownIn IsPlacedIn) Q (guarded_both IsKnownIn IsPlacedIn known_whole.closed placed_whole.closed) closed)

  plain_entering : Entering IsPlain
  plain_entering = entering_passing IsBased (entering_both (Both IsKnownIn IsPlacedIn) Q (entering_both IsKnownIn IsPlacedIn known_whole.entering placed_whole.entering) entering)

  known_of : (m : State) → IsPlain m → IsKnownIn m
  known_of m h = h.0.0.0.0

  placed_of : (m : State) → IsPlain m → IsPlacedIn m
  placed_of m h = h.0.0.0.1

  plain_sound : (m : State) → IsPlain m → Invariant m
  plain_sound m h = (known_of m h).0.0.0.0.0

  plain_set : (m : State) → IsPlain m → IsFair m.link → IsSet m
  plain_set m h fair = record {
    fair = fair;
    listening = record { inline = h.1.0; shows = h.1.1 };
    free = record {
      connected = h.0.1.1;
      waits = all_both (λ u. is_list_wait u.kind ≡ false) (λ u. is_dehydrate_wait u.kind ≡ true → is_asked_for m.filter.waiting.asks u ≡ true) (IsPlainWait m.filter.waiting.asks) (λ u a b. (a, b)) m.filter.waiting.waits h.0.1.0.0 h.0.1.0.1.asked;
      boxed = h.0.1.0.2;
    };
    dirs = placed_dirs m (placed_of m h) fair;
    agreed = record {
      tidy = ((known_of m h).0.0.1 fair).0;
      early = early_of m (known_of m h).0.0.0 fair;
      alone = ((known_of m h).0.1 fair).0;
      tree = placed_tree m (placed_of m h) fair;
      idle = placed_idle m (placed_of m h) fair h.0.1.0.0;
      passed = (passed_now m ((known_of m h).1 fair).0.0).passed;
    };
  }

  -- the last pass, and the callbacks after it
  last_left : (m : State) (h : IsPlain m) (k t : State) (u v : Unit {0}) → Ends (pass m) u k → Ends (drain k) v t → no_number t ≡ false → IsFair t.link → ends_silent t.filter.notes ≡ true → IsLeft all t
  last_left m h k t u v ends drains left fair silent =
      by (work_over all m shown.Done t (plain_sound m h) (subst IsSet (sym same) (plain_set m h was)) (λ e. subst IsHereUnlessBuried (sym same) (here m h.0.0.1 was e)) (worked m h.1.1 k t u v ends drains) left) where
        same : showing m ≡ m
        same = shown_so m h.1.1

        was : IsFair m.link
        was = was_fair m k t u v (plain_sound m h) ends drains fair

        lines : IsPassedTo m t
        lines = pass_lines m (plain_sound m h) (λ x w e. (kept_at_end IsPlain (settle_all m) w x ((settle_all_keeps IsPlain plain_guarded).keeps m h) e).1.1) u v k t ends drains left

        by : IsHeard m t ⊎ IsLeft all t → IsLeft all t
        by (inl z) = elim z.heard as (λ _. IsLeft all t) [ inl y ↦ no_way (sym (passed_silent m t lines silent z.lines z.noted) ∙ y) | inr y ↦ no_way (sym y ∙ fair.0) ]
        by (inr z) = z

  sync_left : (s : State) (r : Shown) (t : State) → IsPlain (showing s) → Ends (sync_now s) r t → no_number t ≡ false → IsFair t.link → ends_silent t.filter.notes ≡ true → IsDone all r t
  sync_left s r t h ends left fair silent = (subst (IsLeft all) (sym d.3.1) over, d.3.0 ∙ ap (λ (n : ℕ). shown.Count n) (settled_none all d.1 over.0)) where
    k : (v : Unit {0}) × (m : State) × Ends (sync_passes (showing s)) v m × Ends (then_do drain show_unsettled m) r t
    k = ends_bind (sync_passes (showing s)) (λ _ m. then_do drain show_unsettled m) r t ends

    d : (v : Unit {0}) × (m : State) × Ends (drain k.1) v m × Ends (show_unsettled m) r t
    d = ends_bind (drain k.1) (λ _ m. show_unsettled m) r t k.3

    l : (m : State) × (v : Unit {0}) × IsPlain m × Ends (pass m) v k.1
    l = last_pass IsPlain plain_guarded plain_entering (showing s) k.0 k.1 h k.2

    over : IsLeft all d.1
    over =
        last_left l.0 l.2 k.1 d.1 l.1 d.0 l.3 d.2 (subst (λ (x : State). no_number x ≡ false) d.3.1 left) (subst (λ (x : State). IsFair x.link) d.3.1 fair)
        (subst (λ (x : State). ends_silent x.filter.notes ≡ true) d.3.1 silent)

  -- in a run
  pub run_left : (remote : Held) (clusters : ℕ) (trace : List (Event × Answer)) (s : State) (a : Answer) (t : State) → Runs mode.Replay (start mode.Replay remote clusters) trace s → IsFresh remote → IsTidy remote → s.link.inline ≡ true → AreKeysWithin s.filter → ArePlainWaits s → Q (begun s)
      → IsStep mode.Replay s (event.Engine engine.Sync) a t → IsFair t.link → is_count a.shown ≡ true → ends_silent a.notes ≡ true → no_number t ≡ false → IsDone all a.shown t
  run_left remote clusters trace s a t runs fresh tidy inline keys waits kept step fair counted silent left =
      run_event_by sync_now is_count (λ x. refl) (IsDone all) remote clusters trace s runs (fresh, tidy, inline, keys, waits, run_kept_up remote clusters trace s runs fresh tidy was) (event.Engine engine.Sync) a t step fair refl refl (λ c. refl) counted left
      (λ r x h set ends free now notes. sync_left (begun s) r x (plain set) ends free now (subst (λ (ns : List Notice). ends_silent ns ≡ true) (sym notes) silent)) where
        was : IsFair s.link
        was = step_fair s (event.Engine engine.Sync) a t step (run_sound remote clusters trace s runs fresh) fair

        unlisted : (ws : List _) → All (IsPlainWait s.filter.waiting.asks) ws → All (λ u. is_list_wait u.kind ≡ false) ws
        unlisted ws k = all_both (IsPlainWait s.filter.waiting.asks) (IsPlainWait s.filter.waiting.asks) (λ u. is_list_wait u.kind ≡ false) (λ u x y. x.0) ws k k

        plain : IsSet (showing (begun s)) → IsPlain (showing (begun s))
        plain set = (
          (
            (
              (
                known_whole.closed.keeps_showing (begun s) (known_whole.begins s (run_known_in remote clusters trace s runs fresh tidy)),
                placed_whole.closed.keeps_showing (begun s) (placed_whole.begins s (run_placed remote clusters trace s runs fresh)),
              ),
              closed.keeps_showing (begun s) kept,
            ),
            ((unlisted s.filter.waiting.waits waits, run_asked remote clusters trace s runs fresh, set.free.boxed), set.free.connected),
          ),
          (inline, refl),
        )

-- so it is beside the invariant

pub run_ends_silent : (remote : Held) (clusters : ℕ) (trace : List (Event × Answer)) (s : State) (a : Answer) (t : State) → Runs mode.Replay (start mode.Replay remote clusters) trace s → IsFresh remote → IsTidy remote → s.link.inline ≡ true → AreKeysWithin s.filter → ArePlainWaits s
    → IsStep mode.Replay s (event.Engine engine.Sync) a t → IsFair t.link → is_count a.shown ≡ true → ends_silent a.notes ≡ true → no_number t ≡ false → (is_settled false t ≡ true) × (a.shown ≡ shown.Count 0)
run_ends_silent remote clusters trace s a t runs fresh tidy inline keys waits step fair counted silent left =
    let w : IsDone false a.shown t = run_left Invariant sound_whole.closed sound_whole.entering false (λ m h f e. no_way e) remote clusters trace s a t runs fresh tidy inline keys waits (sound_whole.begins s (run_sound remote clusters trace s runs fresh)) step fair counted silent left in (w.0.0, w.1)

-- where no list call waits
pub run_quiet : (remote : Held) (clusters : ℕ) (trace : List (Event × Answer)) (s : State) (a : Answer) (t : State) → Runs mode.Replay (start mode.Replay remote clusters) trace s → IsFresh remote → IsTidy remote → s.link.inline ≡ true → AreKeysWithin s.filter → NoneLists s
    → IsStep mode.Replay s (event.Engine engine.Sync) a t → IsFair t.link → is_count a.shown ≡ true → ends_silent a.notes ≡ true → no_number t ≡ false → (is_settled false t ≡ true) × (a.shown ≡ shown.Count 0)
run_quiet remote clusters trace s a t runs fresh tidy inline keys none step fair counted silent left =
    run_ends_silent remote clusters trace s a t runs fresh tidy inline keys
    (all_both (λ u. is_list_wait u.kind ≡ false) (λ u. is_dehydrate_wait u.kind ≡ true → is_asked_for s.filter.waiting.asks u ≡ true) (IsPlainWait s.filter.waiting.asks) (λ u a b. (a, b)) s.filter.waiting.waits none (run_asked remote clusters trace s runs fresh).asked)
    step fair counted silent left
