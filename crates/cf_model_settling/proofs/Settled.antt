-- After each silent `sync` and `work` of a report both sides agree.
use Rattle.std.proofs.Common.{◌≡◌, ◌∷◌, ℕ, Bool, false, inl, inr, [], refl, subst, sym, true}
use Rattle.cf_base.specs.declared.answers.Answer.{Answer}
use Rattle.cf_base.specs.declared.answers.Shown.TheVariants as shown
use Rattle.cf_base.specs.declared.events.EngineEvent.TheVariants as engine
use Rattle.cf_base.specs.declared.events.Event.{Event}
use Rattle.cf_base.specs.declared.events.Event.TheVariants as event
use Rattle.cf_base.specs.declared.policies.Mode.TheVariants as mode
use Rattle.cf_model.specs.Lawful.{IsStep, Runs}
use Rattle.cf_model.specs.Requests.{is_dehydrate_wait, is_list_wait}
use Rattle.cf_model.specs.Settled.{is_settled}
use Rattle.cf_model.specs.State.{State, start}
use Rattle.cf_model.specs.Store.{Held}
use Rattle.cf_model_agreement.proofs.KnownSyncs.{sync_silent, work_silent}
use Rattle.cf_model_arrivals.proofs.ArrivedSyncs.{quiet_settles_whole, sync_settles_whole, work_settles_whole}
use Rattle.cf_model_convergence.specs.Hearing.{ArePlainWaits, IsPlainWait, is_asked_for}
use Rattle.cf_model_convergence.specs.Quiet.{is_accepted, is_always_populated, is_count}
use Rattle.cf_model_convergence.specs.Tidy.{IsTidy}
use Rattle.cf_model_convergence.specs.Trees.{NoneLists}
use Rattle.cf_model_convergence.proofs.FairBefore.{step_fair}
use Rattle.cf_model_headline.specs.Reports.{OfEach, Report}
use Rattle.cf_model_laws.specs.Invariant.{Invariant}
use Rattle.cf_model_laws.specs.Premises.{IsFair, IsFresh}
use Rattle.cf_model_laws.proofs.ContentLaws.{run_sound, sound_whole}
use Rattle.cf_model_laws.proofs.EventsGuarded.{runs_keep}
use Rattle.cf_model_laws.proofs.FairBefore.{fair_before}
use Rattle.cf_model_laws.proofs.Gathered.{all_both}
use Rattle.cf_model_populated.proofs.PopulatedRuns.{none_listed}
use Rattle.cf_model_quiet.specs.LastPass.{ends_silent}
use Rattle.cf_model_quiet.proofs.AskedGuarded.{run_dehydrates}
use Rattle.cf_model_quiet.proofs.SilentSyncs.{run_ends_silent}
use Rattle.cf_model_settling.specs.Settling.{IsReady, IsSilent, SettlesIfSilent}

module _ (remote : Held) (clusters : ℕ) (fresh : IsFresh remote) (tidy : IsTidy remote) (before : Report) (s : State) (a : Answer) (t : State) (runs : Runs mode.Replay (start mode.Replay remote clusters) before s) where
  plain : IsFair s.link → IsReady before s t → ArePlainWaits s
  plain fair ready =
      let none : NoneLists s = elim ready.lists [ inl always ↦ (none_listed remote clusters before s runs fresh fair always).0 | inr h ↦ h ] in
      all_both (λ w. is_list_wait w.kind ≡ false) (λ w. is_dehydrate_wait w.kind ≡ true → is_asked_for s.filter.waiting.asks w ≡ true) (IsPlainWait s.filter.waiting.asks) (λ w x y. (x, y)) s.filter.waiting.waits none (run_dehydrates remote clusters before s runs fresh)

  -- as a whole where no directory was made unpopulated
  settled : is_settled false t ≡ true → (is_always_populated before ≡ true → is_settled true t ≡ true) → is_settled (is_always_populated before) t ≡ true
  settled part whole = by (is_always_populated before) refl where
    by : (b : Bool) → is_always_populated before ≡ b → is_settled (is_always_populated before) t ≡ true
    by true q = subst (λ (c : Bool). is_settled c t ≡ true) (sym q) (whole q)
    by false q = subst (λ (c : Bool). is_settled c t ≡ true) (sym q) part

  sync_here : IsStep mode.Replay s (event.Engine engine.Sync) a t → IsFair s.link → IsFair t.link → is_count a.shown ≡ true → IsSilent a → IsReady before s t → (is_settled (is_always_populated before) t ≡ true) × (a.shown ≡ shown.Count 0)
  sync_here step was fair counted silent ready =
      let w = sync_silent remote clusters before s a t runs fresh tidy ready.inline ready.keys (plain was ready) step fair counted silent ready.numbers in
      (settled w.0 (λ always. sync_settles_whole remote clusters before s a t runs fresh tidy always ready.inline ready.keys (plain was ready) step fair counted silent ready.numbers), w.1)

  quiet_here : IsStep mode.Replay s (event.Engine engine.Sync) a t → IsFair s.link → IsFair t.link → is_count a.shown ≡ true → ends_silent a.notes ≡ true → IsReady before s t → (is_settled (is_always_populated before) t ≡ true) × (a.shown ≡ shown.Count 0)
  quiet_here step was fair counted silent ready =
      let w = run_ends_silent remote clusters before s a t runs fresh tidy ready.inline ready.keys (plain was ready) step fair counted silent ready.numbers in
      (settled w.0 (λ always. quiet_settles_whole remote clusters before s a t runs fresh tidy always ready.inline ready.keys (plain was ready) step fair counted silent ready.numbers), w.1)

  work_here : IsStep mode.Replay s (event.Engine engine.Work) a t → IsFair s.link → IsFair t.link → is_accepted a.shown ≡ true → IsSilent a → IsReady before s t → is_settled (is_always_populated before) t ≡ true
  work_here step was fair accepted silent ready =
      settled (work_silent remote clusters before s a t runs fresh tidy ready.inline ready.keys (plain was ready) step fair accepted silent ready.numbers)
      (λ always. work_settles_whole remote clusters before s a t runs fresh tidy always ready.inline ready.keys (plain was ready) step fair accepted silent ready.numbers)

  pub settles_here : (e : Event) → IsStep mode.Replay s e a t → IsFair s.link → IsFair t.link → SettlesIfSilent before s e a t
  settles_here e step was fair = record {
    sync = λ is counted silent ready. sync_here (subst (λ (d : Event). IsStep mode.Replay s d a t) is step) was fair counted silent ready;
    quiet = λ is counted silent ready. quiet_here (subst (λ (d : Event). IsStep mode.Replay s d a t) is step) was fair counted silent ready;
    work = λ is accepted silent ready. work_here (subst (λ (d : Event). IsStep mode.Replay s d a t) is step) was fair accepted silent ready;
  }

pub each_settles : (remote : Held) (clusters : ℕ) (report : Report) (last : State) → Runs mode.Replay (start mode.Replay remote clusters) report last → IsFresh remote → IsTidy remote → IsFair last.link
    → OfEach mode.Replay remote clusters report last (λ before s e a t. SettlesIfSilent before s e a t)
each_settles remote clusters report last whole fresh tidy fair before rest s e a t is runs step later =
    let sound : Invariant s = run_sound remote clusters before s runs fresh in
    let next : Invariant t = runs_keep Invariant sound_whole s ((e, a) ∷ []) t (t, step, refl) sound in
    let now : IsFair t.link = fair_before t rest last next later fair in
    settles_here remote clusters fresh tidy before s a t runs e step (step_fair s e a t step sound now) now
