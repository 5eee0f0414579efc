-- Silent syncs of runs in which no directory was made unpopulated.
use Rattle.std.proofs.Common.{◌≡◌, ℕ, false, true, List}
use Rattle.std.specs.List.{list_any}
use Rattle.cf_base.specs.declared.answers.Answer.{Answer}
use Rattle.cf_base.specs.declared.answers.Shown.TheVariants as shown
use Rattle.cf_base.specs.declared.events.EngineEvent.TheVariants as engine
use Rattle.cf_base.specs.declared.events.Event.{Event}
use Rattle.cf_base.specs.declared.events.Event.TheVariants as event
use Rattle.cf_base.specs.declared.policies.Mode.TheVariants as mode
use Rattle.cf_model.specs.Lawful.{IsStep, Runs}
use Rattle.cf_model.specs.Messages.{no_number}
use Rattle.cf_model.specs.Requests.{is_dehydrate_wait, is_list_wait}
use Rattle.cf_model.specs.Settled.{is_settled}
use Rattle.cf_model.specs.State.{State, book_now, items_now, start}
use Rattle.cf_model.specs.Store.{Held}
use Rattle.cf_model_laws.specs.Keys.{AreKeysWithin}
use Rattle.cf_model_laws.specs.Premises.{IsFair, IsFresh}
use Rattle.cf_model_laws.proofs.ContentLaws.{run_sound}
use Rattle.cf_model_laws.proofs.Gathered.{all_both}
use Rattle.cf_model_convergence.specs.Agreeing.{IsHereUnlessBuried}
use Rattle.cf_model_convergence.specs.Hearing.{ArePlainWaits, IsPlainWait, is_asked_for, is_heard}
use Rattle.cf_model_convergence.specs.Quiet.{is_accepted, is_always_populated, is_count}
use Rattle.cf_model_convergence.specs.Tidy.{IsTidy}
use Rattle.cf_model_convergence.proofs.FairBefore.{step_fair}
use Rattle.cf_model_convergence.proofs.PlacedItems.{placed_trees, run_placed}
use Rattle.cf_model_agreement.proofs.KnownSyncs.{sync_silent, sync_silent_all, work_silent, work_silent_all}
use Rattle.cf_model_populated.specs.Accounted.{AreAccountedFor}
use Rattle.cf_model_populated.specs.Populated.{AreDehydratesAsked, ArePassedHere}
use Rattle.cf_model_populated.proofs.AccountedSteps.{accounted_now}
use Rattle.cf_model_populated.proofs.PopulatedRuns.{dirs_populated, none_listed}

module _ (remote : Held) (clusters : ℕ) (trace : List (Event × Answer)) (s : State) (runs : Runs mode.Replay (start mode.Replay remote clusters) trace s) (fresh : IsFresh remote) (always : is_always_populated trace ≡ true) (e : Event) (a : Answer) (t : State) (step : IsStep mode.Replay s e a t) (fair : IsFair t.link) where
  was_fair : IsFair s.link
  was_fair = step_fair s e a t step (run_sound remote clusters trace s runs fresh) fair

  plain : AreDehydratesAsked s → ArePlainWaits s
  plain h = all_both (λ w. is_list_wait w.kind ≡ false) (λ w. is_dehydrate_wait w.kind ≡ true → is_asked_for s.filter.waiting.asks w ≡ true) (IsPlainWait s.filter.waiting.asks) (λ w x y. (x, y)) s.filter.waiting.waits (none_listed remote clusters trace s runs fresh was_fair always).0 h

  here : AreAccountedFor s.link.remote (items_now s) (book_now s) → IsHereUnlessBuried s
  here h none = let top = (placed_trees s (run_placed remote clusters trace s runs fresh) was_fair).top in record { top = (top.0, top.1); populated = (dirs_populated remote clusters trace s runs fresh always was_fair).0; here = accounted_now s none h }

pub sync_settles : (remote : Held) (clusters : ℕ) (trace : List (Event × Answer)) (s : State) (a : Answer) (t : State) → Runs mode.Replay (start mode.Replay remote clusters) trace s → IsFresh remote → IsTidy remote → is_always_populated trace ≡ true → s.link.inline ≡ true → AreKeysWithin s.filter → AreDehydratesAsked s → IsStep mode.Replay s (event.Engine engine.Sync) a t → IsFair t.link → is_count a.shown ≡ true → list_any is_heard a.notes ≡ false → no_number t ≡ false → (is_settled false t ≡ true) × (a.shown ≡ shown.Count 0)
sync_settles remote clusters trace s a t runs fresh tidy always inline keys none step fair counted quiet left =
    sync_silent remote clusters trace s a t runs fresh tidy inline keys (plain remote clusters trace s runs fresh always (event.Engine engine.Sync) a t step fair none) step fair counted quiet left

pub sync_settles_all : (remote : Held) (clusters : ℕ) (trace : List (Event × Answer)) (s : State) (a : Answer) (t : State) → Runs mode.Replay (start mode.Replay remote clusters) trace s → IsFresh remote → IsTidy remote → is_always_populated trace ≡ true → s.link.inline ≡ true → AreKeysWithin s.filter → AreDehydratesAsked s → AreAccountedFor s.link.remote (items_now s) (book_now s) → IsStep mode.Replay s (event.Engine engine.Sync) a t → IsFair t.link → is_count a.shown ≡ true → list_any is_heard a.notes ≡ false → no_number t ≡ false → (is_settled true t ≡ true) × ArePassedHere t
sync_settles_all remote clusters trace s a t runs fresh tidy always inline keys none there step fair counted quiet left =
    let w = sync_silent_all remote clusters trace s a t runs fresh tidy inline keys (plain remote clusters trace s runs fresh always (event.Engine engine.Sync) a t step fair none) (here remote clusters trace s runs fresh always (event.Engine engine.Sync) a t step fair there) step fair counted quiet left in (w.0, w.1.here)

pub work_settles : (remote : Held) (clusters : ℕ) (trace : List (Event × Answer)) (s : State) (a : Answer) (t : State) → Runs mode.Replay (start mode.Replay remote clusters) trace s → IsFresh remote → IsTidy remote → is_always_populated trace ≡ true → s.link.inline ≡ true → AreKeysWithin s.filter → AreDehydratesAsked s → IsStep mode.Replay s (event.Engine engine.Work) a t → IsFair t.link → is_accepted a.shown ≡ true → list_any is_heard a.notes ≡ false → no_number t ≡ false → is_settled false t ≡ true
work_settles remote clusters trace s a t runs fresh tidy always inline keys none step fair counted quiet left =
    work_silent remote clusters trace s a t runs fresh tidy inline keys (plain remote clusters trace s runs fresh always (event.Engine engine.Work) a t step fair none) step fair counted quiet left

pub work_settles_all : (remote : Held) (clusters : ℕ) (trace : List (Event × Answer)) (s : State) (a : Answer) (t : State) → Runs mode.Replay (start mode.Replay remote clusters) trace s → IsFresh remote → IsTidy remote → is_always_populated trace ≡ true → s.link.inline ≡ true → AreKeysWithin s.filter → AreDehydratesAsked s → AreAccountedFor s.link.remote (items_now s) (book_now s) → IsStep mode.Replay s (event.Engine engine.Work) a t → IsFair t.link → is_accepted a.shown ≡ true → list_any is_heard a.notes ≡ false → no_number t ≡ false → (is_settled true t ≡ true) × ArePassedHere t
work_settles_all remote clusters trace s a t runs fresh tidy always inline keys none there step fair counted quiet left =
    let w = work_silent_all remote clusters trace s a t runs fresh tidy inline keys (plain remote clusters trace s runs fresh always (event.Engine engine.Work) a t step fair none) (here remote clusters trace s runs fresh always (event.Engine engine.Work) a t step fair there) step fair counted quiet left in (w.0, w.1.here)
