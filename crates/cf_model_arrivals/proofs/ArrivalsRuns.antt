-- Each live item of the remote that the cursor has passed is here or was removed here, in each state of a run.
use Rattle.std.proofs.Common.{◌≡◌, ℕ, Bool, true, false, List, [], ◌∷◌, refl, sym, ◌∙◌, ap, subst, inl, inr}
use Rattle.std.specs.List.{list_any}
use Rattle.cf_base.specs.declared.answers.Answer.{Answer}
use Rattle.cf_base.specs.declared.events.Event.{Event}
use Rattle.cf_base.specs.declared.ids.Usn.{Usn}
use Rattle.cf_base.specs.declared.policies.Mode.TheVariants as mode
use Rattle.cf_base.specs.declared.policies.Policy.{Policy}
use Rattle.cf_model.specs.Books.{no_book}
use Rattle.cf_model.specs.Calls.{with_policy}
use Rattle.cf_model.specs.Changes.{next_number}
use Rattle.cf_model.specs.Items.{Item, root}
use Rattle.cf_model.specs.Lawful.{Runs}
use Rattle.cf_model.specs.Numbers.{above}
use Rattle.cf_model.specs.State.{State, start, with_filter}
use Rattle.cf_model.specs.Store.{Held}
use Rattle.cf_model_laws.specs.Premises.{IsFair, IsFresh}
use Rattle.cf_model_laws.proofs.EventsGuarded.{Unruled, Whole, runs_keep, unruled}
use Rattle.cf_model_laws.proofs.SoundSettles.{not_true}
use Rattle.cf_model_convergence.specs.Agreeing.{IsHereUnlessBuried}
use Rattle.cf_model_convergence.specs.Lasting.{HoldsIn}
use Rattle.cf_model_convergence.specs.Quiet.{allows_unpopulated, is_always_populated}
use Rattle.cf_model_convergence.specs.Tidy.{IsTidy}
use Rattle.cf_model_convergence.proofs.LastingGuarded.{start_lasts}
use Rattle.cf_model_convergence.proofs.PlacedItems.{IsPlacedIn, placed_trees, placed_whole, run_placed}
use Rattle.cf_model_agreement.proofs.CursorsRaised.{IsKnownIn}
use Rattle.cf_model_agreement.proofs.KnownGuarded.{known_whole, run_known_in}
use Rattle.cf_model_populated.specs.Accounted.{AreAccountedFor}
use Rattle.cf_model_populated.proofs.AccountedSteps.{accounted_now, reset_accounted}
use Rattle.cf_model_populated.proofs.PopulatedRuns.{IsFullIn, IsPartial, full_rest, full_ruling, now, run_full, runs_partial}
use Rattle.cf_model_arrivals.specs.Numbered.{AreNumbered, Claims, HasNumbers}
use Rattle.cf_model_arrivals.specs.Seated.{HasArrived}
use Rattle.cf_model_arrivals.proofs.ArrivalsKept.{arrivals}
use Rattle.cf_model_arrivals.proofs.FeedsArrive.{Standing}
use Rattle.cf_model_arrivals.proofs.NumbersKept.{numbered_right}
use Rattle.cf_model_arrivals.proofs.NumbersRuns.{numbers}
use Rattle.cf_model_arrivals.proofs.Together.{together}
use Rattle.cf_model_arrivals.proofs.VolumesGuarded.{InVolume, unruled_volumes, whole_volumes}

abbrev IsNumberedIn : State → Type 0
IsNumberedIn s = IsPlacedIn s × InVolume HasNumbers s

numbered_whole : Whole IsNumberedIn
numbered_whole = whole_volumes HasNumbers IsPlacedIn numbers placed_whole (λ s h. h.0.0)

abbrev pub IsStandingIn : State → Type 0
IsStandingIn s = (IsFullIn s × IsKnownIn s) × IsNumberedIn s

standing_rest : Unruled IsStandingIn
standing_rest = together (λ s. IsFullIn s × IsKnownIn s) IsNumberedIn (together IsFullIn IsKnownIn full_rest (unruled IsKnownIn known_whole)) (unruled IsNumberedIn numbered_whole)

standing : Standing IsStandingIn
standing = record {
  closed = standing_rest.closed;
  known = λ s h. h.0.1;
  full = λ s h fair. now s.filter (h.1.0.0.0.1 fair).of_log.0 (h.0.0.1 fair).0;
  root = λ s h fair. let top = (placed_trees s h.1.0 fair).top in (top.0, top.1, top.2);
  buried = λ s h fair. numbered_right (next_number s.filter.volume) s.link.remote s.filter.volume.items s.filter.volume.book (h.1.1 fair).0;
}

abbrev pub IsArrivedIn : State → Type 0
IsArrivedIn s = IsStandingIn s × InVolume HasArrived s

pub arrived_rest : Unruled IsArrivedIn
arrived_rest = unruled_volumes HasArrived IsStandingIn (arrivals IsStandingIn standing) standing_rest (λ s h. h.1.0.0.0)

pub arrived_ruling : (p : Policy) (s : State) → IsPartial p → p.validate ≡ false → IsArrivedIn s → IsArrivedIn (with_filter (with_policy p s.filter) s)
arrived_ruling p s partial v h = (((full_ruling p s partial v h.0.0.0, known_whole.ruling.rules p s v h.0.0.1), numbered_whole.ruling.rules p s v h.0.1), h.1)

-- so what the cursor has passed is here once no tombstone is left
pub arrived_here : (s : State) → IsArrivedIn s → IsFair s.link → IsHereUnlessBuried s
arrived_here s h fair none =
    let top = standing.root s h.0 fair in
    record { top = (top.0, top.1); populated = standing.full s h.0 fair; here = accounted_now s none (h.1 fair).0.0 }

-- a new volume

one_root : (n : Usn) (o : Bool × ℕ) → Claims (root ∷ []) no_book n o → (root.number ≡ n) × (o ≡ (false, root.id.0))
one_root n o (inl z) = absurd z.1
one_root n o (inr (inl z)) = absurd z.1
one_root n o (inr (inr (inl z))) = absurd z.1
one_root n o (inr (inr (inr (i, inl e, q, is)))) = (ap (λ (j : Item). j.number) e ∙ q, is ∙ ap (λ (j : Item). of_item j.id.0) (sym e)) where
  of_item : ℕ → Bool × ℕ
  of_item id = (false, id)
one_root n o (inr (inr (inr (i, inr m, q, is)))) = absurd m

first_numbers : (next : Usn) (remote : Held) → above next root.number ≡ true → AreNumbered next remote (root ∷ []) no_book
first_numbers next remote up = record {
  one = λ n o p x y. (one_root n o x).1 ∙ sym (one_root n p y).1;
  early = λ n o x. subst (λ (m : Usn). above next m ≡ true) (one_root n o x).0 up;
  alone = λ t u m. absurd m;
  named = λ e m. absurd m;
  fresh = λ e m. absurd m;
  kinds = λ t m. absurd m;
}

start_numbered : (remote : Held) (clusters : ℕ) → IsFresh remote → IsNumberedIn (start mode.Replay remote clusters)
start_numbered remote clusters fresh = (
  run_placed remote clusters [] (start mode.Replay remote clusters) refl fresh,
  start_lasts (AreNumbered (next_number (start mode.Replay remote clusters).filter.volume)) remote clusters (first_numbers (next_number (start mode.Replay remote clusters).filter.volume) remote refl),
)

start_arrived : (remote : Held) (clusters : ℕ) → IsFresh remote → IsTidy remote → IsArrivedIn (start mode.Replay remote clusters)
start_arrived remote clusters fresh tidy = (
  ((run_full remote clusters [] (start mode.Replay remote clusters) refl fresh refl, run_known_in remote clusters [] (start mode.Replay remote clusters) refl fresh tidy), start_numbered remote clusters fresh),
  λ fair. (start_lasts AreAccountedFor remote clusters (reset_accounted remote no_book (root ∷ []) tidy) fair, tt),
)

pub run_arrived : (remote : Held) (clusters : ℕ) (trace : List (Event × Answer)) (s : State) → Runs mode.Replay (start mode.Replay remote clusters) trace s → IsFresh remote → IsTidy remote → is_always_populated trace ≡ true → IsArrivedIn s
run_arrived remote clusters trace s runs fresh tidy always =
    runs_partial IsArrivedIn arrived_rest arrived_ruling (start mode.Replay remote clusters) trace s runs (not_true (list_any allows_unpopulated trace) always) (start_arrived remote clusters fresh tidy)

-- the law

pub passed_accounted : (remote : Held) (clusters : ℕ) (trace : List (Event × Answer)) (s : State) → Runs mode.Replay (start mode.Replay remote clusters) trace s → IsFresh remote → IsTidy remote → is_always_populated trace ≡ true → HoldsIn AreAccountedFor s
passed_accounted remote clusters trace s runs fresh tidy always fair = ((run_arrived remote clusters trace s runs fresh tidy always).1 fair).0

pub run_numbers : (remote : Held) (clusters : ℕ) (trace : List (Event × Answer)) (s : State) → Runs mode.Replay (start mode.Replay remote clusters) trace s → IsFresh remote → HoldsIn (AreNumbered (next_number s.filter.volume)) s
run_numbers remote clusters trace s runs fresh = (runs_keep IsNumberedIn numbered_whole (start mode.Replay remote clusters) trace s runs (start_numbered remote clusters fresh)).1
