-- The messages tell the truth in whole runs.
use Rattle.std.proofs.Common.{◌≤◌, ℕ, List, refl}
use Rattle.cf_base.specs.declared.answers.Answer.{Answer}
use Rattle.cf_base.specs.declared.events.Event.{Event}
use Rattle.cf_base.specs.declared.policies.Mode.TheVariants as mode
use Rattle.cf_model.specs.Lawful.{Runs}
use Rattle.cf_model.specs.State.{State, book_now, start}
use Rattle.cf_model.specs.Store.{Held}
use Rattle.cf_model_laws.specs.Invariant.{Invariant, IsSound}
use Rattle.cf_model_laws.specs.Premises.{IsFair, IsFresh}
use Rattle.cf_model_laws.proofs.ContentLaws.{start_sound}
use Rattle.cf_model_laws.proofs.EventsGuarded.{Whole, runs_keep}
use Rattle.cf_model_laws.proofs.Guarded.{AreSeenBelow}
use Rattle.cf_model_laws.proofs.MarksGuarded.{PlacedIn, placed_whole, start_placed}
use Rattle.cf_model_convergence.specs.Lasting.{HoldsIn, IsCursorEarly}
use Rattle.cf_model_convergence.specs.Tidy.{IsTidy}
use Rattle.cf_model_convergence.proofs.EarlyCursors.{early_lasts, none_late}
use Rattle.cf_model_convergence.proofs.LastingGuarded.{start_lasts, whole_lasting}
use Rattle.cf_model_agreement.specs.Messages.{TellsTrue}
use Rattle.cf_model_agreement.proofs.TruthGuarded.{TruthIn, whole_true}

-- the paths seen are of items that are there
abbrev pub IsPlacedNow : State → Type 0
IsPlacedNow s = Invariant s × PlacedIn s

-- the cursor is early
abbrev pub IsEarlyIn : State → Type 0
IsEarlyIn s = IsPlacedNow s × HoldsIn IsCursorEarly s

early_whole : Whole IsEarlyIn
early_whole = whole_lasting IsCursorEarly early_lasts IsPlacedNow placed_whole (λ s h. h.0)

pub early_of : (s : State) → IsEarlyIn s → IsFair s.link → (book_now s).cursor ≤ s.link.remote.clock
early_of s h fair = (h.1 fair).0

pub sound_of : (s : State) → IsEarlyIn s → IsFair s.link → IsSound s.link s.volatile.tokens s.filter
sound_of s h fair = h.0.0.1 fair

abbrev pub IsTrueIn : State → Type 0
IsTrueIn s = IsEarlyIn s × TruthIn s

pub true_whole : Whole IsTrueIn
true_whole = whole_true IsEarlyIn early_whole early_of sound_of

pub start_true : (remote : Held) (clusters : ℕ) → IsFresh remote → IsTidy remote → IsTrueIn (start mode.Replay remote clusters)
start_true remote clusters fresh tidy = (((start_sound remote clusters fresh, start_placed remote clusters), start_lasts IsCursorEarly remote clusters (none_late remote.clock)), λ fair. (tidy, record { same_epoch = refl; messages = tt; lists = tt }))

pub run_true : (remote : Held) (clusters : ℕ) (trace : List (Event × Answer)) (s : State) → Runs mode.Replay (start mode.Replay remote clusters) trace s → IsFresh remote → IsTidy remote → TellsTrue s
run_true remote clusters trace s runs fresh tidy = (runs_keep IsTrueIn true_whole (start mode.Replay remote clusters) trace s runs (start_true remote clusters fresh tidy)).1

pub below_of : (s : State) → IsEarlyIn s → IsFair s.link → AreSeenBelow s.filter.volume.next_item.0 (book_now s)
below_of s h fair = (h.0.1 fair).0.below
