-- What came since a state: nothing goes from the notes or the log, and a remote that did not keep its rules stays one.
use Rattle.std.proofs.Common.{◌≡◌, false, refl}
use Rattle.cf_model.specs.State.{Link, State}
use Rattle.cf_model_laws.specs.Invariant.{Invariant}
use Rattle.cf_model_laws.proofs.ContentLaws.{sound_whole}
use Rattle.cf_model_laws.proofs.Guarded.{Entering, Guarded}
use Rattle.cf_model_convergence.specs.Telling.{IsUnfair}
use Rattle.cf_model_convergence.proofs.AddingGuarded.{In, entering_adds, guarded_adds, itself}
use Rattle.cf_model_convergence.proofs.LinkGuarded.{OfLink, entering_link, guarded_link}

pub record Follows (s t : State) : Type 0 where
  pub adds : In s.filter t.filter
  pub unfair : IsUnfair s → IsUnfair t

pub itself_follows : (s : State) → Follows s s
itself_follows s = record { adds = itself s.filter; unfair = λ e. e }

module _ (w : State) where
  abbrev Unfairly : Link → Type 0
  Unfairly l = IsUnfair w → l.honest ≡ false

  unfair_of : OfLink Unfairly
  unfair_of = record {
    counts = λ l h. h;
    asks = λ l q h. h;
    distrusts = λ l r h e. refl;
    posts = λ l f n h. h;
  }

  -- beside the invariant
  abbrev pub Since : State → Type 0
  Since t = (Invariant t × In w.filter t.filter) × Unfairly t.link

  pub since_guarded : Guarded Since
  since_guarded = guarded_link Unfairly unfair_of (λ t. Invariant t × In w.filter t.filter) (guarded_adds w.filter Invariant sound_whole.closed)

  pub since_entering : Entering Since
  since_entering = entering_link Unfairly unfair_of (λ t. Invariant t × In w.filter t.filter) (entering_adds w.filter Invariant sound_whole.entering)

  pub since_start : Invariant w → Since w
  since_start h = ((h, itself w.filter), λ e. e)

  pub since_follows : (t : State) → Since t → Follows w t
  since_follows t h = record { adds = h.0.1; unfair = h.1 }
