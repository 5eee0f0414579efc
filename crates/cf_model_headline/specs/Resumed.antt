-- What a restart that resumes keeps.
use Rattle.std.specs.Prelude.{ℕ, [], length, take, ◌∷◌, ◌++◌, ◌≡◌, ◌≤◌}
use Rattle.cf_base.specs.declared.answers.Answer.{Answer}
use Rattle.cf_base.specs.declared.answers.OpenedBook.{OpenedBook}
use Rattle.cf_base.specs.declared.answers.Shown.TheVariants as shown
use Rattle.cf_base.specs.declared.calls.Call.TheVariants as call
use Rattle.cf_base.specs.declared.events.Event.{Event}
use Rattle.cf_base.specs.declared.events.Event.TheVariants as event
use Rattle.cf_model_laws.specs.Openings.{restarting}
use Rattle.cf_model_headline.specs.Reports.{IsAnswered, Report, standing}

abbrev pub flushing : Event
flushing = event.Call call.Flush

-- A `resumed n` keeps the first n of the changes that stood. A flush that was answered `ok k` before it counted all changes
-- that stood then; they are still the first ones, and are among those that are kept.
pub record ResumesRight (report : Report) : Type 0 where
  pub first : (before : Report) (a : Answer) (n : ℕ) (book : OpenedBook) → IsAnswered report before restarting a → a.shown ≡ shown.Resumed n book
      → (n ≤ length (standing before)) × (standing (before ++ (restarting, a) ∷ []) ≡ take n (standing before))
  pub flushed : (early between : Report) (b a : Answer) (k n : ℕ) (book : OpenedBook) → IsAnswered report (early ++ (flushing, b) ∷ between) restarting a → b.shown ≡ shown.Count k → a.shown ≡ shown.Resumed n book
      → (k ≡ length (standing early)) × (k ≤ n) × (take k (standing (early ++ (flushing, b) ∷ between)) ≡ standing early)
