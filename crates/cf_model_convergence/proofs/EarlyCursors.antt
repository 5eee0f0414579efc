-- The cursor is never later than the remote.
use Rattle.std.proofs.Common.{◌≡◌, ◌⊎◌, ◌≤◌, ℕ, List, ◌∙◌, inl, inr, arith}
use Rattle.cf_base.specs.declared.answers.Answer.{Answer}
use Rattle.cf_base.specs.declared.changes.Change.TheVariants as change
use Rattle.cf_base.specs.declared.events.Event.{Event}
use Rattle.cf_base.specs.declared.policies.Mode.TheVariants as mode
use Rattle.cf_model.specs.Books.{book_after}
use Rattle.cf_model.specs.Lawful.{Runs}
use Rattle.cf_model.specs.State.{State, start}
use Rattle.cf_model.specs.Store.{Held}
use Rattle.cf_model_laws.specs.Premises.{IsFresh}
use Rattle.cf_model_laws.proofs.RemoteGrowth.{clock_rises}
use Rattle.cf_model_laws.proofs.SoundChanges.{same_cursor}
use Rattle.cf_model_convergence.specs.Lasting.{HoldsIn, IsCursorEarly}
use Rattle.cf_model_convergence.proofs.LastingGuarded.{Lasting, run_lasts}

up_to : (a b c : ℕ) → a ≤ b → b ≤ c → a ≤ c
up_to a b c h k = omega (arith, h, k)

stays : (n a b : ℕ) → b ≡ a → a ≤ n → b ≤ n
stays n a b e h = omega (arith, e, h)

pub early_lasts : Lasting IsCursorEarly
early_lasts = record {
  changes = λ l tokens f c x keeps seen fit fair sound h. stays l.remote.clock x.volume.book.cursor (f (book_after c x.volume.book)).cursor (seen.2 (book_after c x.volume.book) ∙ same_cursor c x.volume.book) h;
  removes = λ l tokens f item x keeps seen cursor fair sound h. stays l.remote.clock x.volume.book.cursor (f (book_after (change.Remove item) x.volume.book)).cursor (cursor (book_after (change.Remove item) x.volume.book)) h;
  alike = λ r items b d same h. stays r.clock b.cursor d.cursor same.cursor h;
  records = λ f s keeps early h. by (f s.filter.volume.book).cursor s.filter.volume.book.cursor s.link.remote.clock early.2 h;
  sees = λ e s is live sound h. h;
  leaves = λ token r items b h. h;
  enters = λ e s well h. h;
  grows = λ r q items b counted h. up_to b.cursor r.clock _ h (clock_rises r q);
}
  where
    by : (n a k : ℕ) → (n ≤ a) ⊎ (n ≤ k) → a ≤ k → n ≤ k
    by n a k (inl e) h = up_to n a k e h
    by n a k (inr e) h = e

pub none_late : (n : ℕ) → 0 ≤ n
none_late n = omega arith

pub cursor_early : (remote : Held) (clusters : ℕ) (trace : List (Event × Answer)) (s : State) → Runs mode.Replay (start mode.Replay remote clusters) trace s → IsFresh remote → HoldsIn IsCursorEarly s
cursor_early remote clusters trace s runs fresh = run_lasts IsCursorEarly early_lasts remote clusters trace s runs fresh (none_late remote.clock)
