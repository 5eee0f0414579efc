-- In every state of a run the items are those of the log, and each number of the log is below the next.
use Rattle.std.proofs.Common.{◌≡◌, ℕ, ◌<◌, List, [], ◌∷◌, ◌++◌, max, refl, sym, ◌∙◌, ap, arith}
use Rattle.cf_base.specs.declared.answers.Answer.{Answer}
use Rattle.cf_base.specs.declared.changes.Change.{Change}
use Rattle.cf_base.specs.declared.events.Event.{Event}
use Rattle.cf_base.specs.declared.ids.Usn.{Usn}
use Rattle.cf_base.specs.declared.policies.Mode.{Mode}
use Rattle.cf_model.specs.Books.{Book}
use Rattle.cf_model.specs.Changes.{next_number, put_with_book}
use Rattle.cf_model.specs.Effects.{effect}
use Rattle.cf_model.specs.Given.{IsOfLog, OfLog}
use Rattle.cf_model.specs.Items.{Item, root}
use Rattle.cf_model.specs.Lawful.{Runs}
use Rattle.cf_model.specs.Logs.{after_changes, next_by, next_of}
use Rattle.cf_model.specs.Points.{Opens}
use Rattle.cf_model.specs.Restarts.{opened_at}
use Rattle.cf_model.specs.State.{Point, State, Volume, start}
use Rattle.cf_model.specs.Store.{Held}
use Rattle.cf_model.proofs.GivenLaws.{all_below_next, all_below_opened}
use Rattle.cf_model.proofs.VolumeLaws.{ClosedVolume, runs_keep_volume}

after_one_more : (items : List Item) (log : List (Usn × Change)) (n : Usn) (c : Change) → after_changes items (log ++ (n, c) ∷ []) ≡ effect (after_changes items log) c n
after_one_more items [] n c = refl
after_one_more items (d ∷ log) n c = after_one_more (effect items d.1 d.0) log n c

max_shifts : (a b c : ℕ) → max a (max b c) ≡ max (max a b) c
max_shifts a b c = omega arith

max_swaps : (a b : ℕ) → max a b ≡ max b a
max_swaps a b = omega arith

next_one_more : (log : List (Usn × Change)) (n : Usn) (c : Change) → next_of (log ++ (n, c) ∷ []) ≡ max (next_of log) (next_by c)
next_one_more [] n c = max_swaps (next_by c) 2
next_one_more (d ∷ log) n c = ap (λ (x : ℕ). max (next_by d.1) x) (next_one_more log n c) ∙ max_shifts (next_by d.1) (next_of log) (next_by c)

put_of_log : (f : Book → Book) (c : Change) (v : Volume) → IsOfLog v → IsOfLog (put_with_book f c v)
put_of_log f c v h = (
  ap (λ (items : List Item). effect items c (next_number v)) h.0 ∙ sym (after_one_more (root ∷ []) v.log (next_number v) c),
  ap (λ (n : ℕ). max n (next_by c)) h.1 ∙ sym (next_one_more v.log (next_number v) c),
  all_below_next v c h.2,
)

opened_of_log : (p : Point) (epoch : ℕ) (v : Volume) → Opens v.points p → v.epoch < epoch → IsOfLog v → IsOfLog (opened_at p epoch v)
opened_of_log p epoch v is small h = (refl, refl, all_below_opened v p epoch small h.2)

of_log_closed : ClosedVolume IsOfLog
of_log_closed = record {
  put = put_of_log;
  begins = λ v h. h;
  sure = λ v h. h;
  room = λ v h. h;
  book = λ b v h. h;
  opens = opened_of_log;
}

pub runs_are_of_log : (m : Mode) (s : State) (trace : List (Event × Answer)) (t : State) → Runs m s trace t → OfLog s → OfLog t
runs_are_of_log m s trace t h i = runs_keep_volume IsOfLog of_log_closed m s trace t h i

-- from the start
pub started_of_log : (m : Mode) (remote : Held) (clusters : ℕ) (trace : List (Event × Answer)) (t : State) → Runs m (start m remote clusters) trace t → OfLog t
started_of_log m remote clusters trace t h = runs_are_of_log m (start m remote clusters) trace t h (refl, refl, record {})
