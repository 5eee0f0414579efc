-- What any provider may do inside a callback: operations and notes, and nothing else.
use Rattle.std.specs.Prelude.{List, [], ◌∷◌, ◌≡◌}
use Rattle.cf_base.specs.declared.answers.Shown.{Shown}
use Rattle.cf_base.specs.declared.items.SeenPath.{SeenPath}
use Rattle.cf_base.specs.declared.notices.Notice.{Notice}
use Rattle.cf_base.specs.declared.operations.Operation.{Operation}
use Rattle.cf_base.specs.declared.waits.Ask.{Ask}
use Rattle.cf_model.specs.Books.{Book, with_seen}
use Rattle.cf_model.specs.Changes.{same_book}
use Rattle.cf_model.specs.Operations.{execute_with}
use Rattle.cf_model.specs.State.{Filter, with_notes}
use Rattle.cf_model.specs.Trees.{Ends, Stops}

-- the book once these paths are seen, in turn
abbrev pub seeing : List SeenPath → Book → Book
seeing [] = same_book
seeing (p ∷ ps) = λ b. seeing ps (with_seen p b)

-- An operation with its answer, one that met Device, or a note. Where an operation gives entries, paths are seen in the same
-- step.
pub data Act : Type 0 where
  Did : (seen : List SeenPath) (op : Operation) (answer : Shown) → Act
  Failed : (seen : List SeenPath) (op : Operation) → Act
  Noted : (n : Notice) → Act

-- the notes of these acts, and nothing else
abbrev pub noted_by : List Act → Filter → Filter
noted_by [] s = s
noted_by (Did seen op answer ∷ acts) s = noted_by acts s
noted_by (Failed seen op ∷ acts) s = noted_by acts s
noted_by (Noted n ∷ acts) s = noted_by acts (with_notes (n ∷ []) s)

-- The acts lead from the one state to the other. After an operation that met Device only notes change anything.
abbrev pub Acts : Filter → List Act → Filter → Type 0
Acts s [] t = t ≡ s
Acts s (Did seen op answer ∷ acts) t = (mid : Filter) × Ends (execute_with (seeing seen) op s) answer mid × Acts mid acts t
Acts s (Failed seen op ∷ acts) t = (mid : Filter) × Stops (execute_with (seeing seen) op s) mid × (t ≡ noted_by acts mid)
Acts s (Noted n ∷ acts) t = Acts (with_notes (n ∷ []) s) acts t

-- whether one of them met Device
abbrev pub HasFailed : List Act → Type 0
HasFailed [] = ⊥
HasFailed (Did seen op answer ∷ acts) = HasFailed acts
HasFailed (Failed seen op ∷ acts) = Unit {0}
HasFailed (Noted n ∷ acts) = HasFailed acts

-- without the callback that is called next
abbrev pub with_rest : List Ask → Filter → Filter
with_rest asks s = record s { outbox = asks }
