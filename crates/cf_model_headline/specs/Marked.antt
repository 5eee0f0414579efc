-- What `in sync` means in a report.
use Rattle.std.specs.Prelude.{ℕ, Bool, true, List, ◌∷◌, ◌++◌, ◌≡◌, ◌==◌, ◌&&◌}
use Rattle.std.specs.List.{list_any}
use Rattle.cf_base.specs.declared.answers.Answer.{Answer}
use Rattle.cf_base.specs.declared.answers.Shown.TheVariants as shown
use Rattle.cf_base.specs.declared.calls.Call.TheVariants as call
use Rattle.cf_base.specs.declared.changes.Change.{Change}
use Rattle.cf_base.specs.declared.changes.Change.TheVariants as change
use Rattle.cf_base.specs.declared.events.Event.{Event}
use Rattle.cf_base.specs.declared.events.Event.TheVariants as event
use Rattle.cf_base.specs.declared.ids.ItemId.{ItemId}
use Rattle.cf_base.specs.declared.ids.Usn.{Usn}
use Rattle.cf_base.specs.declared.items.Kind.{Kind}
use Rattle.cf_base.specs.declared.items.Pin.{Pin}
use Rattle.cf_model.specs.Items.{Item}
use Rattle.cf_model.specs.Logs.{items_of}
use Rattle.cf_model.specs.Numbers.{same_usn}
use Rattle.cf_model_headline.specs.Reports.{IsAnswered, Report, standing}

-- the item has this number
abbrev pub has_number : ItemId → Usn → List Item → Bool
has_number item number items = list_any (λ i. (i.id.0 == item.0) && same_usn i.number number) items

-- One of these changes is a Mark of the item, which had this number then. It names the number given.
pub record IsMarked (log : List (Usn × Change)) (item : ItemId) (number : Usn) : Type 0 where
  pub before : List (Usn × Change)
  pub own : Usn
  pub given : Usn
  pub after : List (Usn × Change)
  pub parts : log ≡ before ++ (own, change.Mark item given) ∷ after
  pub had : has_number item number (items_of before) ≡ true

abbrev pub informing : List ℕ → Event
informing path = event.Call (call.Info path)

-- Where `info` shows an item in sync and its number, one of the changes that stand is a Mark of it, and it had that number then.
abbrev pub InSyncByMark : Report → Type 0
InSyncByMark report =
    (before : Report) (path : List ℕ) (a : Answer) (item : ItemId) (kind : Kind) (size : ℕ) (pin : Pin) (number : Usn) (identity : List ℕ)
    → IsAnswered report before (informing path) a → a.shown ≡ shown.Info item kind size pin true number identity → IsMarked (standing before) item number

-- And each Mark among the changes that stand gives the number that its item has there.
abbrev pub MarksGiveNumbers : Report → Type 0
MarksGiveNumbers report = (item : ItemId) (number : Usn) (m : IsMarked (standing report) item number) → m.given ≡ number
