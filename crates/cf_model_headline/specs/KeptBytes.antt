-- Where the bytes of a local write are.
use Rattle.std.specs.Prelude.{ℕ, true, false, List, [], drop, length, Some, slice_get, ◌∷◌, ◌++◌, ◌≡◌, ◌⊎◌}
use Rattle.cf_base.specs.declared.answers.Answer.{Answer}
use Rattle.cf_base.specs.declared.answers.Shown.TheVariants as shown
use Rattle.cf_base.specs.declared.changes.Change.{Change}
use Rattle.cf_base.specs.declared.changes.Change.TheVariants as change
use Rattle.cf_base.specs.declared.ids.ItemId.{ItemId}
use Rattle.cf_base.specs.declared.ids.Usn.{Usn}
use Rattle.cf_model.specs.Contents.{base_named}
use Rattle.cf_model.specs.Effects.{effect}
use Rattle.cf_model.specs.Items.{Item, item_of}
use Rattle.cf_model.specs.Kept.{has_id, heirs_of}
use Rattle.cf_model.specs.Logs.{items_of}
use Rattle.cf_model.specs.Numbers.{above}
use Rattle.cf_model.specs.Store.{Held}
use Rattle.cf_model_laws.specs.Locals.{AreSparing, IsWritten}
use Rattle.cf_model_headline.specs.Reports.{IsAnswered, Report, standing}
use Rattle.cf_model_headline.specs.Resumed.{flushing}

-- change n of these, a write or a size, gave byte b to position p of the file
pub record Gave (log : List (Usn × Change)) (file : ItemId) (n : Usn) (p b : ℕ) : Type 0 where
  pub before : List (Usn × Change)
  pub write : Change
  pub after : List (Usn × Change)
  pub parts : log ≡ before ++ (n, write) ∷ after
  pub written : IsWritten (items_of before) write file p b

-- None of these later changes took it away: no other write over it, no cut before it and no removal met a file that still lists
-- the write, the file itself or a copy.
abbrev pub IsSpared : {log : List (Usn × Change)} {file : ItemId} {n : Usn} {p b : ℕ} → Gave log file n p b → List (Usn × Change) → Type 0
IsSpared {log} {file} {n} {p} {b} g later = AreSparing (effect (items_of g.before) g.write n) (file ∷ []) n p (g.after ++ later)

-- the item holds the byte
pub record IsHere (log : List (Usn × Change)) (item : ItemId) (p b : ℕ) : Type 0 where
  pub file : Item
  pub found : item_of (items_of log) item ≡ Some file
  pub byte : slice_get file.held p ≡ Some (Some b)

-- an upload of the item that took write n in was acknowledged, and its version has the byte
pub record IsUploaded (held : Held) (log : List (Usn × Change)) (item : ItemId) (n : Usn) (p b : ℕ) : Type 0 where
  pub before : List (Usn × Change)
  pub own : Usn
  pub identity : List ℕ
  pub len : ℕ
  pub at : Usn
  pub after : List (Usn × Change)
  pub parts : log ≡ before ++ (own, change.Rebase item identity len at) ∷ after
  pub taken : above n at ≡ false
  pub byte : slice_get (base_named held identity) p ≡ Some b

-- The file or a copy of it holds the byte, or it is in an acknowledged version of one of them.
pub record IsKept (held : Held) (log : List (Usn × Change)) (file : ItemId) (n : Usn) (p b : ℕ) : Type 0 where
  pub item : ItemId
  pub heir : has_id (heirs_of log file) item ≡ true
  pub where_it_is : IsHere log item p b ⊎ IsUploaded held log item n p b

-- the changes that stand now beyond those that stood then
abbrev pub later_than : Report → Report → List (Usn × Change)
later_than early report = drop (length (standing early)) (standing report)

-- What a flush counted still stands. A byte of a local write that it counted, and that no later change took away, is kept; the
-- remote is as it is at the end.
pub record FlushedIsKept (report : Report) (held : Held) : Type 0 where
  pub stands : (early : Report) (a : Answer) (k : ℕ) → IsAnswered report early flushing a → a.shown ≡ shown.Count k → standing early ++ later_than early report ≡ standing report
  pub kept : (early : Report) (a : Answer) (k : ℕ) (file : ItemId) (n : Usn) (p b : ℕ) → IsAnswered report early flushing a → a.shown ≡ shown.Count k
      → (g : Gave (standing early) file n p b) → IsSpared g (later_than early report) → IsKept held (standing report) file n p b
