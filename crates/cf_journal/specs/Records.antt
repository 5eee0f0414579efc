-- What a walk through a journal finds.
use Rattle.std.specs.Prelude.{◌≡◌, ◌≢◌, ◌<◌, ◌+◌, ◌-◌, ◌^◌, ℕ, List, ◌∷◌, ◌++◌, length}
use Rattle.std.specs.Int.{w32, to_be_bytes}
use Rattle.cf_disk.specs.Disk.{part}
use Rattle.cf_journal.specs.declared.walks.Record.{Record}
use Rattle.cf_journal.specs.declared.walks.Record.TheVariants.{End, Overrun, Payload}
use Rattle.cf_journal.specs.Format.{IsOverrun}

-- In the bytes of a journal that are left from a place on: a closed gate; an open gate before no record that fits; a record behind an open
-- gate, with the bytes that are left behind it.
abbrev pub IsRecord : Record → (at left : ℕ) → List ℕ → Type 0
IsRecord End at left disk = (tail : List ℕ) × (part at left disk ≡ 0 ∷ tail)
IsRecord Overrun at left disk = IsOverrun (part at left disk)
IsRecord (Payload p) at left disk =
    (gate : ℕ) × (gate ≢ 0) × (length p.items < 2 ^ 32) × (5 + length p.items < left)
    × (part at left disk ≡ gate ∷ (to_be_bytes w32 (length p.items) ++ (p.items ++ part (at + (5 + length p.items)) (left - (5 + length p.items)) disk)))
