-- What a feed tells of a remote.
use Rattle.std.specs.Prelude.{ℕ, true, List, [], Some, ◌<◌, ◌≤◌, ◌≡◌, ◌⊎◌, ◌∷◌}
use Rattle.cf_base.specs.declared.messages.Entry.{Entry}
use Rattle.cf_model.specs.Fits.{Known}
use Rattle.cf_model.specs.Growth.{IsCounted}
use Rattle.cf_model.specs.Store.{Held, Stored, entry_told, stored_at}
use Rattle.cf_model_laws.specs.Invariant.{All, Among}
use Rattle.cf_model_convergence.specs.Tidy.{IsLower}

-- the entry tells an item below the root as it is, which was changed after the clock
abbrev pub TellsNow : Held → ℕ → Entry → Type 0
TellsNow held after e = (s : Stored) × (stored_at held.items e.rid ≡ Some s) × (e ≡ entry_told s) × IsLower s × (after < s.changed)

-- each such item is told
pub record TellsAll (held : Held) (after : ℕ) (es : List Entry) : Type 0 where
  pub each : All (λ s. IsLower s → after < s.changed → Among (entry_told s) es) held.items

-- what is known of the kinds of items is right
abbrev pub AreKindsOf : Held → List Known → Type 0
AreKindsOf held ks = All (λ k. (s : Stored) → stored_at held.items k.rid ≡ Some s → s.directory ≡ k.directory) ks

-- The parent is the root, an item that was not changed after the clock, or one of those told before.
abbrev pub HasParent : Held → ℕ → List Entry → Entry → Type 0
HasParent held after before e =
    (e.parent.0 ≡ 1) ⊎ ((p : Stored) × (stored_at held.items e.parent ≡ Some p) × (p.changed ≤ after)) ⊎ ((p : Stored) × (stored_at held.items e.parent ≡ Some p) × Among (entry_told p) before)

-- so it is of each live entry, in order; the first of those before comes last
abbrev pub AreParentsFirst : Held → ℕ → List Entry → List Entry → Type 0
AreParentsFirst held after before [] = Unit {0}
AreParentsFirst held after before (e ∷ es) = (e.live ≡ true → HasParent held after before e) × AreParentsFirst held after (e ∷ before) es

-- The item was changed after this time, or it is told as it was in the first remote.
abbrev pub IsAsItWas : Held → ℕ → Stored → Type 0
IsAsItWas first time t = (time < t.changed) ⊎ ((s : Stored) × (stored_at first.items t.rid ≡ Some s) × (entry_told s ≡ entry_told t))

abbrev pub IsLateOrSame : Held → Stored → Type 0
IsLateOrSame held t = IsAsItWas held held.clock t

-- all of a later remote are so
pub record AreAsTheyWere (first : Held) (time : ℕ) (held : Held) : Type 0 where
  pub counted : IsCounted held
  pub early : time ≤ held.clock
  pub items : All (IsAsItWas first time) held.items
