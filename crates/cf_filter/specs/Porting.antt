-- What a provider does to a filter from inside a callback.
use Rattle.std.specs.Prelude.{◌≡◌, Bool, true, false, List, [], ◌∷◌, ◌++◌}
use Rattle.cf_base.specs.declared.notices.Notice.{Notice}
use Rattle.cf_disk.specs.Disk.{State}
use Rattle.cf_provider.specs.Sights.{Sight}
use Rattle.cf_engine_host.specs.Callbacks.{NoneFailed}
use Rattle.cf_filter_machine.specs.Held.{Held}
use Rattle.cf_filter_machine.specs.Lasting.{Lasts, Moved}
use Rattle.cf_filter_machine.specs.Sensing.{Rose, Stands, Stopped}
use Rattle.cf_model.specs.Ports.{Act, Acts, Did, Failed, HasFailed, Noted}
use Rattle.cf_model.specs.State.{Filter}

-- what a provider sees of a filter
abbrev pub sight_of : {D : Type 0} → Held D → Sight
sight_of x = record { table = x.known.table; waiting = x.desk.waiting; records = x.known.records }

-- the notes among them
abbrev pub notes_of : List Act → List Notice
notes_of [] = []
notes_of (Did seen op answer ∷ acts) = notes_of acts
notes_of (Failed seen op ∷ acts) = notes_of acts
notes_of (Noted n ∷ acts) = n ∷ notes_of acts

-- What is left of a state after the acts, by whether the filter is broken and whether memory ran out. Where it did not, a
-- broken filter met a device call that failed.
abbrev pub GoneTo : {D : Type 0} → (D → State) → Bool → Bool → List Act → Held D → Filter → Held D → Filter → Type 0
GoneTo state false lost acts x s y t = Acts s acts t × NoneFailed acts × Stands state y t
GoneTo state true false acts x s y t = Acts s acts t × HasFailed acts × Stopped state y t × Rose (state x.disk) (state y.disk)
GoneTo state true true acts x s y t = Lasts (state y.disk) t.volume

-- of a broken filter notes alone change
pub record StaysBroken {D : Type 0} (x : Held D) (acts : List Act) (y : Held D) : Type 0 where
  pub broken : y.desk.broken ≡ true
  pub disk : y.disk ≡ x.disk
  pub known : y.known ≡ x.known
  pub lost : x.desk.lost ≡ true → y.desk.lost ≡ true
  pub desk : y.desk.lost ≡ false → y.desk ≡ record x.desk { notes = x.desk.notes ++ notes_of acts }

-- These acts lead from the one filter to the other, in each state that it stands for.
pub record Goes {D : Type 0} (state : D → State) (x : Held D) (acts : List Act) (y : Held D) : Type 0 where
  pub leads : (s : Filter) → Stands state x s → (t : Filter) × Moved (state x.disk) (state y.disk) s.volume t.volume × GoneTo state y.desk.broken y.desk.lost acts x s y t
  pub still : x.desk.broken ≡ true → StaysBroken x acts y
