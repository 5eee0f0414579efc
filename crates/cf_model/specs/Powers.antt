-- What a run says of its disk: what each restart opens stands for what the power cut before it left.
use Rattle.std.specs.Prelude.{ℕ, Bool, true, false, List, [], ◌∷◌, ◌≡◌, Option, Some, None, take, IsTrue}
use Rattle.cf_base.specs.declared.answers.Answer.{Answer}
use Rattle.cf_base.specs.declared.answers.Shown.{Shown}
use Rattle.cf_base.specs.declared.answers.Shown.TheVariants as shown
use Rattle.cf_base.specs.declared.changes.Change.{Change}
use Rattle.cf_base.specs.declared.events.DeviceEvent.TheVariants as device
use Rattle.cf_base.specs.declared.events.Event.{Event}
use Rattle.cf_base.specs.declared.events.Event.TheVariants as event
use Rattle.cf_base.specs.declared.ids.Usn.{Usn}
use Rattle.cf_base.specs.declared.policies.Choice.{Choice}
use Rattle.cf_base.specs.declared.policies.Mode.{Mode}
use Rattle.cf_model.specs.Books.{Book}
use Rattle.cf_model.specs.Lawful.{IsStep}
use Rattle.cf_model.specs.Points.{Opens}
use Rattle.cf_model.specs.State.{Point, State}

-- an image of the device stands for a log and a book; what that means is said where images are
abbrev pub StandsFor : Type 1
StandsFor = List ℕ → List (Usn × Change) → Book → Type 0

-- the image stands for a point that a restart may open now
abbrev pub StandsNow : StandsFor → State → List ℕ → Type 0
StandsNow stands s image = (p : Point) × Opens s.filter.volume.points p × stands image (take p.count s.filter.volume.log) p.book

abbrev pub resumes : Shown → Bool
resumes (shown.Resumed count opened) = true
resumes _ = false

-- what is open now is what the image stands for, if there was a power cut
abbrev pub OpensLast : StandsFor → Option (List ℕ) → State → Type 0
OpensLast stands None t = Unit {0}
OpensLast stands (Some image) t = stands image t.filter.volume.log t.filter.volume.book

-- how an event bears on the disk's power cuts, of which these are still to come; gives the image of the last and the rest
abbrev pub IsPower : StandsFor → Option (List ℕ) → Event → Answer → State → List (Choice × List ℕ) → Option (List ℕ) → List (Choice × List ℕ) → Type 0
IsPower stands last (event.Device (device.Crash choice)) a t [] after rest = ⊥
IsPower stands last (event.Device (device.Crash choice)) a t (w ∷ ws) after rest = (w.0 ≡ choice) × (after ≡ Some w.1) × (rest ≡ ws)
IsPower stands last (event.Device device.Restart) a t powers after rest = (IsTrue (resumes a.shown) → OpensLast stands last t) × (after ≡ last) × (rest ≡ powers)
IsPower stands last (event.Device (device.Stop calls)) a t powers after rest = (after ≡ last) × (rest ≡ powers)
IsPower stands last (event.Call c) a t powers after rest = (after ≡ last) × (rest ≡ powers)
IsPower stands last (event.Peer e) a t powers after rest = (after ≡ last) × (rest ≡ powers)
IsPower stands last (event.Engine e) a t powers after rest = (after ≡ last) × (rest ≡ powers)
IsPower stands last (event.Provider e) a t powers after rest = (after ≡ last) × (rest ≡ powers)

-- As Runs; besides, there is one power cut for each crash, with its choice and in order, and each `resumed` opens what the image
-- that the last of them left stands for.
abbrev pub RunsOver : StandsFor → Mode → Option (List ℕ) → State → List (Event × Answer) → List (Choice × List ℕ) → State → Type 0
RunsOver stands m last s [] powers t = (t ≡ s) × (powers ≡ [])
RunsOver stands m last s (p ∷ ps) powers t =
    (mid : State) × (after : Option (List ℕ)) × (rest : List (Choice × List ℕ))
    × IsStep m s p.0 p.1 mid × IsPower stands last p.0 p.1 mid powers after rest × RunsOver stands m after mid ps rest t
