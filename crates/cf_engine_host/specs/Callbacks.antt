-- Callbacks of a provider, one after the other.
use Rattle.std.specs.Prelude.{◌≡◌, ◌≤◌, ℕ, List, [], ◌∷◌, length}
use Rattle.cf_base.specs.declared.waits.Ask.{Ask}
use Rattle.cf_engine_queue.specs.Records.{IsKeepable}
use Rattle.cf_provider.specs.Sights.{Shows, Sight, callback_of}
use Rattle.cf_provider.specs.declared.outcomes.Callback.{Callback}
use Rattle.cf_model.specs.Ports.{Act, Acts, Did, Failed, HasFailed, Noted, with_rest}
use Rattle.cf_model.specs.State.{Filter}
use Rattle.cf_filter_steps.specs.Good.{IsGood}

-- none of them met Device
abbrev pub NoneFailed : List Act → Type 0
NoneFailed [] = Unit {0}
NoneFailed (Did seen op answer ∷ acts) = NoneFailed acts
NoneFailed (Failed seen op ∷ acts) = ⊥
NoneFailed (Noted n ∷ acts) = NoneFailed acts

-- how a provider of this type answers a callback, by what it sees as that begins
abbrev pub Answering : Type 0 → Type 1
Answering P = P → Sight → Callback → List Act → P → Type 0

-- It answers the ask so, where what it sees is so of the state, which is a good one, and whose book its records keep.
pub record AnswersOn {P : Type 0} (answers : Answering P) (ask : Ask) (p : P) (s : Filter) (acts : List Act) (q : P) : Type 0 where
  pub seen : Sight
  pub shows : Shows seen s
  pub good : IsGood s
  pub keeps : IsKeepable s.volume.book
  pub gives : answers p seen (callback_of ask s) acts q

-- All callbacks, in order, each after the earlier ones have returned, until none is left.
abbrev pub Drained : {P : Type 0} → Answering P → P → Filter → List (List Act) → P → Filter → Type 0
Drained answers p s [] q t = (s.outbox ≡ []) × (t ≡ s) × (q ≡ p)
Drained {P} answers p s (acts ∷ more) q t =
    (ask : Ask) × (rest : List Ask) × (s.outbox ≡ ask ∷ rest) × (mid : Filter) × Acts (with_rest rest s) acts mid × NoneFailed acts
    × (after : P) × AnswersOn answers ask p (with_rest rest s) acts after × Drained answers after mid more q t

-- Until an operation of one met Device.
abbrev pub CutOff : {P : Type 0} → Answering P → P → Filter → List (List Act) → P → Filter → Type 0
CutOff answers p s [] q t = ⊥
CutOff answers p s (acts ∷ []) q t = (ask : Ask) × (rest : List Ask) × (s.outbox ≡ ask ∷ rest) × Acts (with_rest rest s) acts t × HasFailed acts × AnswersOn answers ask p (with_rest rest s) acts q
CutOff {P} answers p s (acts ∷ next ∷ more) q t =
    (ask : Ask) × (rest : List Ask) × (s.outbox ≡ ask ∷ rest) × (mid : Filter) × Acts (with_rest rest s) acts mid × NoneFailed acts
    × (after : P) × AnswersOn answers ask p (with_rest rest s) acts after × CutOff answers after mid (next ∷ more) q t

-- The callbacks were called, at most that many, and none is left.
pub record CalledBack {P : Type 0} (most : ℕ) (answers : Answering P) (p : P) (s : Filter) (q : P) (t : Filter) : Type 0 where
  pub runs : List (List Act)
  pub few : length runs ≤ most
  pub drained : Drained answers p s runs q t

-- They were called, at most that many, until an operation of one met Device.
pub record CutBack {P : Type 0} (most : ℕ) (answers : Answering P) (p : P) (s : Filter) (q : P) (t : Filter) : Type 0 where
  pub runs : List (List Act)
  pub few : length runs ≤ most
  pub cut : CutOff answers p s runs q t
