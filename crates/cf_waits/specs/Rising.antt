-- Numbers of one epoch that rise.
use Rattle.std.specs.Prelude.{ℕ, List, [], ◌∷◌, length, ◌+◌, ◌≡◌, ◌<◌, ◌≤◌}
use Rattle.cf_base.specs.declared.ids.Key.{Key}
use Rattle.cf_model.specs.Missing.{Wait}
use Rattle.cf_model.specs.Requests.{Live, Waiting}

-- each above the one before, from above low up to high
abbrev pub RisesTo : {A : Type 0} → (A → Key) → ℕ → ℕ → ℕ → List A → Type 0
RisesTo key epoch low high [] = low ≤ high
RisesTo key epoch low high (x ∷ xs) = ((key x).epoch ≡ epoch) × (low < (key x).number) × RisesTo key epoch (key x).number high xs

abbrev pub wait_key : Wait → Key
wait_key w = w.id.0

abbrev pub ask_key : Live → Key
ask_key a = a.ask.key

-- Waits and asks stand in order of their numbers, none of which is past the last one given.
pub record IsNumbered (s : Waiting) : Type 0 where
  pub waits : RisesTo wait_key s.epoch 0 s.wait_count s.waits
  pub asks : RisesTo ask_key s.epoch 0 s.key_count s.asks

-- in order of number, in some epoch
abbrev pub IsRising : {A : Type 0} → (A → Key) → List A → Type 0
IsRising key xs = (epoch : ℕ) × (high : ℕ) × RisesTo key epoch 0 high xs

-- The waits have the next numbers.
abbrev pub AreNext : List Wait → Waiting → Type 0
AreNext ws s = RisesTo wait_key s.epoch s.wait_count (s.wait_count + length ws) ws
