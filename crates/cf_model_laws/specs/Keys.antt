-- Keys that an epoch gives, and the callbacks that spend them.
use Rattle.std.specs.Prelude.{ℕ, true, List, Some, length, ◌-◌, ◌≡◌, ◌≤◌}
use Rattle.cf_base.specs.declared.waits.Ask.{Ask}
use Rattle.cf_model.specs.Numbers.{most, same_key}
use Rattle.cf_model.specs.Requests.{Live, Waiting, live_of}
use Rattle.cf_model.specs.State.{Filter}
use Rattle.cf_model_laws.specs.Invariant.{All}

-- how many keys the epoch can still give
abbrev pub keys_left : Filter → ℕ
keys_left s = most - s.waiting.key_count

-- the epoch has given no key past the greatest
abbrev pub AreKeysWithin : Filter → Type 0
AreKeysWithin s = s.waiting.key_count ≤ most

-- no more callbacks are still to be called than the epoch has given keys
abbrev pub AreBoxedGiven : Filter → Type 0
AreBoxedGiven s = length s.outbox ≤ s.waiting.key_count

-- A live ask with the key of one of these asks is that ask. So it stays, since no key is above those that the epoch has given.
pub record AreKeysOwn (asks : List Ask) (w : Waiting) : Type 0 where
  pub own : All (λ a. All (λ l. same_key l.ask.key a.key ≡ true → l.ask ≡ a) w.asks) asks
  pub given : All (λ a. a.key.number ≤ w.key_count) asks
  pub live : All (λ l. l.ask.key.number ≤ w.key_count) w.asks

-- of the asks whose callbacks are still to be called
abbrev pub AreBoxedOwn : Filter → Type 0
AreBoxedOwn s = AreKeysOwn s.outbox s.waiting

-- where the key of one of these asks is live, the live ask is that ask
abbrev pub AreLiveOwn : List Ask → Waiting → Type 0
AreLiveOwn asks w = All (λ a. (l : Live) → live_of w.asks a.key ≡ Some l → l.ask ≡ a) asks
