-- Dehydrations that wait, each with its live ask.
use Rattle.std.specs.Prelude.{ℕ, true, List, [], ◌∷◌, ◌<◌, ◌≤◌, ◌≡◌, ◌⊎◌}
use Rattle.cf_base.specs.declared.ids.ItemId.{ItemId}
use Rattle.cf_model.specs.Missing.{Wait}
use Rattle.cf_model.specs.Numbers.{same_key}
use Rattle.cf_model.specs.Requests.{Live, Waiting, is_dehydrate, is_dehydrate_wait}
use Rattle.cf_model_laws.specs.Invariant.{All}
use Rattle.cf_model_convergence.specs.Hearing.{is_asked_for}

-- the numbers rise, above the one and up to the other
abbrev pub Rises : {A : Type 0} → (A → ℕ) → ℕ → ℕ → List A → Type 0
Rises f low last [] = low ≤ last
Rises f low last (x ∷ xs) = (low < f x) × Rises f (f x) last xs

abbrev pub number_of_wait : Wait → ℕ
number_of_wait w = w.id.0.number

abbrev pub number_of_ask : Live → ℕ
number_of_ask a = a.ask.key.number

-- an ask with the id of the wait is for a dehydration of its item
abbrev pub IsOwnAsk : Wait → Live → Type 0
IsOwnAsk w a = same_key a.wait.0 w.id.0 ≡ true → (is_dehydrate a.ask.kind ≡ true) × (a.ask.item.0 ≡ w.item.0)

-- The ids of waits rise, and so do the keys of asks. A live ask is for each dehydration that waits, and it is of its item.
pub record AreAsked (w : Waiting) : Type 0 where
  pub waits : Rises number_of_wait 0 w.wait_count w.waits
  pub keys : Rises number_of_ask 0 w.key_count w.asks
  pub early : All (λ a. a.wait.0.number ≤ w.wait_count) w.asks
  pub own : All (λ u. All (IsOwnAsk u) w.asks) w.waits
  pub asked : All (λ u. is_dehydrate_wait u.kind ≡ true → is_asked_for w.asks u ≡ true) w.waits

-- so it is but for a dehydration of this item, for which no ask may be live yet
pub record AreAskedBut (item : ItemId) (w : Waiting) : Type 0 where
  pub waits : Rises number_of_wait 0 w.wait_count w.waits
  pub keys : Rises number_of_ask 0 w.key_count w.asks
  pub early : All (λ a. a.wait.0.number ≤ w.wait_count) w.asks
  pub own : All (λ u. All (IsOwnAsk u) w.asks) w.waits
  pub asked : All (λ u. is_dehydrate_wait u.kind ≡ true → (is_asked_for w.asks u ≡ true) ⊎ (u.item.0 ≡ item.0)) w.waits
