use Rattle.std.proofs.Common.{◌≡◌, ℕ, ◌-◌, List, [], ◌∷◌, ◌∙◌, ap, arith, refl}
use Rattle.std.specs.Prelude.{map}
use Rattle.cf_model.specs.Requests.{Live}
use Rattle.cf_waits.specs.Books.{brought_forward}
use Rattle.cf_waits.proofs.ask_ages.bring_forward.Goals as goal

pub returns-else-base-gt0 : goal.returns-else-base-gt0
returns-else-base-gt0 c = record { items = stays c.args.base (omega (arith, c.if-base-gt0.false)) c.args.asks.now.items } where
  least : (n base : ℕ) → base ≡ 0 → n ≡ n - base
  least n base h = omega arith

  stays : (base : ℕ) → base ≡ 0 → (xs : List Live) → xs ≡ map (brought_forward base) xs
  stays base h [] = refl
  stays base h (x ∷ xs) = ap (λ n. record x { ticks = n } ∷ xs) (least x.ticks base h) ∙ ap (λ l. brought_forward base x ∷ l) (stays base h xs)
