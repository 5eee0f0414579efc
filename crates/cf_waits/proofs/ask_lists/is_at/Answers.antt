use Rattle.std.proofs.Common.{◌≡◌, ◌∙◌, ℕ, true, ap, arith, nat_eq, sym}
use Rattle.std.proofs.lemmas.Bool.Decides.{nat_tests}
use Rattle.cf_base.specs.declared.waits.Ask.{Ask}
use Rattle.cf_model.specs.Requests.{Live}
use Rattle.cf_waits.proofs.ByNumber.{place_there}
use Rattle.cf_waits.specs.Rising.{ask_key}
use Rattle.cf_waits.proofs.ask_lists.is_at.Goals as goal

pub returns : goal.returns
returns c = λ t.
    place_there ask_key c.args.number c.args.asks.now c.args.place c.index-asks-place.result c.requires (omega (arith, c.if-place-asks.false))
    (ap (λ (a : Live). a.ask.key.number) (sym c.index-asks-place.is) ∙ sym (ap (λ (a : Ask). a.key.number) c.ask.ensures) ∙ is_number c.ask.result.key.number c.args.number t)
  where
    is_number : (m n : ℕ) → nat_eq m n ≡ true → m ≡ n
    is_number m n h = grind (arith, nat_tests)
