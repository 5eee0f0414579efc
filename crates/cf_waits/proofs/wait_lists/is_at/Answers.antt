use Rattle.std.proofs.Common.{◌≡◌, ◌∙◌, ℕ, true, ap, arith, nat_eq, sym}
use Rattle.std.proofs.lemmas.Bool.Decides.{nat_tests}
use Rattle.cf_base.specs.declared.ids.WaitId.{WaitId}
use Rattle.cf_model.specs.Missing.{Wait}
use Rattle.cf_waits.proofs.ByNumber.{place_there}
use Rattle.cf_waits.specs.Rising.{wait_key}
use Rattle.cf_waits.proofs.wait_lists.is_at.Goals as goal

pub returns : goal.returns
returns c = λ t.
    place_there wait_key c.args.number c.args.waits.now c.args.place c.index-waits-place.result c.requires (omega (arith, c.if-place-waits.false))
    (ap (λ (w : Wait). w.id.0.number) (sym c.index-waits-place.is) ∙ sym (c.number.ensures ∙ ap (λ (i : WaitId). i.0.number) c.id.ensures) ∙ is_number c.number.result c.args.number t)
  where
    is_number : (m n : ℕ) → nat_eq m n ≡ true → m ≡ n
    is_number m n h = grind (arith, nat_tests)
