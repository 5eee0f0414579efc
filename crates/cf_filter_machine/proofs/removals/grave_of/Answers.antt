use Rattle.std.proofs.Common.{Bool, Option, ◌&&◌, ◌∙◌, ap, not, subst, sym}
use Rattle.std.specs.Prelude.{MatchOption, option_copied}
use Rattle.cf_filter_machine.proofs.Buried.{grave_as, untargeted_as}
use Rattle.cf_model.specs.Identities.{is_untargeted}
use Rattle.cf_table.specs.Means.{Means}
use Rattle.cf_table.specs.declared.rows.Row.{Row}
use Rattle.cf_filter_machine.proofs.removals.grave_of.Goals as goal

pub returns-then-not-bury-clause-grave : goal.returns-then-not-bury-clause-grave
returns-then-not-bury-clause-grave c = λ i means other. ap (λ (b : Bool). b && not (is_untargeted i)) c.if-not-bury.true

pub returns-then-is_untargeted-clause-grave : goal.returns-then-is_untargeted-clause-grave
returns-then-is_untargeted-clause-grave c = λ i means other.
    (λ j. c.if-not-bury.false j && not (is_untargeted i))
    ∙ ap not (untargeted_as c.in-Some.row.now i c.in-Some-numbers_of.numbers (subst (λ (o : Option Row). MatchOption o ⊥ (λ r. Means r i)) (ap option_copied c.in-Some.is) means) other c.in-Some-numbers_of.ensures ∙ sym c.if-is_untargeted.ensures)

pub returns-clause-grave : goal.returns-clause-grave
returns-clause-grave c = λ i means other.
    let there : Means c.in-Some.row.now i = subst (λ (o : Option Row). MatchOption o ⊥ (λ r. Means r i)) (ap option_copied c.in-Some.is) means in
    let told = grave_as c.in-Some.row.now i c.in-Some-numbers_of.numbers there other c.in-Some-numbers_of.ensures _ c.in_ok-value.ensures.value c.in_ok-value.ensures.low.0 c.in_ok-value.ensures.low.1 in (
      (λ j. c.if-not-bury.false j && not (is_untargeted i)) ∙ ap not (untargeted_as c.in-Some.row.now i c.in-Some-numbers_of.numbers there other c.in-Some-numbers_of.ensures ∙ sym c.is_untargeted.ensures ∙ c.if-is_untargeted.false),
      told.0,
      told.1,
    )
