use Rattle.cf_model.specs.LookUp.{is_excluded_pin}
use Rattle.cf_model.specs.Words.{part}
use Rattle.cf_table.specs.declared.rows.Row.{Row}
use Rattle.std.proofs.Common.{ap, sym, ◌∙◌}
use Rattle.std.specs.Prelude.{Option, option_copied}
use Rattle.cf_base.specs.declared.items.Pin.TheVariants as pin
use Rattle.cf_engine_uploads.proofs.exclusions.is_stored.Goals as goal

pub returns-in-Some : goal.returns-in-Some
returns-in-Some c = c.is_excluded_pin.ensures ∙ ap (λ (o : Option Row). is_excluded_pin (part (λ (r : Row). r.pin) pin.Unspecified o)) (sym (sym c.get.ensures ∙ ap option_copied c.in-Some.is))

pub returns-in-None : goal.returns-in-None
returns-in-None c = ap (λ (o : Option Row). is_excluded_pin (part (λ (r : Row). r.pin) pin.Unspecified o)) (sym (sym c.get.ensures ∙ ap option_copied c.in-None.is))
