use Rattle.std.proofs.Common.{◌∙◌, sym, Bool, None, false, ℕ, ◌≡◌}
use Rattle.cf_volume_image.specs.Numbers.{is_number, number_at}
use Rattle.cf_volume_image.specs.declared.number_places.NumberPlace.{NumberPlace}
use Rattle.cf_volume_image.specs.declared.number_places.NumberPlace.TheVariants.{First, Second}
use Rattle.cf_volume_image.proofs.CountsKept.{unnumbered}
use Rattle.cf_volume_image.proofs.numbered_lists.numbers_at.Goals as goal

pub returns-then-not-is_numbered : goal.returns-then-not-is_numbered
returns-then-not-is_numbered c = λ place n lt. none place n (sym (unnumbered place n c.args.key.now c.args.records.now (sym c.is_numbered.ensures ∙ c.if-not-is_numbered.true))) where
  none : (place : NumberPlace) (n : ℕ) {b : Bool} → false ≡ b → is_number n (number_at place (record { first = None; second = None })) ≡ b
  none First n h = h
  none Second n h = h
