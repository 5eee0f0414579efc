use Rattle.std.proofs.Common.{ap, refl, subst, sym}
use Rattle.cf_check_world.specs.declared.places.Place.TheVariants as place
use Rattle.cf_filter_machine.specs.Held.{Held}
use Rattle.cf_filter_machine.specs.Sensing as sensing
use Rattle.cf_volume_plain.specs.Plains.{Blocks, plain_state}
use Rattle.cf_check_world.proofs.off_events.reopened.Goals as goal

pub returns-in-Ok : goal.returns-in-Ok
returns-in-Ok c = (
  c.reopen.new.self,
  ap (λ (f : Held Blocks). place.On (record { filter = f; actor = c.reopen.new.self })) c.on_volume-filter.ensures.is,
  c.reopen.ensures.reopens,
  λ f h. c.in-Ok.ensures.told f (subst (λ (y : Held Blocks). sensing.Stands plain_state y f) (sym c.on_volume-filter.ensures.is) h),
)

pub returns-in-Err : goal.returns-in-Err
returns-in-Err c = refl
