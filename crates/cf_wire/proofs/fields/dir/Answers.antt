use Rattle.std.proofs.Common.{ap, ◌∙◌}
use Rattle.std.specs.Option.{ok_or}
use Rattle.cf_wire.specs.declared.failures.WireError.TheVariants as fail
use Rattle.cf_wire.specs.Reading.{dir_of}
use Rattle.cf_wire.proofs.FieldSteps.{marked}
use Rattle.cf_wire.proofs.fields.dir.Goals as goal

pub returns : goal.returns
returns c = marked dir_of c.in_ok-mark.mark c.next_place-place.result c.args.r.now c.byte.new.r c.ok_or.result c.in_ok-mark.ensures c.next_place-place.ensures
    (c.ok_or.ensures.value ∙ ap (λ o. ok_or o (fail.BadField c.next_place-place.result)) c.dir_of.ensures)
