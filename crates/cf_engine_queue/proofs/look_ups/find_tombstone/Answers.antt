use Rattle.std.proofs.Common.{◌∙◌, ap}
use Rattle.std.specs.Prelude.{option_copied}
use Rattle.cf_engine_queue.specs.Books.{tombstone_value}
use Rattle.cf_engine_queue.proofs.Found.{tombstone_none, tombstone_some}
use Rattle.cf_engine_queue.proofs.look_ups.find_tombstone.Goals as goal

pub returns-in-Some : goal.returns-in-Some
returns-in-Some c = λ b k same.
    tombstone_some b k c.args.records.now same c.as_slice.result.now (option_copied c.get.result) c.get.ensures c.args.number c.in-Some.record.now (tombstone_value c.in_ok-tombstone_said-in-Some.field-0) c.in_ok-key.ensures.fits
    (c.as_slice.ensures ∙ c.in_ok-key.ensures.ok) (ap option_copied c.in-Some.is) c.in_ok-tombstone_said-in-Some.ensures

pub returns : goal.returns
returns c = λ b k same.
    tombstone_none b k c.args.records.now same c.as_slice.result.now (option_copied c.get.result) c.get.ensures c.args.number c.in_ok-key.ensures.fits (c.as_slice.ensures ∙ c.in_ok-key.ensures.ok) (ap option_copied c.in-None.is)
