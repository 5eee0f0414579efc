use Rattle.std.proofs.Common.{◌∙◌, ap}
use Rattle.std.specs.Prelude.{option_copied}
use Rattle.cf_engine_queue.proofs.Found.{seen_none, seen_some}
use Rattle.cf_engine_queue.proofs.look_ups.find_seen.Goals as goal

pub returns-in_ok-seen_said-in-Some : goal.returns-in_ok-seen_said-in-Some
returns-in_ok-seen_said-in-Some c = λ b k same.
    seen_some b k c.args.records.now same c.as_slice.result.now (option_copied c.get.result) c.get.ensures c.args.item c.in-Some.record.now c.in_ok-seen_said-in-Some.field-0 c.seen_key_bytes-key.ensures.fits
    (c.as_slice.ensures ∙ c.seen_key_bytes-key.ensures.ok) (ap option_copied c.in-Some.is) c.in_ok-seen_said-in-Some.ensures

pub returns-in-None : goal.returns-in-None
returns-in-None c = λ b k same.
    seen_none b k c.args.records.now same c.as_slice.result.now (option_copied c.get.result) c.get.ensures c.args.item c.seen_key_bytes-key.ensures.fits (c.as_slice.ensures ∙ c.seen_key_bytes-key.ensures.ok) (ap option_copied c.in-None.is)
