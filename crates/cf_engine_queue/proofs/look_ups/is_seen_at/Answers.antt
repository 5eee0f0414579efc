use Rattle.std.proofs.Common.{◌∙◌, ◌==◌, ◌&&◌, ap}
use Rattle.std.specs.Prelude.{option_copied}
use Rattle.cf_base.specs.declared.items.SeenPath.{SeenPath}
use Rattle.cf_model.specs.Words.{same, says}
use Rattle.cf_engine_queue.proofs.Found.{if_seen, seen_none}
use Rattle.cf_engine_queue.proofs.look_ups.is_seen_at.Goals as goal

pub returns-in-Some : goal.returns-in-Some
returns-in-Some c = λ b k same_records.
    if_seen b k c.args.records.now same_records c.as_slice.result.now (option_copied c.get.result) c.get.ensures (λ (p : SeenPath). (c.args.parent.0 == p.parent.0) && same c.args.name.now p.name) c.args.item c.in-Some.record.now c.has_path.result
    c.seen_key_bytes-key.ensures.fits (c.as_slice.ensures ∙ c.seen_key_bytes-key.ensures.ok) (ap option_copied c.in-Some.is) c.has_path.ensures

pub returns-in-None : goal.returns-in-None
returns-in-None c = λ b k same_records.
    ap (says (λ (p : SeenPath). (c.args.parent.0 == p.parent.0) && same c.args.name.now p.name))
    (seen_none b k c.args.records.now same_records c.as_slice.result.now (option_copied c.get.result) c.get.ensures c.args.item c.seen_key_bytes-key.ensures.fits (c.as_slice.ensures ∙ c.seen_key_bytes-key.ensures.ok) (ap option_copied c.in-None.is))
