use Rattle.std.proofs.Common.{◌==◌, ◌&&◌, ap}
use Rattle.std.specs.Prelude.{option_copied}
use Rattle.cf_base.specs.declared.items.SeenPath.{SeenPath}
use Rattle.cf_model.specs.Words.{same, says}
use Rattle.cf_engine_queue.proofs.Found.{if_seen, seen_none}
use Rattle.cf_engine_queue.proofs.seen_paths.SeenPaths.is_at.Goals as goal

pub returns-in-Some-clause-value : goal.returns-in-Some-clause-value
returns-in-Some-clause-value c = λ b k same_records.
    if_seen b k c.args.self.now same_records c.seen_key_bytes-key.result (option_copied c.find.result) c.find.ensures.value (λ (p : SeenPath). (c.args.parent.0 == p.parent.0) && same c.args.name.now p.name) c.args.item c.in-Some.record.now c.has_path.result
    c.seen_key_bytes-key.ensures.fits c.seen_key_bytes-key.ensures.ok (ap option_copied c.in-Some.is) c.has_path.ensures

pub returns-in-None-clause-value : goal.returns-in-None-clause-value
returns-in-None-clause-value c = λ b k same_records.
    ap (says (λ (p : SeenPath). (c.args.parent.0 == p.parent.0) && same c.args.name.now p.name))
    (seen_none b k c.args.self.now same_records c.seen_key_bytes-key.result (option_copied c.find.result) c.find.ensures.value c.args.item c.seen_key_bytes-key.ensures.fits c.seen_key_bytes-key.ensures.ok (ap option_copied c.in-None.is))
