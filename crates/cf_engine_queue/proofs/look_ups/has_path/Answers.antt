use Rattle.std.proofs.Common.{◌∙◌, ◌==◌, ◌&&◌, sym}
use Rattle.cf_model.specs.Words.{same}
use Rattle.cf_engine_queue.proofs.OneMeaning.{seen_parts}
use Rattle.cf_engine_queue.proofs.look_ups.has_path.Goals as goal

pub returns-in-Some : goal.returns-in-Some
returns-in-Some c = λ p h.
    let parts = seen_parts c.args.record.now p c.in-Some.number c.in-Some.rest.now h c.in-Some.ensures.0 (sym c.as_slice.ensures ∙ c.in-Some.ensures.1) in
    c.is_path.ensures ∙ (λ i. (c.args.parent.0 == parts.0 i) && same c.args.name.now (parts.1 i))
