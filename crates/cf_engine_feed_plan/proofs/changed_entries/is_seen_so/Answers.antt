use Rattle.std.proofs.Common.{◌∙◌, Bool, ap, sym}
use Rattle.std.specs.Prelude.{option_copied, ◌&&◌}
use Rattle.std.specs.Str.{bytes_eq}
use Rattle.cf_model.specs.Feeds.{is_path_of}
use Rattle.cf_model.specs.Words.{same, says}
use Rattle.cf_table.proofs.Finds.{same_bytes}
use Rattle.cf_engine_feed_plan.proofs.changed_entries.is_seen_so.Goals as goal

pub returns-then-eq : goal.returns-then-eq
returns-then-eq c =
    c.eq-then-eq.ensures ∙ (λ k. bytes_eq (c.as_slice.ensures k) (c.as_slice-then-eq.ensures k)) ∙ same_bytes c.in-Some.path.now.name c.args.entry.now.name
    ∙ sym (ap (λ o. says (is_path_of c.args.entry.now) (option_copied o)) c.in-Some.is ∙ ap (λ (b : Bool). b && same c.in-Some.path.now.name c.args.entry.now.name) (sym c.eq.ensures ∙ c.if-eq.true))
