use Rattle.std.proofs.Common.{◌∙◌, Bool, ap, eqb, sym}
use Rattle.std.specs.Prelude.{◌&&◌}
use Rattle.std.specs.Str.{bytes_eq}
use Rattle.cf_model.specs.Words.{same}
use Rattle.cf_table.proofs.Finds.{same_bytes}
use Rattle.cf_engine_feed_plan.proofs.changed_entries.stands_in.Goals as goal

pub returns-then-eq : goal.returns-then-eq
returns-then-eq c = λ i p mi mp.
    c.eq-then-eq.ensures ∙ (λ k. bytes_eq (c.as_slice.ensures k) (c.as_slice-then-eq.ensures k)) ∙ same_bytes c.args.row.now.name c.args.name.now
    ∙ sym ((λ k. eqb (sym mi.parent k).0 (sym mp.id k).0 && same (sym mi.name k) c.args.name.now) ∙ ap (λ (b : Bool). b && same c.args.row.now.name c.args.name.now) (sym c.eq.ensures ∙ c.if-eq.true))
