use Rattle.std.proofs.Common.{◌∙◌, List, Bool, ap, arith, eqb, sym, ℕ}
use Rattle.std.specs.List.{list_any}
use Rattle.std.specs.Prelude.{◌||◌}
use Rattle.cf_model.specs.LookUp.{item_line}
use Rattle.cf_tree.proofs.WayUp.{line_is}
use Rattle.cf_engine_feed_plan.proofs.ancestors.is_under.Goals as goal

pub returns-then-eq : goal.returns-then-eq
returns-then-eq c = λ items m t. sym (ap (λ (b : Bool). b || list_any (λ k. eqb k c.args.top.0) (item_line items c.args.id)) (sym c.eq.ensures ∙ c.if-eq.true))

pub returns : goal.returns
returns c = λ items m t.
    c.line_of.ensures.passes ∙ ap (λ (l : List ℕ). list_any (λ k. eqb k c.args.top.0) l) (line_is 32 c.args.rows.now.rows items c.args.id m t (omega arith))
    ∙ sym (ap (λ (b : Bool). b || list_any (λ k. eqb k c.args.top.0) (item_line items c.args.id)) (sym c.eq.ensures ∙ c.if-eq.false))
