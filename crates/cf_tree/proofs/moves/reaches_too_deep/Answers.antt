use Rattle.std.proofs.Common.{Bool, List, ◌∙◌, ◌+◌, ◌-◌, ◌∷◌, [], ◌≡◌, Some, ap, arith, length, ltb, not, sym}
use Rattle.std.proofs.lemmas.Bool.{eqb-true}
use Rattle.std.proofs.lemmas.Result.{IfOk-weaker}
use Rattle.cf_model.specs.Items.{Item, item_of}
use Rattle.cf_model.specs.LookUp.{height_at}
use Rattle.cf_model.specs.Words.{is_empty}
use Rattle.cf_table.specs.Tables.{MeansAll}
use Rattle.cf_tree.specs.Levels.{level_at}
use Rattle.cf_tree.specs.Trees.{IsTree}
use Rattle.cf_tree.proofs.DeepLevels.{deep_is, level_is, root_deep}
use Rattle.cf_tree.proofs.Heights.{comes_no_deeper}
use Rattle.cf_tree.proofs.WayUp.{line_is}
use Rattle.cf_tree.proofs.moves.reaches_too_deep.Goals as goal

pub returns-then-eq : goal.returns-then-eq
returns-then-eq c = λ items i m t e. root_deep items c.args.id c.args.above t (eqb-true c.args.id.0 1 (sym c.eq.ensures ∙ c.if-eq.true))

pub returns-then-above-line_of : goal.returns-then-above-line_of
returns-then-above-line_of c = λ items i m t e.
    comes_no_deeper items c.args.id c.args.above c.line_of.result.depth t (c.line_of.ensures.depth ∙ ap length (line_is 32 c.args.rows.now.rows items c.args.id m t (omega arith))) c.if-above-line_of.true

pub returns : goal.returns
returns c =
    IfOk-weaker c.reaches.result (λ (b : Bool). b ≡ not (is_empty (level_at (32 - c.args.above) c.args.rows.now.rows (c.args.id ∷ []))))
    (λ (b : Bool). (items : List Item) (i : Item) → MeansAll c.args.rows.now.rows items → IsTree items → item_of items c.args.id ≡ Some i → b ≡ ltb 32 (c.args.above + 1 + height_at items c.args.id))
    (λ b h items i m t e. h ∙ ap not (level_is (32 - c.args.above) c.args.rows.now.rows items c.args.id i m t e) ∙ deep_is items c.args.id i c.args.above c.requires t e (sym c.eq.ensures ∙ c.if-eq.false))
    c.reaches.ensures
