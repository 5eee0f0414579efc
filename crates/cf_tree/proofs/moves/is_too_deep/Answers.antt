use Rattle.std.proofs.Common.{Bool, List, ◌+◌, ◌∙◌, ◌≡◌, Some, ap, ltb, ℕ}
use Rattle.std.proofs.lemmas.Result.{IfOk-weaker}
use Rattle.cf_model.specs.Items.{Item, item_of}
use Rattle.cf_model.specs.LookUp.{depth_at, height_at}
use Rattle.cf_table.specs.Tables.{MeansAll}
use Rattle.cf_tree.specs.Trees.{IsTree}
use Rattle.cf_tree.proofs.moves.is_too_deep.Goals as goal

pub returns : goal.returns
returns c =
    IfOk-weaker c.reaches_too_deep.result (λ (b : Bool). (items : List Item) (i : Item) → MeansAll c.args.rows.now.rows items → IsTree items → item_of items c.args.id ≡ Some i → b ≡ ltb 32 (c.depth_of.result + 1 + height_at items c.args.id))
    (λ (b : Bool). (items : List Item) (i : Item) → MeansAll c.args.rows.now.rows items → IsTree items → item_of items c.args.id ≡ Some i → b ≡ ltb 32 (depth_at items c.args.parent + 1 + height_at items c.args.id))
    (λ b h items i m t e. h items i m t e ∙ ap (λ (n : ℕ). ltb 32 (n + 1 + height_at items c.args.id)) (c.depth_of.ensures.depth items m t))
    c.reaches_too_deep.ensures
