use Rattle.std.proofs.Common.{◌≡◌, ◌∷◌, ◌∙◌, [], Global, List, Vec, ap, sym}
use Rattle.std.specs.Prelude.{map, option_copied}
use Rattle.std.proofs.lemmas.Result.{IfOk-weaker}
use Rattle.cf_base.specs.declared.ids.ItemId.{ItemId}
use Rattle.cf_model.specs.Items.{Item}
use Rattle.cf_model.specs.LookUp.{tree_of}
use Rattle.cf_table.specs.Tables.{MeansAll}
use Rattle.cf_tree.specs.Levels.{levels_in}
use Rattle.cf_tree.specs.Trees.{IsTree}
use Rattle.cf_tree.proofs.TreeLevels.{no_tree, tree_is}
use Rattle.cf_tree.proofs.trees.tree_of.Goals as goal

pub returns-in-None : goal.returns-in-None
returns-in-None c = λ items m t. c.new.ensures.items ∙ no_tree c.args.rows.now.rows items c.args.top m t (sym c.get.ensures ∙ ap option_copied c.in-None.is)

pub returns-in-Some : goal.returns-in-Some
returns-in-Some c =
    IfOk-weaker c.levels_in.result (λ (v : Vec ItemId Global). v.items ≡ levels_in 33 c.args.rows.now.rows (c.args.top ∷ []))
    (λ (v : Vec ItemId Global). (items : List Item) → MeansAll c.args.rows.now.rows items → IsTree items → v.items ≡ map (λ (i : Item). i.id) (tree_of items c.args.top))
    (λ v h items m t. h ∙ tree_is c.args.rows.now.rows items c.args.top c.in-Some.field-0.now m t (sym c.get.ensures ∙ ap option_copied c.in-Some.is))
    c.levels_in.ensures
