use Rattle.std.proofs.Common.{◌≡◌, ◌∙◌, Global, List, Some, Vec, [], ◌∷◌, ap, not, sym}
use Rattle.std.specs.Prelude.{◌==◌, filter, map}
use Rattle.std.proofs.lemmas.Result.{IfOk-weaker}
use Rattle.cf_base.specs.declared.ids.ItemId.{ItemId}
use Rattle.cf_base.specs.declared.items.Reach.{Reach}
use Rattle.cf_model.specs.Items.{Item, item_of}
use Rattle.cf_model.specs.LookUp.{tree_of}
use Rattle.cf_model.specs.Plans.{reached}
use Rattle.cf_table.specs.Tables.{MeansAll}
use Rattle.cf_tree.specs.Trees.{IsTree}
use Rattle.cf_tree.proofs.Walks.{own_id}
use Rattle.cf_item_rules.proofs.Reaching.{others_are}
use Rattle.cf_item_rules.proofs.pins.reached.Goals as goal

pub returns-in-One : goal.returns-in-One
returns-in-One c =
    IfOk-weaker c.alone.result (λ (v : Vec ItemId Global). v.items ≡ c.args.id ∷ [])
    (λ (v : Vec ItemId Global). (items : List Item) (i : Item) → MeansAll c.args.rows.now.rows items → IsTree items → item_of items c.args.id ≡ Some i → v.items ≡ map (λ (j : Item). j.id) (reached items i c.args.reach))
    (λ v h items i m t e. h ∙ ap (λ (x : ItemId). x ∷ []) (own_id items c.args.id i e) ∙ ap (λ (r : Reach). map (λ (j : Item). j.id) (reached items i r)) (sym c.in-One.is)) c.alone.ensures

pub returns-in-Recurse : goal.returns-in-Recurse
returns-in-Recurse c =
    IfOk-weaker c.tree_of.result (λ (v : Vec ItemId Global). (items : List Item) → MeansAll c.args.rows.now.rows items → IsTree items → v.items ≡ map (λ (j : Item). j.id) (tree_of items c.args.id))
    (λ (v : Vec ItemId Global). (items : List Item) (i : Item) → MeansAll c.args.rows.now.rows items → IsTree items → item_of items c.args.id ≡ Some i → v.items ≡ map (λ (j : Item). j.id) (reached items i c.args.reach))
    (λ v h items i m t e. h items m t ∙ ap (λ (x : ItemId). map (λ (j : Item). j.id) (tree_of items x)) (own_id items c.args.id i e) ∙ ap (λ (r : Reach). map (λ (j : Item). j.id) (reached items i r)) (sym c.in-Recurse.is)) c.tree_of.ensures

pub returns-in_ok-all-in-RecurseOnly : goal.returns-in_ok-all-in-RecurseOnly
returns-in_ok-all-in-RecurseOnly c =
    IfOk-weaker c.others.result (λ (v : Vec ItemId Global). v.items ≡ filter (λ x. not (x.0 == c.args.id.0)) c.as_slice.result.now)
    (λ (v : Vec ItemId Global). (items : List Item) (i : Item) → MeansAll c.args.rows.now.rows items → IsTree items → item_of items c.args.id ≡ Some i → v.items ≡ map (λ (j : Item). j.id) (reached items i c.args.reach))
    (λ v h items i m t e.
    h ∙ ap (filter (λ (x : ItemId). not (x.0 == c.args.id.0))) (c.as_slice.ensures.value ∙ c.in_ok-all-in-RecurseOnly.ensures items m t) ∙ others_are c.args.id (tree_of items c.args.id)
    ∙ ap (λ (x : ItemId). map (λ (j : Item). j.id) (filter (λ j. not (j.id.0 == x.0)) (tree_of items x))) (own_id items c.args.id i e) ∙ ap (λ (r : Reach). map (λ (j : Item). j.id) (reached items i r)) (sym c.in-RecurseOnly.is))
    c.others.ensures
