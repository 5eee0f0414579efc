-- The entries that rows say are those of the items.
use Rattle.std.proofs.Common.{◌≡◌, true, List, [], ◌∷◌, map, Option, Some, refl, sym, ◌∙◌, ap, subst}
use Rattle.std.specs.Prelude.{MatchOption}
use Rattle.cf_base.specs.declared.ids.ItemId.{ItemId}
use Rattle.cf_base.specs.declared.items.ListedItem.{ListedItem}
use Rattle.cf_filter_machine.specs.Ends.{AreEntriesOf, entry_of}
use Rattle.cf_model.specs.Items.{Item, item_of}
use Rattle.cf_model.specs.LookUp.{by_name, children, is_child}
use Rattle.cf_model.specs.Settling.{entries_at, listed}
use Rattle.cf_model.specs.Words.{comes_before}
use Rattle.cf_filter_steps.proofs.RowReads.{row_there}
use Rattle.cf_table.specs.Tables.{MeansAll, row_of}
use Rattle.cf_table.specs.declared.rows.Row.{Row}
use Rattle.cf_tree.proofs.Depths.{some_of}
use Rattle.cf_tree.proofs.Elements.{Each, each_also, each_filtered, each_sorted, each_there}
use Rattle.cf_tree.specs.Trees.{RiseFrom}

same_some : (a b : Item) → ◌≡◌ {A = Option Item} (Some a) (Some b) → a ≡ b
same_some a b e = cc

entry_is : (rows : List Row) (items : List Item) (i : Item) (e : ListedItem) → MeansAll rows items → item_of items i.id ≡ Some i → MatchOption (row_of rows i.id) ⊥ (λ r. e ≡ entry_of r) → e ≡ listed i
entry_is rows items i e mean there told =
    let r = some_of (row_of rows i.id) (λ r. e ≡ entry_of r) told in
    let b = row_there rows items i.id r.0 mean r.1 in
    let same : b.0 ≡ i = same_some b.0 i (sym b.1 ∙ there) in
    r.2 ∙ (λ j. record { name = b.2.name j; dir = b.2.directory j }) ∙ ap listed same

entries_are : (rows : List Row) (items js : List Item) (list : List ListedItem) → MeansAll rows items → Each (λ x. item_of items x.id ≡ Some x) js → AreEntriesOf rows (map (λ i. i.id) js) list → list ≡ map listed js
entries_are rows items [] [] mean each told = refl
entries_are rows items [] (e ∷ es) mean each told = absurd told
entries_are rows items (j ∷ js) [] mean each told = absurd told
entries_are rows items (j ∷ js) (e ∷ es) mean each told = λ i. entry_is rows items j e mean each.0 told.0 i ∷ entries_are rows items js es mean each.1 told.1 i

pub entries_mean : (rows : List Row) (items : List Item) (dir : ItemId) (ids : List ItemId) (list : List ListedItem) → MeansAll rows items → RiseFrom 1 items → ids ≡ map (λ i. i.id) (by_name (children items dir)) → AreEntriesOf rows ids list
    → list ≡ entries_at items dir
entries_mean rows items dir ids list mean rise is told =
    entries_are rows items (by_name (children items dir)) list mean
    (each_sorted (λ x. item_of items x.id ≡ Some x) (λ i j. comes_before i.name j.name) (children items dir)
    (each_filtered (λ x. item_of items x.id ≡ Some x) (is_child dir) items (each_also (λ x. item_of items x.id ≡ Some x) (λ x. is_child dir x ≡ true → item_of items x.id ≡ Some x) (λ x e t. e) items (each_there 1 items rise))))
    (subst (λ (l : List ItemId). AreEntriesOf rows l list) is told)
