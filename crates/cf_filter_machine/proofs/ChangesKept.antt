-- A volume that is kept stays so by a change that suits.
use Rattle.std.proofs.Common.{◌≡◌, inl, inr, ℕ, ◌+◌, ◌<◌, ◌≤◌, true, false, eqb, max, List, [], ◌∷◌, ◌++◌, length, Option, Some, None, is_some, refl, sym, ◌∙◌, ap, subst, arith}
use Rattle.std.specs.Prelude.{MatchOption, ◌==◌}
use Rattle.std.specs.List.{list_all}
use Rattle.std.proofs.Math.Nat.{le-max_left, le-max_right}
use Rattle.std.proofs.lemmas.Option.{same_Some}
use Rattle.cf_base.specs.declared.changes.Change.{Change}
use Rattle.cf_base.specs.declared.changes.Change.TheVariants as change
use Rattle.cf_base.specs.declared.ids.ItemId.{ItemId}
use Rattle.cf_filter_machine.proofs.ChangedItems.{all_found, each_found, pin_stored}
use Rattle.cf_filter_machine.proofs.ComingItems.{kept_by_one, may_come, not_root, past_root}
use Rattle.cf_filter_machine.proofs.ItemsKept.{IsWhole, converted_whole, copied_whole, got_whole, kept_whole, left_whole, made_whole, marked_whole, moved_whole, pinned_whole, populated_whole, rebased_whole, reverted_whole, sized_whole, took_whole, unmarked_whole, validated_whole, wrote_whole}
use Rattle.cf_filter_machine.proofs.OpenTrees.{open_changed, open_last}
use Rattle.cf_filter_machine.proofs.PlacesKept.{StaysOwn, kept_in_place, new_number, unchanged}
use Rattle.cf_filter_machine.proofs.PointSteps.{same_parts}
use Rattle.cf_filter_machine.specs.Keeping.{IsKept, IsKeptVolume}
use Rattle.cf_model.specs.Changes.{next_number, put_change}
use Rattle.cf_model.specs.Effects.{changed, converted, copied, copies, effect, got, kept, left_out, made, marked, moved, pinned, populated, rebased, reverted, sized, took, unmarked, validated_in, wrote}
use Rattle.cf_model.specs.Items.{Item, item_of, pin_of}
use Rattle.cf_model.specs.Logs.{next_by}
use Rattle.cf_model.specs.Soundness.{AllSound}
use Rattle.cf_model.specs.State.{Volume}
use Rattle.cf_model.proofs.SoundEffects.{effect_sound}
use Rattle.cf_volume_points.specs.Holding.{FitsTable}
use Rattle.cf_volume_points.specs.Standing.{IsBookOf}
use Rattle.cf_filter_steps.specs.Suiting.{IsFreePlace, IsOpenDirectory, Suits}
use Rattle.cf_table.specs.Changing.{FitsItem}
use Rattle.cf_table.specs.Reading.{IsStored}
use Rattle.cf_filter_steps.proofs.LookUps.{of_found}
use Rattle.cf_filter_steps.specs.Good.{Every, IsSmall}
use Rattle.cf_tree.proofs.Depths.{some_of}
use Rattle.cf_tree.proofs.TreesGrow.{grown}
use Rattle.cf_tree.proofs.TreesMove.{may_move, moved_tree}
use Rattle.cf_tree.proofs.TreesStay.{effect_stays}
use Rattle.cf_tree.proofs.Walks.{own_id}
use Rattle.cf_tree.specs.Trees.{IsTree, MayCome, keeps_places}

-- the id that the next item gets after a change
abbrev next_then : Change → Volume → ItemId
next_then c v = record { 0 = max v.next_item.0 (next_by c) }

module _ (v : Volume) (h : IsKeptVolume v) where
  -- in its place

  stay : (c : Change) (key : ItemId) (f : Item → Item) → keeps_places c ≡ true → effect v.items c (next_number v) ≡ changed key f v.items → StaysOwn (next_number v) f → ((i : Item) → (f i).parent ≡ i.parent)
      → ((i : Item) → item_of v.items key ≡ Some i → IsWhole i → IsWhole (f i)) → (put_change c v).book ≡ v.book → Suits c v → FitsTable (effect v.items c (next_number v)) v.book → IsKeptVolume (put_change c v)
  stay c key f places is own parent whole book suits fits =
      same_parts (record v { items = changed key f v.items; next_item = next_then c v; place = v.place + 1 }) (put_change c v) is refl refl refl book
      (kept_in_place v key f (next_then c v) own (le-max_left v.next_item.0 (next_by c)) (subst IsTree is (effect_stays v.items c (next_number v) places h.good.tree))
      (open_changed v.items key f own.id own.known (λ i p e up. h.good.opened key i p e (ap (item_of v.items) (sym (parent i)) ∙ up)) h.good.opened)
      (subst AllSound is (effect_sound v.items c (next_number v) (new_number v.epoch v.place) h.good.later suits.needs h.good.sound)) whole (subst (λ (l : List Item). FitsTable l v.book) is fits) h)

  -- a move

  move : (item parent : ItemId) (name : List ℕ) → Suits (change.Move item parent name) v → FitsTable (effect v.items (change.Move item parent name) (next_number v)) v.book → IsKeptVolume (put_change (change.Move item parent name) v)
  move item parent name suits fits =
      same_parts (record v { items = changed item f v.items; next_item = next_then (change.Move item parent name) v; place = v.place + 1 }) (put_change (change.Move item parent name) v) refl refl refl refl refl
      (kept_in_place v item f (next_then (change.Move item parent name) v) (record { id = λ i. refl; directory = λ i. refl; known = λ i k. k; number = λ i. inr refl }) (le-max_left v.next_item.0 2) (tree (item_of v.items item) refl)
      (open_changed v.items item f (λ i. refl) (λ i k. k) (λ i q e up. subst (λ (x : Item). x.populated ≡ true) (same_Some above.0 q (sym above.1 ∙ up)) above.2.1) h.good.opened)
      (effect_sound v.items (change.Move item parent name) (next_number v) (new_number v.epoch v.place) h.good.later suits.needs h.good.sound)
      (λ i e w. moved_whole parent name (pin_of v.items parent) (next_number v) i (subst (λ (k : ItemId). (eqb k.0 1) ≡ false) (own_id v.items item i e) suits.plants.0) suits.plants.1 (pin_stored v.items parent h.good.pins) w)
      fits h)
    where
      f : Item → Item
      f = moved parent name (pin_of v.items parent) (next_number v)

      above : (p : Item) × (item_of v.items parent ≡ Some p) × IsOpenDirectory p
      above = some_of (item_of v.items parent) IsOpenDirectory suits.plants.2

      tree : (o : Option Item) → item_of v.items item ≡ o → IsTree (changed item f v.items)
      tree None e = subst IsTree (sym (unchanged item f v.items e)) h.good.tree
      tree (Some i) e =
          moved_tree v.items item parent name (pin_of v.items parent) (next_number v) i above.0 h.good.tree e above.1 above.2.0 suits.plants.0 (may_move v.items item parent name suits.plants.3)

  -- an item that comes

  comes : (c : Change) (item parent : ItemId) (name : List ℕ) (new : Item) → new.id ≡ item → new.parent ≡ parent → new.name ≡ name → new.number ≡ next_number v → next_by c ≡ item.0 + 1
      → effect v.items c (next_number v) ≡ v.items ++ new ∷ [] → (put_change c v).book ≡ v.book → (item ≡ v.next_item) × IsFreePlace v.items parent name → IsWhole new → Suits c v
      → FitsTable (effect v.items c (next_number v)) v.book → IsBookOf v.items v.book → IsKeptVolume (put_change c v)
  comes c item parent name new own up named number by is same plants whole suits fits book =
      same_parts (record v { items = v.items ++ new ∷ []; next_item = next_then c v; place = v.place + 1 }) (put_change c v) is refl refl refl same
      (kept_by_one v new (next_then c v) (le-max_left v.next_item.0 (next_by c)) low number
      (grown v.items new h.good.tree (subst (λ (k : ItemId). MayCome v.items k new.parent new.name) (sym own)
      (subst (λ (k : ItemId). MayCome v.items item k new.name) (sym up) (subst (λ (t : List ℕ). MayCome v.items item parent t) (sym named) (may_come v.items item parent name below plants.1)))))
      (open_last v.items new h.good.tree h.good.opened (subst (λ (k : ItemId). 0 < k.0) (sym own) (past_root item v.items h.good.tree.root below))
      (subst (λ (k : ItemId). MatchOption (item_of v.items k) ⊥ IsOpenDirectory) (sym up) plants.1.1))
      (subst AllSound is (effect_sound v.items c (next_number v) (new_number v.epoch v.place) h.good.later suits.needs h.good.sound)) whole (subst (λ (l : List Item). FitsTable l v.book) is fits) book h)
    where
      below : Every (λ i. i.id.0 < item.0) v.items
      below = subst (λ (k : ItemId). Every (λ i. i.id.0 < k.0) v.items) (sym plants.0) h.good.below

      low : new.id.0 < max v.next_item.0 (next_by c)
      low = subst (λ (k : ItemId). k.0 < max v.next_item.0 (next_by c)) (sym own) (let most = le-max_right v.next_item.0 (next_by c) in omega (arith, most, by))

  other : (item : ItemId) → item ≡ v.next_item → (eqb item.0 1) ≡ false
  other item e = subst (λ (k : ItemId). (eqb k.0 1) ≡ false) (sym e) (not_root v.next_item v.items h.good.tree.root h.good.below)

  found_whole : (id : ItemId) (i : Item) → item_of v.items id ≡ Some i → IsWhole i
  found_whole id i e = record { small = of_found IsSmall (λ j. j.id.0 == id.0) v.items i h.good.small e; kept = of_found IsKept (λ j. j.id.0 == id.0) v.items i h.items e; pin = of_found (λ i. IsStored i.pin) (λ j. j.id.0 == id.0) v.items i h.good.pins e }

  pub kept_change : (c : Change) → Suits c v → IsBookOf v.items v.book → FitsTable (put_change c v).items (put_change c v).book → IsKeptVolume (put_change c v)
  kept_change (change.Make item parent name kind size identity) suits book fits =
      comes (change.Make item parent name kind size identity) item parent name (made item parent name kind size identity (pin_of v.items parent) (next_number v)) refl refl refl refl refl refl refl suits.plants
      (made_whole item parent name kind size identity (pin_of v.items parent) (next_number v) (other item suits.plants.0) suits.plants.1.0 suits.lasts suits.fits.2 (pin_stored v.items parent h.good.pins)) suits fits book
  kept_change (change.Copy item from parent name) suits book fits =
      comes (change.Copy item from parent name) item parent name (copied item parent name (pin_of v.items parent) (next_number v) source.0) refl refl refl refl refl
      (ap (λ (o : Option Item). v.items ++ copies item parent name (pin_of v.items parent) (next_number v) o) source.1) refl suits.plants
      (copied_whole item parent name (pin_of v.items parent) (next_number v) source.0 (other item suits.plants.0) suits.plants.1.0 source.2 (pin_stored v.items parent h.good.pins)
      (each_found (λ i. i.directory ≡ false) from v.items source.0 suits.needs source.1) (found_whole from source.0 source.1)) suits fits book
    where
      source : (i : Item) × (item_of v.items from ≡ Some i) × (8 ≤ length i.identity)
      source = some_of (item_of v.items from) (λ i. 8 ≤ length i.identity) suits.fits.1
  kept_change (change.Remove item) suits book fits = absurd suits.plants
  kept_change (change.Move item parent name) suits book fits = move item parent name suits fits
  kept_change (change.Write item at bytes) suits book fits =
      stay (change.Write item at bytes) item (wrote at bytes (next_number v)) refl refl (record { id = λ i. refl; directory = λ i. refl; known = λ i k. k; number = λ i. inr refl }) (λ i. refl)
      (λ i e w. wrote_whole at bytes (next_number v) i (all_found (FitsItem (change.Write item at bytes) v.book) item v.items i suits.fits e) w) refl suits fits
  kept_change (change.Size item size) suits book fits =
      stay (change.Size item size) item (sized size (next_number v)) refl refl (record { id = λ i. refl; directory = λ i. refl; known = λ i k. k; number = λ i. inr refl }) (λ i. refl)
      (λ i e w. sized_whole size (next_number v) i (all_found (FitsItem (change.Size item size) v.book) item v.items i suits.fits e) w) refl suits fits
  kept_change (change.Filled item start bytes) suits book fits =
      stay (change.Filled item start bytes) item (got start bytes) refl refl (record { id = λ i. refl; directory = λ i. refl; known = λ i k. k; number = λ i. inl refl }) (λ i. refl)
      (λ i e w. got_whole start bytes i w) refl suits fits
  kept_change (change.Validated item start len) suits book fits =
      stay (change.Validated item start len) item (validated_in start len) refl refl (record { id = λ i. refl; directory = λ i. refl; known = λ i k. k; number = λ i. inl refl }) (λ i. refl)
      (λ i e w. validated_whole start len i w) refl suits fits
  kept_change (change.Emptied item start len) suits book fits =
      stay (change.Emptied item start len) item (left_out start len) refl refl (record { id = λ i. refl; directory = λ i. refl; known = λ i k. k; number = λ i. inl refl }) (λ i. refl)
      (λ i e w. left_whole start len i w) refl suits fits
  kept_change (change.SetPin item pin) suits book fits =
      stay (change.SetPin item pin) item (pinned pin) refl refl (record { id = λ i. refl; directory = λ i. refl; known = λ i k. k; number = λ i. inl refl }) (λ i. refl)
      (λ i e w. pinned_whole pin i suits.lasts w) refl suits fits
  kept_change (change.Mark item number) suits book fits =
      stay (change.Mark item number) item (marked) refl refl (record { id = λ i. refl; directory = λ i. refl; known = λ i k. k; number = λ i. inl refl }) (λ i. refl)
      (λ i e w. marked_whole i w) refl suits fits
  kept_change (change.Clear item) suits book fits =
      stay (change.Clear item) item (unmarked) refl refl (record { id = λ i. refl; directory = λ i. refl; known = λ i k. k; number = λ i. inl refl }) (λ i. refl)
      (λ i e w. unmarked_whole i w) refl suits fits
  kept_change (change.Convert item identity) suits book fits =
      stay (change.Convert item identity) item (converted identity (next_number v)) refl refl (record { id = λ i. refl; directory = λ i. refl; known = λ i k. k; number = λ i. inr refl }) (λ i. refl)
      (λ i e w. converted_whole identity (next_number v) i suits.lasts w) refl suits fits
  kept_change (change.Revert item) suits book fits =
      stay (change.Revert item) item (reverted (next_number v)) refl refl (record { id = λ i. refl; directory = λ i. refl; known = λ i k. k; number = λ i. inr refl }) (λ i. refl)
      (λ i e w. let r = each_found (λ i. (list_all is_some i.held ≡ true) × (i.directory ≡ true → i.populated ≡ true)) item v.items i suits.lasts e in reverted_whole (next_number v) i r.0 r.1 w) refl suits fits
  kept_change (change.Rebase item identity len at) suits book fits =
      stay (change.Rebase item identity len at) item (rebased identity len at) refl refl (record { id = λ i. refl; directory = λ i. refl; known = λ i k. k; number = λ i. inl refl }) (λ i. refl)
      (λ i e w. rebased_whole identity len at i suits.lasts (all_found (FitsItem (change.Rebase item identity len at) v.book) item v.items i suits.fits e).1 w) refl suits fits
  kept_change (change.Take item identity size) suits book fits =
      stay (change.Take item identity size) item (took identity size (next_number v)) refl refl (record { id = λ i. refl; directory = λ i. refl; known = λ i k. k; number = λ i. inr refl }) (λ i. refl)
      (λ i e w. took_whole identity size (next_number v) i suits.lasts (all_found (FitsItem (change.Take item identity size) v.book) item v.items i suits.fits e).1 w) refl suits fits
  kept_change (change.Populated item) suits book fits =
      stay (change.Populated item) item (populated) refl refl (record { id = λ i. refl; directory = λ i. refl; known = λ i k. refl; number = λ i. inl refl }) (λ i. refl)
      (λ i e w. populated_whole i w) refl suits fits
  kept_change (change.Keep item on) suits book fits =
      stay (change.Keep item on) item (kept on) refl refl (record { id = λ i. refl; directory = λ i. refl; known = λ i k. k; number = λ i. inl refl }) (λ i. refl)
      (λ i e w. kept_whole on i w) refl suits fits
