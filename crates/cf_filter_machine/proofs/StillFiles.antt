-- A file stays a file by a change that suits.
use Rattle.std.proofs.Common.{◌≡◌, Bool, true, false, cond, eqb, List, [], ◌∷◌, ◌++◌, Option, Some, refl, sym, ◌∙◌, subst}
use Rattle.std.specs.Prelude.{MatchOption, ◌==◌}
use Rattle.cf_base.specs.declared.changes.Change.{Change}
use Rattle.cf_base.specs.declared.changes.Change.TheVariants as change
use Rattle.cf_base.specs.declared.ids.ItemId.{ItemId}
use Rattle.cf_base.specs.declared.ids.Usn.{Usn}
use Rattle.cf_base.specs.declared.waits.WaitKind.{WaitKind}
use Rattle.cf_base.specs.declared.waits.WaitKind.TheVariants as wait_kind
use Rattle.cf_filter_machine.proofs.PlacesKept.{every_weaker}
use Rattle.cf_model.specs.Effects.{changed, converted, copies, effect, got, kept, left_out, made, marked, moved, pinned, populated, rebased, reverted, sized, took, unmarked, validated_in, wrote}
use Rattle.cf_model.specs.Items.{Item, item_of, pin_of}
use Rattle.cf_model.specs.Missing.{Wait}
use Rattle.cf_model.specs.State.{Open}
use Rattle.cf_filter_steps.specs.Good.{Every, IsFileIn, IsOnFile}
use Rattle.cf_filter_steps.specs.Suiting.{Plants}
use Rattle.cf_tree.proofs.Depths.{some_of}
use Rattle.cf_tree.proofs.FoundLater.{find_before, one_changed}

file_of : (items : List Item) (id : ItemId) (i : Item) → item_of items id ≡ Some i → i.directory ≡ false → IsFileIn items id
file_of items id i e d = subst (λ (o : Option Item). MatchOption o ⊥ (λ j. j.directory ≡ false)) (sym e) d

pub in_place : (items : List Item) (key : ItemId) (f : Item → Item) (id : ItemId) → ((i : Item) → (f i).id ≡ i.id) → ((i : Item) → (f i).directory ≡ i.directory) → IsFileIn items id → IsFileIn (changed key f items) id
in_place items key f id own side file =
    let i = some_of (item_of items id) (λ j. j.directory ≡ false) file in
    file_of (changed key f items) id (cond (eqb i.0.id.0 key.0) (f i.0) i.0) (one_changed key id f own items i.0 i.1) (by (eqb i.0.id.0 key.0) i.0 i.2)
  where
    by : (t : Bool) (i : Item) → i.directory ≡ false → (cond t (f i) i).directory ≡ false
    by true i d = side i ∙ d
    by false i d = d

pub with_more : (items more : List Item) (id : ItemId) → IsFileIn items id → IsFileIn (items ++ more) id
with_more items more id file =
    let i = some_of (item_of items id) (λ j. j.directory ≡ false) file in
    file_of (items ++ more) id i.0 (find_before (λ j. j.id.0 == id.0) items more i.0 i.1) i.2

pub still_file : (items : List Item) (next : ItemId) (c : Change) (n : Usn) (id : ItemId) → Plants c items next → IsFileIn items id → IsFileIn (effect items c n) id
still_file items next (change.Make item parent name kind size identity) n id p h = with_more items (made item parent name kind size identity (pin_of items parent) n ∷ []) id h
still_file items next (change.Remove item) n id p h = absurd p
still_file items next (change.Move item parent name) n id p h = in_place items item (moved parent name (pin_of items parent) n) id (λ i. refl) (λ i. refl) h
still_file items next (change.Write item at bytes) n id p h = in_place items item (wrote at bytes n) id (λ i. refl) (λ i. refl) h
still_file items next (change.Size item size) n id p h = in_place items item (sized size n) id (λ i. refl) (λ i. refl) h
still_file items next (change.Filled item start bytes) n id p h = in_place items item (got start bytes) id (λ i. refl) (λ i. refl) h
still_file items next (change.Validated item start len) n id p h = in_place items item (validated_in start len) id (λ i. refl) (λ i. refl) h
still_file items next (change.Emptied item start len) n id p h = in_place items item (left_out start len) id (λ i. refl) (λ i. refl) h
still_file items next (change.SetPin item pin) n id p h = in_place items item (pinned pin) id (λ i. refl) (λ i. refl) h
still_file items next (change.Mark item number) n id p h = in_place items item marked id (λ i. refl) (λ i. refl) h
still_file items next (change.Clear item) n id p h = in_place items item unmarked id (λ i. refl) (λ i. refl) h
still_file items next (change.Convert item identity) n id p h = in_place items item (converted identity n) id (λ i. refl) (λ i. refl) h
still_file items next (change.Revert item) n id p h = in_place items item (reverted n) id (λ i. refl) (λ i. refl) h
still_file items next (change.Rebase item identity len at) n id p h = in_place items item (rebased identity len at) id (λ i. refl) (λ i. refl) h
still_file items next (change.Take item identity size) n id p h = in_place items item (took identity size n) id (λ i. refl) (λ i. refl) h
still_file items next (change.Copy item from parent name) n id p h = with_more items (copies item parent name (pin_of items parent) n (item_of items from)) id h
still_file items next (change.Populated item) n id p h = in_place items item populated id (λ i. refl) (λ i. refl) h
still_file items next (change.Keep item on) n id p h = in_place items item (kept on) id (λ i. refl) (λ i. refl) h

-- what reads stays on a file
pub still_read : (kind : WaitKind) (items later : List Item) (id : ItemId) → (IsFileIn items id → IsFileIn later id) → IsOnFile kind items id → IsOnFile kind later id
still_read wait_kind.Read items later id f h = f h
still_read wait_kind.Hydrate items later id f h = h
still_read wait_kind.Background items later id f h = h
still_read wait_kind.List items later id f h = h
still_read wait_kind.Dehydrate items later id f h = h

pub still_reads : (items later : List Item) → ((id : ItemId) → IsFileIn items id → IsFileIn later id) → (ws : List Wait) → Every (λ w. IsOnFile w.kind items w.item) ws → Every (λ w. IsOnFile w.kind later w.item) ws
still_reads items later f ws h = every_weaker (λ (w : Wait). IsOnFile w.kind items w.item) (λ (w : Wait). IsOnFile w.kind later w.item) (λ w k. still_read w.kind items later w.item (f w.item) k) ws h

pub still_opened : (items later : List Item) → ((id : ItemId) → IsFileIn items id → IsFileIn later id) → (os : List Open) → Every (λ o. IsFileIn items o.item) os → Every (λ o. IsFileIn later o.item) os
still_opened items later f os h = every_weaker (λ (o : Open). IsFileIn items o.item) (λ (o : Open). IsFileIn later o.item) (λ o k. f o.item k) os h
