-- The changes of a plan keep a tree in turn.
use Rattle.std.proofs.Common.{◌≡◌, ℕ, ◌<◌, Bool, true, false, cond, not, List, [], ◌∷◌, ◌++◌, length, refl, subst, Some, None, Option, Ok, Err, Result}
use Rattle.std.specs.Prelude.{All, is_some, nat_lt, ◌&&◌}
use Rattle.cf_base.specs.Policies.{is_always_full}
use Rattle.cf_base.specs.declared.changes.Change.{Change}
use Rattle.cf_base.specs.declared.changes.Change.TheVariants as change
use Rattle.cf_base.specs.declared.codes.Code.{Code}
use Rattle.cf_base.specs.declared.codes.Code.TheVariants as code
use Rattle.cf_base.specs.declared.ids.ItemId.{ItemId}
use Rattle.cf_base.specs.declared.ids.Usn.{Usn}
use Rattle.cf_base.specs.declared.items.Kind.{Kind}
use Rattle.cf_base.specs.declared.items.Kind.TheVariants as kind
use Rattle.cf_base.specs.declared.items.Pin.{Pin}
use Rattle.cf_base.specs.declared.items.Reach.{Reach}
use Rattle.cf_base.specs.declared.policies.Policy.{Policy}
use Rattle.cf_model.specs.Effects.{changed, effect, made, pinned}
use Rattle.cf_model.specs.Items.{Item, base_of, pin_of}
use Rattle.cf_model.specs.LookUp.{child_of}
use Rattle.cf_model.specs.Numbers.{no_usn}
use Rattle.cf_model.specs.Plans.{Creation, NewDir, NewFile, NewPlaceholder, NewPlaceholderDir, make_and_mark, pin_changes, placeholder_dir, plan_convert, plan_create, plan_keep, plan_mark, plan_pin, plan_revert, plan_unmark, plan_update, planned, reached, same_pin, stored_pin}
use Rattle.cf_model.specs.Words.{first_of, same, when}
use Rattle.cf_tree.specs.Trees.{MayHold, IsTree, KeepTrees, MayCome, keeps_places}
use Rattle.cf_tree.proofs.TreesGrow.{grown}
use Rattle.cf_tree.proofs.TreesStay.{effect_stays}

-- a plan that is made has the changes, and none of its tests holds

record Planned (t : Option Code) (cs ds : List Change) : Type 0 where
  pub none : t ≡ None
  pub is : cs ≡ ds

passes : (t : Option Code) (cs ds : List Change) → planned t cs ≡ Ok ds → Planned t cs ds
passes None cs ds e = record { none = refl; is = cc }
passes (Some c) cs ds e = let z : ◌≡◌ {A = Result (List Change) Code} (Err c) (Ok ds) = e in absurd cc

-- changes that leave each item its place

abbrev StayPut : List Change → Type 0
StayPut [] = Unit {0}
StayPut (c ∷ cs) = (keeps_places c ≡ true) × StayPut cs

stay : (cs : List Change) (items : List Item) → IsTree items → StayPut cs → KeepTrees cs items
stay [] items t s = tt
stay (c ∷ cs) items t s = λ n. (effect_stays items c n s.0 t, stay cs (effect items c n) (effect_stays items c n s.0 t) s.1)

maybe_one : (b : Bool) (c : Change) → keeps_places c ≡ true → StayPut (when b (c ∷ []))
maybe_one true c k = (k, tt)
maybe_one false c k = tt

stays_by : (t : Option Code) (cs ds : List Change) (items : List Item) → IsTree items → StayPut cs → planned t cs ≡ Ok ds → KeepTrees ds items
stays_by t cs ds items tree s e = subst (λ l. KeepTrees l items) (passes t cs ds e).is (stay cs items tree s)

pub convert_keeps : (items : List Item) (i : Item) (identity : List ℕ) (cs : List Change) → IsTree items → plan_convert i identity ≡ Ok cs → KeepTrees cs items
convert_keeps items i identity cs t e = stays_by _ (change.Convert i.id identity ∷ []) cs items t (refl, tt) e

pub revert_keeps : (items : List Item) (i : Item) (in_use : Bool) (cs : List Change) → IsTree items → plan_revert i in_use ≡ Ok cs → KeepTrees cs items
revert_keeps items i in_use cs t e = stays_by _ (change.Revert i.id ∷ []) cs items t (refl, tt) e

pub update_keeps : (items : List Item) (p : Policy) (i : Item) (identity : List ℕ) (size : Option ℕ) (in_use : Bool) (cs : List Change) → IsTree items → plan_update p i identity size in_use ≡ Ok cs → KeepTrees cs items
update_keeps items p i identity None in_use cs t e =
    stays_by _ (when (not (same i.identity identity)) (change.Rebase i.id identity (base_of i) no_usn ∷ [])) cs items t (maybe_one (not (same i.identity identity)) (change.Rebase i.id identity (base_of i) no_usn) refl) e
update_keeps items p i identity (Some size) in_use cs t e = stays_by _ (change.Take i.id identity size ∷ []) cs items t (refl, tt) e

pub mark_keeps : (items : List Item) (i : Item) (n : Usn) (cs : List Change) → IsTree items → plan_mark i n ≡ Ok cs → KeepTrees cs items
mark_keeps items i n cs t e = stays_by _ (when (not i.in_sync) (change.Mark i.id i.number ∷ [])) cs items t (maybe_one (not i.in_sync) (change.Mark i.id i.number) refl) e

pub unmark_keeps : (items : List Item) (i : Item) (cs : List Change) → IsTree items → plan_unmark i ≡ Ok cs → KeepTrees cs items
unmark_keeps items i cs t e = stays_by _ (when i.in_sync (change.Clear i.id ∷ [])) cs items t (maybe_one i.in_sync (change.Clear i.id) refl) e

pub keep_keeps : (items : List Item) (i : Item) (on : Bool) (cs : List Change) → IsTree items → plan_keep i on ≡ Ok cs → KeepTrees cs items
keep_keeps items i on cs t e =
    stays_by _ (when (not (cond on i.keep (not i.keep))) (change.Keep i.id on ∷ [])) cs items t (maybe_one (not (cond on i.keep (not i.keep))) (change.Keep i.id on) refl) e

-- pins

one_more : (b : Bool) (c : Change) (cs : List Change) → keeps_places c ≡ true → StayPut cs → StayPut (when b (c ∷ []) ++ cs)
one_more true c cs k s = (k, s)
one_more false c cs k s = s

pins_stay : (asked : Pin) (items list : List Item) → StayPut (pin_changes asked items list)
pins_stay asked items [] = tt
pins_stay asked items (i ∷ is) =
    one_more (not (same_pin (stored_pin asked items i) i.pin)) (change.SetPin i.id (stored_pin asked items i)) (pin_changes asked (changed i.id (pinned (stored_pin asked items i)) items) is) refl
    (pins_stay asked (changed i.id (pinned (stored_pin asked items i)) items) is)

pub pin_keeps : (items : List Item) (i : Item) (asked : Pin) (reach : Reach) → IsTree items → KeepTrees (plan_pin items i asked reach) items
pin_keeps items i asked reach t = stay (plan_pin items i asked reach) items t (pins_stay asked items (reached items i reach))

-- a new item

free_name : (o : Option Item) (ts : List (Bool × Code)) → first_of ((is_some o, code.Exists) ∷ ts) ≡ None → o ≡ None
free_name None ts e = refl
free_name (Some i) ts e = let z : ◌≡◌ {A = Option Code} (Some code.Exists) None = e in absurd cc

made_keeps : (items : List Item) (item : ItemId) (next : Usn) (parent : ItemId) (name : List ℕ) (kind : Kind) (size : ℕ) (identity : List ℕ) (mark : Bool) → IsTree items → MayCome items item parent name →
    KeepTrees (make_and_mark item next parent name kind size identity mark) items
made_keeps items item next parent name kind size identity mark t may = λ n.
    let tree = grown items (made item parent name kind size identity (pin_of items parent) n) t may in (
      tree,
      stay (when mark (change.Mark item next ∷ [])) (effect items (change.Make item parent name kind size identity) n) tree (maybe_one mark (change.Mark item next) refl),
    )

new_keeps : (items : List Item) (item : ItemId) (next : Usn) (parent : ItemId) (name : List ℕ) (kind : Kind) (size : ℕ) (identity : List ℕ) (mark : Bool) (ts : List (Bool × Code)) (cs : List Change) → IsTree items → All (λ i. i.id.0 < item.0) items → MayHold items parent →
    planned (first_of ((is_some (child_of items parent name), code.Exists) ∷ ts)) (make_and_mark item next parent name kind size identity mark) ≡ Ok cs → KeepTrees cs items
new_keeps items item next parent name kind size identity mark ts cs t last room e =
    let p = passes _ (make_and_mark item next parent name kind size identity mark) cs e in
    subst (λ l. KeepTrees l items) p.is (made_keeps items item next parent name kind size identity mark t (record { last = last; room = room; free = free_name (child_of items parent name) ts p.none }))

pub create_keeps : (items : List Item) (p : Policy) (item : ItemId) (next : Usn) (parent : ItemId) (name : List ℕ) (what : Creation) (cs : List Change) → IsTree items → All (λ i. i.id.0 < item.0) items → MayHold items parent → plan_create items p item next parent name what ≡ Ok cs →
    KeepTrees cs items
create_keeps items p item next parent name NewFile cs t last room e = new_keeps items item next parent name kind.File 0 [] false [] cs t last room e
create_keeps items p item next parent name NewDir cs t last room e = new_keeps items item next parent name kind.Dir 0 [] false [] cs t last room e
create_keeps items p item next parent name (NewPlaceholder size identity mark) cs t last room e =
    new_keeps items item next parent name kind.PlaceholderFile size identity mark ((nat_lt 4096 (length identity), code.IdentityTooLong) ∷ (nat_lt 16777216 size, code.TooLarge) ∷ (is_always_full p.hydration && nat_lt 0 size, code.PolicyDenied) ∷ []) cs t last room e
create_keeps items p item next parent name (NewPlaceholderDir identity mark) cs t last room e =
    new_keeps items item next parent name (placeholder_dir p) 0 identity mark ((nat_lt 4096 (length identity), code.IdentityTooLong) ∷ []) cs t last room e
