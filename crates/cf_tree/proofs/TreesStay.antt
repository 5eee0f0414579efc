-- A tree whose items keep their places is a tree.
use Rattle.std.proofs.Common.{◌≡◌, ℕ, zero, suc, ◌+◌, Bool, true, false, cond, List, [], ◌∷◌, refl, sym, ap, subst, ◌∙◌, arith, eqb, Some, None, Option}
use Rattle.std.specs.Prelude.{MatchOption, find, ◌&&◌}
use Rattle.cf_base.specs.declared.changes.Change.{Change}
use Rattle.cf_base.specs.declared.changes.Change.TheVariants as change
use Rattle.cf_base.specs.declared.ids.ItemId.{ItemId}
use Rattle.cf_base.specs.declared.ids.Usn.{Usn}
use Rattle.cf_model.specs.Effects.{changed, converted, effect, got, kept, left_out, marked, pinned, populated, rebased, reverted, sized, took, unmarked, validated_in, wrote}
use Rattle.cf_model.specs.Items.{Item, item_of}
use Rattle.cf_model.specs.LookUp.{child_of, is_child_named}
use Rattle.cf_model.specs.Words.{same}
use Rattle.cf_tree.specs.Trees.{BeginWithRoot, IsTree, IsUnder, RiseFrom, Stands, keeps_places}
use Rattle.cf_tree.proofs.Depths.{only, some_of}
use Rattle.cf_tree.proofs.Walks.{by_own_id, own_id}

pub record AsBefore (i j : Item) : Type 0 where
  pub id : j.id ≡ i.id
  pub parent : j.parent ≡ i.parent
  pub name : j.name ≡ i.name
  pub directory : j.directory ≡ i.directory

abbrev AllAsBefore : List Item → List Item → Type 0
AllAsBefore [] [] = Unit {0}
AllAsBefore [] (j ∷ js) = ⊥
AllAsBefore (i ∷ is) [] = ⊥
AllAsBefore (i ∷ is) (j ∷ js) = AsBefore i j × AllAsBefore is js

own_place : (i : Item) → AsBefore i i
own_place i = record { id = refl; parent = refl; name = refl; directory = refl }

changed_places : (key : ItemId) (f : Item → Item) → ((i : Item) → AsBefore i (f i)) → (items : List Item) → AllAsBefore items (changed key f items)
changed_places key f h [] = tt
changed_places key f h (i ∷ is) = (two (eqb i.id.0 key.0), changed_places key f h is) where
  two : (b : Bool) → AsBefore i (cond b (f i) i)
  two true = h i
  two false = own_place i

abbrev BothOrNone : Option Item → Option Item → Type 0
BothOrNone None None = Unit {0}
BothOrNone None (Some j) = ⊥
BothOrNone (Some i) None = ⊥
BothOrNone (Some i) (Some j) = AsBefore i j

found_as : (f : Item → Bool) → ((i j : Item) → AsBefore i j → f i ≡ f j) → (items later : List Item) → AllAsBefore items later → BothOrNone (find f items) (find f later)
found_as f same [] [] h = tt
found_as f same [] (j ∷ js) h = absurd h
found_as f same (i ∷ is) [] h = absurd h
found_as f same (i ∷ is) (j ∷ js) h = two (f i) (f j) (same i j h.0) (found_as f same is js h.1) where
  two : (b c : Bool) → b ≡ c → BothOrNone (find f is) (find f js) → BothOrNone (cond b (Some i) (find f is)) (cond c (Some j) (find f js))
  two true true e rest = h.0
  two true false e rest = let z : true ≡ false = e in absurd cc
  two false true e rest = let z : false ≡ true = e in absurd cc
  two false false e rest = rest

by_id_as : (items later : List Item) (id : ItemId) → AllAsBefore items later → BothOrNone (item_of items id) (item_of later id)
by_id_as items later id h = found_as (λ k. eqb k.id.0 id.0) (λ i j a. ap (λ v. eqb v.0 id.0) (sym a.id)) items later h

by_name_as : (items later : List Item) (id : ItemId) (name : List ℕ) → AllAsBefore items later → BothOrNone (child_of items id name) (child_of later id name)
by_name_as items later id name h = found_as (is_child_named id name) (λ i j a k. (eqb (sym a.parent k).0 id.0) && same (sym a.name k) name) items later h

pub record Was (items : List Item) (id : ItemId) (j : Item) : Type 0 where
  pub item : Item
  pub there : item_of items id ≡ Some item
  pub like : AsBefore item j

was : (items later : List Item) (id : ItemId) (j : Item) → AllAsBefore items later → item_of later id ≡ Some j → Was items id j
was items later id j h e = cases (item_of items id) refl (subst (λ v. BothOrNone (item_of items id) v) e (by_id_as items later id h)) where
  cases : (o : Option Item) → item_of items id ≡ o → BothOrNone o (Some j) → Was items id j
  cases None f b = absurd b
  cases (Some i) f b = record { item = i; there = f; like = b }

pub record Becomes (later : List Item) (o : Option Item) (i : Item) : Type 0 where
  pub item : Item
  pub there : o ≡ Some item
  pub like : AsBefore i item

becomes : (later : List Item) (o p : Option Item) (i : Item) → o ≡ Some i → BothOrNone o p → Becomes later p i
becomes later o None i e b = absurd (subst (λ v. BothOrNone v None) e b)
becomes later o (Some j) i e b = record { item = j; there = refl; like = subst (λ v. BothOrNone v (Some j)) e b }

under_as : (d : ℕ) (items later : List Item) (i j : Item) → AllAsBefore items later → AsBefore i j → IsUnder d items i → IsUnder d later j
under_as zero items later i j h a u = ap (λ v. v.0) a.id ∙ u
under_as (suc d) items later i j h a u =
    let p = some_of (item_of items i.parent) (λ p. (p.directory ≡ true) × IsUnder d items p) u.1 in
    let q = becomes later (item_of items i.parent) (item_of later i.parent) p.0 p.1 (by_id_as items later i.parent h) in
    let there : item_of later j.parent ≡ Some q.item = ap (λ v. item_of later v) a.parent ∙ q.there in
    (ap (λ v. eqb v.0 1) a.id ∙ u.0, subst (λ o. MatchOption o ⊥ (λ r. (r.directory ≡ true) × IsUnder d later r)) (sym there) (q.like.directory ∙ p.2.0, under_as d items later p.0 q.item h q.like p.2.1))

rise_as : (low : ℕ) (items later : List Item) → AllAsBefore items later → RiseFrom low items → RiseFrom low later
rise_as low [] [] h r = tt
rise_as low [] (j ∷ js) h r = absurd h
rise_as low (i ∷ is) [] h r = absurd h
rise_as low (i ∷ is) (j ∷ js) h r =
    let e : j.id.0 ≡ i.id.0 = ap (λ v. v.0) h.0.id in (omega (arith, r.0), rise_as (j.id.0 + 1) is js h.1 (subst (λ n. RiseFrom (n + 1) is) (sym e) r.1))

begins_as : (items later : List Item) → AllAsBefore items later → BeginWithRoot items → BeginWithRoot later
begins_as [] later h b = absurd b
begins_as (i ∷ is) [] h b = absurd h
begins_as (i ∷ is) (j ∷ js) h b = (ap (λ v. v.0) h.0.id ∙ b.0, h.0.directory ∙ b.1, ap (λ v. v.0) h.0.parent ∙ b.2)

pub stays : (items later : List Item) → AllAsBefore items later → IsTree items → IsTree later
stays items later h t = record {
  order = rise_as 1 items later h t.order;
  root = begins_as items later h t.root;
  places = λ id j e. place id j e;
} where
  place : (id : ItemId) (j : Item) → item_of later id ≡ Some j → Stands later j
  place id j e =
      let w = was items later id j h e in
      let s = t.places id w.item w.there in
      let c = becomes later (child_of items w.item.parent w.item.name) (child_of later w.item.parent w.item.name) w.item s.alone (by_name_as items later w.item.parent w.item.name h) in
      let rises : RiseFrom 1 later = rise_as 1 items later h t.order in
      let found : item_of later c.item.id ≡ Some c.item = by_own_id 1 (is_child_named w.item.parent w.item.name) later c.item rises c.there in
      let same_ids : c.item.id ≡ id = c.like.id ∙ sym (own_id items id w.item w.there) in
      let one : c.item ≡ j = only c.item j (sym found ∙ ap (λ v. item_of later v) same_ids ∙ e) in
      record {
        depth = s.depth;
        few = s.few;
        under = under_as s.depth items later w.item j h w.like s.under;
        alone = (λ k. child_of later (w.like.parent k) (w.like.name k)) ∙ c.there ∙ ap (λ v. Some v) one;
      }

pub in_place : (items : List Item) (key : ItemId) (f : Item → Item) → ((i : Item) → AsBefore i (f i)) → IsTree items → IsTree (changed key f items)
in_place items key f h t = stays items (changed key f items) (changed_places key f h items) t

pub effect_stays : (items : List Item) (c : Change) (n : Usn) → keeps_places c ≡ true → IsTree items → IsTree (effect items c n)
effect_stays items (change.Make item parent name kind size identity) n k t = let z : false ≡ true = k in absurd cc
effect_stays items (change.Remove item) n k t = let z : false ≡ true = k in absurd cc
effect_stays items (change.Move item parent name) n k t = let z : false ≡ true = k in absurd cc
effect_stays items (change.Copy item from parent name) n k t = let z : false ≡ true = k in absurd cc
effect_stays items (change.Write item at bytes) n k t = in_place items item (wrote at bytes n) (λ i. record { id = refl; parent = refl; name = refl; directory = refl }) t
effect_stays items (change.Size item size) n k t = in_place items item (sized size n) (λ i. record { id = refl; parent = refl; name = refl; directory = refl }) t
effect_stays items (change.Filled item start bytes) n k t = in_place items item (got start bytes) (λ i. record { id = refl; parent = refl; name = refl; directory = refl }) t
effect_stays items (change.Validated item start len) n k t = in_place items item (validated_in start len) (λ i. record { id = refl; parent = refl; name = refl; directory = refl }) t
effect_stays items (change.Emptied item start len) n k t = in_place items item (left_out start len) (λ i. record { id = refl; parent = refl; name = refl; directory = refl }) t
effect_stays items (change.SetPin item pin) n k t = in_place items item (pinned pin) (λ i. record { id = refl; parent = refl; name = refl; directory = refl }) t
effect_stays items (change.Mark item number) n k t = in_place items item marked (λ i. record { id = refl; parent = refl; name = refl; directory = refl }) t
effect_stays items (change.Clear item) n k t = in_place items item unmarked (λ i. record { id = refl; parent = refl; name = refl; directory = refl }) t
effect_stays items (change.Convert item identity) n k t = in_place items item (converted identity n) (λ i. record { id = refl; parent = refl; name = refl; directory = refl }) t
effect_stays items (change.Revert item) n k t = in_place items item (reverted n) (λ i. record { id = refl; parent = refl; name = refl; directory = refl }) t
effect_stays items (change.Rebase item identity len at) n k t = in_place items item (rebased identity len at) (λ i. record { id = refl; parent = refl; name = refl; directory = refl }) t
effect_stays items (change.Take item identity size) n k t = in_place items item (took identity size n) (λ i. record { id = refl; parent = refl; name = refl; directory = refl }) t
effect_stays items (change.Populated item) n k t = in_place items item populated (λ i. record { id = refl; parent = refl; name = refl; directory = refl }) t
effect_stays items (change.Keep item on) n k t = in_place items item (kept on) (λ i. record { id = refl; parent = refl; name = refl; directory = refl }) t
