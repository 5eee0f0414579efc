-- The changes of plans suit the volume that they were made for.
use Rattle.std.proofs.Common.{◌≡◌, ◌≤◌, ◌<◌, ◌+◌, ◌++◌, Bool, true, false, cond, not, List, [], ◌∷◌, refl, sym, ◌∙◌, subst, ℕ, length, arith, eqb}
use Rattle.std.proofs.lemmas.Bool.{eqb-true, ltb-false}
use Rattle.std.specs.Prelude.{Result, Ok, Err, Option, Some, None, is_some, nat_lt, ◌==◌, ◌&&◌}
use Rattle.std.specs.List.{list_all}
use Rattle.cf_base.specs.declared.changes.Change.{Change}
use Rattle.cf_base.specs.declared.changes.Change.TheVariants as change
use Rattle.cf_base.specs.declared.codes.Code.{Code}
use Rattle.cf_base.specs.declared.codes.Code.TheVariants as code
use Rattle.cf_base.specs.declared.ids.ItemId.{ItemId}
use Rattle.cf_filter_calls.specs.Planned.{PlansSuit, by_convert, by_unmark}
use Rattle.cf_model.specs.Dehydration.{in_use}
use Rattle.cf_base.specs.declared.answers.Shown.{Shown}
use Rattle.cf_base.specs.declared.codes.CallError.{CallError}
use Rattle.cf_base.specs.declared.items.Pin.{Pin}
use Rattle.cf_base.specs.declared.items.Pin.TheVariants as pin
use Rattle.cf_base.specs.declared.items.Reach.{Reach}
use Rattle.cf_model.specs.Calls.{change_all, pin_item, pins_at}
use Rattle.cf_model.specs.Changes.{put_change}
use Rattle.cf_model.specs.Effects.{changed, pinned}
use Rattle.cf_model.specs.Items.{Item, base_of, is_all_here, item_of, pin_of}
use Rattle.cf_model.specs.Trees.{Does}
use Rattle.cf_model.specs.Numbers.{no_usn}
use Rattle.cf_model.specs.Placements.{revert_plan, update_plan}
use Rattle.cf_model.specs.Plans.{pin_changes, plan, plan_pin, plan_update, planned, reached, same_pin, stored_pin}
use Rattle.cf_model.specs.Soundness.{Each}
use Rattle.cf_model.specs.State.{Filter, Volume}
use Rattle.cf_model.specs.Verdicts.{is_kept_full}
use Rattle.cf_model.specs.Words.{first_of, same, when}
use Rattle.cf_filter_steps.specs.Answering.{After, Answers, IsAt, Sense}
use Rattle.cf_filter_steps.specs.Finding.{HasRows}
use Rattle.cf_filter_steps.specs.Good.{Every, IsGood, IsSmall}
use Rattle.cf_filter_steps.specs.Suiting.{Suiting, Suits, SuitsAll}
use Rattle.cf_table.specs.Reading.{IsStored}
use Rattle.cf_table.specs.Tables.{MeansAll, Table}
use Rattle.cf_filter_steps.proofs.LookUps.{of_found}
use Rattle.cf_tree.specs.Trees.{IsTree, RiseFrom}
use Rattle.cf_tree.proofs.Walks.{own_id}

-- lists of items

above_not : (low : ℕ) (P : Item → Type 0) (id : ItemId) (items : List Item) → RiseFrom low items → id.0 < low → Each id P items
above_not low P id [] r h = record {}
above_not low P id (x ∷ xs) r h = ((λ e. absurd (omega (arith, eqb-true x.id.0 id.0 e, h, r.0))), above_not (x.id.0 + 1) P id xs r.1 (omega (arith, h, r.0)))

-- what holds of the item holds of each with its id
pub each_at : (low : ℕ) (P : Item → Type 0) (id : ItemId) (items : List Item) (i : Item) → RiseFrom low items → item_of items id ≡ Some i → P i → Each id P items
each_at low P id [] i r e h = record {}
each_at low P id (x ∷ xs) i r e h = two (eqb x.id.0 id.0) refl e (λ k. each_at (x.id.0 + 1) P id xs i r.1 k h) where
  two : (b : Bool) → eqb x.id.0 id.0 ≡ b → cond b (Some x) (item_of xs id) ≡ Some i → (item_of xs id ≡ Some i → Each id P xs) → Each id P (x ∷ xs)
  two true q k rest = let same : i ≡ x = cc in ((λ z. subst P same h), above_not (x.id.0 + 1) P id xs r.1 (omega (arith, eqb-true x.id.0 id.0 q)))
  two false q k rest = ((λ z. let w : true ≡ false = sym z ∙ q in cc), rest k)

-- plans

pub plan_ok : (tests : List (Bool × Code)) (cs ds : List Change) → plan tests cs ≡ Ok ds → (first_of tests ≡ None) × (cs ≡ ds)
plan_ok tests cs ds e = two (first_of tests) e where
  two : (o : Option Code) → planned o cs ≡ Ok ds → (o ≡ None) × (cs ≡ ds)
  two None e = let z : cs ≡ ds = cc in (refl, z)
  two (Some c) e = let z : ◌≡◌ {A = Result (List Change) Code} (Err c) (Ok ds) = e in absurd cc

pub first_none : (b : Bool) (c : Code) (ts : List (Bool × Code)) → first_of ((b, c) ∷ ts) ≡ None → (b ≡ false) × (first_of ts ≡ None)
first_none true c ts e = let z : ◌≡◌ {A = Option Code} (Some c) None = e in absurd cc
first_none false c ts e = (refl, e)

one_change : (c : Change) (v : Volume) (cs : List Change) → Suits c v → c ∷ [] ≡ cs → SuitsAll cs v
one_change c v cs h e = subst (λ (ds : List Change). SuitsAll ds v) e (h, record {})

pub small_at : (s : Filter) (id : ItemId) (i : Item) → IsGood s → IsAt id i s → IsSmall i
small_at s id i good at = of_found IsSmall (λ j. j.id.0 == id.0) s.volume.items i good.volume.small at

-- what the item has, each of its id has
pub needs_at : (s : Filter) (id : ItemId) (i : Item) (P : Item → Type 0) → IsGood s → IsAt id i s → P i → Each i.id P s.volume.items
needs_at s id i P good at h = each_at 1 P i.id s.volume.items i good.volume.tree.order (subst (λ (k : ItemId). item_of s.volume.items k ≡ Some i) (own_id s.volume.items id i at) at) h

pub not_false : (b : Bool) → not b ≡ false → b ≡ true
not_false true e = refl
not_false false e = let z : true ≡ false = e in cc

-- what is no directory without entries has its entries, if it is one
listed_by : (directory populated : Bool) → (directory && not populated) ≡ false → directory ≡ true → populated ≡ true
listed_by true true e d = refl
listed_by true false e d = let z : true ≡ false = e in cc
listed_by false populated e d = let z : false ≡ true = d in cc

pub convert_suits : (id : ItemId) (identity : List ℕ) → PlansSuit id (by_convert identity)
convert_suits id identity = record {
  suits = λ s i cs good at e.
      let p = plan_ok ((i.placeholder, code.AlreadyPlaceholder) ∷ (nat_lt 4096 (length identity), code.IdentityTooLong) ∷ []) (change.Convert i.id identity ∷ []) cs e in
      let a = first_none i.placeholder code.AlreadyPlaceholder ((nat_lt 4096 (length identity), code.IdentityTooLong) ∷ []) p.0 in
      let b = first_none (nat_lt 4096 (length identity)) code.IdentityTooLong [] a.1 in
      let short : length identity ≤ 4096 = ltb-false 4096 (length identity) b.0 in
      one_change (change.Convert i.id identity) s.volume cs (record { fits = λ k d h q. omega (arith, short); needs = record {}; plants = record {}; lasts = short }) p.1;
}

pub revert_suits : (id : ItemId) → PlansSuit id revert_plan
revert_suits id = record {
  suits = λ s i cs good at e.
      let p = plan_ok ((not i.placeholder, code.NotPlaceholder) ∷ (i.directory && not i.populated, code.NotPopulated) ∷ (not (is_all_here i), code.NotHydrated) ∷ (in_use i.id s, code.InUse) ∷ []) (change.Revert i.id ∷ []) cs e in
      let a = first_none (not i.placeholder) code.NotPlaceholder ((i.directory && not i.populated, code.NotPopulated) ∷ (not (is_all_here i), code.NotHydrated) ∷ (in_use i.id s, code.InUse) ∷ []) p.0 in
      let b = first_none (i.directory && not i.populated) code.NotPopulated ((not (is_all_here i), code.NotHydrated) ∷ (in_use i.id s, code.InUse) ∷ []) a.1 in
      let d = first_none (not (is_all_here i)) code.NotHydrated ((in_use i.id s, code.InUse) ∷ []) b.1 in
      one_change (change.Revert i.id) s.volume cs (record {
        fits = λ k d h q. record {};
        needs = record {};
        plants = record {};
        lasts = needs_at s id i (λ j. (list_all is_some j.held ≡ true) × (j.directory ≡ true → j.populated ≡ true)) good at (not_false (is_all_here i) d.0, listed_by i.directory i.populated b.0);
      }) p.1;
}

-- changes only where the test holds
when_suits : (b : Bool) (c : Change) (v : Volume) (cs : List Change) → Suits c v → when b (c ∷ []) ≡ cs → SuitsAll cs v
when_suits true c v cs h e = one_change c v cs h e
when_suits false c v cs h e = subst (λ (ds : List Change). SuitsAll ds v) e (record {})

rebase_suits : (id : ItemId) (identity : List ℕ) (s : Filter) (i : Item) → IsGood s → IsAt id i s → i.placeholder ≡ true → length identity ≤ 4096 → Suits (change.Rebase i.id identity (base_of i) no_usn) s.volume
rebase_suits id identity s i good at placed short = record {
  fits = λ k d h q. (omega (arith, short), (small_at s id i good at).base, refl);
  needs = needs_at s id i (λ j. (j.placeholder ≡ true) × (true ≡ false → base_of i ≡ length j.held)) good at (placed, λ z. let y : true ≡ false = z in cc);
  plants = record {};
  lasts = short;
}

take_suits : (id : ItemId) (identity : List ℕ) (size : ℕ) (s : Filter) (i : Item) → IsGood s → IsAt id i s → i.placeholder ≡ true → i.directory ≡ false → length identity ≤ 4096 → size ≤ 16777216
    → Suits (change.Take i.id identity size) s.volume
take_suits id identity size s i good at placed file short small = record {
  fits = λ k d h q. (omega (arith, short), small);
  needs = needs_at s id i (λ j. (j.placeholder ≡ true) × (j.directory ≡ false)) good at (placed, file);
  plants = record {};
  lasts = short;
}

update_none : (id : ItemId) (identity : List ℕ) (s : Filter) (i : Item) (cs : List Change) → IsGood s → IsAt id i s → plan_update s.policy i identity None (in_use i.id s) ≡ Ok cs → SuitsAll cs s.volume
update_none id identity s i cs good at e =
    let p = plan_ok ((not i.placeholder, code.NotPlaceholder) ∷ (nat_lt 4096 (length identity), code.IdentityTooLong) ∷ []) (when (not (same i.identity identity)) (change.Rebase i.id identity (base_of i) no_usn ∷ [])) cs e in
    let a = first_none (not i.placeholder) code.NotPlaceholder ((nat_lt 4096 (length identity), code.IdentityTooLong) ∷ []) p.0 in
    let b = first_none (nat_lt 4096 (length identity)) code.IdentityTooLong [] a.1 in
    when_suits (not (same i.identity identity)) (change.Rebase i.id identity (base_of i) no_usn) s.volume cs
    (rebase_suits id identity s i good at (not_false i.placeholder a.0) (ltb-false 4096 (length identity) b.0)) p.1

update_some : (id : ItemId) (identity : List ℕ) (size : ℕ) (s : Filter) (i : Item) (cs : List Change) → IsGood s → IsAt id i s → plan_update s.policy i identity (Some size) (in_use i.id s) ≡ Ok cs → SuitsAll cs s.volume
update_some id identity size s i cs good at e =
    let t7 : List (Bool × Code) = (nat_lt 16777216 size, code.TooLarge) ∷ [] in
    let t6 : List (Bool × Code) = (in_use i.id s, code.InUse) ∷ t7 in
    let t5 : List (Bool × Code) = (not i.in_sync, code.NotInSync) ∷ t6 in
    let t4 : List (Bool × Code) = (is_kept_full s.policy i, code.PolicyDenied) ∷ t5 in
    let t3 : List (Bool × Code) = (nat_lt 4096 (length identity), code.IdentityTooLong) ∷ t4 in
    let t2 : List (Bool × Code) = (not i.placeholder, code.NotPlaceholder) ∷ t3 in
    let p = plan_ok ((i.directory, code.IsDirectory) ∷ t2) (change.Take i.id identity size ∷ []) cs e in
    let a = first_none i.directory code.IsDirectory t2 p.0 in
    let b = first_none (not i.placeholder) code.NotPlaceholder t3 a.1 in
    let d = first_none (nat_lt 4096 (length identity)) code.IdentityTooLong t4 b.1 in
    let f = first_none (is_kept_full s.policy i) code.PolicyDenied t5 d.1 in
    let g = first_none (not i.in_sync) code.NotInSync t6 f.1 in
    let h = first_none (in_use i.id s) code.InUse t7 g.1 in
    let k = first_none (nat_lt 16777216 size) code.TooLarge [] h.1 in
    one_change (change.Take i.id identity size) s.volume cs
    (take_suits id identity size s i good at (not_false i.placeholder b.0) a.0 (ltb-false 4096 (length identity) d.0) (ltb-false 16777216 size k.0)) p.1

pub update_suits : (id : ItemId) (identity : List ℕ) (size : Option ℕ) → PlansSuit id (update_plan identity size)
update_suits id identity None = record { suits = λ s i cs good at e. update_none id identity s i cs good at e }
update_suits id identity (Some size) = record { suits = λ s i cs good at e. update_some id identity size s i cs good at e }

pub unmark_suits : (id : ItemId) → PlansSuit id by_unmark
unmark_suits id = record {
  suits = λ s i cs good at e.
      let p = plan_ok ((not i.placeholder, code.NotPlaceholder) ∷ []) (when i.in_sync (change.Clear i.id ∷ [])) cs e in
      when_suits i.in_sync (change.Clear i.id) s.volume cs (record { fits = λ k d h q. record {}; needs = record {}; plants = record {}; lasts = record {} }) p.1;
}

-- pins

set_suits : (item : ItemId) (state : Pin) (v : Volume) → IsStored state → Suits (change.SetPin item state) v
set_suits item state v h = record { fits = λ k d h q. record {}; needs = record {}; plants = record {}; lasts = h }

-- what is stored is a stored pin
parent_stored : (items : List Item) (id : ItemId) → Every (λ j. IsStored j.pin) items → IsStored (pin_of items id)
parent_stored [] id h = record {}
parent_stored (x ∷ xs) id h = one (x.id.0 == id.0) (parent_stored xs id h.1) where
  one : (b : Bool) → IsStored (pin_of xs id) → IsStored (cond b x.pin (pin_of xs id))
  one true rest = h.0
  one false rest = rest

stored_by : (asked : Pin) (items : List Item) (i : Item) → Every (λ j. IsStored j.pin) items → IsStored (stored_pin asked items i)
stored_by pin.Unspecified items i h = record {}
stored_by pin.Pinned items i h = record {}
stored_by pin.Unpinned items i h = record {}
stored_by pin.Excluded items i h = record {}
stored_by pin.Inherit items i h = parent_stored items i.parent h

pinned_stored : (id : ItemId) (state : Pin) (items : List Item) → IsStored state → Every (λ j. IsStored j.pin) items → Every (λ j. IsStored j.pin) (changed id (pinned state) items)
pinned_stored id state [] q h = record {}
pinned_stored id state (x ∷ xs) q h = (one (x.id.0 == id.0), pinned_stored id state xs q h.1) where
  one : (b : Bool) → IsStored (cond b (pinned state x) x).pin
  one true = q
  one false = h.0

pins_suit : (asked : Pin) (items is : List Item) (v : Volume) → Every (λ j. IsStored j.pin) items → SuitsAll (pin_changes asked items is) v
pins_suit asked items [] v h = record {}
pins_suit asked items (i ∷ is) v h = one (not (same_pin (stored_pin asked items i) i.pin)) (λ w. pins_suit asked (changed i.id (pinned (stored_pin asked items i)) items) is w (pinned_stored i.id (stored_pin asked items i) items (stored_by asked items i h) h)) where
  one : (b : Bool) → ((w : Volume) → SuitsAll (pin_changes asked (changed i.id (pinned (stored_pin asked items i)) items) is) w)
      → SuitsAll (when b (change.SetPin i.id (stored_pin asked items i) ∷ []) ++ pin_changes asked (changed i.id (pinned (stored_pin asked items i)) items) is) v
  one true rest = (set_suits i.id (stored_pin asked items i) v (stored_by asked items i h), rest (put_change (change.SetPin i.id (stored_pin asked items i)) v))
  one false rest = rest v

pub plan_pin_suits : (items : List Item) (i : Item) (asked : Pin) (reach : Reach) (v : Volume) → Every (λ j. IsStored j.pin) items → SuitsAll (plan_pin items i asked reach) v
plan_pin_suits items i asked reach v h = pins_suit asked items (reached items i reach) v h

pub pins_made : {X : Type 0} (S : Sense X) (x new : X) (t : Table) (id : ItemId) (asked : Pin) (reach : Reach) (cs ds : List Change) (r : Result Shown CallError)
    → HasRows S x t → ((items : List Item) (i : Item) → MeansAll t.rows items → IsTree items → item_of items id ≡ Some i → cs ≡ plan_pin items i asked reach)
    → ds ≡ cs → Answers S (Suiting ds) (change_all ds) x r new → (i : Item) → Answers S (IsAt id i) (pin_item asked reach i) x r new
pins_made S x new t id asked reach cs ds r rows plan same a i = record {
  leads = λ s h at.
      let e : ds ≡ pins_at i asked reach s = same ∙ plan s.volume.items i (rows.rows s h) (S.good x s h).volume.tree at in
      subst (λ (l : List Change). (t : Filter) × Does (change_all l s) r t × S.moved x new s t × After S x r new t) e
      (a.leads s h (subst (λ (l : List Change). SuitsAll l s.volume) (sym e) (plan_pin_suits s.volume.items i asked reach s.volume (S.good x s h).volume.pins)));
}
