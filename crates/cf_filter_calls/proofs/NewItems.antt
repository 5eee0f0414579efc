-- New items: their changes suit, and what is made is what the definitions make.
use Rattle.std.proofs.Common.{◌≡◌, ◌≤◌, ◌<◌, ◌+◌, ◌++◌, Bool, true, false, cond, List, [], ◌∷◌, refl, sym, ◌∙◌, subst, ℕ, suc, length, arith}
use Rattle.std.proofs.lemmas.Bool.{and_parts, eqb-true, leb-true, lt-ltb, ltb-false, ltb-true}
use Rattle.std.specs.Prelude.{Result, Ok, Err, Option, Some, None, MatchOption, is_some, nat_le, nat_lt, ◌&&◌, ◌||◌}
use Rattle.std.specs.List.{list_all, list_any}
use Rattle.cf_base.specs.Names.{is_name_byte}
use Rattle.cf_base.specs.Policies.{is_always_full}
use Rattle.cf_base.specs.declared.answers.Shown.{Shown}
use Rattle.cf_base.specs.declared.answers.Shown.TheVariants as shown
use Rattle.cf_base.specs.declared.changes.Change.{Change}
use Rattle.cf_base.specs.declared.changes.Change.TheVariants as change
use Rattle.cf_base.specs.declared.codes.Code.{Code}
use Rattle.cf_base.specs.declared.codes.Code.TheVariants as code
use Rattle.cf_base.specs.declared.codes.CallError.{CallError}
use Rattle.cf_base.specs.declared.codes.CallError.TheVariants as fail
use Rattle.cf_base.specs.declared.ids.ItemId.{ItemId}
use Rattle.cf_base.specs.declared.ids.Usn.{Usn}
use Rattle.cf_base.specs.declared.items.Kind.{Kind}
use Rattle.cf_base.specs.declared.items.Kind.TheVariants as kind
use Rattle.cf_base.specs.declared.policies.Policy.{Policy}
use Rattle.cf_filter_calls.specs.Planned.{IsLastPlaceAt, IsNumberedPlaceAt, IsPlaceAt, refusal_of, unnumbered}
use Rattle.cf_model.specs.Arrows.{Arrow, reading, ret, then_do, unless}
use Rattle.cf_model.specs.Calls.{test_of}
use Rattle.cf_model.specs.Changes.{changes, needs_id, next_number, no_blocks, no_places, no_table, put_change, why_no_room}
use Rattle.cf_model.specs.Numbers.{most}
use Rattle.cf_model.specs.Effects.{is_placeholder, made}
use Rattle.cf_model.specs.Items.{Item, pin_of}
use Rattle.cf_model.specs.LookUp.{Place, child_of}
use Rattle.cf_model.specs.Placements.{create_at, make_planned, planned_at, show_item}
use Rattle.cf_model.specs.Plans.{Creation, NewDir, NewFile, NewPlaceholder, NewPlaceholderDir, is_full_population, make_and_mark, placeholder_dir, plan, plan_create, planned}
use Rattle.cf_model.specs.Soundness.{Each, MadeNeeds}
use Rattle.cf_model.specs.State.{Filter, Volume}
use Rattle.cf_model.specs.Texts.{is_name}
use Rattle.cf_model.specs.Trees.{Does}
use Rattle.cf_model.specs.Waits.{on_ok}
use Rattle.cf_model.specs.Words.{first_of, when}
use Rattle.cf_filter_steps.specs.Answering.{After, Answers, Any, Reads, Sense}
use Rattle.cf_item_rules.specs.PlaceholderPlans.{IsPlan}
use Rattle.cf_filter_steps.specs.Finding.{FindsPlace, FoundPlace, HasRows, IsPlace}
use Rattle.cf_filter_steps.specs.Good.{Every, IsGood}
use Rattle.cf_filter_steps.specs.Readings.{next_place, policy_of}
use Rattle.cf_filter_steps.specs.Suiting.{IsOpenDirectory, Suiting, SuitsAll}
use Rattle.cf_table.specs.Tables.{MeansAll, Table}
use Rattle.cf_tree.proofs.Walks.{own_id}
use Rattle.cf_filter_steps.proofs.Laws.{no_memory, weaker}
use Rattle.cf_filter_calls.proofs.Suited.{first_none, plan_ok}

pub name_short : (name : List ℕ) → is_name name ≡ true → length name ≤ 255
name_short name h = leb-true (length name) 255 (and_parts (nat_lt 0 (length name)) (nat_le (length name) 255) (and_parts _ (list_all is_name_byte name) (and_parts _ _ (and_parts _ _ (and_parts _ _ h).0).0).0).0).1

-- of a new item that stands behind all others
pub each_new : (P : Item → Type 0) (id : ItemId) (items : List Item) (i : Item) → Every (λ j. j.id.0 < id.0) items → P i → Each id P (items ++ i ∷ [])
each_new P id [] i h p = ((λ e. p), record {})
each_new P id (x ∷ xs) i h p = ((λ e. let z : x.id.0 ≡ id.0 = eqb-true x.id.0 id.0 e in absurd (omega (arith, z, h.0))), each_new P id xs i h.1 p)

free_child : (items : List Item) (parent : ItemId) (name : List ℕ) → is_some (child_of items parent name) ≡ false → child_of items parent name ≡ None
free_child items parent name h = one (child_of items parent name) h where
  one : (o : Option Item) → is_some o ≡ false → o ≡ None
  one None e = refl
  one (Some i) e = let z : true ≡ false = e in cc

record IsFit (k : Kind) (size : ℕ) (identity : List ℕ) (mark : Bool) : Type 0 where
  pub short : length identity ≤ 4096
  pub small : size ≤ 16777216
  pub needs : MadeNeeds k identity
  pub marks : mark ≡ true → is_placeholder k ≡ true

mark_suits : (s : Filter) (parent : ItemId) (name : List ℕ) (k : Kind) (size : ℕ) (identity : List ℕ) (mark : Bool) → IsGood s → (mark ≡ true → is_placeholder k ≡ true)
    → SuitsAll (when mark (change.Mark s.volume.next_item (next_number s.volume) ∷ [])) (put_change (change.Make s.volume.next_item parent name k size identity) s.volume)
mark_suits s parent name k size identity false good h = record {}
mark_suits s parent name k size identity true good h = (
  record {
    fits = λ n d small q. record {};
    needs = each_new (λ i. i.placeholder ≡ true) s.volume.next_item s.volume.items (made s.volume.next_item parent name k size identity (pin_of s.volume.items parent) (next_number s.volume)) good.volume.below (h refl);
    plants = record {};
    lasts = record {};
  },
  record {},
)

make_suits : (s : Filter) (parent : ItemId) (name : List ℕ) (i : Item) (k : Kind) (size : ℕ) (identity : List ℕ) (mark : Bool)
    → IsGood s → IsPlace s.volume.items parent name i → is_some (child_of s.volume.items parent name) ≡ false → IsFit k size identity mark
    → SuitsAll (make_and_mark s.volume.next_item (next_number s.volume) parent name k size identity mark) s.volume
make_suits s parent name i k size identity mark good place free fit = (
  record {
    fits = (name_short name place.named, omega (arith, fit.short), fit.small);
    needs = fit.needs;
    plants = (refl, (place.named, subst (λ (o : Option Item). MatchOption o ⊥ IsOpenDirectory) (sym place.there) place.opened, place.high, free_child s.volume.items parent name free));
    lasts = fit.short;
  },
  mark_suits s parent name k size identity mark good fit.marks,
)

-- the changes of each kind of creation

pub dir_needs : (p : Policy) (identity : List ℕ) → MadeNeeds (placeholder_dir p) identity
dir_needs p identity = one (is_full_population p.population) where
  one : (b : Bool) → MadeNeeds (cond b kind.UnpopulatedDir kind.PlaceholderDir) identity
  one true = record {}
  one false = record {}

pub dir_placeholder : (p : Policy) → is_placeholder (placeholder_dir p) ≡ true
dir_placeholder p = one (is_full_population p.population) where
  one : (b : Bool) → is_placeholder (cond b kind.UnpopulatedDir kind.PlaceholderDir) ≡ true
  one true = refl
  one false = refl

no_mark : (k : Kind) → false ≡ true → is_placeholder k ≡ true
no_mark k e = cc

create_suits : (s : Filter) (parent : ItemId) (name : List ℕ) (i : Item) (what : Creation) (cs : List Change) → IsGood s → IsPlace s.volume.items parent name i
    → plan_create s.volume.items s.policy s.volume.next_item (next_number s.volume) parent name what ≡ Ok cs → SuitsAll cs s.volume
create_suits s parent name i NewFile cs good place e =
    let p = plan_ok ((is_some (child_of s.volume.items parent name), code.Exists) ∷ []) (make_and_mark s.volume.next_item (next_number s.volume) parent name kind.File 0 [] false) cs e in
    let a = first_none (is_some (child_of s.volume.items parent name)) code.Exists [] p.0 in
    subst (λ (ds : List Change). SuitsAll ds s.volume) p.1
    (make_suits s parent name i kind.File 0 [] false good place a.0 (record { short = omega arith; small = omega arith; needs = refl; marks = no_mark kind.File }))
create_suits s parent name i NewDir cs good place e =
    let p = plan_ok ((is_some (child_of s.volume.items parent name), code.Exists) ∷ []) (make_and_mark s.volume.next_item (next_number s.volume) parent name kind.Dir 0 [] false) cs e in
    let a = first_none (is_some (child_of s.volume.items parent name)) code.Exists [] p.0 in
    subst (λ (ds : List Change). SuitsAll ds s.volume) p.1
    (make_suits s parent name i kind.Dir 0 [] false good place a.0 (record { short = omega arith; small = omega arith; needs = refl; marks = no_mark kind.Dir }))
create_suits s parent name i (NewPlaceholder size identity mark) cs good place e =
    let t3 : List (Bool × Code) = (is_always_full s.policy.hydration && nat_lt 0 size, code.PolicyDenied) ∷ [] in
    let t2 : List (Bool × Code) = (nat_lt 16777216 size, code.TooLarge) ∷ t3 in
    let t1 : List (Bool × Code) = (nat_lt 4096 (length identity), code.IdentityTooLong) ∷ t2 in
    let p = plan_ok ((is_some (child_of s.volume.items parent name), code.Exists) ∷ t1) (make_and_mark s.volume.next_item (next_number s.volume) parent name kind.PlaceholderFile size identity mark) cs e in
    let a = first_none (is_some (child_of s.volume.items parent name)) code.Exists t1 p.0 in
    let b = first_none (nat_lt 4096 (length identity)) code.IdentityTooLong t2 a.1 in
    let d = first_none (nat_lt 16777216 size) code.TooLarge t3 b.1 in
    subst (λ (ds : List Change). SuitsAll ds s.volume) p.1
    (make_suits s parent name i kind.PlaceholderFile size identity mark good place a.0 (record { short = ltb-false 4096 (length identity) b.0; small = ltb-false 16777216 size d.0; needs = record {}; marks = λ z. refl }))
create_suits s parent name i (NewPlaceholderDir identity mark) cs good place e =
    let t1 : List (Bool × Code) = (nat_lt 4096 (length identity), code.IdentityTooLong) ∷ [] in
    let p = plan_ok ((is_some (child_of s.volume.items parent name), code.Exists) ∷ t1) (make_and_mark s.volume.next_item (next_number s.volume) parent name (placeholder_dir s.policy) 0 identity mark) cs e in
    let a = first_none (is_some (child_of s.volume.items parent name)) code.Exists t1 p.0 in
    let b = first_none (nat_lt 4096 (length identity)) code.IdentityTooLong [] a.1 in
    subst (λ (ds : List Change). SuitsAll ds s.volume) p.1
    (make_suits s parent name i (placeholder_dir s.policy) 0 identity mark good place a.0 (record { short = ltb-false 4096 (length identity) b.0; small = omega arith; needs = dir_needs s.policy identity; marks = λ z. dir_placeholder s.policy }))

-- what is planned at a place

record Same4 (pol : Policy) (item : ItemId) (next : Usn) (parent : ItemId) (name : List ℕ) (s : Filter) (p : Place) : Type 0 where
  pub same_policy : pol ≡ s.policy
  pub same_item : item ≡ s.volume.next_item
  pub same_next : next ≡ next_number s.volume
  pub same_parent : parent ≡ p.parent.id
  pub same_name : name ≡ p.name

planned_same : (pol : Policy) (item : ItemId) (next : Usn) (parent : ItemId) (name : List ℕ) (w : Creation) (s : Filter) (p : Place) → Same4 pol item next parent name s p
    → plan_create s.volume.items pol item next parent name w ≡ planned_at w p s
planned_same pol item next parent name w s p h = λ k. plan_create s.volume.items (h.same_policy k) (h.same_item k) (h.same_next k) (h.same_parent k) (h.same_name k) w

same_at : {X : Type 0} (S : Sense X) (x : X) (t : Table) (pol : Policy) (next : Usn) (parent : ItemId) (name : List ℕ) (p : Place) (s : Filter)
    → HasRows S x t → Reads S Any policy_of x pol → S.means x s → next ≡ next_number s.volume → IsPlaceAt parent name p s → Same4 pol t.next next parent name s p
same_at S x t pol next parent name p s rows reads h e place = record {
  same_policy = reads.is s h (record {});
  same_item = rows.next s h;
  same_next = e;
  same_parent = own_id s.volume.items parent p.parent place.place.there;
  same_name = sym place.named;
}

pub created : {X : Type 0} (S : Sense X) (x new : X) (t : Table) (pol : Policy) (next : Usn) (parent : ItemId) (name : List ℕ) (w : Creation) (cs ds : List Change) (item : ItemId) (r : Result Shown CallError)
    → HasRows S x t → Reads S Any policy_of x pol → item ≡ t.next → ((items : List Item) → MeansAll t.rows items → plan_create items pol t.next next parent name w ≡ Ok cs)
    → ds ≡ cs → Answers S (Suiting ds) (show_item ds item) x r new → (p : Place) → Answers S (IsNumberedPlaceAt next parent name p) (create_at w p) x r new
created S x new t pol next parent name w cs ds item r rows reads is_next found one_list b p = record {
  leads = λ s h at.
      let a : Answers S (Suiting cs) (show_item cs item) x r new = subst (λ (l : List Change). Answers S (Suiting l) (show_item l item) x r new) one_list b in
      let same : Same4 pol t.next next parent name s p = same_at S x t pol next parent name p s rows reads h at.next_is at.place in
      let e : planned_at w p s ≡ Ok cs = sym (planned_same pol t.next next parent name w s p same) ∙ found s.volume.items (rows.rows s h) in
      let suits : SuitsAll cs s.volume = create_suits s p.parent.id p.name p.parent w cs (S.good x s h) (place_of s p at.place) e in
      subst (λ (q : Result (List Change) Code). (t : Filter) × Does (on_ok make_planned q s) r t × S.moved x new s t × After S x r new t) (sym e)
      (subst (λ (k : ItemId). (t : Filter) × Does (show_item cs k s) r t × S.moved x new s t × After S x r new t) (is_next ∙ rows.next s h) (a.leads s h suits));
} where
  place_of : (s : Filter) (p : Place) → IsPlaceAt parent name p s → IsPlace s.volume.items p.parent.id p.name p.parent
  place_of s p at = subst (λ (n : List ℕ). IsPlace s.volume.items p.parent.id n p.parent) (sym at.named)
      (subst (λ (k : ItemId). IsPlace s.volume.items k name p.parent) (own_id s.volume.items parent p.parent at.place.there) at.place)

-- a refusal comes whatever the number is

no_some : {A : Type 0} (x : A) → ◌≡◌ {A = Option A} (Some x) None → ⊥
no_some x e = cc

same_ok : (tests : List (Bool × Code)) (cs ds es : List Change) → plan tests ds ≡ Ok cs → plan tests es ≡ Ok es
same_ok tests cs ds es e = one (first_of tests) e where
  one : (o : Option Code) → planned o ds ≡ Ok cs → planned o es ≡ Ok es
  one None e = refl
  one (Some c) e = let z : ◌≡◌ {A = Result (List Change) Code} (Err c) (Ok cs) = e in absurd cc

pub created_not : {X : Type 0} (S : Sense X) (x : X) (t : Table) (pol : Policy) (next : Usn) (parent : ItemId) (name : List ℕ) (w : Creation) (c : Code)
    → HasRows S x t → Reads S Any policy_of x pol → ((items : List Item) → MeansAll t.rows items → plan_create items pol t.next next parent name w ≡ Err c)
    → (p : Place) → Answers S (IsPlaceAt parent name p) (create_at w p) x (Ok (shown.Refused c)) x
created_not S x t pol next parent name w c rows reads found p = record {
  leads = λ s h at.
      let same : Same4 pol t.next (next_number s.volume) parent name s p = same_at S x t pol (next_number s.volume) parent name p s rows reads h refl at in
      let e : planned_at w p s ≡ Err c = sym (planned_same pol t.next (next_number s.volume) parent name w s p same) ∙ any_number s.volume.items pol t.next next (next_number s.volume) parent name w c (found s.volume.items (rows.rows s h)) in
      subst (λ (q : Result (List Change) Code). (t : Filter) × Does {A = Shown} (on_ok make_planned q s) (Ok (shown.Refused c)) t × S.moved x x s t × After {A = Shown} S x (Ok (shown.Refused c)) x t) (sym e)
      (s, (refl, refl), S.stays x s h, h);
} where
  no_plan : (tests : List (Bool × Code)) (cs ds : List Change) (c : Code) → plan tests cs ≡ Err c → plan tests ds ≡ Err c
  no_plan tests cs ds c e = one (first_of tests) e where
    one : (o : Option Code) → planned o cs ≡ Err c → planned o ds ≡ Err c
    one (Some d) e = e
    one None e = let z : ◌≡◌ {A = Result (List Change) Code} (Ok cs) (Err c) = e in absurd cc

  any_number : (items : List Item) (pol : Policy) (item : ItemId) (m n : Usn) (parent : ItemId) (name : List ℕ) (w : Creation) (c : Code)
      → plan_create items pol item m parent name w ≡ Err c → plan_create items pol item n parent name w ≡ Err c
  any_number items pol item m n parent name NewFile c e = e
  any_number items pol item m n parent name NewDir c e = e
  any_number items pol item m n parent name (NewPlaceholder size identity mark) c e = no_plan ((is_some (child_of items parent name), code.Exists) ∷ (nat_lt 4096 (length identity), code.IdentityTooLong)
      ∷ (nat_lt 16777216 size, code.TooLarge) ∷ (is_always_full pol.hydration && nat_lt 0 size, code.PolicyDenied) ∷ []) (make_and_mark item m parent name kind.PlaceholderFile size identity mark) (make_and_mark item n parent name kind.PlaceholderFile size identity mark) c e
  any_number items pol item m n parent name (NewPlaceholderDir identity mark) c e = no_plan ((is_some (child_of items parent name), code.Exists) ∷ (nat_lt 4096 (length identity), code.IdentityTooLong) ∷ [])
      (make_and_mark item m parent name (placeholder_dir pol) 0 identity mark) (make_and_mark item n parent name (placeholder_dir pol) 0 identity mark) c e

pub created_err : {X : Type 0} (S : Sense X) (x : X) (t : Table) (pol : Policy) (next : Usn) (parent : ItemId) (name : List ℕ) (w : Creation) (f : CallError) (r : Result Shown CallError)
    → HasRows S x t → Reads S Any policy_of x pol → ((items : List Item) → MeansAll t.rows items → IsPlan (Err f) (plan_create items pol t.next next parent name w)) → r ≡ refusal_of f
    → (p : Place) → Answers S (IsPlaceAt parent name p) (create_at w p) x r x
created_err S x t pol next parent name w (fail.No c) r rows reads plan q p =
    subst (λ (y : Result Shown CallError). Answers S (IsPlaceAt parent name p) (create_at w p) x y x) (sym q) (created_not S x t pol next parent name w c rows reads plan p)
created_err S x t pol next parent name w fail.OutOfMemory r rows reads plan q p =
    subst (λ (y : Result Shown CallError). Answers S (IsPlaceAt parent name p) (create_at w p) x y x) (sym q) (no_memory S (IsPlaceAt parent name p) (create_at w p) x)

-- where no number is left

any_number_ok : (items : List Item) (pol : Policy) (item : ItemId) (m n : Usn) (parent : ItemId) (name : List ℕ) (w : Creation) (cs : List Change)
    → plan_create items pol item m parent name w ≡ Ok cs → (c : Change) × (ds : List Change) × (plan_create items pol item n parent name w ≡ Ok (c ∷ ds))
any_number_ok items pol item m n parent name NewFile cs e = (change.Make item parent name kind.File 0 [], [], same_ok ((is_some (child_of items parent name), code.Exists) ∷ []) cs _ _ e)
any_number_ok items pol item m n parent name NewDir cs e = (change.Make item parent name kind.Dir 0 [], [], same_ok ((is_some (child_of items parent name), code.Exists) ∷ []) cs _ _ e)
any_number_ok items pol item m n parent name (NewPlaceholder size identity mark) cs e = (
  change.Make item parent name kind.PlaceholderFile size identity,
  when mark (change.Mark item n ∷ []),
  same_ok ((is_some (child_of items parent name), code.Exists) ∷ (nat_lt 4096 (length identity), code.IdentityTooLong)
      ∷ (nat_lt 16777216 size, code.TooLarge) ∷ (is_always_full pol.hydration && nat_lt 0 size, code.PolicyDenied) ∷ []) cs _ _ e,
)
any_number_ok items pol item m n parent name (NewPlaceholderDir identity mark) cs e =
    (change.Make item parent name (placeholder_dir pol) 0 identity, when mark (change.Mark item n ∷ []), same_ok ((is_some (child_of items parent name), code.Exists) ∷ (nat_lt 4096 (length identity), code.IdentityTooLong) ∷ []) cs _ _ e)

no_place : (v : Volume) (c : Change) (ds : List Change) → no_places v 1 ≡ true → why_no_room (c ∷ ds) v ≡ Some code.Exhausted
no_place v c ds h = one (no_places v (suc (length ds))) (list_any needs_id (c ∷ ds)) (no_table v (c ∷ ds)) (no_blocks v (c ∷ ds))
    (lt-ltb most (v.place + suc (length ds)) (omega (arith, ltb-true most (v.place + 1) h))) where
      one : (a b d f : Bool) → a ≡ true → first_of ((a || b, code.Exhausted) ∷ (d, code.TableFull) ∷ (f, code.Full) ∷ []) ≡ Some code.Exhausted
      one true b d f q = refl
      one false b d f q = let z : false ≡ true = q in cc

pub created_none : {X : Type 0} (S : Sense X) (x : X) (t : Table) (pol : Policy) (next : Usn) (parent : ItemId) (name : List ℕ) (w : Creation) (cs : List Change)
    → HasRows S x t → Reads S Any policy_of x pol → ((items : List Item) → MeansAll t.rows items → plan_create items pol t.next next parent name w ≡ Ok cs)
    → (p : Place) → Answers S (IsLastPlaceAt parent name p) (create_at w p) x (Ok (shown.Refused code.Exhausted)) x
created_none S x t pol next parent name w cs rows reads plan p = record {
  leads = λ s h at.
      let same : Same4 pol t.next (next_number s.volume) parent name s p = same_at S x t pol (next_number s.volume) parent name p s rows reads h refl at.place in
      let k = any_number_ok s.volume.items pol t.next next (next_number s.volume) parent name w cs (plan s.volume.items (rows.rows s h)) in
      let e : planned_at w p s ≡ Ok (k.0 ∷ k.1) = sym (planned_same pol t.next (next_number s.volume) parent name w s p same) ∙ k.2 in
      subst (λ (q : Result (List Change) Code). (t : Filter) × Does {A = Shown} (on_ok make_planned q s) (Ok (shown.Refused code.Exhausted)) t × S.moved x x s t × After {A = Shown} S x (Ok (shown.Refused code.Exhausted)) x t) (sym e)
      (subst (λ (o : Option Code). (t : Filter) × Does {A = Shown} (unless shown.Refused (first_of (test_of o)) (then_do (changes (k.0 ∷ k.1)) (ret (shown.Item s.volume.next_item))) s) (Ok (shown.Refused code.Exhausted)) t
      × S.moved x x s t × After {A = Shown} S x (Ok (shown.Refused code.Exhausted)) x t) (sym (no_place s.volume k.0 k.1 at.none))
      (s, (refl, refl), S.stays x s h, h));
}

-- the place and the number

pub at_number : {X : Type 0} (S : Sense X) (parent : ItemId) (name : List ℕ) (w : Creation) (x new : X) (q : Option Usn) (next : Usn) (r : Result Shown CallError)
    → Reads S Any next_place x q → q ≡ Some next → ((p : Place) → Answers S (IsNumberedPlaceAt next parent name p) (create_at w p) x r new) → (p : Place) → Answers S (IsPlaceAt parent name p) (create_at w p) x r new
at_number S parent name w x new q next r reads e a p = record {
  leads = λ s h at.
      let k = one (no_places s.volume 1) (next_number s.volume) refl (sym e ∙ reads.is s h (record {})) in
      (a p).leads s h (record { place = at; next_is = k.0; left = k.1 });
} where
  one : (b : Bool) (n : Usn) {d : Bool} → d ≡ b → Some next ≡ cond b None (Some n) → (next ≡ n) × (d ≡ false)
  one true n q k = absurd (no_some next k)
  one false n q k = let y : next ≡ n = cc in (y, q)

pub at_last : {X : Type 0} (S : Sense X) (parent : ItemId) (name : List ℕ) (w : Creation) (x new : X) (q : Option Usn) (r : Result Shown CallError)
    → Reads S Any next_place x q → q ≡ None → ((p : Place) → Answers S (IsLastPlaceAt parent name p) (create_at w p) x r new) → (p : Place) → Answers S (IsPlaceAt parent name p) (create_at w p) x r new
at_last S parent name w x new q r reads e a p = record { leads = λ s h at. (a p).leads s h (record { place = at; none = one (no_places s.volume 1) (next_number s.volume) (sym e ∙ reads.is s h (record {})) }) } where
  one : (b : Bool) (n : Usn) → None ≡ cond b None (Some n) → b ≡ true
  one true n h = refl
  one false n h = absurd (no_some n (sym h))

pub placed_on : {X : Type 0} (S : Sense X) (v : Filter → Result Place Code) (f : Place → Arrow Filter Shown) (q : Result (ItemId × List ℕ) CallError) (k : ItemId × List ℕ) (x new : X) (r : Result Shown CallError)
    → FindsPlace S v x q → q ≡ Ok k → ((p : Place) → Answers S (IsPlaceAt k.0 k.1 p) (f p) x r new) → Answers S Any (reading v (on_ok f)) x r new
placed_on S v f q k x new r finds e a = record {
  leads = λ s h z.
      let found : FoundPlace s.volume.items (Ok k) (v s) = subst (λ (y : Result (ItemId × List ℕ) CallError). FoundPlace s.volume.items y (v s)) e (finds.is s h) in
      subst (λ (y : Result Place Code). (t : Filter) × Does (on_ok f y s) r t × S.moved x new s t × After S x r new t) (sym found.1)
      ((a (record { parent = found.0; name = k.1 })).leads s h (record { named = refl; place = found.2 }));
}

pub placed_off : {X : Type 0} (S : Sense X) (v : Filter → Result Place Code) (f : Place → Arrow Filter Shown) (q : Result (ItemId × List ℕ) CallError) (h : CallError) (x : X) (r : Result Shown CallError)
    → FindsPlace S v x q → q ≡ Err h → r ≡ refusal_of h → Answers S Any (reading v (on_ok f)) x r x
placed_off S v f q (fail.No c) x r finds e d = subst (λ (y : Result Shown CallError). Answers S Any (reading v (on_ok f)) x y x) (sym d) (record {
  leads = λ s i z.
      let found : FoundPlace s.volume.items (Err (fail.No c)) (v s) = subst (λ (y : Result (ItemId × List ℕ) CallError). FoundPlace s.volume.items y (v s)) e (finds.is s i) in
      subst (λ (y : Result Place Code). (t : Filter) × Does {A = Shown} (on_ok f y s) (Ok (shown.Refused c)) t × S.moved x x s t × After {A = Shown} S x (Ok (shown.Refused c)) x t) (sym found) (s, (refl, refl), S.stays x s i, i);
})
placed_off S v f q fail.OutOfMemory x r finds e d = subst (λ (y : Result Shown CallError). Answers S Any (reading v (on_ok f)) x y x) (sym d) (no_memory S Any (reading v (on_ok f)) x)

pub created_last : {X : Type 0} (S : Sense X) (x : X) (t : Table) (pol : Policy) (next : Usn) (parent : ItemId) (name : List ℕ) (w : Creation) (q : Result (List Change) CallError) (r : Result Shown CallError)
    → HasRows S x t → Reads S Any policy_of x pol → ((items : List Item) → MeansAll t.rows items → IsPlan q (plan_create items pol t.next next parent name w)) → r ≡ unnumbered q
    → (p : Place) → Answers S (IsLastPlaceAt parent name p) (create_at w p) x r x
created_last S x t pol next parent name w (Ok cs) r rows reads found e p =
    subst (λ (y : Result Shown CallError). Answers S (IsLastPlaceAt parent name p) (create_at w p) x y x) (sym e) (created_none S x t pol next parent name w cs rows reads found p)
created_last S x t pol next parent name w (Err f) r rows reads found e p =
    weaker S (IsPlaceAt parent name p) (IsLastPlaceAt parent name p) (create_at w p) x x r (λ s z. z.place) (created_err S x t pol next parent name w f r rows reads found e p)

pub created_refused : {X : Type 0} (S : Sense X) (x : X) (t : Table) (pol : Policy) (next : Usn) (parent : ItemId) (name : List ℕ) (w : Creation) (f : CallError) (r : Result Shown CallError)
    → HasRows S x t → Reads S Any policy_of x pol → ((items : List Item) → MeansAll t.rows items → IsPlan (Err f) (plan_create items pol t.next next parent name w)) → r ≡ refusal_of f
    → (p : Place) → Answers S (IsNumberedPlaceAt next parent name p) (create_at w p) x r x
created_refused S x t pol next parent name w f r rows reads found e p =
    weaker S (IsPlaceAt parent name p) (IsNumberedPlaceAt next parent name p) (create_at w p) x x r (λ s z. z.place) (created_err S x t pol next parent name w f r rows reads found e p)
