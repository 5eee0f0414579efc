-- Removals and moves of items that are not the root.
use Rattle.std.proofs.Common.{◌≡◌, Bool, true, false, cond, not, List, [], ◌∷◌, refl, sym, ◌∙◌, ap, subst, ℕ, Option, Some, None}
use Rattle.std.proofs.lemmas.Bool.{or_parts}
use Rattle.std.specs.Prelude.{MatchOption, Result, Ok, Err, map, ◌==◌, ◌&&◌}
use Rattle.cf_base.specs.declared.answers.Shown.{Shown}
use Rattle.cf_base.specs.declared.answers.Shown.TheVariants as shown
use Rattle.cf_base.specs.declared.changes.Change.{Change}
use Rattle.cf_base.specs.declared.changes.Change.TheVariants as change
use Rattle.cf_base.specs.declared.codes.Code.{Code}
use Rattle.cf_base.specs.declared.codes.Code.TheVariants as code
use Rattle.cf_base.specs.declared.codes.CallError.{CallError}
use Rattle.cf_base.specs.declared.codes.CallError.TheVariants as fail
use Rattle.cf_base.specs.declared.ids.ItemId.{ItemId}
use Rattle.cf_base.specs.declared.ids.Usn.{Usn}
use Rattle.cf_base.specs.declared.policies.Mode.{Mode}
use Rattle.cf_filter_calls.specs.Moved.{IsBelowAt, IsMoveAt, MayMoveAt, delete_code, delete_refusal, has_children, is_unlisted, is_unlisted_at, lacks_place, removed_next, stands_in}
use Rattle.cf_filter_calls.specs.Planned.{ReadsAt, refusal_of}
use Rattle.cf_model.specs.Arrows.{Arrow, reading, ret, unless}
use Rattle.cf_model.specs.Calls.{changing, delete_item, move_of, place_at, rename_item, rename_to, test_of}
use Rattle.cf_model.specs.Changes.{next_number, no_places}
use Rattle.cf_model.specs.Dehydration.{in_use}
use Rattle.cf_model.specs.Items.{Item, item_of}
use Rattle.cf_model.specs.LookUp.{Place, children, move_refused}
use Rattle.cf_model.specs.Numbers.{no_key}
use Rattle.cf_model.specs.Operations.{done}
use Rattle.cf_model.specs.Requests.{is_busy_beside}
use Rattle.cf_model.specs.State.{Filter, is_replay}
use Rattle.cf_model.specs.Trees.{Does}
use Rattle.cf_model.specs.Waits.{on_ok}
use Rattle.cf_model.specs.Words.{first_of, is_empty, part, put_in, same, sorted, when}
use Rattle.cf_filter_steps.specs.Answering.{After, Answers, Any, IsAt, Reads, Sense}
use Rattle.cf_filter_steps.specs.Finding.{FindsBelow, FindsPlace, FoundBelow, FoundPlace, HasRows}
use Rattle.cf_filter_steps.specs.Putting.{MayGo, removed}
use Rattle.cf_filter_steps.specs.Good.{IsGood}
use Rattle.cf_filter_steps.specs.Readings.{has_handle, has_wait, next_place}
use Rattle.cf_filter_steps.specs.Suiting.{IsOpenDirectory, Suiting, Suits}
use Rattle.cf_filter_steps.proofs.Laws.{no_memory, returned, stops_first, then_on}
use Rattle.cf_table.specs.Tables.{MeansAll, Table, child_rows, ids_of, rows_by_name}
use Rattle.cf_table.proofs.ChildrenOf.{children_mean}
use Rattle.cf_tree.specs.Answers.{IsChecked}
use Rattle.cf_tree.specs.Trees.{IsTree}
use Rattle.cf_tree.proofs.Walks.{own_id}
use Rattle.cf_filter_calls.proofs.Carried.{waited}
use Rattle.cf_filter_calls.proofs.NewItems.{name_short}
use Rattle.cf_filter_calls.proofs.Suited.{first_none, not_false}

-- an item that is not the root

pub below_on : {X : Type 0} (S : Sense X) (v : Filter → Result Item Code) (f : Item → Arrow Filter Shown) (q : Result ItemId Code) (id : ItemId) (x new : X) (r : Result Shown CallError)
    → FindsBelow S v x q → q ≡ Ok id → ((i : Item) → Answers S (IsBelowAt id i) (f i) x r new) → Answers S Any (reading v (on_ok f)) x r new
below_on S v f q id x new r finds e a = record {
  leads = λ s h p.
      let z = subst (λ (y : Result ItemId Code). FoundBelow s.volume.items y (v s)) e (finds.is s h) in
      subst (λ (y : Result Item Code). (t : Filter) × Does (on_ok f y s) r t × S.moved x new s t × After S x r new t) (sym z.1) ((a z.0).leads s h (record { there = z.2; below = z.3 }));
}

-- whether it has children

put_some : (before : Item → Item → Bool) (x : Item) (ys : List Item) → is_empty (map (λ (i : Item). i.id) (put_in before x ys)) ≡ false
put_some before x [] = refl
put_some before x (y ∷ ys) = two (before y x) where
  two : (b : Bool) → is_empty (map (λ (i : Item). i.id) (cond b (y ∷ put_in before x ys) (x ∷ y ∷ ys))) ≡ false
  two true = refl
  two false = refl

none_sorted : (before : Item → Item → Bool) (list : List Item) → is_empty (map (λ (i : Item). i.id) (sorted before list)) ≡ is_empty list
none_sorted before [] = refl
none_sorted before (x ∷ xs) = put_some before x (sorted before xs)

pub children_read : {X : Type 0} (S : Sense X) (x : X) (t : Table) (id : ItemId) (ids listed : List ItemId) (b : Bool)
    → HasRows S x t → ids ≡ ids_of (rows_by_name (child_rows t.rows id)) → listed ≡ ids → b ≡ not (is_empty listed) → Reads S Any (has_children id) x b
children_read S x t id ids listed b rows e same q = record {
  is = λ s h p. q ∙ ap (λ (l : List ItemId). not (is_empty l)) (same ∙ e ∙ children_mean t.rows s.volume.items id (rows.rows s h)) ∙ ap not (none_sorted _ (children s.volume.items id));
}

-- the refusals of a removal

pub place_left : {X : Type 0} (S : Sense X) (x : X) (o : Option Usn) (n : Usn) → Reads S Any next_place x o → o ≡ Some n → Reads S Any lacks_place x false
place_left S x o n reads e = record { is = λ s h p. one (no_places s.volume 1) (next_number s.volume) (sym e ∙ reads.is s h p) } where
  one : (b : Bool) (m : Usn) → Some n ≡ cond b None (Some m) → false ≡ b
  one false m q = refl
  one true m q = let z : ◌≡◌ {A = Option Usn} (Some n) None = q in absurd cc

pub place_none : {X : Type 0} (S : Sense X) (x : X) (o : Option Usn) → Reads S Any next_place x o → o ≡ None → Reads S Any lacks_place x true
place_none S x o reads e = record { is = λ s h p. one (no_places s.volume 1) (next_number s.volume) (sym e ∙ reads.is s h p) } where
  one : (b : Bool) (m : Usn) → None ≡ cond b None (Some m) → true ≡ b
  one true m q = refl
  one false m q = let z : ◌≡◌ {A = Option Usn} None (Some m) = q in absurd cc

pub delete_reads : {X : Type 0} (S : Sense X) (x : X) (id : ItemId) (unlisted full used none : Bool) (why : Option Code)
    → Reads S Any (is_unlisted_at id) x unlisted → Reads S Any (has_children id) x full → Reads S Any (in_use id) x used → Reads S Any lacks_place x none → why ≡ delete_code unlisted full used none
    → (i : Item) → Reads S (IsAt id i) (delete_refusal i) x why
delete_reads S x id unlisted full used none why a b d f e i = record {
  is = λ s h at.
      let p = a.is s h (record {}) ∙ ap (λ (o : Option Item). part is_unlisted false o) at in let q = b.is s h (record {}) in let r = d.is s h (record {}) in let t = f.is s h (record {}) in
      e ∙ (λ j. delete_code (p j) (q j) (r j) (t j)) ∙ ap (λ (k : ItemId). delete_code (is_unlisted i) (has_children k s) (in_use k s) (lacks_place s)) (own_id s.volume.items id i at);
}

empty_is : (xs : List Item) → is_empty xs ≡ true → xs ≡ []
empty_is [] e = refl
empty_is (x ∷ xs) e = let z : false ≡ true = e in absurd cc

may_go : (id : ItemId) (i : Item) (s : Filter) → IsGood s → IsBelowAt id i s → delete_refusal i s ≡ None → MayGo id i s
may_go id i s good at e =
    let own = own_id s.volume.items id i at.there in
    let last : List (Bool × Code) = (no_places s.volume 1, code.Exhausted) ∷ [] in
    let a = first_none (is_unlisted i) code.NotPopulated ((has_children i.id s, code.NotEmpty) ∷ (in_use i.id s, code.InUse) ∷ last) e in
    let b = first_none (has_children i.id s) code.NotEmpty ((in_use i.id s, code.InUse) ∷ last) a.1 in
    let d = first_none (in_use i.id s) code.InUse last b.1 in
    let f = first_none (no_places s.volume 1) code.Exhausted [] d.1 in record {
      there = at.there;
      below = at.below;
      empty = subst (λ (k : ItemId). children s.volume.items k ≡ []) (sym own) (empty_is (children s.volume.items i.id) (not_false (is_empty (children s.volume.items i.id)) b.0));
      closed = subst (λ (k : ItemId). has_handle k s ≡ false) (sym own) (or_parts (has_handle i.id s) (is_busy_beside i.id (record { 0 = no_key }) s.waiting) d.0).0;
      idle = subst (λ (k : ItemId). has_wait k s ≡ false) (sym own)
          (waited i.id s.waiting.waits good.numbered ∙ (or_parts (has_handle i.id s) (is_busy_beside i.id (record { 0 = no_key }) s.waiting) d.0).1);
      left = f.0;
    }

pub delete_on : {X : Type 0} (S : Sense X) (id : ItemId) (m : Mode) (why : Option Code) (x new : X) (r : Result Shown CallError)
    → ((i : Item) → Reads S (IsAt id i) (delete_refusal i) x why) → why ≡ None → ((i : Item) → Answers S (MayGo id i) (removed_next m i) x r new) → (i : Item) → Answers S (IsBelowAt id i) (delete_item m i) x r new
delete_on S id m why x new r reads e a i = record {
  leads = λ s h p.
      let free : None ≡ delete_refusal i s = sym e ∙ (reads i).is s h p.there in
      subst (λ (o : Option Code). (t : Filter) × Does (unless shown.Refused o (removed_next m i) s) r t × S.moved x new s t × After S x r new t) free ((a i).leads s h (may_go id i s (S.good x s h) p (sym free)));
}

pub delete_off : {X : Type 0} (S : Sense X) (id : ItemId) (m : Mode) (why : Option Code) (c : Code) (x : X)
    → ((i : Item) → Reads S (IsAt id i) (delete_refusal i) x why) → why ≡ Some c → (i : Item) → Answers S (IsBelowAt id i) (delete_item m i) x (Ok (shown.Refused c)) x
delete_off S id m why c x reads e i = record {
  leads = λ s h p.
      subst (λ (o : Option Code). (t : Filter) × Does {A = Shown} (unless shown.Refused o (removed_next m i) s) (Ok (shown.Refused c)) t × S.moved x x s t × After {A = Shown} S x (Ok (shown.Refused c)) x t) (sym e ∙ (reads i).is s h p.there)
      (s, (refl, refl), S.stays x s h, h);
}

pub removed_on : {X : Type 0} (S : Sense X) (id : ItemId) (m : Mode) (b : Bool) (u : Unit {0}) (x new : X)
    → b ≡ is_replay m → ((i : Item) → Answers S (MayGo id i) (removed b i) x (Ok u) new) → (i : Item) → Answers S (MayGo id i) (removed_next m i) x (Ok shown.Done) new
removed_on S id m b u x new e a i =
    let k = subst (λ (d : Bool). Answers S (MayGo id i) (removed d i) x (Ok u) new) e (a i) in
    let z = then_on S (MayGo id i) Any (removed (is_replay m) i) (ret shown.Done) x new new u (Ok shown.Done) (λ s t p q. record {}) k (returned S Any shown.Done new) in
    record { leads = λ s h p. z.leads s h p }

pub removed_not : {X : Type 0} (S : Sense X) (id : ItemId) (m : Mode) (b : Bool) (e : CallError) (x new : X)
    → b ≡ is_replay m → ((i : Item) → Answers S (MayGo id i) (removed b i) x (Err e) new) → (i : Item) → Answers S (MayGo id i) (removed_next m i) x (Err e) new
removed_not S id m b e x new q a i =
    let k = subst (λ (d : Bool). Answers S (MayGo id i) (removed d i) x (Err e) new) q (a i) in
    let z = stops_first S (MayGo id i) (removed (is_replay m) i) (ret shown.Done) x new e k in
    record { leads = λ s h p. z.leads s h p }

-- a place to move to

pub place_on : {X : Type 0} (S : Sense X) (id : ItemId) (to : List ℕ) (q : Result (ItemId × List ℕ) CallError) (pl : ItemId × List ℕ) (x new : X) (r : Result Shown CallError)
    → FindsPlace S (place_at to) x q → q ≡ Ok pl → ((i : Item) (p : Place) → Answers S (IsMoveAt id pl.0 pl.1 i p) (rename_to i p) x r new) → (i : Item) → Answers S (IsBelowAt id i) (rename_item to i) x r new
place_on S id to q pl x new r finds e a i = record {
  leads = λ s h at.
      let z = subst (λ (y : Result (ItemId × List ℕ) CallError). FoundPlace s.volume.items y (place_at to s)) e (finds.is s h) in
      subst (λ (y : Result Place Code). (t : Filter) × Does (on_ok (rename_to i) y s) r t × S.moved x new s t × After S x r new t) (sym z.1)
      ((a i (record { parent = z.0; name = pl.1 })).leads s h (record { item = at; named = refl; place = z.2 }));
}

pub place_off : {X : Type 0} (S : Sense X) (id : ItemId) (to : List ℕ) (q : Result (ItemId × List ℕ) CallError) (e : CallError) (x : X) (r : Result Shown CallError)
    → FindsPlace S (place_at to) x q → q ≡ Err e → r ≡ refusal_of e → (i : Item) → Answers S (IsBelowAt id i) (rename_item to i) x r x
place_off S id to q (fail.No c) x r finds e d i = subst (λ (y : Result Shown CallError). Answers S (IsBelowAt id i) (rename_item to i) x y x) (sym d) (record {
  leads = λ s h at.
      subst (λ (y : Result Place Code). (t : Filter) × Does {A = Shown} (on_ok (rename_to i) y s) (Ok (shown.Refused c)) t × S.moved x x s t × After {A = Shown} S x (Ok (shown.Refused c)) x t)
      (sym (subst (λ (y : Result (ItemId × List ℕ) CallError). FoundPlace s.volume.items y (place_at to s)) e (finds.is s h))) (s, (refl, refl), S.stays x s h, h);
})
place_off S id to q fail.OutOfMemory x r finds e d i = subst (λ (y : Result Shown CallError). Answers S (IsBelowAt id i) (rename_item to i) x y x) (sym d) (no_memory S (IsBelowAt id i) (rename_item to i) x)

-- whether an item may move there

abbrev Checks : List Item → ItemId → ItemId → List ℕ → Result (Unit {0}) CallError → Type 0
Checks items id parent name r = IsChecked r (move_refused items id parent name)

-- the ids that the definitions cite
same_move : (id parent : ItemId) (name : List ℕ) (i : Item) (p : Place) (s : Filter) → IsMoveAt id parent name i p s → (id ≡ i.id) × (parent ≡ p.parent.id) × (name ≡ p.name)
same_move id parent name i p s h = (own_id s.volume.items id i h.item.there, own_id s.volume.items parent p.parent h.place.there, sym h.named)

refused_is : (id parent : ItemId) (name : List ℕ) (i : Item) (p : Place) (s : Filter) → IsMoveAt id parent name i p s → move_refused s.volume.items id parent name ≡ move_refused s.volume.items i.id p.parent.id p.name
refused_is id parent name i p s h = let e = same_move id parent name i p s h in λ j. move_refused s.volume.items (e.0 j) (e.1 j) (e.2 j)

pub move_on : {X : Type 0} (S : Sense X) (id parent : ItemId) (name : List ℕ) (t : Table) (q : Result (Unit {0}) CallError) (u : Unit {0}) (x new : X) (r : Result Shown CallError)
    → HasRows S x t → ((items : List Item) (i : Item) → MeansAll t.rows items → IsTree items → item_of items id ≡ Some i → Checks items id parent name q) → q ≡ Ok u
    → ((i : Item) (p : Place) → Answers S (MayMoveAt id parent name i p) (changing (move_of i p) done) x r new) → (i : Item) (p : Place) → Answers S (IsMoveAt id parent name i p) (rename_to i p) x r new
move_on S id parent name t q u x new r rows check e a i p = record {
  leads = λ s h at.
      let free : move_refused s.volume.items id parent name ≡ None =
      subst (λ (y : Result (Unit {0}) CallError). Checks s.volume.items id parent name y) e (check s.volume.items i (rows.rows s h) (S.good x s h).volume.tree at.item.there) in
      subst (λ (o : Option Code). (t : Filter) × Does (unless shown.Refused (first_of (test_of o)) (changing (move_of i p) done) s) r t × S.moved x new s t × After S x r new t) (sym free ∙ refused_is id parent name i p s at)
      ((a i p).leads s h (record { move = at; free = free }));
}

pub move_off : {X : Type 0} (S : Sense X) (id parent : ItemId) (name : List ℕ) (t : Table) (q : Result (Unit {0}) CallError) (e : CallError) (x : X) (r : Result Shown CallError)
    → HasRows S x t → ((items : List Item) (i : Item) → MeansAll t.rows items → IsTree items → item_of items id ≡ Some i → Checks items id parent name q) → q ≡ Err e → r ≡ refusal_of e
    → (i : Item) (p : Place) → Answers S (IsMoveAt id parent name i p) (rename_to i p) x r x
move_off S id parent name t q (fail.No c) x r rows check e d i p = subst (λ (y : Result Shown CallError). Answers S (IsMoveAt id parent name i p) (rename_to i p) x y x) (sym d) (record {
  leads = λ s h at.
      let bad : move_refused s.volume.items id parent name ≡ Some c =
      subst (λ (y : Result (Unit {0}) CallError). Checks s.volume.items id parent name y) e (check s.volume.items i (rows.rows s h) (S.good x s h).volume.tree at.item.there) in
      subst (λ (o : Option Code). (t : Filter) × Does {A = Shown} (unless shown.Refused (first_of (test_of o)) (changing (move_of i p) done) s) (Ok (shown.Refused c)) t × S.moved x x s t × After {A = Shown} S x (Ok (shown.Refused c)) x t)
      (sym bad ∙ refused_is id parent name i p s at) (s, (refl, refl), S.stays x s h, h);
})
move_off S id parent name t q fail.OutOfMemory x r rows check e d i p = subst (λ (y : Result Shown CallError). Answers S (IsMoveAt id parent name i p) (rename_to i p) x y x) (sym d) (no_memory S (IsMoveAt id parent name i p) (rename_to i p) x)

-- the change

moves_are : (id parent : ItemId) (name : List ℕ) (i : Item) (p : Place) (s : Filter) (b : Bool) → IsMoveAt id parent name i p s → b ≡ stands_in parent name i → when (not b) (change.Move id parent name ∷ []) ≡ move_of i p
moves_are id parent name i p s b h e =
    let k = same_move id parent name i p s h in
    ap (λ (c : Bool). when (not c) (change.Move id parent name ∷ [])) e
    ∙ (λ j. when (not ((i.parent.0 == (k.1 j).0) && same i.name (k.2 j))) (change.Move (k.0 j) (k.1 j) (k.2 j) ∷ []))

move_suits : (id parent : ItemId) (name : List ℕ) (i : Item) (p : Place) (s : Filter) → MayMoveAt id parent name i p s → Suits (change.Move id parent name) s.volume
move_suits id parent name i p s h = record {
  fits = λ k d j q. name_short name h.move.place.named;
  needs = record {};
  plants = (h.move.item.below, h.move.place.named, open_at (item_of s.volume.items parent) h.move.place.there, h.free);
  lasts = record {};
} where
  open_at : (o : Option Item) → o ≡ Some p.parent → MatchOption o ⊥ IsOpenDirectory
  open_at o e = subst (λ (q : Option Item). MatchOption q ⊥ IsOpenDirectory) (sym e) h.move.place.opened

pub moved_by : {X : Type 0} (S : Sense X) (id parent : ItemId) (name : List ℕ) (b : Bool) (cs : List Change) (x new : X) (r : Result Shown CallError)
    → ReadsAt S id (stands_in parent name) x b → cs ≡ when (not b) (change.Move id parent name ∷ []) → Answers S (Suiting cs) (changing cs done) x r new
    → (i : Item) (p : Place) → Answers S (MayMoveAt id parent name i p) (changing (move_of i p) done) x r new
moved_by S id parent name b cs x new r reads e a i p = record {
  leads = λ s h at.
      let k : cs ≡ move_of i p = e ∙ moves_are id parent name i p s b at.move (reads.is s i h at.move.item.there) in
      subst (λ (l : List Change). (t : Filter) × Does (changing l done s) r t × S.moved x new s t × After S x r new t) k
      (a.leads s h (subst (λ (l : List Change). Suiting l s) (sym e) (suits b s at)));
} where
  suits : (b : Bool) (s : Filter) → MayMoveAt id parent name i p s → Suiting (when (not b) (change.Move id parent name ∷ [])) s
  suits true s at = record {}
  suits false s at = (move_suits id parent name i p s at, record {})
