-- What is done with an item at its turn is what the rules of a pass say.
use Rattle.std.proofs.Common.{◌≡◌, ◌==◌, Bool, true, false, not, List, refl, sym, ◌∙◌, ap, subst}
use Rattle.std.specs.Prelude.{◌&&◌, ◌||◌, Result, Ok, Option, Some, None}
use Rattle.cf_base.specs.declared.codes.CallError.{CallError}
use Rattle.cf_base.specs.declared.ids.ItemId.{ItemId}
use Rattle.cf_base.specs.declared.ids.Rid.{Rid}
use Rattle.cf_base.specs.declared.ids.Usn.{Usn}
use Rattle.cf_engine_steps.specs.Answering.{Answers, Any, On, Whole}
use Rattle.cf_engine_steps.specs.BookReads.{has_entry_in}
use Rattle.cf_engine_steps.specs.Marks.{IsParentTarget, IsTarget, StandsIf}
use Rattle.cf_engine_steps.specs.States.{Means, Own, whole}
use Rattle.cf_engine_steps.proofs.Laws.{returned}
use Rattle.cf_engine_uploads.proofs.Trees.{on_tree, same_at, under}
use Rattle.cf_engine_uploads.specs.Turns.{IsCase, IsLeftOut, IsTurn, PlansTurn, done_by, is_nothing}
use Rattle.cf_engine_uploads.specs.declared.turns.Course.{Course}
use Rattle.cf_engine_uploads.specs.declared.turns.Course.TheVariants.{Nothing, New, Moved, Changed, Settled}
use Rattle.cf_filter_steps.proofs.RowReads.{row_gone, row_there}
use Rattle.cf_filter_steps.specs.Answering as steps
use Rattle.cf_filter_steps.specs.Answering.{IsAt}
use Rattle.cf_filter_steps.specs.Finding.{HasRows}
use Rattle.cf_model.specs.Arrows.{choose, ret, unit}
use Rattle.cf_model.specs.Books.{MoveItem}
use Rattle.cf_model.specs.Identities.{is_untargeted, stands_at_seen}
use Rattle.cf_model.specs.Items.{Item, is_dirty}
use Rattle.cf_model.specs.LookUp.{is_excluded}
use Rattle.cf_model.specs.Numbers.{same_usn}
use Rattle.cf_model.specs.PushReplies.{has_item, whatever}
use Rattle.cf_model.specs.Pushes.{has_entry, is_left_out, mark_item, push_by_case, push_here, push_item, push_turn, push_unless, upload, upload_new}
use Rattle.cf_model.specs.Skips.{is_markable, mark_if, may_mark, number_of_item}
use Rattle.cf_model.specs.State.{State, book_now, items_now}
use Rattle.cf_model.specs.Trees.{Tree, bind}
use Rattle.cf_model.specs.Words.{says}
use Rattle.cf_remote.specs.Told.{Told}
use Rattle.cf_table.specs.Means.{Means as MeansItem}
use Rattle.cf_table.specs.Tables.{MeansAll, Table, row_of}
use Rattle.cf_table.specs.declared.rows.Row.{Row}
use Rattle.cf_tree.proofs.Walks.{own_id}
use Rattle.cf_tree.specs.Trees.{IsTree}

-- whether it is left out
pub left_out_by : {X R : Type 0} (S : steps.Sense X) (told : R → Told) (x : X) (e : Own R) (t : Table) (row : Row) (b sent held excluded : Bool) (parent : Rid) → HasRows S x t → b ≡ ((row.id.0 == 1) || sent || held || excluded || (parent.0 == 0)) → steps.Reads S steps.Any (has_entry_in row.id) x sent
    → held ≡ has_item e.volatile.held_items row.id → ((items : List Item) → MeansAll t.rows items → IsTree items → excluded ≡ is_excluded items row.id) → IsParentTarget S row x parent → IsLeftOut (whole S told) row (x, e) b
left_out_by S told x e t row b sent held excluded parent rows is on_way kept out above = record {
  is = λ s i m mi.
      let sent_is : sent ≡ has_entry s i.id = on_way.is s.filter m.filter (record {}) ∙ ap (λ (k : ItemId). has_entry_in k s.filter) mi.id in
      let held_is : held ≡ has_item s.volatile.held_items i.id = kept ∙ (λ j. has_item (m.volatile j).held_items (mi.id j)) in
      let out_is : excluded ≡ is_excluded (items_now s) i.id = out (items_now s) (rows.rows s.filter m.filter) (S.good x s.filter m.filter).volume.tree ∙ ap (is_excluded (items_now s)) mi.id in
      is ∙ (λ j. ((mi.id j).0 == 1) || sent_is j || held_is j || out_is j || ((above.is s.filter i m.filter mi j).0 == 0));
}

-- one in sync is not marked

unmarkable : (a b c d e : Bool) → b ≡ true → (a && not b && c && d && e) ≡ false
unmarkable true true c d e q = refl
unmarkable true false c d e q = let z : false ≡ true = q in absurd cc
unmarkable false b c d e q = refl

not_marked : (s : State) (i : Item) → IsAt i.id i s.filter → i.in_sync ≡ true → ret unit s ≡ mark_item i.id s
not_marked s i there synced =
    let n : Usn = number_of_item i.id s in
    let none : is_markable i.id n s ≡ false = ap (says (may_mark (items_now s) (book_now s) n)) there ∙ unmarkable (same_usn i.number n) i.in_sync (not (is_dirty i)) (not (is_untargeted i)) (stands_at_seen (items_now s) (book_now s) i) synced in
    ap (λ (b : Bool). bind (mark_if i.id n b s) (λ a t. whatever a t)) (sym none)

-- the first case that holds

module _ {X : Type 0} (S : steps.Sense X) (x : X) (row : Row) (target : Rid) (to : IsTarget row target) where
  to_none : (b : Bool) → (target.0 == 0) ≡ b → (i : Item) → MeansItem row i → b ≡ is_untargeted i
  to_none b e i m = sym e ∙ ap (λ (k : Rid). k.0 == 0) (to.is i m)

  abbrev by_target : Bool → Item → Bool → Bool → State → Tree State (Unit {0})
  by_target a i b d s = choose a (upload_new i) (choose (not b) (push_item MoveItem i) (choose d (upload i) (mark_item i.id))) s

  pub new_case : (target.0 == 0) ≡ true → IsCase S row x New
  new_case e = record { is = λ s i m mi there. ap (λ (a : Bool). by_target a i (stands_at_seen (items_now s) (book_now s) i) (is_dirty i) s) (to_none true e i mi) }

  module _ (e : (target.0 == 0) ≡ false) (at : Bool) (stands : StandsIf S row x at) where
    other_case : (b d : Bool) → at ≡ b → (s : State) (i : Item) → S.means x s.filter → MeansItem row i → d ≡ is_dirty i → by_target false i b d s ≡ push_by_case i s
    other_case b d is s i m mi dirty = λ j. by_target (to_none false e i mi j) i ((sym is ∙ stands.is s.filter i m mi) j) (dirty j) s

    pub moved_case : at ≡ false → IsCase S row x Moved
    moved_case is = record { is = λ s i m mi there. other_case false (is_dirty i) is s i m mi refl }

    pub changed_case : at ≡ true → row.dirty ≡ true → IsCase S row x Changed
    changed_case is dirty = record { is = λ s i m mi there. other_case true true is s i m mi (sym dirty ∙ mi.bytes.dirty) }

    pub settled_case : at ≡ true → row.dirty ≡ false → IsCase S row x Settled
    settled_case is dirty = record { is = λ s i m mi there. other_case true false is s i m mi (sym dirty ∙ mi.bytes.dirty) }

    pub resting_case : at ≡ true → row.dirty ≡ false → row.in_sync ≡ true → IsCase S row x Nothing
    resting_case is dirty synced = record { is = λ s i m mi there. not_marked s i there (sym mi.in_sync ∙ synced) ∙ other_case true false is s i m mi (sym dirty ∙ mi.bytes.dirty) }

-- the turn

turn_of : (c : Course) (id : ItemId) (i : Item) (s : State) → IsAt id i s.filter → done_by c i s ≡ push_turn id s → IsTurn c id s
turn_of Nothing id i s at e = e
turn_of New id i s at e = (i, at, e)
turn_of Moved id i s at e = (i, at, e)
turn_of Changed id i s at e = (i, at, e)
turn_of Settled id i s at e = (i, at, e)

module _ {X R : Type 0} (S : steps.Sense X) (told : R → Told) (x : X) (e : Own R) (t : Table) (id : ItemId) (rows : HasRows S x t) where
  pub turn_gone : row_of t.rows id ≡ None → PlansTurn (whole S told) id (x, e) Nothing
  turn_gone none = record { is = λ s m. ap (λ (o : Option Item). push_here o s) (sym (row_gone t.rows (items_now s) id (rows.rows s.filter m.filter) none)) }

  own : (s : State) (i : Item) → IsAt id i s.filter → IsAt i.id i s.filter
  own s i at = subst (λ (k : ItemId). IsAt k i s.filter) (own_id s.filter.volume.items id i at) at

  pub turn_nothing : (row : Row) (c : Course) → row_of t.rows id ≡ Some row → IsCase S row x c → is_nothing c ≡ true → PlansTurn (whole S told) id (x, e) Nothing
  turn_nothing row c is case none = record {
    is = λ s m.
        let r = row_there t.rows (items_now s) id row (rows.rows s.filter m.filter) is in
        unless_here r.0 s (is_left_out s r.0) (done_nothing c none r.0 s ∙ case.is s r.0 m.filter r.2 (own s r.0 r.1)) ∙ ap (λ (o : Option Item). push_here o s) (sym r.1);
  }
    where
      done_nothing : (d : Course) → is_nothing d ≡ true → (i : Item) (s : State) → ret unit s ≡ done_by d i s
      done_nothing Nothing q i s = refl
      done_nothing New q i s = let z : false ≡ true = q in absurd cc
      done_nothing Moved q i s = let z : false ≡ true = q in absurd cc
      done_nothing Changed q i s = let z : false ≡ true = q in absurd cc
      done_nothing Settled q i s = let z : false ≡ true = q in absurd cc

      unless_here : (i : Item) (s : State) (b : Bool) → ret unit s ≡ push_by_case i s → ret unit s ≡ push_unless i b s
      unless_here i s true q = refl
      unless_here i s false q = q

  module _ (row : Row) (is : row_of t.rows id ≡ Some row) (b : Bool) (left : IsLeftOut (whole S told) row (x, e) b) where
    turn_by : (d : Bool) → b ≡ d → (s : State) → Means S told x e s → (i : Item) × IsAt id i s.filter × MeansItem row i × (push_unless i d s ≡ push_turn id s)
    turn_by d e s m =
        let r = row_there t.rows (items_now s) id row (rows.rows s.filter m.filter) is in
        (r.0, r.1, r.2, ap (λ (a : Bool). push_unless r.0 a s) (sym e ∙ left.is s r.0 m r.2) ∙ ap (λ (o : Option Item). push_here o s) (sym r.1))

    pub turn_left_out : b ≡ true → PlansTurn (whole S told) id (x, e) Nothing
    turn_left_out e = record { is = λ s m. (turn_by true e s m).3 }

    pub turn_case : (c : Course) → b ≡ false → IsCase S row x c → PlansTurn (whole S told) id (x, e) c
    turn_case c e case = record { is = λ s m. let r = turn_by false e s m in turn_of c id r.0 s r.1 (case.is s r.0 m.filter r.2 (own s r.0 r.1) ∙ r.3) }

-- what is done

module _ {X : Type 0} (W : Whole X) (id : ItemId) (x : X) (c : Course) (plan : PlansTurn W id x c) where
  plan_is : (k : Course) → c ≡ k → PlansTurn W id x k
  plan_is k e = subst (PlansTurn W id x) e plan

  pub does_nothing : c ≡ Nothing → Answers W Any (push_turn id) x (Ok unit) x
  does_nothing e = same_at W x (Ok unit) x Any (ret unit) (push_turn id) (λ s m p. (plan_is Nothing e).is s m) (returned W Any unit x)

  module _ (y : X) (r : Result (Unit {0}) CallError) where
    does_by : (k : Course) → ((s : State) → W.means x s → (i : Item) × IsAt id i s.filter × (done_by k i s ≡ push_turn id s)) → ((i : Item) → Answers W (On (IsAt id i)) (done_by k i) x r y) → Answers W Any (push_turn id) x r y
    does_by k turn h = record { leads = λ s m p. let w = turn s m in on_tree W x r y s (done_by k w.0 s) (push_turn id s) w.2 ((h w.0).leads s m w.1) }

    pub does_new : c ≡ New → ((i : Item) → Answers W (On (IsAt id i)) (upload_new i) x r y) → Answers W Any (push_turn id) x r y
    does_new e h = does_by New (λ s m. (plan_is New e).is s m) h

    pub does_move : c ≡ Moved → ((i : Item) → Answers W (On (IsAt id i)) (push_item MoveItem i) x r y) → Answers W Any (push_turn id) x r y
    does_move e h = does_by Moved (λ s m. (plan_is Moved e).is s m) h

    pub does_upload : c ≡ Changed → ((i : Item) → Answers W (On (IsAt id i)) (upload i) x r y) → Answers W Any (push_turn id) x r y
    does_upload e h = does_by Changed (λ s m. (plan_is Changed e).is s m) h

    pub does_mark : c ≡ Settled → Answers W Any (mark_item id) x r y → Answers W Any (push_turn id) x r y
    does_mark e h = does_by Settled (λ s m. (plan_is Settled e).is s m)
        (λ i. same_at W x r y (On (IsAt id i)) (mark_item id) (mark_item i.id) (λ s m at. ap (λ (k : ItemId). mark_item k s) (own_id s.filter.volume.items id i at)) (under W x r y Any (On (IsAt id i)) (mark_item id) (λ s m p. record {}) h))
