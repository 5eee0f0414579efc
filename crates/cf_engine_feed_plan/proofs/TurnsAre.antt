-- The turn that is worked out is the one that the rules of feeds say.
use Rattle.std.proofs.Common.{◌≡◌, ◌≤◌, ℕ, Bool, true, false, not, cond, List, [], length, refl, sym, ◌∙◌, ap, ap₂, subst, eqb, Some, None, Option}
use Rattle.std.specs.Prelude.{find, nat_lt, ◌&&◌, ◌||◌}
use Rattle.std.specs.List.{list_any}
use Rattle.std.proofs.lemmas.Bool.{and_parts, eqb-false, eqb-true, ne_eqb}
use Rattle.cf_base.specs.declared.ids.ItemId.{ItemId}
use Rattle.cf_base.specs.declared.items.SeenPath.{SeenPath}
use Rattle.cf_base.specs.declared.messages.Entry.{Entry}
use Rattle.cf_base.specs.declared.policies.Policy.{Policy}
use Rattle.cf_model.specs.Books.{seen_of}
use Rattle.cf_model.specs.Feeds.{changed_unless, comes_again, gone, gone_unless, is_later, is_newer, is_parent, is_under, known, parent_here, take_turn, taken, turn_by, unknown}
use Rattle.cf_model.specs.Identities.{by_target, has_target, target_of}
use Rattle.cf_model.specs.Items.{Item, item_of}
use Rattle.cf_model.specs.LookUp.{child_of, children, line_up}
use Rattle.cf_model.specs.Skips.{in_use}
use Rattle.cf_model.specs.State.{State, book_now, items_now}
use Rattle.cf_model.specs.Trees.{Ret, Tree, bind}
use Rattle.cf_model.specs.Words.{is_empty, says}
use Rattle.cf_engine_feed_plan.specs.Lists.{changed_turn, gone_steps, gone_turn, has_child, known_turn, new_steps, turn_steps, unknown_turn}
use Rattle.cf_engine_feed_plan.specs.Lists as lists
use Rattle.cf_engine_feed_plan.specs.Premises.{IsOf, IsProper, Knows}
use Rattle.cf_engine_feed_plan.specs.Turns.{IsTurn, do_steps}
use Rattle.cf_engine_feed_plan.specs.declared.entry_steps.Turn.TheVariants.{Nothing, Postponed, Later, Do}
use Rattle.cf_engine_feed_plan.proofs.ListsAre.{gone_is, new_is}
use Rattle.cf_engine_feed_plan.proofs.MovesAre.{MayMove, changed_is, flipped}
use Rattle.cf_table.specs.Tables.{Table}
use Rattle.cf_tree.proofs.Depths.{line_root, only}
use Rattle.cf_tree.proofs.Walks.{by_own_id, found_passes, same_item_id}
use Rattle.cf_tree.specs.Trees.{IsTree}

-- the item and the parent of an entry

pub item_there : (items : List Item) (e : Entry) (i : Item) → IsTree items → by_target items e.rid ≡ Some i → item_of items i.id ≡ Some i
item_there items e i t h = by_own_id 1 (λ j. has_target j e.rid) items i t.order h

pub parent_there : (items : List Item) (e : Entry) (p : Item) → IsTree items → find (is_parent e) items ≡ Some p → item_of items p.id ≡ Some p
parent_there items e p t h = by_own_id 1 (is_parent e) items p t.order h

two_apart : (items : List Item) (e : Entry) (i p : Item) → IsProper e → IsTree items → by_target items e.rid ≡ Some i → find (is_parent e) items ≡ Some p → eqb i.id.0 p.id.0 ≡ false
two_apart items e i p proper t h k = ne_eqb i.id.0 p.id.0 (λ same.
    let ids : i.id ≡ p.id = same_item_id i.id p.id same in
    let one : i ≡ p = only i p (sym (item_there items e i t h) ∙ ap (λ (v : ItemId). item_of items v) ids ∙ parent_there items e p t k) in
    let mine : (target_of i).0 ≡ e.rid.0 = eqb-true (target_of i).0 e.rid.0 (and_parts (nat_lt 0 e.rid.0) (eqb (target_of i).0 e.rid.0) (found_passes (λ j. has_target j e.rid) items i h)).1 in
    let passes : is_parent e p ≡ true = found_passes (is_parent e) items p k in
    let of_parent : has_target p e.parent ≡ true = (and_parts (has_target p e.parent) (p.directory && p.populated) (grouped (has_target p e.parent) p.directory p.populated passes)).0 in
    let its : (target_of p).0 ≡ e.parent.0 = eqb-true (target_of p).0 e.parent.0 (and_parts (nat_lt 0 e.parent.0) (eqb (target_of p).0 e.parent.0) of_parent).1 in
    eqb-false e.rid.0 e.parent.0 proper (sym mine ∙ ap (λ (v : Item). (target_of v).0) one ∙ its)) where
      grouped : (a b c : Bool) → ((a && b) && c) ≡ true → (a && (b && c)) ≡ true
      grouped true b c q = q
      grouped false b c q = q

-- the root is under no other item
root_not_under : (items : List Item) (i p : Item) → eqb i.id.0 p.id.0 ≡ false → item_of items p.id ≡ Some p → is_under items p.id i.id ≡ true → eqb p.id.0 1 ≡ false
root_not_under items i p apart there under = ne_eqb p.id.0 1 (λ root.
    let line : line_up (length items) items (item_of items p.id) ≡ [] = ap (λ (o : Option Item). line_up (length items) items o) there ∙ line_root (length items) items p root in
    let none : is_under items p.id i.id ≡ false = ap₂ (λ (b : Bool) (l : List ℕ). b || list_any (λ k. eqb k i.id.0) l) (flipped p.id.0 i.id.0 apart) line in
    let z : true ≡ false = sym under ∙ none in absurd cc)

may_move : (items : List Item) (e : Entry) (i p : Item) → IsProper e → IsTree items → by_target items e.rid ≡ Some i → find (is_parent e) items ≡ Some p → MayMove items i p
may_move items e i p proper t h k = record {
  rises = t.order;
  here = item_there items e i t h;
  apart = two_apart items e i p proper t h k;
  away = root_not_under items i p (two_apart items e i p proper t h k) (parent_there items e p t k);
}

-- at its turn now

or_true : (last b : Bool) → b ≡ false → (last || not b) ≡ true
or_true true b e = refl
or_true false b e = ap not e

not_later : (e : Entry) (s : State) (o : Option Item) → by_target (items_now s) e.rid ≡ o → says (comes_again s e) o ≡ false → is_later s e ≡ false
not_later e s o h n = ap (λ v. says (comes_again s e) v) h ∙ n

live_stays : (e : Entry) (s : State) (o : Option Item) → e.live ≡ true → says (comes_again s e) o ≡ false
live_stays e s None l = refl
live_stays e s (Some i) l = ap (λ b. not b && i.directory && not (is_empty (children (items_now s) i.id)) && not (in_use s i.id)) l

now_live : (last : Bool) (e : Entry) (s : State) → e.live ≡ true → (last || not (is_later s e)) ≡ true
now_live last e s l = or_true last (is_later s e) (live_stays e s (by_target (items_now s) e.rid) l)

-- an entry that is not known

unknown_is : (last : Bool) (e : Entry) (s : State) (p : Option Item) → 2 ≤ s.filter.volume.next_item.0 → by_target (items_now s) e.rid ≡ None → parent_here s e ≡ p →
    IsTurn last e s (unknown_turn s.filter.policy s.filter.volume.next_item (items_now s) e p)
unknown_is last e s None le h k = (or_true last (is_later s e) (not_later e s None h refl), sym (ap₂ (λ o q. turn_by e o q s) h k ∙ two e.live)) where
  two : (b : Bool) → unknown b e None s ≡ Ret false s
  two true = refl
  two false = refl
unknown_is last e s (Some p) le h k = two e.live refl where
  turned : take_turn e s ≡ unknown e.live e (Some p) s
  turned = ap₂ (λ o q. turn_by e o q s) h k

  two : (b : Bool) → e.live ≡ b → IsTurn last e s (cond b (Do (new_steps s.filter.policy s.filter.volume.next_item (items_now s) e p.id)) Nothing)
  two true l = (now_live last e s l, ap (λ (t : Tree State Bool). bind t taken) (new_is e p s (child_of (items_now s) p.id e.name) le) ∙ sym (turned ∙ ap (λ b. unknown b e (Some p) s) l))
  two false l = (or_true last (is_later s e) (not_later e s None h refl), sym (turned ∙ ap (λ b. unknown b e (Some p) s) l))

-- one that is gone

later_so : (l d c u : Bool) → (l && d && c && not u) ≡ ((l && (d && c)) && not u)
later_so true true c u = refl
later_so true false c u = refl
later_so false d c u = refl

and_none : (b : Bool) → (b && false) ≡ false
and_none true = refl
and_none false = refl

and_all : (b : Bool) → (b && true) ≡ b
and_all true = refl
and_all false = refl

removed_or_not : (e : Entry) (s : State) (i : Item) → take_turn e s ≡ gone_unless i false s → bind (do_steps (gone_steps (items_now s) i) s) taken ≡ take_turn e s
removed_or_not e s i turned = ap (λ (t : Tree State Bool). bind t taken) (gone_is (items_now s) i s) ∙ sym turned

again_or_not : (last : Bool) (e : Entry) (s : State) (i : Item) (b : Bool) → is_later s e ≡ b → take_turn e s ≡ gone_unless i false s → IsTurn last e s (cond (not last && b) Later (Do (gone_steps (items_now s) i)))
again_or_not true e s i b h k = (refl, removed_or_not e s i k)
again_or_not false e s i true h k = (refl, h)
again_or_not false e s i false h k = (ap not h, removed_or_not e s i k)

gone_turn_is : (last : Bool) (e : Entry) (s : State) (i : Item) → by_target (items_now s) e.rid ≡ Some i → take_turn e s ≡ gone i s → IsTurn last e s (gone_turn last (in_use s i.id) (items_now s) e i)
gone_turn_is last e s i h turned = two (in_use s i.id) refl where
  later : is_later s e ≡ ((not e.live && (i.directory && has_child (items_now s) i.id)) && not (in_use s i.id))
  later = ap (λ v. says (comes_again s e) v) h ∙ later_so (not e.live) i.directory (has_child (items_now s) i.id) (in_use s i.id)

  two : (u : Bool) → in_use s i.id ≡ u → IsTurn last e s (cond u Postponed (cond (not last && (not e.live && (i.directory && has_child (items_now s) i.id))) Later (Do (gone_steps (items_now s) i))))
  two true q = (
    or_true last (is_later s e) (later ∙ ap (λ v. (not e.live && (i.directory && has_child (items_now s) i.id)) && not v) q ∙ and_none (not e.live && (i.directory && has_child (items_now s) i.id))),
    sym (turned ∙ ap (λ v. gone_unless i v s) q),
  )
  two false q = again_or_not last e s i (not e.live && (i.directory && has_child (items_now s) i.id))
      (later ∙ ap (λ v. (not e.live && (i.directory && has_child (items_now s) i.id)) && not v) q ∙ and_all (not e.live && (i.directory && has_child (items_now s) i.id)))
      (turned ∙ ap (λ v. gone_unless i v s) q)

-- one that is changed

changed_turn_is : (last : Bool) (e : Entry) (s : State) (i p : Item) (seen : Option SeenPath) → e.live ≡ true → seen ≡ seen_of (book_now s) i.id → MayMove (items_now s) i p → take_turn e s ≡ changed_unless e i p (is_newer i e && in_use s i.id) s →
    IsTurn last e s (changed_turn (in_use s i.id) (items_now s) seen e i p)
changed_turn_is last e s i p seen live at m turned = two (is_newer i e && in_use s i.id) refl where
  two : (b : Bool) → (is_newer i e && in_use s i.id) ≡ b → IsTurn last e s (cond b Postponed (Do (lists.changed_steps (items_now s) seen e i p)))
  two true q = (now_live last e s live, sym (turned ∙ ap (λ v. changed_unless e i p v s) q))
  two false q = (now_live last e s live, ap (λ (t : Tree State Bool). bind t taken) (changed_is e i p seen s at m) ∙ sym (turned ∙ ap (λ v. changed_unless e i p v s) q))

known_is : (last : Bool) (e : Entry) (s : State) (i : Item) (p : Option Item) (seen : Option SeenPath) → IsProper e → IsTree (items_now s) → seen ≡ seen_of (book_now s) i.id → by_target (items_now s) e.rid ≡ Some i → parent_here s e ≡ p →
    IsTurn last e s (known_turn last (in_use s i.id) (items_now s) seen e i p)
known_is last e s i None seen proper t at h k = gone_turn_is last e s i h (ap₂ (λ o q. turn_by e o q s) h k ∙ two e.live) where
  two : (b : Bool) → known b e i None s ≡ gone i s
  two true = refl
  two false = refl
known_is last e s i (Some p) seen proper t at h k = two e.live refl where
  turned : take_turn e s ≡ known e.live e i (Some p) s
  turned = ap₂ (λ o q. turn_by e o q s) h k

  two : (b : Bool) → e.live ≡ b → IsTurn last e s (cond b (changed_turn (in_use s i.id) (items_now s) seen e i p) (gone_turn last (in_use s i.id) (items_now s) e i))
  two true l = changed_turn_is last e s i p seen l at (may_move (items_now s) e i p proper t h k) (turned ∙ ap (λ b. known b e i (Some p) s) l)
  two false l = gone_turn_is last e s i h (turned ∙ ap (λ b. known b e i (Some p) s) l)

-- each entry

pub turn_is : (t : Table) (policy : Policy) (item parent : Option ItemId) (seen : Option SeenPath) (used last : Bool) (e : Entry) (s : State) → IsProper e → IsOf t policy s → Knows item parent seen used e s →
    IsTurn last e s (turn_steps policy t.next last used (items_now s) seen e (by_target (items_now s) e.rid) (parent_here s e))
turn_is t policy item parent seen used last e s proper of ks = cases (by_target (items_now s) e.rid) refl where
  cases : (o : Option Item) → by_target (items_now s) e.rid ≡ o → IsTurn last e s (turn_steps policy t.next last used (items_now s) seen e o (parent_here s e))
  cases None h = subst (λ v. IsTurn last e s v) (sym (ap₂ (λ q n. unknown_turn q n (items_now s) e (parent_here s e)) of.ruled of.next))
      (unknown_is last e s (parent_here s e) (subst (λ (v : ItemId). 2 ≤ v.0) of.next of.some) h refl)
  cases (Some i) h = subst (λ v. IsTurn last e s v) (sym (ap (λ u. known_turn last u (items_now s) seen e i (parent_here s e)) (ks.is_used i h)))
      (known_is last e s i (parent_here s e) seen proper of.tree (ks.is_seen i h) h refl)
