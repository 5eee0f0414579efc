-- The steps of a turn: each is done, or it is left out and counted.
use Rattle.std.proofs.Common.{◌≡◌, ◌<◌, ◌≤◌, ◌+◌, ℕ, Bool, true, false, List, refl, sym, ◌∙◌, ap, subst, inl, inr, arith}
use Rattle.std.specs.Prelude.{Option, Some, None}
use Rattle.cf_base.specs.declared.changes.Change.{Change}
use Rattle.cf_base.specs.declared.changes.Change.TheVariants as change
use Rattle.cf_base.specs.declared.codes.Code.{Code}
use Rattle.cf_base.specs.declared.ids.ItemId.{ItemId}
use Rattle.cf_base.specs.declared.ids.Usn.{Usn}
use Rattle.cf_base.specs.declared.items.SeenPath.{SeenPath}
use Rattle.cf_model.specs.Arrows.{Arrow, and_then, only_if, unless_done, when_ok}
use Rattle.cf_model.specs.Books.{with_seen}
use Rattle.cf_model.specs.ConflictNames.{conflict_name}
use Rattle.cf_model.specs.Items.{Item}
use Rattle.cf_model.specs.Skips.{do_change, in_book, is_markable, is_there, left_out, move_off, number_of_item, occupant, skip_line, skipped, try_book, try_change, try_clear_name, try_mark_now, try_seen, why_no_change, why_no_record, with_book}
use Rattle.cf_model.specs.State.{State, items_now}
use Rattle.cf_model.specs.Trees.{Asked, Ends, Fork, Ret, Step, Tree, bind}
use Rattle.cf_model_laws.proofs.Leading.{Leads}
use Rattle.cf_model_laws.proofs.RightItems.{no_way}
use Rattle.cf_model_laws.proofs.SkipsGuarded.{Any, Led, do_led}

-- ends of trees

pub ends_bind : {S A B : Type 0} (p : Tree S A) (g : A → S → Tree S B) (b : B) (t : S) → Ends (bind p g) b t → (a : A) × (m : S) × Ends p a m × Ends (g a m) b t
ends_bind (Ret a s) g b t h = (a, s, (refl, refl), h)
ends_bind (Step s p) g b t h = ends_bind p g b t h
ends_bind (Fork p q) g b t (inl h) = let k = ends_bind p g b t h in (k.0, k.1, inl k.2, k.3)
ends_bind (Fork p q) g b t (inr h) = let k = ends_bind q g b t h in (k.0, k.1, inr k.2, k.3)
ends_bind (Asked f) g b t h = let k = ends_bind (f h.0) g b t h.1 in (k.0, k.1, (h.0, k.2), k.3)

pub leads_ends : {S A : Type 0} (P : S → Type 0) (Q : A → S → Type 0) (p : Tree S A) (a : A) (t : S) → Leads P Q p → Ends p a t → Q a t
leads_ends P Q (Ret a s) b t h e = subst (λ x. Q x t) (sym e.0) (subst (λ y. Q a y) (sym e.1) h)
leads_ends P Q (Step s p) b t h e = leads_ends P Q p b t h.1 e
leads_ends P Q (Fork p q) b t h (inl e) = leads_ends P Q p b t h.0 e
leads_ends P Q (Fork p q) b t h (inr e) = leads_ends P Q q b t h.1 e
leads_ends P Q (Asked f) b t h e = leads_ends P Q (f e.0) b t (h e.0) e.1

-- so many steps were left out

abbrev pub skips : State → ℕ
skips s = s.running.skips

-- where all is done the property holds, else one more step is left out
abbrev pub Leaves : ℕ → (State → Type 0) → Tree State Bool → Type 0
Leaves n H p = (d : Bool) (t : State) → Ends p d t → (n ≤ skips t) × (d ≡ true → H t) × (d ≡ false → n < skips t)

clash : {A : Type 0} → true ≡ false → A
clash z = cc

pub leaves_now : (n : ℕ) (H : State → Type 0) (s : State) → n ≤ skips s → H s → Leaves n H (Ret true s)
leaves_now n H s few h d t e =
    subst (λ (x : State). (n ≤ skips x) × (d ≡ true → H x) × (d ≡ false → n < skips x)) (sym e.1) (few, (λ _. h), λ z. clash (sym e.0 ∙ z))

pub leaves_weaker : (n : ℕ) (H K : State → Type 0) → ((t : State) → H t → K t) → (p : Tree State Bool) → Leaves n H p → Leaves n K p
leaves_weaker n H K k p h d t e = let z = h d t e in (z.0, (λ q. k t (z.1 q)), z.2)

pub leaves_then : (n : ℕ) (H K : State → Type 0) (f g : Arrow State Bool) (s : State) → Leaves n H (f s) → ((t : State) → n ≤ skips t → H t → Leaves n K (g t)) → Leaves n K (and_then f g s)
leaves_then n H K f g s first next d t e = let k = ends_bind (f s) (when_ok false g) d t e in by k.0 k.1 (first k.0 k.1 k.2) k.3 where
  by : (a : Bool) (m : State) → (n ≤ skips m) × (a ≡ true → H m) × (a ≡ false → n < skips m) → Ends (when_ok false g a m) d t → (n ≤ skips t) × (d ≡ true → K t) × (d ≡ false → n < skips t)
  by true m k z = next m k.0 (k.1 refl) d t z
  by false m k z = subst (λ (x : State). (n ≤ skips x) × (d ≡ true → K x) × (d ≡ false → n < skips x)) (sym z.1) (k.0, (λ y. no_way (sym z.0 ∙ y)), λ _. k.2 refl)

pub leaves_if : (n : ℕ) (H : State → Type 0) (b : Bool) (f : Arrow State Bool) (s : State) → n ≤ skips s → (b ≡ true → Leaves n H (f s)) → (b ≡ false → H s) → Leaves n H (only_if b f s)
leaves_if n H true f s few one none = one refl
leaves_if n H false f s few one none = leaves_now n H s few (none refl)

-- a step is left out
skip_more : (b : Bool) (c : Code) (s : State) → skips (skip_line b c s) ≡ skips s
skip_more true c s = refl
skip_more false c s = refl

more_skips : (n m k : ℕ) → n ≤ m → k ≡ m + 1 → n < k
more_skips n m k h e = omega (arith, h, e)

less_equal : (n m : ℕ) → n < m → n ≤ m
less_equal n m h = omega (arith, h)

left_leaves : (n : ℕ) (H : State → Type 0) (c : Code) (s : State) → n ≤ skips s → Leaves n H (left_out (Some c) s)
left_leaves n H c s few d t e =
    let more : n < skips t = subst (λ (x : State). n < skips x) (sym e.1) (more_skips n (skips s) (skips (skipped c s)) few (skip_more s.running.shows_skips c (record s { running = record s.running { skips = s.running.skips + 1 } }))) in
    (less_equal n (skips t) more, (λ z. no_way (sym e.0 ∙ z)), λ _. more)

-- steps

pub change_leaves : (n : ℕ) (H : State → Type 0) (c : Change) (s : State) → n ≤ skips s → ((t : State) → Led c s t → H t) → Leaves n H (try_change c s)
change_leaves n H c s few after = by (why_no_change c s) where
  by : (o : Option Code) → Leaves n H (bind (unless_done (do_change c) o s) left_out)
  by None d t e =
      let k = ends_bind (bind (do_change c s) (λ _ m. Ret None m)) left_out d t e in
      let j = ends_bind (do_change c s) (λ _ m. Ret None m) k.0 k.1 k.2 in
      let led : Led c s j.1 = leads_ends Any (λ u x. Led c s x) (do_change c s) j.0 j.1 (do_led c s) j.2 in
      let at : Led c s k.1 = subst (Led c s) (sym j.3.1) led in
      ended k.0 k.1 d t j.3.0 at k.3 where
        ended : (o : Option Code) (m : State) (d : Bool) (t : State) → o ≡ None → Led c s m → Ends (left_out o m) d t → (n ≤ skips t) × (d ≡ true → H t) × (d ≡ false → n < skips t)
        ended None m d t q led z =
            let at : Led c s t = subst (Led c s) (sym z.1) led in
            (subst (λ (k : ℕ). n ≤ k) (sym (ap (λ r. r.skips) at.running)) few, (λ _. after t at), λ y. clash (sym z.0 ∙ y))
        ended (Some x) m d t q led z = let y : ◌≡◌ {A = Option Code} (Some x) None = q in absurd cc
  by (Some x) d t e = left_leaves n H x s few d t e

pub seen_leaves : (n : ℕ) (H : State → Type 0) (p : SeenPath) (s : State) → n ≤ skips s → (is_there p.item s ≡ true → H (with_book (with_seen p) s)) → (is_there p.item s ≡ false → H s) → Leaves n H (try_seen p s)
seen_leaves n H p s few seen none = leaves_if n H (is_there p.item s) (try_book (with_seen p)) s few (λ q. by (why_no_record (with_seen p) s) q) none where
  by : (o : Option Code) → is_there p.item s ≡ true → Leaves n H (bind (unless_done (in_book (with_seen p)) o s) left_out)
  by None q = leaves_now n H (with_book (with_seen p) s) few (seen q)
  by (Some x) q = left_leaves n H x s few

pub mark_leaves : (n : ℕ) (H : State → Type 0) (item : ItemId) (s : State) → n ≤ skips s → H s → ((m : Usn) (t : State) → Led (change.Mark item m) s t → H t) → Leaves n H (try_mark_now item s)
mark_leaves n H item s few h marked =
    leaves_if n H (is_markable item (number_of_item item s) s) (try_change (change.Mark item (number_of_item item s))) s few (λ q. change_leaves n H (change.Mark item (number_of_item item s)) s few (marked (number_of_item item s))) (λ q. h)

pub clear_leaves : (n : ℕ) (H : State → Type 0) (parent : ItemId) (name : List ℕ) (but : ItemId) (s : State) → n ≤ skips s → H s → ((id to : ItemId) (called : List ℕ) (t : State) → Led (change.Move id to called) s t → H t) → Leaves n H (try_clear_name parent name but s)
clear_leaves n H parent name but s few h moved = by (occupant parent name but s) where
  by : (o : Option Item) → Leaves n H (move_off o s)
  by None = leaves_now n H s few h
  by (Some i) = change_leaves n H (change.Move i.id i.parent (conflict_name (items_now s) i.parent i.name)) s few (moved i.id i.parent (conflict_name (items_now s) i.parent i.name))
