-- A change of the items leaves them well kept.
use Rattle.std.proofs.Common.{◌≡◌, ℕ, ◌+◌, ◌-◌, ◌≤◌, Bool, true, false, cond, List, [], ◌∷◌, ◌++◌, map, refl, sym, ap, ◌∙◌, subst, arith, ◌==◌}
use Rattle.std.specs.Prelude.{Option, Some, None, Result, Ok, Err, OnErr, OnOk, count_by, sum_by}
use Rattle.std.proofs.lemmas.List.Sums.{sum_by_push}
use Rattle.cf_base.specs.declared.ids.Rid.{Rid}
use Rattle.cf_model.specs.Growth.{CountsFrom}
use Rattle.cf_model.specs.Store.{Stored, at_rid, stored_at, trimmed}
use Rattle.cf_model.specs.Words.{says}
use Rattle.cf_remote.specs.Held.{grown, held_len}
use Rattle.cf_remote.specs.Order.{IsIndexed, IsShelf, StandInDirectories}
use Rattle.cf_remote.proofs.Directories.{directories_at, directories_mapped, directories_more, grown_kinds, trimmed_kinds}
use Rattle.cf_remote.proofs.Quotas.{count_more}
use Rattle.cf_remote.proofs.Orders.{one_keeps}
use Rattle.cf_remote.proofs.Totals.{grown_keeps, index_kept, live_kept, sum_at, sum_map, trimmed_keeps}

kept_one : (g : Stored → ℕ) (f : Stored → Stored) → ((s : Stored) → g (f s) ≡ g s) → (s : Stored) (b : Bool) → g (cond b (f s) s) ≡ g s
kept_one g f k s true = k s
kept_one g f k s false = refl

-- a change of one item that leaves what is summed of it
sum_kept : (g : Stored → ℕ) (rid : Rid) (f : Stored → Stored) → ((s : Stored) → g (f s) ≡ g s) → (ss : List Stored) → sum_by g (at_rid rid f ss) ≡ sum_by g ss
sum_kept g rid f k ss = sum_map g (λ s. cond (s.rid.0 == rid.0) (f s) s) (λ s. kept_one g f k s (s.rid.0 == rid.0)) ss

abbrev one_live : Stored → ℕ
one_live s = cond s.live 1 0

pub live_there : (o : Option Stored) → says (λ s. s.live) o ≡ true → (s : Stored) × (Some s ≡ o) × (s.live ≡ true)
live_there None e = cc
live_there (Some s) e = (s, refl, e)

-- one item less is live
pub less_live : (items : List Stored) (rid : Rid) (changed : ℕ) → CountsFrom 1 items → says (λ s. s.live) (stored_at items rid) ≡ true
    → count_by (λ s. s.live) (at_rid rid (λ s. record s { live = false; changed = changed }) items) + 1 ≡ count_by (λ s. s.live) items
less_live items rid changed counted live =
    let t = live_there (stored_at items rid) live in
    omega (arith, sum_at one_live rid (λ s. record s { live = false; changed = changed }) items t.0 counted t.1, ap {B = ℕ} (λ (b : Bool). cond b 1 0) t.2)

-- one item more
pub shelf_more : (items : List Stored) (index : List Rid) (live held : ℕ) → IsShelf items index live held → (item : Stored) (new : List Stored) (after : List Rid) (len : ℕ)
    → item.live ≡ true → len ≡ held_len item → sum_by held_len items + held_len item ≤ 536870912 → says (λ s. s.directory) (stored_at items item.parent) ≡ true
    → new ≡ items ++ item ∷ [] → IsIndexed new after → IsShelf new after (live + 1) (held + len)
shelf_more items index live held is item new after len lives holds fits inside e indexed =
    let held_then : sum_by held_len new ≡ sum_by held_len items + held_len item = ap (sum_by held_len) e ∙ sum_by_push held_len items item in
    record {
      indexed = indexed;
      lives = omega (arith, is.lives, ap (count_by (λ (s : Stored). s.live)) e ∙ count_more items item lives);
      holds = omega (arith, is.holds, held_then, holds);
      within = omega (arith, is.holds, fits, holds);
      directories = subst StandInDirectories (sym e) (directories_more items item is.directories inside);
    }

module _ (items : List Stored) (index : List Rid) (live held : ℕ) (is : IsShelf items index live held) (rid : Rid) (new : List Stored) where
  pub shelf_ended : (left : List Rid) (changed : ℕ) → says (λ s. s.live) (stored_at items rid) ≡ true → new ≡ at_rid rid (λ s. record s { live = false; changed = changed }) items
      → IsIndexed new left → IsShelf new left (live - 1) held
  shelf_ended left changed there e indexed =
      let less = less_live items rid changed is.indexed.is.counted there in
      record {
        indexed = indexed;
        lives = omega (arith, is.lives, less, ap (count_by (λ (s : Stored). s.live)) e);
        holds = is.holds ∙ sym (ap (sum_by held_len) e ∙ sum_kept held_len rid (λ s. record s { live = false; changed = changed }) (λ s. refl) items);
        within = is.within;
        directories = subst StandInDirectories (sym e) (directories_at items rid (λ s. record s { live = false; changed = changed }) (λ s. refl) (λ s. refl) is.directories (λ s h. h));
      }

  shelf_placed : (left : List Rid) (parent : Rid) (name : List ℕ) (changed : ℕ) → new ≡ at_rid rid (λ s. record s { parent = parent; name = name; changed = changed }) items
      → IsIndexed new left → says (λ s. s.directory) (stored_at items parent) ≡ true → IsShelf new left live held
  shelf_placed left parent name changed e indexed inside = record {
    indexed = indexed;
    lives = is.lives ∙ sym (ap (count_by (λ (s : Stored). s.live)) e ∙ sum_kept one_live rid (λ s. record s { parent = parent; name = name; changed = changed }) (λ s. refl) items);
    holds = is.holds ∙ sym (ap (sum_by held_len) e ∙ sum_kept held_len rid (λ s. record s { parent = parent; name = name; changed = changed }) (λ s. refl) items);
    within = is.within;
    directories = subst StandInDirectories (sym e) (directories_at items rid (λ s. record s { parent = parent; name = name; changed = changed }) (λ s. refl) (λ s. refl) is.directories (λ s h. inside));
  }

  -- it is placed, or nothing changed
  pub shelf_moved : {E : Type 0} (r : Result (Unit {0}) E) (left : List Rid) (parent : Rid) (name : List ℕ) (changed : ℕ)
      → OnOk r (new ≡ at_rid rid (λ s. record s { parent = parent; name = name; changed = changed }) items) → OnErr r (new ≡ items)
      → IsIndexed new left → says (λ s. s.directory) (stored_at items parent) ≡ true → IsShelf new left live held
  shelf_moved (Ok x) left parent name changed ok err indexed inside = shelf_placed left parent name changed ok indexed inside
  shelf_moved (Err e) left parent name changed ok err indexed inside = record {
    indexed = indexed;
    lives = is.lives ∙ sym (ap (count_by (λ (s : Stored). s.live)) err);
    holds = is.holds ∙ sym (ap (sum_by held_len) err);
    within = is.within;
    directories = subst StandInDirectories (sym err) is.directories;
  }

  pub shelf_grown : (keep : Option ℕ) (bytes : List ℕ) (changed after : ℕ) → new ≡ at_rid rid (grown keep bytes changed) items → after ≡ sum_by held_len (at_rid rid (grown keep bytes changed) items)
      → sum_by held_len (at_rid rid (grown keep bytes changed) items) ≤ 536870912 → IsShelf new index live after
  shelf_grown keep bytes changed after e total fits = record {
    indexed = subst (λ (ss : List Stored). IsIndexed ss index) (sym e) (index_kept (λ s. cond (s.rid.0 == rid.0) (grown keep bytes changed s) s) (one_keeps rid (grown keep bytes changed) (grown_keeps keep bytes changed)) items index is.indexed);
    lives = is.lives ∙ sym (ap (count_by (λ (s : Stored). s.live)) e ∙ live_kept (λ s. cond (s.rid.0 == rid.0) (grown keep bytes changed s) s) (one_keeps rid (grown keep bytes changed) (grown_keeps keep bytes changed)) items);
    holds = total ∙ sym (ap (sum_by held_len) e);
    within = omega (arith, total, fits);
    directories = subst StandInDirectories (sym e) (directories_at items rid (grown keep bytes changed) (grown_keeps keep bytes changed).rid (grown_kinds keep bytes changed) is.directories
        (λ s h. ap (λ (r : Rid). says (λ t. t.directory) (stored_at items r)) ((grown_keeps keep bytes changed).parent s) ∙ h));
  }

pub shelf_trimmed : (items : List Stored) (index : List Rid) (live held : ℕ) → IsShelf items index live held → (new : List Stored) (count after : ℕ) → new ≡ map (trimmed (Some count)) items
    → after ≡ sum_by held_len new → after ≤ held → IsShelf new index live after
shelf_trimmed items index live held is new count after e total le = record {
  indexed = subst (λ (ss : List Stored). IsIndexed ss index) (sym e) (index_kept (trimmed (Some count)) (trimmed_keeps (Some count)) items index is.indexed);
  lives = is.lives ∙ sym (ap (count_by (λ (s : Stored). s.live)) e ∙ live_kept (trimmed (Some count)) (trimmed_keeps (Some count)) items);
  holds = total;
  directories = subst StandInDirectories (sym e) (directories_mapped (trimmed (Some count)) (trimmed_keeps (Some count)).rid (trimmed_kinds (Some count)) items is.directories
      (λ s h k. ap (λ (r : Rid). says (λ t. t.directory) (stored_at items r)) ((trimmed_keeps (Some count)).parent s) ∙ k));
  within = omega (arith, le, is.within);
}
