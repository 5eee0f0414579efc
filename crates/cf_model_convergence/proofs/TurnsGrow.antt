-- The steps of a feed's turns: their lines only come, and a change or a step that is left out is reported.
use Rattle.std.proofs.Common.{◌≡◌, ◌⊎◌, ◌+◌, Bool, true, false, List, refl, sym, subst, inl, inr}
use Rattle.std.specs.Prelude.{Option, Some, None, not}
use Rattle.cf_base.specs.declared.changes.Change.{Change}
use Rattle.cf_base.specs.declared.changes.Change.TheVariants as change
use Rattle.cf_base.specs.declared.codes.Code.{Code}
use Rattle.cf_base.specs.declared.ids.ItemId.{ItemId}
use Rattle.cf_base.specs.declared.items.SeenPath.{SeenPath}
use Rattle.cf_base.specs.declared.messages.Entry.{Entry}
use Rattle.cf_model.specs.Arrows.{Arrow, Preserves, and_then, only_if, unless_done, when_ok}
use Rattle.cf_model.specs.Books.{Book, with_seen}
use Rattle.cf_model.specs.Changes.{change as put, same_book}
use Rattle.cf_model.specs.ConflictNames.{conflict_name}
use Rattle.cf_model.specs.Feeds.{free_parent, is_under, move_in, name_in_root, stands_in}
use Rattle.cf_model.specs.Items.{Item, item_of}
use Rattle.cf_model.specs.Numbers.{root_id}
use Rattle.cf_model.specs.Skips.{do_change, in_book, is_markable, is_there, number_of_item, left_out, move_off, occupant, try_book, try_change, try_clear_name, try_mark_now, try_seen, why_no_change, why_no_record, tried, skip_line}
use Rattle.cf_model.specs.State.{State, items_now, with_filter}
use Rattle.cf_model.specs.Trees.{Keeps, Ret, bind, Ends}
use Rattle.cf_model.specs.Words.{says}
use Rattle.cf_model.proofs.TreeLaws.{keeps_bind, keeps_mapped, kept_at_end}
use Rattle.cf_model_convergence.specs.Telling.{IsListening, IsTold}
use Rattle.cf_model_convergence.proofs.AddingGuarded.{In, change_adds, line_adds}
use Rattle.cf_model_convergence.proofs.PushesTold.{told_then}
use Rattle.cf_model_convergence.proofs.TurnsTold.{ends_bind, leads_ends, try_told_led}
use Rattle.cf_model_laws.proofs.SkipsGuarded.{Any}
use Rattle.cf_model_convergence.proofs.SinceGuarded.{Follows, itself_follows}

-- lines only come
line_follows : (w : State) (b : Bool) (c : Code) (s : State) → Follows w s → Follows w (skip_line b c s)
line_follows w true c s h = record { adds = line_adds w.filter true c s h.adds; unfair = h.unfair }
line_follows w false c s h = h

abbrev pub Grows : {A : Type 0} → Arrow State A → Type 0
Grows f = (w : State) → Preserves (Follows w) f

tried_grows : (why : State → Option Code) (f : Arrow State (Unit {0})) → Grows f → Grows (tried why f)
tried_grows why f g w = record { keeps = λ s h. by s h (why s) } where
  line : (o : Option Code) (t : State) → Follows w t → Keeps (Follows w) (left_out o t)
  line None t j = j
  line (Some c) t j = line_follows w t.running.shows_skips c (record t { running = record t.running { skips = t.running.skips + 1 } }) (record { adds = j.adds; unfair = j.unfair })

  by : (s : State) → Follows w s → (o : Option Code) → Keeps (Follows w) (bind (unless_done f o s) left_out)
  by s h None = keeps_bind (Follows w) (bind (f s) (λ _ t. Ret None t)) left_out (keeps_bind (Follows w) (f s) (λ _ t. Ret None t) ((g w).keeps s h) (λ a t j. j)) (λ o t j. line o t j)
  by s h (Some c) = line (Some c) s h

pub change_grows : (c : Change) → Grows (try_change c)
change_grows c = tried_grows (why_no_change c) (do_change c) (λ w. record { keeps = λ s h. keeps_mapped (In w.filter) (Follows w) (λ x. with_filter x s) (put c s.filter) (λ x j. record { adds = j; unfair = h.unfair }) (change_adds w.filter same_book c s.filter h.adds) })

pub book_grows : (f : Book → Book) → Grows (try_book f)
book_grows f = tried_grows (why_no_record f) (in_book f) (λ w. record { keeps = λ s h. (h, record { adds = h.adds; unfair = h.unfair }) })

pub if_grows : (b : Bool) (f : Arrow State Bool) → Grows f → Grows (only_if b f)
if_grows true f g w = g w
if_grows false f g w = record { keeps = λ s h. h }

pub then_grows : (f g : Arrow State Bool) → Grows f → Grows g → Grows (and_then f g)
then_grows f g a b w = record { keeps = λ s h. keeps_bind (Follows w) (f s) (when_ok false g) ((a w).keeps s h) (λ done t j. by done t j) } where
  by : (done : Bool) (t : State) → Follows w t → Keeps (Follows w) (when_ok false g done t)
  by true t j = (b w).keeps t j
  by false t j = j

pub state_grows : {A : Type 0} (f : State → Arrow State A) → ((s : State) → Grows (f s)) → Grows (λ s. f s s)
state_grows f k w = record { keeps = λ s h. (k s w).keeps s h }

pub seen_grows : (p : SeenPath) → Grows (try_seen p)
seen_grows p = state_grows (λ s. only_if (is_there p.item s) (try_book (with_seen p))) (λ s. if_grows (is_there p.item s) (try_book (with_seen p)) (book_grows (with_seen p)))

pub mark_grows : (item : ItemId) → Grows (try_mark_now item)
mark_grows item w = record { keeps = λ s h. (if_grows (is_markable item (number_of_item item s) s) (try_change (change.Mark item (number_of_item item s))) (change_grows (change.Mark item (number_of_item item s))) w).keeps s h }

clear_grows : (o : Option Item) → Grows (move_off o)
clear_grows None w = record { keeps = λ s h. h }
clear_grows (Some i) w = record { keeps = λ s h. (change_grows (change.Move i.id i.parent (conflict_name (items_now s) i.parent i.name)) w).keeps s h }

pub names_grow : (parent : ItemId) (name : List _) (but : ItemId) → Grows (try_clear_name parent name but)
names_grow parent name but w = record { keeps = λ s h. (clear_grows (occupant parent name but s) w).keeps s h }

pub free_grows : (i p : Item) → Grows (free_parent i p)
free_grows i p w = record {
  keeps = λ s h. (if_grows (is_under (items_now s) p.id i.id) (try_change (change.Move p.id root_id (name_in_root (items_now s) p))) (change_grows (change.Move p.id root_id (name_in_root (items_now s) p))) w).keeps s h;
}

pub move_grows : (e : Entry) (i p : Item) → Grows (move_in e i p)
move_grows e i p w = record {
  keeps = λ s h. (if_grows (not (says (stands_in p e.name) (item_of (items_now s) i.id))) (try_change (change.Move i.id p.id e.name)) (change_grows (change.Move i.id p.id e.name)) w).keeps s h;
}

-- what is not reported

abbrev pub Clean : Arrow State Bool → (State → State → Type 0) → Type 0
Clean f R = (s : State) (done : Bool) (t : State) → IsListening s → Ends (f s) done t → IsTold s t ⊎ ((done ≡ true) × R s t)

abbrev pub Same : State → State → Type 0
Same s t = t ≡ s

pub change_told : (c : Change) (s : State) (done : Bool) (t : State) → IsListening s → Ends (try_change c s) done t → IsTold s t
change_told c s done t listening e = leads_ends Any (λ d x. IsTold s x) (try_change c s) done t (try_told_led c s listening) e

-- what is reported stays so, whatever comes later
pub told_on : {A : Type 0} (f : Arrow State A) → Grows f → (s m : State) (a : A) (t : State) → IsTold s m → Ends (f m) a t → IsTold s t
told_on f grows s m a t told e = told_then s m t told (kept_at_end (Follows m) (f m) a t ((grows m).keeps m (itself_follows m)) e)

pub then_clean : (f g : Arrow State Bool) (R S : State → State → Type 0) → Clean f R → Grows g → ((s m : State) → R s m → IsListening s → (done : Bool) (t : State) → Ends (g m) done t → IsTold s t ⊎ ((done ≡ true) × S s t)) → Clean (and_then f g) S
then_clean f g R S first grows k s done t listening ends = by x.0 x.1 x.3 (first s x.0 x.1 listening x.2) where
  x : (a : Bool) × (m : State) × Ends (f s) a m × Ends (when_ok false g a m) done t
  x = ends_bind (f s) (when_ok false g) done t ends

  told : (a : Bool) (m : State) → Ends (when_ok false g a m) done t → IsTold s m → IsTold s t
  told true m e z = told_on g grows s m done t z e
  told false m e z = subst (IsTold s) (sym e.1) z

  by : (a : Bool) (m : State) → Ends (when_ok false g a m) done t → IsTold s m ⊎ ((a ≡ true) × R s m) → IsTold s t ⊎ ((done ≡ true) × S s t)
  by a m e (inl z) = inl (told a m e z)
  by a m e (inr z) = k s m z.1 listening done t (subst (λ (b : Bool). Ends (when_ok false g b m) done t) z.0 e)

pub if_same : (b : Bool) (c : Change) → Clean (only_if b (try_change c)) (λ s t. (t ≡ s) × (b ≡ false))
if_same true c s done t listening e = inl (change_told c s done t listening e)
if_same false c s done t listening e = inr (e.0, (e.1, refl))

pub names_same : (parent : ItemId) (name : List _) (but : ItemId) → Clean (try_clear_name parent name but) Same
names_same parent name but s done t listening e = by (occupant parent name but s) e where
  by : (o : Option Item) → Ends (move_off o s) done t → IsTold s t ⊎ ((done ≡ true) × Same s t)
  by None z = inr z
  by (Some i) z = inl (change_told (change.Move i.id i.parent (conflict_name (items_now s) i.parent i.name)) s done t listening z)

pub mark_same : (item : ItemId) → Clean (try_mark_now item) Same
mark_same item s done t listening e = by (is_markable item (number_of_item item s) s) e where
  by : (b : Bool) → Ends (only_if b (try_change (change.Mark item (number_of_item item s))) s) done t → IsTold s t ⊎ ((done ≡ true) × Same s t)
  by true z = inl (change_told (change.Mark item (number_of_item item s)) s done t listening z)
  by false z = inr z
