-- Entries of a directory that are given, as parts of the whole.
use Rattle.std.proofs.Common.{◌≡◌, true, List, refl, ◌∙◌, ap, subst, map}
use Rattle.std.specs.Prelude.{Result, Ok, Err, Option, Some, None}
use Rattle.cf_base.specs.declared.answers.Shown.{Shown}
use Rattle.cf_base.specs.declared.answers.Shown.TheVariants as shown
use Rattle.cf_base.specs.declared.codes.Code.{Code}
use Rattle.cf_base.specs.declared.codes.CallError.{CallError}
use Rattle.cf_base.specs.declared.ids.Key.{Key}
use Rattle.cf_base.specs.declared.items.SeenPath.{SeenPath}
use Rattle.cf_base.specs.declared.messages.Entry.{Entry}
use Rattle.cf_base.specs.declared.operations.NewItem.{NewItem}
use Rattle.cf_base.specs.declared.operations.Operation.{Operation}
use Rattle.cf_base.specs.declared.operations.Operation.TheVariants as operation
use Rattle.cf_engine_messages.specs.Listings.{AreListed}
use Rattle.cf_engine_messages.specs.Refusals.{refusal_of}
use Rattle.cf_engine_messages.proofs.Operated.{as_arrow, quiet_op}
use Rattle.cf_engine_provider.specs.Listings.{AreAlike, known_in, paths_from}
use Rattle.cf_engine_provider.specs.Parts.{give_entries}
use Rattle.cf_engine_provider.proofs.Heard.{left_of, listing_by}
use Rattle.cf_engine_steps.specs.Answering.{After, Answers, Any}
use Rattle.cf_engine_steps.specs.States.{Own, whole}
use Rattle.cf_engine_steps.proofs.Laws.{fails_first, goes_any, returned}
use Rattle.cf_engine_steps.proofs.Lifting.{lift_any}
use Rattle.cf_filter_steps.specs.Answering as steps
use Rattle.cf_filter_steps.specs.Finding.{HasRows}
use Rattle.cf_model.specs.Arrows.{ret, unit}
use Rattle.cf_model.specs.Fetching.{after_listing, new_item_of, take_listing}
use Rattle.cf_model.specs.Fits.{Known}
use Rattle.cf_model.specs.Items.{Item}
use Rattle.cf_model.specs.Operations.{execute_with}
use Rattle.cf_model.specs.Ports.{seeing}
use Rattle.cf_model.specs.State.{State, in_filter}
use Rattle.cf_model.specs.Trees.{Does, Tree}
use Rattle.cf_remote.specs.Told.{Told}
use Rattle.cf_table.specs.Tables.{MeansAll, Table}

pub not_refused : (key : Key) (a : Shown) → refusal_of a ≡ None → after_listing key a ≡ ret unit
not_refused key (shown.Refused d) e = let bad : ◌≡◌ {A = Option Code} (Some d) None = e in cc
not_refused key a e = refl

module _ {X R : Type 0} (S : steps.Sense X) (told : R → Told) (key : Key) (list : List NewItem) (seen : List SeenPath) where
  abbrev op : Operation
  op = operation.Entries key list true

  gives : (x y z : X) (e d : Own R) (a : Shown) (r : Result (Unit {0}) CallError) → steps.Answers S steps.Any (execute_with (seeing seen) op) x (Ok a) y → Answers (whole S told) Any (after_listing key a) (y, e) r (z, d) → Answers (whole S told) Any (give_entries key list seen) (x, e) r (z, d)
  gives x y z e d a r h k = goes_any (whole S told) Any (in_filter (execute_with (seeing seen) op)) (after_listing key) (x, e) (y, e) (z, d) a r (lift_any S told (execute_with (seeing seen) op) x y e (Ok a) (quiet_op (seeing seen) op) h) k

  pub gives_none : (x y : X) (e : Own R) (a : Shown) → steps.Answers S steps.Any (execute_with (seeing seen) op) x (Ok a) y → refusal_of a ≡ None → Answers (whole S told) Any (give_entries key list seen) (x, e) (Ok unit) (y, e)
  gives_none x y e a h none = gives x y y e e a (Ok unit) h (as_arrow (whole S told) (ret unit) (after_listing key a) (y, e) (y, e) (Ok unit) (not_refused key a none) (returned (whole S told) Any unit (y, e)))

  pub gives_refused : (x y z : X) (e d : Own R) (a : Shown) (c : Code) (r : Result (Unit {0}) CallError) → steps.Answers S steps.Any (execute_with (seeing seen) op) x (Ok a) y → a ≡ shown.Refused c → Answers (whole S told) Any (after_listing key (shown.Refused c)) (y, e) r (z, d)
      → Answers (whole S told) Any (give_entries key list seen) (x, e) r (z, d)
  gives_refused x y z e d a c r h is k = gives x y z e d a r h (as_arrow (whole S told) (after_listing key (shown.Refused c)) (after_listing key a) (y, e) (z, d) r (ap (after_listing key) is) k)

  pub gives_fails : (x y : X) (e : Own R) (c : CallError) → steps.Answers S steps.Any (execute_with (seeing seen) op) x (Err c) y → Answers (whole S told) Any (give_entries key list seen) (x, e) (Err c) (y, e)
  gives_fails x y e c h = fails_first (whole S told) Any (in_filter (execute_with (seeing seen) op)) (after_listing key) (x, e) (y, e) c (lift_any S told (execute_with (seeing seen) op) x y e (Err c) (quiet_op (seeing seen) op) h)

-- what is taken of entries

pub listed_by : {X : Type 0} (S : steps.Sense X) (x : X) (t : Table) (l : List Known) (es new : List Entry) (list : List NewItem) (seen : List SeenPath) → HasRows S x t → ((items : List Item) → MeansAll t.rows items → AreAlike l (known_in items))
    → new ≡ left_of l es → list ≡ map new_item_of new → seen ≡ paths_from t.next.0 new → AreListed S es x (list, seen)
listed_by S x t l es new list seen rows alike left items paths = record {
  takes = λ key s m.
      (λ j. give_entries key ((items ∙ ap (map new_item_of) left) j) ((paths ∙ ap (paths_from t.next.0) left) j) s)
      ∙ listing_by key l t.next es s (alike s.filter.volume.items (rows.rows s.filter m)) (rows.next s.filter m);
}

pub takes_listed : {X R : Type 0} (S : steps.Sense X) (told : R → Told) (key : Key) (es : List Entry) (x y : X) (e f : Own R) (list : List NewItem) (seen : List SeenPath) (r : Result (Unit {0}) CallError) → AreListed S es x (list, seen)
    → Answers (whole S told) Any (give_entries key list seen) (x, e) r (y, f) → Answers (whole S told) Any (take_listing key es) (x, e) r (y, f)
takes_listed S told key es x y e f list seen r h k = record {
  leads = λ s i any.
      subst (λ (p : Tree State (Unit {0})). (t : State) × Does p r t × (whole S told).moved (x, e) (y, f) s t × After (whole S told) (x, e) r (y, f) s t) (h.takes key s i.filter) (k.leads s i any);
}
