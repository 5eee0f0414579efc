-- The parts of `Placements` keep identities named.
use Rattle.std.proofs.Common.{◌≡◌, inl, false, true, refl}
use Rattle.std.specs.Prelude.{ℕ, Bool, List, [], ◌∷◌, Option, Some, None, is_some, not, cond}
use Rattle.cf_base.specs.declared.answers.Shown.{Shown}
use Rattle.cf_base.specs.declared.answers.Shown.TheVariants as shown
use Rattle.cf_base.specs.declared.changes.Change.{Change}
use Rattle.cf_base.specs.declared.changes.Change.TheVariants as change
use Rattle.cf_base.specs.declared.codes.Code.{Code}
use Rattle.cf_base.specs.declared.codes.Code.TheVariants as code
use Rattle.cf_base.specs.declared.ids.ItemId.{ItemId}
use Rattle.cf_base.specs.declared.ids.Usn.{Usn}
use Rattle.cf_base.specs.declared.items.Kind.{Kind}
use Rattle.cf_base.specs.declared.items.Kind.TheVariants as kind
use Rattle.cf_model.specs.Arrows.{Arrow, Preserves, ret, then_do, unit}
use Rattle.cf_model.specs.Calls.{place_at}
use Rattle.cf_model.specs.Changes.{changes, next_number}
use Rattle.cf_model.specs.Effects.{is_directory, is_populated}
use Rattle.cf_model.specs.Items.{Item}
use Rattle.cf_model.specs.LookUp.{child_of, Place}
use Rattle.cf_model.specs.Operations.{done}
use Rattle.cf_model.specs.Placements.{asking, asking_tests, create, create_at, keep_full, keep_item, make_planned, mark, next_item, settle_changed, show_item}
use Rattle.cf_model.specs.Plans.{Creation, make_and_mark, NewDir, NewFile, NewPlaceholder, NewPlaceholderDir, plan, planned}
use Rattle.cf_model.specs.Requests.{Nothing}
use Rattle.cf_model.specs.State.{Filter}
use Rattle.cf_model.specs.Waits.{on_ok}
use Rattle.cf_model.specs.Words.{first_of, when}
use Rattle.cf_model.proofs.ArrowLaws.{keeps_reading, keeps_ret, keeps_then}
use Rattle.cf_model_laws.specs.Invariant.{All}
use Rattle.cf_model_laws.proofs.RightItems.{no_way}
use Rattle.cf_pair_identities.specs.Named.{Gives, NamedIn}
use Rattle.cf_pair_identities.proofs.CallsNamed as calls_named
use Rattle.cf_pair_identities.proofs.NamedKinds.{when_give}
use Rattle.cf_pair_identities.proofs.NamedSteps.{changes_keeps, settled_named}
use Rattle.cf_pair_identities.proofs.OperationsNamed as operations_named
use Rattle.cf_pair_identities.proofs.WaitsNamed as waits_named

pub show_item_keeps : (full : Bool) → (x1 : List Change) → All (Gives full) x1 → (x2 : ItemId) → Preserves (NamedIn full) (show_item x1 x2)
show_item_keeps full cs g item = calls_named.changing_keeps full cs g (ret (shown.Item item)) (keeps_ret (NamedIn full) (shown.Item item))

pub make_planned_keeps : (full : Bool) → (x1 : List Change) → All (Gives full) x1 → Preserves (NamedIn full) (make_planned x1)
make_planned_keeps full cs g = keeps_reading (NamedIn full) next_item (show_item cs) (show_item_keeps full cs g)

-- a plan, where its changes give no identity
planned_keeps : (full : Bool) (f : List Change → Arrow Filter Shown) (o : Option Code) (cs : List Change) → Preserves (NamedIn full) (f cs) → Preserves (NamedIn full) (on_ok f (planned o cs))
planned_keeps full f None cs k = k
planned_keeps full f (Some c) cs k = keeps_ret (NamedIn full) (shown.Refused c)

make_keeps : (full : Bool) (tests : List (Bool × Code)) (item : ItemId) (next : Usn) (parent : ItemId) (name : List ℕ) (kind : Kind) (size : ℕ) → (is_directory kind ≡ true → is_populated kind ≡ true)
    → Preserves (NamedIn full) (on_ok make_planned (plan tests (make_and_mark item next parent name kind size [] false)))
make_keeps full tests item next parent name kind size filled =
    planned_keeps full make_planned (first_of tests) (make_and_mark item next parent name kind size [] false) (make_planned_keeps full (make_and_mark item next parent name kind size [] false) ((inl refl, λ _ d. filled d), tt))

-- the new items of an application have no identity
abbrev pub IsPlain : Creation → Type 0
IsPlain NewFile = Unit {0}
IsPlain NewDir = Unit {0}
IsPlain _ = ⊥

pub create_at_keeps : (full : Bool) → (x1 : Creation) → IsPlain x1 → (x2 : Place) → Preserves (NamedIn full) (create_at x1 x2)
create_at_keeps full NewFile g p = record {
  keeps = λ s h. (make_keeps full ((is_some (child_of s.volume.items p.parent.id p.name), code.Exists) ∷ []) s.volume.next_item (next_number s.volume) p.parent.id p.name kind.File 0 (λ d. no_way d)).keeps s h;
}
create_at_keeps full NewDir g p = record {
  keeps = λ s h. (make_keeps full ((is_some (child_of s.volume.items p.parent.id p.name), code.Exists) ∷ []) s.volume.next_item (next_number s.volume) p.parent.id p.name kind.Dir 0 (λ d. refl)).keeps s h;
}
create_at_keeps full (NewPlaceholder size identity mark) g p = absurd g
create_at_keeps full (NewPlaceholderDir identity mark) g p = absurd g

pub create_keeps : (full : Bool) → (x1 : List ℕ) → (x2 : Creation) → IsPlain x2 → Preserves (NamedIn full) (create x1 x2)
create_keeps full path what g = keeps_reading (NamedIn full) (place_at path) (on_ok (create_at what)) (waits_named.on_ok_keeps full (create_at what) (create_at_keeps full what g))

pub settle_changed_keeps : (full : Bool) → (x1 : ItemId) → (x2 : List Change) → Preserves (NamedIn full) (settle_changed x1 x2)
settle_changed_keeps full item [] = keeps_ret (NamedIn full) unit
settle_changed_keeps full item (c ∷ cs) = settled_named full item Nothing

pub asking_keeps : (full : Bool) → (x1 : ItemId) → (x2 : Arrow Filter Shown) → (Preserves (NamedIn full) (x2)) → (x3 : List Change) → All (Gives full) x3 → Preserves (NamedIn full) (asking x1 x2 x3)
asking_keeps full item answer answer_keeps cs g = operations_named.checked_keeps full (asking_tests item cs) (then_do (changes cs) (then_do (settle_changed item cs) answer)) (keeps_then (NamedIn full) (changes cs) (then_do (settle_changed item cs) answer) (changes_keeps full cs g) (keeps_then (NamedIn full) (settle_changed item cs) answer (settle_changed_keeps full item cs) answer_keeps))

pub keep_item_keeps : (full : Bool) → (x1 : Bool) → (x2 : Item) → Preserves (NamedIn full) (keep_item x1 x2)
keep_item_keeps full on i =
    let cs : List Change = when (not (cond on i.keep (not i.keep))) (change.Keep i.id on ∷ []) in
    planned_keeps full (asking i.id done) (first_of ((i.directory, code.IsDirectory) ∷ (not i.placeholder, code.NotPlaceholder) ∷ [])) cs
    (asking_keeps full i.id done (operations_named.done_keeps full) cs (when_give full (not (cond on i.keep (not i.keep))) (change.Keep i.id on ∷ []) (tt, tt)))

pub keep_full_keeps : (full : Bool) → (x1 : List ℕ) → (x2 : Bool) → Preserves (NamedIn full) (keep_full x1 x2)
keep_full_keeps full path on = waits_named.on_path_keeps full path (keep_item on) (keep_item_keeps full on)
