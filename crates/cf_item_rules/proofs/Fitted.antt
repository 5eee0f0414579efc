-- The changes of a plan fit in turn.
use Rattle.std.proofs.Common.{◌≡◌, ℕ, ◌≤◌, Bool, true, false, cond, not, List, [], ◌∷◌, length, refl, subst, arith, Some, None, Option, Ok, Err, Result}
use Rattle.std.specs.Prelude.{is_some, nat_lt, ◌&&◌}
use Rattle.std.proofs.lemmas.Bool.{ltb-false}
use Rattle.cf_base.specs.Policies.{is_always_full}
use Rattle.cf_base.specs.declared.changes.Change.{Change}
use Rattle.cf_base.specs.declared.changes.Change.TheVariants as change
use Rattle.cf_base.specs.declared.codes.Code.{Code}
use Rattle.cf_base.specs.declared.codes.Code.TheVariants as code
use Rattle.cf_base.specs.declared.ids.ItemId.{ItemId}
use Rattle.cf_base.specs.declared.ids.Usn.{Usn}
use Rattle.cf_base.specs.declared.items.Kind.{Kind}
use Rattle.cf_base.specs.declared.items.Kind.TheVariants as kind
use Rattle.cf_base.specs.declared.policies.Policy.{Policy}
use Rattle.cf_model.specs.Items.{Item, base_of}
use Rattle.cf_model.specs.LookUp.{child_of}
use Rattle.cf_model.specs.Numbers.{no_usn}
use Rattle.cf_model.specs.Plans.{Creation, NewDir, NewFile, NewPlaceholder, NewPlaceholderDir, make_and_mark, placeholder_dir, plan_convert, plan_create, plan_keep, plan_mark, plan_revert, plan_unmark, plan_update, planned}
use Rattle.cf_model.specs.Verdicts.{is_kept_full}
use Rattle.cf_model.specs.Words.{first_of, same, when}
use Rattle.cf_table.specs.Changing.{Fits, IsNewItem}
use Rattle.cf_table.specs.declared.rows.Row.{Row}
use Rattle.cf_item_rules.specs.Fitting.{FitInTurn}

-- what a plan that is made tells of its tests

pub record Passes (t : Option Code) (cs ds : List Change) : Type 0 where
  pub none : t ≡ None
  pub is : cs ≡ ds

passes : (t : Option Code) (cs ds : List Change) → planned t cs ≡ Ok ds → Passes t cs ds
passes None cs ds e = record { none = refl; is = cc }
passes (Some c) cs ds e = let z : ◌≡◌ {A = Result (List Change) Code} (Err c) (Ok ds) = e in absurd cc

abbrev NoneHold : List (Bool × Code) → Type 0
NoneHold [] = Unit {0}
NoneHold (t ∷ ts) = (t.0 ≡ false) × NoneHold ts

none_hold : (tests : List (Bool × Code)) → first_of tests ≡ None → NoneHold tests
none_hold [] e = tt
none_hold (t ∷ ts) e = two t.0 (λ k. none_hold ts k) e where
  two : (b : Bool) → (first_of ts ≡ None → NoneHold ts) → cond b (Some t.1) (first_of ts) ≡ None → (b ≡ false) × NoneHold ts
  two false rest k = (refl, rest k)
  two true rest k = let z : ◌≡◌ {A = Option Code} (Some t.1) None = k in absurd cc

abbrev long : List ℕ → Bool × Code
long identity = (nat_lt 4096 (length identity), code.IdentityTooLong)

-- one change that fits any rows, or none

pub one_fits : (c : Change) (rows : List Row) → Fits c rows → FitInTurn (c ∷ []) rows
one_fits c rows h = (h, λ new l. tt)

pub maybe_fits : (b : Bool) (c : Change) (rows : List Row) → Fits c rows → FitInTurn (when b (c ∷ [])) rows
maybe_fits true c rows h = one_fits c rows h
maybe_fits false c rows h = tt

pub convert_fits : (i : Item) (identity : List ℕ) (cs : List Change) (rows : List Row) → plan_convert i identity ≡ Ok cs → FitInTurn cs rows
convert_fits i identity cs rows e =
    let p = passes _ _ cs e in
    let h = none_hold ((i.placeholder, code.AlreadyPlaceholder) ∷ long identity ∷ []) p.none in
    let le = ltb-false 4096 (length identity) h.1.0 in
    subst (λ l. FitInTurn l rows) p.is (one_fits (change.Convert i.id identity) rows (λ k d lt q. omega arith))

pub revert_fits : (i : Item) (in_use : Bool) (cs : List Change) (rows : List Row) → plan_revert i in_use ≡ Ok cs → FitInTurn cs rows
revert_fits i in_use cs rows e = let p = passes _ _ cs e in subst (λ l. FitInTurn l rows) p.is (one_fits (change.Revert i.id) rows (λ k d lt q. tt))

pub update_fits : (p : Policy) (i : Item) (identity : List ℕ) (size : Option ℕ) (in_use : Bool) (cs : List Change) (rows : List Row) → base_of i ≤ 16777216 → plan_update p i identity size in_use ≡ Ok cs → FitInTurn cs rows
update_fits p i identity None in_use cs rows small e =
    let h = passes _ _ cs e in
    let none = none_hold ((not i.placeholder, code.NotPlaceholder) ∷ long identity ∷ []) h.none in
    let le = ltb-false 4096 (length identity) none.1.0 in
    subst (λ l. FitInTurn l rows) h.is (maybe_fits (not (same i.identity identity)) (change.Rebase i.id identity (base_of i) no_usn) rows (λ k d lt q. (omega arith, small, refl)))
update_fits p i identity (Some size) in_use cs rows small e =
    let h = passes _ _ cs e in
    let none = none_hold (
    (i.directory, code.IsDirectory) ∷ (not i.placeholder, code.NotPlaceholder) ∷ long identity ∷ (is_kept_full p i, code.PolicyDenied) ∷ (not i.in_sync, code.NotInSync)
    ∷ (in_use, code.InUse) ∷ (nat_lt 16777216 size, code.TooLarge) ∷ []) h.none in
    let le = ltb-false 4096 (length identity) none.1.1.0 in
    let fits = ltb-false 16777216 size none.1.1.1.1.1.1.0 in
    subst (λ l. FitInTurn l rows) h.is (one_fits (change.Take i.id identity size) rows (λ k d lt q. (omega arith, fits)))

pub mark_fits : (i : Item) (n : Usn) (cs : List Change) (rows : List Row) → plan_mark i n ≡ Ok cs → FitInTurn cs rows
mark_fits i n cs rows e = let p = passes _ _ cs e in subst (λ l. FitInTurn l rows) p.is (maybe_fits (not i.in_sync) (change.Mark i.id i.number) rows (λ k d lt q. tt))

pub unmark_fits : (i : Item) (cs : List Change) (rows : List Row) → plan_unmark i ≡ Ok cs → FitInTurn cs rows
unmark_fits i cs rows e = let p = passes _ _ cs e in subst (λ l. FitInTurn l rows) p.is (maybe_fits i.in_sync (change.Clear i.id) rows (λ k d lt q. tt))

pub keep_fits : (i : Item) (on : Bool) (cs : List Change) (rows : List Row) → plan_keep i on ≡ Ok cs → FitInTurn cs rows
keep_fits i on cs rows e = let p = passes _ _ cs e in subst (λ l. FitInTurn l rows) p.is (maybe_fits (not (cond on i.keep (not i.keep))) (change.Keep i.id on) rows (λ k d lt q. tt))

-- a new item

made_fits : (item : ItemId) (next : Usn) (parent : ItemId) (name : List ℕ) (kind : Kind) (size : ℕ) (identity : List ℕ) (mark : Bool) (rows : List Row) → IsNewItem item rows → length name ≤ 255 → length identity ≤ 4096 → size ≤ 16777216 →
    FitInTurn (make_and_mark item next parent name kind size identity mark) rows
made_fits item next parent name kind size identity mark rows new named known small =
    ((new, named, omega arith, small), λ after l. maybe_fits mark (change.Mark item next) after (λ k d lt q. tt))

pub create_fits : (items : List Item) (p : Policy) (item : ItemId) (next : Usn) (parent : ItemId) (name : List ℕ) (what : Creation) (cs : List Change) (rows : List Row) → IsNewItem item rows → length name ≤ 255 → plan_create items p item next parent name what ≡ Ok cs →
    FitInTurn cs rows
create_fits items p item next parent name NewFile cs rows new named e =
    let h = passes _ _ cs e in subst (λ l. FitInTurn l rows) h.is (made_fits item next parent name kind.File 0 [] false rows new named (omega arith) (omega arith))
create_fits items p item next parent name NewDir cs rows new named e =
    let h = passes _ _ cs e in subst (λ l. FitInTurn l rows) h.is (made_fits item next parent name kind.Dir 0 [] false rows new named (omega arith) (omega arith))
create_fits items p item next parent name (NewPlaceholder size identity mark) cs rows new named e =
    let h = passes _ _ cs e in
    let none = none_hold (
    (is_some (child_of items parent name), code.Exists) ∷ long identity ∷ (nat_lt 16777216 size, code.TooLarge) ∷ (is_always_full p.hydration && nat_lt 0 size, code.PolicyDenied) ∷ []) h.none in
    subst (λ l. FitInTurn l rows) h.is (made_fits item next parent name kind.PlaceholderFile size identity mark rows new named (ltb-false 4096 (length identity) none.1.0) (ltb-false 16777216 size none.1.1.0))
create_fits items p item next parent name (NewPlaceholderDir identity mark) cs rows new named e =
    let h = passes _ _ cs e in
    let none = none_hold ((is_some (child_of items parent name), code.Exists) ∷ long identity ∷ []) h.none in
    subst (λ l. FitInTurn l rows) h.is (made_fits item next parent name (placeholder_dir p) 0 identity mark rows new named (ltb-false 4096 (length identity) none.1.0) (omega arith))
