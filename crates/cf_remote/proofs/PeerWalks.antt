-- The way of a peer event by the names of a path.
use Rattle.std.proofs.Common.{◌≡◌, ℕ, List, [], ◌∷◌, Bool, true, false, refl, sym, ap, ◌∙◌}
use Rattle.std.specs.Prelude.{Option, Some, None, Result, Ok, Err, nat_le, nat_lt, not, ◌≤◌, length}
use Rattle.std.specs.List.{list_all}
use Rattle.std.proofs.lemmas.Bool.{and_parts, leb-true}
use Rattle.cf_base.specs.Names.{is_name_byte}
use Rattle.cf_base.specs.declared.answers.Shown.{Shown}
use Rattle.cf_base.specs.declared.codes.Code.{Code}
use Rattle.cf_base.specs.declared.codes.Code.TheVariants as code
use Rattle.cf_base.specs.declared.messages.Entry.{Entry}
use Rattle.cf_model.specs.Arrows.{Arrow, choose}
use Rattle.cf_model.specs.LookUp.{bad_names}
use Rattle.cf_model.specs.Peers.{at_parent, at_path, below_root, if_found, in_dir, listing, look, named, refused, root_entry, unless_bad}
use Rattle.cf_model.specs.State.{State}
use Rattle.cf_model.specs.Texts.{is_name}
use Rattle.cf_model.specs.Words.{first_of, is_empty}
use Rattle.cf_remote.specs.LookUps.{Comes, DoesPart, parent_from, parent_of}
use Rattle.cf_remote.specs.Peers.{Stands}
use Rattle.cf_remote.specs.Told.{Told}
use Rattle.cf_remote.specs.declared.stops.Stop.{Stop}
use Rattle.cf_remote.specs.declared.stops.Stop.TheVariants as stop
use Rattle.cf_remote.proofs.PeerParts.{comes_as, comes_done, comes_ended, comes_refused, comes_then}

-- one name, from an entry on
abbrev pub step_part : Entry → List ℕ → (Entry → Arrow State Shown) → Arrow State Shown
step_part at name f = in_dir at (listing at.rid (λ es. if_found f (named name es)))

-- the way so far, and one more name
module _ (way rest : Arrow State Shown) (next : ℕ) (s : State) (old : Told) (at : Entry) (mid : Told) (name : List ℕ) (f : Entry → Arrow State Shown)
    (so_far : Comes {A = Unit {0}} way (λ u. rest) next s old (Ok (record {})) mid) (is : rest ≡ step_part at name f) where
  pub walk_on : (e : Entry) (new : Told) → DoesPart {A = Entry} {B = Entry} (step_part at name) (λ x. x) mid (Ok e) new → Comes {A = Entry} way f next s old (Ok e) new
  walk_on e new h = comes_then way rest f next s old mid (Ok e) new so_far (λ t st. comes_as rest (step_part at name f) f next t mid (Ok e) new is (h f next t st))

  pub walk_ended : {B : Type 0} (more : B → Arrow State Shown) (e : Stop) (new : Told) → DoesPart {A = Entry} {B = Entry} (step_part at name) (λ x. x) mid (Err e) new → Comes {A = B} way more next s old (Err e) new
  walk_ended more e new h = comes_then way rest more next s old mid (Err e) new so_far
      (λ t st. comes_as rest (step_part at name f) more next t mid (Err e) new is (comes_ended (step_part at name f) f more next t mid e new (h f next t st)))

-- the way is at its end
pub walk_done : (way : Arrow State Shown) (f : Entry → Arrow State Shown) (next : ℕ) (s : State) (old : Told) (at : Entry) (mid : Told) (names : List (List ℕ))
    → Comes {A = Unit {0}} way (λ u. look f at names) next s old (Ok (record {})) mid → names ≡ [] → Comes {A = Entry} way f next s old (Ok at) mid
walk_done way f next s old at mid names so_far e = comes_then way (look f at names) f next s old mid (Ok at) mid so_far
    (λ t st. comes_done (look f at names) f next t mid at (ap (look f at) e) st)

-- what the next name is looked up by
pub look_step : (f : Entry → Arrow State Shown) (at : Entry) (names : List (List ℕ)) (bytes name : List ℕ) (ns : List (List ℕ)) → names ≡ name ∷ ns → bytes ≡ name
    → look f at names ≡ step_part at bytes (λ x. look f x ns)
look_step f at names bytes name ns e same = ap (look f at) e ∙ ap (λ (b : List ℕ). step_part at b (λ x. look f x ns)) (sym same)

pub parent_step : (f : Entry × List ℕ → Arrow State Shown) (at : Entry) (first : List ℕ) (names : List (List ℕ)) (bytes name : List ℕ) (ns : List (List ℕ)) → names ≡ name ∷ ns → bytes ≡ first
    → parent_from f at first names ≡ step_part at bytes (λ x. parent_from f x name ns)
parent_step f at first names bytes name ns e same = ap (parent_from f at first) e ∙ ap (λ (b : List ℕ). step_part at b (λ x. parent_from f x name ns)) (sym same)

-- the first name, where the way to the directory begins
pub parent_start : (f : Entry × List ℕ → Arrow State Shown) (names : List (List ℕ)) (name : List ℕ) (ns : List (List ℕ)) (at : Entry) → names ≡ name ∷ ns → at ≡ root_entry
    → parent_of f names ≡ parent_from f at name ns
parent_start f names name ns at e same = ap (parent_of f) e ∙ ap (λ (x : Entry). parent_from f x name ns) (sym same)

-- the last name, where it ends
pub parent_end : (way : Arrow State Shown) (f : Entry × List ℕ → Arrow State Shown) (next : ℕ) (s : State) (old : Told) (at : Entry) (name : List ℕ) (mid : Told) (names : List (List ℕ))
    → Comes {A = Unit {0}} way (λ u. parent_from f at name names) next s old (Ok (record {})) mid → names ≡ [] → Comes {A = Unit {0}} way (λ u. in_dir at (f (at, name))) next s old (Ok (record {})) mid
parent_end way f next s old at name mid names so_far e = comes_then way (parent_from f at name names) (λ (u : Unit {0}). in_dir at (f (at, name))) next s old mid (Ok (record {})) mid so_far
    (λ t st. comes_done (parent_from f at name names) (λ (u : Unit {0}). in_dir at (f (at, name))) next t mid (record {}) (ap (parent_from f at name) e) st)

-- a path that is looked up

pub path_bad : {A : Type 0} (f : Entry → Arrow State Shown) (rest : A → Arrow State Shown) (names : List (List ℕ)) (c : Code) (next : ℕ) (s : State) (old : Told) → bad_names names ≡ Some c → Stands next old s
    → Comes (at_path names f) rest next s old (Err (stop.Refused c)) old
path_bad f rest names c next s old e st = comes_refused (at_path names f) rest next s old c (ap (λ (o : Option Code). unless_bad o (look f root_entry names)) e) st

pub path_good : {A : Type 0} (f : Entry → Arrow State Shown) (rest : A → Arrow State Shown) (names : List (List ℕ)) (next : ℕ) (s : State) (old : Told) (r : Result A Stop) (new : Told) → bad_names names ≡ None
    → Comes (look f root_entry names) rest next s old r new → Comes (at_path names f) rest next s old r new
path_good f rest names next s old r new e h = comes_as (at_path names f) (look f root_entry names) rest next s old r new (ap (λ (o : Option Code). unless_bad o (look f root_entry names)) e) h

pub root_refused : {A : Type 0} (f : Entry → Arrow State Shown) (rest : A → Arrow State Shown) (names : List (List ℕ)) (next : ℕ) (s : State) (old : Told) → is_empty names ≡ true → Stands next old s
    → Comes (below_root names f) rest next s old (Err (stop.Refused code.BadPath)) old
root_refused f rest [] next s old e st = comes_refused (below_root [] f) rest next s old code.BadPath refl st
root_refused f rest (n ∷ ns) next s old e st = cc

pub root_passed : {A : Type 0} (f : Entry → Arrow State Shown) (rest : A → Arrow State Shown) (names : List (List ℕ)) (next : ℕ) (s : State) (old : Told) (r : Result A Stop) (new : Told) → is_empty names ≡ false
    → Comes (at_path names f) rest next s old r new → Comes (below_root names f) rest next s old r new
root_passed f rest [] next s old r new e h = cc
root_passed f rest (n ∷ ns) next s old r new e h = h

-- the directory of a path

parent_is : (f : Entry × List ℕ → Arrow State Shown) (names : List (List ℕ)) → bad_names names ≡ None → at_parent names (λ e n. f (e, n)) ≡ parent_of f names
parent_is f [] e = refl
parent_is f (n ∷ ns) e = ap (λ (o : Option Code). unless_bad o (parent_from f root_entry n ns)) e

pub parent_good : {A : Type 0} (f : Entry × List ℕ → Arrow State Shown) (rest : A → Arrow State Shown) (names : List (List ℕ)) (next : ℕ) (s : State) (old : Told) (r : Result A Stop) (new : Told) → bad_names names ≡ None
    → Comes (parent_of f names) rest next s old r new → Comes (at_parent names (λ e n. f (e, n))) rest next s old r new
parent_good f rest names next s old r new e h = comes_as (at_parent names (λ e n. f (e, n))) (parent_of f names) rest next s old r new (parent_is f names e) h

pub parent_bad : {A : Type 0} (f : Entry × List ℕ → Arrow State Shown) (rest : A → Arrow State Shown) (names : List (List ℕ)) (c : Code) (next : ℕ) (s : State) (old : Told) → bad_names names ≡ Some c → Stands next old s
    → Comes (at_parent names (λ e n. f (e, n))) rest next s old (Err (stop.Refused c)) old
parent_bad f rest [] c next s old e st = cc
parent_bad f rest (n ∷ ns) c next s old e st =
    comes_refused (at_parent (n ∷ ns) (λ e n. f (e, n))) rest next s old c (ap (λ (o : Option Code). unless_bad o (parent_from f root_entry n ns)) e) st

-- the way is at its end, and leads to a directory or to a file
module _ (way : Arrow State Shown) (f : Entry × List ℕ → Arrow State Shown) (next : ℕ) (s : State) (old : Told) (at : Entry) (name : List ℕ) (mid : Told)
    (so_far : Comes {A = Unit {0}} way (λ u. in_dir at (f (at, name))) next s old (Ok (record {})) mid) where
  pub parent_found : at.dir ≡ true → Comes {A = Entry × List ℕ} way f next s old (Ok (at, name)) mid
  parent_found d = comes_then way (in_dir at (f (at, name))) f next s old mid (Ok (at, name)) mid so_far
      (λ t st. comes_done (in_dir at (f (at, name))) f next t mid (at, name) (ap (λ (b : Bool). choose b (f (at, name)) (refused code.NotDirectory)) d) st)

  pub parent_is_file : {B : Type 0} (more : B → Arrow State Shown) → at.dir ≡ false → Comes {A = B} way more next s old (Err (stop.Refused code.NotDirectory)) mid
  parent_is_file more d = comes_then way (in_dir at (f (at, name))) more next s old mid (Err (stop.Refused code.NotDirectory)) mid so_far
      (λ t st. comes_refused (in_dir at (f (at, name))) more next t mid code.NotDirectory (ap (λ (b : Bool). choose b (f (at, name)) (refused code.NotDirectory)) d) st)

-- names that are good

pub name_short : (name : List ℕ) → is_name name ≡ true → length name ≤ 255
name_short name h = leb-true (length name) 255 (and_parts (nat_lt 0 (length name)) (nat_le (length name) 255) (and_parts _ (list_all is_name_byte name) (and_parts _ _ (and_parts _ _ (and_parts _ _ h).0).0).0).0).1

pub first_short : (n : List ℕ) (ns : List (List ℕ)) → list_all is_name (n ∷ ns) ≡ true → length n ≤ 255
first_short n ns h = name_short n (and_parts (is_name n) (list_all is_name ns) h).0

pub rest_good : (n : List ℕ) (ns : List (List ℕ)) → list_all is_name (n ∷ ns) ≡ true → list_all is_name ns ≡ true
rest_good n ns h = (and_parts (is_name n) (list_all is_name ns) h).1

good_by : (many good : Bool) → first_of ((many, code.TooDeep) ∷ (not good, code.BadPath) ∷ []) ≡ None → good ≡ true
good_by true good h = cc
good_by false true h = refl
good_by false false h = cc

pub names_good : (names : List (List ℕ)) → bad_names names ≡ None → list_all is_name names ≡ true
names_good names h = good_by (nat_lt 32 (length names)) (list_all is_name names) h
