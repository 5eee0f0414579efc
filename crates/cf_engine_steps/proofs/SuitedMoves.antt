-- Moves that suit by what was tested of them.
use Rattle.std.proofs.Common.{◌≡◌, Bool, true, false, List, [], ◌∷◌, refl, sym, ◌∙◌, subst, ap, ℕ}
use Rattle.std.specs.Prelude.{Result, Ok, Err, Option, Some, None, is_some, ◌==◌}
use Rattle.cf_base.specs.declared.changes.Change.TheVariants as change
use Rattle.cf_base.specs.declared.codes.Code.{Code}
use Rattle.cf_base.specs.declared.codes.Code.TheVariants as code
use Rattle.cf_base.specs.declared.codes.CallError.{CallError}
use Rattle.cf_base.specs.declared.codes.CallError.TheVariants.{No}
use Rattle.cf_base.specs.declared.ids.ItemId.{ItemId}
use Rattle.cf_base.specs.Names.{is_name}
use Rattle.cf_engine_steps.specs.Readings.{is_here}
use Rattle.cf_engine_steps.specs.Suited.{IsSuited, MoveChecked, MoveIf, is_open_directory, says_at}
use Rattle.cf_engine_steps.proofs.Suited.{opened_by}
use Rattle.cf_filter_calls.proofs.NewItems.{name_short}
use Rattle.cf_model.specs.Items.{Item, item_of}
use Rattle.cf_model.specs.LookUp.{move_refused}
use Rattle.cf_model.specs.Words.{first_of}
use Rattle.cf_model.proofs.NameLaws.{name_is}
use Rattle.cf_filter_steps.specs.Answering.{Any, Reads, Sense}
use Rattle.cf_filter_steps.specs.Finding.{HasRows}
use Rattle.cf_table.specs.Tables.{MeansAll, Table}
use Rattle.cf_tree.specs.Answers.{IsChecked}
use Rattle.cf_tree.specs.Trees.{IsTree}

pub never_a_move : {X : Type 0} (S : Sense X) (item parent : ItemId) (name : List ℕ) (x : X) → MoveIf S item parent name x false
never_a_move S item parent name x = record { move = λ e s m. let z : false ≡ true = e in cc }

pub move_by : {X : Type 0} (S : Sense X) (item parent : ItemId) (name : List ℕ) (x : X) (h n b : Bool) → (item.0 == 1) ≡ false → h ≡ true → Reads S Any (is_here item) x h → n ≡ true → n ≡ is_name name → Reads S Any (says_at is_open_directory parent) x b
    → MoveIf S item parent name x b
move_by S item parent name x h n b below hi here ni named opened = record {
  move = λ bi s m. record {
    below = below;
    there = sym (here.is s m (record {})) ∙ hi;
    named = name_is name ∙ sym named ∙ ni;
    opened = opened_by (item_of s.volume.items parent) (sym (opened.is s m (record {})) ∙ bi);
  };
}

abbrev Checks : Result (Unit {0}) CallError → ItemId → ItemId → List ℕ → Table → Type 0
Checks r item parent name t = (items : List Item) (i : Item) → MeansAll t.rows items → IsTree items → item_of items item ≡ Some i → IsChecked r (move_refused items item parent name)

module _ {X : Type 0} (S : Sense X) (x : X) (t : Table) (item parent : ItemId) (name : List ℕ) (r : Result (Unit {0}) CallError) where
  pub checked_free : (u : Unit {0}) → HasRows S x t → Checks r item parent name t → r ≡ Ok u → MoveChecked S item parent name x None
  checked_free u rows check is = record {
    least = record {};
    refused = λ s i m at. (subst (λ (q : Result (Unit {0}) CallError). Checks q item parent name t) is check) s.volume.items i (rows.rows s m) (S.good x s m).volume.tree at;
  }

  pub checked_deep : HasRows S x t → Checks r item parent name t → r ≡ Err (No code.TooDeep) → MoveChecked S item parent name x (Some code.TooDeep)
  checked_deep rows check is = record {
    least = refl;
    refused = λ s i m at. (subst (λ (q : Result (Unit {0}) CallError). Checks q item parent name t) is check) s.volume.items i (rows.rows s m) (S.good x s m).volume.tree at;
  }

pub there_is : (o : Option Item) → is_some o ≡ true → (i : Item) × (o ≡ Some i)
there_is None e = let z : false ≡ true = e in absurd cc
there_is (Some i) e = (i, refl)

deep_is : (a b d : Bool) → first_of ((a, code.IntoItself) ∷ (b, code.TooDeep) ∷ (d, code.Exists) ∷ []) ≡ Some code.TooDeep → b ≡ true
deep_is true b d e = let z : ◌≡◌ {A = Option Code} (Some code.IntoItself) (Some code.TooDeep) = e in absurd cc
deep_is false true d e = refl
deep_is false false true e = let z : ◌≡◌ {A = Option Code} (Some code.Exists) (Some code.TooDeep) = e in absurd cc
deep_is false false false e = let z : ◌≡◌ {A = Option Code} None (Some code.TooDeep) = e in absurd cc

pub move_suited_by : {X : Type 0} (S : Sense X) (item parent : ItemId) (name : List ℕ) (x : X) (b : Bool) (o : Option Code) → b ≡ true → MoveIf S item parent name x b → MoveChecked S item parent name x o → IsSuited S (change.Move item parent name) x o
move_suited_by S item parent name x b None bi may check = record {
  suits = λ e s m.
      let h = may.move bi s m in
      let i = there_is (item_of s.volume.items item) h.there in (
        record {
          fits = λ k d l q. name_short name h.named;
          needs = record {};
          plants = (h.below, h.named, h.opened, check.refused s i.0 m i.1);
          lasts = record {};
        },
        record {},
      );
}
move_suited_by S item parent name x b (Some d) bi may check = (
  check.least,
  record {
    deep = λ e s m.
        let i = there_is (item_of s.volume.items item) (may.move bi s m).there in
        deep_is _ _ _ (check.refused s i.0 m i.1 ∙ ap (λ (c : Code). Some c) check.least);
  },
)
