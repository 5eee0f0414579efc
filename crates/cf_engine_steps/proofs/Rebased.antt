-- A Rebase that suits by what was tested of it.
use Rattle.std.proofs.Common.{◌≡◌, ◌≤◌, Bool, true, false, List, [], ◌∷◌, refl, sym, ◌∙◌, ap, subst, ℕ, length}
use Rattle.std.proofs.lemmas.Bool.{and_parts, eqb-true, eq-eqb}
use Rattle.std.proofs.lemmas.List.Elements.{All-from_recursion}
use Rattle.std.specs.Prelude.{Option, Some, None, ◌&&◌, ◌||◌, ◌==◌}
use Rattle.std.specs.List.{AllByRecursion}
use Rattle.cf_base.specs.declared.changes.Change.TheVariants as change
use Rattle.cf_base.specs.declared.ids.ItemId.{ItemId}
use Rattle.cf_base.specs.declared.ids.Usn.{Usn}
use Rattle.cf_engine_host.specs.Readings.{anchor_at}
use Rattle.cf_engine_steps.specs.Suited.{SuitsIf, takes_writes, takes_writes_at}
use Rattle.cf_engine_steps.proofs.Suited.{there, wide}
use Rattle.cf_filter_steps.proofs.RowReads.{row_gone, row_there}
use Rattle.cf_filter_steps.specs.Answering.{Any, IsAt, Reads, Sense}
use Rattle.cf_filter_steps.specs.Finding.{HasRows}
use Rattle.cf_model.specs.Books.{anchor_of}
use Rattle.cf_model.specs.Items.{Item, item_of, size_of}
use Rattle.cf_model.specs.Numbers.{is_no_usn, no_usn, same_usn}
use Rattle.cf_model.specs.Soundness.{Each}
use Rattle.cf_model.specs.State.{Filter}
use Rattle.cf_model.specs.Words.{says}
use Rattle.cf_table.specs.Means.{Means}
use Rattle.cf_table.specs.Tables.{Table, row_of}
use Rattle.cf_table.specs.declared.rows.Row.{Row}

-- what is read of a row and of the anchor

row_takes : (len : ℕ) (at anchor : Usn) (r : Row) (i : Item) → Means r i
    → (r.placeholder && (is_no_usn at || ((len == r.size) && (same_usn at anchor || same_usn at r.number)))) ≡ takes_writes len at anchor i
row_takes len at anchor r i h = λ j. h.placeholder j && (is_no_usn at || ((len == h.bytes.size j) && (same_usn at anchor || same_usn at (h.number j))))

module _ {X : Type 0} (S : Sense X) (x : X) (t : Table) (id : ItemId) (len : ℕ) (at : Usn) where
  pub takes_by : (r : Row) (anchor : Usn) (b : Bool) → HasRows S x t → row_of t.rows id ≡ Some r → ((i : Item) → Reads S (IsAt id i) (anchor_at id) x anchor)
      → b ≡ (r.placeholder && (is_no_usn at || ((len == r.size) && (same_usn at anchor || same_usn at r.number)))) → Reads S Any (takes_writes_at id len at) x b
  takes_by r anchor b rows e reads is = record {
    is = λ s m u.
        let p = row_there t.rows s.volume.items id r (rows.rows s m) e in
        is ∙ row_takes len at anchor r p.0 p.2 ∙ ap (λ (n : Usn). takes_writes len at n p.0) ((reads p.0).is s m p.1) ∙ ap (λ (o : Option Item). says (takes_writes len at (anchor_at id s)) o) (sym p.1);
  }

  pub takes_none : HasRows S x t → row_of t.rows id ≡ None → Reads S Any (takes_writes_at id len at) x false
  takes_none rows e = record { is = λ s m u. ap (λ (o : Option Item). says (takes_writes len at (anchor_at id s)) o) (sym (row_gone t.rows s.volume.items id (rows.rows s m) e)) }

-- of each with its id

all_each : (id : ItemId) (P : Item → Type 0) (items : List Item) → Each id P items → AllByRecursion (λ i. i.id.0 ≡ id.0 → P i) items
all_each id P [] h = tt
all_each id P (i ∷ is) h = ((λ e. h.0 (eq-eqb i.id.0 id.0 e)), all_each id P is h.1)

number_in : (at : Usn) (len : ℕ) (anchor : Usn) (i : Item) → takes_writes len at anchor i ≡ true → (same_usn at no_usn || same_usn at anchor || same_usn at i.number) ≡ true
number_in at len anchor i h = by (is_no_usn at) (len == size_of i) (same_usn at anchor) (same_usn at i.number) (and_parts i.placeholder _ h).1 where
  by : (a b c d : Bool) → (a || (b && (c || d))) ≡ true → (a || c || d) ≡ true
  by true b c d e = refl
  by false true c d e = e
  by false false c d e = let z : false ≡ true = e in cc

size_in : (at : Usn) (len : ℕ) (anchor : Usn) (i : Item) → takes_writes len at anchor i ≡ true → is_no_usn at ≡ false → len ≡ size_of i
size_in at len anchor i h none = eqb-true len (size_of i) (by (is_no_usn at) (len == size_of i) (same_usn at anchor || same_usn at i.number) none (and_parts i.placeholder _ h).1) where
  by : (a b c : Bool) → a ≡ false → (a || (b && c)) ≡ true → b ≡ true
  by true b c n e = let z : true ≡ false = n in cc
  by false true c n e = refl
  by false false c n e = e

pub rebase_by : {X : Type 0} (S : Sense X) (id : ItemId) (identity : List ℕ) (len : ℕ) (at : Usn) (x : X) (b : Bool) → length identity ≤ 4096 → len ≤ 16777216 → Reads S Any (takes_writes_at id len at) x b
    → SuitsIf S (change.Rebase id identity len at) x b
rebase_by S id identity len at x b short small reads = record {
  suits = λ is s m.
      let said : takes_writes_at id len at s ≡ true = sym (reads.is s m (record {})) ∙ is in
      let each : Each id (λ i. takes_writes len at (anchor_at id s) i ≡ true) s.volume.items = there (takes_writes len at (anchor_at id s)) (λ i. takes_writes len at (anchor_at id s) i ≡ true) (λ i h. h) id s (item_of s.volume.items id) refl said (S.good x s m) in (
        record {
          fits = All-from_recursion _ s.volume.items (fit s s.volume.items (all_each id (λ i. takes_writes len at (anchor_at id s) i ≡ true) s.volume.items each));
          needs = need s s.volume.items each;
          plants = record {};
          lasts = short;
        },
        record {},
      );
} where
  fit : (s : Filter) (items : List Item) → AllByRecursion (λ i. i.id.0 ≡ id.0 → takes_writes len at (anchor_at id s) i ≡ true) items
      → AllByRecursion (λ i. i.id.0 ≡ id.0 → (length identity ≤ 65535) × (len ≤ 16777216) × ((same_usn at no_usn || same_usn at (anchor_of s.volume.book i.id) || same_usn at i.number) ≡ true)) items
  fit s [] h = tt
  fit s (i ∷ is) h = (
    (λ e. (
      wide (length identity) short,
      small,
      subst (λ (k : ItemId). (same_usn at no_usn || same_usn at (anchor_of s.volume.book k) || same_usn at i.number) ≡ true) (sym (ap (λ (n : ℕ). record { 0 = n }) e)) (number_in at len (anchor_at id s) i (h.0 e)),
    )),
    fit s is h.1,
  )

  need : (s : Filter) (items : List Item) → Each id (λ i. takes_writes len at (anchor_at id s) i ≡ true) items → Each id (λ i. (i.placeholder ≡ true) × (is_no_usn at ≡ false → len ≡ size_of i)) items
  need s [] h = record {}
  need s (i ∷ is) h = ((λ e. ((and_parts i.placeholder _ (h.0 e)).0, size_in at len (anchor_at id s) i (h.0 e))), need s is h.1)
