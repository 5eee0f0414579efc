-- What is told of an item by its row.
use Rattle.std.proofs.Common.{◌≡◌, refl, sym, ◌∙◌, subst, ℕ, Bool, List, length, ◌≤◌, ◌^◌, arith, Some, None}
use Rattle.std.specs.Prelude.{Result, Ok, Err}
use Rattle.cf_base.specs.declared.answers.Shown.{Shown}
use Rattle.cf_base.specs.declared.answers.Shown.TheVariants as shown
use Rattle.cf_base.specs.declared.codes.CallError.{CallError}
use Rattle.cf_base.specs.declared.codes.CallError.TheVariants.{OutOfMemory, No}
use Rattle.cf_base.specs.declared.ids.ItemId.{ItemId}
use Rattle.cf_base.specs.declared.items.Kind.{Kind}
use Rattle.cf_base.specs.declared.policies.Class.{Class}
use Rattle.cf_base.specs.declared.policies.Class.TheVariants as class
use Rattle.cf_base.specs.declared.spans.Span.{Span}
use Rattle.cf_filter_calls.specs.Told.{IsShown}
use Rattle.cf_model.specs.Arrows.{ret}
use Rattle.cf_model.specs.Calls.{class_flags, info_of}
use Rattle.cf_model.specs.Images.{runs_of}
use Rattle.cf_model.specs.Items.{Item, here_flags, is_valid, kind_of, modified_flags}
use Rattle.cf_model.specs.Overlay.{is_covered}
use Rattle.cf_model.specs.State.{Filter}
use Rattle.cf_model.specs.Trees.{Does}
use Rattle.cf_model.specs.Words.{passes_at}
use Rattle.cf_ranges.specs.Positions.{IsRuns, contains}
use Rattle.cf_ranges.proofs.One.{one_list}
use Rattle.cf_filter_steps.specs.Answering.{After, Answers, IsAt, Sense}
use Rattle.cf_filter_steps.specs.Finding.{HasRows}
use Rattle.cf_filter_steps.specs.Good.{IsSmall}
use Rattle.cf_table.specs.Kinds.{kind_by}
use Rattle.cf_table.specs.Means.{Means}
use Rattle.cf_table.specs.Tables.{Table, row_of}
use Rattle.cf_table.specs.declared.rows.Row.{Row}
use Rattle.cf_table.proofs.RunsOf.{covered_at, held_flags, length_flags, length_held, runs_of_contain, runs_of_runs}
use Rattle.cf_filter_calls.proofs.Carried.{no_row, row_means}
use Rattle.cf_filter_calls.proofs.Suited.{small_at}

shown_by : {X : Type 0} (S : Sense X) (v : Shown) (r : Result Shown CallError) (x : X) (s : Filter) → S.means x s → IsShown v r → (t : Filter) × Does {A = Shown} (ret v s) r t × S.moved x x s t × After {A = Shown} S x r x t
shown_by S v (Ok a) x s h e = (s, (e, refl), S.stays x s h, h)
shown_by S v (Err (No c)) x s h e = absurd e
shown_by S v (Err OutOfMemory) x s h e = (s, record {}, S.stays x s h, S.endures x s h)

pub shown_at : {X : Type 0} (S : Sense X) (x : X) (t : Table) (id : ItemId) (row : Row) (v : Item → Shown) (r : Result Shown CallError)
    → HasRows S x t → row_of t.rows id ≡ Some row → ((i : Item) → Means row i → IsSmall i → IsShown (v i) r) → (i : Item) → Answers S (IsAt id i) (ret (v i)) x r x
shown_at S x t id row v r rows e h i = record {
  leads = λ s m at. shown_by S (v i) r x s m (h i (row_means t.rows s.volume.items id row i (rows.rows s m) e at) (small_at s id i (S.good x s m) at));
}

pub shown_none : {X : Type 0} (S : Sense X) (x : X) (t : Table) (id : ItemId) (v : Item → Shown) (r : Result Shown CallError) → HasRows S x t → row_of t.rows id ≡ None → (i : Item) → Answers S (IsAt id i) (ret (v i)) x r x
shown_none S x t id v r rows e i = record { leads = λ s m at. absurd (no_row t.rows s.volume.items id i (rows.rows s m) e at) }

abbrev pub set_of : Class → Row → List Span
set_of class.OnDisk row = row.here
set_of class.Validated row = row.valid
set_of class.Modified row = row.modified

-- a set is the runs of flags
pub runs_are : (runs : List Span) (flags : List Bool) → IsRuns runs → length flags ≤ 2 ^ 40 → ((p : ℕ) → contains runs p ≡ passes_at (λ b. b) flags p) → runs ≡ runs_of flags
runs_are runs flags r le same = one_list 0 0 runs (runs_of flags) r (runs_of_runs flags le) (λ p. same p ∙ sym (runs_of_contain flags p))

here_shown : (row : Row) (i : Item) → Means row i → IsSmall i → (length (here_flags i) ≤ 2 ^ 40) × ((p : ℕ) → contains row.here p ≡ passes_at (λ b. b) (here_flags i) p)
here_shown row i m small = (omega (arith, length_held i.held, small.size), λ p. m.bytes.here p ∙ sym (held_flags i.held p))

valid_shown : (row : Row) (i : Item) → Means row i → IsSmall i → (length i.valid ≤ 2 ^ 40) × ((p : ℕ) → contains row.valid p ≡ is_valid i p)
valid_shown row i m small = (omega (arith, m.bytes.even, small.size), m.bytes.valid)

modified_shown : (row : Row) (i : Item) → Means row i → IsSmall i → (length (modified_flags i) ≤ 2 ^ 40) × ((p : ℕ) → contains row.modified p ≡ passes_at (λ b. b) (modified_flags i) p)
modified_shown row i m small = (omega (arith, length_flags (λ p. is_covered i.writes p) 0 i.held, small.size), λ p. m.bytes.modified p ∙ sym (covered_at (λ q. is_covered i.writes q) p i.held))

pub info_is : (row : Row) (k : Kind) (identity : List ℕ) (i : Item) → k ≡ kind_by row.dir row.populated row.placeholder → identity ≡ row.identity → Means row i
    → shown.Info row.id k row.size row.pin row.in_sync row.number identity ≡ info_of i
info_is row k identity i e q m =
    let kind : k ≡ kind_of i = e ∙ (λ j. kind_by (m.directory j) (m.populated j) (m.placeholder j)) in
    let same : identity ≡ i.identity = q ∙ m.identity in
    λ j. shown.Info (m.id j) (kind j) (m.bytes.size j) (m.pin j) (m.in_sync j) (m.number j) (same j)

pub class_shown : (row : Row) (c d : Class) (r : Result Shown CallError) (i : Item) → c ≡ d
    → ((flags : List Bool) → length flags ≤ 2 ^ 40 → ((p : ℕ) → contains (set_of d row) p ≡ passes_at (λ b. b) flags p) → IsShown (shown.Ranges (runs_of flags)) r)
    → Means row i → IsSmall i → IsShown (shown.Ranges (runs_of (class_flags c i))) r
class_shown row c class.OnDisk r i e h m small = let k = here_shown row i m small in subst (λ (x : Class). IsShown (shown.Ranges (runs_of (class_flags x i))) r) (sym e) (h (here_flags i) k.0 k.1)
class_shown row c class.Validated r i e h m small = let k = valid_shown row i m small in subst (λ (x : Class). IsShown (shown.Ranges (runs_of (class_flags x i))) r) (sym e) (h i.valid k.0 k.1)
class_shown row c class.Modified r i e h m small = let k = modified_shown row i m small in subst (λ (x : Class). IsShown (shown.Ranges (runs_of (class_flags x i))) r) (sym e) (h (modified_flags i) k.0 k.1)
