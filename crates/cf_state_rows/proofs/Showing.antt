-- Rows show what their items show, and no value has a float.
use Rattle.std.proofs.Common.{◌≡◌, refl, sym, ◌∙◌, ℕ, false, List, [], ◌∷◌, map, arith}
use Rattle.serde_json.specs.View.{items_of}
use Rattle.serde_json.specs.Written.{has_float, items_have_float}
use Rattle.cf_base.specs.declared.spans.Span.{Span}
use Rattle.cf_model.specs.Images.{runs_of}
use Rattle.cf_model.specs.Items.{Item, here_flags}
use Rattle.cf_ranges.proofs.One.{one_list}
use Rattle.cf_state_rows.specs.Rows.{row_facts}
use Rattle.cf_state_rows.specs.Values.{Facts, document, facts_of, facts_value, run_value}
use Rattle.cf_table.proofs.RunsOf.{held_flags, length_held, runs_of_contain, runs_of_runs}
use Rattle.cf_table.specs.Kinds.{kind_by}
use Rattle.cf_table.specs.Means.{Means}
use Rattle.cf_table.specs.Tables.{AreTableRows, IsTableRow, MeansAll}
use Rattle.cf_table.specs.declared.rows.Row.{Row}

-- rows

here_is : (r : Row) (i : Item) → IsTableRow r → Means r i → r.here ≡ runs_of (here_flags i)
here_is r i kept m =
    one_list 0 0 r.here (runs_of (here_flags i)) kept.stored.here
    (runs_of_runs (here_flags i) (omega (arith, length_held i.held, m.bytes.size, kept.stored.size)))
    (λ p. m.bytes.here p ∙ sym (held_flags i.held p) ∙ sym (runs_of_contain (here_flags i) p))

facts_are : (r : Row) (i : Item) → IsTableRow r → Means r i → row_facts r ≡ facts_of i
facts_are r i kept m =
    let here : r.here ≡ runs_of (here_flags i) = here_is r i kept m in
    λ j. record {
      here = here j;
      id = m.id j;
      identity = m.identity j;
      in_sync = m.in_sync j;
      kind = kind_by (m.directory j) (m.populated j) (m.placeholder j);
      name = m.name j;
      number = m.number j;
      parent = m.parent j;
      pin = m.pin j;
      size = m.bytes.size j;
    }

pub all_facts_are : (rows : List Row) (items : List Item) → AreTableRows rows → MeansAll rows items → map row_facts rows ≡ map facts_of items
all_facts_are [] [] kept m = refl
all_facts_are [] (i ∷ is) kept m = absurd m
all_facts_are (r ∷ rs) [] kept m = absurd m
all_facts_are (r ∷ rs) (i ∷ is) kept m =
    let first : row_facts r ≡ facts_of i = facts_are r i kept.0 m.0 in
    let rest : map row_facts rs ≡ map facts_of is = all_facts_are rs is kept.1 m.1 in
    λ j. first j ∷ rest j

-- floats

runs_whole : (rs : List Span) → items_have_float (items_of (map run_value rs)) ≡ false
runs_whole [] = refl
runs_whole (r ∷ rs) = runs_whole rs

facts_whole : (f : Facts) → has_float (facts_value f) ≡ false
facts_whole f = rw (runs_whole f.here) refl

all_whole : (fs : List Facts) → items_have_float (items_of (map facts_value fs)) ≡ false
all_whole [] = refl
all_whole (f ∷ fs) = rw (facts_whole f) (all_whole fs)

pub document_whole : (count epoch : ℕ) (fs : List Facts) → has_float (document count epoch fs) ≡ false
document_whole count epoch fs = rw (all_whole fs) refl
