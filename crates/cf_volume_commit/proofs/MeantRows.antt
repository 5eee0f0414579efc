-- The rows of items mean them.
use Rattle.std.proofs.Common.{◌≡◌, ℕ, ◌&&◌, not, List, [], ◌∷◌, length, map, refl, sym, ◌∙◌, ap, ltb}
use Rattle.cf_base.specs.declared.ids.Usn.{Usn}
use Rattle.cf_base.specs.declared.spans.Span.{Span}
use Rattle.cf_model.specs.Books.{Book, anchor_of}
use Rattle.cf_model.specs.Effects.{later_than}
use Rattle.cf_model.specs.Images.{runs_of, writes_since}
use Rattle.cf_model.specs.Items.{Item, covered_flags, here_flags}
use Rattle.cf_model.specs.Overlay.{Written, is_covered}
use Rattle.cf_model.specs.Rows.{Extent}
use Rattle.cf_model.specs.Rows as model
use Rattle.cf_model.specs.Standing.{AreRowsOf, IsRowOf}
use Rattle.cf_model.specs.Words.{is_empty}
use Rattle.cf_volume_points.specs.Holding.{HoldRows, HoldsRow}
use Rattle.cf_volume_points.specs.Standing.{AreWhole}
use Rattle.cf_ranges.specs.Positions.{contains}
use Rattle.cf_table.proofs.RunsOf.{covered_at, held_flags, runs_of_contain}
use Rattle.cf_table.specs.Means.{AreUpTo, HasBytes, Means}
use Rattle.cf_table.specs.Spelling.{extent_of, row_value}
use Rattle.cf_table.specs.declared.rows.Row.{Row}

covered : (runs : List Span) (ws : List Written) (i : Item) (p : ℕ) → runs ≡ runs_of (covered_flags ws i) → contains runs p ≡ (ltb p (length i.held) && is_covered ws p)
covered runs ws i p e = ap (λ (l : List Span). contains l p) e ∙ runs_of_contain (covered_flags ws i) p ∙ covered_at (λ q. is_covered ws q) p i.held

bytes_meant : (b : Book) (r : Row) (i : Item) (es : List Extent) → row_value r ≡ model.row_of b es i → length i.valid ≡ length i.held → AreUpTo i.number i.writes → HasBytes r i
bytes_meant b r i es e even numbers =
    let anchor : r.anchor ≡ anchor_of b i.id = λ k. (e k).anchor in record {
      size = λ k. (e k).size;
      even = even;
      numbers = numbers;
      dirty = λ k. (e k).dirty;
      dirty_since = (λ k. (e k).dirty_since) ∙ ap (λ (n : Usn). not (is_empty (later_than n i.writes))) (sym anchor);
      here = λ p. ap (λ (l : List Span). contains l p) (λ k. (e k).here) ∙ runs_of_contain (here_flags i) p ∙ held_flags i.held p;
      valid = λ p. ap (λ (l : List Span). contains l p) (λ k. (e k).valid) ∙ runs_of_contain i.valid p;
      modified = λ p. covered r.modified i.writes i p (λ k. (e k).modified);
      modified_since = λ p. covered r.modified_since (writes_since b i) i p (λ k. (e k).modified_since) ∙ ap (λ (n : Usn). ltb p (length i.held) && is_covered (later_than n i.writes) p) (sym anchor);
    }

pub row_meant : (b : Book) (r : Row) (i : Item) (es : List Extent) → row_value r ≡ model.row_of b es i → length i.valid ≡ length i.held → AreUpTo i.number i.writes → Means r i
row_meant b r i es e even numbers = record {
  id = λ k. (e k).id;
  parent = λ k. (e k).parent;
  name = λ k. (e k).name;
  directory = λ k. (e k).directory;
  placeholder = λ k. (e k).placeholder;
  populated = λ k. (e k).populated;
  in_sync = λ k. (e k).in_sync;
  keep = λ k. (e k).keep;
  pin = λ k. (e k).pin;
  base = λ k. (e k).base;
  number = λ k. (e k).number;
  identity = λ k. (e k).identity;
  bytes = bytes_meant b r i es e even numbers;
}

block_names : (es : List (ℕ × ℕ)) → map (λ (e : Extent). e.block) (map extent_of es) ≡ map (λ (e : ℕ × ℕ). e.0) es
block_names [] = refl
block_names (e ∷ es) = ap (λ (l : List ℕ). e.0 ∷ l) (block_names es)

row_holds : (cluster : ℕ → List ℕ) (b : Book) (r : Row) (i : Item) → IsRowOf cluster b (row_value r) i → length i.valid ≡ length i.held → AreUpTo i.number i.writes → HoldsRow cluster b r i
row_holds cluster b r i h even numbers = record {
  means = row_meant b r i (map extent_of r.extents) h.row even numbers;
  anchor = λ k. (h.row k).anchor;
  last = λ k. (h.row k).last;
  blocks = sym (block_names r.extents) ∙ h.blocks;
  bytes = h.bytes;
}

pub rows_hold : (cluster : ℕ → List ℕ) (b : Book) (rows : List Row) (items : List Item) → AreRowsOf cluster b (map row_value rows) items → AreWhole items → HoldRows cluster b rows items
rows_hold cluster b [] [] h w = tt
rows_hold cluster b [] (i ∷ is) h w = absurd h
rows_hold cluster b (r ∷ rs) [] h w = absurd h
rows_hold cluster b (r ∷ rs) (i ∷ is) h w = (row_holds cluster b r i h.0 w.0 w.1, rows_hold cluster b rs is h.1 w.2)
