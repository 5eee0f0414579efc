-- What format 1 spells, format 2 spells too, and longer by a clock and by a last access of each row. So what is within the
-- limit of format 1 is within that of format 2.
use Rattle.std.proofs.Common.{◌≡◌, ℕ, ◌+◌, ◌*◌, ◌^◌, ◌<◌, ◌≤◌, None, List, [], ◌∷◌, ◌++◌, length, refl, length-append, arith, ◌∙◌, sym, subst, leb}
use Rattle.std.specs.Bool.{Decides}
use Rattle.std.proofs.lemmas.Bool.{le-leb, leb-true}
use Rattle.std.specs.Prelude.{map, min}
use Rattle.std.specs.List.{flat_map}
use Rattle.cf_codec.specs.declared.formats.Format.{Format}
use Rattle.cf_codec.specs.declared.formats.Format.TheVariants.{First, Second}
use Rattle.cf_model.specs.FirstFormats as first
use Rattle.cf_model.specs.FirstRows as first_rows
use Rattle.cf_model.specs.Formats.{Image, spell_header, spell_image, spell_records, spell_rows}
use Rattle.cf_model.specs.Rows.{Row, spell_head, spell_row, spell_sets, spell_texts}
use Rattle.cf_table.proofs.Formats.{rows_in_second}
use Rattle.cf_table.specs.Spelling.{row_value}
use Rattle.cf_volume_image.specs.Contents.{image_of}
use Rattle.cf_volume_image.specs.Sound.{IsSound, IsSoundIn, most_image_in, most_image_of}
use Rattle.cf_volume_image.specs.Spelled.{IsImage, IsImageIn, spell_image_in}
use Rattle.cf_volume_image.specs.declared.contents.Contents.{Contents}
use Rattle.cf_volume_image.proofs.WholeSound.{same_length}

eight_longer : (a b t s : List ℕ) → length a ≡ length b + 8 → length (a ++ t ++ s) ≡ length (b ++ t ++ s) + 8
eight_longer a b t s h = omega (arith, h, length-append (a ++ t) s, length-append a t, length-append (b ++ t) s, length-append b t)

row_longer : (r : Row) → length (spell_row r) ≡ length (first_rows.spell_row r) + 8
row_longer r = eight_longer (spell_head r) (first_rows.spell_head r) (spell_texts r) (spell_sets r) refl

each_longer : (rs : List Row) → length (flat_map spell_row rs) ≡ length (flat_map first_rows.spell_row rs) + 8 * length rs
each_longer [] = refl
each_longer (r ∷ rs) =
    omega (arith, length-append (spell_row r) (flat_map spell_row rs), length-append (first_rows.spell_row r) (flat_map first_rows.spell_row rs), row_longer r, each_longer rs)

rows_longer : (rs : List Row) → length (spell_rows rs) ≡ length (first.spell_rows rs) + 8 * length rs
rows_longer rs = omega (arith, each_longer rs)

wholes : (a b r s x : List ℕ) (n : ℕ) → length a ≡ length b + 8 → length r ≡ length s + 8 * n → length (a ++ r ++ x) ≡ length (b ++ s ++ x) + 8 + 8 * n
wholes a b r s x n h k = omega (arith, h, k, length-append (a ++ r) x, length-append a r, length-append (b ++ s) x, length-append b s)

pub image_longer : (i : Image) → length (spell_image i) ≡ length (first.spell_image i) + 8 + 8 * length i.rows
image_longer i = wholes (2 ∷ spell_header i.header) (1 ∷ first.spell_header i.header) (spell_rows i.rows) (first.spell_rows i.rows) (spell_records i.records) (length i.rows) refl (rows_longer i.rows)

nothing : (n : ℕ) → n ≡ 0 → n < 2 ^ 64
nothing n is = omega (arith, is)

pub image_in_second : (f : Format) (i : Image) → IsImageIn f i → IsImage i
image_in_second First i is = record {
  header = (is.header.0, is.header.1, is.header.2, nothing i.header.clock is.header.3);
  rows = (is.rows.0, rows_in_second First None i.rows is.rows.1);
  records = is.records;
}
image_in_second Second i is = is

-- a sound image of either format is one of format 2
pub sound_in_second : (f : Format) (clusters : ℕ) (i : Image) → IsSoundIn f clusters i → IsSound clusters i
sound_in_second First clusters i s = record {
  rows = s.rows;
  root = s.root;
  top = s.top;
  placed = s.placed;
  named = s.named;
  blocks = s.blocks;
  apart = s.apart;
  few = s.few;
  short = omega (arith, image_longer i, s.few, s.short);
}
sound_in_second Second clusters i s = s

-- The test of an image's length in format 2 says whether its length in its own format is within the limit.
pub short_enough : (f : Format) (c : Contents) (n rows : ℕ) → n ≡ min (length (spell_image (image_of c))) 18446744073709551615 → rows ≡ length (map row_value c.rows.rows) → rows ≤ 10000 → n ≤ most_image_of f rows → length (spell_image_in f (image_of c)) ≤ most_image_in f
short_enough First c n rows is count few h = let small : n ≤ 1044480 + 8 + 8 * rows = h in omega (arith, is, count, few, small, image_longer (image_of c))
short_enough Second c n rows is count few h = let small : n ≤ 1306624 = h in omega (arith, is, small)

pub short_then : (f : Format) (c : Contents) (n rows : ℕ) → n ≡ min (length (spell_image (image_of c))) 18446744073709551615 → rows ≡ length (map row_value c.rows.rows) → length (spell_image_in f (image_of c)) ≤ most_image_in f → n ≤ most_image_of f rows
short_then First c n rows is count h = let small : length (first.spell_image (image_of c)) ≤ 1044480 = h in omega (arith, is, count, small, image_longer (image_of c))
short_then Second c n rows is count h = let small : length (spell_image (image_of c)) ≤ 1306624 = h in omega (arith, is, small)

pub small_decides : (f : Format) (c : Contents) (n rows most : ℕ) → n ≡ min (length (spell_image (image_of c))) 18446744073709551615 → rows ≡ length c.rows.rows → rows ≤ 10000 → most ≡ most_image_of f rows
    → Decides (leb n most) ((length c.rows.rows ≤ 10000) × (length (spell_image_in f (image_of c)) ≤ most_image_in f))
small_decides f c n rows most is count few at = (
  λ t. (omega (arith, count, few), short_enough f c n rows is (count ∙ sym (same_length c.rows.rows)) few (subst (λ (m : ℕ). n ≤ m) at (leb-true n most t))),
  λ h. le-leb n most (subst (λ (m : ℕ). n ≤ m) (sym at) (short_then f c n rows is (count ∙ sym (same_length c.rows.rows)) h.1)),
)
