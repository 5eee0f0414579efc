-- The tests of all contents, one by one.
use Rattle.std.proofs.Common.{◌≡◌, ℕ, suc, ◌≤◌, Bool, true, List, [], ◌∷◌, length, refl, sym, ap, subst}
use Rattle.std.specs.Bool.{Decides}
use Rattle.std.specs.Prelude.{Err, IfOk, Ok, Result, map}
use Rattle.cf_codec.specs.declared.formats.Format.{Format}
use Rattle.cf_model.specs.Standing.{AreSound, are_apart, clusters_of}
use Rattle.cf_table.specs.Spelling.{row_value}
use Rattle.cf_table.specs.declared.rows.Row.{Row}
use Rattle.cf_volume_image.specs.Contents.{header_of, image_of}
use Rattle.cf_volume_image.specs.Sound.{AllHoldBytes, IsSoundIn, most_image_in}
use Rattle.cf_volume_image.specs.Spelled.{spell_image_in}
use Rattle.cf_volume_image.specs.Trees.{IsTree}
use Rattle.cf_volume_image.specs.declared.contents.Contents.{Contents}

pub same_length : (rows : List Row) → length (map row_value rows) ≡ length rows
same_length [] = refl
same_length (r ∷ rs) = ap suc (same_length rs)

abbrev pub IsSmall : Format → Contents → Type 0
IsSmall f c = (length c.rows.rows ≤ 10000) × (length (spell_image_in f (image_of c)) ≤ most_image_in f)

pub sound_of : (f : Format) (clusters : ℕ) (c : Contents) → IsSmall f c → AreSound (header_of c) (map row_value c.rows.rows) → IsTree (map row_value c.rows.rows) → AllHoldBytes (map row_value c.rows.rows)
    → are_apart clusters (clusters_of (map row_value c.rows.rows)) ≡ true → IsSoundIn f clusters (image_of c)
sound_of f clusters c small rows tree blocks apart = record {
  rows = rows;
  root = tree.root;
  top = tree.top;
  placed = tree.placed;
  named = tree.named;
  blocks = blocks;
  apart = apart;
  few = subst (λ (n : ℕ). n ≤ 10000) (sym (same_length c.rows.rows)) small.0;
  short = small.1;
}

pub small_of : (f : Format) (clusters : ℕ) (c : Contents) → IsSoundIn f clusters (image_of c) → IsSmall f c
small_of f clusters c s = (subst (λ (n : ℕ). n ≤ 10000) (same_length c.rows.rows) s.few, s.short)

pub tree_of : (f : Format) (clusters : ℕ) (c : Contents) → IsSoundIn f clusters (image_of c) → IsTree (map row_value c.rows.rows)
tree_of f clusters c s = record { root = s.root; top = s.top; placed = s.placed; named = s.named }

pub decided : {E : Type 0} (r : Result Bool E) (v : Bool) (P : Type 0) → IfOk r (λ b. b ≡ v) → Decides v P → IfOk r (λ b. Decides b P)
decided (Ok b) v P e d = subst (λ (x : Bool). Decides x P) (sym e) d
decided (Err e) v P h d = tt
