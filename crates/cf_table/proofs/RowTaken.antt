-- The parts of a row that were taken are its spelling, and such a row has room.
use Rattle.std.proofs.Common.{◌≡◌, ℕ, suc, ◌+◌, ◌^◌, ◌<◌, List, [], ◌∷◌, ◌++◌, length, refl, sym, ap, subst, append_assoc, arith, Option, Some}
use Rattle.std.proofs.lemmas.List.Elements.{All-cons, All-nil}
use Rattle.std.specs.Prelude.{All, IfOk, Result, Ok, Err, is_some, map}
use Rattle.cf_base.specs.declared.spans.Span.{Span}
use Rattle.cf_codec.specs.Left.{Left, Takes}
use Rattle.cf_codec.specs.declared.formats.Format.{Format}
use Rattle.cf_codec.specs.declared.formats.Format.TheVariants.{First, Second}
use Rattle.cf_model.specs.FirstRows as first
use Rattle.cf_model.specs.Rows.{spell_head}
use Rattle.cf_model.specs.Words.{in_bytes}
use Rattle.cf_table.specs.Reading.{AreRowsIn, AreRunsFrom, IsBasics, IsRowIn, head_bytes, identity_bytes, name_bytes, row_of, sets_bytes}
use Rattle.cf_table.specs.Spelling.{EndBelow, HasRoom, extent_of, row_value, spell_row_in}
use Rattle.cf_table.specs.declared.heads.Basics.{Basics}
use Rattle.cf_table.specs.declared.heads.Head.{Head}
use Rattle.cf_table.specs.declared.rows.Row.{Row}
use Rattle.cf_table.specs.declared.set_reads.Sets.{Sets}
use Rattle.cf_table.proofs.Taken.{takes_both}

first_head : (h : Head) (n i : List ℕ) (s : Sets) → h.basics.flags.has_base ≡ is_some h.basics.lengths.base → head_bytes First h ≡ first.spell_head (row_value (row_of h n i s))
first_head h n i s e = rw e refl

second_head : (h : Head) (n i : List ℕ) (s : Sets) → h.basics.flags.has_base ≡ is_some h.basics.lengths.base → head_bytes Second h ≡ spell_head (row_value (row_of h n i s))
second_head h n i s e = rw e refl

has_base_is : (f : Format) (b : Basics) → IsBasics f b → b.flags.has_base ≡ is_some b.lengths.base
has_base_is First b is = is.1.0
has_base_is Second b is = is.1.0

texts_are : (n i : List ℕ) → name_bytes n ++ identity_bytes i ≡ (length n ∷ n) ++ in_bytes 2 (length i) ++ i
texts_are n i = sym (append_assoc (length n ∷ n) (in_bytes 2 (length i)) i)

-- the head is a variable, which does not compute
joined : (head n i sets : List ℕ) (old a b c new : Left) → Takes head old a → Takes (name_bytes n) a b → Takes (identity_bytes i) b c → Takes sets c new → Takes (head ++ ((length n ∷ n) ++ in_bytes 2 (length i) ++ i) ++ sets) old new
joined head n i sets old a b c new h k l m =
    subst (λ (t : List ℕ). Takes (head ++ t ++ sets) old new) (texts_are n i) (takes_both (takes_both h (takes_both k l)) m)

parts_taken : (f : Format) (h : Head) (n i : List ℕ) (s : Sets) (old a b c new : Left) → h.basics.flags.has_base ≡ is_some h.basics.lengths.base →
    Takes (head_bytes f h) old a → Takes (name_bytes n) a b → Takes (identity_bytes i) b c → Takes (sets_bytes s) c new → Takes (spell_row_in f (row_value (row_of h n i s))) old new
parts_taken First h n i s old a b c new has k l m o =
    joined (first.spell_head (row_value (row_of h n i s))) n i (sets_bytes s) old a b c new (subst (λ (t : List ℕ). Takes t old a) (first_head h n i s has) k) l m o
parts_taken Second h n i s old a b c new has k l m o =
    joined (spell_head (row_value (row_of h n i s))) n i (sets_bytes s) old a b c new (subst (λ (t : List ℕ). Takes t old a) (second_head h n i s has) k) l m o

pub row_taken : (f : Format) (r : Row) (h : Head) (n i : List ℕ) (s : Sets) (old a b c new : Left) → r ≡ row_of h n i s → IsBasics f h.basics →
    Takes (head_bytes f h) old a → Takes (name_bytes n) a b → Takes (identity_bytes i) b c → Takes (sets_bytes s) c new → Takes (spell_row_in f (row_value r)) old new
row_taken f r h n i s old a b c new is basics k l m o =
    subst (λ (x : Row). Takes (spell_row_in f (row_value x)) old new) (sym is) (parts_taken f h n i s old a b c new (has_base_is f h.basics basics) k l m o)

below : (low : ℕ) (runs : List Span) → AreRunsFrom low runs → EndBelow runs
below low [] h = All-nil (λ s. s.start + s.len < 2 ^ 32)
below low (s ∷ ss) h = All-cons (λ s. s.start + s.len < 2 ^ 32) s ss h.0.2 (below (s.start + s.len + 1) ss h.1)

pub has_room : (f : Format) (before : Option ℕ) (row : Row) → IsRowIn f before (row_value row) → HasRoom row
has_room f before row is = record {
  texts = record { name = let h : length row.name < 256 = is.name in omega arith; identity = let h : length row.identity < 65536 = is.identity in omega arith };
  here = below 0 row.here is.here.1;
  valid = below 0 row.valid is.valid.1;
  modified = below 0 row.modified is.modified.1;
  modified_since = below 0 row.modified_since is.modified_since.1;
  extents = let h : length (map extent_of row.extents) < 2 ^ 32 = is.extents.0 in omega (arith, same_length row.extents);
} where
  same_length : (pairs : List (ℕ × ℕ)) → length (map extent_of pairs) ≡ length pairs
  same_length [] = refl
  same_length (p ∷ ps) = ap suc (same_length ps)

pub rooms : {E : Type 0} (f : Format) (before : Option ℕ) (r : Result Row E) → IfOk r (λ row. IsRowIn f before (row_value row)) → IfOk r HasRoom
rooms f before (Ok row) h = has_room f before row h
rooms f before (Err e) h = tt

pub rooms_of : (f : Format) (before : Option ℕ) (rows : List Row) → AreRowsIn f before (map row_value rows) → All HasRoom rows
rooms_of f before [] h = All-nil HasRoom
rooms_of f before (r ∷ rs) h = All-cons HasRoom r rs (has_room f before r h.0) (rooms_of f (Some r.id.0) rs h.1)
