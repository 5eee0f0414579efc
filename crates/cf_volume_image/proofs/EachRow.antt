-- Steps of the tests of each row.
use Rattle.std.proofs.Common.{◌≡◌, List, [], ◌∷◌, sym, subst, ◌∙◌, arith}
use Rattle.std.specs.Prelude.{map}
use Rattle.cf_base.specs.declared.ids.ItemId.{ItemId}
use Rattle.cf_base.specs.declared.ids.Usn.{Usn}
use Rattle.cf_model.specs.Formats.{Header}
use Rattle.cf_model.specs.Rows.{IsSoundRow}
use Rattle.cf_model.specs.Standing.{AreSound}
use Rattle.cf_ranges.specs.Positions.{IsBelow}
use Rattle.cf_table.specs.Spelling.{row_value}
use Rattle.cf_table.specs.declared.rows.Row.{Row}
use Rattle.cf_volume_image.specs.Sets.{AllBelow}
use Rattle.cf_volume_image.specs.Sound.{AllHoldBytes, HoldsBytes}
use Rattle.cf_volume_image.proofs.SoundRows.{has_place_is}

sound_by : (h : Header) (next : ItemId) (last : Usn) (r : Row) → h.next ≡ next → h.last ≡ last → IsSoundRow next last (row_value r) → IsSoundRow h.next h.last (row_value r)
sound_by h next last r n l s = subst (λ (x : ItemId). IsSoundRow x h.last (row_value r)) (sym n) (subst (λ (x : Usn). IsSoundRow next x (row_value r)) (sym l) s)

pub sound_at : (h : Header) (next : ItemId) (last : Usn) (r : Row) → h.next ≡ next → h.last ≡ last → IsSoundRow h.next h.last (row_value r) → IsSoundRow next last (row_value r)
sound_at h next last r n l s = subst (λ (x : ItemId). IsSoundRow x last (row_value r)) n (subst (λ (x : Usn). IsSoundRow h.next x (row_value r)) l s)

pub sound_cons : (h : Header) (next : ItemId) (last : Usn) (rows rest : List Row) (r : Row) → rows ≡ r ∷ rest → h.next ≡ next → h.last ≡ last → IsSoundRow next last (row_value r) → AreSound h (map row_value rest) → AreSound h (map row_value rows)
sound_cons h next last rows rest r is n l s t = subst (λ (x : List Row). AreSound h (map row_value x)) (sym is) (sound_by h next last r n l s, t)

pub sound_first : (h : Header) (rows rest : List Row) (r : Row) → rows ≡ r ∷ rest → AreSound h (map row_value rows) → IsSoundRow h.next h.last (row_value r)
sound_first h rows rest r is s = (subst (λ (x : List Row). AreSound h (map row_value x)) is s).0

pub sound_rest : (h : Header) (rows rest : List Row) (r : Row) → rows ≡ r ∷ rest → AreSound h (map row_value rows) → AreSound h (map row_value rest)
sound_rest h rows rest r is s = (subst (λ (x : List Row). AreSound h (map row_value x)) is s).1

pub holds_cons : (rows rest : List Row) (r : Row) → rows ≡ r ∷ rest → HoldsBytes (row_value r) → AllHoldBytes (map row_value rest) → AllHoldBytes (map row_value rows)
holds_cons rows rest r is s t = subst (λ (x : List Row). AllHoldBytes (map row_value x)) (sym is) (s, t)

pub holds_first : (rows rest : List Row) (r : Row) → rows ≡ r ∷ rest → AllHoldBytes (map row_value rows) → HoldsBytes (row_value r)
holds_first rows rest r is s = (subst (λ (x : List Row). AllHoldBytes (map row_value x)) is s).0

pub holds_rest : (rows rest : List Row) (r : Row) → rows ≡ r ∷ rest → AllHoldBytes (map row_value rows) → AllHoldBytes (map row_value rest)
holds_rest rows rest r is s = (subst (λ (x : List Row). AllHoldBytes (map row_value x)) is s).1

pub below_first : (rows rest : List Row) (r : Row) → rows ≡ r ∷ rest → AllBelow rows → IsBelow r.here 16777216
below_first rows rest r is s = (subst (λ (x : List Row). AllBelow x) is s).0

pub below_rest : (rows rest : List Row) (r : Row) → rows ≡ r ∷ rest → AllBelow rows → AllBelow rest
below_rest rows rest r is s = (subst (λ (x : List Row). AllBelow x) is s).1

-- sound rows have their places below the limit
pub all_below : (h : Header) (rows : List Row) → AreSound h (map row_value rows) → AllBelow rows
all_below h [] s = tt
all_below h (r ∷ rs) s = (λ p at. omega (arith, s.0.in_size p (has_place_is r.here p ∙ at), s.0.lengths.1), all_below h rs s.1)

pub sound_none : (h : Header) (rows : List Row) → rows ≡ [] → AreSound h (map row_value rows)
sound_none h rows is = subst (λ (x : List Row). AreSound h (map row_value x)) (sym is) tt
