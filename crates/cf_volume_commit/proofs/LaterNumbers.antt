-- The numbers of an epoch come after those of the epochs before.
use Rattle.std.proofs.Common.{◌≡◌, ◌+◌, Bool, true, false, ◌&&◌, ◌||◌, eqb, ltb, List, [], ◌∷◌, map, sym, ap, subst, arith}
use Rattle.std.specs.Prelude.{All}
use Rattle.std.proofs.lemmas.Bool.{lt-ltb}
use Rattle.std.proofs.lemmas.List.Elements.{All-nil, All-cons}
use Rattle.cf_base.specs.declared.ids.Usn.{Usn}
use Rattle.cf_volume_commit.specs.Loaded.{raised_image}
use Rattle.cf_volume_image.specs.Contents.{image_of}
use Rattle.cf_volume_image.specs.declared.contents.Contents.{Contents}
use Rattle.cf_model.specs.Formats.{Header, Image}
use Rattle.cf_model.specs.Numbers.{above, usn_after}
use Rattle.cf_model.specs.Standing.{AreSound}
use Rattle.cf_table.proofs.NextChange.{next_after_last}
use Rattle.cf_table.specs.Changing.{IsNext}
use Rattle.cf_table.specs.Spelling.{row_value}
use Rattle.cf_table.specs.declared.rows.Row.{Row}

numbers_of : (h : Header) (rows : List Row) → AreSound h (map row_value rows) → All (λ r. (above r.number h.last ≡ false) × (above r.anchor h.last ≡ false)) rows
numbers_of h [] s = All-nil (λ (r : Row). (above r.number h.last ≡ false) × (above r.anchor h.last ≡ false))
numbers_of h (r ∷ rs) s = All-cons (λ (x : Row). (above x.number h.last ≡ false) × (above x.anchor h.last ≡ false)) r rs s.0.numbers (numbers_of h rs s.1)

above_epoch : (n : Usn) → above (usn_after (n.epoch + 1) 0) n ≡ true
above_epoch n = ap (λ (b : Bool). b || (eqb (n.epoch + 1) n.epoch && ltb n.place 1)) (lt-ltb n.epoch (n.epoch + 1) (omega arith))

-- of the rows of an image, in the next epoch
pub raised_later : (c : Contents) (i : Image) → AreSound i.header i.rows → image_of c ≡ raised_image i.header.last.epoch i → IsNext (usn_after c.last.epoch c.last.place) c.rows.rows
raised_later c i sound is =
    subst (λ (n : Usn). IsNext (usn_after n.epoch n.place) c.rows.rows) (sym (ap (λ (j : Image). j.header.last) is))
    (next_after_last i.header.last (usn_after (i.header.last.epoch + 1) 0) c.rows.rows (above_epoch i.header.last)
    (numbers_of i.header c.rows.rows (subst (AreSound i.header) (sym (ap (λ (j : Image). j.rows) is)) sound)))
