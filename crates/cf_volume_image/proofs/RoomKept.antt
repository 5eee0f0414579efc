-- The rows that an image and payloads tell have room in a spelling.
use Rattle.std.proofs.Common.{ℕ, Bool, true, false, cond, not, List, [], ◌∷◌, sym, ap, subst, eqb, ltb, Option, Some, None}
use Rattle.std.proofs.lemmas.List.Elements.{All-cons, All-filter, All-head, All-nil, All-tail}
use Rattle.std.specs.Prelude.{All, filter, map}
use Rattle.cf_codec.specs.declared.formats.Format.{Format}
use Rattle.cf_model.specs.Formats.{Image, Payload, after_payload, after_payloads, is_removed, with_rows, without_row}
use Rattle.cf_model.specs.Rows as model
use Rattle.cf_model.specs.Words.{put_in}
use Rattle.cf_table.specs.Reading.{AreRowsIn, IsRowIn}
use Rattle.cf_table.specs.Spelling.{HasRoom, row_value}
use Rattle.cf_table.specs.declared.rows.Row.{Row}
use Rattle.cf_table.proofs.RowTaken.{has_room}
use Rattle.cf_volume_image.specs.Contents.{image_of}
use Rattle.cf_volume_image.specs.Spelled.{AreSpelledIn}
use Rattle.cf_volume_image.specs.States.{TellsIn}
use Rattle.cf_volume_image.specs.declared.contents.Contents.{Contents}

abbrev Spells : model.Row → Type 0
Spells r = (f : Format) × (before : Option ℕ) × IsRowIn f before r

each_spells : (f : Format) (before : Option ℕ) (rows : List model.Row) → AreRowsIn f before rows → All Spells rows
each_spells f before [] h = All-nil Spells
each_spells f before (r ∷ rs) h = All-cons Spells r rs (f, before, h.0) (each_spells f (Some r.id.0) rs h.1)

put_spells : (r : model.Row) (rows : List model.Row) → Spells r → All Spells rows → All Spells (put_in (λ x y. ltb x.id.0 y.id.0) r rows)
put_spells r [] s h = All-cons Spells r [] s (All-nil Spells)
put_spells r (x ∷ xs) s h = by (ltb x.id.0 r.id.0) (put_spells r xs s (All-tail Spells x xs h)) where
  by : (b : Bool) → All Spells (put_in (λ x y. ltb x.id.0 y.id.0) r xs) → All Spells (cond b (x ∷ put_in (λ x y. ltb x.id.0 y.id.0) r xs) (r ∷ x ∷ xs))
  by true so = All-cons Spells x (put_in (λ x y. ltb x.id.0 y.id.0) r xs) (All-head Spells x xs h) so
  by false so = All-cons Spells r (x ∷ xs) s h

with_spells : (more rows : List model.Row) → All Spells more → All Spells rows → All Spells (with_rows more rows)
with_spells [] rows m h = h
with_spells (r ∷ rs) rows m h =
    with_spells rs (put_in (λ x y. ltb x.id.0 y.id.0) r (without_row r.id rows)) (All-tail Spells r rs m)
    (put_spells r (without_row r.id rows) (All-head Spells r rs m) (All-filter (λ x. not (eqb x.id.0 r.id.0)) Spells rows h))

after_spells : (f : Format) (texts : List (List ℕ)) (ps : List Payload) (i : Image) → AreSpelledIn f texts ps → All Spells i.rows → All Spells (after_payloads i ps).rows
after_spells f [] [] i a h = h
after_spells f [] (p ∷ ps) i a h = absurd a
after_spells f (t ∷ ts) [] i a h = absurd a
after_spells f (t ∷ ts) (p ∷ ps) i a h =
    after_spells f ts ps (after_payload i p) a.2
    (with_spells p.rows (filter (λ r. not (is_removed p.removed r)) i.rows) (each_spells f None p.rows a.0.rows.1) (All-filter (λ r. not (is_removed p.removed r)) Spells i.rows h))

room_each : (rows : List Row) → All Spells (map row_value rows) → All HasRoom rows
room_each [] h = All-nil HasRoom
room_each (r ∷ rs) h =
    let one : Spells (row_value r) = All-head Spells (row_value r) (map row_value rs) h in
    All-cons HasRoom r rs (has_room one.0 one.1 r one.2) (room_each rs (All-tail Spells (row_value r) (map row_value rs) h))

pub told_room : (f : Format) (image : List ℕ) (texts : List (List ℕ)) (c : Contents) → TellsIn f image texts (image_of c) → All HasRoom c.rows.rows
told_room f image texts c t =
    room_each c.rows.rows (subst (λ (l : List model.Row). All Spells l) (sym (ap (λ v. v.rows) t.state_is))
    (after_spells f texts t.changes t.value t.payloads_are (each_spells f None t.value.rows t.is_image.rows.1)))
