-- The pins of rows that are told are stored ones.
use Rattle.std.proofs.Common.{◌≡◌, ℕ, Bool, true, false, not, cond, ltb, eqb, List, [], ◌∷◌, map, Option, Some, None, sym, subst}
use Rattle.std.specs.Prelude.{All, filter}
use Rattle.std.proofs.lemmas.List.Elements.{All-head, All-tail, All-nil, All-cons}
use Rattle.cf_codec.specs.declared.formats.Format.{Format}
use Rattle.cf_volume_commit.specs.Leading.{HaveStoredPins}
use Rattle.cf_volume_image.specs.Spelled.{AreSpelledIn}
use Rattle.cf_volume_image.specs.States.{TellsIn}
use Rattle.cf_model.specs.Formats.{Image, Payload, after_payload, after_payloads, is_removed, with_row, with_rows, without_row}
use Rattle.cf_model.specs.Rows.{Row}
use Rattle.cf_model.specs.Words.{put_in}
use Rattle.cf_table.proofs.Formats.{rows_in_second}
use Rattle.cf_table.specs.Reading.{AreRows, IsStored}
use Rattle.cf_table.specs.Spelling.{row_value}
use Rattle.cf_table.specs.declared.rows.Row.{Row as TableRow}

abbrev Pinned : Row → Type 0
Pinned r = IsStored r.pin

of_rows : (before : Option ℕ) (rows : List Row) → AreRows before rows → All Pinned rows
of_rows before [] h = All-nil Pinned
of_rows before (r ∷ rs) h = All-cons Pinned r rs h.0.head.basics.0 (of_rows (Some r.id.0) rs h.1)

filtered : (p : Row → Bool) (rows : List Row) → All Pinned rows → All Pinned (filter p rows)
filtered p [] h = All-nil Pinned
filtered p (r ∷ rs) h = by (p r) (filtered p rs (All-tail Pinned r rs h))
  where
    by : (t : Bool) → All Pinned (filter p rs) → All Pinned (cond t (r ∷ filter p rs) (filter p rs))
    by true rest = All-cons Pinned r (filter p rs) (All-head Pinned r rs h) rest
    by false rest = rest

put : (f : Row → Row → Bool) (row : Row) (rows : List Row) → Pinned row → All Pinned rows → All Pinned (put_in f row rows)
put f row [] p h = All-cons Pinned row [] p (All-nil Pinned)
put f row (r ∷ rs) p h = by (f r row) (put f row rs p (All-tail Pinned r rs h))
  where
    by : (t : Bool) → All Pinned (put_in f row rs) → All Pinned (cond t (r ∷ put_in f row rs) (row ∷ r ∷ rs))
    by true rest = All-cons Pinned r (put_in f row rs) (All-head Pinned r rs h) rest
    by false rest = All-cons Pinned row (r ∷ rs) p h

with_all : (new rows : List Row) → All Pinned new → All Pinned rows → All Pinned (with_rows new rows)
with_all [] rows n h = h
with_all (r ∷ rs) rows n h =
    with_all rs (with_row r rows) (All-tail Pinned r rs n)
    (put (λ x y. ltb x.id.0 y.id.0) r (without_row r.id rows) (All-head Pinned r rs n) (filtered (λ x. not (eqb x.id.0 r.id.0)) rows h))

after_all : (f : Format) (texts : List (List ℕ)) (ps : List Payload) (i : Image) → AreSpelledIn f texts ps → All Pinned i.rows → All Pinned (after_payloads i ps).rows
after_all f [] [] i s h = h
after_all f [] (p ∷ ps) i s h = absurd s
after_all f (t ∷ ts) [] i s h = absurd s
after_all f (t ∷ ts) (p ∷ ps) i s h =
    after_all f ts ps (after_payload i p) s.2 (with_all p.rows (filter (λ r. not (is_removed p.removed r)) i.rows) (of_rows None p.rows (rows_in_second f None p.rows s.0.rows.1)) (filtered (λ r. not (is_removed p.removed r)) i.rows h))

of_table : (rows : List TableRow) → All Pinned (map row_value rows) → HaveStoredPins rows
of_table [] h = All-nil (λ (r : TableRow). IsStored r.pin)
of_table (r ∷ rs) h = All-cons (λ (x : TableRow). IsStored x.pin) r rs (All-head Pinned (row_value r) (map row_value rs) h) (of_table rs (All-tail Pinned (row_value r) (map row_value rs) h))

pub pins_told : (f : Format) (image : List ℕ) (payloads : List (List ℕ)) (s : Image) (rows : List TableRow) → TellsIn f image payloads s → s.rows ≡ map row_value rows → HaveStoredPins rows
pins_told f image payloads s rows told is =
    of_table rows (subst (λ (l : List Row). All Pinned l) is (subst (λ (i : Image). All Pinned i.rows) (sym told.state_is)
    (after_all f payloads told.changes told.value told.payloads_are (of_rows None told.value.rows (rows_in_second f None told.value.rows told.is_image.rows.1)))))
