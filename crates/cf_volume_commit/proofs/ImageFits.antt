-- Contents that can be written have a spelling.
use Rattle.std.proofs.Common.{ℕ, ◌+◌, ◌^◌, ◌<◌, ◌≤◌, List, [], ◌∷◌, length, map, Option, Some, None, refl, sym, subst, arith}
use Rattle.std.specs.Prelude.{All, sum_by}
use Rattle.std.proofs.lemmas.List.{length-map}
use Rattle.std.proofs.lemmas.List.Elements.{All-head, All-tail}
use Rattle.std.proofs.lemmas.List.Sums.{sum_by-cons}
use Rattle.cf_base.specs.declared.answers.AuxRecord.{AuxRecord}
use Rattle.cf_base.specs.declared.spans.Span.{Span}
use Rattle.cf_volume_commit.specs.Leading.{CanBeWritten, HaveStoredPins}
use Rattle.cf_volume_image.specs.Contents.{header_of, image_of}
use Rattle.cf_volume_image.specs.Spelled.{AreRecordsFrom, IsHeader, IsImage}
use Rattle.cf_volume_image.specs.declared.contents.Contents.{Contents}
use Rattle.cf_model.proofs.LengthLaws.{image_length}
use Rattle.cf_model.specs.Images.{aux_len}
use Rattle.cf_model.specs.Rows as model
use Rattle.cf_volume_points.proofs.Commits.{records_length}
use Rattle.cf_ranges.specs.Pairs.{IsRisingFrom}
use Rattle.cf_ranges.specs.Positions.{IsRuns, IsRunsFrom}
use Rattle.cf_table.specs.Reading.{AreExtentsFrom, AreRows, AreRunsFrom, IsAbove, IsRow, IsSet, IsStored}
use Rattle.cf_table.specs.Spelling.{EndBelow, HasRoom, extent_of, row_value}
use Rattle.cf_table.specs.Tables.{AreTableRows, IsTableRow, RisesFrom}
use Rattle.cf_table.specs.declared.rows.Row.{Row}

-- sets

runs_fit : (low : ℕ) (runs : List Span) → IsRunsFrom low runs → EndBelow runs → AreRunsFrom low runs
runs_fit low [] h e = tt
runs_fit low (s ∷ ss) h e = ((h.0, h.1, All-head (λ (x : Span). x.start + x.len < 2 ^ 32) s ss e), runs_fit (s.start + s.len + 1) ss h.3 (All-tail (λ (x : Span). x.start + x.len < 2 ^ 32) s ss e))

-- each run and the gap behind it take two places
runs_few : (low : ℕ) (runs : List Span) → IsRunsFrom low runs → EndBelow runs → low ≤ 2 ^ 32 → length runs + low ≤ 2 ^ 32
runs_few low [] h e le = omega (arith, le)
runs_few low (s ∷ ss) h e le =
    let end = All-head (λ (x : Span). x.start + x.len < 2 ^ 32) s ss e in
    let rest = runs_few (s.start + s.len + 1) ss h.3 (All-tail (λ (x : Span). x.start + x.len < 2 ^ 32) s ss e) (omega (arith, end)) in
    omega (arith, rest, h.0, h.1)

set_fits : (runs : List Span) → IsRuns runs → EndBelow runs → IsSet runs
set_fits runs h e = (two_less runs h e, runs_fit 0 runs h e)
  where
    two_less : (rs : List Span) → IsRuns rs → EndBelow rs → length rs < 2 ^ 32
    two_less [] h e = omega arith
    two_less (s ∷ ss) h e =
        let end = All-head (λ (x : Span). x.start + x.len < 2 ^ 32) s ss e in
        let rest = runs_few (s.start + s.len + 1) ss h.3 (All-tail (λ (x : Span). x.start + x.len < 2 ^ 32) s ss e) (omega (arith, end)) in
        omega (arith, rest, h.1)

-- extents, whose numbers fit

abbrev pub AreSmall : List (ℕ × ℕ) → Type 0
AreSmall es = All (λ (e : ℕ × ℕ). (e.0 < 2 ^ 32) × (e.1 < 2 ^ 32)) es

extents_fit : (low : ℕ) (es : List (ℕ × ℕ)) → IsRisingFrom low es → AreSmall es → AreExtentsFrom low (map extent_of es)
extents_fit low [] h s = tt
extents_fit low (e ∷ es) h s =
    let here = All-head (λ (x : ℕ × ℕ). (x.0 < 2 ^ 32) × (x.1 < 2 ^ 32)) e es s in
    ((h.0, here.0, here.1), extents_fit (e.0 + 1) es h.1 (All-tail (λ (x : ℕ × ℕ). (x.0 < 2 ^ 32) × (x.1 < 2 ^ 32)) e es s))

-- rows

row_fits : (r : Row) → IsTableRow r → HasRoom r → IsStored r.pin → IsRow None (row_value r)
row_fits r t room pin = record {
  head = record {
    who = (t.range.id, tt, t.range.parent);
    basics = (pin, (refl, t.range.size, t.range.base));
    numbers = (t.range.number, t.range.anchor, t.range.last);
  };
  name = let h = room.texts.name in omega (arith, h);
  identity = let h = room.texts.identity in omega (arith, h);
  here = set_fits r.here t.stored.here room.here;
  valid = set_fits r.valid t.stored.valid room.valid;
  modified = set_fits r.modified t.stored.modified room.modified;
  modified_since = set_fits r.modified_since t.stored.modified_since room.modified_since;
  extents = (subst (λ (n : ℕ). n < 2 ^ 32) (sym (length-map r.extents extent_of)) room.extents, extents_fit 0 r.extents t.stored.extents t.range.extents);
}

row_above : (before : Option ℕ) (r : model.Row) → IsAbove before r.id.0 → IsRow None r → IsRow before r
row_above before r above h = record {
  head = record { who = (h.head.who.0, above, h.head.who.2); basics = h.head.basics; numbers = h.head.numbers };
  name = h.name;
  identity = h.identity;
  here = h.here;
  valid = h.valid;
  modified = h.modified;
  modified_since = h.modified_since;
  extents = h.extents;
}

-- the id is above the one before where it is not below this bound
abbrev Reaches : Option ℕ → ℕ → Type 0
Reaches None low = Unit {0}
Reaches (Some before) low = before < low

above_low : (before : Option ℕ) (low n : ℕ) → Reaches before low → low ≤ n → IsAbove before n
above_low None low n h le = tt
above_low (Some before) low n h le = omega (arith, h, le)

rows_fit : (before : Option ℕ) (low : ℕ) (rows : List Row) → Reaches before low → RisesFrom low rows → AreTableRows rows → All HasRoom rows → HaveStoredPins rows → AreRows before (map row_value rows)
rows_fit before low [] b rise kept room pins = tt
rows_fit before low (r ∷ rs) b rise kept room pins = (
  row_above before (row_value r) (above_low before low r.id.0 b rise.0) (row_fits r kept.0 (All-head HasRoom r rs room) (All-head (λ (x : Row). IsStored x.pin) r rs pins)),
  rows_fit (Some r.id.0) (r.id.0 + 1) rs (omega arith) rise.1 kept.1 (All-tail HasRoom r rs room) (All-tail (λ (x : Row). IsStored x.pin) r rs pins),
)

-- records

few_records : (rs : List AuxRecord) → length rs ≤ sum_by aux_len rs
few_records [] = omega arith
few_records (r ∷ rs) = let rest = few_records rs in let total = sum_by-cons aux_len r rs in omega (arith, rest, total)

pub image_fits : (c : Contents) → IsHeader (header_of c) → CanBeWritten c → RisesFrom 0 c.rows.rows → AreTableRows c.rows.rows → AreRecordsFrom None c.records → HaveStoredPins c.rows.rows → IsImage (image_of c)
image_fits c header can rise kept keys pins = record {
  header = header;
  rows = (let few = can.few in let same = length-map c.rows.rows row_value in omega (arith, few, same), rows_fit None 0 c.rows.rows tt rise kept can.room pins);
  records = (
    let whole = image_length (image_of c) in
        let records = records_length c.records in
        let few = few_records c.records in
        let short = can.short in
        omega (arith, whole, records, few, short),
    keys,
  );
}
