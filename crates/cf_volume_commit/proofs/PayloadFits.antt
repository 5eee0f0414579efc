-- The payload of what differs has a spelling, and leads from the image of the last point to that of now.
use Rattle.std.proofs.Common.{◌≡◌, ℕ, ◌+◌, ◌^◌, ◌<◌, ◌≤◌, Bool, true, false, ◌&&◌, cond, ltb, List, [], ◌∷◌, length, map, Option, Some, None, refl, sym, ap, subst, arith}
use Rattle.std.specs.Prelude.{filter}
use Rattle.std.proofs.lemmas.Bool.{ltb-true, true≢false}
use Rattle.std.proofs.lemmas.List.{length-map}
use Rattle.cf_base.specs.declared.answers.AuxRecord.{AuxRecord}
use Rattle.cf_base.specs.declared.ids.ItemId.{ItemId}
use Rattle.cf_volume_commit.proofs.NamedKeys.{keys_of, records_after, records_named}
use Rattle.cf_volume_points.proofs.Lookups.{filter_records}
use Rattle.cf_volume_commit.proofs.NamedRows.{rows_after, rows_named}
use Rattle.cf_volume_commit.specs.Differing.{IsThen, changed_keys, changed_rows, is_record_changed, is_record_gone, is_row_changed, is_row_gone, is_short_payload, payload_now, removed_keys, removed_rows, text_of}
use Rattle.cf_volume_commit.specs.Leading.{LeadsTo}
use Rattle.cf_volume_points.specs.declared.earlier.Earlier.{Earlier}
use Rattle.cf_volume_image.specs.Contents.{header_of, image_of}
use Rattle.cf_volume_image.specs.Spelled.{AreIdsFrom, AreRecordsFrom, IsImage, IsPayload}
use Rattle.cf_volume_image.specs.States.{IsAfter}
use Rattle.cf_volume_image.specs.declared.contents.Contents.{Contents}
use Rattle.cf_model.specs.Formats.{Image, spell_payload}
use Rattle.cf_model.specs.Rows as model
use Rattle.cf_table.specs.Reading.{AreRows, IsAbove, IsRow}
use Rattle.cf_table.specs.Spelling.{row_value}
use Rattle.cf_table.specs.Tables.{RisesFrom}
use Rattle.cf_table.specs.declared.rows.Row.{Row}

-- what is left of rows in order is in order

row_above : (before : Option ℕ) (key : ℕ) (r : model.Row) → IsAbove before key → IsRow (Some key) r → IsRow before r
row_above before key r above h = record {
  head = record { who = (h.head.who.0, over before h.head.who.1 above, h.head.who.2); basics = h.head.basics; numbers = h.head.numbers };
  name = h.name;
  identity = h.identity;
  here = h.here;
  valid = h.valid;
  modified = h.modified;
  modified_since = h.modified_since;
  extents = h.extents;
}
  where
    over : (b : Option ℕ) → IsAbove (Some key) r.id.0 → IsAbove b key → IsAbove b r.id.0
    over None h a = tt
    over (Some n) h a = omega (arith, h, a)

weaker : (before : Option ℕ) (key : ℕ) (rows : List model.Row) → IsAbove before key → AreRows (Some key) rows → AreRows before rows
weaker before key [] above h = tt
weaker before key (r ∷ rs) above h = (row_above before key r above h.0, h.1)

filter_rows : (p : Row → Bool) (before : Option ℕ) (rows : List Row) → AreRows before (map row_value rows) → AreRows before (map row_value (filter p rows))
filter_rows p before [] h = tt
filter_rows p before (r ∷ rs) h = by (p r) (filter_rows p (Some r.id.0) rs h.1)
  where
    by : (t : Bool) → AreRows (Some r.id.0) (map row_value (filter p rs)) → AreRows before (map row_value (cond t (r ∷ filter p rs) (filter p rs)))
    by true rest = (h.0, rest)
    by false rest = weaker before r.id.0 (map row_value (filter p rs)) h.0.head.who.1 rest

-- the ids of rows in order

ids_weaker : (before : Option ℕ) (key : ℕ) (ids : List ItemId) → IsAbove before key → AreIdsFrom (Some key) ids → AreIdsFrom before ids
ids_weaker before key [] above h = tt
ids_weaker None key (i ∷ is) above h = ((h.0.0, tt), h.1)
ids_weaker (Some n) key (i ∷ is) above h = ((h.0.0, omega (arith, h.0.1, above)), h.1)

abbrev Reaches : Option ℕ → ℕ → Type 0
Reaches None low = Unit {0}
Reaches (Some before) low = before < low

above_low : (before : Option ℕ) (low n : ℕ) → Reaches before low → low ≤ n → IsAbove before n
above_low None low n h le = tt
above_low (Some before) low n h le = omega (arith, h, le)

and_first : (a b : Bool) → (a && b) ≡ true → a ≡ true
and_first true b e = refl
and_first false b e = absurd (true≢false (sym e))

ids_of : (then : Earlier) (now : List Row) (before : Option ℕ) (low : ℕ) (rows : List Row) → then.next.0 < 2 ^ 64 → Reaches before low → RisesFrom low rows → AreIdsFrom before (map (λ (r : Row). r.id) (filter (is_row_gone then now) rows))
ids_of then now before low [] small b h = tt
ids_of then now before low (r ∷ rs) small b h = by (is_row_gone then now r) refl (ids_of then now (Some r.id.0) (r.id.0 + 1) rs small (omega arith) h.1)
  where
    by : (t : Bool) → is_row_gone then now r ≡ t → AreIdsFrom (Some r.id.0) (map (λ (x : Row). x.id) (filter (is_row_gone then now) rs)) → AreIdsFrom before (map (λ (x : Row). x.id) (cond t (r ∷ filter (is_row_gone then now) rs) (filter (is_row_gone then now) rs)))
    by true e rest =
        let lt = ltb-true r.id.0 then.next.0 (and_first (ltb r.id.0 then.next.0) _ e) in
        ((omega (arith, lt, small), above_low before low r.id.0 b h.0), rest)
    by false e rest = ids_weaker before r.id.0 (map (λ (x : Row). x.id) (filter (is_row_gone then now) rs)) (above_low before low r.id.0 b h.0) rest

-- lists at keys that are there are no longer than the keys

module _ (then : Earlier) (c : Contents) (small : then.next.0 < 2 ^ 64) (rise : RisesFrom 0 c.rows.rows) (noted : RisesFrom 0 then.rows.rows) (noted_keys : AreRecordsFrom None then.records) (is : IsImage (image_of c)) (short : is_short_payload then c ≡ true) where
  shorts : (length (removed_rows then c.rows.rows) < 262144) × (length (changed_rows then c.rows.rows) < 262144) × (length (removed_keys then c.records) < 262144) × (length (changed_keys then c.records) < 262144)
  shorts = four (ltb (length (removed_rows then c.rows.rows)) 262144) (ltb (length (changed_rows then c.rows.rows)) 262144) (ltb (length (removed_keys then c.records)) 262144) (ltb (length (changed_keys then c.records)) 262144) refl refl refl refl short
    where
      four : (a b d e : Bool) → ltb (length (removed_rows then c.rows.rows)) 262144 ≡ a → ltb (length (changed_rows then c.rows.rows)) 262144 ≡ b → ltb (length (removed_keys then c.records)) 262144 ≡ d → ltb (length (changed_keys then c.records)) 262144 ≡ e → (a && b && d && e) ≡ true
          → (length (removed_rows then c.rows.rows) < 262144) × (length (changed_rows then c.rows.rows) < 262144) × (length (removed_keys then c.records) < 262144) × (length (changed_keys then c.records) < 262144)
      four true true true true p q r s h = (ltb-true _ _ p, ltb-true _ _ q, ltb-true _ _ r, ltb-true _ _ s)
      four true true true false p q r s h = absurd (true≢false (sym h))
      four true true false e p q r s h = absurd (true≢false (sym h))
      four true false d e p q r s h = absurd (true≢false (sym h))
      four false b d e p q r s h = absurd (true≢false (sym h))

  pub payload_fits : IsPayload (payload_now then c)
  payload_fits = record {
    header = is.header;
    removed = (let h = shorts.0 in omega (arith, h), ids_of then c.rows.rows None 0 then.rows.rows small tt noted);
    rows =
        let named = rows_named then c.rows.rows rise in (
          let h = shorts.1 in
              let same = ap length named in
              let n = length-map (filter (is_row_changed then) c.rows.rows) row_value in
              let m = length-map (filter (is_row_changed then) c.rows.rows) (λ (r : Row). r.id) in
              omega (arith, h, same, n, m),
          subst (λ (l : List model.Row). AreRows None l) (sym named) (filter_rows (is_row_changed then) None c.rows.rows is.rows.1),
        );
    removed_keys = (let h = shorts.2 in omega (arith, h), keys_of None (filter (is_record_gone then c.records) then.records) (filter_records (is_record_gone then c.records) None then.records noted_keys));
    records =
        let named = records_named then c.records is.records.1 in (
          let h = shorts.3 in
              let same = ap length named in
              let m = length-map (filter (is_record_changed then) c.records) (λ (r : AuxRecord). r.key) in
              omega (arith, h, same, m),
          subst (λ (l : List AuxRecord). AreRecordsFrom None l) (sym named) (filter_records (is_record_changed then) None c.records is.records.1),
        );
  }

  pub payload_leads : (i : Image) → IsThen then c i → IsAfter (spell_payload (payload_now then c)) i (image_of c)
  payload_leads i h = record {
    value = payload_now then c;
    is_payload = payload_fits;
    text_is = refl;
    new_is =
        let rows = sym (rows_after then c i rise h) in
        let records = sym (records_after then c i is.records.1 h) in
        λ k. record { header = header_of c; rows = rows k; records = records k };
  }

pub text_leads : (then : Earlier) (c : Contents) (i : Image) → then.next.0 < 2 ^ 64 → RisesFrom 0 c.rows.rows → RisesFrom 0 then.rows.rows → AreRecordsFrom None then.records → IsImage (image_of c) → IsThen then c i → LeadsTo (text_of then c) i (image_of c)
text_leads then c i small rise noted noted_keys is h = by (is_short_payload then c) refl
  where
    by : (t : Bool) → is_short_payload then c ≡ t → LeadsTo (cond t (Some (spell_payload (payload_now then c))) None) i (image_of c)
    by true e = payload_leads then c small rise noted noted_keys is e i h
    by false e = tt
