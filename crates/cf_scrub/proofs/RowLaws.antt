-- A row that passes its tests is sound, and a sound row passes them.
use Rattle.std.proofs.Common.{◌≡◌, ℕ, Bool, true, false, ◌||◌, ◌&&◌, not, cond, List, length, refl, sym, ap, ◌∙◌, eqb, leb, ltb, inl, inr, Option, Some, None}
use Rattle.std.proofs.lemmas.Bool.{cases_Bool, eq-eqb, eqb-true, le-leb, leb-true, lt-ltb, ltb-true, ne_eqb}
use Rattle.std.specs.Prelude.{is_some, unwrap_or}
use Rattle.cf_base.specs.declared.ids.ItemId.{ItemId}
use Rattle.cf_base.specs.declared.ids.Usn.{Usn}
use Rattle.cf_base.specs.declared.limits.TheConstants.{MOST_FILE_BYTES, MOST_IDENTITY_BYTES}
use Rattle.cf_model.specs.Numbers.{above}
use Rattle.cf_model.specs.Rows as model
use Rattle.cf_model.specs.Rows.{IsSoundRow}
use Rattle.cf_model.specs.Texts.{is_name}
use Rattle.cf_model.specs.Words.{is_empty}
use Rattle.cf_scrub.specs.Places.{ends_by, has_all, has_span}
use Rattle.cf_scrub.specs.RowTests.{has_child, has_no_run, has_sound_flags, has_sound_kind, has_sound_name, has_sound_numbers, has_sound_runs, has_sound_writes, is_bare, is_listed, is_small, is_sound_row}
use Rattle.cf_scrub.proofs.Bools.{as_none, both, five, four, is_false, left, neither, never, none_is, not_true, right, seven, six, three, two}
use Rattle.cf_scrub.proofs.SetLaws.{all_from, all_told, ends_from, ends_told, span_from, span_told}
use Rattle.cf_table.specs.Spelling.{row_value}
use Rattle.cf_table.specs.Tables.{IsStored}
use Rattle.cf_table.specs.declared.rows.Row.{Row}
use Rattle.cf_volume_image.specs.RowTests.{AreSmall, HasSoundName, HasSoundNumbers, HasSoundSets, IsBareRow, IsSoundFile}
use Rattle.cf_volume_image.proofs.SoundRows.{named_row, sound_row, tested_row}

-- from the tests

numbers_from : (next : ItemId) (last : Usn) (r : Row) → has_sound_numbers next last (row_value r) ≡ true → HasSoundNumbers next last r
numbers_from next last r h =
    let w = three (ltb r.id.0 next.0) (not (above r.number last)) (not (above r.anchor last)) h in
    (ltb-true r.id.0 next.0 w.0, is_false (above r.number last) w.1, is_false (above r.anchor last) w.2)

name_from : (r : Row) → has_sound_name (row_value r) ≡ true → HasSoundName r
name_from r h = (
  λ e. as_none r.name (sym (ap (λ c. cond c (is_empty r.name) (is_name r.name)) (eq-eqb r.id.0 1 e)) ∙ h),
  λ other. sym (ap (λ c. cond c (is_empty r.name) (is_name r.name)) (ne_eqb r.id.0 1 other)) ∙ h,
)

small_from : (r : Row) → is_small (row_value r) ≡ true → AreSmall r
small_from r h =
    let w = three (leb (length r.identity) MOST_IDENTITY_BYTES) (leb r.size MOST_FILE_BYTES) (leb (unwrap_or r.base 0) MOST_FILE_BYTES) h in
    (leb-true (length r.identity) MOST_IDENTITY_BYTES w.0, leb-true r.size MOST_FILE_BYTES w.1, leb-true (unwrap_or r.base 0) MOST_FILE_BYTES w.2)

sets_from : (r : Row) → has_sound_writes (row_value r) ≡ true → has_sound_runs (row_value r) ≡ true → HasSoundSets r
sets_from r h k =
    let w = two (has_span r.modified (unwrap_or r.base 0) r.size) (has_all r.modified r.modified_since) h in
    let v = five (ends_by r.here r.size) (has_all r.here r.valid) (has_all r.here r.modified) (has_all r.here r.modified_since) (not r.dir || has_no_run (row_value r)) k in
    record {
      in_size = ends_from r.here r.size v.0;
      valid = all_from r.here r.valid v.1;
      modified = all_from r.here r.modified v.2;
      modified_since = all_from r.modified r.modified_since w.1;
      past_base = span_from r.modified (unwrap_or r.base 0) r.size w.0;
    }

no_base : (o : Option ℕ) → not (is_some o) ≡ true → o ≡ None
no_base None h = refl
no_base (Some n) h = let z : false ≡ true = h in absurd cc

bare_from : (rows : List model.Row) (r : Row) → is_bare (row_value r) ≡ true → is_listed rows (row_value r) ≡ true → IsBareRow r
bare_from rows r h k =
    let w = seven (eqb r.size 0) (not (is_some r.base)) (has_no_run (row_value r)) (not r.dirty) (not r.dirty_since) (not r.keep) (eqb r.last 0) h in
    let v = four (is_empty r.here) (is_empty r.valid) (is_empty r.modified) (is_empty r.modified_since) w.2 in
    record {
      size = eqb-true r.size 0 w.0;
      base = no_base r.base w.1;
      here = as_none r.here v.0;
      valid = as_none r.valid v.1;
      modified = as_none r.modified v.2;
      modified_since = as_none r.modified_since v.3;
      clean = (is_false r.dirty w.3, is_false r.dirty_since w.4);
      keep = is_false r.keep w.5;
      last = eqb-true r.last 0 w.6;
      placeholder = λ e. (two r.placeholder (not (has_child rows r.id)) (neither r.populated (r.placeholder && not (has_child rows r.id)) e k)).0;
    }

kind_of : (rows : List model.Row) (r : Row) (d : Bool) → r.dir ≡ d → has_sound_kind rows (row_value r) ≡ true → cond d (is_bare (row_value r) && is_listed rows (row_value r)) (not r.populated) ≡ true
kind_of rows r d e h = sym (ap (λ c. cond c (is_bare (row_value r) && is_listed rows (row_value r)) (not r.populated)) e) ∙ h

-- a directory in which there is an item has all its entries
pub listed_from : (rows : List model.Row) (r : Row) → has_sound_kind rows (row_value r) ≡ true → r.dir ≡ true → has_child rows r.id ≡ true → r.populated ≡ true
listed_from rows r h d child =
    let w = two (is_bare (row_value r)) (is_listed rows (row_value r)) (kind_of rows r true d h) in
    elim (cases_Bool r.populated) [
      | inl hit ↦ hit
      | inr miss ↦
          let v = two r.placeholder (not (has_child rows r.id)) (neither r.populated (r.placeholder && not (has_child rows r.id)) miss w.1) in
          never (has_child rows r.id) child (is_false (has_child rows r.id) v.1)
    ]

file_from : (rows : List model.Row) (r : Row) → has_sound_kind rows (row_value r) ≡ true → has_sound_flags (row_value r) ≡ true → IsSoundFile r
file_from rows r h k =
    let plain = r.placeholder || (is_empty r.identity && (not r.in_sync && not r.keep)) in
    let clean = r.dirty || (is_empty r.modified && not r.dirty_since) in
    let w = three plain (not (r.in_sync && r.dirty)) clean k in
    record {
      directory = λ d. let v = two (is_bare (row_value r)) (is_listed rows (row_value r)) (kind_of rows r true d h) in bare_from rows r v.0 v.1;
      file = λ d. is_false r.populated (kind_of rows r false d h);
      plain = λ e. let v = three (is_empty r.identity) (not r.in_sync) (not r.keep) (neither r.placeholder (is_empty r.identity && (not r.in_sync && not r.keep)) e w.0) in (as_none r.identity v.0, is_false r.in_sync v.1, is_false r.keep v.2);
      in_sync = λ e. sym (ap (λ v. v && r.dirty) e) ∙ is_false (r.in_sync && r.dirty) w.1;
      clean = λ e. let v = two (is_empty r.modified) (not r.dirty_since) (neither r.dirty (is_empty r.modified && not r.dirty_since) e w.2) in (as_none r.modified v.0, is_false r.dirty_since v.1);
    }

pub kind_in : (rows : List model.Row) (next : ItemId) (last : Usn) (r : model.Row) → is_sound_row rows next last r ≡ true → has_sound_kind rows r ≡ true
kind_in rows next last r h = (six (has_sound_numbers next last r) (has_sound_name r) (is_small r) (has_sound_writes r) (has_sound_kind rows r) (has_sound_flags r) h).4

pub row_from : (rows : List model.Row) (next : ItemId) (last : Usn) (r : Row) → is_sound_row rows next last (row_value r) ≡ true → has_sound_runs (row_value r) ≡ true → IsSoundRow next last (row_value r)
row_from rows next last r h k =
    let v : model.Row = row_value r in
    let w = six (has_sound_numbers next last v) (has_sound_name v) (is_small v) (has_sound_writes v) (has_sound_kind rows v) (has_sound_flags v) h in
    sound_row next last r (name_from r w.1) (record { numbers = numbers_from next last r w.0; small = small_from r w.2; sets = sets_from r w.3 k; file = file_from rows r w.4 w.5 })

-- to the tests

numbers_told : (next : ItemId) (last : Usn) (r : Row) → HasSoundNumbers next last r → has_sound_numbers next last (row_value r) ≡ true
numbers_told next last r h =
    both (ltb r.id.0 next.0) (not (above r.number last) && not (above r.anchor last)) (lt-ltb r.id.0 next.0 h.0) (both (not (above r.number last)) (not (above r.anchor last)) (not_true (above r.number last) h.1) (not_true (above r.anchor last) h.2))

name_told : (r : Row) → HasSoundName r → has_sound_name (row_value r) ≡ true
name_told r h = elim (cases_Bool (eqb r.id.0 1)) [
  | inl hit ↦ ap (λ c. cond c (is_empty r.name) (is_name r.name)) hit ∙ none_is r.name (h.0 (eqb-true r.id.0 1 hit))
  | inr miss ↦ ap (λ c. cond c (is_empty r.name) (is_name r.name)) miss ∙ h.1 (λ e. never (eqb r.id.0 1) (eq-eqb r.id.0 1 e) miss)
]

small_told : (r : Row) → AreSmall r → is_small (row_value r) ≡ true
small_told r h =
    both (leb (length r.identity) MOST_IDENTITY_BYTES) (leb r.size MOST_FILE_BYTES && leb (unwrap_or r.base 0) MOST_FILE_BYTES) (le-leb (length r.identity) MOST_IDENTITY_BYTES h.0)
    (both (leb r.size MOST_FILE_BYTES) (leb (unwrap_or r.base 0) MOST_FILE_BYTES) (le-leb r.size MOST_FILE_BYTES h.1) (le-leb (unwrap_or r.base 0) MOST_FILE_BYTES h.2))

writes_told : (r : Row) → IsStored r → HasSoundSets r → has_sound_writes (row_value r) ≡ true
writes_told r s h =
    both (has_span r.modified (unwrap_or r.base 0) r.size) (has_all r.modified r.modified_since) (span_told r.modified (unwrap_or r.base 0) r.size s.modified h.past_base) (all_told r.modified r.modified_since s.modified s.modified_since h.modified_since)

no_run_told : (r : Row) → IsBareRow r → has_no_run (row_value r) ≡ true
no_run_told r b =
    both (is_empty r.here) (is_empty r.valid && (is_empty r.modified && is_empty r.modified_since)) (none_is r.here b.here)
    (both (is_empty r.valid) (is_empty r.modified && is_empty r.modified_since) (none_is r.valid b.valid)
    (both (is_empty r.modified) (is_empty r.modified_since) (none_is r.modified b.modified) (none_is r.modified_since b.modified_since)))

bare_told : (r : Row) → IsBareRow r → is_bare (row_value r) ≡ true
bare_told r b =
    let g = eqb r.last 0 in let f = not r.keep in let e = not r.dirty_since in let d = not r.dirty in let c = has_no_run (row_value r) in let n = not (is_some r.base) in
    both (eqb r.size 0) (n && (c && (d && (e && (f && g))))) (eq-eqb r.size 0 b.size)
    (both n (c && (d && (e && (f && g)))) (ap (λ o. not (is_some o)) b.base)
    (both c (d && (e && (f && g))) (no_run_told r b)
    (both d (e && (f && g)) (not_true r.dirty b.clean.0)
    (both e (f && g) (not_true r.dirty_since b.clean.1)
    (both f g (not_true r.keep b.keep) (eq-eqb r.last 0 b.last))))))

kind_told : (rows : List model.Row) (r : Row) → IsSoundFile r → (r.dir ≡ true → r.populated ≡ false → has_child rows r.id ≡ false) → has_sound_kind rows (row_value r) ≡ true
kind_told rows r h childless = elim (cases_Bool r.dir) [
  | inl d ↦
      ap (λ c. cond c (is_bare (row_value r) && is_listed rows (row_value r)) (not r.populated)) d
      ∙ both (is_bare (row_value r)) (is_listed rows (row_value r)) (bare_told r (h.directory d)) (elim (cases_Bool r.populated) [
        | inl hit ↦ left r.populated (r.placeholder && not (has_child rows r.id)) hit
        | inr miss ↦
            right r.populated (r.placeholder && not (has_child rows r.id)) (both r.placeholder (not (has_child rows r.id)) ((h.directory d).placeholder miss) (not_true (has_child rows r.id) (childless d miss)))
      ])
  | inr f ↦ ap (λ c. cond c (is_bare (row_value r) && is_listed rows (row_value r)) (not r.populated)) f ∙ not_true r.populated (h.file f)
]

flags_told : (r : Row) → IsSoundFile r → has_sound_flags (row_value r) ≡ true
flags_told r h =
    let bare = is_empty r.identity && (not r.in_sync && not r.keep) in
    let none = is_empty r.modified && not r.dirty_since in
    both (r.placeholder || bare) (not (r.in_sync && r.dirty) && (r.dirty || none))
    (elim (cases_Bool r.placeholder) [
      | inl hit ↦ left r.placeholder bare hit
      | inr miss ↦
          let p = h.plain miss in
          right r.placeholder bare (both (is_empty r.identity) (not r.in_sync && not r.keep) (none_is r.identity p.0) (both (not r.in_sync) (not r.keep) (not_true r.in_sync p.1) (not_true r.keep p.2)))
    ])
    (both (not (r.in_sync && r.dirty)) (r.dirty || none)
    (elim (cases_Bool r.in_sync) [
      | inl hit ↦ ap not (ap (λ v. v && r.dirty) hit ∙ h.in_sync hit)
      | inr miss ↦ ap not (ap (λ v. v && r.dirty) miss)
    ])
    (elim (cases_Bool r.dirty) [
      | inl hit ↦ left r.dirty none hit
      | inr miss ↦ let p = h.clean miss in right r.dirty none (both (is_empty r.modified) (not r.dirty_since) (none_is r.modified p.0) (not_true r.dirty_since p.1))
    ]))

runs_told : (r : Row) → IsStored r → HasSoundSets r → IsSoundFile r → has_sound_runs (row_value r) ≡ true
runs_told r s h k =
    let e = not r.dir || has_no_run (row_value r) in let d = has_all r.here r.modified_since in let c = has_all r.here r.modified in
    both (ends_by r.here r.size) (has_all r.here r.valid && (c && (d && e))) (ends_told 0 r.here r.size s.here h.in_size)
    (both (has_all r.here r.valid) (c && (d && e)) (all_told r.here r.valid s.here s.valid h.valid)
    (both c (d && e) (all_told r.here r.modified s.here s.modified h.modified)
    (both d e (all_told r.here r.modified_since s.here s.modified_since (λ p at. h.modified p (h.modified_since p at)))
    (elim (cases_Bool r.dir) [
      | inl hit ↦ right (not r.dir) (has_no_run (row_value r)) (no_run_told r (k.directory hit))
      | inr miss ↦ left (not r.dir) (has_no_run (row_value r)) (not_true r.dir miss)
    ]))))

pub row_told : (rows : List model.Row) (next : ItemId) (last : Usn) (r : Row) → IsStored r → IsSoundRow next last (row_value r) → (r.dir ≡ true → r.populated ≡ false → has_child rows r.id ≡ false)
    → (is_sound_row rows next last (row_value r) ≡ true) × (has_sound_runs (row_value r) ≡ true)
row_told rows next last r s h childless =
    let t = tested_row next last r h in
    let v : model.Row = row_value r in
    let f = has_sound_flags v in let e = has_sound_kind rows v in let d = has_sound_writes v in let c = is_small v in let b = has_sound_name v in (
      both (has_sound_numbers next last v) (b && (c && (d && (e && f)))) (numbers_told next last r t.numbers)
          (both b (c && (d && (e && f))) (name_told r (named_row next last r h))
          (both c (d && (e && f)) (small_told r t.small)
          (both d (e && f) (writes_told r s t.sets)
          (both e f (kind_told rows r t.file childless) (flags_told r t.file))))),
      runs_told r s t.sets t.file,
    )
