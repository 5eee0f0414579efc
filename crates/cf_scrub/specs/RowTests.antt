-- Tests of what a row says of its item.
use Rattle.std.specs.Prelude.{Bool, List, length, cond, not, is_some, unwrap_or, nat_le, nat_lt, ◌&&◌, ◌||◌, ◌==◌}
use Rattle.std.specs.List.{list_any}
use Rattle.cf_base.specs.declared.ids.ItemId.{ItemId}
use Rattle.cf_base.specs.declared.ids.Usn.{Usn}
use Rattle.cf_base.specs.declared.limits.TheConstants.{MOST_FILE_BYTES, MOST_IDENTITY_BYTES}
use Rattle.cf_model.specs.Numbers.{above}
use Rattle.cf_model.specs.Rows.{Row}
use Rattle.cf_model.specs.Texts.{is_name}
use Rattle.cf_model.specs.Words.{is_empty}
use Rattle.cf_scrub.specs.Places.{ends_by, has_all, has_span}

abbrev pub has_sound_numbers : ItemId → Usn → Row → Bool
has_sound_numbers next last r = nat_lt r.id.0 next.0 && (not (above r.number last) && not (above r.anchor last))

-- the root has no name
abbrev pub has_sound_name : Row → Bool
has_sound_name r = cond (r.id.0 == 1) (is_empty r.name) (is_name r.name)

abbrev pub is_small : Row → Bool
is_small r = nat_le (length r.identity) MOST_IDENTITY_BYTES && (nat_le r.size MOST_FILE_BYTES && nat_le (unwrap_or r.base 0) MOST_FILE_BYTES)

-- the bytes that no base can give are local ones, and what was modified since the anchor is modified
abbrev pub has_sound_writes : Row → Bool
has_sound_writes r = has_span r.modified (unwrap_or r.base 0) r.size && has_all r.modified r.modified_since

abbrev pub has_no_run : Row → Bool
has_no_run r = is_empty r.here && (is_empty r.valid && (is_empty r.modified && is_empty r.modified_since))

abbrev pub has_child : List Row → ItemId → Bool
has_child rows id = list_any (λ r. r.parent.0 == id.0) rows

-- a directory has no bytes
abbrev pub is_bare : Row → Bool
is_bare r = (r.size == 0) && (not (is_some r.base) && (has_no_run r && (not r.dirty && (not r.dirty_since && (not r.keep && (r.last == 0))))))

-- the entries of a directory have come, or else it is a placeholder and has none
abbrev pub is_listed : List Row → Row → Bool
is_listed rows r = r.populated || (r.placeholder && not (has_child rows r.id))

abbrev pub has_sound_kind : List Row → Row → Bool
has_sound_kind rows r = cond r.directory (is_bare r && is_listed rows r) (not r.populated)

abbrev pub has_sound_flags : Row → Bool
has_sound_flags r =
    (r.placeholder || (is_empty r.identity && (not r.in_sync && not r.keep)))
    && (not (r.in_sync && r.dirty) && (r.dirty || (is_empty r.modified && not r.dirty_since)))

-- The row is sound in a volume of these rows, whose next item and last number these are.
abbrev pub is_sound_row : List Row → ItemId → Usn → Row → Bool
is_sound_row rows next last r =
    has_sound_numbers next last r && (has_sound_name r && (is_small r && (has_sound_writes r && (has_sound_kind rows r && has_sound_flags r))))

-- the bytes that are here lie inside of the size, all others are here, and a directory has none
abbrev pub has_sound_runs : Row → Bool
has_sound_runs r =
    ends_by r.here r.size && (has_all r.here r.valid && (has_all r.here r.modified && (has_all r.here r.modified_since && (not r.directory || has_no_run r))))
