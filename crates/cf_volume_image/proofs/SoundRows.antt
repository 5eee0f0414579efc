-- A row that passes its tests is sound, and a sound row passes them.
use Rattle.std.proofs.Common.{◌≡◌, ℕ, ◌||◌, List, [], ◌∷◌, refl, sym, ap, ◌∙◌}
use Rattle.cf_base.specs.declared.ids.ItemId.{ItemId}
use Rattle.cf_base.specs.declared.ids.Usn.{Usn}
use Rattle.cf_base.specs.declared.spans.Span.{Span}
use Rattle.cf_model.specs.Rows.{IsSoundRow, has_place}
use Rattle.cf_ranges.specs.Positions.{contains, in_span}
use Rattle.cf_table.specs.Spelling.{row_value}
use Rattle.cf_table.specs.declared.rows.Row.{Row}
use Rattle.cf_volume_image.specs.RowTests.{HasSoundName, IsSoundButName}

pub has_place_is : (ss : List Span) (p : ℕ) → has_place ss p ≡ contains ss p
has_place_is [] p = refl
has_place_is (s ∷ ss) p = ap (λ b. in_span s p || b) (has_place_is ss p)

pub sound_row : (next : ItemId) (last : Usn) (r : Row) → HasSoundName r → IsSoundButName next last r → IsSoundRow next last (row_value r)
sound_row next last r name h = record {
  id = h.numbers.0;
  numbers = (h.numbers.1, h.numbers.2);
  root_name = name.0;
  name = name.1;
  lengths = h.small;
  in_size = λ p at. h.sets.in_size p (sym (has_place_is r.here p) ∙ at);
  valid = λ p at. has_place_is r.here p ∙ h.sets.valid p (sym (has_place_is r.valid p) ∙ at);
  modified = λ p at. has_place_is r.here p ∙ h.sets.modified p (sym (has_place_is r.modified p) ∙ at);
  modified_since = λ p at. has_place_is r.modified p ∙ h.sets.modified_since p (sym (has_place_is r.modified_since p) ∙ at);
  past_base = λ p le lt. has_place_is r.modified p ∙ h.sets.past_base p le lt;
  directory = λ d. let b = h.file.directory d in record {
    size = b.size;
    base = b.base;
    here = b.here;
    valid = b.valid;
    modified = b.modified;
    modified_since = b.modified_since;
    clean = b.clean;
    keep = b.keep;
    last = b.last;
    placeholder = b.placeholder;
  };
  file = h.file.file;
  plain = h.file.plain;
  in_sync = h.file.in_sync;
  clean = h.file.clean;
}

pub named_row : (next : ItemId) (last : Usn) (r : Row) → IsSoundRow next last (row_value r) → HasSoundName r
named_row next last r h = (h.root_name, h.name)

pub tested_row : (next : ItemId) (last : Usn) (r : Row) → IsSoundRow next last (row_value r) → IsSoundButName next last r
tested_row next last r h = record {
  numbers = (h.id, h.numbers.0, h.numbers.1);
  small = h.lengths;
  sets = record {
    in_size = λ p at. h.in_size p (has_place_is r.here p ∙ at);
    valid = λ p at. sym (has_place_is r.here p) ∙ h.valid p (has_place_is r.valid p ∙ at);
    modified = λ p at. sym (has_place_is r.here p) ∙ h.modified p (has_place_is r.modified p ∙ at);
    modified_since = λ p at. sym (has_place_is r.modified p) ∙ h.modified_since p (has_place_is r.modified_since p ∙ at);
    past_base = λ p le lt. sym (has_place_is r.modified p) ∙ h.past_base p le lt;
  };
  file = record {
    directory = λ d. let b = h.directory d in record {
      size = b.size;
      base = b.base;
      here = b.here;
      valid = b.valid;
      modified = b.modified;
      modified_since = b.modified_since;
      clean = b.clean;
      keep = b.keep;
      last = b.last;
      placeholder = b.placeholder;
    };
    file = h.file;
    plain = h.plain;
    in_sync = h.in_sync;
    clean = h.clean;
  };
}
