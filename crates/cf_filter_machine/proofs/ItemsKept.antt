-- An item within the limits, which the table can keep, stays one.
use Rattle.std.proofs.Common.{◌≡◌, ◌⊎◌, inl, inr, ℕ, suc, ◌+◌, ◌≤◌, Bool, true, false, ◌||◌, cond, eqb, List, [], ◌∷◌, length, drop, replicate, Option, Some, None, refl, sym, ◌∙◌, ap, arith, is_some}
use Rattle.std.specs.Prelude.{◌==◌, map, unwrap_or}
use Rattle.std.specs.List.{list_all}
use Rattle.std.proofs.lemmas.Bool.{true≢false}
use Rattle.std.proofs.lemmas.List.{length-append, length-drop, length-replicate}
use Rattle.cf_base.specs.declared.ids.ItemId.{ItemId}
use Rattle.cf_base.specs.declared.ids.Usn.{Usn}
use Rattle.cf_base.specs.declared.items.Kind.{Kind}
use Rattle.cf_base.specs.declared.items.Kind.TheVariants as kind
use Rattle.cf_base.specs.declared.items.Pin.{Pin}
use Rattle.cf_filter_machine.specs.Keeping.{IsKept, IsWrittenHere}
use Rattle.cf_filter_machine.proofs.WrittenHere.{all_here, copied_here, covered_by, emptied_length, filled_length, got_here, left_here, none_here, rebased_here, sized_here, within_high, wrote_here}
use Rattle.cf_model.specs.Effects.{base_made, converted, copied, got, is_directory, is_placeholder, is_populated, kept, leaves_at, left_out, made, marked, moved, pinned, populated, rebased, reverted, size_made, sized, took, unmarked, untargeted, validated_in, writes_made, wrote}
use Rattle.cf_model.specs.Items.{Item}
use Rattle.cf_model.specs.Numbers.{is_no_usn}
use Rattle.cf_model.specs.Overlay.{Resize, Written}
use Rattle.cf_model.specs.Texts.{is_name}
use Rattle.cf_model.specs.Words.{within}
use Rattle.cf_model.proofs.Places.{length_patched, length_resized}
use Rattle.cf_filter_steps.specs.Good.{IsSmall}
use Rattle.cf_table.specs.Reading.{IsStored}

pub record IsWhole (i : Item) : Type 0 where
  pub small : IsSmall i
  pub kept : IsKept i
  pub pin : IsStored i.pin

some_bytes : (bytes : List ℕ) → length (map Some bytes) ≡ length bytes
some_bytes [] = refl
some_bytes (b ∷ bs) = ap suc (some_bytes bs)

-- other bytes and writes

bytes_whole : (i : Item) (held : List (Option ℕ)) (ws : List Written) (valid : List Bool) (sync : Bool) (n : Usn) → length held ≤ 16777216 → IsWrittenHere ws held → IsWhole i
    → IsWhole (record i { held = held; writes = ws; valid = valid; in_sync = sync; number = n })
bytes_whole i held ws valid sync n short here h = record {
  small = record { size = short; base = h.small.base; identity = h.small.identity; name = h.small.name };
  kept = record { written = here; identity = h.kept.identity; top = h.kept.top; unlisted = h.kept.unlisted };
  pin = h.pin;
}

pub wrote_whole : (at : ℕ) (bytes : List ℕ) (n : Usn) (i : Item) → at + length bytes ≤ 16777216 → IsWhole i → IsWhole (wrote at bytes n i)
wrote_whole at bytes n i fits h =
    let k = h.small.size in
    bytes_whole i _ _ _ false n (omega (arith, fits, k, length_patched is_some (Some 0) at (map Some bytes) i.held, some_bytes bytes)) (wrote_here at bytes n i.writes i.held h.kept.written) h

pub sized_whole : (size : ℕ) (n : Usn) (i : Item) → size ≤ 16777216 → IsWhole i → IsWhole (sized size n i)
sized_whole size n i fits h = bytes_whole i _ _ _ false n (omega (arith, fits, length_resized is_some (Some 0) size i.held)) (sized_here size n i.writes i.held h.kept.written) h

pub got_whole : (start : ℕ) (bytes : List ℕ) (i : Item) → IsWhole i → IsWhole (got start bytes i)
got_whole start bytes i h = let k = h.small.size in bytes_whole i _ i.writes i.valid i.in_sync i.number (omega (arith, k, filled_length start bytes i.held)) (got_here start bytes i.writes i.held h.kept.written) h

pub validated_whole : (start len : ℕ) (i : Item) → IsWhole i → IsWhole (validated_in start len i)
validated_whole start len i h = bytes_whole i i.held i.writes _ i.in_sync i.number h.small.size h.kept.written h

pub left_whole : (start len : ℕ) (i : Item) → IsWhole i → IsWhole (left_out start len i)
left_whole start len i h = let k = h.small.size in bytes_whole i _ i.writes _ i.in_sync i.number (omega (arith, k, emptied_length (leaves_at start len i.writes) 0 i.held)) (left_here start len i.writes i.held h.kept.written) h

pub unmarked_whole : (i : Item) → IsWhole i → IsWhole (unmarked i)
unmarked_whole i h = bytes_whole i i.held i.writes i.valid false i.number h.small.size h.kept.written h

-- other marks

base_at : (b : Bool) (o : Option ℕ) (n : ℕ) → unwrap_or o 0 ≤ 16777216 → n ≤ 16777216 → unwrap_or (cond b o (Some n)) 0 ≤ 16777216
base_at true o n h k = h
base_at false o n h k = k

pub marked_whole : (i : Item) → IsWhole i → IsWhole (marked i)
marked_whole i h = record {
  small = record { size = h.small.size; base = base_at i.directory None (length i.held) (omega arith) h.small.size; identity = h.small.identity; name = h.small.name };
  kept = record { written = none_here i.held; identity = h.kept.identity; top = h.kept.top; unlisted = h.kept.unlisted };
  pin = h.pin;
}

pub pinned_whole : (pin : Pin) (i : Item) → IsStored pin → IsWhole i → IsWhole (pinned pin i)
pinned_whole pin i stored h = record {
  small = record { size = h.small.size; base = h.small.base; identity = h.small.identity; name = h.small.name };
  kept = record { written = h.kept.written; identity = h.kept.identity; top = h.kept.top; unlisted = h.kept.unlisted };
  pin = stored;
}

pub populated_whole : (i : Item) → IsWhole i → IsWhole (populated i)
populated_whole i h = record {
  small = record { size = h.small.size; base = h.small.base; identity = h.small.identity; name = h.small.name };
  kept = record { written = h.kept.written; identity = h.kept.identity; top = h.kept.top; unlisted = λ d p. absurd (true≢false p) };
  pin = h.pin;
}

pub kept_whole : (on : Bool) (i : Item) → IsWhole i → IsWhole (kept on i)
kept_whole on i h = record {
  small = record { size = h.small.size; base = h.small.base; identity = h.small.identity; name = h.small.name };
  kept = record { written = h.kept.written; identity = h.kept.identity; top = h.kept.top; unlisted = h.kept.unlisted };
  pin = h.pin;
}

-- other identities

pub converted_whole : (identity : List ℕ) (n : Usn) (i : Item) → length identity ≤ 4096 → IsWhole i → IsWhole (converted identity n i)
converted_whole identity n i short h = record {
  small = record { size = h.small.size; base = h.small.base; identity = omega (arith, short); name = h.small.name };
  kept = record { written = h.kept.written; identity = short; top = h.kept.top; unlisted = λ d p. refl };
  pin = h.pin;
}

pub reverted_whole : (n : Usn) (i : Item) → list_all is_some i.held ≡ true → (i.directory ≡ true → i.populated ≡ true) → IsWhole i → IsWhole (reverted n i)
reverted_whole n i all known h = record {
  small = record { size = h.small.size; base = omega arith; identity = omega arith; name = h.small.name };
  kept = record {
    written = all_here (reverted n i).writes i.held all;
    identity = omega arith;
    top = h.kept.top;
    unlisted = λ d p. absurd (true≢false (sym (known d) ∙ p));
  };
  pin = h.pin;
}

pub rebased_whole : (identity : List ℕ) (len : ℕ) (at : Usn) (i : Item) → length identity ≤ 4096 → len ≤ 16777216 → IsWhole i → IsWhole (rebased identity len at i)
rebased_whole identity len at i short fits h = record {
  small = record { size = h.small.size; base = base_at (i.directory || is_no_usn at) i.base len h.small.base fits; identity = omega (arith, short); name = h.small.name };
  kept = record { written = rebased_here at i.writes i.held h.kept.written; identity = short; top = h.kept.top; unlisted = h.kept.unlisted };
  pin = h.pin;
}

pub took_whole : (identity : List ℕ) (size : ℕ) (n : Usn) (i : Item) → length identity ≤ 4096 → size ≤ 16777216 → IsWhole i → IsWhole (took identity size n i)
took_whole identity size n i short fits h = record {
  small = record { size = omega (arith, fits, length-replicate {A = Option ℕ} size None); base = fits; identity = omega (arith, short); name = h.small.name };
  kept = record { written = none_here (replicate size None); identity = short; top = h.kept.top; unlisted = h.kept.unlisted };
  pin = h.pin;
}

-- other places

pub moved_whole : (parent : ItemId) (name : List ℕ) (pin : Pin) (n : Usn) (i : Item) → (i.id.0 == 1) ≡ false → is_name name ≡ true → IsStored pin → IsWhole i → IsWhole (moved parent name pin n i)
moved_whole parent name pin n i other named stored h = record {
  small = record { size = h.small.size; base = h.small.base; identity = h.small.identity; name = λ o. named };
  kept = record {
    written = h.kept.written;
    identity = h.kept.identity;
    top = λ top. absurd (true≢false (sym top ∙ other));
    unlisted = h.kept.unlisted;
  };
  pin = by (eqb i.parent.0 parent.0);
}
  where
    by : (b : Bool) → IsStored (cond b i.pin pin)
    by true = h.pin
    by false = stored

-- new items

made_writes : (k : Kind) (n : Usn) (held : List (Option ℕ)) → IsWrittenHere (writes_made k n) held
made_writes kind.File n held p low covered = absurd (by (covered_by [] (record { number = n; before = 0; write = Resize 0 }) p covered))
  where
    by : (false ≡ true) ⊎ (within 0 0 p ≡ true) → ⊥
    by (inl c) = true≢false (sym c)
    by (inr c) = let k = within_high 0 0 p c in omega (arith, k)
made_writes kind.Dir n held p low covered = absurd (true≢false (sym covered))
made_writes kind.PlaceholderFile n held p low covered = absurd (true≢false (sym covered))
made_writes kind.PlaceholderDir n held p low covered = absurd (true≢false (sym covered))
made_writes kind.UnpopulatedDir n held p low covered = absurd (true≢false (sym covered))

made_size : (k : Kind) (size : ℕ) → size ≤ 16777216 → size_made k size ≤ 16777216
made_size kind.File size h = omega arith
made_size kind.Dir size h = omega arith
made_size kind.PlaceholderFile size h = h
made_size kind.PlaceholderDir size h = omega arith
made_size kind.UnpopulatedDir size h = omega arith

made_base : (k : Kind) (size : ℕ) → size ≤ 16777216 → unwrap_or (base_made k size) 0 ≤ 16777216
made_base kind.File size h = omega arith
made_base kind.Dir size h = omega arith
made_base kind.PlaceholderFile size h = h
made_base kind.PlaceholderDir size h = omega arith
made_base kind.UnpopulatedDir size h = omega arith

made_unlisted : (k : Kind) → is_directory k ≡ true → is_populated k ≡ false → is_placeholder k ≡ true
made_unlisted kind.File d p = absurd (true≢false (sym d))
made_unlisted kind.Dir d p = absurd (true≢false p)
made_unlisted kind.PlaceholderFile d p = refl
made_unlisted kind.PlaceholderDir d p = refl
made_unlisted kind.UnpopulatedDir d p = refl

pub made_whole : (id parent : ItemId) (name : List ℕ) (k : Kind) (size : ℕ) (identity : List ℕ) (pin : Pin) (n : Usn) → (id.0 == 1) ≡ false → is_name name ≡ true → length identity ≤ 4096 → size ≤ 16777216 → IsStored pin
    → IsWhole (made id parent name k size identity pin n)
made_whole id parent name k size identity pin n other named short fits stored = record {
  small = record {
    size = let m = made_size k size fits in omega (arith, m, length-replicate {A = Option ℕ} (size_made k size) None);
    base = made_base k size fits;
    identity = omega (arith, short);
    name = λ o. named;
  };
  kept = record {
    written = made_writes k n (replicate (size_made k size) None);
    identity = short;
    top = λ top. absurd (true≢false (sym top ∙ other));
    unlisted = made_unlisted k;
  };
  pin = stored;
}

pub copied_whole : (id parent : ItemId) (name : List ℕ) (pin : Pin) (n : Usn) (i : Item) → (id.0 == 1) ≡ false → is_name name ≡ true → 8 ≤ length i.identity → IsStored pin → i.directory ≡ false → IsWhole i → IsWhole (copied id parent name pin n i)
copied_whole id parent name pin n i other named long stored file h = record {
  small = record { size = h.small.size; base = h.small.base; identity = let k = short in omega (arith, k); name = λ o. named };
  kept = record {
    written = copied_here n i.writes i.held h.kept.written;
    identity = short;
    top = λ top. absurd (true≢false (sym top ∙ other));
    unlisted = λ d p. refl;
  };
  pin = stored;
}
  where
    short : length (untargeted i.identity) ≤ 4096
    short = let k = h.kept.identity in omega (arith, k, long, length-append (replicate 8 0) (drop 8 i.identity), length-drop 8 i.identity)
