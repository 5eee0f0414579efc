-- How much longer the row of an item gets at most by a change.
use Rattle.std.proofs.Common.{◌≡◌, ℕ, ◌+◌, ◌*◌, ◌≤◌, Bool, true, false, ◌&&◌, ◌||◌, List, [], ◌∷◌, ◌++◌, length, map, max, min, sym, ap, ◌∙◌, arith, ltb, Option, Some, is_some}
use Rattle.std.proofs.lemmas.Bool.Decides.{nat_tests}
use Rattle.cf_base.specs.declared.changes.Change.TheVariants as change
use Rattle.cf_base.specs.declared.ids.ItemId.{ItemId}
use Rattle.cf_base.specs.declared.ids.Usn.{Usn}
use Rattle.cf_base.specs.declared.items.Pin.{Pin}
use Rattle.cf_model.specs.Books.{Book, anchor_of}
use Rattle.cf_model.specs.Effects.{filled, got, later_than, wrote}
use Rattle.cf_model.specs.Images.{count_runs, row_len}
use Rattle.cf_model.specs.Items.{Item, is_held}
use Rattle.cf_model.specs.Numbers.{above}
use Rattle.cf_model.specs.Overlay.{Put, Written, is_covered, patched}
use Rattle.cf_model.specs.Words.{by_place, within}
use Rattle.cf_table.proofs.Above.{covered_push_above}
use Rattle.cf_table.proofs.Meaning.{covered_push, flag_padded, held_filled, held_wrote, length_filled, length_wrote}
use Rattle.cf_table.proofs.RunsOf.{covered_at, held_flags}
use Rattle.cf_volume_changes.proofs.FlagRuns.{as_many, one_run_more}
use Rattle.cf_volume_blocks.specs.Bytes.{puts_in}
use Rattle.cf_volume_room.proofs.Blocks.{held_after}

-- a fill

part_below : (start end size p : ℕ) → (within start end p && ltb p size) ≡ within start (min end size) p
part_below start end size p = grind (arith, nat_tests)

filled_here : (start : ℕ) (bytes : List ℕ) (held : List (Option ℕ)) → count_runs false (map is_some (filled start bytes held)) ≤ count_runs false (map is_some held) + 1
filled_here start bytes held = one_run_more start (min (start + length bytes) (length held)) (map is_some held) (map is_some (filled start bytes held))
    (λ p. held_flags (filled start bytes held) p ∙ held_filled start bytes held p ∙ ap (λ b. is_held held p || b) (part_below start (start + length bytes) (length held) p)
    ∙ ap (λ b. b || within start (min (start + length bytes) (length held)) p) (sym (held_flags held p)))

filled_covered : (f : ℕ → Bool) (start : ℕ) (bytes : List ℕ) (held : List (Option ℕ)) → count_runs false (by_place (λ p h. f p) 0 (filled start bytes held)) ≤ count_runs false (by_place (λ p h. f p) 0 held)
filled_covered f start bytes held = as_many false (by_place (λ p h. f p) 0 held) (by_place (λ p h. f p) 0 (filled start bytes held))
    (λ p. covered_at f p (filled start bytes held) ∙ ap (λ k. ltb p k && f p) (length_filled start bytes held) ∙ sym (covered_at f p held))

-- one run more of what is here
pub filled_longer : (item : ItemId) (start : ℕ) (bytes : List ℕ) (pin : Pin) (n : Usn) (b : Book) (i : Item) → row_len b (got start bytes i) ≤ row_len b i + 8 * (length (puts_in (change.Filled item start bytes) i.held) + 1)
filled_longer item start bytes pin n b i =
    let here = filled_here start bytes i.held in
    let modified = filled_covered (is_covered i.writes) start bytes i.held in
    let since = filled_covered (is_covered (later_than (anchor_of b i.id) i.writes)) start bytes i.held in
    let blocks = held_after (change.Filled item start bytes) i pin n in
    omega (arith, here, modified, since, blocks)

-- a write

grown : (size at end p : ℕ) (b : Bool) → (ltb p (max size end) && (b || within (min at size) end p)) ≡ ((ltb p size && b) || within (min at size) end p)
grown size at end p true = grind (arith, nat_tests)
grown size at end p false = grind (arith, nat_tests)

wrote_here : (at : ℕ) (bytes : List ℕ) (held : List (Option ℕ)) → count_runs false (map is_some (patched (Some 0) at (map Some bytes) held)) ≤ count_runs false (map is_some held) + 1
wrote_here at bytes held = one_run_more (min at (length held)) (at + length bytes) (map is_some held) (map is_some (patched (Some 0) at (map Some bytes) held))
    (λ p. held_flags (patched (Some 0) at (map Some bytes) held) p ∙ held_wrote at bytes held p ∙ ap (λ b. b || within (min at (length held)) (at + length bytes) p) (sym (held_flags held p)))

-- of writes before it and with it
wrote_covered : (at : ℕ) (bytes : List ℕ) (held : List (Option ℕ)) (ws vs : List Written) → ((p : ℕ) → is_covered vs p ≡ (is_covered ws p || within (min at (length held)) (at + length bytes) p))
    → count_runs false (by_place (λ p h. is_covered vs p) 0 (patched (Some 0) at (map Some bytes) held)) ≤ count_runs false (by_place (λ p h. is_covered ws p) 0 held) + 1
wrote_covered at bytes held ws vs pushed =
    one_run_more (min at (length held)) (at + length bytes) (by_place (λ p h. is_covered ws p) 0 held) (by_place (λ p h. is_covered vs p) 0 (patched (Some 0) at (map Some bytes) held))
    (λ p. covered_at (is_covered vs) p (patched (Some 0) at (map Some bytes) held) ∙ ap (λ k. ltb p k && is_covered vs p) (length_wrote at bytes held)
    ∙ ap (λ b. ltb p (max (length held) (at + length bytes)) && b) (pushed p) ∙ grown (length held) at (at + length bytes) p (is_covered ws p)
    ∙ ap (λ b. b || within (min at (length held)) (at + length bytes) p) (sym (covered_at (is_covered ws) p held)))

-- one run more of what is here, of what is modified, and of what is modified since the last push
pub wrote_longer : (item : ItemId) (at : ℕ) (bytes : List ℕ) (pin : Pin) (n : Usn) (b : Book) (i : Item) → above n (anchor_of b i.id) ≡ true
    → row_len b (wrote at bytes n i) ≤ row_len b i + 8 * (length (puts_in (change.Write item at bytes) i.held) + 3)
wrote_longer item at bytes pin n b i later =
    let w : Written = record { number = n; before = length i.held; write = Put at bytes } in
    let here = wrote_here at bytes i.held in
    let valid = as_many false i.valid (wrote at bytes n i).valid (flag_padded (at + length bytes) i.valid) in
    let modified = wrote_covered at bytes i.held i.writes (i.writes ++ w ∷ []) (covered_push i.writes w) in
    let since = wrote_covered at bytes i.held (later_than (anchor_of b i.id) i.writes) (later_than (anchor_of b i.id) (i.writes ++ w ∷ [])) (λ p. covered_push_above (anchor_of b i.id) i.writes w p later) in
    let blocks = held_after (change.Write item at bytes) i pin n in
    omega (arith, here, valid, modified, since, blocks)
