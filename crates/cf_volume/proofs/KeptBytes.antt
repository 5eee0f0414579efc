-- Extents that are left alone where no byte leaves their file.
use Rattle.std.proofs.Common.{◌≡◌, ℕ, ◌+◌, ◌/◌, Bool, true, false, not, ◌&&◌, ◌||◌, cond, ltb, List, length, map, min, filter, refl, sym, ◌∙◌, ap, None}
use Rattle.std.proofs.lemmas.Bool.{true≢false}
use Rattle.cf_base.specs.declared.changes.Change.{Change}
use Rattle.cf_base.specs.declared.changes.Change.TheVariants as change
use Rattle.cf_base.specs.declared.ids.Usn.{Usn}
use Rattle.cf_base.specs.declared.items.Pin.{Pin}
use Rattle.cf_volume_blocks.proofs.Elsewhere.{among_filter, among_holding, block_holds, no_block, touches_block}
use Rattle.cf_volume_blocks.specs.Bytes.{is_among}
use Rattle.cf_clusters.specs.declared.uses.Use.{Use}
use Rattle.cf_model.specs.Blocks.{block_has_byte, blocks_holding}
use Rattle.cf_model.specs.Items.{Item, is_held}
use Rattle.cf_volume_points.proofs.Droppings.{drops_gone}
use Rattle.cf_volume_points.proofs.FileRows.{none_among}
use Rattle.cf_volume_points.specs.Staging.{Drops, DropsGone}
use Rattle.cf_ranges.specs.Pairs.{cluster_at}
use Rattle.cf_ranges.specs.Positions.{IsRuns, touches, within}
use Rattle.cf_table.proofs.Meaning.{held_filled, held_wrote}
use Rattle.cf_table.specs.Applied.{item_effect}
use Rattle.cf_table.specs.Means.{Means}
use Rattle.cf_table.specs.declared.rows.Row.{Row}
use Rattle.cf_volume_changes.specs.Laid.{may_be_gone, takes_bytes}

-- a byte that is held stays
stays_held : (c : Change) (i : Item) (pin : Pin) (n : Usn) (p : ℕ) → takes_bytes c ≡ false → is_held i.held p ≡ true → is_held (item_effect c pin n i).held p ≡ true
stays_held (change.Make item parent name kind size identity) i pin n p t h = h
stays_held (change.Remove item) i pin n p t h = h
stays_held (change.Move item parent name) i pin n p t h = h
stays_held (change.Write item at bytes) i pin n p t h = held_wrote at bytes i.held p ∙ ap (λ (x : Bool). x || within (min at (length i.held)) (at + length bytes) p) h
stays_held (change.Size item size) i pin n p t h = absurd (true≢false t)
stays_held (change.Filled item start bytes) i pin n p t h = held_filled start bytes i.held p ∙ ap (λ (x : Bool). x || (within start (start + length bytes) p && ltb p (length i.held))) h
stays_held (change.Validated item start len) i pin n p t h = h
stays_held (change.Emptied item start len) i pin n p t h = absurd (true≢false t)
stays_held (change.SetPin item state) i pin n p t h = h
stays_held (change.Mark item at) i pin n p t h = h
stays_held (change.Clear item) i pin n p t h = h
stays_held (change.Convert item identity) i pin n p t h = h
stays_held (change.Revert item) i pin n p t h = h
stays_held (change.Rebase item identity len at) i pin n p t h = h
stays_held (change.Take item identity size) i pin n p t h = absurd (true≢false t)
stays_held (change.Copy item from parent name) i pin n p t h = h
stays_held (change.Populated item) i pin n p t h = h
stays_held (change.Keep item on) i pin n p t h = h

module _ (c : Change) (i : Item) (pin : Pin) (n : Usn) where
  -- a block that holds no byte afterwards held none before
  none_before : (b : ℕ) → takes_bytes c ≡ false → block_has_byte (item_effect c pin n i).held b ≡ false → block_has_byte i.held b ≡ false
  none_before b t none = no_block i.held b (λ p at. by p at (is_held i.held p) refl)
    where
      by : (p : ℕ) → p / 4096 ≡ b → (h : Bool) → is_held i.held p ≡ h → is_held i.held p ≡ false
      by p at false e = e
      by p at true e = absurd (true≢false (sym (block_holds (item_effect c pin n i).held b p at (stays_held c i pin n p t e)) ∙ none))

  -- the blocks that were looked at are all that can be gone
  pub all_gone : (row planned : Row) (blocks : List ℕ) (mid new : List Use) (between fs : List (ℕ × ℕ)) → map (λ (e : ℕ × ℕ). e.0) row.extents ≡ blocks_holding i.held → IsRuns planned.here → Means planned (item_effect c pin n i)
      → ((b : ℕ) → is_among blocks b ≡ false → cluster_at between b ≡ cluster_at row.extents b)
      → Drops (filter (λ b. not (touches planned.here b)) (may_be_gone c blocks between)) mid new between fs → DropsGone planned.here mid new between fs
  all_gone row planned blocks mid new between fs has runs means others drops = by (takes_bytes c) refl drops
    where
      by : (t : Bool) → takes_bytes c ≡ t → Drops (filter (λ b. not (touches planned.here b)) (cond t (map (λ (e : ℕ × ℕ). e.0) between) blocks)) mid new between fs → DropsGone planned.here mid new between fs
      by true t d = drops_gone planned.here mid new between fs d
      by false t d = record {
        rising = d.rising;
        each = λ b. d.each b ∙ ap (λ (u : Bool). cond u None (cluster_at between b)) (among_filter (λ m. not (touches planned.here m)) blocks b) ∙ test b (touches planned.here b) refl (is_among blocks b) refl;
        owns = d.owns;
        committed = d.committed;
        long = d.long;
        free = d.free;
      }
        where
          test : (b : ℕ) (u : Bool) → touches planned.here b ≡ u → (v : Bool) → is_among blocks b ≡ v → cond (v && not u) None (cluster_at between b) ≡ cond u (cluster_at between b) None
          test b true e true f = refl
          test b true e false f = refl
          test b false e true f = refl
          test b false e false f =
              others b f ∙ none_among row.extents b (ap (λ (l : List ℕ). is_among l b) has ∙ among_holding i.held b
              ∙ none_before b t (sym (touches_block planned.here (item_effect c pin n i).held runs means.bytes.here b) ∙ e))
