-- The draft of no change.
use Rattle.std.proofs.Common.{◌≡◌, ℕ, ◌+◌, ◌^◌, ◌<◌, ◌≤◌, Bool, true, false, ◌&&◌, ◌||◌, cond, eqb, ltb, min, List, [], length, refl, sym, ◌∙◌, ap, subst, arith, Option, Some, None}
use Rattle.std.specs.Prelude.{All, MatchOption, sum_by}
use Rattle.std.proofs.lemmas.Bool.{eqb-true, ltb-true, true≢false}
use Rattle.std.proofs.lemmas.List.Elements.{All-nil}
use Rattle.cf_base.specs.declared.changes.Change.{Change}
use Rattle.cf_base.specs.declared.ids.ItemId.{ItemId}
use Rattle.cf_base.specs.declared.ids.Usn.{Usn}
use Rattle.cf_clusters.specs.Roles.{how_many, is_now}
use Rattle.cf_disk.specs.Disk.{State}
use Rattle.cf_volume_image.specs.Contents.{image_of}
use Rattle.cf_model.specs.Changes.{next_number}
use Rattle.cf_model.specs.Formats.{spell_image}
use Rattle.cf_model.specs.Images.{aux_len}
use Rattle.cf_model.specs.Items.{Item, item_of}
use Rattle.cf_model.specs.Numbers.{above, most, usn_after}
use Rattle.cf_model.specs.State.{Volume}
use Rattle.cf_volume_points.proofs.Commits.{image_len_is}
use Rattle.cf_volume_points.proofs.Counted.{used_now}
use Rattle.cf_volume_points.proofs.ItemChanges.{row_holds, rows_mean}
use Rattle.cf_volume_points.proofs.RowRoom.{held_count, held_len, items_rise}
use Rattle.cf_volume_points.specs.Holding.{Holds, HoldsRow}
use Rattle.cf_volume_points.specs.Known.{or_now}
use Rattle.cf_volume_points.specs.Standing.{cluster_on}
use Rattle.cf_table.proofs.Lengths.{rows_are_items}
use Rattle.cf_table.specs.Changing.{IsNext}
use Rattle.cf_table.specs.Means.{IsLater, Means}
use Rattle.cf_table.specs.Tables.{AreTableRows, RisesFrom, row_of}
use Rattle.cf_table.specs.declared.rows.Row.{Row}
use Rattle.cf_volume_changes.proofs.DraftItems.{in_order}
use Rattle.cf_volume_changes.proofs.Puts.{found_of}
use Rattle.cf_volume_changes.proofs.Shifted.{same_item, shift_above}
use Rattle.cf_volume_changes.specs.Drafts.{Drafts, Draws, DrawsRow, IsLow, is_gone, records_in, row_in}
use Rattle.cf_volume_changes.specs.RoomLeft.{FitInTurn}
use Rattle.cf_volume_changes.specs.Steady.{known_of}
use Rattle.cf_volume_changes.specs.Tallies.{Counts}
use Rattle.cf_volume_changes.specs.declared.room.drafts.Draft.{Draft}
use Rattle.cf_volume_changes.specs.declared.room.drafts.Sizes.{Sizes}
use Rattle.cf_volume_changes.specs.declared.parts.Parts.{Parts}

-- a number before the next one of the epoch
before_next : (e p : ℕ) (a : Usn) → p ≤ most → above (usn_after e p) a ≡ true → IsLow e a
before_next e p a le h = by (ltb a.epoch e) (eqb e a.epoch) refl refl h
  where
    by : (x y : Bool) → ltb a.epoch e ≡ x → eqb e a.epoch ≡ y → (x || (y && ltb a.place (p + 1))) ≡ true → IsLow e a
    by true y f g h = let less = ltb-true a.epoch e f in (omega (arith, less), λ same. absurd (omega (arith, less, same)))
    by false true f g h = let is = eqb-true e a.epoch g in let low = ltb-true a.place (p + 1) h in (omega (arith, is), λ same. omega (arith, low, le))
    by false false f g h = absurd (true≢false (sym h))

module _ (s : State) (p : Parts) (v : Volume) (d : Draft) (at : Holds s (known_of p) v) (later : IsNext (usn_after p.contents.last.epoch p.contents.last.place) p.contents.rows.rows) (table : AreTableRows p.contents.rows.rows) (rises : RisesFrom 0 p.contents.rows.rows)
    (place : p.contents.last.place ≤ most) (changed : d.changed.rows ≡ []) (gone : d.gone.items ≡ [])
    (more : d.more ≡ record { bytes = min (length (spell_image (image_of p.contents))) 18446744073709551615; items = length p.contents.rows.rows; blocks = how_many is_now p.held }) (less : d.less ≡ record { bytes = 0; items = 0; blocks = 0 }) where
  rows_are : (id : ItemId) → row_in d p.contents.rows.rows id ≡ row_of p.contents.rows.rows id
  rows_are id = λ j. or_now (row_of (changed j) id) (cond (is_gone (gone j) id) None (row_of p.contents.rows.rows id))

  of_row : (r : Row) (i : Item) → HoldsRow (cluster_on s.seen) v.book r i → IsLater (usn_after p.contents.last.epoch p.contents.last.place) r → DrawsRow v.epoch (next_number v) v.book r i
  of_row r i holds after =
      let number : usn_after p.contents.last.epoch p.contents.last.place ≡ next_number v = (λ j. usn_after (at.epoch j) (at.place j)) in
      let low : v.place ≤ most = omega (arith, place, at.place) in
      let next = subst (λ (n : Usn). IsLater n r) number after in
      let mine : IsLow v.epoch r.number = before_next v.epoch v.place r.number low next.number in
      let anchor : IsLow v.epoch r.anchor = before_next v.epoch v.place r.anchor low next.anchor in
      let own : IsLow v.epoch i.number = subst (IsLow v.epoch) holds.means.number mine in
      record {
        means = subst (Means r) (sym (same_item v.epoch i own holds.means.bytes.numbers)) holds.means;
        anchor = holds.anchor;
        later = record { number = shift_above v.epoch (next_number v) r.number mine ∙ next.number; anchor = shift_above v.epoch (next_number v) r.anchor anchor ∙ next.anchor };
        low = anchor;
        numbered = own.0;
      }

  of_rows : (id : ItemId) → Draws v.epoch (next_number v) v.book (row_of p.contents.rows.rows id) (item_of v.items id)
  of_rows id = by (row_of p.contents.rows.rows id) refl (rows_are_items p.contents.rows.rows v.items id (rows_mean (cluster_on s.seen) v.book p.contents.rows.rows v.items at.rows))
    where
      by : (o : Option Row) → row_of p.contents.rows.rows id ≡ o → MatchOption o (item_of v.items id ≡ None) (λ r. (i : Item) × (item_of v.items id ≡ Some i) × Means r i) → Draws v.epoch (next_number v) v.book o (item_of v.items id)
      by None found none = subst (Draws v.epoch (next_number v) v.book None) (sym none) tt
      by (Some r) found some =
          let here = row_holds (cluster_on s.seen) v.book p.contents.rows.rows v.items id r at.rows found in
          subst (Draws v.epoch (next_number v) v.book (Some r)) (sym here.1) (of_row r here.0 here.2 (found_of (λ x. IsLater (usn_after p.contents.last.epoch p.contents.last.place) x) p.contents.rows.rows id r later found))

  pub first_drafts : Drafts p.contents d v
  first_drafts = record {
    rise = in_order 0 v.items (items_rise (cluster_on s.seen) v.book 0 p.contents.rows.rows v.items rises at.rows);
    gone = subst (λ (l : List ItemId). All (λ g. g.0 < 2 ^ 64) l) (sym gone) (All-nil (λ (g : ItemId). g.0 < 2 ^ 64));
    rows = λ id. subst (λ (o : Option Row). Draws v.epoch (next_number v) v.book o (item_of v.items id)) (sym (rows_are id)) (of_rows id);
    book = at.book;
    records = sym at.records ∙ ap (λ (l : List ItemId). records_in l p.contents.records) (sym gone);
    bytes =
        let long = image_len_is (known_of p) in
        let rows = held_len (cluster_on s.seen) v.book p.contents.rows.rows v.items table at.rows in
        let records = ap (sum_by aux_len) at.records in
        omega (arith, ap (λ (z : Sizes). z.bytes) more, ap (λ (z : Sizes). z.bytes) less, long, rows, records, at.fits.short);
    items =
        let count = held_count (cluster_on s.seen) v.book p.contents.rows.rows v.items at.rows in
        omega (arith, ap (λ (z : Sizes). z.items) more, ap (λ (z : Sizes). z.items) less, count);
    blocks =
        let used = used_now (cluster_on s.seen) v.book p.contents.rows.rows v.items p.held at.rows at.owns in
        omega (arith, ap (λ (z : Sizes). z.blocks) more, ap (λ (z : Sizes). z.blocks) less, used);
  }

  pub first_counts : (list : List Change) → FitInTurn list v → Counts p.contents p.limit (record { draft = d; steps = 0; table = true; blocks = true }) list list v
  first_counts list fits = record {
    made = v;
    ends = refl;
    drafts = first_drafts;
    fits = fits;
    epoch = sym at.epoch;
    place = omega (arith, at.place);
    clusters_are = at.clusters;
    table = refl;
    full = refl;
  }
