-- Rows whose anchor or last access is set, and what the volume is then.
use Rattle.std.proofs.Common.{◌≡◌, ℕ, ◌+◌, ◌<◌, ◌^◌, eqb, List, length, refl, sym, ◌∙◌, ap, subst, Option, Some, None}
use Rattle.std.specs.Prelude.{All, MatchOption}
use Rattle.std.proofs.lemmas.Bool.{cond-true, cond-false, eq-eqb, ne_eqb}
use Rattle.std.proofs.lemmas.List.Elements.{All-nil}
use Rattle.std.proofs.lemmas.Option.{none-some, same_Some}
use Rattle.cf_base.specs.declared.ids.ItemId.{ItemId}
use Rattle.cf_base.specs.declared.ids.Usn.{Usn}
use Rattle.cf_base.specs.declared.spans.Span.{Span}
use Rattle.cf_disk.specs.Disk.{State}
use Rattle.cf_model.specs.Books.{access_of, anchor_of, with_access, with_anchor}
use Rattle.cf_model.specs.Items.{Item, item_of}
use Rattle.cf_model.specs.Numbers.{above, usn_after}
use Rattle.cf_model.specs.State.{Volume}
use Rattle.cf_volume_points.proofs.BookChanges.{access_put, anchor_put, anchored_fits, noted_at}
use Rattle.cf_volume_points.proofs.ItemChanges.{row_holds}
use Rattle.cf_volume_points.specs.At.{At}
use Rattle.cf_volume_points.specs.Clusters.{clusters_in_row}
use Rattle.cf_volume_points.specs.Known.{Known}
use Rattle.cf_volume_points.specs.Standing.{cluster_on}
use Rattle.cf_table.specs.Applied.{SetsAnchor, Touches}
use Rattle.cf_table.specs.Means.{IsLater}
use Rattle.cf_table.specs.Spelling.{HasRoom}
use Rattle.cf_table.specs.Tables.{RisesFrom, SetsRow, Table, row_of, with_row}
use Rattle.cf_table.specs.declared.rows.Row.{Row}
use Rattle.cf_volume_changes.proofs.Noted.{found_id}
use Rattle.cf_volume_changes.proofs.Puts.{all_with, found_inside, found_of, inside_with, known_with, some_row}
use Rattle.cf_volume_changes.specs.Notes.{Notes, SetsNoted}
use Rattle.cf_volume_changes.specs.Steady.{Steady}

pub set_noted : (P : Row → Row → Type 0) (id : ItemId) (k : Known) (after : Table) (then' : List Row) → RisesFrom 0 k.table.rows → (row_of k.table.rows id ≡ None → ⊥) → SetsRow P id k.table.rows after.rows → after.next ≡ k.table.next
    → Notes id k.next_then k.table.rows k.rows_then then' → SetsNoted P id k (record k { table = after; rows_then = then' })
set_noted P id k after then' rises present sets next notes =
    let here = some_row (row_of k.table.rows id) present in
    let set = subst (λ (o : Option Row). MatchOption o (after.rows ≡ k.table.rows) (λ r. (s : Row) × P r s × (after.rows ≡ with_row s k.table.rows))) here.1 sets in
    record {
      row = here.0;
      found = here.1;
      after = set.0;
      sets = set.1;
      then' = then';
      notes = notes;
      rises = rises;
      known = λ i. record k { table = record { rows = set.2 i; next = next i }; rows_then = then' };
    }

-- the volume's invariant stays
module _ (P : Row → Row → Type 0) (size : ℕ) (id : ItemId) (k l : Known) (steady : Steady size k) (set : SetsNoted P id k l) (extents : set.after.extents ≡ set.row.extents) (room : HasRoom set.row → HasRoom set.after) (later : IsLater (usn_after k.epoch k.place) set.row → IsLater (usn_after k.epoch k.place) set.after) where
  pub set_steady : Steady size l
  set_steady = subst (λ (x : Known). Steady size x) (sym set.known) (record {
    fit = steady.fit;
    clusters = steady.clusters;
    inside = inside_with (λ j. j < length k.uses) set.after k.table.rows
        (subst (λ (es : List (ℕ × ℕ)). All (λ j. j < length k.uses) (clusters_in_row (record set.after { extents = es }))) (sym extents) (found_inside (λ j. j < length k.uses) k.table.rows id set.row steady.inside set.found)) steady.inside;
    room = all_with HasRoom set.after k.table.rows (room (found_of HasRoom k.table.rows id set.row steady.room set.found)) steady.room;
    later = all_with (λ x. IsLater (usn_after k.epoch k.place) x) set.after k.table.rows (later (found_of (λ x. IsLater (usn_after k.epoch k.place) x) k.table.rows id set.row steady.later set.found)) steady.later;
    earlier = steady.earlier;
    usable = steady.usable;
  })

module _ (s : State) (id : ItemId) (k l : Known) (v : Volume) (at : At s k v) where
  pub anchored_at : SetsNoted SetsAnchor id k l → (i : Item) → item_of v.items id ≡ Some i → At s l (record v { book = with_anchor id i.number v.book })
  anchored_at set i found =
      let here = row_holds (cluster_on s.seen) v.book k.table.rows v.items id set.row at.now.rows set.found in
      let same : here.0 ≡ i = same_Some here.0 i (sym here.1 ∙ found) in
      let mine : set.row.id.0 ≡ id.0 = found_id k.table.rows id set.row set.found in
      let number : set.row.number ≡ i.number = here.2.means.number ∙ ap (λ (j : Item). j.number) same in
      let rest = set.sets.rest in
      subst (λ (x : Known). At s x (record v { book = with_anchor id i.number v.book })) (sym set.known)
      (noted_at s k v (with_anchor id i.number v.book) id set.row set.after set.then' at set.rises set.found set.sets.means
      (ap (λ (r : Row). r.id) rest) mine (ap (λ (r : Row). r.extents) rest)
      (ap (λ (r : Row). r.anchor) rest ∙ number ∙ sym (anchor_put id set.row.id i.number v.book ∙ cond-true (eqb id.0 set.row.id.0) i.number (anchor_of v.book set.row.id) (eq-eqb id.0 set.row.id.0 (sym mine))))
      (ap (λ (r : Row). r.last) rest ∙ here.2.last ∙ ap (λ (n : ItemId). access_of v.book n) (sym here.2.means.id))
      (λ key apart. anchor_put id key i.number v.book ∙ cond-false (eqb id.0 key.0) i.number (anchor_of v.book key) (ne_eqb id.0 key.0 (λ e. apart (sym e))))
      (λ key apart. refl) refl refl
      (anchored_fits (cluster_on s.seen) v.book id i.number k.table.rows v.items at.now.rows set.rises (λ j e. ap (λ (x : Item). x.number) (same_Some j i (sym e ∙ found))) at.now.fits)
      (known_with id k.next_then k.table.rows k.rows_then set.then' set.after set.rises (ap (λ (r : Row). r.id.0) rest ∙ mine) (λ e. none-some set.row (sym e ∙ set.found)) set.notes))

  pub touched_at : SetsNoted (Touches k.clock) id k l → At s l (record v { book = with_access id v.book })
  touched_at set =
      let here = row_holds (cluster_on s.seen) v.book k.table.rows v.items id set.row at.now.rows set.found in
      let mine : set.row.id.0 ≡ id.0 = found_id k.table.rows id set.row set.found in
      let rest = set.sets.rest in
      subst (λ (x : Known). At s x (record v { book = with_access id v.book })) (sym set.known)
      (noted_at s k v (with_access id v.book) id set.row set.after set.then' at set.rises set.found set.sets.means
      (ap (λ (r : Row). r.id) rest) mine (ap (λ (r : Row). r.extents) rest)
      (ap (λ (r : Row). r.anchor) rest ∙ here.2.anchor ∙ ap (λ (n : ItemId). anchor_of v.book n) (sym here.2.means.id))
      (ap (λ (r : Row). r.last) rest ∙ at.now.clock ∙ sym (access_put id set.row.id v.book ∙ cond-true (eqb id.0 set.row.id.0) v.book.clock (access_of v.book set.row.id) (eq-eqb id.0 set.row.id.0 (sym mine))))
      (λ key apart. refl)
      (λ key apart. access_put id key v.book ∙ cond-false (eqb id.0 key.0) v.book.clock (access_of v.book key) (ne_eqb id.0 key.0 (λ e. apart (sym e))))
      refl refl (record { few = at.now.fits.few; short = at.now.fits.short })
      (known_with id k.next_then k.table.rows k.rows_then set.then' set.after set.rises (ap (λ (r : Row). r.id.0) rest ∙ mine) (λ e. none-some set.row (sym e ∙ set.found)) set.notes))

-- both leave the next number after all

pub anchored_later : (n : Usn) (r p : Row) → SetsAnchor r p → IsLater n r → IsLater n p
anchored_later n r p set later = record { number = ap (λ (x : Row). above n x.number) set.rest ∙ later.number; anchor = ap (λ (x : Row). above n x.anchor) set.rest ∙ later.number }

pub touched_later : (n : Usn) (clock : ℕ) (r p : Row) → Touches clock r p → IsLater n r → IsLater n p
touched_later n clock r p set later = record { number = ap (λ (x : Row). above n x.number) set.rest ∙ later.number; anchor = ap (λ (x : Row). above n x.anchor) set.rest ∙ later.anchor }

anchored_room : (r p : Row) → SetsAnchor r p → HasRoom r → HasRoom p
anchored_room r p set h = subst HasRoom (sym set.rest) (record {
  texts = record { name = h.texts.name; identity = h.texts.identity };
  here = h.here;
  valid = h.valid;
  modified = h.modified;
  modified_since = All-nil (λ (s : Span). s.start + s.len < 2 ^ 32);
  extents = h.extents;
})

touched_room : (clock : ℕ) (r p : Row) → Touches clock r p → HasRoom r → HasRoom p
touched_room clock r p set h = subst HasRoom (sym set.rest) (record {
  texts = record { name = h.texts.name; identity = h.texts.identity };
  here = h.here;
  valid = h.valid;
  modified = h.modified;
  modified_since = h.modified_since;
  extents = h.extents;
})

pub anchored_steady : (size : ℕ) (id : ItemId) (k l : Known) → Steady size k → SetsNoted SetsAnchor id k l → Steady size l
anchored_steady size id k l steady set = set_steady SetsAnchor size id k l steady set (ap (λ (r : Row). r.extents) set.sets.rest) (anchored_room set.row set.after set.sets) (anchored_later (usn_after k.epoch k.place) set.row set.after set.sets)

pub touched_steady : (size : ℕ) (id : ItemId) (k l : Known) → Steady size k → SetsNoted (Touches k.clock) id k l → Steady size l
touched_steady size id k l steady set = set_steady (Touches k.clock) size id k l steady set (ap (λ (r : Row). r.extents) set.sets.rest) (touched_room k.clock set.row set.after set.sets) (touched_later (usn_after k.epoch k.place) k.clock set.row set.after set.sets)
