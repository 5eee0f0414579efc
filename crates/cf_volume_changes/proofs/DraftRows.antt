-- Rows of a draft, and the items that they mean.
use Rattle.std.proofs.Common.{◌≡◌, ℕ, ◌+◌, ◌*◌, ◌≤◌, ◌==◌, Bool, true, false, ◌&&◌, ◌||◌, cond, eqb, List, [], ◌∷◌, ◌++◌, length, refl, sym, ◌∙◌, ap, subst, arith, Option, Some, None}
use Rattle.std.proofs.lemmas.Bool.{eqb-true, true≢false}
use Rattle.std.proofs.lemmas.List.Folds.{list_any-append}
use Rattle.std.proofs.lemmas.Option.{none-some}
use Rattle.cf_base.specs.declared.changes.Change.{Change}
use Rattle.cf_base.specs.declared.changes.Change.TheVariants as change
use Rattle.cf_base.specs.declared.ids.ItemId.{ItemId}
use Rattle.cf_base.specs.declared.ids.Usn.{Usn}
use Rattle.cf_volume_image.specs.declared.contents.Contents.{Contents}
use Rattle.cf_model.specs.Blocks.{blocks_holding, blocks_in}
use Rattle.cf_model.specs.Books.{Book, anchor_of}
use Rattle.cf_model.specs.Changes.{next_number}
use Rattle.cf_model.specs.Images.{row_len}
use Rattle.cf_model.specs.Items.{Item, item_of, pin_of}
use Rattle.cf_model.specs.Numbers.{most, no_usn, same_usn, usn_after}
use Rattle.cf_model.specs.State.{Volume}
use Rattle.cf_volume_points.proofs.RowChanges.{found_with, found_without}
use Rattle.cf_volume_points.proofs.RowRoom.{below_blocks, blocks_counted, planned_len}
use Rattle.cf_volume_points.specs.Known.{or_now}
use Rattle.cf_volume_points.specs.Lengths.{len_with}
use Rattle.cf_ranges.specs.Positions.{IsBelow, touched}
use Rattle.cf_table.proofs.NextChange.{above_through}
use Rattle.cf_table.specs.Applied.{FitsRow}
use Rattle.cf_table.specs.Changing.{FitsItem}
use Rattle.cf_table.specs.Means.{is_rebase_point}
use Rattle.cf_table.specs.Tables.{IsStored, RisesFrom, row_of, with_row, without_row}
use Rattle.cf_table.specs.declared.rows.Row.{Row}
use Rattle.cf_volume_changes.proofs.DraftItems.{pin_moved, pin_none, pin_some}
use Rattle.cf_volume_changes.proofs.Shifted.{HasLowAt, same_at, shift_rises, shifted_len}
use Rattle.cf_volume_changes.specs.Drafting.{HasPlace, pin_drafted}
use Rattle.cf_volume_changes.specs.Drafts.{Drafts, Draws, DrawsRow, IsLow, is_gone, pin_in, row_in, shifted, shifted_item}
use Rattle.cf_volume_changes.specs.declared.room.drafts.Draft.{Draft}

-- a row put, and one taken out

pub row_put : (d e : Draft) (rows : List Row) (p : Row) (key : ItemId) → RisesFrom 0 d.changed.rows → e.changed.rows ≡ with_row p d.changed.rows → e.gone.items ≡ d.gone.items → row_in e rows key ≡ cond (eqb p.id.0 key.0) (Some p) (row_in d rows key)
row_put d e rows p key rises changed gone =
    (λ i. or_now (row_of (changed i) key) (cond (is_gone (gone i) key) None (row_of rows key)))
    ∙ ap (λ (o : Option Row). or_now o (cond (is_gone d.gone.items key) None (row_of rows key))) (found_with p 0 d.changed.rows key rises)
    ∙ by (eqb p.id.0 key.0)
  where
    by : (t : Bool) → or_now (cond t (Some p) (row_of d.changed.rows key)) (cond (is_gone d.gone.items key) None (row_of rows key)) ≡ cond t (Some p) (row_in d rows key)
    by true = refl
    by false = refl

pub row_taken : (d e : Draft) (rows : List Row) (id key : ItemId) → e.changed.rows ≡ without_row id d.changed.rows → e.gone.items ≡ d.gone.items ++ id ∷ [] → row_in e rows key ≡ cond (eqb id.0 key.0) None (row_in d rows key)
row_taken d e rows id key changed gone =
    (λ i. or_now (row_of (changed i) key) (cond (is_gone (gone i) key) None (row_of rows key)))
    ∙ (λ i. or_now (found_without id d.changed.rows key i) (cond (list_any-append (λ (g : ItemId). g.0 == key.0) d.gone.items (id ∷ []) i) None (row_of rows key)))
    ∙ by (is_gone d.gone.items key) (eqb id.0 key.0)
  where
    by : (g t : Bool) → or_now (cond t None (row_of d.changed.rows key)) (cond (g || (t || false)) None (row_of rows key)) ≡ cond t None (or_now (row_of d.changed.rows key) (cond g None (row_of rows key)))
    by true true = refl
    by true false = refl
    by false true = refl
    by false false = refl

-- what is found

pub drawn : (e : ℕ) (n : Usn) (b : Book) (o : Option Row) (q : Option Item) (r : Row) → Draws e n b o q → o ≡ Some r → (i : Item) × (q ≡ Some i) × DrawsRow e n b r i
drawn e n b None q r h is = absurd (none-some r is)
drawn e n b (Some x) None r h is = absurd h
drawn e n b (Some x) (Some i) r h is = (i, refl, subst (λ (o : Option Row). Draws e n b o (Some i)) is h)

pub drawn_none : (e : ℕ) (n : Usn) (b : Book) (o : Option Row) (q : Option Item) → Draws e n b o q → o ≡ None → q ≡ None
drawn_none e n b None None h is = refl
drawn_none e n b None (Some i) h is = absurd h
drawn_none e n b (Some x) q h is = absurd (none-some x (sym is))

pub drawn_item : (e : ℕ) (n : Usn) (b : Book) (o : Option Row) (q : Option Item) (i : Item) → Draws e n b o q → q ≡ Some i → (r : Row) × (o ≡ Some r) × DrawsRow e n b r i
drawn_item e n b None None i h is = absurd (none-some i is)
drawn_item e n b None (Some j) i h is = absurd h
drawn_item e n b (Some x) None i h is = absurd h
drawn_item e n b (Some x) (Some j) i h is = (x, refl, subst (λ (q : Option Item). Draws e n b (Some x) q) is h)

-- the next number comes after each row too

pub draws_on : (e p : ℕ) (b : Book) (r : Row) (i : Item) → DrawsRow e (usn_after e p) b r i → DrawsRow e (usn_after e (p + 1)) b r i
draws_on e p b r i h = record {
  means = h.means;
  anchor = h.anchor;
  later = record {
    number = above_through r.number (shifted e (usn_after e p)) (shifted e (usn_after e (p + 1))) h.later.number (shift_rises e p);
    anchor = above_through r.anchor (shifted e (usn_after e p)) (shifted e (usn_after e (p + 1))) h.later.anchor (shift_rises e p);
  };
  low = h.low;
  numbered = h.numbered;
}

pub all_on : (e p : ℕ) (b : Book) (o : Option Row) (q : Option Item) → Draws e (usn_after e p) b o q → Draws e (usn_after e (p + 1)) b o q
all_on e p b None None h = tt
all_on e p b None (Some i) h = absurd h
all_on e p b (Some r) None h = absurd h
all_on e p b (Some r) (Some i) h = draws_on e p b r i h

-- sizes

module _ (e : ℕ) (n : Usn) (b : Book) (r : Row) (i : Item) (draws : DrawsRow e n b r i) (stored : IsStored r) where
  pub drawn_below : IsBelow r.here (4096 * blocks_in (length i.held))
  drawn_below = below_blocks r (shifted_item e i) draws.means

  pub drawn_blocks : touched r.here 0 (blocks_in (length i.held)) ≡ length (blocks_holding i.held)
  drawn_blocks = blocks_counted r (shifted_item e i) stored.here draws.means

  pub drawn_len : len_with r (touched r.here 0 (blocks_in (length i.held))) ≡ row_len b i
  drawn_len = ap (len_with r) drawn_blocks ∙ planned_len b r (shifted_item e i) stored draws.means draws.anchor
      ∙ shifted_len e b i (subst (IsLow e) draws.anchor draws.low)

-- pins
pub drawn_pin : (e : ℕ) (n : Usn) (b : Book) (o : Option Row) (items : List Item) (id : ItemId) → Draws e n b o (item_of items id) → pin_in o ≡ pin_of items id
drawn_pin e n b o items id h = by o (item_of items id) refl h
  where
    by : (o : Option Row) (q : Option Item) → item_of items id ≡ q → Draws e n b o q → pin_in o ≡ pin_of items id
    by None None at h = sym (pin_none items id at)
    by None (Some i) at h = absurd h
    by (Some r) None at h = absurd h
    by (Some r) (Some i) at h = h.means.pin ∙ sym (pin_some items id i at)

pub moved_pin : (c : Contents) (d : Draft) (w : Volume) (ch : Change) → Drafts c d w → pin_drafted d c.rows.rows ch ≡ pin_moved w.items ch
moved_pin c d w (change.Make item parent name kind size identity) h = refl
moved_pin c d w (change.Remove item) h = refl
moved_pin c d w (change.Move item parent name) h = drawn_pin w.epoch (next_number w) w.book (row_in d c.rows.rows parent) w.items parent (h.rows parent)
moved_pin c d w (change.Write item at bytes) h = refl
moved_pin c d w (change.Size item size) h = refl
moved_pin c d w (change.Filled item start bytes) h = refl
moved_pin c d w (change.Validated item start len) h = refl
moved_pin c d w (change.Emptied item start len) h = refl
moved_pin c d w (change.SetPin item state) h = refl
moved_pin c d w (change.Mark item number) h = refl
moved_pin c d w (change.Clear item) h = refl
moved_pin c d w (change.Convert item identity) h = refl
moved_pin c d w (change.Revert item) h = refl
moved_pin c d w (change.Rebase item identity len at) h = refl
moved_pin c d w (change.Take item identity size) h = refl
moved_pin c d w (change.Copy item from parent name) h = refl
moved_pin c d w (change.Populated item) h = refl
moved_pin c d w (change.Keep item on) h = refl

-- a change that fits the item fits the row

module _ (e : ℕ) (n : Usn) (b : Book) (r : Row) (i : Item) (draws : DrawsRow e n b r i) where
  point_of : (at : Usn) → at.place ≤ most → (same_usn at no_usn || same_usn at (anchor_of b i.id) || same_usn at i.number) ≡ true → is_rebase_point at r ≡ true
  point_of at place h = by (same_usn at no_usn) (same_usn at (anchor_of b i.id)) (same_usn at i.number) refl refl refl h
    where
      by : (x y z : Bool) → same_usn at no_usn ≡ x → same_usn at (anchor_of b i.id) ≡ y → same_usn at i.number ≡ z → (x || y || z) ≡ true → (same_usn at no_usn || same_usn at r.anchor || same_usn at r.number) ≡ true
      by true y z f g k h = ap (λ (t : Bool). t || same_usn at r.anchor || same_usn at r.number) f
      by false true z f g k h = (λ j. f j || (ap (same_usn at) draws.anchor ∙ g) j || same_usn at r.number)
      by false false true f g k h = (λ j. f j || (ap (same_usn at) draws.anchor ∙ g) j || (ap (same_usn at) draws.means.number ∙ same_at e at i.number place k) j)
      by false false false f g k h = absurd (true≢false (sym h))

  pub drawn_fits : (c : Change) → FitsItem c b i → HasPlace c → FitsRow c r
  drawn_fits (change.Make item parent name kind size identity) f h = f
  drawn_fits (change.Remove item) f h = f
  drawn_fits (change.Move item parent name) f h = f
  drawn_fits (change.Write item at bytes) f h = f
  drawn_fits (change.Size item size) f h = f
  drawn_fits (change.Filled item start bytes) f h = f
  drawn_fits (change.Validated item start len) f h = f
  drawn_fits (change.Emptied item start len) f h = f
  drawn_fits (change.SetPin item state) f h = f
  drawn_fits (change.Mark item number) f h = f
  drawn_fits (change.Clear item) f h = f
  drawn_fits (change.Convert item identity) f h = f
  drawn_fits (change.Revert item) f h = f
  drawn_fits (change.Rebase item identity len at) f h = (f.0, f.1, point_of at h f.2)
  drawn_fits (change.Take item identity size) f h = f
  drawn_fits (change.Copy item from parent name) f h = f
  drawn_fits (change.Populated item) f h = f
  drawn_fits (change.Keep item on) f h = f

  low_of : (at : Usn) → (same_usn at no_usn || same_usn at (anchor_of b i.id) || same_usn at i.number) ≡ true → at.epoch ≤ e
  low_of at h = by (same_usn at no_usn) (same_usn at (anchor_of b i.id)) (same_usn at i.number) refl refl refl h
    where
      epoch_is : (m : Usn) → same_usn at m ≡ true → at.epoch ≡ m.epoch
      epoch_is m s = first (eqb at.epoch m.epoch) (eqb at.place m.place) refl s
        where
          first : (x y : Bool) → eqb at.epoch m.epoch ≡ x → (x && y) ≡ true → at.epoch ≡ m.epoch
          first true y q s = eqb-true at.epoch m.epoch q
          first false y q s = absurd (true≢false (sym s))

      by : (x y z : Bool) → same_usn at no_usn ≡ x → same_usn at (anchor_of b i.id) ≡ y → same_usn at i.number ≡ z → (x || y || z) ≡ true → at.epoch ≤ e
      by true y z f g k h = let zero : at.epoch ≡ 0 = epoch_is no_usn f in omega (arith, zero)
      by false true z f g k h = let anchor = subst (λ (a : Usn). a.epoch ≤ e) draws.anchor draws.low.0 in omega (arith, anchor, epoch_is (anchor_of b i.id) g)
      by false false true f g k h = omega (arith, draws.numbered, epoch_is i.number k)
      by false false false f g k h = absurd (true≢false (sym h))

  pub drawn_at : (c : Change) → FitsItem c b i → HasPlace c → HasLowAt e c
  drawn_at (change.Make item parent name kind size identity) f h = tt
  drawn_at (change.Remove item) f h = tt
  drawn_at (change.Move item parent name) f h = tt
  drawn_at (change.Write item at bytes) f h = tt
  drawn_at (change.Size item size) f h = tt
  drawn_at (change.Filled item start bytes) f h = tt
  drawn_at (change.Validated item start len) f h = tt
  drawn_at (change.Emptied item start len) f h = tt
  drawn_at (change.SetPin item state) f h = tt
  drawn_at (change.Mark item number) f h = tt
  drawn_at (change.Clear item) f h = tt
  drawn_at (change.Convert item identity) f h = tt
  drawn_at (change.Revert item) f h = tt
  drawn_at (change.Rebase item identity len at) f h = (low_of at f.2, λ same. h)
  drawn_at (change.Take item identity size) f h = tt
  drawn_at (change.Copy item from parent name) f h = tt
  drawn_at (change.Populated item) f h = tt
  drawn_at (change.Keep item on) f h = tt
