-- A new item, drafted.
use Rattle.std.proofs.Common.{◌≡◌, ℕ, ◌+◌, ◌*◌, ◌^◌, ◌<◌, ◌≤◌, Bool, true, false, cond, eqb, List, [], ◌∷◌, ◌++◌, length, refl, sym, ◌∙◌, ap, subst, arith, Option, Some, None}
use Rattle.std.specs.Prelude.{All, MatchOption, sum_by}
use Rattle.std.proofs.lemmas.Bool.{eqb-true}
use Rattle.std.proofs.lemmas.List.{length-append}
use Rattle.std.proofs.lemmas.List.Sums.{sum_by-append, sum_by-cons}
use Rattle.cf_base.specs.declared.changes.Change.{Change}
use Rattle.cf_base.specs.declared.changes.Change.TheVariants as change
use Rattle.cf_base.specs.declared.ids.ItemId.{ItemId}
use Rattle.cf_base.specs.declared.ids.Usn.{Usn}
use Rattle.cf_base.specs.declared.items.Kind.{Kind}
use Rattle.cf_base.specs.declared.items.Pin.{Pin}
use Rattle.cf_volume_image.specs.declared.contents.Contents.{Contents}
use Rattle.cf_model.specs.Blocks.{blocks_held, blocks_holding, blocks_in, blocks_used, puts_into}
use Rattle.cf_model.specs.Books.{Book, aux_records}
use Rattle.cf_model.specs.Changes.{next_number, put_change}
use Rattle.cf_model.specs.Effects.{copied, copies, made, untargeted}
use Rattle.cf_model.specs.Images.{image_len, row_len}
use Rattle.cf_model.specs.Items.{Item, item_of, pin_of}
use Rattle.cf_model.specs.Numbers.{above, no_usn, usn_after}
use Rattle.cf_model.specs.State.{Volume}
use Rattle.cf_model.specs.Words.{part}
use Rattle.cf_volume_points.proofs.NewItems.{none_before}
use Rattle.cf_volume_points.specs.Known.{or_now}
use Rattle.cf_volume_points.specs.Standing.{IsBookOf}
use Rattle.cf_ranges.specs.Positions.{IsBelow, touched}
use Rattle.cf_table.proofs.StayingRows.{untargeted_len}
use Rattle.cf_table.specs.Applied.{IsSpellable}
use Rattle.cf_table.specs.Means.{Means}
use Rattle.cf_table.specs.Tables.{IsStored, IsTableRow, RisesFrom, with_row}
use Rattle.cf_table.specs.declared.rows.Row.{Row}
use Rattle.cf_volume_changes.proofs.DraftItems.{item_last, none_new, order_last}
use Rattle.cf_volume_changes.proofs.DraftRows.{all_on, drawn, drawn_below, drawn_blocks, drawn_len, drawn_pin, row_put}
use Rattle.cf_volume_changes.proofs.Shifted.{past_above, shift_above, shift_rises, shifted_copy, shifted_made}
use Rattle.cf_volume_changes.specs.Drafts.{AreInOrder, Drafts, Draws, DrawsRow, IsLow, added, pin_in, records_in, row_in, row_sizes, shifted, shifted_item}
use Rattle.cf_volume_changes.specs.RoomLeft.{FitsAmong}
use Rattle.cf_volume_changes.specs.declared.room.drafts.Draft.{Draft}
use Rattle.cf_volume_changes.specs.declared.room.drafts.Sizes.{Sizes}

last_sum : {A : Type 0} (g : A → ℕ) (xs : List A) (x : A) → sum_by g (xs ++ x ∷ []) ≡ sum_by g xs + g x
last_sum {A} g xs x = omega (arith, sum_by-append g xs (x ∷ []), sum_by-cons g x [])

module _ (c : Contents) (d e : Draft) (w : Volume) (ch : Change) (p : Row) (i : Item) (drafts : Drafts c d w) (items_are : (put_change ch w).items ≡ w.items ++ i ∷ []) (book_is : (put_change ch w).book ≡ w.book)
    (new : All (λ j. j.id.0 < i.id.0) w.items) (means : Means p (shifted_item w.epoch i)) (number : i.number ≡ next_number w) (anchor : p.anchor ≡ no_usn) (stored : IsStored p)
    (rises : RisesFrom 0 d.changed.rows) (changed_is : e.changed.rows ≡ with_row p d.changed.rows) (gone_is : e.gone ≡ d.gone) (less : e.less ≡ d.less)
    (more : (m : ℕ) → IsBelow p.here (4096 * m) → e.more ≡ added d.more (row_sizes p (touched p.here 0 m))) where
  none : item_of w.items i.id ≡ None
  none = none_new i.id w.items new

  new_draws : DrawsRow w.epoch (usn_after w.epoch (w.place + 1)) w.book p i
  new_draws = record {
    means = means;
    anchor = anchor ∙ sym (drafts.book i.id none).0;
    later = record {
      number = ap (λ (m : Usn). above (shifted w.epoch (usn_after w.epoch (w.place + 1))) m) (means.number ∙ ap (shifted w.epoch) number) ∙ shift_rises w.epoch w.place;
      anchor = ap (λ (m : Usn). above (shifted w.epoch (usn_after w.epoch (w.place + 1))) m) anchor
          ∙ shift_above w.epoch (usn_after w.epoch (w.place + 1)) no_usn (omega arith, λ same. omega arith) ∙ past_above (usn_after w.epoch (w.place + 1)) no_usn (omega arith) (omega arith);
    };
    low = subst (IsLow w.epoch) (sym anchor) (omega arith, λ same. omega arith);
    numbered = subst (λ (m : Usn). m.epoch ≤ w.epoch) (sym number) (omega arith);
  }

  rows_after : (key : ItemId) → Draws w.epoch (usn_after w.epoch (w.place + 1)) w.book (row_in e c.rows.rows key) (item_of (w.items ++ i ∷ []) key)
  rows_after key =
      subst (λ (o : Option Row). Draws w.epoch (usn_after w.epoch (w.place + 1)) w.book o (item_of (w.items ++ i ∷ []) key)) (sym (row_put d e c.rows.rows p key rises changed_is (λ j. (gone_is j).items)))
      (subst (λ (q : Option Item). Draws w.epoch (usn_after w.epoch (w.place + 1)) w.book (cond (eqb p.id.0 key.0) (Some p) (row_in d c.rows.rows key)) q) (sym (item_last w.items i key))
      (subst (λ (k : ItemId). Draws w.epoch (usn_after w.epoch (w.place + 1)) w.book (cond (eqb k.0 key.0) (Some p) (row_in d c.rows.rows key)) (or_now (item_of w.items key) (cond (eqb i.id.0 key.0) (Some i) None))) (sym means.id)
      (by (eqb i.id.0 key.0) refl)))
    where
      or_none : (o : Option Item) → o ≡ or_now o None
      or_none None = refl
      or_none (Some x) = refl

      by : (t : Bool) → eqb i.id.0 key.0 ≡ t → Draws w.epoch (usn_after w.epoch (w.place + 1)) w.book (cond t (Some p) (row_in d c.rows.rows key)) (or_now (item_of w.items key) (cond t (Some i) None))
      by true q =
          let at : item_of w.items key ≡ None = subst (λ (k : ItemId). item_of w.items k ≡ None) (λ j. record { 0 = eqb-true i.id.0 key.0 q j }) none in
          subst (λ (o : Option Item). Draws w.epoch (usn_after w.epoch (w.place + 1)) w.book (Some p) (or_now o (Some i))) (sym at) new_draws
      by false q = subst (λ (o : Option Item). Draws w.epoch (usn_after w.epoch (w.place + 1)) w.book (row_in d c.rows.rows key) o) (or_none (item_of w.items key))
          (all_on w.epoch w.place w.book (row_in d c.rows.rows key) (item_of w.items key) (drafts.rows key))

  new_more : e.more ≡ added d.more (row_sizes p (touched p.here 0 (blocks_in (length i.held))))
  new_more = more (blocks_in (length i.held)) (drawn_below w.epoch (usn_after w.epoch (w.place + 1)) w.book p i new_draws stored)

  pub new_drafts : Drafts c e (put_change ch w)
  new_drafts = record {
    rise = subst (AreInOrder 0) (sym items_are) (order_last 0 w.items i (omega arith) new drafts.rise);
    gone = subst (λ (l : List ItemId). All (λ g. g.0 < 2 ^ 64) l) (sym (λ j. (gone_is j).items)) drafts.gone;
    rows = λ key. subst (λ (b : Book). Draws w.epoch (usn_after w.epoch (w.place + 1)) b (row_in e c.rows.rows key) (item_of (put_change ch w).items key)) (sym book_is)
        (subst (λ (l : List Item). Draws w.epoch (usn_after w.epoch (w.place + 1)) w.book (row_in e c.rows.rows key) (item_of l key)) (sym items_are) (rows_after key));
    book = subst (λ (b : Book). IsBookOf (put_change ch w).items b) (sym book_is) (subst (λ (l : List Item). IsBookOf l w.book) (sym items_are) (λ key n. drafts.book key (none_before w.items i key n)));
    records = ap aux_records book_is ∙ drafts.records ∙ ap (λ (l : List ItemId). records_in l c.records) (sym (λ j. (gone_is j).items));
    bytes =
        let sums = last_sum (row_len w.book) w.items i in
        let len = drawn_len w.epoch (usn_after w.epoch (w.place + 1)) w.book p i new_draws stored in
        let image : image_len (put_change ch w).items (put_change ch w).book ≡ image_len (w.items ++ i ∷ []) w.book = (λ j. image_len (items_are j) (book_is j)) in
        omega (arith, sums, len, image, ap (λ (z : Sizes). z.bytes) less, ap (λ (z : Sizes). z.bytes) new_more, drafts.bytes);
    items =
        let count = ap length items_are ∙ length-append w.items (i ∷ []) in
        omega (arith, count, ap (λ (z : Sizes). z.items) less, ap (λ (z : Sizes). z.items) new_more, drafts.items);
    blocks =
        let sums = last_sum (λ j. blocks_held j.held) w.items i in
        let held = drawn_blocks w.epoch (usn_after w.epoch (w.place + 1)) w.book p i new_draws stored in
        let used = ap blocks_used items_are in
        omega (arith, sums, held, used, ap (λ (z : Sizes). z.blocks) less, ap (λ (z : Sizes). z.blocks) new_more, drafts.blocks);
  }

-- a Make

pub make_means : (c : Contents) (d : Draft) (w : Volume) (p : Row) (item parent : ItemId) (name : List ℕ) (kind : Kind) (size : ℕ) (identity : List ℕ) (pin : Pin) (n : Usn) → Drafts c d w → pin ≡ pin_in (row_in d c.rows.rows parent) → n ≡ shifted w.epoch (next_number w)
    → Means p (made item parent name kind size identity pin n) → Means p (shifted_item w.epoch (made item parent name kind size identity (pin_of w.items parent) (next_number w)))
make_means c d w p item parent name kind size identity pin n drafts pin_is n_is m =
    subst (Means p) ((λ j. made item parent name kind size identity ((pin_is ∙ drawn_pin w.epoch (next_number w) w.book (row_in d c.rows.rows parent) w.items parent (drafts.rows parent)) j) (n_is j))
    ∙ shifted_made w.epoch item parent name kind size identity (pin_of w.items parent) (next_number w)) m

-- a Copy

module _ (c : Contents) (d : Draft) (w : Volume) (source : Row) (item from parent : ItemId) (name : List ℕ) (n : Usn) (drafts : Drafts c d w) (fits : FitsAmong (change.Copy item from parent name) w.book w.items) (n_is : n ≡ shifted w.epoch (next_number w))
    (found : row_in d c.rows.rows from ≡ Some source) (table : IsTableRow source) where
  pub source_is : (j : Item) × (item_of w.items from ≡ Some j) × DrawsRow w.epoch (next_number w) w.book source j
  source_is = drawn w.epoch (next_number w) w.book (row_in d c.rows.rows from) (item_of w.items from) source (drafts.rows from) found

  pub source_long : 8 ≤ length source.identity
  source_long =
      let long = subst (λ (o : Option Item). MatchOption o ⊥ (λ i. 8 ≤ length i.identity)) source_is.1 fits.2 in
      let same = ap length source_is.2.means.identity in
      omega (arith, long, same)

  abbrev pub copy : Item
  copy = copied item parent name (pin_of w.items parent) (next_number w) source_is.0

  pub copy_items : (put_change (change.Copy item from parent name) w).items ≡ w.items ++ copy ∷ []
  copy_items = ap (λ (o : Option Item). w.items ++ copies item parent name (pin_of w.items parent) (next_number w) o) source_is.1

  pub copy_asks : (z : Sizes) → ((m : ℕ) → IsBelow source.here (4096 * m) → z ≡ row_sizes source (touched source.here 0 m)) → z.blocks ≡ length (puts_into w.items (change.Copy item from parent name))
  copy_asks z sizes =
      ap (λ (x : Sizes). x.blocks) (sizes (blocks_in (length source_is.0.held)) (drawn_below w.epoch (next_number w) w.book source source_is.0 source_is.2 table.stored))
      ∙ drawn_blocks w.epoch (next_number w) w.book source source_is.0 source_is.2 table.stored
      ∙ ap (λ (o : Option Item). length (blocks_holding (part (λ i. i.held) [] o))) (sym source_is.1)

  pub copy_means : (p : Row) (pin : Pin) → pin ≡ pin_in (row_in d c.rows.rows parent) → ((i : Item) → Means source i → Means p (copied item parent name pin n i)) → Means p (shifted_item w.epoch copy)
  copy_means p pin pin_is means =
      subst (Means p) ((λ j. copied item parent name ((pin_is ∙ drawn_pin w.epoch (next_number w) w.book (row_in d c.rows.rows parent) w.items parent (drafts.rows parent)) j) (n_is j) (shifted_item w.epoch source_is.0))
      ∙ shifted_copy w.epoch item parent name (pin_of w.items parent) (next_number w) source_is.0)
      (means (shifted_item w.epoch source_is.0) source_is.2.means)

  pub copy_spells : (p : Row) → p.name ≡ name → p.identity ≡ untargeted source.identity → IsSpellable p
  copy_spells p name_is identity_is = record {
    name = let same = ap length name_is in omega (arith, same, fits.1);
    identity = let same = ap length identity_is in let long = untargeted_len source.identity source_long in omega (arith, same, long, table.spellable.identity);
  }
