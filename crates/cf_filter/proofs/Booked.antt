-- Anchors that are noted.
use Rattle.std.proofs.Common.{◌≡◌, ◌==◌, Bool, true, false, cond, eqb, Option, Some, None, refl, sym, ◌∙◌, ap, subst}
use Rattle.std.specs.Prelude.{MatchOption, Ok, Result}
use Rattle.cf_filter_machine.proofs.Aims.{aims_book}
use Rattle.cf_base.specs.declared.codes.CallError.{CallError}
use Rattle.cf_base.specs.declared.ids.ItemId.{ItemId}
use Rattle.cf_base.specs.declared.ids.Usn.{Usn}
use Rattle.cf_disk.specs.Disk.{State}
use Rattle.cf_filter.specs.Booking.{anchored_at}
use Rattle.cf_filter_machine.proofs.BookSteps.{book_moved}
use Rattle.cf_filter_machine.proofs.RemoveSteps.{row_there}
use Rattle.cf_filter_machine.proofs.RisingBooks.{anchors_with}
use Rattle.cf_filter_desk.specs.Desks.{Desk}
use Rattle.cf_filter_machine.specs.Held.{Held}
use Rattle.cf_filter_machine.specs.Keeping.{IsKeptVolume}
use Rattle.cf_filter_machine.specs.Lasts.{lasts_at}
use Rattle.cf_filter_machine.specs.Sensing.{Stands, sense}
use Rattle.cf_model.specs.Arrows.{noted, unit}
use Rattle.cf_model.specs.Books.{Book, anchor_of, with_anchor}
use Rattle.cf_model.specs.Changes.{next_number}
use Rattle.cf_model.specs.Items.{Item, item_of}
use Rattle.cf_model.specs.Numbers.{above, is_no_usn}
use Rattle.cf_model.specs.State.{Filter, Volume}
use Rattle.cf_model.specs.Words.{part}
use Rattle.cf_volume_points.proofs.BookChanges.{anchor_put}
use Rattle.cf_volume_points.specs.At.{At}
use Rattle.cf_volume_points.specs.Holding.{FitsTable}
use Rattle.cf_volume_points.specs.Known.{Known}
use Rattle.cf_engine_queue.proofs.StaysKeepable.{anchor_kept}
use Rattle.cf_filter_machine.proofs.Rebooked.{rebooked}
use Rattle.cf_filter_steps.proofs.Laws.{noted_as, weaker}
use Rattle.cf_filter_steps.proofs.LookUps.{of_found}
use Rattle.cf_filter_steps.specs.Answering.{Answers, IsAt}
use Rattle.cf_engine_host.specs.BookSteps.{HasNumber, with_book_of}
use Rattle.cf_table.specs.Means.{Means}
use Rattle.cf_table.specs.Tables.{row_of}
use Rattle.cf_table.specs.declared.rows.Row.{Row}

anchored_book : (id : ItemId) (i : Item) (v : Volume) → item_of v.items id ≡ Some i → is_no_usn i.number ≡ false → FitsTable v.items (with_anchor id i.number v.book) → IsKeptVolume v → IsKeptVolume (record v { book = with_anchor id i.number v.book })
anchored_book id i v there given fits h = rebooked v (with_anchor id i.number v.book) fits.short
    (record { anchors = λ key. subst (λ (n : Usn). above (next_number v) n ≡ true) (sym (anchor_put id key i.number v.book)) (by key (eqb id.0 key.0)); accesses = h.book.accesses; fits = anchor_kept v.book id i.number h.book.fits; graves = h.book.graves; anchors_rise = anchors_with id i.number v.book given h.book.anchors_rise; accesses_rise = h.book.accesses_rise }) h
  where
    by : (key : ItemId) (t : Bool) → above (next_number v) (cond t i.number (anchor_of v.book key)) ≡ true
    by key true = of_found (λ (j : Item). above (next_number v) j.number ≡ true) (λ j. j.id.0 == id.0) v.items i h.given there
    by key false = h.book.anchors key

-- the row says whether the item has a number
abbrev pub unnumbered : Option Row → Bool
unnumbered o = part (λ (r : Row). is_no_usn r.number) true o

number_of : (d : State) (k : Known) (v : Volume) (id : ItemId) (i : Item) (b : Bool) → b ≡ unnumbered (row_of k.table.rows id) → At d k v → item_of v.items id ≡ Some i → is_no_usn i.number ≡ b
number_of d k v id i b is at there = by (row_of k.table.rows id) (row_there d k v id i (row_of k.table.rows id) refl at there) is
  where
    by : (o : Option Row) → MatchOption o ⊥ (λ r. Means r i) → b ≡ unnumbered o → is_no_usn i.number ≡ b
    by None means e = absurd means
    by (Some r) means e = sym (e ∙ ap is_no_usn means.number)

-- as the code reads it
pub number_read : {D : Type 0} {x y : Held D} {o : Option Row} {b : Bool} (id : ItemId) → x ≡ y → b ≡ unnumbered o → o ≡ row_of x.known.table.rows id → b ≡ unnumbered (row_of y.known.table.rows id)
number_read {D} id same is row = is ∙ ap unnumbered (row ∙ ap (λ (z : Held D). row_of z.known.table.rows id) same)

anchored_is : (id : ItemId) (n : Usn) (b : Bool) (s : Filter) → is_no_usn n ≡ b → with_book_of (λ (k : Book). cond b k (with_anchor id n k)) s ≡ with_book_of (anchored_at id n) s
anchored_is id n b s e = ap (λ (c : Bool). with_book_of (λ (k : Book). cond c k (with_anchor id n k)) s) (sym e)

-- an item without a number keeps what it has
pub anchored_not : {D : Type 0} (state : D → State) (x : Held D) (id : ItemId) (i : Item) → true ≡ unnumbered (row_of x.known.table.rows id)
    → Answers (sense state) (IsAt id i) (noted (with_book_of (anchored_at id i.number))) x (Ok unit) x
anchored_not state x id i none = record {
  leads = λ s h there. (
    s,
    (refl, anchored_is id i.number true s (number_of (state x.disk) x.known s.volume id i true none h.volume there)),
    (sense state).stays x s h,
    h,
  );
}

pub anchored_done : {D : Type 0} (state : D → State) (x y : Held D) (k : Known) (e : Desk) (id : ItemId) (i : Item) → y ≡ record { disk = x.disk; known = k; desk = e }
    → false ≡ unnumbered (row_of x.known.table.rows id) → k.broken ≡ false → e ≡ x.desk
    → ((s : Filter) → Stands state x s → item_of s.volume.items id ≡ Some i → At (state x.disk) k (record s.volume { book = with_anchor id i.number s.volume.book }))
    → Answers (sense state) (IsAt id i) (noted (with_book_of (anchored_at id i.number))) x (Ok unit) y
anchored_done {D} state x y k e id i is some usable same at = subst (λ (z : Held D). Answers (sense state) (IsAt id i) (noted (with_book_of (anchored_at id i.number))) x (Ok unit) z) (sym is) (record {
  leads = λ s h there.
      let now = at s h there in
      let given : is_no_usn i.number ≡ false = number_of (state x.disk) x.known s.volume id i false some h.volume there in
      let after : IsKeptVolume (record s.volume { book = with_anchor id i.number s.volume.book }) = anchored_book id i s.volume there given now.now.fits h.kept in (
        with_book_of (with_anchor id i.number) s,
        (refl, anchored_is id i.number false s given),
        book_moved (state x.disk) s.volume (with_anchor id i.number s.volume.book) (lasts_at (state x.disk) x.known s.volume h.fair h.volume h.points),
        record {
          fair = h.fair;
          volume = now;
          desk = same ∙ h.desk;
          whole = usable;
          good = record { volume = after.good; files = h.good.files; numbered = h.good.numbered; reads = h.good.reads };
          kept = after;
          points = h.points;
          aimed = aims_book (state x.disk).settings.aim s.volume (with_anchor id i.number s.volume.book) h.aimed;
        },
      );
})

-- of an item that has a number
pub numbered_done : {D : Type 0} (state : D → State) (x y : Held D) (id : ItemId) (i : Item) (r : Result (Unit {0}) CallError)
    → Answers (sense state) (IsAt id i) (noted (with_book_of (anchored_at id i.number))) x r y → Answers (sense state) (HasNumber id i) (noted (with_book_of (with_anchor id i.number))) x r y
numbered_done state x y id i r h =
    noted_as (sense state) (HasNumber id i) (with_book_of (anchored_at id i.number)) (with_book_of (with_anchor id i.number)) x y r
    (λ s stands has. ap (λ (b : Bool). with_book_of (λ (k : Book). cond b k (with_anchor id i.number k)) s) has.number)
    (weaker (sense state) (IsAt id i) (HasNumber id i) (noted (with_book_of (anchored_at id i.number))) x y r (λ s has. has.at) h)
