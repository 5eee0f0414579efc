-- The book of a volume that is kept is the one that its rows and records say.
use Rattle.std.proofs.Common.{◌≡◌, ℕ, Bool, cond, List, [], ◌∷◌, refl, sym, ◌∙◌, ap}
use Rattle.std.specs.Prelude.{◌==◌}
use Rattle.cf_base.specs.declared.answers.Access.{Access}
use Rattle.cf_base.specs.declared.answers.Anchor.{Anchor}
use Rattle.cf_base.specs.declared.answers.AuxRecord.{AuxRecord}
use Rattle.cf_base.specs.declared.answers.OpenedBook.{OpenedBook}
use Rattle.cf_base.specs.declared.ids.ItemId.{ItemId}
use Rattle.cf_base.specs.declared.ids.Usn.{Usn}
use Rattle.cf_disk.specs.Disk.{State}
use Rattle.cf_filter_machine.proofs.TellsRows.{Tell, told, told_is}
use Rattle.cf_filter_machine.specs.Keeping.{IsKeptVolume}
use Rattle.cf_filter_machine.specs.Telling.{accesses_in, anchors_in, told_of}
use Rattle.cf_model.specs.Books.{Book, opened_of}
use Rattle.cf_model.specs.Items.{Item}
use Rattle.cf_model.specs.Numbers.{is_no_usn, no_usn}
use Rattle.cf_model.specs.State.{Volume}
use Rattle.cf_volume_points.specs.At.{At}
use Rattle.cf_volume_points.specs.Holding.{HoldRows}
use Rattle.cf_volume_points.specs.Known.{Known}
use Rattle.cf_volume_points.specs.Standing.{cluster_on}
use Rattle.cf_table.specs.declared.rows.Row.{Row}

-- anchors

abbrev anchor_item : Anchor → ItemId
anchor_item a = a.item

abbrev anchor_number : Anchor → Usn
anchor_number a = a.number

abbrev an_anchor : ItemId → Usn → Anchor
an_anchor id number = record { item = id; number = number }

abbrev row_item : Row → ItemId
row_item r = r.id

abbrev row_anchor : Row → Usn
row_anchor r = r.anchor

tell_anchors : (cluster : ℕ → List ℕ) (b : Book) (rows : List Row) (items : List Item) → HoldRows cluster b rows items → Tell anchor_item anchor_number no_usn is_no_usn an_anchor row_item row_anchor b.anchors rows items
tell_anchors cluster b [] [] h = record {}
tell_anchors cluster b [] (i ∷ is) h = absurd h
tell_anchors cluster b (r ∷ rs) [] h = absurd h
tell_anchors cluster b (r ∷ rs) (i ∷ is) h = (h.0.means.id, h.0.anchor, tell_anchors cluster b rs is h.1)

anchors_told : (rows : List Row) → anchors_in rows ≡ told anchor_item anchor_number no_usn is_no_usn an_anchor row_item row_anchor rows
anchors_told [] = refl
anchors_told (r ∷ rs) = ap (λ (l : List Anchor). cond (is_no_usn r.anchor) l (an_anchor r.id r.anchor ∷ l)) (anchors_told rs)

-- accesses

abbrev access_item : Access → ItemId
access_item a = a.item

abbrev access_clock : Access → ℕ
access_clock a = a.clock

abbrev an_access : ItemId → ℕ → Access
an_access id clock = record { item = id; clock = clock }

abbrev row_last : Row → ℕ
row_last r = r.last

abbrev is_never : ℕ → Bool
is_never clock = clock == 0

tell_accesses : (cluster : ℕ → List ℕ) (b : Book) (rows : List Row) (items : List Item) → HoldRows cluster b rows items → Tell access_item access_clock 0 is_never an_access row_item row_last b.accesses rows items
tell_accesses cluster b [] [] h = record {}
tell_accesses cluster b [] (i ∷ is) h = absurd h
tell_accesses cluster b (r ∷ rs) [] h = absurd h
tell_accesses cluster b (r ∷ rs) (i ∷ is) h = (h.0.means.id, h.0.last, tell_accesses cluster b rs is h.1)

accesses_told : (rows : List Row) → accesses_in rows ≡ told access_item access_clock 0 is_never an_access row_item row_last rows
accesses_told [] = refl
accesses_told (r ∷ rs) = ap (λ (l : List Access). cond (is_never r.last) l (an_access r.id r.last ∷ l)) (accesses_told rs)

-- the book

module _ (d : State) (k : Known) (v : Volume) (at : At d k v) (kept : IsKeptVolume v) where
  same_anchors : v.book.anchors ≡ anchors_in k.table.rows
  same_anchors =
      sym (anchors_told k.table.rows
      ∙ told_is anchor_item anchor_number no_usn is_no_usn an_anchor row_item row_anchor (λ a. refl) refl k.table.rows v.items v.book.anchors
      (tell_anchors (cluster_on d.seen) v.book k.table.rows v.items at.now.rows) kept.good.tree.order kept.book.anchors_rise (λ id none. (at.now.book id none).0))

  same_accesses : v.book.accesses ≡ accesses_in k.table.rows
  same_accesses =
      sym (accesses_told k.table.rows
      ∙ told_is access_item access_clock 0 is_never an_access row_item row_last (λ a. refl) refl k.table.rows v.items v.book.accesses
      (tell_accesses (cluster_on d.seen) v.book k.table.rows v.items at.now.rows) kept.good.tree.order kept.book.accesses_rise (λ id none. (at.now.book id none).1))

  -- what a restart tells is what is known of the volume that it opened
  pub told_known : opened_of v.book ≡ told_of k
  told_known = by (sym at.now.records) same_anchors (sym at.now.clock) same_accesses
    where
      by : {r s : List AuxRecord} {a c : List Anchor} {t u : ℕ} {e f : List Access} → r ≡ s → a ≡ c → t ≡ u → e ≡ f → ◌≡◌ {A = OpenedBook} (record { records = r; anchors = a; clock = t; accesses = e }) (record { records = s; anchors = c; clock = u; accesses = f })
      by p q w z = λ j. record { records = p j; anchors = q j; clock = w j; accesses = z j }
