-- What one more change makes of a log, and what it leaves.
use Rattle.std.proofs.Common.{◌≡◌, ℕ, ◌≤◌, Bool, true, false, cond, eqb, List, [], ◌∷◌, ◌++◌, length, take, max, refl, sym, ◌∙◌, ap, arith, Some, None}
use Rattle.std.proofs.lemmas.Bool.{true≢false}
use Rattle.std.proofs.lemmas.List.{take-append-le}
use Rattle.std.proofs.lemmas.Option.{none-some}
use Rattle.cf_base.specs.declared.changes.Change.{Change}
use Rattle.cf_base.specs.declared.changes.Change.TheVariants as change
use Rattle.cf_base.specs.declared.ids.ItemId.{ItemId}
use Rattle.cf_base.specs.declared.ids.Usn.{Usn}
use Rattle.cf_base.specs.declared.items.Pin.{Pin}
use Rattle.cf_volume_blocks.specs.Bytes.{puts_in}
use Rattle.cf_model.proofs.GivenLaws.{all_below_next}
use Rattle.cf_model.specs.Blocks.{held_of, puts_into}
use Rattle.cf_model.specs.Books.{Book, book_after}
use Rattle.cf_model.specs.Changes.{next_number, put_change}
use Rattle.cf_model.specs.Effects.{changed, effect}
use Rattle.cf_model.specs.Given.{IsOfLog}
use Rattle.cf_model.specs.Items.{Item, item_of, root}
use Rattle.cf_model.specs.Logs.{after_changes, next_by, next_of}
use Rattle.cf_model.specs.State.{Volume}
use Rattle.cf_table.specs.Applied.{item_effect}
use Rattle.cf_table.specs.Changing.{item_of_change, stays}

after_one_more : (items : List Item) (log : List (Usn × Change)) (n : Usn) (c : Change) → after_changes items (log ++ (n, c) ∷ []) ≡ effect (after_changes items log) c n
after_one_more items [] n c = refl
after_one_more items (d ∷ log) n c = after_one_more (effect items d.1 d.0) log n c

next_one_more : (log : List (Usn × Change)) (n : Usn) (c : Change) → next_of (log ++ (n, c) ∷ []) ≡ max (next_of log) (next_by c)
next_one_more [] n c = let e : max (next_by c) 2 ≡ max 2 (next_by c) = omega arith in e
next_one_more (d ∷ log) n c = let h = next_one_more log n c in let e : max (next_by d.1) (max (next_of log) (next_by c)) ≡ max (max (next_by d.1) (next_of log)) (next_by c) = omega arith in ap (λ (x : ℕ). max (next_by d.1) x) h ∙ e

pub put_of_log : (c : Change) (v : Volume) → IsOfLog v → IsOfLog (put_change c v)
put_of_log c v h = (
  ap (λ (items : List Item). effect items c (next_number v)) h.0 ∙ sym (after_one_more (root ∷ []) v.log (next_number v) c),
  ap (λ (n : ℕ). max n (next_by c)) h.1 ∙ sym (next_one_more v.log (next_number v) c),
  all_below_next v c h.2,
)

pub next_least : (log : List (Usn × Change)) → 2 ≤ next_of log
next_least [] = omega arith
next_least (d ∷ log) = let h = next_least log in omega (arith, h)

-- a change of an item that stays

pub stays_next : (c : Change) → stays c ≡ true → next_by c ≡ 2
stays_next (change.Make item parent name kind size identity) s = absurd (true≢false (sym s))
stays_next (change.Remove item) s = refl
stays_next (change.Move item parent name) s = refl
stays_next (change.Write item at bytes) s = refl
stays_next (change.Size item size) s = refl
stays_next (change.Filled item start bytes) s = refl
stays_next (change.Validated item start len) s = refl
stays_next (change.Emptied item start len) s = refl
stays_next (change.SetPin item state) s = refl
stays_next (change.Mark item at) s = refl
stays_next (change.Clear item) s = refl
stays_next (change.Convert item identity) s = refl
stays_next (change.Revert item) s = refl
stays_next (change.Rebase item identity len at) s = refl
stays_next (change.Take item identity size) s = refl
stays_next (change.Copy item from parent name) s = absurd (true≢false (sym s))
stays_next (change.Populated item) s = refl
stays_next (change.Keep item on) s = refl

pub stays_book : (c : Change) (b : Book) → stays c ≡ true → book_after c b ≡ b
stays_book (change.Make item parent name kind size identity) b s = refl
stays_book (change.Remove item) b s = absurd (true≢false (sym s))
stays_book (change.Move item parent name) b s = refl
stays_book (change.Write item at bytes) b s = refl
stays_book (change.Size item size) b s = refl
stays_book (change.Filled item start bytes) b s = refl
stays_book (change.Validated item start len) b s = refl
stays_book (change.Emptied item start len) b s = refl
stays_book (change.SetPin item state) b s = refl
stays_book (change.Mark item at) b s = refl
stays_book (change.Clear item) b s = refl
stays_book (change.Convert item identity) b s = refl
stays_book (change.Revert item) b s = refl
stays_book (change.Rebase item identity len at) b s = refl
stays_book (change.Take item identity size) b s = refl
stays_book (change.Copy item from parent name) b s = refl
stays_book (change.Populated item) b s = refl
stays_book (change.Keep item on) b s = refl

-- the blocks are those of the change's item
pub stays_puts : (c : Change) (items : List Item) → stays c ≡ true → puts_into items c ≡ puts_in c (held_of items (item_of_change c))
stays_puts (change.Make item parent name kind size identity) items s = refl
stays_puts (change.Remove item) items s = refl
stays_puts (change.Move item parent name) items s = refl
stays_puts (change.Write item at bytes) items s = refl
stays_puts (change.Size item size) items s = refl
stays_puts (change.Filled item start bytes) items s = refl
stays_puts (change.Validated item start len) items s = refl
stays_puts (change.Emptied item start len) items s = refl
stays_puts (change.SetPin item state) items s = refl
stays_puts (change.Mark item at) items s = refl
stays_puts (change.Clear item) items s = refl
stays_puts (change.Convert item identity) items s = refl
stays_puts (change.Revert item) items s = refl
stays_puts (change.Rebase item identity len at) items s = refl
stays_puts (change.Take item identity size) items s = refl
stays_puts (change.Copy item from parent name) items s = absurd (true≢false (sym s))
stays_puts (change.Populated item) items s = refl
stays_puts (change.Keep item on) items s = refl

-- an item keeps its id
pub same_item : (c : Change) (pin : Pin) (n : Usn) (i : Item) → (item_effect c pin n i).id ≡ i.id
same_item (change.Make item parent name kind size identity) pin n i = refl
same_item (change.Remove item) pin n i = refl
same_item (change.Move item parent name) pin n i = refl
same_item (change.Write item at bytes) pin n i = refl
same_item (change.Size item size) pin n i = refl
same_item (change.Filled item start bytes) pin n i = refl
same_item (change.Validated item start len) pin n i = refl
same_item (change.Emptied item start len) pin n i = refl
same_item (change.SetPin item state) pin n i = refl
same_item (change.Mark item at) pin n i = refl
same_item (change.Clear item) pin n i = refl
same_item (change.Convert item identity) pin n i = refl
same_item (change.Revert item) pin n i = refl
same_item (change.Rebase item identity len at) pin n i = refl
same_item (change.Take item identity size) pin n i = refl
same_item (change.Copy item from parent name) pin n i = refl
same_item (change.Populated item) pin n i = refl
same_item (change.Keep item on) pin n i = refl

-- no item comes by a change of one
pub none_changed : (key : ItemId) (f : Item → Item) (items : List Item) (id : ItemId) → ((i : Item) → (f i).id ≡ i.id) → item_of (changed key f items) id ≡ None → item_of items id ≡ None
none_changed key f [] id same e = refl
none_changed key f (i ∷ is) id same e = by (eqb i.id.0 key.0) e (none_changed key f is id same)
  where
    by : (t : Bool) → item_of (cond t (f i) i ∷ changed key f is) id ≡ None → (item_of (changed key f is) id ≡ None → item_of is id ≡ None) → item_of (i ∷ is) id ≡ None
    by false h rest = within (eqb i.id.0 id.0) h
      where
        within : (u : Bool) → cond u (Some i) (item_of (changed key f is) id) ≡ None → cond u (Some i) (item_of is id) ≡ None
        within true g = absurd (none-some i (sym g))
        within false g = rest g
    by true h rest = within (eqb i.id.0 id.0) (ap (λ (b : Bool). cond b (Some (f i)) (item_of (changed key f is) id)) (ap (λ (x : ItemId). eqb x.0 id.0) (sym (same i))) ∙ h)
      where
        within : (u : Bool) → cond u (Some (f i)) (item_of (changed key f is) id) ≡ None → cond u (Some i) (item_of is id) ≡ None
        within true g = absurd (none-some (f i) (sym g))
        within false g = rest g

pub same_front : (n : ℕ) (log : List (Usn × Change)) (last : Usn × Change) → n ≤ length log → take n (log ++ last ∷ []) ≡ take n log
same_front n log last le = take-append-le n log (last ∷ []) le
