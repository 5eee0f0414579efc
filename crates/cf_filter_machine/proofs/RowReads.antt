-- What the rows say of a volume.
use Rattle.std.proofs.Common.{◌≡◌, ℕ, Bool, true, false, ◌&&◌, ◌||◌, not, cond, eqb, List, [], ◌∷◌, Option, Some, None, refl, sym, ◌∙◌, ap}
use Rattle.std.specs.List.{list_any}
use Rattle.std.proofs.lemmas.Bool.{eqb-true}
use Rattle.cf_base.specs.declared.ids.ItemId.{ItemId}
use Rattle.cf_model.specs.Books.{Book, access_of, anchor_of}
use Rattle.cf_model.specs.Items.{Item, item_of}
use Rattle.cf_model.specs.Numbers.{no_usn}
use Rattle.cf_model.specs.Words.{part}
use Rattle.cf_volume_points.specs.Holding.{HoldRows, HoldsRow}
use Rattle.cf_volume_points.specs.Standing.{IsBookOf}
use Rattle.cf_table.specs.Tables.{MeansAll, row_of}
use Rattle.cf_table.specs.declared.rows.Row.{Row}

unlisted_in : (a b c d : Bool) → a ≡ b → c ≡ d → (a && not c) ≡ (b && not d)
unlisted_in a b c d e f = ap (λ (x : Bool). x && not c) e ∙ ap (λ (x : Bool). b && not x) f

pub unlisted_rows : (rows : List Row) (items : List Item) → MeansAll rows items → list_any (λ r. r.dir && not r.populated) rows ≡ list_any (λ i. i.directory && not i.populated) items
unlisted_rows [] [] h = refl
unlisted_rows [] (i ∷ is) h = absurd h
unlisted_rows (r ∷ rs) [] h = absurd h
unlisted_rows (r ∷ rs) (i ∷ is) h =
    ap (λ (b : Bool). b || list_any (λ r. r.dir && not r.populated) rs) (unlisted_in r.dir i.directory r.populated i.populated h.0.directory h.0.populated)
    ∙ ap (λ (b : Bool). (i.directory && not i.populated) || b) (unlisted_rows rs is h.1)

same_id : (a b : ItemId) → a.0 ≡ b.0 → a ≡ b
same_id a b h = ap (λ (n : ℕ). record { 0 = n }) h

-- what is read of a row, where it stands for an item
abbrev SaysOf : {V : Type 0} → (Row → V) → V → Option Row → Option Item → Type 0
SaysOf g v None None = Unit {0}
SaysOf g v None (Some i) = ⊥
SaysOf g v (Some r) None = ⊥
SaysOf g v (Some r) (Some i) = g r ≡ v

-- it is what the book says of the item, or the value for none
module _ {V : Type 0} (cluster : ℕ → List ℕ) (b : Book) (g : Row → V) (k : ItemId → V) (same : (r : Row) (i : Item) → HoldsRow cluster b r i → g r ≡ k i.id) where
  said_of : (rows : List Row) (items : List Item) (id : ItemId) → HoldRows cluster b rows items → SaysOf g (k id) (row_of rows id) (item_of items id)
  said_of [] [] id h = record {}
  said_of [] (i ∷ is) id h = absurd h
  said_of (r ∷ rs) [] id h = absurd h
  said_of (r ∷ rs) (i ∷ is) id h = by (eqb r.id.0 id.0) refl (eqb i.id.0 id.0) (ap (λ (j : ItemId). eqb j.0 id.0) h.0.means.id) (said_of rs is id h.1)
    where
      by : (t : Bool) → eqb r.id.0 id.0 ≡ t → (u : Bool) → eqb r.id.0 id.0 ≡ u → SaysOf g (k id) (row_of rs id) (item_of is id) → SaysOf g (k id) (cond t (Some r) (row_of rs id)) (cond u (Some i) (item_of is id))
      by true e true f rest = same r i h.0 ∙ ap k (sym h.0.means.id ∙ same_id r.id id (eqb-true r.id.0 id.0 e))
      by true e false f rest = let z : true ≡ false = sym e ∙ f in absurd cc
      by false e true f rest = let z : true ≡ false = sym f ∙ e in absurd cc
      by false e false f rest = rest

  known_of : (none : V) (rows : List Row) (items : List Item) (id : ItemId) → HoldRows cluster b rows items → (item_of items id ≡ None → k id ≡ none) → part g none (row_of rows id) ≡ k id
  known_of none rows items id h gone = by (row_of rows id) (item_of items id) refl (said_of rows items id h)
    where
      by : (o : Option Row) (p : Option Item) → item_of items id ≡ p → SaysOf g (k id) o p → part g none o ≡ k id
      by None None e l = sym (gone e)
      by None (Some i) e l = absurd l
      by (Some r) None e l = absurd l
      by (Some r) (Some i) e l = l

pub last_known : (cluster : ℕ → List ℕ) (b : Book) (rows : List Row) (items : List Item) (id : ItemId) → HoldRows cluster b rows items → IsBookOf items b → part (λ (r : Row). r.last) 0 (row_of rows id) ≡ access_of b id
last_known cluster b rows items id h book = known_of cluster b (λ r. r.last) (access_of b) (λ r i k. k.last) 0 rows items id h (λ e. (book id e).1)

pub anchor_known : (cluster : ℕ → List ℕ) (b : Book) (rows : List Row) (items : List Item) (id : ItemId) → HoldRows cluster b rows items → IsBookOf items b → part (λ (r : Row). r.anchor) no_usn (row_of rows id) ≡ anchor_of b id
anchor_known cluster b rows items id h book = known_of cluster b (λ r. r.anchor) (anchor_of b) (λ r i k. k.anchor) no_usn rows items id h (λ e. (book id e).0)
