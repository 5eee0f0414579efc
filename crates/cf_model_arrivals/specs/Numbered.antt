-- Numbers of tombstones, of uploads and of items: each is of one item, here or of the remote.
use Rattle.std.specs.Prelude.{ℕ, Bool, true, false, ◌≡◌, ◌⊎◌, List}
use Rattle.cf_base.specs.declared.ids.Usn.{Usn}
use Rattle.cf_model.specs.Books.{Book, QueueEntry, RemoveItem, Tombstone}
use Rattle.cf_model.specs.Changes.{next_number}
use Rattle.cf_model.specs.Identities.{target_of}
use Rattle.cf_model.specs.Items.{Item}
use Rattle.cf_model.specs.Numbers.{above}
use Rattle.cf_model.specs.PushReplies.{is_new_entry}
use Rattle.cf_model.specs.State.{Link, Volume}
use Rattle.cf_model.specs.Store.{Held}
use Rattle.cf_model_laws.specs.Invariant.{Among}
use Rattle.cf_model_arrivals.specs.Buried.{IsOfKindBuried}
use Rattle.cf_model_convergence.specs.Lasting.{Lasts}

-- a tombstone, a removal on its way, the upload of a new item and an item have the number: of an item of the remote, or of one here
abbrev pub Claims : List Item → Book → Usn → Bool × ℕ → Type 0
Claims items b n o =
    ((t : Tombstone) × Among t b.tombstones × (t.number ≡ n) × (o ≡ (true, t.rid.0)))
    ⊎ ((e : QueueEntry) × Among e b.entries × (e.action ≡ RemoveItem) × (e.number ≡ n) × (o ≡ (true, e.rid.0)))
    ⊎ ((e : QueueEntry) × Among e b.entries × (is_new_entry e ≡ true) × (e.number ≡ n) × (o ≡ (false, e.item.0)))
    ⊎ ((i : Item) × Among i items × (i.number ≡ n) × (o ≡ (false, i.id.0)))

-- items here of an id have no target
abbrev pub AreFresh : List Item → ℕ → Type 0
AreFresh items id = (i : Item) → Among i items → i.id.0 ≡ id → (target_of i).0 ≡ 0

pub record AreNumbered (next : Usn) (r : Held) (items : List Item) (b : Book) : Type 0 where
  -- a number is of one item
  pub one : (n : Usn) (o p : Bool × ℕ) → Claims items b n o → Claims items b n p → o ≡ p
  -- and it was given
  pub early : (n : Usn) (o : Bool × ℕ) → Claims items b n o → above next n ≡ true
  -- no two tombstones have one number
  pub alone : (t u : Tombstone) → Among t b.tombstones → Among u b.tombstones → t.number ≡ u.number → t ≡ u
  -- the upload of a new item names an item, and that has no target
  pub named : (e : QueueEntry) → Among e b.entries → is_new_entry e ≡ true → e.item.0 ≡ 0 → ⊥
  pub fresh : (e : QueueEntry) → Among e b.entries → is_new_entry e ≡ true → AreFresh items e.item.0
  pub kinds : (t : Tombstone) → Among t b.tombstones → IsOfKindBuried r t

abbrev pub HasNumbers : Link → ℕ → Bool → Volume → Type 0
HasNumbers l rounds awaited v = Lasts (AreNumbered (next_number v)) l v
