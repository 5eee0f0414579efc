-- What the first parts of a pass leave: uploads that are settled, and a feed that is taken.
use Rattle.std.specs.Prelude.{Bool, false, List, [], ◌≡◌, ◌⊎◌}
use Rattle.cf_base.specs.declared.ids.ItemId.{ItemId}
use Rattle.cf_base.specs.declared.items.SeenPath.{SeenPath}
use Rattle.cf_model.specs.Books.{QueueEntry, seen_of}
use Rattle.cf_model.specs.State.{State, book_now, items_now}
use Rattle.cf_model.specs.Store.{feed_of}
use Rattle.cf_model_laws.specs.Invariant.{All}
use Rattle.cf_model_convergence.specs.Turns.{IsLeftBy, IsOfNone}

-- These uploads are left on their way. Of the filter only they and the notes are others, and of the remote the records of tokens.
pub record IsSettledTo (es : List QueueEntry) (s t : State) : Type 0 where
  pub filter : t.filter ≡ record s.filter { volume = record s.filter.volume { book = record s.filter.volume.book { entries = es } }; notes = t.filter.notes }
  pub running : t.running ≡ s.running
  pub inline : t.link.inline ≡ s.link.inline
  pub honest : t.link.honest ≡ s.link.honest
  pub remote : t.link.remote ≡ record s.link.remote { tokens = t.link.remote.tokens }

-- A feed of all that was changed after the cursor was taken in. Of the filter only paths seen of the entries' items, the cursor and the notes are
-- others. The cursor stays, or nothing was postponed and it became the remote's clock. Nothing is held back.
pub record IsFed (s t : State) : Type 0 where
  pub paths : List SeenPath
  pub filter : t.filter ≡ record s.filter { volume = record s.filter.volume { book = record s.filter.volume.book { seen = paths; cursor = (book_now t).cursor } }; notes = t.filter.notes }
  pub postponed : Bool
  pub cursor : ((book_now t).cursor ≡ (book_now s).cursor) ⊎ ((postponed ≡ false) × ((book_now t).cursor ≡ s.link.remote.clock))
  pub remote : t.link.remote ≡ s.link.remote
  pub inline : t.link.inline ≡ s.link.inline
  pub honest : t.link.honest ≡ s.link.honest
  pub shows : t.running.shows_skips ≡ s.running.shows_skips
  pub items_free : t.volatile.held_items ≡ []
  pub tombstones_free : t.volatile.held_tombstones ≡ []
  pub entries : All (λ e. IsLeftBy postponed e s t) (feed_of s.link.remote (book_now s).cursor)
  pub others : (id : ItemId) → IsOfNone (feed_of s.link.remote (book_now s).cursor) (items_now s) id → seen_of (book_now t) id ≡ seen_of (book_now s) id
