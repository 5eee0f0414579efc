-- What was found of a filter for a listing.
use Rattle.std.specs.Prelude.{◌≡◌}
use Rattle.std.specs.List.{list_any}
use Rattle.cf_engine_provider.specs.Answering.{IsLive}
use Rattle.cf_engine_provider.specs.Listings.{AreAlike, known_in}
use Rattle.cf_engine_provider.specs.declared.list_views.Found.{Found}
use Rattle.cf_base.specs.declared.ids.Key.{Key}
use Rattle.cf_model.specs.PushReplies.{is_new_entry}
use Rattle.cf_model.specs.State.{Filter}

-- It is so of a filter: the ask with the key, which items of the remote are here and of which kind, the next id, and whether a new
-- item is on its way.
pub record Knows (key : Key) (x : Found) (f : Filter) : Type 0 where
  pub live : IsLive key x.live f
  pub local : AreAlike x.local (known_in f.volume.items)
  pub next : x.next ≡ f.volume.next_item
  pub sends_new : x.sends_new ≡ list_any is_new_entry f.volume.book.entries
