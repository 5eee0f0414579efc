-- What is read to tell whether a reply is stale.
use Rattle.std.specs.Prelude.{◌==◌, ◌&&◌, ◌||◌, ℕ, Bool, true, false, not, cond, List, Option, Some, None, is_some, nat_le}
use Rattle.std.specs.List.{list_any}
use Rattle.cf_base.specs.declared.ids.Key.{Key}
use Rattle.cf_base.specs.declared.ids.Rid.{Rid}
use Rattle.cf_base.specs.declared.ids.Token.{Token}
use Rattle.cf_base.specs.declared.messages.Reply.{Reply}
use Rattle.cf_base.specs.declared.messages.Reply.TheVariants as reply
use Rattle.cf_base.specs.declared.messages.Request.{Request}
use Rattle.cf_base.specs.declared.messages.Request.TheVariants as request
use Rattle.cf_engine_provider.specs.Listings.{known_in}
use Rattle.cf_model.specs.Books.{entry_of}
use Rattle.cf_model.specs.Fits.{Known, fits, is_known}
use Rattle.cf_model.specs.Messages.{is_old}
use Rattle.cf_model.specs.Numbers.{no_rid}
use Rattle.cf_model.specs.PushReplies.{is_new_entry}
use Rattle.cf_model.specs.Requests.{live_of}
use Rattle.cf_model.specs.State.{Filter, State}
use Rattle.cf_model.specs.Words.{is_empty, part}

-- the upload that a request asks how it went
abbrev pub settled_token : Request → Option Token
settled_token (request.Settle token) = Some token
settled_token _ = None

-- the item of the remote that the upload is about, 0 for a new one
abbrev pub rid_under : Option Token → Filter → Rid
rid_under None s = no_rid
rid_under (Some token) s = part (λ e. e.rid) no_rid (entry_of s.volume.book token)

-- the reply fits the request, by the items and the uploads that are there
abbrev pub fits_in : Request → Reply → Filter → Bool
fits_in q r s = fits (known_in s.volume.items) (rid_under (settled_token q) s) q r

-- the same of an upload about this item
abbrev pub fits_with : Rid → Request → Reply → Filter → Bool
fits_with settled q r s = fits (known_in s.volume.items) settled q r

-- An upload is about a new item of the remote; and each request that is none.
abbrev pub is_new : Request → Rid → Bool
is_new (request.Put token rid expect parent name bytes) settled = rid.0 == 0
is_new (request.Move token rid parent name) settled = rid.0 == 0
is_new (request.Remove token rid expect) settled = rid.0 == 0
is_new (request.Settle token) settled = settled.0 == 0
is_new (request.Keep token count) settled = false
is_new _ settled = true

-- the reply has entries, which may be of items that are here
abbrev pub has_entries : Reply → Bool
has_entries (reply.Feed round clock es) = not (is_empty es)
has_entries (reply.Listing key es) = not (is_empty es)
has_entries _ = false

-- the item that an upload made anew
abbrev pub made_item : Request → Rid → Reply → Option Rid
made_item q settled (reply.Done token rid version) = cond (is_new q settled) (Some rid) None
made_item q settled _ = None

-- one of the known items is this one, if there is one
abbrev pub is_one_of : List Known → Option Rid → Bool
is_one_of ks None = false
is_one_of ks (Some rid) = is_known ks rid

-- a local item is this item of the remote, if there is one
abbrev pub is_here : Option Rid → Filter → Bool
is_here made s = is_one_of (known_in s.volume.items) made

-- no ask with the key is live
abbrev pub is_idle_in : Key → Filter → Bool
is_idle_in key s = not (is_some (live_of s.waiting.asks key))

-- that, or an item that is new to the remote is on its way there
abbrev pub is_unlisted_in : Key → Filter → Bool
is_unlisted_in key s = is_idle_in key s || list_any is_new_entry s.volume.book.entries

-- no upload has the token
abbrev pub is_ended_in : Token → Filter → Bool
is_ended_in token s = not (is_some (entry_of s.volume.book token))

-- a feed does not count any more, by the round that is the latest, whether its reply still counts, the cursor, and whether no upload
-- is on its way
abbrev pub is_feed_over : Key → Key → Bool → ℕ → ℕ → Bool → Bool
is_feed_over round latest counts cursor clock none = not ((round.epoch == latest.epoch) && (round.number == latest.number) && counts && nat_le cursor clock && none)

-- nothing waits for the reply any more
abbrev pub is_old_now : Reply → State → Bool
is_old_now r s = is_old s r
