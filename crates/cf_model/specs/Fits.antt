-- Whether a reply fits the request that it answers. One that does not is Stale.
use Rattle.std.specs.Prelude.{ℕ, Bool, true, false, not, cond, List, [], length, nat_le, nat_lt, ◌&&◌, ◌||◌, ◌∷◌, ◌==◌}
use Rattle.std.specs.List.{list_all, list_any}
use Rattle.cf_base.specs.declared.ids.Rid.{Rid}
use Rattle.cf_base.specs.declared.ids.Token.{Token}
use Rattle.cf_base.specs.declared.limits.TheConstants.{MOST_FILE_BYTES}
use Rattle.cf_base.specs.declared.messages.Entry.{Entry}
use Rattle.cf_base.specs.declared.messages.Reply.{Reply}
use Rattle.cf_base.specs.declared.messages.Reply.TheVariants as reply
use Rattle.cf_base.specs.declared.messages.Request.{Request}
use Rattle.cf_base.specs.declared.messages.Request.TheVariants as request
use Rattle.cf_model.specs.Numbers.{same_key}
use Rattle.cf_model.specs.Texts.{is_name}
use Rattle.cf_model.specs.Words.{same}

-- what is known here of the remote's items: the kind of a local item whose target one is (none where there is no such
-- item), which the event of a peer does not look at
pub record Known : Type 0 where
  pub rid : Rid
  pub directory : Bool

abbrev pub is_known : List Known → Rid → Bool
is_known ks rid = list_any (λ k. k.rid.0 == rid.0) ks

abbrev pub same_flag : Bool → Bool → Bool
same_flag true b = b
same_flag false b = not b

-- no local item that the entry is known by is of another kind
abbrev pub is_of_kind : List Known → Entry → Bool
is_of_kind ks e = list_all (λ k. not (k.rid.0 == e.rid.0) || same_flag k.directory e.dir) ks

-- an entry that can be: it is not the root, nor its own parent; it has a name, and a file has a version and a size
abbrev pub is_entry : List Known → Entry → Bool
is_entry ks e =
    nat_lt 1 e.rid.0 && not (e.rid.0 == e.parent.0) && is_name e.name && is_of_kind ks e
    && cond e.dir ((e.version.0 == 0) && (e.len == 0)) (nat_le 1 e.version.0 && nat_le e.len MOST_FILE_BYTES)

abbrev pub has_rid : Rid → List Entry → Bool
has_rid rid es = list_any (λ e. e.rid.0 == rid.0) es

abbrev pub has_name : List ℕ → List Entry → Bool
has_name name es = list_any (λ e. same e.name name) es

abbrev pub are_distinct : List Entry → Bool
are_distinct [] = true
are_distinct (e ∷ es) = not (has_rid e.rid es) && are_distinct es

abbrev pub are_named_apart : List Entry → Bool
are_named_apart [] = true
are_named_apart (e ∷ es) = not (has_name e.name es) && are_named_apart es

abbrev pub are_entries : List Known → List Entry → Bool
are_entries ks es = list_all (is_entry ks) es && are_distinct es

-- the entries of one directory: live, children of it, and no name twice
abbrev pub is_listing : Rid → List Entry → Bool
is_listing rid es = list_all (λ e. e.live && (e.parent.0 == rid.0)) es && are_named_apart es

-- Done names the item of the request; of a new one, an item that is none of those known here
abbrev pub done_fits : List Known → Rid → Rid → Bool
done_fits ks asked told = cond (asked.0 == 0) (nat_lt 1 told.0 && not (is_known ks told)) (asked.0 == told.0)

-- the reply of a push about an item of the remote, 0 for a new one
abbrev pub push_fits : List Known → Token → Rid → Reply → Bool
push_fits ks token rid (reply.Done other told version) = same_key token.0 other.0 && done_fits ks rid told
push_fits ks token rid (reply.Void other) = same_key token.0 other.0
push_fits ks token rid (reply.Refused other w version) = same_key token.0 other.0
push_fits ks token rid _ = false

-- The reply is of a kind that is given for the request, has its round, key or token, and tells what can be told. Of a
-- Settle the item is the one of the entry that is settled.
abbrev pub fits : List Known → Rid → Request → Reply → Bool
fits ks settled (request.Feed round after) (reply.Feed other clock es) = same_key round.0 other.0 && are_entries ks es
fits ks settled (request.List key rid) (reply.Listing other es) = same_key key other && are_entries ks es && is_listing rid es
fits ks settled (request.List key rid) (reply.Missing other) = same_key key other
fits ks settled (request.Fetch key rid version start len) (reply.Bytes other at bytes) = same_key key other && (at == start) && (length bytes == len)
fits ks settled (request.Fetch key rid version start len) (reply.Missing other) = same_key key other
fits ks settled (request.Fetch key rid version start len) (reply.Gone other) = same_key key other
fits ks settled (request.Put token rid expect parent name bytes) r = push_fits ks token rid r
fits ks settled (request.MakeDir token parent name) r = push_fits ks token (record { 0 = 0 }) r
fits ks settled (request.Move token rid parent name) r = push_fits ks token rid r
fits ks settled (request.Remove token rid expect) r = push_fits ks token rid r
fits ks settled (request.Settle token) r = push_fits ks token settled r
fits ks settled (request.Keep token count) r = push_fits ks token (record { 0 = 1 }) r
fits ks settled q r = false
