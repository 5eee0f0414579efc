-- What another device does to the remote.
use Rattle.std.specs.Prelude.{ℕ, Bool, true, List, [], Option, Some, None, find, ◌+◌, ◌∷◌}
use Rattle.cf_base.specs.declared.answers.Shown.{Shown}
use Rattle.cf_base.specs.declared.answers.Shown.TheVariants as shown
use Rattle.cf_base.specs.declared.codes.Code.{Code}
use Rattle.cf_base.specs.declared.codes.Code.TheVariants as code
use Rattle.cf_base.specs.declared.events.PeerEvent.{PeerEvent}
use Rattle.cf_base.specs.declared.events.PeerEvent.TheVariants as peer
use Rattle.cf_base.specs.declared.ids.Rid.{Rid}
use Rattle.cf_base.specs.declared.ids.Token.{Token}
use Rattle.cf_base.specs.declared.messages.Entry.{Entry}
use Rattle.cf_base.specs.declared.messages.Reply.{Reply}
use Rattle.cf_base.specs.declared.messages.Reply.TheVariants as reply
use Rattle.cf_base.specs.declared.messages.Request.{Request}
use Rattle.cf_base.specs.declared.messages.Request.TheVariants as request
use Rattle.cf_base.specs.declared.messages.Why.{Why}
use Rattle.cf_base.specs.declared.messages.Why.TheVariants as why
use Rattle.cf_model.specs.Arrows.{Arrow, choose, noted, ret, seq, then_do}
use Rattle.cf_model.specs.Fits.{fits}
use Rattle.cf_model.specs.LookUp.{bad_names, names_of}
use Rattle.cf_model.specs.Messages.{ask}
use Rattle.cf_model.specs.Numbers.{key_after, no_key, no_rid, no_version, root_rid}
use Rattle.cf_model.specs.State.{State}
use Rattle.cf_model.specs.Words.{but_last, last_of, same}

-- Tokens of a peer are of epoch 0. A mutating request uses one up, and so does a remote that fails or whose reply is Stale.

abbrev pub peer_token : State → Token
peer_token s = record { 0 = key_after 0 s.peer_tokens }

abbrev pub with_token_used : State → State
with_token_used s = record s { peer_tokens = s.peer_tokens + 1 }

abbrev pub with_stray : Reply → State → State
with_stray r s = record s { running = record s.running { stray = Some r } }

abbrev pub failed : Code → Arrow State Shown
failed c = then_do (noted with_token_used) (ret (shown.Refused c))

abbrev pub refused : Code → Arrow State Shown
refused c = ret (shown.Refused c)

-- a reply that cannot be: the answer keeps it
abbrev pub stale : Reply → Arrow State Shown
stale r = then_do (noted (with_stray r)) (failed code.Stale)

-- whether a reply fits; nothing is known here of the remote's items
abbrev pub is_fit : Request → Reply → Bool
is_fit q r = fits [] no_rid q r

-- look-up

abbrev pub list_of : Rid → Request
list_of rid = request.List no_key rid

-- what is done with the entries of a directory
abbrev pub with_entries : (List Entry → Arrow State Shown) → Reply → Bool → Arrow State Shown
with_entries f (reply.Listing key es) true = f es
with_entries f r _ = stale r

abbrev pub on_listing : Rid → (List Entry → Arrow State Shown) → Option Reply → Arrow State Shown
on_listing rid f None = failed code.RemoteFault
on_listing rid f (Some r) = with_entries f r (is_fit (list_of rid) r)

-- the entries of a directory, by one request
abbrev pub listing : Rid → (List Entry → Arrow State Shown) → Arrow State Shown
listing rid f = seq (ask (list_of rid)) (on_listing rid f)

abbrev pub named : List ℕ → List Entry → Option Entry
named name es = find (λ e. same e.name name) es

abbrev pub root_entry : Entry
root_entry = record { rid = root_rid; parent = no_rid; name = []; dir = true; live = true; version = no_version; len = 0; changed = 0 }

abbrev pub if_found : (Entry → Arrow State Shown) → Option Entry → Arrow State Shown
if_found f None = refused code.NotFound
if_found f (Some e) = f e

abbrev pub in_dir : Entry → Arrow State Shown → Arrow State Shown
in_dir at f = choose at.dir f (refused code.NotDirectory)

-- from an entry on by these names, one request for each directory on the way; a file is never listed
abbrev pub look : (Entry → Arrow State Shown) → Entry → List (List ℕ) → Arrow State Shown
look f at [] = f at
look f at (n ∷ ns) = in_dir at (listing at.rid (λ es. if_found (λ e. look f e ns) (named n es)))

abbrev pub unless_bad : Option Code → Arrow State Shown → Arrow State Shown
unless_bad (Some c) f = refused c
unless_bad None f = f

-- what stands at a path
abbrev pub at_path : List (List ℕ) → (Entry → Arrow State Shown) → Arrow State Shown
at_path names f = unless_bad (bad_names names) (look f root_entry names)

-- the root is refused
abbrev pub below_root : List (List ℕ) → (Entry → Arrow State Shown) → Arrow State Shown
below_root [] f = refused code.BadPath
below_root (n ∷ ns) f = at_path (n ∷ ns) f

-- the directory of a path, which is not listed itself, and the last name
abbrev pub at_parent : List (List ℕ) → (Entry → List ℕ → Arrow State Shown) → Arrow State Shown
at_parent [] f = refused code.BadPath
at_parent (n ∷ ns) f = unless_bad (bad_names (n ∷ ns)) (look (λ d. in_dir d (f d (last_of n ns))) root_entry (but_last n ns))

-- the same, the directory listed too: what stands at the name
abbrev pub at_place : List (List ℕ) → (Entry → List ℕ → Option Entry → Arrow State Shown) → Arrow State Shown
at_place names f = at_parent names (λ d name. listing d.rid (λ es. f d name (named name es)))

-- the request

abbrev pub code_of : Why → Option Code
code_of why.NameTaken = Some code.Exists
code_of why.NotEmpty = Some code.NotEmpty
code_of why.Loop = Some code.IntoItself
code_of why.TooDeep = Some code.TooDeep
code_of why.TooLarge = Some code.TooLarge
code_of why.Quota = Some code.Quota
code_of why.Conflict = None
code_of why.NotThere = None
code_of why.BadName = None

abbrev pub refused_by : Reply → Option Code → Arrow State Shown
refused_by r (Some c) = refused c
refused_by r None = then_do (noted (with_stray r)) (refused code.Stale)

-- the token is used up already
abbrev pub on_done : Reply → Bool → Arrow State Shown
on_done (reply.Done token rid version) true = ret (shown.Remote rid version)
on_done (reply.Refused token w version) true = refused_by (reply.Refused token w version) (code_of w)
on_done r _ = then_do (noted (with_stray r)) (refused code.Stale)

abbrev pub on_answer : Request → Option Reply → Arrow State Shown
on_answer q None = refused code.RemoteFault
on_answer q (Some r) = on_done r (is_fit q r)

abbrev pub send_request : Request → Arrow State Shown
send_request q = then_do (noted with_token_used) (seq (ask q) (on_answer q))

-- under the next token
abbrev pub request_with : (Token → Request) → Arrow State Shown
request_with q s = send_request (q (peer_token s)) s

-- events

abbrev pub put_over : List ℕ → Entry → Arrow State Shown
put_over bytes e = choose e.dir (refused code.IsDirectory) (request_with (λ token. request.Put token e.rid e.version no_rid [] bytes))

abbrev pub put_at : List ℕ → Entry → List ℕ → Option Entry → Arrow State Shown
put_at bytes d name None = request_with (λ token. request.Put token no_rid no_version d.rid name bytes)
put_at bytes d name (Some e) = put_over bytes e

abbrev pub make_at : Entry → List ℕ → Option Entry → Arrow State Shown
make_at d name e = request_with (λ token. request.MakeDir token d.rid name)

abbrev pub move_at : Entry → Entry → List ℕ → Arrow State Shown
move_at e d name = request_with (λ token. request.Move token e.rid d.rid name)

abbrev pub remove_at : Entry → Arrow State Shown
remove_at e = request_with (λ token. request.Remove token e.rid e.version)

abbrev pub stat_at : Entry → Arrow State Shown
stat_at e = ret (shown.Remote e.rid e.version)

abbrev pub peer_event : PeerEvent → Arrow State Shown
peer_event (peer.Put path bytes) = at_place (names_of path) (put_at bytes)
peer_event (peer.MakeDir path) = at_place (names_of path) make_at
peer_event (peer.Move from to) = below_root (names_of from) (λ e. at_parent (names_of to) (move_at e))
peer_event (peer.Remove path) = below_root (names_of path) remove_at
peer_event (peer.Stat path) = at_path (names_of path) stat_at
peer_event (peer.Keep count) = request_with (λ token. request.Keep token count)
