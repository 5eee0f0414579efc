-- An event of another device is refused as RemoteFault exactly where one of its asks of the remote failed.
use Rattle.std.proofs.Common.{◌≡◌, ◌≤◌, ℕ, Bool, true, false, List, [], ◌∷◌, refl, sym, ap, subst, ◌∙◌, arith}
use Rattle.std.specs.Prelude.{Option, Some, None, cond, is_some, nat_lt, not, length}
use Rattle.std.specs.List.{list_all}
use Rattle.cf_base.specs.declared.answers.Shown.{Shown}
use Rattle.cf_base.specs.declared.answers.Shown.TheVariants as shown
use Rattle.cf_base.specs.declared.codes.Code.TheVariants as code
use Rattle.cf_base.specs.declared.events.PeerEvent.{PeerEvent}
use Rattle.cf_base.specs.declared.events.PeerEvent.TheVariants as peer
use Rattle.cf_base.specs.declared.ids.Rid.{Rid}
use Rattle.cf_base.specs.declared.ids.Token.{Token}
use Rattle.cf_base.specs.declared.limits.TheConstants.{MOST_PATH_NAMES}
use Rattle.cf_base.specs.declared.messages.Entry.{Entry}
use Rattle.cf_base.specs.declared.messages.Reply.{Reply}
use Rattle.cf_base.specs.declared.messages.Reply.TheVariants as reply
use Rattle.cf_base.specs.declared.messages.Request.{Request}
use Rattle.cf_base.specs.declared.messages.Request.TheVariants as request
use Rattle.cf_base.specs.declared.messages.Why.{Why}
use Rattle.cf_base.specs.declared.messages.Why.TheVariants as why
use Rattle.cf_filter_events.specs.Faulted.{meets_remote}
use Rattle.cf_link.proofs.FaultCounts.{failed_both, failed_none, failed_once, rose_none}
use Rattle.cf_link.specs.Faults.{AsksFailed, Once}
use Rattle.cf_model.specs.Arrows.{Arrow, choose, seq}
use Rattle.cf_model.specs.LookUp.{bad_names, names_of}
use Rattle.cf_model.specs.Messages.{after_ask, ask, counted, distrusted, with_remote}
use Rattle.cf_model.specs.Numbers.{no_rid, no_version}
use Rattle.cf_model.specs.Peers.{at_parent, at_path, at_place, below_root, code_of, if_found, in_dir, is_fit, list_of, listing, look, make_at, move_at, named, on_answer, on_done, on_listing, peer_event, peer_token, put_at, put_over, refused, refused_by, remove_at, request_with, root_entry, send_request, stat_at, unless_bad, with_entries, with_token_used}
use Rattle.cf_model.specs.State.{State}
use Rattle.cf_model.specs.Store.{Held, remote_step}
use Rattle.cf_model.specs.Texts.{is_name}
use Rattle.cf_model.specs.Trees as trees
use Rattle.cf_model.specs.Trees.{AsItKeeps, Ret, Telling, Tells, Tree, bind}
use Rattle.cf_model.specs.Words.{but_last, first_of, last_of}
use Rattle.cf_remote.specs.Peers.{IsTelling, Leads}
use Rattle.cf_remote.specs.Told.{Counts, Told}

-- whichever way through the tree is gone, one ask of it failed where the result is RemoteFault, and else none
abbrev Pays : Tree State Shown → Type 0
Pays p = (old new : Told) (b : Shown) (t : State) → Leads p old b t new → AsksFailed (cond (meets_remote b) 1 0) old new

-- so it is from each state
abbrev PaysAll : Arrow State Shown → Type 0
PaysAll f = (s : State) → Pays (f s)

after_none : (n : ℕ) (a b c : Told) → AsksFailed 0 a b → AsksFailed n b c → AsksFailed n a c
after_none n a b c h k = subst (λ (m : ℕ). AsksFailed m a c) (omega arith) (failed_both 0 n a b c h k)

replied : (old mid : Told) → Counts false old mid → old.faults ≤ mid.faults → is_some mid.held ≡ is_some old.held → AsksFailed 0 old mid
replied old mid counts least tells = failed_once false old mid (record { counts = counts; rose = rose_none old.faults mid.faults least; tells = tells })

tells_alike : (a b : Option Held) → a ≡ b → is_some a ≡ is_some b
tells_alike a b e = ap (λ (o : Option Held). is_some o) e

-- a result that is not RemoteFault
pays_ret : (a : Shown) (s : State) → meets_remote a ≡ false → Pays (Ret a s)
pays_ret a s plain old new b t h =
    let none : meets_remote b ≡ false = ap meets_remote h.0 ∙ plain in
    subst (λ (u : Told). AsksFailed (cond (meets_remote b) 1 0) old u) (sym h.2) (subst (λ (is : Bool). AsksFailed (cond is 1 0) old old) (sym none) (failed_none old))

pays_choose : (b : Bool) (f g : Arrow State Shown) → PaysAll f → PaysAll g → PaysAll (choose b f g)
pays_choose true f g h k = h
pays_choose false f g h k = k

-- where an ask fails that is the result, and after a reply the rest is as it is
module _ (k : Option Reply → Arrow State Shown) (fails : (s : State) → (u : State) × (k None s ≡ Ret (shown.Refused code.RemoteFault) u)) (rest : (r : Reply) → PaysAll (k (Some r))) where
  pays_fault : (s : State) (old mid new : Told) (b : Shown) (t : State) → Once true old mid → Leads (k None s) mid b t new → AsksFailed (cond (meets_remote b) 1 0) old new
  pays_fault s old mid new b t once leads =
      let e : (b ≡ shown.Refused code.RemoteFault) × (t ≡ (fails s).0) × (new ≡ mid) = subst (λ (p : Tree State Shown). Leads p mid b t new) (fails s).1 leads in
      subst (λ (u : Told). AsksFailed (cond (meets_remote b) 1 0) old u) (sym e.2) (subst (λ (is : Bool). AsksFailed (cond is 1 0) old mid) (sym (ap meets_remote e.0)) (failed_once true old mid once))

  pays_told : (r : Reply × Held) (s : State) (w : Telling) (old mid new : Told) (b : Shown) (t : State) → IsTelling w old mid → Leads (bind (after_ask r s w) k) mid b t new → AsksFailed (cond (meets_remote b) 1 0) old new
  pays_told r s AsItKeeps old mid new b t is leads = after_none (cond (meets_remote b) 1 0) old mid new (replied old mid is.0 is.1 is.2) (rest r.0 (with_remote r.1 (counted s)) mid new b t leads)
  pays_told r s trees.Faults old mid new b t is leads = pays_fault (counted s) old mid new b t (record { counts = is.0; rose = is.1; tells = tells_alike mid.held old.held is.2 }) leads
  pays_told r s (Tells other) old mid new b t is leads = after_none (cond (meets_remote b) 1 0) old mid new (replied old mid is.0 is.1 (tells_alike mid.held old.held (is.3 ∙ sym is.2))) (rest other (distrusted (with_remote r.1 (counted s))) mid new b t leads)

  pays_ask : (q : Request) → PaysAll (seq (ask q) k)
  pays_ask q s old new b t h = pays_told (remote_step s.link.remote q) s h.0 old h.1 new b t h.2 h.3

-- look-up

pays_entries : (f : List Entry → Arrow State Shown) → ((es : List Entry) → PaysAll (f es)) → (r : Reply) (b : Bool) → PaysAll (with_entries f r b)
pays_entries f each (reply.Listing key es) true = each es
pays_entries f each (reply.Listing key es) false = λ s. pays_ret (shown.Refused code.Stale) _ refl
pays_entries f each (reply.Feed round clock es) b = λ s. pays_ret (shown.Refused code.Stale) _ refl
pays_entries f each (reply.Bytes key start bytes) b = λ s. pays_ret (shown.Refused code.Stale) _ refl
pays_entries f each (reply.Missing key) b = λ s. pays_ret (shown.Refused code.Stale) _ refl
pays_entries f each (reply.Done token rid version) b = λ s. pays_ret (shown.Refused code.Stale) _ refl
pays_entries f each (reply.Void token) b = λ s. pays_ret (shown.Refused code.Stale) _ refl
pays_entries f each (reply.Refused token w version) b = λ s. pays_ret (shown.Refused code.Stale) _ refl
pays_entries f each (reply.Gone key) b = λ s. pays_ret (shown.Refused code.Stale) _ refl

pays_listing : (rid : Rid) (f : List Entry → Arrow State Shown) → ((es : List Entry) → PaysAll (f es)) → PaysAll (listing rid f)
pays_listing rid f each = pays_ask (on_listing rid f) (λ s. (with_token_used s, refl)) (λ r. pays_entries f each r (is_fit (list_of rid) r)) (list_of rid)

pays_in : (at : Entry) (f : Arrow State Shown) → PaysAll f → PaysAll (in_dir at f)
pays_in at f h = pays_choose at.dir f (refused code.NotDirectory) h (λ s. pays_ret (shown.Refused code.NotDirectory) s refl)

pays_found : (f : Entry → Arrow State Shown) → ((e : Entry) → PaysAll (f e)) → (o : Option Entry) → PaysAll (if_found f o)
pays_found f each None = λ s. pays_ret (shown.Refused code.NotFound) s refl
pays_found f each (Some e) = each e

pays_look : (f : Entry → Arrow State Shown) → ((e : Entry) → PaysAll (f e)) → (at : Entry) (names : List (List ℕ)) → PaysAll (look f at names)
pays_look f each at [] = each at
pays_look f each at (n ∷ ns) =
    pays_in at (listing at.rid (λ es. if_found (λ e. look f e ns) (named n es)))
    (pays_listing at.rid (λ es. if_found (λ e. look f e ns) (named n es)) (λ es. pays_found (λ e. look f e ns) (λ e. pays_look f each e ns) (named n es)))

pays_first : (deep bad : Bool) (f : Arrow State Shown) → PaysAll f → PaysAll (unless_bad (first_of ((deep, code.TooDeep) ∷ (bad, code.BadPath) ∷ [])) f)
pays_first true bad f h = λ s. pays_ret (shown.Refused code.TooDeep) s refl
pays_first false true f h = λ s. pays_ret (shown.Refused code.BadPath) s refl
pays_first false false f h = h

pays_names : (names : List (List ℕ)) (f : Arrow State Shown) → PaysAll f → PaysAll (unless_bad (bad_names names) f)
pays_names names f h = pays_first (nat_lt MOST_PATH_NAMES (length names)) (not (list_all is_name names)) f h

pays_path : (names : List (List ℕ)) (f : Entry → Arrow State Shown) → ((e : Entry) → PaysAll (f e)) → PaysAll (at_path names f)
pays_path names f each = pays_names names (look f root_entry names) (pays_look f each root_entry names)

pays_below : (names : List (List ℕ)) (f : Entry → Arrow State Shown) → ((e : Entry) → PaysAll (f e)) → PaysAll (below_root names f)
pays_below [] f each = λ s. pays_ret (shown.Refused code.BadPath) s refl
pays_below (n ∷ ns) f each = pays_path (n ∷ ns) f each

pays_parent : (names : List (List ℕ)) (f : Entry → List ℕ → Arrow State Shown) → ((d : Entry) (name : List ℕ) → PaysAll (f d name)) → PaysAll (at_parent names f)
pays_parent [] f each = λ s. pays_ret (shown.Refused code.BadPath) s refl
pays_parent (n ∷ ns) f each =
    pays_names (n ∷ ns) (look (λ d. in_dir d (f d (last_of n ns))) root_entry (but_last n ns))
    (pays_look (λ d. in_dir d (f d (last_of n ns))) (λ d. pays_in d (f d (last_of n ns)) (each d (last_of n ns))) root_entry (but_last n ns))

pays_place : (names : List (List ℕ)) (f : Entry → List ℕ → Option Entry → Arrow State Shown) → ((d : Entry) (name : List ℕ) (e : Option Entry) → PaysAll (f d name e)) → PaysAll (at_place names f)
pays_place names f each = pays_parent names (λ d name. listing d.rid (λ es. f d name (named name es))) (λ d name. pays_listing d.rid (λ es. f d name (named name es)) (λ es. each d name (named name es)))

-- the request

pays_why : (r : Reply) (w : Why) → PaysAll (refused_by r (code_of w))
pays_why r why.NameTaken s = pays_ret (shown.Refused code.Exists) s refl
pays_why r why.NotEmpty s = pays_ret (shown.Refused code.NotEmpty) s refl
pays_why r why.Loop s = pays_ret (shown.Refused code.IntoItself) s refl
pays_why r why.TooDeep s = pays_ret (shown.Refused code.TooDeep) s refl
pays_why r why.TooLarge s = pays_ret (shown.Refused code.TooLarge) s refl
pays_why r why.Quota s = pays_ret (shown.Refused code.Quota) s refl
pays_why r why.Conflict s = pays_ret (shown.Refused code.Stale) _ refl
pays_why r why.NotThere s = pays_ret (shown.Refused code.Stale) _ refl
pays_why r why.BadName s = pays_ret (shown.Refused code.Stale) _ refl

pays_done : (r : Reply) (b : Bool) → PaysAll (on_done r b)
pays_done (reply.Done token rid version) true = λ s. pays_ret (shown.Remote rid version) s refl
pays_done (reply.Done token rid version) false = λ s. pays_ret (shown.Refused code.Stale) _ refl
pays_done (reply.Refused token w version) true = pays_why (reply.Refused token w version) w
pays_done (reply.Refused token w version) false = λ s. pays_ret (shown.Refused code.Stale) _ refl
pays_done (reply.Listing key es) b = λ s. pays_ret (shown.Refused code.Stale) _ refl
pays_done (reply.Feed round clock es) b = λ s. pays_ret (shown.Refused code.Stale) _ refl
pays_done (reply.Bytes key start bytes) b = λ s. pays_ret (shown.Refused code.Stale) _ refl
pays_done (reply.Missing key) b = λ s. pays_ret (shown.Refused code.Stale) _ refl
pays_done (reply.Void token) b = λ s. pays_ret (shown.Refused code.Stale) _ refl
pays_done (reply.Gone key) b = λ s. pays_ret (shown.Refused code.Stale) _ refl

pays_send : (q : Request) → PaysAll (send_request q)
pays_send q s = pays_ask (on_answer q) (λ s. (s, refl)) (λ r. pays_done r (is_fit q r)) q (with_token_used s)

pays_request : (q : Token → Request) → PaysAll (request_with q)
pays_request q s = pays_send (q (peer_token s)) s

-- events

pays_over : (bytes : List ℕ) (e : Entry) → PaysAll (put_over bytes e)
pays_over bytes e =
    pays_choose e.dir (refused code.IsDirectory) (request_with (λ token. request.Put token e.rid e.version no_rid [] bytes)) (λ s. pays_ret (shown.Refused code.IsDirectory) s refl) (pays_request (λ token. request.Put token e.rid e.version no_rid [] bytes))

pays_put : (bytes : List ℕ) (d : Entry) (name : List ℕ) (e : Option Entry) → PaysAll (put_at bytes d name e)
pays_put bytes d name None = pays_request (λ token. request.Put token no_rid no_version d.rid name bytes)
pays_put bytes d name (Some e) = pays_over bytes e

pays_event : (e : PeerEvent) → PaysAll (peer_event e)
pays_event (peer.Put path bytes) = pays_place (names_of path) (put_at bytes) (pays_put bytes)
pays_event (peer.MakeDir path) = pays_place (names_of path) make_at (λ d name e. pays_request (λ token. request.MakeDir token d.rid name))
pays_event (peer.Move from to) = pays_below (names_of from) (λ e. at_parent (names_of to) (move_at e)) (λ e. pays_parent (names_of to) (move_at e) (λ d name. pays_request (λ token. request.Move token e.rid d.rid name)))
pays_event (peer.Remove path) = pays_below (names_of path) remove_at (λ e. pays_request (λ token. request.Remove token e.rid e.version))
pays_event (peer.Stat path) = pays_path (names_of path) stat_at (λ e s. pays_ret (shown.Remote e.rid e.version) s refl)
pays_event (peer.Keep count) = pays_request (λ token. request.Keep token count)

-- whatever the remote did in it
pub peer_pays : (e : PeerEvent) (s t : State) (old new : Told) (b : Shown) → Leads (peer_event e s) old b t new → AsksFailed (cond (meets_remote b) 1 0) old new
peer_pays e s t old new b h = pays_event e s old new b t h
