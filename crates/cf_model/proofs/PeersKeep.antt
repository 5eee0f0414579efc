-- What an event of a peer keeps: it asks the remote, uses a token up and notes a stray reply, and does nothing else.
use Rattle.std.specs.Prelude.{ℕ, Bool, true, List, [], Option, Some, None, ◌∷◌}
use Rattle.cf_base.specs.declared.answers.Shown.{Shown}
use Rattle.cf_base.specs.declared.answers.Shown.TheVariants as shown
use Rattle.cf_base.specs.declared.codes.Code.{Code}
use Rattle.cf_base.specs.declared.codes.Code.TheVariants as code
use Rattle.cf_base.specs.declared.events.PeerEvent.{PeerEvent}
use Rattle.cf_base.specs.declared.events.PeerEvent.TheVariants as peer
use Rattle.cf_base.specs.declared.ids.Rid.{Rid}
use Rattle.cf_base.specs.declared.ids.Token.{Token}
use Rattle.cf_base.specs.declared.messages.Entry.{Entry}
use Rattle.cf_base.specs.declared.messages.Reply.{Reply}
use Rattle.cf_base.specs.declared.messages.Reply.TheVariants as reply
use Rattle.cf_base.specs.declared.messages.Request.{Request}
use Rattle.cf_base.specs.declared.messages.Request.TheVariants as request
use Rattle.cf_model.specs.Arrows.{Arrow, noted, ret, seq}
use Rattle.cf_model.specs.LookUp.{bad_names, names_of}
use Rattle.cf_model.specs.Messages.{ask}
use Rattle.cf_model.specs.Numbers.{no_rid, no_version}
use Rattle.cf_model.specs.State.{State}
use Rattle.cf_model.specs.Words.{but_last, last_of}
use Rattle.cf_model.specs.Peers.{at_parent, at_path, at_place, below_root, code_of, failed, if_found, in_dir, is_fit, list_of, listing, look, make_at, move_at, named, on_answer, on_done, on_listing, peer_event, peer_token, put_at, put_over, refused, refused_by, remove_at, request_with, root_entry, send_request, stale, stat_at, unless_bad, with_entries, with_stray, with_token_used}
use Rattle.cf_model.proofs.ArrowLaws.{keeps_choose, keeps_noted, keeps_ret, keeps_seq, keeps_then}
use Rattle.cf_model.specs.Arrows.{Preserves}

module _ (P : State → Type 0) (asks : (q : Request) → Preserves P (ask q)) (used : (s : State) → P s → P (with_token_used s)) (strays : (r : Reply) (s : State) → P s → P (with_stray r s)) where
  failed_keeps : (x1 : Code) → Preserves P (failed x1)
  failed_keeps c = keeps_then P (noted with_token_used) (ret (shown.Refused c)) (keeps_noted P with_token_used used) (keeps_ret P (shown.Refused c))

  refused_keeps : (x1 : Code) → Preserves P (refused x1)
  refused_keeps c = keeps_ret P (shown.Refused c)

  stale_keeps : (x1 : Reply) → Preserves P (stale x1)
  stale_keeps r = keeps_then P (noted (with_stray r)) (failed code.Stale) (keeps_noted P (with_stray r) (strays r)) (failed_keeps code.Stale)

  with_entries_keeps : (x1 : (List Entry → Arrow State Shown)) → ((z0_0 : List Entry) → Preserves P (x1 z0_0)) → (x2 : Reply) → (x3 : Bool) → Preserves P (with_entries x1 x2 x3)
  with_entries_keeps f f_keeps (reply.Listing key es) true = f_keeps es
  with_entries_keeps f f_keeps r _ = stale_keeps r

  on_listing_keeps : (x1 : Rid) → (x2 : (List Entry → Arrow State Shown)) → ((z1_0 : List Entry) → Preserves P (x2 z1_0)) → (x3 : Option Reply) → Preserves P (on_listing x1 x2 x3)
  on_listing_keeps rid f f_keeps None = failed_keeps code.RemoteFault
  on_listing_keeps rid f f_keeps (Some r) = with_entries_keeps f f_keeps r (is_fit (list_of rid) r)

  listing_keeps : (x1 : Rid) → (x2 : (List Entry → Arrow State Shown)) → ((z1_0 : List Entry) → Preserves P (x2 z1_0)) → Preserves P (listing x1 x2)
  listing_keeps rid f f_keeps = keeps_seq P (ask (list_of rid)) (on_listing rid f) (asks (list_of rid)) (on_listing_keeps rid f f_keeps)

  if_found_keeps : (x1 : (Entry → Arrow State Shown)) → ((z0_0 : Entry) → Preserves P (x1 z0_0)) → (x2 : Option Entry) → Preserves P (if_found x1 x2)
  if_found_keeps f f_keeps None = refused_keeps code.NotFound
  if_found_keeps f f_keeps (Some e) = f_keeps e

  in_dir_keeps : (x1 : Entry) → (x2 : Arrow State Shown) → (Preserves P (x2)) → Preserves P (in_dir x1 x2)
  in_dir_keeps at f f_keeps = keeps_choose P at.dir f (refused code.NotDirectory) f_keeps (refused_keeps code.NotDirectory)

  look_keeps : (x1 : (Entry → Arrow State Shown)) → ((z0_0 : Entry) → Preserves P (x1 z0_0)) → (x2 : Entry) → (x3 : List (List ℕ)) → Preserves P (look x1 x2 x3)
  look_keeps f f_keeps at [] = f_keeps at
  look_keeps f f_keeps at (n ∷ ns) = in_dir_keeps at (listing at.rid (λ es. if_found (λ e. look f e ns) (named n es))) (listing_keeps at.rid (λ es. if_found (λ e. look f e ns) (named n es)) (λ es. (if_found_keeps (λ e. look f e ns) (λ e. (look_keeps f f_keeps e ns)) (named n es))))

  unless_bad_keeps : (x1 : Option Code) → (x2 : Arrow State Shown) → (Preserves P (x2)) → Preserves P (unless_bad x1 x2)
  unless_bad_keeps (Some c) f f_keeps = refused_keeps c
  unless_bad_keeps None f f_keeps = f_keeps

  at_path_keeps : (x1 : List (List ℕ)) → (x2 : (Entry → Arrow State Shown)) → ((z1_0 : Entry) → Preserves P (x2 z1_0)) → Preserves P (at_path x1 x2)
  at_path_keeps names f f_keeps = unless_bad_keeps (bad_names names) (look f root_entry names) (look_keeps f f_keeps root_entry names)

  below_root_keeps : (x1 : List (List ℕ)) → (x2 : (Entry → Arrow State Shown)) → ((z1_0 : Entry) → Preserves P (x2 z1_0)) → Preserves P (below_root x1 x2)
  below_root_keeps [] f f_keeps = refused_keeps code.BadPath
  below_root_keeps (n ∷ ns) f f_keeps = at_path_keeps (n ∷ ns) f f_keeps

  at_parent_keeps : (x1 : List (List ℕ)) → (x2 : (Entry → List ℕ → Arrow State Shown)) → ((z1_0 : Entry) → (z1_1 : List ℕ) → Preserves P (x2 z1_0 z1_1)) → Preserves P (at_parent x1 x2)
  at_parent_keeps [] f f_keeps = refused_keeps code.BadPath
  at_parent_keeps (n ∷ ns) f f_keeps = unless_bad_keeps (bad_names (n ∷ ns)) (look (λ d. in_dir d (f d (last_of n ns))) root_entry (but_last n ns)) (look_keeps (λ d. in_dir d (f d (last_of n ns))) (λ d. (in_dir_keeps d (f d (last_of n ns)) (f_keeps d (last_of n ns)))) root_entry (but_last n ns))

  at_place_keeps : (x1 : List (List ℕ)) → (x2 : (Entry → List ℕ → Option Entry → Arrow State Shown)) → ((z1_0 : Entry) → (z1_1 : List ℕ) → (z1_2 : Option Entry) → Preserves P (x2 z1_0 z1_1 z1_2)) → Preserves P (at_place x1 x2)
  at_place_keeps names f f_keeps = at_parent_keeps names (λ d name. listing d.rid (λ es. f d name (named name es))) (λ d name. (listing_keeps d.rid (λ es. f d name (named name es)) (λ es. (f_keeps d name (named name es)))))

  refused_by_keeps : (x1 : Reply) → (x2 : Option Code) → Preserves P (refused_by x1 x2)
  refused_by_keeps r (Some c) = refused_keeps c
  refused_by_keeps r None = keeps_then P (noted (with_stray r)) (refused code.Stale) (keeps_noted P (with_stray r) (strays r)) (refused_keeps code.Stale)

  on_done_keeps : (x1 : Reply) → (x2 : Bool) → Preserves P (on_done x1 x2)
  on_done_keeps (reply.Done token rid version) true = keeps_ret P (shown.Remote rid version)
  on_done_keeps (reply.Refused token w version) true = refused_by_keeps (reply.Refused token w version) (code_of w)
  on_done_keeps r _ = keeps_then P (noted (with_stray r)) (refused code.Stale) (keeps_noted P (with_stray r) (strays r)) (refused_keeps code.Stale)

  on_answer_keeps : (x1 : Request) → (x2 : Option Reply) → Preserves P (on_answer x1 x2)
  on_answer_keeps q None = refused_keeps code.RemoteFault
  on_answer_keeps q (Some r) = on_done_keeps r (is_fit q r)

  send_request_keeps : (x1 : Request) → Preserves P (send_request x1)
  send_request_keeps q = keeps_then P (noted with_token_used) (seq (ask q) (on_answer q)) (keeps_noted P with_token_used used) (keeps_seq P (ask q) (on_answer q) (asks q) (on_answer_keeps q))

  request_with_keeps : (x1 : (Token → Request)) → Preserves P (request_with x1)
  request_with_keeps q = record { keeps = λ s i_. ((send_request_keeps (q (peer_token s)))).keeps s i_ }

  put_over_keeps : (x1 : List ℕ) → (x2 : Entry) → Preserves P (put_over x1 x2)
  put_over_keeps bytes e = keeps_choose P e.dir (refused code.IsDirectory) (request_with (λ token. request.Put token e.rid e.version no_rid [] bytes)) (refused_keeps code.IsDirectory) (request_with_keeps (λ token. request.Put token e.rid e.version no_rid [] bytes))

  put_at_keeps : (x1 : List ℕ) → (x2 : Entry) → (x3 : List ℕ) → (x4 : Option Entry) → Preserves P (put_at x1 x2 x3 x4)
  put_at_keeps bytes d name None = request_with_keeps (λ token. request.Put token no_rid no_version d.rid name bytes)
  put_at_keeps bytes d name (Some e) = put_over_keeps bytes e

  make_at_keeps : (x1 : Entry) → (x2 : List ℕ) → (x3 : Option Entry) → Preserves P (make_at x1 x2 x3)
  make_at_keeps d name e = request_with_keeps (λ token. request.MakeDir token d.rid name)

  move_at_keeps : (x1 : Entry) → (x2 : Entry) → (x3 : List ℕ) → Preserves P (move_at x1 x2 x3)
  move_at_keeps e d name = request_with_keeps (λ token. request.Move token e.rid d.rid name)

  remove_at_keeps : (x1 : Entry) → Preserves P (remove_at x1)
  remove_at_keeps e = request_with_keeps (λ token. request.Remove token e.rid e.version)

  stat_at_keeps : (x1 : Entry) → Preserves P (stat_at x1)
  stat_at_keeps e = keeps_ret P (shown.Remote e.rid e.version)

  pub peer_event_keeps : (x1 : PeerEvent) → Preserves P (peer_event x1)
  peer_event_keeps (peer.Put path bytes) = at_place_keeps (names_of path) (put_at bytes) (put_at_keeps bytes)
  peer_event_keeps (peer.MakeDir path) = at_place_keeps (names_of path) make_at (make_at_keeps)
  peer_event_keeps (peer.Move from to) = below_root_keeps (names_of from) (λ e. at_parent (names_of to) (move_at e)) (λ e. (at_parent_keeps (names_of to) (move_at e) (move_at_keeps e)))
  peer_event_keeps (peer.Remove path) = below_root_keeps (names_of path) remove_at (remove_at_keeps)
  peer_event_keeps (peer.Stat path) = at_path_keeps (names_of path) stat_at (stat_at_keeps)
  peer_event_keeps (peer.Keep count) = request_with_keeps (λ token. request.Keep token count)
