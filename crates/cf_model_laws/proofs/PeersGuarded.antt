-- What the parts of `Peers` keep in `replay`, each by what its own parts keep.
use Rattle.std.specs.Prelude.{ℕ, Bool, true, List, [], Option, Some, None, ◌∷◌, ◌==◌}
use Rattle.cf_base.specs.declared.answers.Shown.{Shown}
use Rattle.cf_base.specs.declared.answers.Shown.TheVariants as shown
use Rattle.cf_base.specs.declared.codes.Code.{Code}
use Rattle.cf_base.specs.declared.codes.Code.TheVariants as code
use Rattle.cf_base.specs.declared.events.PeerEvent.{PeerEvent}
use Rattle.cf_base.specs.declared.events.PeerEvent.TheVariants as peer
use Rattle.cf_base.specs.declared.ids.Rid.{Rid}
use Rattle.cf_base.specs.declared.ids.Token.{Token}
use Rattle.cf_base.specs.declared.messages.Entry.{Entry}
use Rattle.cf_base.specs.declared.messages.Reply.{Reply}
use Rattle.cf_base.specs.declared.messages.Reply.TheVariants as reply
use Rattle.cf_base.specs.declared.messages.Request.{Request}
use Rattle.cf_base.specs.declared.messages.Request.TheVariants as request
use Rattle.cf_model.specs.Arrows.{Arrow, noted, ret, Preserves}
use Rattle.cf_model.specs.LookUp.{bad_names, names_of}
use Rattle.cf_model.specs.Messages.{ask}
use Rattle.cf_model.specs.Numbers.{no_rid, no_version, no_key, same_key}
use Rattle.cf_model.specs.State.{State}
use Rattle.cf_model.specs.Words.{but_last, last_of}
use Rattle.cf_model_laws.proofs.MessagesGuarded as messages_keep
use Rattle.cf_model.specs.Peers.{at_parent, at_path, at_place, below_root, code_of, failed, if_found, in_dir, is_fit, list_of, listing, look, make_at, move_at, named, on_answer, on_done, on_listing, peer_event, peer_token, put_at, put_over, refused, refused_by, remove_at, request_with, root_entry, stale, stat_at, unless_bad, with_entries, with_stray, with_token_used}
use Rattle.cf_model_laws.proofs.Guarded.{Guarded}
use Rattle.cf_model.proofs.ArrowLaws.{keeps_choose, keeps_noted, keeps_ret, keeps_seq, keeps_then}
use Rattle.std.proofs.Common.{◌≡◌, ◌<◌, ◌≤◌, ◌∙◌, refl, sym, inl, arith, Bool, true, false, ℕ, ◌∷◌}
use Rattle.std.proofs.lemmas.Bool.{eqb-true}
use Rattle.cf_base.specs.declared.ids.Key.{Key}
use Rattle.cf_base.specs.declared.ids.Version.{Version}
use Rattle.cf_model.proofs.TreeLaws.{keeps_bind}
use Rattle.cf_model_laws.proofs.RightItems.{no_way}
use Rattle.cf_model_laws.specs.GivenOnce.{WasGiven}
use Rattle.cf_model_laws.specs.Invariant.{Carries, IsSound}
use Rattle.cf_model_laws.proofs.RemoteSteps.{HasToken}
use Rattle.cf_model_laws.proofs.SoundSettles.{left_true}
use Rattle.cf_model_laws.proofs.EntriesAsked.{carries_asks}

pub failed_keeps : (P : State → Type 0) → Guarded P → (x1 : Code) → Preserves P (failed x1)
failed_keeps P closed c = keeps_then P (noted with_token_used) (ret (shown.Refused c)) (keeps_noted P with_token_used (closed.keeps_with_token_used)) (keeps_ret P (shown.Refused c))

pub refused_keeps : (P : State → Type 0) → Guarded P → (x1 : Code) → Preserves P (refused x1)
refused_keeps P closed c = keeps_ret P (shown.Refused c)

pub stale_keeps : (P : State → Type 0) → Guarded P → (x1 : Reply) → Preserves P (stale x1)
stale_keeps P closed r = keeps_then P (noted (with_stray r)) (failed code.Stale) (keeps_noted P (with_stray r) (closed.keeps_with_stray r)) (failed_keeps P closed code.Stale)

pub with_entries_keeps : (P : State → Type 0) → Guarded P → (x1 : (List Entry → Arrow State Shown)) → ((z0_0 : List Entry) → Preserves P (x1 z0_0)) → (x2 : Reply) → (x3 : Bool) → Preserves P (with_entries x1 x2 x3)
with_entries_keeps P closed f f_keeps (reply.Listing key es) true = f_keeps es
with_entries_keeps P closed f f_keeps r _ = stale_keeps P closed r

pub on_listing_keeps : (P : State → Type 0) → Guarded P → (x1 : Rid) → (x2 : (List Entry → Arrow State Shown)) → ((z1_0 : List Entry) → Preserves P (x2 z1_0)) → (x3 : Option Reply) → Preserves P (on_listing x1 x2 x3)
on_listing_keeps P closed rid f f_keeps None = failed_keeps P closed code.RemoteFault
on_listing_keeps P closed rid f f_keeps (Some r) = with_entries_keeps P closed f f_keeps r (is_fit (list_of rid) r)

pub listing_keeps : (P : State → Type 0) → Guarded P → (x1 : Rid) → (x2 : (List Entry → Arrow State Shown)) → ((z1_0 : List Entry) → Preserves P (x2 z1_0)) → Preserves P (listing x1 x2)
listing_keeps P closed rid f f_keeps = keeps_seq P (ask (list_of rid)) (on_listing rid f) (messages_keep.list_ask_keeps P closed no_key rid) (on_listing_keeps P closed rid f f_keeps)

pub if_found_keeps : (P : State → Type 0) → Guarded P → (x1 : (Entry → Arrow State Shown)) → ((z0_0 : Entry) → Preserves P (x1 z0_0)) → (x2 : Option Entry) → Preserves P (if_found x1 x2)
if_found_keeps P closed f f_keeps None = refused_keeps P closed code.NotFound
if_found_keeps P closed f f_keeps (Some e) = f_keeps e

pub in_dir_keeps : (P : State → Type 0) → Guarded P → (x1 : Entry) → (x2 : Arrow State Shown) → (Preserves P (x2)) → Preserves P (in_dir x1 x2)
in_dir_keeps P closed at f f_keeps = keeps_choose P at.dir f (refused code.NotDirectory) f_keeps (refused_keeps P closed code.NotDirectory)

pub look_keeps : (P : State → Type 0) → Guarded P → (x1 : (Entry → Arrow State Shown)) → ((z0_0 : Entry) → Preserves P (x1 z0_0)) → (x2 : Entry) → (x3 : List (List ℕ)) → Preserves P (look x1 x2 x3)
look_keeps P closed f f_keeps at [] = f_keeps at
look_keeps P closed f f_keeps at (n ∷ ns) = in_dir_keeps P closed at (listing at.rid (λ es. if_found (λ e. look f e ns) (named n es))) (listing_keeps P closed at.rid (λ es. if_found (λ e. look f e ns) (named n es)) (λ es. (if_found_keeps P closed (λ e. look f e ns) (λ e. (look_keeps P closed f f_keeps e ns)) (named n es))))

pub unless_bad_keeps : (P : State → Type 0) → Guarded P → (x1 : Option Code) → (x2 : Arrow State Shown) → (Preserves P (x2)) → Preserves P (unless_bad x1 x2)
unless_bad_keeps P closed (Some c) f f_keeps = refused_keeps P closed c
unless_bad_keeps P closed None f f_keeps = f_keeps

pub at_path_keeps : (P : State → Type 0) → Guarded P → (x1 : List (List ℕ)) → (x2 : (Entry → Arrow State Shown)) → ((z1_0 : Entry) → Preserves P (x2 z1_0)) → Preserves P (at_path x1 x2)
at_path_keeps P closed names f f_keeps = unless_bad_keeps P closed (bad_names names) (look f root_entry names) (look_keeps P closed f f_keeps root_entry names)

pub below_root_keeps : (P : State → Type 0) → Guarded P → (x1 : List (List ℕ)) → (x2 : (Entry → Arrow State Shown)) → ((z1_0 : Entry) → Preserves P (x2 z1_0)) → Preserves P (below_root x1 x2)
below_root_keeps P closed [] f f_keeps = refused_keeps P closed code.BadPath
below_root_keeps P closed (n ∷ ns) f f_keeps = at_path_keeps P closed (n ∷ ns) f f_keeps

pub at_parent_keeps : (P : State → Type 0) → Guarded P → (x1 : List (List ℕ)) → (x2 : (Entry → List ℕ → Arrow State Shown)) → ((z1_0 : Entry) → (z1_1 : List ℕ) → Preserves P (x2 z1_0 z1_1)) → Preserves P (at_parent x1 x2)
at_parent_keeps P closed [] f f_keeps = refused_keeps P closed code.BadPath
at_parent_keeps P closed (n ∷ ns) f f_keeps = unless_bad_keeps P closed (bad_names (n ∷ ns)) (look (λ d. in_dir d (f d (last_of n ns))) root_entry (but_last n ns)) (look_keeps P closed (λ d. in_dir d (f d (last_of n ns))) (λ d. (in_dir_keeps P closed d (f d (last_of n ns)) (f_keeps d (last_of n ns)))) root_entry (but_last n ns))

pub at_place_keeps : (P : State → Type 0) → Guarded P → (x1 : List (List ℕ)) → (x2 : (Entry → List ℕ → Option Entry → Arrow State Shown)) → ((z1_0 : Entry) → (z1_1 : List ℕ) → (z1_2 : Option Entry) → Preserves P (x2 z1_0 z1_1 z1_2)) → Preserves P (at_place x1 x2)
at_place_keeps P closed names f f_keeps = at_parent_keeps P closed names (λ d name. listing d.rid (λ es. f d name (named name es))) (λ d name. (listing_keeps P closed d.rid (λ es. f d name (named name es)) (λ es. (f_keeps d name (named name es)))))

pub refused_by_keeps : (P : State → Type 0) → Guarded P → (x1 : Reply) → (x2 : Option Code) → Preserves P (refused_by x1 x2)
refused_by_keeps P closed r (Some c) = refused_keeps P closed c
refused_by_keeps P closed r None = keeps_then P (noted (with_stray r)) (refused code.Stale) (keeps_noted P (with_stray r) (closed.keeps_with_stray r)) (refused_keeps P closed code.Stale)

pub on_done_keeps : (P : State → Type 0) → Guarded P → (x1 : Reply) → (x2 : Bool) → Preserves P (on_done x1 x2)
on_done_keeps P closed (reply.Done token rid version) true = keeps_ret P (shown.Remote rid version)
on_done_keeps P closed (reply.Refused token w version) true = refused_by_keeps P closed (reply.Refused token w version) (code_of w)
on_done_keeps P closed r _ = keeps_then P (noted (with_stray r)) (refused code.Stale) (keeps_noted P (with_stray r) (closed.keeps_with_stray r)) (refused_keeps P closed code.Stale)

pub on_answer_keeps : (P : State → Type 0) → Guarded P → (x1 : Request) → (x2 : Option Reply) → Preserves P (on_answer x1 x2)
on_answer_keeps P closed q None = refused_keeps P closed code.RemoteFault
on_answer_keeps P closed q (Some r) = on_done_keeps P closed r (is_fit q r)

-- a request under a token of a peer
abbrev IsPeers : (Token → Request) → Type 0
IsPeers q = (t : Token) (token : Token) (bytes : List ℕ) → same_key t.0 token.0 ≡ false → Carries token bytes (q t)

apart_epochs : (a b : Key) → a.epoch ≡ 0 → 1 ≤ b.epoch → same_key a b ≡ false
apart_epochs a b e h = by (same_key a b) refl where
  differ : (m n : ℕ) → m ≡ 0 → 1 ≤ n → m ≡ n → ⊥
  differ m n x y z = omega (arith, x, y, z)

  by : (c : Bool) → same_key a b ≡ c → c ≡ false
  by true q = absurd (differ a.epoch b.epoch e h (eqb-true a.epoch b.epoch (left_true (a.epoch == b.epoch) (a.number == b.number) q)))
  by false q = refl

lower : (n : ℕ) → 1 ≤ n → 0 < n
lower n h = omega (arith, h)

pub request_with_keeps : (P : State → Type 0) → Guarded P → (q : Token → Request) → IsPeers q → ((epoch tokens : ℕ) (t : Token) → t.0.epoch < epoch → HasToken (λ u. WasGiven epoch tokens u.0) (q t)) → Preserves P (request_with q)
request_with_keeps P closed q peers tokens = record {
  keeps = λ s h.
      keeps_bind P (ask (q (peer_token s)) (with_token_used s)) (on_answer (q (peer_token s)))
      (messages_keep.ask_at P closed (q (peer_token s)) (with_token_used s)
      (λ fair. let sound : IsSound s.link s.volatile.tokens s.filter = (closed.on_filter s h).sound s.filter h fair in
      record { token = tokens s.filter.volume.epoch s.volatile.tokens (peer_token s) (lower s.filter.volume.epoch sound.old); carries = λ token bytes own k. peers (peer_token s) token bytes (apart_epochs (peer_token s).0 token.0 refl own); asks = λ e own k. carries_asks e (q (peer_token s)) (λ bytes. peers (peer_token s) e.token bytes (apart_epochs (peer_token s).0 e.token.0 refl own)) })
      (closed.keeps_with_token_used s h))
      (λ o t j. (on_answer_keeps P closed (q (peer_token s)) o).keeps t j);
}

put_peers : (t token : Token) (rid : Rid) (expect : Version) (parent : Rid) (name bs bytes : List ℕ) → same_key t.0 token.0 ≡ false → Carries token bytes (request.Put t rid expect parent name bs)
put_peers t token rid expect parent name bs bytes e = λ k. no_way (sym e ∙ k)

pub put_over_keeps : (P : State → Type 0) → Guarded P → (x1 : List ℕ) → (x2 : Entry) → Preserves P (put_over x1 x2)
put_over_keeps P closed bytes e = keeps_choose P e.dir (refused code.IsDirectory) (request_with (λ token. request.Put token e.rid e.version no_rid [] bytes)) (refused_keeps P closed code.IsDirectory)
    (request_with_keeps P closed (λ token. request.Put token e.rid e.version no_rid [] bytes) (λ t token bs k. put_peers t token e.rid e.version no_rid [] bytes bs k) (λ epoch tokens t k. inl k))

pub put_at_keeps : (P : State → Type 0) → Guarded P → (x1 : List ℕ) → (x2 : Entry) → (x3 : List ℕ) → (x4 : Option Entry) → Preserves P (put_at x1 x2 x3 x4)
put_at_keeps P closed bytes d name None = request_with_keeps P closed (λ token. request.Put token no_rid no_version d.rid name bytes) (λ t token bs k. put_peers t token no_rid no_version d.rid name bytes bs k) (λ epoch tokens t k. inl k)
put_at_keeps P closed bytes d name (Some e) = put_over_keeps P closed bytes e

pub make_at_keeps : (P : State → Type 0) → Guarded P → (x1 : Entry) → (x2 : List ℕ) → (x3 : Option Entry) → Preserves P (make_at x1 x2 x3)
make_at_keeps P closed d name e = request_with_keeps P closed (λ token. request.MakeDir token d.rid name) (λ t token bs k. k) (λ epoch tokens t k. inl k)

pub move_at_keeps : (P : State → Type 0) → Guarded P → (x1 : Entry) → (x2 : Entry) → (x3 : List ℕ) → Preserves P (move_at x1 x2 x3)
move_at_keeps P closed e d name = request_with_keeps P closed (λ token. request.Move token e.rid d.rid name) (λ t token bs k. k) (λ epoch tokens t k. inl k)

pub remove_at_keeps : (P : State → Type 0) → Guarded P → (x1 : Entry) → Preserves P (remove_at x1)
remove_at_keeps P closed e = request_with_keeps P closed (λ token. request.Remove token e.rid e.version) (λ t token bs k. k) (λ epoch tokens t k. inl k)

pub stat_at_keeps : (P : State → Type 0) → Guarded P → (x1 : Entry) → Preserves P (stat_at x1)
stat_at_keeps P closed e = keeps_ret P (shown.Remote e.rid e.version)

pub peer_event_keeps : (P : State → Type 0) → Guarded P → (x1 : PeerEvent) → Preserves P (peer_event x1)
peer_event_keeps P closed (peer.Put path bytes) = at_place_keeps P closed (names_of path) (put_at bytes) (put_at_keeps P closed bytes)
peer_event_keeps P closed (peer.MakeDir path) = at_place_keeps P closed (names_of path) make_at (make_at_keeps P closed)
peer_event_keeps P closed (peer.Move from to) = below_root_keeps P closed (names_of from) (λ e. at_parent (names_of to) (move_at e)) (λ e. (at_parent_keeps P closed (names_of to) (move_at e) (move_at_keeps P closed e)))
peer_event_keeps P closed (peer.Remove path) = below_root_keeps P closed (names_of path) remove_at (remove_at_keeps P closed)
peer_event_keeps P closed (peer.Stat path) = at_path_keeps P closed (names_of path) stat_at (stat_at_keeps P closed)
peer_event_keeps P closed (peer.Keep count) = request_with_keeps P closed (λ token. request.Keep token count) (λ t token bs k. k) (λ epoch tokens t k. inl k)
