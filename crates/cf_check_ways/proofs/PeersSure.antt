-- The parts of an event of another device are sure, but for the remote's faults.
use Rattle.std.proofs.Common.{◌≡◌, ◌⊎◌, ℕ, Bool, true, false, List, [], ◌∷◌, refl, sym, ◌∙◌, ap, subst, inl, inr}
use Rattle.std.specs.Prelude.{Option, Some, None, length, nat_lt, not}
use Rattle.std.specs.List.{list_all}
use Rattle.cf_base.specs.declared.limits.TheConstants.{MOST_PATH_NAMES}
use Rattle.cf_base.specs.declared.answers.Shown.{Shown}
use Rattle.cf_base.specs.declared.answers.Shown.TheVariants as shown
use Rattle.cf_base.specs.declared.codes.Code.{Code}
use Rattle.cf_base.specs.declared.codes.Code.TheVariants as code
use Rattle.cf_base.specs.declared.events.PeerEvent.{PeerEvent}
use Rattle.cf_base.specs.declared.events.PeerEvent.TheVariants as peer
use Rattle.cf_base.specs.declared.ids.Rid.{Rid}
use Rattle.cf_base.specs.declared.ids.Token.{Token}
use Rattle.cf_base.specs.declared.messages.Entry.{Entry}
use Rattle.cf_base.specs.declared.messages.Reply.{Reply}
use Rattle.cf_base.specs.declared.messages.Reply.TheVariants as reply
use Rattle.cf_base.specs.declared.messages.Request.{Request}
use Rattle.cf_base.specs.declared.messages.Request.TheVariants as request
use Rattle.cf_base.specs.declared.messages.Why.{Why}
use Rattle.cf_base.specs.declared.messages.Why.TheVariants as why
use Rattle.cf_model.specs.Texts.{is_name}
use Rattle.cf_model.specs.Arrows.{Arrow, choose, noted, ret, seq, then_do}
use Rattle.cf_model.specs.LookUp.{names_of}
use Rattle.cf_model.specs.Messages.{after_ask, ask, counted, distrusted, with_remote}
use Rattle.cf_model.specs.Numbers.{no_rid, no_version}
use Rattle.cf_model.specs.State.{State}
use Rattle.cf_model.specs.Store.{remote_step}
use Rattle.cf_model.specs.Trees.{AsItKeeps, Ends, Faults, Telling, Tells, Tree}
use Rattle.cf_model.specs.Words.{but_last, first_of, last_of}
use Rattle.cf_model.specs.Peers.{at_parent, at_path, at_place, below_root, code_of, failed, if_found, in_dir, is_fit, list_of, listing, look, make_at, move_at, named, on_answer, on_done, on_listing, peer_event, peer_token, put_at, put_over, refused, refused_by, remove_at, request_with, root_entry, send_request, stale, stat_at, unless_bad, with_entries, with_stray, with_token_used}
use Rattle.cf_check_ways.specs.Ways.{Alike, Grown, IsSure, IsSureOfPeer, OneFailed, Parted, SameEnd, fixed_state, is_fault, is_good, is_of_peer, of_state}
use Rattle.cf_check_ways.proofs.MessagesSure.{quiet}
use Rattle.cf_check_ways.proofs.Sure.{grown_more, plain_quiet, sure_noted, sure_ret, sure_then}

the_fault : (a : Shown) → is_fault a ≡ true → a ≡ shown.Refused code.RemoteFault
the_fault (shown.Refused code.RemoteFault) h = refl
the_fault _ h = let z : false ≡ true = h in absurd cc

-- an answer that is not RemoteFault
abbrev IsOther : Shown → Type 0
IsOther a = (is_fault a ≡ false) × (is_of_peer a ≡ true)

-- a part that never has RemoteFault
peer_of_sure : (left : State → State) (f : Arrow State Shown) → IsSure of_state f → ((s : State) (a : Shown) (t : State) → Ends (f s) a t → IsOther a) → IsSureOfPeer left f
peer_of_sure left f sure never = record {
  grows = sure.grows;
  answers = λ s a t h. (never s a t h).1;
  fails = λ s a t h good is. let z : false ≡ true = sym (never s a t h).0 ∙ is in absurd cc;
  one = λ s o e a b t u h k good well. elim (sure.one s o e a b t u h k good well) as (λ _. SameEnd of_state a t b u ⊎ (Parted t.filter.notes u.filter.notes ⊎ OneFailed a b)) [ inl x ↦ inl x | inr x ↦ inr (inl x) ];
}

others : {a b : Shown} → a ≡ b → IsOther b → IsOther a
others e other = subst IsOther (sym e) other

peer_ret : (left : State → State) (a : Shown) → IsOther a → IsSureOfPeer left (ret a)
peer_ret left a other = peer_of_sure left (ret a) (sure_ret of_state a) (λ s b t h. subst IsOther (sym h.0) other)

peer_choose : (left : State → State) (b : Bool) (f g : Arrow State Shown) → IsSureOfPeer left f → IsSureOfPeer left g → IsSureOfPeer left (choose b f g)
peer_choose left true f g h k = h
peer_choose left false f g h k = k

peer_fixed : (left : State → State) (f : Arrow State Shown) (g : State → Arrow State Shown) → ((s : State) → f s ≡ g (fixed_state s) s) → ((x : State) → IsSureOfPeer left (g x)) → IsSureOfPeer left f
peer_fixed left f g is rest = record {
  grows = λ s a t h. (rest (fixed_state s)).grows s a t (subst (λ (p : Tree State Shown). Ends p a t) (is s) h);
  answers = λ s a t h. (rest (fixed_state s)).answers s a t (subst (λ (p : Tree State Shown). Ends p a t) (is s) h);
  fails = λ s a t h. (rest (fixed_state s)).fails s a t (subst (λ (p : Tree State Shown). Ends p a t) (is s) h);
  one = λ s o e a b t u h k good well.
      (rest (fixed_state s)).one s o e a b t u (subst (λ (p : Tree State Shown). Ends p a t) (is s) h)
      (subst (λ (x : State). Ends (g x o) b u) (sym e) (subst (λ (p : Tree State Shown). Ends p b u) (is o) k)) good well;
}

stray_sure : (r : Reply) (c : Code) → IsSure of_state (then_do (noted (with_stray r)) (refused c))
stray_sure r c = sure_then of_state (noted (with_stray r)) (refused c) (sure_noted of_state (with_stray r) (plain_quiet of_state (with_stray r) (λ s. refl) (λ s. refl) (λ s. refl) (λ s. refl) (λ s. refl) (λ s. refl))) (sure_ret of_state (shown.Refused c))

stale_sure : (r : Reply) → IsSureOfPeer with_token_used (stale r)
stale_sure r =
    peer_of_sure with_token_used (stale r)
    (sure_then of_state (noted (with_stray r)) (failed code.Stale) (sure_noted of_state (with_stray r) (plain_quiet of_state (with_stray r) (λ s. refl) (λ s. refl) (λ s. refl) (λ s. refl) (λ s. refl) (λ s. refl)))
    (sure_then of_state (noted with_token_used) (ret (shown.Refused code.Stale)) (sure_noted of_state with_token_used (plain_quiet of_state with_token_used (λ s. refl) (λ s. refl) (λ s. refl) (λ s. refl) (λ s. refl) (λ s. refl))) (sure_ret of_state (shown.Refused code.Stale))))
    (λ s a t h. others h.0 (refl, refl))

with_entries_sure : (f : List Entry → Arrow State Shown) → ((es : List Entry) → IsSureOfPeer with_token_used (f es)) → (r : Reply) (fit : Bool) → IsSureOfPeer with_token_used (with_entries f r fit)
with_entries_sure f f_sure (reply.Listing key es) true = f_sure es
with_entries_sure f f_sure r _ = stale_sure r

-- what follows an ask: the rest where it replied, else RemoteFault
abbrev Asked_at : (Option Reply → Arrow State Shown) → Request → State → Telling → Tree State Shown
Asked_at g q s x = seq (λ z. after_ask (remote_step z.link.remote q) z x) g s

abbrev after_reply : Request → State → State
after_reply q s = with_remote (remote_step s.link.remote q).1 (counted s)

peer_seq : (left : State → State) → ((s o : State) → Alike of_state s o → Alike of_state (left s) (left o)) → (q : Request) (g : Option Reply → Arrow State Shown) (used : State → State)
    → ((s : State) (a : Shown) (t : State) → Ends (g None s) a t → (a ≡ shown.Refused code.RemoteFault) × (t ≡ used s))
    → ((s : State) → Grown of_state s (used s))
    → ((s : State) → Alike of_state (used (counted s)) (left s))
    → ((r : Reply) → IsSureOfPeer left (g (Some r)))
    → ((s : State) (r : Reply) (a : Shown) (t : State) → Ends (g (Some r) (after_reply q s)) a t → is_good t ≡ true → is_fault a ≡ true → Alike of_state t (left s))
    → IsSureOfPeer left (seq (ask q) g)
peer_seq left moves q g used ends uses is_used rest fails_later = record {
  grows = λ s a t h. grows s a t h.0 h.1;
  answers = λ s a t h. answers s a t h.0 h.1;
  fails = λ s a t h good is. fails s a t h.0 h.1 good is;
  one = λ s o e a b t u h k good well. one s o e a b t u h.0 k.0 h.1 k.1 good well;
}
  where
    after_fault : (s : State) (a : Shown) (t : State) → Ends (g None (counted s)) a t → Alike of_state t (left s)
    after_fault s a t h = ap fixed_state (ends (counted s) a t h).1 ∙ is_used s

    no_other : (s : State) (r : Reply) (a : Shown) (t : State) → Ends (g (Some r) (distrusted (after_reply q s))) a t → is_good t ≡ true → ⊥
    no_other s r a t h good = let z : false ≡ true = ((rest r).grows (distrusted (after_reply q s)) a t h).good good in absurd cc

    grows : (s : State) (a : Shown) (t : State) (x : Telling) → Ends (Asked_at g q s x) a t → Grown of_state s t
    grows s a t AsItKeeps h = grown_more of_state s (after_reply q s) t (quiet s (after_reply q s) refl refl refl (λ z. z)) ((rest (remote_step s.link.remote q).0).grows (after_reply q s) a t h)
    grows s a t Faults h =
        grown_more of_state s (counted s) t (quiet s (counted s) refl refl refl (λ z. z)) (subst (λ (y : State). Grown of_state (counted s) y) (sym (ends (counted s) a t h).1) (uses (counted s)))
    grows s a t (Tells other) h =
        grown_more of_state s (distrusted (after_reply q s)) t (quiet s (distrusted (after_reply q s)) refl refl refl (λ y. let z : false ≡ true = y in absurd cc)) ((rest other).grows (distrusted (after_reply q s)) a t h)

    answers : (s : State) (a : Shown) (t : State) (x : Telling) → Ends (Asked_at g q s x) a t → is_of_peer a ≡ true
    answers s a t AsItKeeps h = (rest (remote_step s.link.remote q).0).answers (after_reply q s) a t h
    answers s a t Faults h = ap is_of_peer (ends (counted s) a t h).0
    answers s a t (Tells other) h = (rest other).answers (distrusted (after_reply q s)) a t h

    fails : (s : State) (a : Shown) (t : State) (x : Telling) → Ends (Asked_at g q s x) a t → is_good t ≡ true → is_fault a ≡ true → Alike of_state t (left s)
    fails s a t AsItKeeps h good is = fails_later s (remote_step s.link.remote q).0 a t h good is
    fails s a t Faults h good is = after_fault s a t h
    fails s a t (Tells other) h good is = absurd (no_other s other a t h good)

    -- the one failed here; the other failed later or not at all
    beside : (s o : State) → Alike of_state s o → (a b : Shown) (t u : State) → Ends (g None (counted s)) a t → Ends (g (Some (remote_step o.link.remote q).0) (after_reply q o)) b u → is_good u ≡ true
        → (fault : Bool) → is_fault b ≡ fault → SameEnd of_state a t b u ⊎ ((is_of_peer a ≡ true) × (is_of_peer b ≡ true) × (is_fault a ≡ true) × (is_fault b ≡ false))
    beside s o e a b t u h k well true is =
        inl ((ends (counted s) a t h).0 ∙ sym (the_fault b is), after_fault s a t h ∙ moves s o e ∙ sym (fails_later o (remote_step o.link.remote q).0 b u k well is))
    beside s o e a b t u h k well false is = inr (ap is_of_peer (ends (counted s) a t h).0, (rest (remote_step o.link.remote q).0).answers (after_reply q o) b u k, ap is_fault (ends (counted s) a t h).0, is)

    one : (s o : State) → Alike of_state s o → (a b : Shown) (t u : State) (x y : Telling) → Ends (Asked_at g q s x) a t → Ends (Asked_at g q o y) b u → is_good t ≡ true → is_good u ≡ true
        → SameEnd of_state a t b u ⊎ (Parted t.filter.notes u.filter.notes ⊎ OneFailed a b)
    one s o e a b t u (Tells other) y h k good well = absurd (no_other s other a t h good)
    one s o e a b t u x (Tells other) h k good well = absurd (no_other o other b u k well)
    one s o e a b t u AsItKeeps AsItKeeps h k good well =
        (rest (remote_step s.link.remote q).0).one (after_reply q s) (after_reply q o) (ap (λ (z : State). fixed_state (after_reply q z)) e) a b t u h
        (subst (λ (r : Reply). Ends (g (Some r) (after_reply q o)) b u) (sym (ap (λ (z : State). (remote_step z.link.remote q).0) e)) k) good well
    one s o e a b t u Faults Faults h k good well =
        let x = ends (counted s) a t h in
        let y = ends (counted o) b u k in
        inl (x.0 ∙ sym y.0, after_fault s a t h ∙ moves s o e ∙ sym (after_fault o b u k))
    one s o e a b t u Faults AsItKeeps h k good well =
        elim (beside s o e a b t u h k well (is_fault b) refl) as (λ _. SameEnd of_state a t b u ⊎ (Parted t.filter.notes u.filter.notes ⊎ OneFailed a b)) [ inl z ↦ inl z | inr z ↦ inr (inr (z.0, z.1, inl (z.2, z.3))) ]
    one s o e a b t u AsItKeeps Faults h k good well =
        elim (beside o s (sym e) b a u t k h good (is_fault a) refl) as (λ _. SameEnd of_state a t b u ⊎ (Parted t.filter.notes u.filter.notes ⊎ OneFailed a b)) [ inl z ↦ inl (sym z.0, sym z.1) | inr z ↦ inr (inr (z.1, z.0, inr (z.2, z.3))) ]

used_grows : (s : State) → Grown of_state s (with_token_used s)
used_grows s = quiet s (with_token_used s) refl refl refl (λ z. z)

-- a listing leaves the remote as it is
listing_sure : (rid : Rid) (f : List Entry → Arrow State Shown) → ((es : List Entry) → IsSureOfPeer with_token_used (f es)) → IsSureOfPeer with_token_used (listing rid f)
listing_sure rid f f_sure =
    peer_seq with_token_used (λ s o e. ap (λ (z : State). fixed_state (with_token_used z)) e) (list_of rid) (on_listing rid f) with_token_used (λ s a t h. h) used_grows (λ s. refl)
    (λ r. with_entries_sure f f_sure r (is_fit (list_of rid) r))
    (λ s r a t h good is. (with_entries_sure f f_sure r (is_fit (list_of rid) r)).fails (after_reply (list_of rid) s) a t h good is)

if_found_sure : (f : Entry → Arrow State Shown) → ((e : Entry) → IsSureOfPeer with_token_used (f e)) → (e : Option Entry) → IsSureOfPeer with_token_used (if_found f e)
if_found_sure f f_sure None = peer_ret with_token_used (shown.Refused code.NotFound) (refl, refl)
if_found_sure f f_sure (Some e) = f_sure e

in_dir_sure : (at : Entry) (f : Arrow State Shown) → IsSureOfPeer with_token_used f → IsSureOfPeer with_token_used (in_dir at f)
in_dir_sure at f f_sure = peer_choose with_token_used at.dir f (refused code.NotDirectory) f_sure (peer_ret with_token_used (shown.Refused code.NotDirectory) (refl, refl))

look_sure : (f : Entry → Arrow State Shown) → ((e : Entry) → IsSureOfPeer with_token_used (f e)) → (at : Entry) (names : List (List ℕ)) → IsSureOfPeer with_token_used (look f at names)
look_sure f f_sure at [] = f_sure at
look_sure f f_sure at (n ∷ ns) =
    in_dir_sure at (listing at.rid (λ es. if_found (λ e. look f e ns) (named n es)))
    (listing_sure at.rid (λ es. if_found (λ e. look f e ns) (named n es)) (λ es. if_found_sure (λ e. look f e ns) (λ e. look_sure f f_sure e ns) (named n es)))

-- why the names are no path
unless_bad_sure : (deep bad : Bool) (f : Arrow State Shown) → IsSureOfPeer with_token_used f → IsSureOfPeer with_token_used (unless_bad (first_of ((deep, code.TooDeep) ∷ (bad, code.BadPath) ∷ [])) f)
unless_bad_sure true bad f f_sure = peer_ret with_token_used (shown.Refused code.TooDeep) (refl, refl)
unless_bad_sure false true f f_sure = peer_ret with_token_used (shown.Refused code.BadPath) (refl, refl)
unless_bad_sure false false f f_sure = f_sure

at_path_sure : (names : List (List ℕ)) (f : Entry → Arrow State Shown) → ((e : Entry) → IsSureOfPeer with_token_used (f e)) → IsSureOfPeer with_token_used (at_path names f)
at_path_sure names f f_sure = unless_bad_sure (nat_lt MOST_PATH_NAMES (length names)) (not (list_all is_name names)) (look f root_entry names) (look_sure f f_sure root_entry names)

below_root_sure : (names : List (List ℕ)) (f : Entry → Arrow State Shown) → ((e : Entry) → IsSureOfPeer with_token_used (f e)) → IsSureOfPeer with_token_used (below_root names f)
below_root_sure [] f f_sure = peer_ret with_token_used (shown.Refused code.BadPath) (refl, refl)
below_root_sure (n ∷ ns) f f_sure = at_path_sure (n ∷ ns) f f_sure

at_parent_sure : (names : List (List ℕ)) (f : Entry → List ℕ → Arrow State Shown) → ((e : Entry) (name : List ℕ) → IsSureOfPeer with_token_used (f e name)) → IsSureOfPeer with_token_used (at_parent names f)
at_parent_sure [] f f_sure = peer_ret with_token_used (shown.Refused code.BadPath) (refl, refl)
at_parent_sure (n ∷ ns) f f_sure =
    unless_bad_sure (nat_lt MOST_PATH_NAMES (length (n ∷ ns))) (not (list_all is_name (n ∷ ns))) (look (λ d. in_dir d (f d (last_of n ns))) root_entry (but_last n ns))
    (look_sure (λ d. in_dir d (f d (last_of n ns))) (λ d. in_dir_sure d (f d (last_of n ns)) (f_sure d (last_of n ns))) root_entry (but_last n ns))

at_place_sure : (names : List (List ℕ)) (f : Entry → List ℕ → Option Entry → Arrow State Shown) → ((d : Entry) (name : List ℕ) (e : Option Entry) → IsSureOfPeer with_token_used (f d name e)) → IsSureOfPeer with_token_used (at_place names f)
at_place_sure names f f_sure =
    at_parent_sure names (λ d name. listing d.rid (λ es. f d name (named name es))) (λ d name. listing_sure d.rid (λ es. f d name (named name es)) (λ es. f_sure d name (named name es)))

-- requests

never_refused : (r : Reply) (w : Why) (s : State) (a : Shown) (t : State) → Ends (refused_by r (code_of w) s) a t → IsOther a
never_refused r why.NameTaken s a t h = others h.0 (refl, refl)
never_refused r why.NotEmpty s a t h = others h.0 (refl, refl)
never_refused r why.Loop s a t h = others h.0 (refl, refl)
never_refused r why.TooDeep s a t h = others h.0 (refl, refl)
never_refused r why.TooLarge s a t h = others h.0 (refl, refl)
never_refused r why.Quota s a t h = others h.0 (refl, refl)
never_refused r why.Conflict s a t h = others h.0 (refl, refl)
never_refused r why.NotThere s a t h = others h.0 (refl, refl)
never_refused r why.BadName s a t h = others h.0 (refl, refl)

refused_by_sure : (r : Reply) (c : Option Code) → IsSure of_state (refused_by r c)
refused_by_sure r (Some c) = sure_ret of_state (shown.Refused c)
refused_by_sure r None = stray_sure r code.Stale

on_done_sure : (r : Reply) (fit : Bool) → IsSure of_state (on_done r fit)
on_done_sure (reply.Done token rid version) true = sure_ret of_state (shown.Remote rid version)
on_done_sure (reply.Refused token w version) true = refused_by_sure (reply.Refused token w version) (code_of w)
on_done_sure r _ = stray_sure r code.Stale

never_done : (r : Reply) (fit : Bool) (s : State) (a : Shown) (t : State) → Ends (on_done r fit s) a t → IsOther a
never_done (reply.Done token rid version) true s a t h = others h.0 (refl, refl)
never_done (reply.Refused token w version) true s a t h = never_refused (reply.Refused token w version) w s a t h
never_done r _ s a t h = others h.0 (refl, refl)

answer_sure : (q : Request) → IsSureOfPeer (λ s. s) (seq (ask q) (on_answer q))
answer_sure q =
    peer_seq (λ s. s) (λ s o e. e) q (on_answer q) (λ s. s) (λ s a t h. h) (λ s. quiet s s refl refl refl (λ z. z)) (λ s. refl)
    (λ r. peer_of_sure (λ s. s) (on_done r (is_fit q r)) (on_done_sure r (is_fit q r)) (never_done r (is_fit q r)))
    (λ s r a t h good is. let z : false ≡ true = sym (never_done r (is_fit q r) (after_reply q s) a t h).0 ∙ is in absurd cc)

send_request_sure : (q : Request) → IsSureOfPeer with_token_used (send_request q)
send_request_sure q = record {
  grows = λ s a t h. grown_more of_state s (with_token_used s) t (used_grows s) ((answer_sure q).grows (with_token_used s) a t h);
  answers = λ s a t h. (answer_sure q).answers (with_token_used s) a t h;
  fails = λ s a t h good is. (answer_sure q).fails (with_token_used s) a t h good is;
  one = λ s o e a b t u h k good well. (answer_sure q).one (with_token_used s) (with_token_used o) (ap (λ (z : State). fixed_state (with_token_used z)) e) a b t u h k good well;
}

request_with_sure : (q : Token → Request) → IsSureOfPeer with_token_used (request_with q)
request_with_sure q = peer_fixed with_token_used (request_with q) (λ x. send_request (q (peer_token x))) (λ s. refl) (λ x. send_request_sure (q (peer_token x)))

-- events

put_over_sure : (bytes : List ℕ) (e : Entry) → IsSureOfPeer with_token_used (put_over bytes e)
put_over_sure bytes e =
    peer_choose with_token_used e.dir (refused code.IsDirectory) (request_with (λ token. request.Put token e.rid e.version no_rid [] bytes)) (peer_ret with_token_used (shown.Refused code.IsDirectory) (refl, refl))
    (request_with_sure (λ token. request.Put token e.rid e.version no_rid [] bytes))

put_at_sure : (bytes : List ℕ) (d : Entry) (name : List ℕ) (e : Option Entry) → IsSureOfPeer with_token_used (put_at bytes d name e)
put_at_sure bytes d name None = request_with_sure (λ token. request.Put token no_rid no_version d.rid name bytes)
put_at_sure bytes d name (Some e) = put_over_sure bytes e

pub peer_event_sure : (e : PeerEvent) → IsSureOfPeer with_token_used (peer_event e)
peer_event_sure (peer.Put path bytes) = at_place_sure (names_of path) (put_at bytes) (put_at_sure bytes)
peer_event_sure (peer.MakeDir path) = at_place_sure (names_of path) make_at (λ d name e. request_with_sure (λ token. request.MakeDir token d.rid name))
peer_event_sure (peer.Move from to) = below_root_sure (names_of from) (λ e. at_parent (names_of to) (move_at e)) (λ e. at_parent_sure (names_of to) (move_at e) (λ d name. request_with_sure (λ token. request.Move token e.rid d.rid name)))
peer_event_sure (peer.Remove path) = below_root_sure (names_of path) remove_at (λ e. request_with_sure (λ token. request.Remove token e.rid e.version))
peer_event_sure (peer.Stat path) = at_path_sure (names_of path) stat_at (λ e. peer_ret with_token_used (shown.Remote e.rid e.version) (refl, refl))
peer_event_sure (peer.Keep count) = request_with_sure (λ token. request.Keep token count)
