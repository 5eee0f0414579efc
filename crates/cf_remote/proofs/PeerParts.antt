-- Parts of a peer event, one after the other.
use Rattle.std.proofs.Common.{◌≡◌, inl, inr, ℕ, ◌+◌, List, Bool, true, false, refl, sym, ap, ◌∙◌, subst}
use Rattle.std.specs.Prelude.{Option, Some, None, Result, Ok, Err, cond}
use Rattle.std.specs.Result.{IsErrAnd}
use Rattle.std.proofs.lemmas.Result.{err_from_is_err_and}
use Rattle.cf_base.specs.declared.answers.Shown.{Shown}
use Rattle.cf_base.specs.declared.answers.Shown.TheVariants as shown
use Rattle.cf_base.specs.declared.codes.Code.{Code}
use Rattle.cf_base.specs.declared.codes.Code.TheVariants as code
use Rattle.cf_base.specs.declared.ids.Key.{Key}
use Rattle.cf_base.specs.declared.ids.Rid.{Rid}
use Rattle.cf_base.specs.declared.ids.Token.{Token}
use Rattle.cf_base.specs.declared.messages.Entry.{Entry}
use Rattle.cf_base.specs.declared.messages.Reply.{Reply}
use Rattle.cf_base.specs.declared.messages.Reply.TheVariants as reply
use Rattle.cf_base.specs.declared.messages.Request.{Request}
use Rattle.cf_model.specs.Arrows.{Arrow, choose}
use Rattle.cf_model.specs.Peers.{if_found, in_dir, is_fit, list_of, listing, named, on_listing, refused, request_with, peer_token, send_request, stale, with_entries, with_stray, with_token_used}
use Rattle.cf_model.specs.State.{Running, State}
use Rattle.cf_remote.specs.Entries.{FindsEntry, found_in}
use Rattle.cf_remote.specs.LookUps.{Comes, finish}
use Rattle.cf_remote.specs.Peers.{Begins, Leads, Stands}
use Rattle.cf_remote.specs.Told.{Answers, Faults, Told}
use Rattle.cf_remote.specs.declared.find_errors.FindError.{FindError}
use Rattle.cf_remote.specs.declared.find_errors.FindError.TheVariants.{Fault, OutOfMemory, Stray}
use Rattle.cf_remote.specs.Stops.{stop_of}
use Rattle.cf_remote.specs.declared.stops.Plan.TheVariants as plan
use Rattle.cf_remote.specs.declared.stops.Stop.{Stop}
use Rattle.cf_remote.specs.declared.stops.Stop.TheVariants as stop
use Rattle.cf_remote.proofs.Asking.{after_fault, after_reply, begins_ask, begins_here, leads_ask}

-- a part that ends the event ends it whatever would follow
pub comes_ended : {A B : Type 0} (f : Arrow State Shown) (rest : A → Arrow State Shown) (more : B → Arrow State Shown) (next : ℕ) (s : State) (old : Told) (e : Stop) (new : Told)
    → Comes f rest next s old (Err e) new → Comes f more next s old (Err e) new
comes_ended f rest more next s old (stop.Refused c) new h = h
comes_ended f rest more next s old stop.Fault new h = h
comes_ended f rest more next s old (stop.Stray r) new h = h
comes_ended f rest more next s old stop.OutOfMemory new h = h

-- a part that is done, and then what follows
pub comes_on : {A B : Type 0} (f : Arrow State Shown) (rest : A → Arrow State Shown) (more : B → Arrow State Shown) (next : ℕ) (s : State) (old : Told) (a : A) (mid : Told) (r : Result B Stop) (new : Told)
    → Comes f rest next s old (Ok a) mid → ((t : State) → Stands next mid t → Comes (rest a) more next t mid r new) → Comes f more next s old r new
comes_on f rest more next s old a mid (Ok b) new h then' =
    let k = then' h.0 h.1 in (k.0, k.1, k.2 ∙ h.2, λ v u last l. h.3 v u last (k.3 v u last l), λ last l. h.4 last (k.4 last l))
comes_on f rest more next s old a mid (Err (stop.Refused c)) new h then' =
    let k = then' h.0 h.1 in (k.0, k.1, k.2 ∙ h.2, h.3 (shown.Refused c) k.0 new k.3)
comes_on f rest more next s old a mid (Err stop.Fault) new h then' =
    let k = then' h.0 h.1 in (k.0, k.1, k.2 ∙ h.2, h.3 (shown.Refused code.RemoteFault) k.0 new k.3)
comes_on f rest more next s old a mid (Err (stop.Stray r)) new h then' =
    let k = then' h.0 h.1 in (k.0, k.1, k.2 ∙ ap (λ (x : Running). record x { stray = Some r }) h.2, h.3 (shown.Refused code.Stale) k.0 new k.3)
comes_on f rest more next s old a mid (Err stop.OutOfMemory) new h then' = h.4 new (then' h.0 h.1)

-- the same, where what follows is known
pub comes_then : {B : Type 0} (f g : Arrow State Shown) (more : B → Arrow State Shown) (next : ℕ) (s : State) (old mid : Told) (r : Result B Stop) (new : Told)
    → Comes {A = Unit {0}} f (λ u. g) next s old (Ok (record {})) mid → ((t : State) → Stands next mid t → Comes g more next t mid r new) → Comes f more next s old r new
comes_then f g more next s old mid r new h then' = comes_on {A = Unit {0}} f (λ u. g) more next s old (record {}) mid r new h then'

pub comes_refused : {A : Type 0} (f : Arrow State Shown) (rest : A → Arrow State Shown) (next : ℕ) (s : State) (old : Told) (c : Code)
    → f ≡ refused c → Stands next old s → Comes f rest next s old (Err (stop.Refused c)) old
comes_refused f rest next s old c e st = (s, st, refl, subst (λ (g : Arrow State Shown). Leads (g s) old (shown.Refused c) s old) (sym e) (refl, refl, refl))

pub comes_done : {A : Type 0} (f : Arrow State Shown) (rest : A → Arrow State Shown) (next : ℕ) (s : State) (old : Told) (a : A)
    → f ≡ rest a → Stands next old s → Comes f rest next s old (Ok a) old
comes_done f rest next s old a e st =
    (s, st, refl, λ b u last l. subst (λ (g : Arrow State Shown). Leads (g s) old b u last) (sym e) l, λ last l. subst (λ (g : Arrow State Shown). Begins (g s) old last) (sym e) l)

-- memory runs out before any ask
pub comes_lost : {A : Type 0} (f : Arrow State Shown) (rest : A → Arrow State Shown) (next : ℕ) (s : State) (old : Told) → Comes f rest next s old (Err stop.OutOfMemory) old
comes_lost f rest next s old = begins_here (f s) old

pub comes_as : {A : Type 0} (f g : Arrow State Shown) (rest : A → Arrow State Shown) (next : ℕ) (s : State) (old : Told) (r : Result A Stop) (new : Told)
    → f ≡ g → Comes g rest next s old r new → Comes f rest next s old r new
comes_as f g rest next s old r new e h = subst (λ (x : Arrow State Shown). Comes x rest next s old r new) (sym e) h

-- the entries of a directory

module _ (f : List Entry → Arrow State Shown) (rid : Rid) (next : ℕ) (s : State) (old new : Told) (st : Stands next old s) where
  listed : (key : Key) (es : List Entry) → Answers (list_of rid) (reply.Listing key es) old new → is_fit (list_of rid) (reply.Listing key es) ≡ true
      → Comes (listing rid f) f next s old (Ok es) new
  listed key es a fit =
      let r = after_reply (list_of rid) (reply.Listing key es) next s old new st a in (
        r.state,
        r.stands,
        r.running,
        λ b u last l. leads_ask (list_of rid) (Some (reply.Listing key es)) next s old new (on_listing rid f) r b u last
            (subst (λ (ok : Bool). Leads (with_entries f (reply.Listing key es) ok r.state) new b u last) (sym fit) l),
        λ last l. begins_ask (list_of rid) (Some (reply.Listing key es)) next s old new (on_listing rid f) r last
            (subst (λ (ok : Bool). Begins (with_entries f (reply.Listing key es) ok r.state) new last) (sym fit) l),
      )

  strays : (r : Reply) → Answers (list_of rid) r old new → with_entries f r (is_fit (list_of rid) r) ≡ stale r → Comes (listing rid f) f next s old (Err (stop.Stray r)) new
  strays r a e =
      let after = after_reply (list_of rid) r next s old new st a in (
        with_token_used (with_stray r after.state),
        record { token = ap (λ (n : ℕ). n + 1) after.stands.token; held = after.stands.held; asks = after.stands.asks; honest = after.stands.honest },
        ap (λ (x : Running). record x { stray = Some r }) after.running,
        leads_ask (list_of rid) (Some r) next s old new (on_listing rid f) after (shown.Refused code.Stale) (with_token_used (with_stray r after.state)) new
            (subst (λ (g : Arrow State Shown). Leads (g after.state) new (shown.Refused code.Stale) (with_token_used (with_stray r after.state)) new) (sym e) (refl, refl, refl)),
      )

  unfit : (r : Reply) → with_entries f r false ≡ stale r
  unfit (reply.Feed round clock es) = refl
  unfit (reply.Listing key es) = refl
  unfit (reply.Bytes key start bytes) = refl
  unfit (reply.Missing key) = refl
  unfit (reply.Done token rid version) = refl
  unfit (reply.Void token) = refl
  unfit (reply.Refused token w version) = refl
  unfit (reply.Gone key) = refl

  pub listing_stray : (r : Reply) → Answers (list_of rid) r old new → is_fit (list_of rid) r ≡ false → Comes (listing rid f) f next s old (Err (stop.Stray r)) new
  listing_stray r a fit = strays r a (ap (with_entries f r) fit ∙ unfit r)

  pub listing_fails : Faults old new → Comes (listing rid f) f next s old (Err stop.Fault) new
  listing_fails h =
      let after = after_fault (list_of rid) next s old new st h in (
        with_token_used after.state,
        record { token = ap (λ (n : ℕ). n + 1) after.stands.token; held = after.stands.held; asks = after.stands.asks; honest = after.stands.honest },
        after.running,
        leads_ask (list_of rid) None next s old new (on_listing rid f) after (shown.Refused code.RemoteFault) (with_token_used after.state) new (refl, refl, refl),
      )

  -- memory runs out after the reply
  pub listing_lost : (r : Reply) → Answers (list_of rid) r old new → Comes (listing rid f) f next s old (Err stop.OutOfMemory) new
  listing_lost r a =
      let after = after_reply (list_of rid) r next s old new st a in
      begins_ask (list_of rid) (Some r) next s old new (on_listing rid f) after new (begins_here (on_listing rid f (Some r) after.state) new)

-- a reply that is no listing

abbrev pub is_listing : Reply → Bool
is_listing (reply.Listing key es) = true
is_listing r = false

pub none_listed : (r : Reply) → is_listing r ≡ false → (f : List Entry → Arrow State Shown) (fit : Bool) → with_entries f r fit ≡ stale r
none_listed (reply.Listing key es) h f fit = cc
none_listed (reply.Feed round clock es) h f true = refl
none_listed (reply.Feed round clock es) h f false = refl
none_listed (reply.Bytes key start bytes) h f true = refl
none_listed (reply.Bytes key start bytes) h f false = refl
none_listed (reply.Missing key) h f true = refl
none_listed (reply.Missing key) h f false = refl
none_listed (reply.Done token rid version) h f true = refl
none_listed (reply.Done token rid version) h f false = refl
none_listed (reply.Void token) h f true = refl
none_listed (reply.Void token) h f false = refl
none_listed (reply.Refused token w version) h f true = refl
none_listed (reply.Refused token w version) h f false = refl
none_listed (reply.Gone key) h f true = refl
none_listed (reply.Gone key) h f false = refl

-- one name in a directory

-- what a look-up is where it may end the event
abbrev pub stopped : Result (Option Entry) FindError → Result (Option Entry) Stop
stopped (Ok o) = Ok o
stopped (Err e) = Err (stop_of e)

abbrev pub child_part : Rid → List ℕ → (Option Entry → Arrow State Shown) → Arrow State Shown
child_part rid name f = listing rid (λ es. f (named name es))

module _ (f : Option Entry → Arrow State Shown) (rid : Rid) (name : List ℕ) (next : ℕ) (s : State) (old new : Told) (st : Stands next old s) where
  abbrev rest : List Entry → Arrow State Shown
  rest es = f (named name es)

  child_found : (o : Option Entry) (r : Reply) → Answers (list_of rid) r old new → Ok o ≡ found_in rid name r → Comes (child_part rid name f) f next s old (Ok o) new
  child_found o (reply.Listing key es) a h = by (is_fit (list_of rid) (reply.Listing key es)) refl h where
    by : (b : Bool) → is_fit (list_of rid) (reply.Listing key es) ≡ b → Ok o ≡ cond b (Ok (named name es)) (Err (Stray (reply.Listing key es))) → Comes (child_part rid name f) f next s old (Ok o) new
    by true fit e =
        let is : o ≡ named name es = cc in
        comes_on (listing rid rest) rest f next s old es new (Ok o) new (listed rest rid next s old new st key es a fit) (λ t u. comes_done (rest es) f next t new o (ap f (sym is)) u)
    by false fit e = cc
  child_found o (reply.Feed round clock es) a h = cc
  child_found o (reply.Bytes key start bytes) a h = cc
  child_found o (reply.Missing key) a h = cc
  child_found o (reply.Done token r version) a h = cc
  child_found o (reply.Void token) a h = cc
  child_found o (reply.Refused token w version) a h = cc
  child_found o (reply.Gone key) a h = cc

  stale_is : (r : Reply) → Err (Stray r) ≡ found_in rid name r → with_entries rest r (is_fit (list_of rid) r) ≡ stale r
  stale_is (reply.Listing key es) h = by (is_fit (list_of rid) (reply.Listing key es)) h where
    by : (b : Bool) → Err (Stray (reply.Listing key es)) ≡ cond b (Ok (named name es)) (Err (Stray (reply.Listing key es))) → with_entries rest (reply.Listing key es) b ≡ stale (reply.Listing key es)
    by true e = cc
    by false e = refl
  stale_is (reply.Feed round clock es) h = none_listed (reply.Feed round clock es) refl rest (is_fit (list_of rid) (reply.Feed round clock es))
  stale_is (reply.Bytes key start bytes) h = none_listed (reply.Bytes key start bytes) refl rest (is_fit (list_of rid) (reply.Bytes key start bytes))
  stale_is (reply.Missing key) h = none_listed (reply.Missing key) refl rest (is_fit (list_of rid) (reply.Missing key))
  stale_is (reply.Done token r version) h = none_listed (reply.Done token r version) refl rest (is_fit (list_of rid) (reply.Done token r version))
  stale_is (reply.Void token) h = none_listed (reply.Void token) refl rest (is_fit (list_of rid) (reply.Void token))
  stale_is (reply.Refused token w version) h = none_listed (reply.Refused token w version) refl rest (is_fit (list_of rid) (reply.Refused token w version))
  stale_is (reply.Gone key) h = none_listed (reply.Gone key) refl rest (is_fit (list_of rid) (reply.Gone key))

  pub child_comes : (result : Result (Option Entry) FindError) → FindsEntry rid name old result new → Comes (child_part rid name f) f next s old (stopped result) new
  child_comes (Ok o) h = child_found o h.0 h.1 h.2
  child_comes (Err (Stray r)) h = comes_ended (listing rid rest) rest f next s old (stop.Stray r) new (strays rest rid next s old new st r h.0 (stale_is r h.1))
  child_comes (Err Fault) h = comes_ended (listing rid rest) rest f next s old stop.Fault new (listing_fails rest rid next s old new st h)
  child_comes (Err OutOfMemory) (inl same) = subst (λ (t : Told). Begins (listing rid rest s) old t) (sym same) (begins_here (listing rid rest s) old)
  child_comes (Err OutOfMemory) (inr h) = listing_lost rest rid next s old new st h.0 h.1

-- the request under the next token

token_is : (token : Token) (next : ℕ) (s : State) (told : Told) → token.0 ≡ record { epoch = 0; number = next } → Stands next told s → token ≡ peer_token s
token_is token next s told e st = ap (λ (k : Key). record { 0 = k }) (e ∙ ap (λ (n : ℕ). record { epoch = 0; number = n }) st.token)

pub plan_sends : (q : Token → Request) (token : Token) (next : ℕ) (s : State) (told : Told) → token.0 ≡ record { epoch = 0; number = next } → Stands next told s
    → Comes (request_with q) finish next s told (Ok (plan.Send (q token))) told
plan_sends q token next s told e st =
    let same = token_is token next s told e st in
    (s, st, refl, λ b u last l. subst (λ (x : Token). Leads (send_request (q x) s) told b u last) same l, λ last l. subst (λ (x : Token). Begins (send_request (q x) s) told last) same l)

pub sends_as : (q : Token → Request) (r : Request) (token : Token) (next : ℕ) (s : State) (told : Told) → r ≡ q token → token.0 ≡ record { epoch = 0; number = next } → Stands next told s
    → Comes (request_with q) finish next s told (Ok (plan.Send r)) told
sends_as q r token next s told same e st = subst (λ (x : Request). Comes (request_with q) finish next s told (Ok (plan.Send x)) told) (sym same) (plan_sends q token next s told e st)

-- the exit of a `?`
pub with_stop : {A : Type 0} (P : Result A Stop → Type 0) (r : Result A Stop) (e : Stop) → IsErrAnd r (λ y. y ≡ e) → P (Err e) → P r
with_stop P r e is h = let p = err_from_is_err_and r is in subst P (sym (p.1 ∙ ap (λ (y : Stop). Err y) p.2)) h

pub ended_by : {A X : Type 0} (f : Arrow State Shown) (rest : A → Arrow State Shown) (more : X → Arrow State Shown) (next : ℕ) (s : State) (old : Told) (r : Result A Stop) (e : Stop) (new : Told)
    → IsErrAnd r (λ y. y ≡ e) → Comes {A = X} f more next s old (Err e) new → Comes {A = A} f rest next s old r new
ended_by {A} f rest more next s old r e new is h = with_stop (λ (x : Result A Stop). Comes {A = A} f rest next s old x new) r e is (comes_ended f more rest next s old e new h)

-- one step of the way
module _ (f : Entry → Arrow State Shown) (at : Entry) (name : List ℕ) where
  in_is : at.dir ≡ true → in_dir at (child_part at.rid name (if_found f)) ≡ child_part at.rid name (if_found f)
  in_is e = ap (λ (d : Bool). choose d (child_part at.rid name (if_found f)) (refused code.NotDirectory)) e

  pub step_ended : (next : ℕ) (s : State) (old : Told) (e : Stop) (new : Told) → at.dir ≡ true → Comes {A = Option Entry} (child_part at.rid name (if_found f)) (if_found f) next s old (Err e) new
      → Comes {A = Entry} (in_dir at (child_part at.rid name (if_found f))) f next s old (Err e) new
  step_ended next s old e new d h =
      comes_as (in_dir at (child_part at.rid name (if_found f))) (child_part at.rid name (if_found f)) f next s old (Err e) new (in_is d) (comes_ended (child_part at.rid name (if_found f)) (if_found f) f next s old e new h)

  pub step_missing : (next : ℕ) (s : State) (old : Told) (o : Option Entry) (new : Told) → at.dir ≡ true → o ≡ None → Comes {A = Option Entry} (child_part at.rid name (if_found f)) (if_found f) next s old (Ok o) new
      → Comes {A = Entry} (in_dir at (child_part at.rid name (if_found f))) f next s old (Err (stop.Refused code.NotFound)) new
  step_missing next s old o new d n h =
      comes_as (in_dir at (child_part at.rid name (if_found f))) (child_part at.rid name (if_found f)) f next s old (Err (stop.Refused code.NotFound)) new (in_is d)
      (comes_on (child_part at.rid name (if_found f)) (if_found f) f next s old o new (Err (stop.Refused code.NotFound)) new h
      (λ t st. comes_refused (if_found f o) f next t new code.NotFound (ap (if_found f) n) st))

  pub step_found : (next : ℕ) (s : State) (old : Told) (o : Option Entry) (e : Entry) (new : Told) → at.dir ≡ true → o ≡ Some e → Comes {A = Option Entry} (child_part at.rid name (if_found f)) (if_found f) next s old (Ok o) new
      → Comes {A = Entry} (in_dir at (child_part at.rid name (if_found f))) f next s old (Ok e) new
  step_found next s old o e new d n h =
      comes_as (in_dir at (child_part at.rid name (if_found f))) (child_part at.rid name (if_found f)) f next s old (Ok e) new (in_is d)
      (comes_on (child_part at.rid name (if_found f)) (if_found f) f next s old o new (Ok e) new h
      (λ t st. comes_done (if_found f o) f next t new e (ap (if_found f) n) st))
