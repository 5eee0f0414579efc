-- What a peer event is answered.
use Rattle.std.proofs.Common.{◌≡◌, inl, ℕ, ◌+◌, Bool, true, false, refl, sym, ap, ◌∙◌, subst, arith}
use Rattle.std.specs.Prelude.{IfOk, Option, Some, None, Result, Ok, Err, is_some, option_map}
use Rattle.cf_base.specs.declared.answers.Answer.{Answer}
use Rattle.cf_base.specs.declared.answers.Shown.{Shown}
use Rattle.cf_base.specs.declared.answers.Shown.TheVariants as shown
use Rattle.cf_base.specs.declared.codes.Code.{Code}
use Rattle.cf_base.specs.declared.codes.Code.TheVariants as code
use Rattle.cf_base.specs.declared.ids.Rid.{Rid}
use Rattle.cf_base.specs.declared.ids.Version.{Version}
use Rattle.cf_base.specs.declared.memory.OutOfMemory.{OutOfMemory}
use Rattle.cf_base.specs.declared.messages.Reply.{Reply}
use Rattle.cf_base.specs.declared.messages.Reply.TheVariants as reply
use Rattle.cf_base.specs.declared.messages.Request.{Request}
use Rattle.cf_model.specs.Arrows.{Arrow}
use Rattle.cf_model.specs.Peers.{code_of, is_fit, on_answer, on_done, refused_by, send_request, with_stray, with_token_used}
use Rattle.cf_model.specs.State.{Link, Running, State}
use Rattle.cf_model.specs.Trees.{Ret, Tree}
use Rattle.cf_remote.specs.LookUps.{Comes, EndsBy, IsFailed, Shows, answered, finish, verdict}
use Rattle.cf_remote.specs.Peers.{Does, IsCount, IsHeld, Leads, Stands}
use Rattle.cf_remote.specs.Told.{Answers, Asks, Told}
use Rattle.cf_remote.specs.declared.ask_errors.AskError.{AskError}
use Rattle.cf_remote.specs.declared.ask_errors.AskError.TheVariants as ask
use Rattle.cf_remote.specs.declared.stops.Plan.{Plan}
use Rattle.cf_remote.specs.declared.stops.Plan.TheVariants as plan
use Rattle.cf_remote.specs.declared.stops.Stop.{Stop}
use Rattle.cf_remote.specs.declared.stops.Stop.TheVariants as stop
use Rattle.cf_remote.proofs.Asking.{after_fault, after_reply, begins_ask, begins_here, leads_ask}

-- an answer as it was made

shown_is : (a : Answer) (b : Shown) (r : Option Reply) → a ≡ answered b r → b ≡ a.shown
shown_is a b r e = ap (λ (x : Answer). x.shown) (sym e)

whole : (a : Answer) (b : Shown) (r stray : Option Reply) → a ≡ answered b r → stray ≡ r → a ≡ answered a.shown stray
whole a b r stray e f = e ∙ (λ i. answered (shown_is a b r e i) (sym f i))

ends : (f : Arrow State Shown) (s : State) (old : Told) (a : Answer) (b : Shown) (r : Option Reply) (t : State) (next after : ℕ) (new : Told) → a ≡ answered b r → after ≡ next → Leads (f s) old b t new → Stands next new t → t.running.stray ≡ r
    → (u : State) × Leads (f s) old a.shown u new × Stands after new u × (a ≡ answered a.shown u.running.stray)
ends f s old a b r t next after new e n leads stands stray =
    (t, subst (λ (x : Shown). Leads (f s) old x t new) (shown_is a b r e) leads, subst (λ (k : ℕ). Stands k new t) (sym n) stands, whole a b r t.running.stray e stray)

-- an event that ended in a look-up
pub ended_does : {A : Type 0} (f : Arrow State Shown) (rest : A → Arrow State Shown) (next : ℕ) (old : Told) (e : Stop) (result : Result Answer OutOfMemory) (after : ℕ) (new : Told)
    → ((s : State) → Stands next old s → Comes f rest next s old (Err e) new) → EndsBy e next result after → Does f next old result after new
ended_does f rest next old (stop.Refused c) (Err m) after new h k = absurd k
ended_does f rest next old stop.Fault (Err m) after new h k = absurd k
ended_does f rest next old (stop.Stray r) (Err m) after new h k = absurd k
ended_does f rest next old stop.OutOfMemory (Err m) after new h k = (omega (arith, k), omega (arith, k), h)
ended_does f rest next old (stop.Refused c) (Ok a) after new h k = λ s none st.
    let t = h s st in ends f s old a (shown.Refused c) None t.0 next after new k.0 k.1 t.3 t.1 (ap (λ (x : Running). x.stray) t.2 ∙ none)
ended_does f rest next old stop.Fault (Ok a) after new h k = λ s none st.
    let t = h s st in ends f s old a (shown.Refused code.RemoteFault) None t.0 (next + 1) after new k.0 k.1 t.3 t.1 (ap (λ (x : Running). x.stray) t.2 ∙ none)
ended_does f rest next old (stop.Stray r) (Ok a) after new h k = λ s none st.
    let t = h s st in ends f s old a (shown.Refused code.Stale) (Some r) t.0 (next + 1) after new k.0 k.1 t.3 t.1 (ap (λ (x : Running). x.stray) t.2)
ended_does f rest next old stop.OutOfMemory (Ok a) after new h k = absurd k

-- an event whose rest is done
pub planned_does : (f : Arrow State Shown) (next : ℕ) (old : Told) (p : Plan) (mid : Told) (result : Result Answer OutOfMemory) (after : ℕ) (new : Told)
    → ((s : State) → Stands next old s → Comes f finish next s old (Ok p) mid) → Does (finish p) next mid result after new → Does f next old result after new
planned_does f next old p mid (Err m) after new h k = (k.0, k.1, λ s st. let t = h s st in t.4 new (k.2 t.0 t.1))
planned_does f next old p mid (Ok a) after new h k = λ s none st.
    let t = h s st in
    let u = k t.0 (ap (λ (x : Running). x.stray) t.2 ∙ none) t.1 in
    (u.0, t.3 a.shown u.0 new u.1, u.2, u.3)

-- by the reply

by_code : (r : Reply) (t : State) (o : Option Code) (b : Shown) → option_map shown.Refused o ≡ Some b → refused_by r o t ≡ Ret b t
by_code r t (Some c) b e = let same : shown.Refused c ≡ b = cc in ap {B = Tree State Shown} (λ (x : Shown). Ret x t) same
by_code r t None b e = cc

stale_code : (r : Reply) (t : State) (o : Option Code) → option_map shown.Refused o ≡ None → refused_by r o t ≡ Ret (shown.Refused code.Stale) (with_stray r t)
stale_code r t (Some c) e = cc
stale_code r t None e = refl

known : (r : Reply) (fit : Bool) (b : Shown) (t : State) → verdict r fit ≡ Some b → on_done r fit t ≡ Ret b t
known r false b t e = cc
known (reply.Done token rid version) true b t e = let same : shown.Remote rid version ≡ b = cc in ap {B = Tree State Shown} (λ (x : Shown). Ret x t) same
known (reply.Refused token w version) true b t e = by_code (reply.Refused token w version) t (code_of w) b e
known (reply.Feed round clock es) true b t e = cc
known (reply.Listing key es) true b t e = cc
known (reply.Bytes key start bytes) true b t e = cc
known (reply.Missing key) true b t e = cc
known (reply.Void token) true b t e = cc
known (reply.Gone key) true b t e = cc

stray : (r : Reply) (fit : Bool) (t : State) → verdict r fit ≡ None → on_done r fit t ≡ Ret (shown.Refused code.Stale) (with_stray r t)
stray (reply.Done token rid version) true t e = cc
stray (reply.Refused token w version) true t e = stale_code (reply.Refused token w version) t (code_of w) e
stray (reply.Feed round clock es) true t e = refl
stray (reply.Listing key es) true t e = refl
stray (reply.Bytes key start bytes) true t e = refl
stray (reply.Missing key) true t e = refl
stray (reply.Void token) true t e = refl
stray (reply.Gone key) true t e = refl
stray (reply.Done token rid version) false t e = refl
stray (reply.Refused token w version) false t e = refl
stray (reply.Feed round clock es) false t e = refl
stray (reply.Listing key es) false t e = refl
stray (reply.Bytes key start bytes) false t e = refl
stray (reply.Missing key) false t e = refl
stray (reply.Void token) false t e = refl
stray (reply.Gone key) false t e = refl

pub known_shows : (r : Reply) (fit : Bool) (b : Shown) (a : Answer) → verdict r fit ≡ Some b → a ≡ answered b None → Shows r fit a
known_shows r fit b a e f t none =
    (t, known r fit b t e ∙ ap {B = Tree State Shown} (λ (x : Shown). Ret x t) (shown_is a b None f), refl, refl, whole a b None t.running.stray f none)

pub stray_shows : (r : Reply) (fit : Bool) (a : Answer) → verdict r fit ≡ None → a ≡ answered (shown.Refused code.Stale) (Some r) → Shows r fit a
stray_shows r fit a e f t none =
    (with_stray r t, stray r fit t e ∙ ap {B = Tree State Shown} (λ (x : Shown). Ret x (with_stray r t)) (shown_is a (shown.Refused code.Stale) (Some r) f), refl, refl, whole a (shown.Refused code.Stale) (Some r) (Some r) f refl)

-- the request

module _ (q : Request) (next : ℕ) (old new : Told) where
  used : (s : State) → Stands next old s → Stands (next + 1) old (with_token_used s)
  used s st = record { token = ap (λ (n : ℕ). n + 1) st.token; held = st.held; asks = st.asks; honest = st.honest }

  pub failed_does : (e : AskError) (result : Result Answer OutOfMemory) → Asks q old (Err e) new → IsFailed e result → Does (send_request q) next old result (next + 1) new
  failed_does ask.Fault (Ok a) h k = λ s none st.
      let after = after_fault q (next + 1) (with_token_used s) old new (used s st) h in (
        after.state,
        leads_ask q None (next + 1) (with_token_used s) old new (on_answer q) after a.shown after.state new
            (subst (λ (b : Shown). Leads (on_answer q None after.state) new b after.state new) (shown_is a (shown.Refused code.RemoteFault) None k) (refl, refl, refl)),
        after.stands,
        whole a (shown.Refused code.RemoteFault) None after.state.running.stray k (ap (λ (x : Running). x.stray) after.running ∙ none),
      )
  failed_does ask.Fault (Err m) h k = absurd k
  failed_does ask.OutOfMemory (Ok a) h k = absurd k
  failed_does ask.OutOfMemory (Err m) h k = (omega arith, omega arith, λ s st. inl h)

  pub answered_does : (r : Reply) (fit : Bool) (a : Answer) → Answers q r old new → fit ≡ is_fit q r → Shows r fit a → Does (send_request q) next old (Ok a) (next + 1) new
  answered_does r fit a h e k s none st =
      let after = after_reply q r (next + 1) (with_token_used s) old new (used s st) h in
      let u = k after.state (ap (λ (x : Running). x.stray) after.running ∙ none) in
      let way : on_answer q (Some r) after.state ≡ Ret a.shown u.0 = ap (λ (b : Bool). on_done r b after.state) (sym e) ∙ u.1 in (
        u.0,
        leads_ask q (Some r) (next + 1) (with_token_used s) old new (on_answer q) after a.shown u.0 new
            (subst (λ (p : Tree State Shown). Leads p new a.shown u.0 new) (sym way) (refl, refl, refl)),
        record {
          token = after.stands.token ∙ ap (λ (n : ℕ). n + 1) (sym u.3);
          held = subst (λ (l : Link). IsHeld new.held l.remote) (sym u.2) after.stands.held;
          asks = subst (λ (l : Link). IsCount new.asks l.remote_asks) (sym u.2) after.stands.asks;
          honest = subst (λ (l : Link). is_some new.held ≡ true → l.honest ≡ true) (sym u.2) after.stands.honest;
        },
        u.4,
      )

  -- by what comes of the reply, for which memory may run out
  pub replied_does : (r : Reply) (result : Result Answer OutOfMemory) → Answers q r old new → IfOk result (Shows r (is_fit q r)) → Does (send_request q) next old result (next + 1) new
  replied_does r (Ok a) h k = answered_does r (is_fit q r) a h refl k
  replied_does r (Err m) h k = (
    omega arith,
    omega arith,
    λ s st.
        let after = after_reply q r (next + 1) (with_token_used s) old new (used s st) h in
        begins_ask q (Some r) (next + 1) (with_token_used s) old new (on_answer q) after new (begins_here (on_answer q (Some r) after.state) new),
  )

-- what is left once the paths are looked up

pub tell_finishes : (p : Plan) (rid : Rid) (version : Version) (next : ℕ) (old : Told) (a : Answer) → p ≡ plan.Tell rid version → a ≡ answered (shown.Remote rid version) None → Does (finish p) next old (Ok a) next old
tell_finishes p rid version next old a e f = subst (λ (x : Plan). Does (finish x) next old (Ok a) next old) (sym e)
    (λ s none st. (s, (sym (shown_is a (shown.Remote rid version) None f), refl, refl), st, whole a (shown.Remote rid version) None s.running.stray f none))

pub send_finishes : (p : Plan) (q : Request) (next : ℕ) (old : Told) (result : Result Answer OutOfMemory) (after : ℕ) (new : Told) → p ≡ plan.Send q → Does (send_request q) next old result after new
    → Does (finish p) next old result after new
send_finishes p q next old result after new e h = subst (λ (x : Plan). Does (finish x) next old result after new) (sym e) h

-- memory runs out before the ask
pub unsent_does : (q : Request) (next : ℕ) (old : Told) (m : OutOfMemory) → Does (send_request q) next old (Err m) (next + 1) old
unsent_does q next old m = (omega arith, omega arith, λ s st. inl refl)
