-- A request that came to the remote did so as in the definitions.
use Rattle.std.proofs.Common.{◌≡◌, inr, ℕ, ◌+◌, Bool, true, false, List, ◌++◌, refl, sym, ap, ◌∙◌, subst}
use Rattle.std.specs.Prelude.{Option, Some, None, is_some, Result, Ok, Err, IfErr}
use Rattle.std.specs.Result.{IsErrAnd}
use Rattle.std.proofs.lemmas.Result.{err_from_is_err_and}
use Rattle.cf_base.specs.declared.answers.Shown.TheVariants as shown
use Rattle.cf_base.specs.declared.codes.CallError.{CallError}
use Rattle.cf_base.specs.declared.codes.CallError.TheVariants as fail
use Rattle.cf_base.specs.declared.messages.Reply.{Reply}
use Rattle.cf_base.specs.declared.messages.Request.{Request}
use Rattle.cf_base.specs.declared.notices.Frame.{Frame}
use Rattle.cf_base.specs.declared.notices.Frame.TheVariants as frame
use Rattle.cf_base.specs.declared.notices.Notice.{Notice}
use Rattle.cf_base.specs.declared.notices.Notice.TheVariants as notice
use Rattle.cf_link.specs.Faults.{Once}
use Rattle.cf_link.specs.Linked.{Arrives, Does, Ended, Grows, IsLink, Linked, Rises, Stopped, lines_of, with_line}
use Rattle.cf_link.specs.Parts.{IsAsked, IsMessageLine, IsRequestAt, PostedBy, SendsFrame, linked, reply_if, with_messages}
use Rattle.cf_link.specs.declared.posts.Posted.{Posted}
use Rattle.cf_model.specs.Arrows.{seq}
use Rattle.cf_model.specs.Messages.{after_ask, answered, come, if_kept, message_at, post}
use Rattle.cf_model.specs.Passes.{arrive, arrive_frame, was_sent}
use Rattle.cf_model.specs.State.{Link, State, with_link}
use Rattle.cf_model.specs.Store.{Held, remote_step}
use Rattle.cf_model.specs.Trees as trees
use Rattle.cf_model.specs.Trees.{AsItKeeps, Asked, Fork, Ret, Step, Telling, Tells, Tree, bind}
use Rattle.cf_remote.specs.Peers.{IsCount, IsHeld, Leads, Stands}
use Rattle.cf_remote.specs.Told.{Answers, Told}
use Rattle.cf_remote.proofs.Asking.{After, after_fault, after_reply, begins_here}
use Rattle.cf_wire.specs.Sending.{IsNet, Kept}
use Rattle.cf_link.proofs.FaultCounts.{once_answered, once_failed}
use Rattle.cf_link.proofs.Ways.{leads_begins, leads_on}

-- what an ask changes of a state
abbrev with_ask : Held → ℕ → Bool → State → State
with_ask held asks honest s = with_link (record s.link { remote = held; remote_asks = asks; honest = honest }) s

record Only (s t : State) : Type 0 where
  held : Held
  asks : ℕ
  honest : Bool
  is : with_ask held asks honest s ≡ t

abbrev state_in : State → Tree State (Option Reply) → State
state_in d (Ret r t) = t
state_in d (Step t p) = d
state_in d (Fork p q) = d
state_in d (Asked k) = d

only : (p : Reply × Held) (s t : State) (x : Telling) (r : Option Reply) → after_ask p s x ≡ Ret r t → Only s t
only p s t AsItKeeps r e = record { held = p.1; asks = s.link.remote_asks + 1; honest = s.link.honest; is = ap (state_in s) e }
only p s t trees.Faults r e = record { held = s.link.remote; asks = s.link.remote_asks + 1; honest = s.link.honest; is = ap (state_in s) e }
only p s t (Tells other) r e = record { held = p.1; asks = s.link.remote_asks + 1; honest = false; is = ap (state_in s) e }

kept_leads : (r : Reply) (b : Bool) (t : State) (told : Told) → Leads (if_kept r b t) told (reply_if b r) t told
kept_leads r true t told = (refl, refl, refl)
kept_leads r false t told = (refl, refl, refl)

rises : (line : Option Notice) (old new : Told) → IsMessageLine line → Once false old new → Rises line old new
rises None old new h k = k
rises (Some (notice.Message m)) old new h k = k
rises (Some (notice.Change n c)) old new h k = absurd h
rises (Some (notice.Background w i)) old new h k = absurd h
rises (Some (notice.Ask a)) old new h k = absurd h
rises (Some (notice.Cancel key)) old new h k = absurd h
rises (Some (notice.Done w e)) old new h k = absurd h
rises (Some (notice.Operation a)) old new h k = absurd h
rises (Some (notice.Fault m)) old new h k = absurd h
rises (Some (notice.Skipped c)) old new h k = absurd h

-- the link before, and the remote after the ask
module _ {R : Type 0} (told : R → Told) (m : ℕ) (q : Request) (net : Kept) (remote : R) (inline : Bool) (old : Linked R) (mid : R) (same : linked net remote inline ≡ old) where
  stands_at : (s : State) → IsLink told (linked net remote inline) s.link → Stands (s.peer_tokens + 1) (told remote) s
  stands_at s h = record { token = refl; held = h.held; asks = h.asks; honest = h.honest }

  -- what follows the ask leads from the state that it left to this result
  abbrev Follows : Kept → Option Reply → Option Notice → Option Reply → State → State → Type 0
  Follows after r line asked s t =
      (link : Link) × Leads (answered m asked t) (told mid) r (with_line line (with_link link s)) (told mid)
      × ((held : IsHeld (told mid).held t.link.remote) → (asks : IsCount (told mid).asks t.link.remote_asks) → (honest : is_some (told mid).held ≡ true → t.link.honest ≡ true) → IsLink told (linked after mid inline) link)

  ends_by : (after : Kept) (r : Option Reply) (line : Option Notice) (asked : Option Reply) (s : State) → After q asked (s.peer_tokens + 1) s (told remote) (told mid)
      → ((held : Held) (asks : ℕ) (honest : Bool) → Follows after r line asked s (with_ask held asks honest s)) → Ended told (come m q) s (linked net remote inline) r line (linked after mid inline)
  ends_by after r line asked s a follows =
      let o = only (remote_step s.link.remote q) s a.state a.does asked a.there in
      let f : Follows after r line asked s a.state = subst (λ (t : State). Follows after r line asked s t) o.is (follows o.held o.asks o.honest) in
      let u : State = with_line line (with_link f.0 s) in
      record {
        link = f.0;
        leads = (a.does, told mid, a.is, subst (λ (y : Tree State (Option Reply)). Leads (bind y (answered m)) (told mid) r u (told mid)) (sym a.there) f.1);
        stands = f.2 a.stands.held a.stands.asks a.stands.honest;
      }

  does_from : (after : Kept) (r : Option Reply) (line : Option Notice) → Does told (come m q) (linked net remote inline) r line (linked after mid inline) → Does told (come m q) old r line (linked after mid inline)
  does_from after r line d = subst (λ (x : Linked R). Does told (come m q) x r line (linked after mid inline)) same d

  -- the remote failed
  pub fault_does : (o : Option Reply) → o ≡ None → IsAsked q (told remote) (Ok o) (told mid) → Does told (come m q) old None (Some (notice.Fault m)) (linked net mid inline)
  fault_does o e h = does_from net None (Some (notice.Fault m)) (record {
    ends = λ s k.
        ends_by net None (Some (notice.Fault m)) None s (after_fault q (s.peer_tokens + 1) s (told remote) (told mid) (stands_at s k) (subst (λ (x : Option Reply). IsAsked q (told remote) (Ok x) (told mid)) e h)) (λ held asks honest. (
          record s.link { remote = held; remote_asks = asks; honest = honest },
          (refl, refl, refl),
          λ holds counts fair. record { net = record { messages = k.net.messages; bytes = k.net.bytes }; held = holds; asks = counts; honest = fair; inline = k.inline },
        ));
  })

  pub fault_rises : (o : Option Reply) → o ≡ None → IsAsked q (told remote) (Ok o) (told mid) → Once true (told old.remote) (told mid)
  fault_rises o e h = subst (λ (x : Linked R). Once true (told x.remote) (told mid)) same (once_failed (told remote) (told mid) (subst (λ (x : Option Reply). IsAsked q (told remote) (Ok x) (told mid)) e h))

  module _ (o : Option Reply) (r : Reply) (is : o ≡ Some r) (asked : IsAsked q (told remote) (Ok o) (told mid)) where
    answers : Answers q r (told remote) (told mid)
    answers = subst (λ (x : Option Reply). IsAsked q (told remote) (Ok x) (told mid)) is asked

    module _ (p : Posted) (after : Kept) (sends : SendsFrame (frame.Reply m r) net p after) where
      follows : (s : State) → IsLink told (linked net remote inline) s.link → (held : Held) (asks : ℕ) (honest : Bool) → Follows after (reply_if p.kept r) p.line (Some r) s (with_ask held asks honest s)
      follows s k held asks honest =
          let t : State = with_ask held asks honest s in
          let d : PostedBy (post (frame.Reply m r) t) t p after = sends.ends t (record { messages = k.net.messages; bytes = k.net.bytes }) in
          let link : Link = with_messages d.messages d.bytes t.link in
          let u : State = with_line p.line (with_link link s) in (
            link,
            leads_on (post (frame.Reply m r) t) (if_kept r) (told mid) (told mid) (told mid) p.kept u (reply_if p.kept r) u (d.leads (told mid)) (kept_leads r p.kept u (told mid)),
            λ holds counts fair. record { net = d.stands; held = holds; asks = counts; honest = fair; inline = k.inline },
          )

      -- the remote replied, and its reply was posted
      pub reply_does : (copied : Reply) (kept : Option Reply) → copied ≡ r → kept ≡ reply_if p.kept copied → Does told (come m q) old kept p.line (linked after mid inline)
      reply_does copied kept e f =
          subst (λ (x : Option Reply). Does told (come m q) old x p.line (linked after mid inline)) (sym (f ∙ ap (reply_if p.kept) e))
          (does_from after (reply_if p.kept r) p.line (record {
            ends = λ s k.
                ends_by after (reply_if p.kept r) p.line (Some r) s (after_reply q r (s.peer_tokens + 1) s (told remote) (told mid) (stands_at s k) answers) (follows s k);
          }))

      pub reply_rises : IsMessageLine p.line → Rises p.line (told old.remote) (told mid)
      reply_rises line = subst (λ (x : Linked R). Rises p.line (told x.remote) (told mid)) same (rises p.line (told remote) (told mid) line (once_answered q r (told remote) (told mid) answers))

    -- the remote replied, and then memory ran out
    pub reply_stops : (after : Kept) → Stopped told (come m q) old (linked after mid inline)
    reply_stops after = subst (λ (x : Linked R). Stopped told (come m q) x (linked after mid inline)) same (record {
      begins = λ s k.
          let a = after_reply q r (s.peer_tokens + 1) s (told remote) (told mid) (stands_at s k) answers in
          inr (a.does, told mid, a.is, begins_here (bind (after_ask (remote_step s.link.remote q) s a.does) (answered m)) (told mid));
    })

pub for_err : {A E X : Type 0} (r : Result A E) → X → IfErr r (λ (e : E). X)
for_err (Ok a) x = tt
for_err (Err e) x = x

-- where nobody waits for the reply

pub sent_does : {R : Type 0} (told : R → Told) (m : ℕ) (q : Request) (old : Linked R) (r : Option Reply) (line : Option Notice) (new : Linked R)
    → Does told (come m q) old r line new → Does told (seq (come m q) was_sent) old shown.Done line new
sent_does told m q old r line new d = record {
  ends = λ s h.
      let e = d.ends s h in
      let u : State = with_line line (with_link e.link s) in
      record {
        link = e.link;
        leads = leads_on (come m q s) was_sent (told old.remote) (told new.remote) (told new.remote) r u shown.Done u e.leads (refl, refl, refl);
        stands = e.stands;
      };
}

-- by hand

module _ {R : Type 0} (told : R → Told) (m : ℕ) (q : Request) (o : Option Request) (is : o ≡ Some q) (net : Kept) (remote : R) (inline : Bool) (old new : Linked R) (same : linked net remote inline ≡ old)
    (at : (s : State) → IsNet net s.link → IsRequestAt (message_at s m) o) where
  found : (s : State) → IsNet old.net s.link → message_at s m ≡ Some (frame.Request q)
  found s h = subst (λ (x : Option Request). IsRequestAt (message_at s m) x) is (at s (subst (λ (x : Linked R). IsNet x.net s.link) (sym same) h))

  arrive_does : (line : Option Notice) → Does told (seq (come m q) was_sent) old shown.Done line new → Does told (arrive m) old shown.Done line new
  arrive_does line d = record {
    ends = λ s h.
        let e = d.ends s h in
        record {
          link = e.link;
          leads = subst (λ (f : Option Frame). Leads (arrive_frame m f s) (told old.remote) shown.Done (with_line line (with_link e.link s)) (told new.remote)) (sym (found s h.net)) e.leads;
          stands = e.stands;
        };
  }

  pub arrives : (line : Option Notice) (notes after : List Notice) (u : Unit {0}) → Does told (seq (come m q) was_sent) old shown.Done line new
      → Rises line (told old.remote) (told new.remote) → after ≡ notes ++ lines_of line → Arrives told m old notes (Ok u) new after
  arrives line notes after u d k e = (line, e, arrive_does line d, k)

  -- memory ran out before the line was noted
  pub unnoted : (line : Option Notice) (notes after : List Notice) (r : Result (Unit {0}) CallError) → IsErrAnd r (λ e. e ≡ fail.OutOfMemory) → Does told (seq (come m q) was_sent) old shown.Done line new
      → Grows old.net new.net → after ≡ notes → Arrives told m old notes r new after
  unnoted line notes after r err d k e =
      let stopped : Stopped told (arrive m) old new = record {
        begins = λ s h.
            let x = (arrive_does line d).ends s h in leads_begins (arrive m s) (told old.remote) (told new.remote) shown.Done (with_line line (with_link x.link s)) x.leads;
      } in
      let p = err_from_is_err_and r err in
      subst (λ (y : Result (Unit {0}) CallError). Arrives told m old notes y new after) (sym p.1) (subst (λ (y : CallError). Arrives told m old notes (Err y) new after) (sym p.2) (e, stopped, k))
