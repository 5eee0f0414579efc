-- A request and its reply, as the definitions send it.
use Rattle.std.proofs.Common.{◌≡◌, ℕ, ◌+◌, Bool, true, false, length, refl, sym, ◌∙◌, ap, subst, arith}
use Rattle.std.specs.Prelude.{Option, Some, None}
use Rattle.cf_engine_provider.specs.Parts.{Exchanges}
use Rattle.cf_base.specs.declared.messages.Reply.{Reply}
use Rattle.cf_base.specs.declared.messages.Request.{Request}
use Rattle.cf_base.specs.declared.notices.Frame.TheVariants as frame
use Rattle.cf_base.specs.declared.notices.Notice.{Notice}
use Rattle.cf_link.specs.Linked.{Does, Ended, IsLink, Linked, Posts, Rises, lines_of, posted_line, with_line}
use Rattle.cf_link.specs.declared.posts.Posted.{Posted}
use Rattle.cf_link.specs.Faults.{AsksFailed, faults_in}
use Rattle.cf_link.proofs.FaultCounts.{failed_both, failed_none, posted_quiet, rises_by}
use Rattle.cf_link.proofs.Ways.{leads_ends}
use Rattle.cf_model.proofs.TreeLaws.{ends_then, stops_then}
use Rattle.cf_model.specs.Arrows.{unit}
use Rattle.cf_model.specs.Messages.{after_post, come, come_if, post, send_now, take_if_any}
use Rattle.cf_model.specs.State.{Link, State, with_link}
use Rattle.cf_model.specs.Trees.{Ends, Stops}
use Rattle.cf_remote.specs.Told.{Told}

link_behind : (line : Option Notice) (k : Link) (s : State) → (with_line line (with_link k s)).link ≡ k
link_behind None k s = refl
link_behind (Some n) k s = refl

-- the second link in place of the first
links_in_turn : (first : Option Notice) (k l : Link) (s : State) → with_link l (with_line first (with_link k s)) ≡ with_line first (with_link l s)
links_in_turn None k l s = refl
links_in_turn (Some n) k l s = refl

module _ {R : Type 0} (told : R → Told) (q : Request) (old mid : Linked R) (posted : Posted) (posts : Posts told (frame.Request q) old posted mid)
    (line_is : posted.line ≡ posted_line (frame.Request q) posted) (same : mid.remote ≡ old.remote) where
  module _ (s : State) (stands : IsLink told old s.link) where
    abbrev sent : Ended told (post (frame.Request q)) s old posted.kept posted.line mid
    sent = (posts.ends s stands).0

    abbrev after : State
    after = with_line posted.line (with_link sent.link s)

    ends : (b : Bool) → posted.kept ≡ b → (u : State) → Ends (after_post q b after) unit u → Ends (send_now q s) unit u
    ends b is u h =
        ends_then (post (frame.Request q) s) (after_post q) b after unit u
        (subst (λ (x : Bool). Ends (post (frame.Request q) s) x after) is (leads_ends (post (frame.Request q) s) (told old.remote) (told mid.remote) posted.kept after sent.leads)) h

    stops : (b : Bool) → posted.kept ≡ b → (u : State) → Stops (after_post q b after) u → Stops (send_now q s) u
    stops b is u h =
        stops_then (post (frame.Request q) s) (after_post q) b after u
        (subst (λ (x : Bool). Ends (post (frame.Request q) s) x after) is (leads_ends (post (frame.Request q) s) (told old.remote) (told mid.remote) posted.kept after sent.leads)) h

    inline_is : mid.inline ≡ after.link.inline
    inline_is = sent.stands.inline ∙ ap (λ (k : Link). k.inline) (sym (link_behind posted.line sent.link s))

  -- the request's line reports no fault, nor does its posting
  quiet_line : faults_in (lines_of posted.line) ≡ 0
  quiet_line = ap (λ (o : Option Notice). faults_in (lines_of o)) line_is ∙ posted_quiet (frame.Request q) posted

  sent_alone : AsksFailed (faults_in (lines_of posted.line) + faults_in (lines_of None)) (told old.remote) (told mid.remote)
  sent_alone =
      let z : faults_in (lines_of posted.line) ≡ 0 = quiet_line in
      let none : 0 ≡ faults_in (lines_of posted.line) + faults_in (lines_of None) = omega (arith, z) in
      subst (λ (n : ℕ). AsksFailed n (told old.remote) (told mid.remote)) none (subst (λ (x : R). AsksFailed 0 (told old.remote) (told x)) (sym same) (failed_none (told old.remote)))

  -- it is not kept
  pub unkept : posted.kept ≡ false → Exchanges told q old (record { first = posted.line; second = None; reply = None }) mid
  unkept miss = record {
    sends = λ s stands. record {
      link = (sent s stands).link;
      ends = λ u h. ends s stands false miss u h;
      stops = λ u h. stops s stands false miss u h;
      stands = (sent s stands).stands;
    };
    faults = sent_alone;
  }

  -- it waits until it is handed on
  pub by_hand : posted.kept ≡ true → mid.inline ≡ false → Exchanges told q old (record { first = posted.line; second = None; reply = None }) mid
  by_hand kept slow = record {
    sends = λ s stands.
        let is : (after s stands).link.inline ≡ false = sym (inline_is s stands) ∙ slow in
        record {
          link = (sent s stands).link;
          ends = λ u h. ends s stands true kept u (subst (λ (b : Bool). Ends (come_if q b (after s stands)) unit u) (sym is) h);
          stops = λ u h. stops s stands true kept u (subst (λ (b : Bool). Stops (come_if q b (after s stands)) u) (sym is) h);
          stands = (sent s stands).stands;
        };
    faults = sent_alone;
  }

  -- it comes to the remote at once
  pub at_once : (new : Linked R) (r : Option Reply) (line : Option Notice) → posted.kept ≡ true → mid.inline ≡ true → Does told (come posted.number q) mid r line new → Rises line (told mid.remote) (told new.remote)
      → Exchanges told q old (record { first = posted.line; second = line; reply = r }) new
  at_once new r line kept fast does rises = record {
    sends = λ s stands.
        let k : Link = (sent s stands).link in
        let t : State = after s stands in
        let is : t.link.inline ≡ true = sym (inline_is s stands) ∙ fast in
        let place : posted.number ≡ length t.link.messages = (posts.ends s stands).1 kept ∙ ap (λ (l : Link). length l.messages) (sym (link_behind posted.line k s)) in
        let e = does.ends t (subst (λ (l : Link). IsLink told mid l) (sym (link_behind posted.line k s)) (sent s stands).stands) in
        let u1 : State = with_line line (with_link e.link t) in
        let same : u1 ≡ with_line line (with_line posted.line (with_link e.link s)) = ap (λ (x : State). with_line line x) (links_in_turn posted.line k e.link s) in
        let came : Ends (come (length t.link.messages) q t) r u1 = subst (λ (n : ℕ). Ends (come n q t) r u1) place (leads_ends (come posted.number q t) (told mid.remote) (told new.remote) r u1 e.leads) in
        record {
          link = e.link;
          ends = λ u h. ends s stands true kept u (subst (λ (b : Bool). Ends (come_if q b t) unit u) (sym is) (ends_then (come (length t.link.messages) q t) (take_if_any q) r u1 unit u came (subst (λ (x : State). Ends (take_if_any q r x) unit u) (sym same) h)));
          stops = λ u h. stops s stands true kept u (subst (λ (b : Bool). Stops (come_if q b t) u) (sym is) (stops_then (come (length t.link.messages) q t) (take_if_any q) r u1 u came (subst (λ (x : State). Stops (take_if_any q r x) u) (sym same) h)));
          stands = e.stands;
        };
    faults =
        failed_both (faults_in (lines_of posted.line)) (faults_in (lines_of line)) (told old.remote) (told mid.remote) (told new.remote)
        (subst (λ (n : ℕ). AsksFailed n (told old.remote) (told mid.remote)) (sym quiet_line) (subst (λ (x : R). AsksFailed 0 (told old.remote) (told x)) (sym same) (failed_none (told old.remote))))
        (rises_by line (told mid.remote) (told new.remote) rises);
  }
