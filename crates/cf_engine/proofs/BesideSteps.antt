-- Events that need no volume, as steps of the definitions.
use Rattle.std.proofs.Common.{◌≡◌, ◌+◌, Bool, true, false, ℕ, List, [], refl, sym, ◌∙◌, ap, subst}
use Rattle.std.specs.Prelude.{Option, Some, None, Result, Ok, Err, IfOk}
use Rattle.cf_base.specs.declared.answers.Answer.{Answer}
use Rattle.cf_base.specs.declared.answers.Shown.{Shown}
use Rattle.cf_base.specs.declared.answers.Shown.TheVariants as shown
use Rattle.cf_base.specs.declared.codes.CallError.{CallError}
use Rattle.cf_base.specs.declared.codes.CallError.TheVariants.{No, OutOfMemory}
use Rattle.cf_base.specs.declared.events.EngineEvent.TheVariants as engine
use Rattle.cf_base.specs.declared.events.Event.{Event}
use Rattle.cf_base.specs.declared.events.Event.TheVariants as event
use Rattle.cf_base.specs.declared.events.PeerEvent.{PeerEvent}
use Rattle.cf_base.specs.declared.memory.OutOfMemory.{OutOfMemory as NoMemory}
use Rattle.cf_base.specs.declared.messages.Reply.{Reply}
use Rattle.cf_base.specs.declared.notices.Notice.{Notice}
use Rattle.cf_base.specs.declared.policies.Mode.TheVariants as mode
use Rattle.cf_engine.specs.Actors.{Holds, Stands, Syncing, acts_of}
use Rattle.cf_engine.proofs.PeerFaults.{peer_pays}
use Rattle.cf_engine_steps.specs.States.{Own, told_of, with_link_of}
use Rattle.cf_filter_events.proofs.CallFaults.{rose_same}
use Rattle.cf_filter_events.proofs.EventFaults.{lines_faults, result_faults}
use Rattle.cf_filter_events.specs.Actors.{LeavesTo, StepsBeside}
use Rattle.cf_filter_events.specs.Faulted.{FaultsTo, is_remote_fault, meets_remote}
use Rattle.cf_filter.specs.Calling.{shows_done}
use Rattle.cf_filter_events.specs.Answered.{answer_with, answered_by, showing}
use Rattle.cf_link.proofs.FaultCounts.{rises_by}
use Rattle.cf_link.proofs.Ways.{leads_ends}
use Rattle.cf_link.specs.Faults.{AsksFailed, faults_in}
use Rattle.cf_link.specs.Linked.{Arrives, Does, DoesPeer, IsLink, lines_of, with_line}
use Rattle.cf_link.specs.Linked as links
use Rattle.cf_model.proofs.TraceLaws.{ended_step}
use Rattle.cf_model.specs.Events.{begun, is_of, needs_volume, tree_of}
use Rattle.cf_model.specs.Passes.{arrive}
use Rattle.cf_model.specs.Peers.{peer_event}
use Rattle.cf_model.specs.State.{Link, State, nothing_yet, with_link}
use Rattle.cf_model.specs.Trees.{Ends}
use Rattle.cf_remote.specs.Told.{Told}

-- an event of the mode that needs no volume
pub record IsBeside (e : Event) : Type 0 where
  pub of : is_of mode.Replay e ≡ true
  pub needs : needs_volume e ≡ false

-- after an event that changes the link, the tokens of other devices, and its lines alone
abbrev pub changed : Link → ℕ → List Notice → Option Reply → State → State
changed link tokens notes stray s = record (begun s) { filter = record s.filter { notes = notes }; link = link; peer_tokens = tokens; running = record nothing_yet { stray = stray } }

line_changed : (line : Option Notice) (link : Link) (s : State) → with_line line (with_link link (begun s)) ≡ changed link s.peer_tokens (lines_of line) None s
line_changed None link s = refl
line_changed (Some n) link s = refl

module _ {R : Type 0} (told : R → Told) where
  pub record Leaves (e : Event) (a : Answer) (l : links.Linked R) (next : ℕ) (s : State) : Type 0 where
    pub link : Link
    pub tokens : ℕ
    pub ends : Ends (tree_of e s) a.shown (changed link tokens a.notes a.stray s)
    pub stands : IsLink told l link
    pub token : next ≡ tokens + 1

  module _ (e : Event) (a : Answer) (x y : Syncing R) (is : IsBeside e) (rest : y.engine ≡ with_link_of y.engine.agent.link x.engine)
      (leads : (s : State) → IsLink told x.engine.agent.link s.link → x.next ≡ s.peer_tokens + 1 → Leaves e a y.engine.agent.link y.next s)
      (pays : (s : State) → IsLink told x.engine.agent.link s.link → x.next ≡ s.peer_tokens + 1 → FaultsTo (Ok a) (told_of told x.engine) (told_of told y.engine)) where
    abbrev stepped : (Is : Syncing R → State → Type 0) (s : State) (l : Leaves e a y.engine.agent.link y.next s) → Is y (changed l.link l.tokens a.notes a.stray s) → LeavesTo mode.Replay Is e s (Ok a) y
    stepped Is s l h = (
      changed l.link l.tokens a.notes a.stray s,
      ended_step mode.Replay s e a.shown (changed l.link l.tokens a.notes a.stray s) is.of (rw is.needs refl) l.ends,
      record { mode = refl; power = refl; opens = refl; filter = refl },
      h,
    )

    pub steps_beside : StepsBeside (acts_of told) e x (Ok a) y
    steps_beside = record {
      on = λ s m h.
          let l = leads s h.held.link h.held.next in
          stepped (Stands told) s l (record { held = record { link = l.stands; next = l.token }; volatile = ap (λ (o : Own R). o.volatile) rest ∙ h.volatile });
      held = λ s m h. let l = leads s h.link h.next in stepped (Holds told) s l (record { link = l.stands; next = l.token });
      faults = λ s h. pays s h.link h.next;
    }

  pub no_memory : (e : Event) (x y : Syncing R) (m : NoMemory) → StepsBeside (acts_of told) e x (Err m) y
  no_memory e x y m = record { on = λ s k h. record {}; held = λ s k h. record {}; faults = λ s h. record {} }

  -- the link is made inline, or not

  abbrev inline_on : Bool → links.Linked R → links.Linked R
  inline_on inline l = record l { inline = inline }

  link_on : (inline : Bool) (l : links.Linked R) (link : Link) → IsLink told l link → IsLink told (inline_on inline l) (record link { inline = inline })
  link_on inline l link h = record { net = record { messages = h.net.messages; bytes = h.net.bytes }; held = h.held; asks = h.asks; honest = h.honest; inline = refl }

  pub sets_link : (inline : Bool) (x y : Syncing R) (a : Answer) → y ≡ record x { engine = with_link_of (inline_on inline x.engine.agent.link) x.engine } → a ≡ answer_with shown.Done []
      → StepsBeside (acts_of told) (event.Engine (engine.Link inline)) x (Ok a) y
  sets_link inline x y a is says = subst (λ (b : Answer). StepsBeside (acts_of told) (event.Engine (engine.Link inline)) x (Ok b) y) (sym says)
      (subst (λ (z : Syncing R). StepsBeside (acts_of told) (event.Engine (engine.Link inline)) x (Ok (answer_with shown.Done [])) z) (sym is)
      (steps_beside (event.Engine (engine.Link inline)) (answer_with shown.Done []) x (record x { engine = with_link_of (inline_on inline x.engine.agent.link) x.engine }) (record { of = refl; needs = refl }) refl
      (λ s link next. record { link = record s.link { inline = inline }; tokens = s.peer_tokens; ends = (refl, refl); stands = link_on inline x.engine.agent.link s.link link; token = next })
      (λ s link next. lines_faults (answer_with shown.Done []) (told_of told x.engine) (told_of told x.engine) refl (rose_same 0 (told_of told x.engine) refl))))

  -- a message is handed to the remote

  module _ (m : ℕ) (x y : Syncing R) (rest : y.engine ≡ with_link_of y.engine.agent.link x.engine) (same : y.next ≡ x.next) where
    abbrev arrival : Event
    arrival = event.Engine (engine.Arrive m)

    arrives_by : (r : Shown) (line : Option Notice) → Does told (arrive m) x.engine.agent.link r line y.engine.agent.link → meets_remote r ≡ false → AsksFailed (faults_in (lines_of line)) (told_of told x.engine) (told_of told y.engine)
        → StepsBeside (acts_of told) arrival x (Ok (answer_with r (lines_of line))) y
    arrives_by r line does plain rose = steps_beside arrival (answer_with r (lines_of line)) x y (record { of = refl; needs = refl }) rest (λ s link next.
        let d = does.ends (begun s) link in record {
          link = d.link;
          tokens = s.peer_tokens;
          ends = subst (λ (t : State). Ends (tree_of arrival s) r t) (line_changed line d.link s)
              (leads_ends (arrive m (begun s)) (told x.engine.agent.link.remote) (told y.engine.agent.link.remote) r (with_line line (with_link d.link (begun s))) d.leads);
          stands = d.stands;
          token = same ∙ next;
        }) (λ s link next. lines_faults (answer_with r (lines_of line)) (told_of told x.engine) (told_of told y.engine) plain rose)

    -- a link that stays as it is, whose remote was not asked
    still : y.engine.agent.link ≡ x.engine.agent.link → AsksFailed 0 (told_of told x.engine) (told_of told y.engine)
    still kept = subst (λ (l : links.Linked R). AsksFailed 0 (told_of told x.engine) (told l.remote)) (sym kept) (rose_same 0 (told_of told x.engine) refl)

    arrives_to : (r : Result (Unit {0}) CallError) (ns : List Notice) → Arrives told m x.engine.agent.link [] r y.engine.agent.link ns → StepsBeside (acts_of told) arrival x (answered_by (showing shows_done r) ns) y
    unfolding shows_done
    arrives_to (Ok u) ns h = subst (λ (l : List Notice). StepsBeside (acts_of told) arrival x (Ok (answer_with shown.Done l)) y) (sym h.1) (arrives_by shown.Done h.0 h.2 refl (rises_by h.0 (told_of told x.engine) (told_of told y.engine) h.3))
    arrives_to (Err (No c)) ns h = subst (λ (l : List Notice). StepsBeside (acts_of told) arrival x (Ok (answer_with (shown.Refused c) l)) y) (sym h.1) (arrives_by (shown.Refused c) None h.3 (ap is_remote_fault h.0) (still h.2))
    arrives_to (Err OutOfMemory) ns h = no_memory arrival x y (record {})

  pub arrives : (m : ℕ) (x y : Syncing R) (r : Result (Unit {0}) CallError) (q : Result Shown CallError) (none ns : List Notice) (a : Result Answer NoMemory) → y.engine ≡ with_link_of y.engine.agent.link x.engine → y.next ≡ x.next → none ≡ []
      → Arrives told m x.engine.agent.link none r y.engine.agent.link ns → q ≡ showing shows_done r → a ≡ answered_by q ns → StepsBeside (acts_of told) (event.Engine (engine.Arrive m)) x a y
  arrives m x y r q none ns a rest same begins h shows says =
      subst (λ (b : Result Answer NoMemory). StepsBeside (acts_of told) (event.Engine (engine.Arrive m)) x b y) (sym (says ∙ ap (λ (p : Result Shown CallError). answered_by p ns) shows))
      (arrives_to m x y rest same r ns (subst (λ (l : List Notice). Arrives told m x.engine.agent.link l r y.engine.agent.link ns) begins h))

  -- events of other devices

  pub peer : (e : PeerEvent) (x y : Syncing R) (a : Answer) → y.engine ≡ with_link_of y.engine.agent.link x.engine → DoesPeer told (peer_event e) x.next x.engine.agent.link a y.next y.engine.agent.link
      → StepsBeside (acts_of told) (event.Peer e) x (Ok a) y
  peer e x y a rest does = steps_beside (event.Peer e) a x y (record { of = refl; needs = refl }) rest (λ s link next.
      let d = does.ends (begun s) refl next link in record {
        link = d.link;
        tokens = d.tokens;
        ends = subst (λ (l : List Notice). Ends (tree_of (event.Peer e) s) a.shown (changed d.link d.tokens l a.stray s)) (sym d.notes)
            (leads_ends (peer_event e (begun s)) (told x.engine.agent.link.remote) (told y.engine.agent.link.remote) a.shown (changed d.link d.tokens [] a.stray s) d.leads);
        stands = d.stands;
        token = d.next;
      }) (λ s link next.
      let d = does.ends (begun s) refl next link in
      result_faults a (told_of told x.engine) (told_of told y.engine) d.notes (peer_pays e (begun s) (changed d.link d.tokens [] a.stray s) (told x.engine.agent.link.remote) (told y.engine.agent.link.remote) a.shown d.leads))

  -- the same as the code comes to them

  pub set_by : (inline : Bool) (e f : Own R) (n : ℕ) (x : Syncing R) (a : Answer) → record { engine = e; next = n } ≡ x → f ≡ with_link_of (inline_on inline e.agent.link) e → a ≡ answer_with shown.Done []
      → StepsBeside (acts_of told) (event.Engine (engine.Link inline)) x (Ok a) (record { engine = f; next = n })
  set_by inline e f n x a view is says = subst (λ (z : Syncing R). StepsBeside (acts_of told) (event.Engine (engine.Link inline)) z (Ok a) (record { engine = f; next = n })) view
      (sets_link inline (record { engine = e; next = n }) (record { engine = f; next = n }) a (ap (λ (o : Own R). record { engine = o; next = n }) is) says)

  pub arrive_by : (m : ℕ) (e f : Own R) (n : ℕ) (x : Syncing R) (r : Result (Unit {0}) CallError) (q : Result Shown CallError) (none ns : List Notice) (a : Result Answer NoMemory) → record { engine = e; next = n } ≡ x → f ≡ with_link_of f.agent.link e → none ≡ []
      → Arrives told m e.agent.link none r f.agent.link ns → q ≡ showing shows_done r → a ≡ answered_by q ns → StepsBeside (acts_of told) (event.Engine (engine.Arrive m)) x a (record { engine = f; next = n })
  arrive_by m e f n x r q none ns a view rest begins h shows says = subst (λ (z : Syncing R). StepsBeside (acts_of told) (event.Engine (engine.Arrive m)) z a (record { engine = f; next = n })) view
      (arrives m (record { engine = e; next = n }) (record { engine = f; next = n }) r q none ns a rest refl begins h shows says)

  peer_to : (p : PeerEvent) (x y : Syncing R) (r : Result Answer NoMemory) → y.engine ≡ with_link_of y.engine.agent.link x.engine → IfOk r (λ a. DoesPeer told (peer_event p) x.next x.engine.agent.link a y.next y.engine.agent.link) → StepsBeside (acts_of told) (event.Peer p) x r y
  peer_to p x y (Ok a) rest does = peer p x y a rest does
  peer_to p x y (Err m) rest does = no_memory (event.Peer p) x y m

  pub peer_by : (p : PeerEvent) (e f : Own R) (n k : ℕ) (x : Syncing R) (r : Result Answer NoMemory) → record { engine = e; next = n } ≡ x → f ≡ with_link_of f.agent.link e → IfOk r (λ a. DoesPeer told (peer_event p) n e.agent.link a k f.agent.link)
      → StepsBeside (acts_of told) (event.Peer p) x r (record { engine = f; next = k })
  peer_by p e f n k x r view rest does = subst (λ (z : Syncing R). StepsBeside (acts_of told) (event.Peer p) z r (record { engine = f; next = k })) view
      (peer_to p (record { engine = e; next = n }) (record { engine = f; next = k }) r rest does)
