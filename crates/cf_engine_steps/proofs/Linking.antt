-- Parts of the link as parts of the whole: the line that the link gives is noted, and then the state is that of the definitions.
use Rattle.std.proofs.Common.{◌≡◌, Bool, ◌+◌, [], ◌∷◌, refl, sym, ◌∙◌, ap, subst, ℕ, arith}
use Rattle.std.specs.Prelude.{Ok, Err, Option, Some, None}
use Rattle.cf_base.specs.declared.codes.CallError.{CallError}
use Rattle.cf_base.specs.declared.codes.CallError.TheVariants.{No, OutOfMemory}
use Rattle.cf_base.specs.declared.messages.Reply.{Reply}
use Rattle.cf_base.specs.declared.messages.Request.{Request}
use Rattle.cf_base.specs.declared.notices.Frame.{Frame}
use Rattle.cf_base.specs.declared.notices.Notice.{Notice}
use Rattle.cf_engine_steps.specs.Answering.{Answers, Any, Reads}
use Rattle.cf_engine_steps.specs.Faults.{Rose, fault_lines}
use Rattle.cf_engine_steps.specs.Lines.{with_line_if}
use Rattle.cf_engine_steps.specs.States.{Means, Own, told_of, whole, with_link_of}
use Rattle.cf_link.specs.Faults.{AsksFailed, faults_in}
use Rattle.cf_link.specs.Linked as links
use Rattle.cf_link.specs.Linked.{Ended, IsLink, Linked, Posts, Rises, lines_of, posted_line, with_line}
use Rattle.cf_link.specs.declared.posts.Posted.{Posted}
use Rattle.cf_link.proofs.FaultCounts.{failed_none, faults_both, posted_quiet, rises_by}
use Rattle.cf_link.proofs.Ways.{leads_ends}
use Rattle.cf_model.specs.Arrows.{Arrow, noted}
use Rattle.cf_model.specs.Messages.{come, is_inline, post}
use Rattle.cf_model.specs.State as model
use Rattle.cf_model.specs.State.{Filter, State, with_link}
use Rattle.cf_remote.specs.Told.{Told}
use Rattle.cf_filter_steps.specs.Answering as steps

-- a line more, and another link

line_noted : (line : Option Notice) (s : State) → (with_line line s).filter ≡ with_line_if line s.filter
line_noted None s = refl
line_noted (Some n) s = refl

lines_with : (line : Option Notice) (s : Filter) → fault_lines (with_line_if line s) ≡ fault_lines s + faults_in (lines_of line)
lines_with None s = omega arith
lines_with (Some n) s = faults_both s.notes (n ∷ [])

rose_by : (line : Option Notice) (link : model.Link) (s : State) (old new : Told) → AsksFailed (faults_in (lines_of line)) old new → Rose old new (fault_lines s.filter) (fault_lines (with_line line (with_link link s)).filter)
rose_by line link s old new h = record { more = faults_in (lines_of line); lines = ap fault_lines (line_noted line (with_link link s)) ∙ lines_with line s.filter; failed = h }

line_mean : {X R : Type 0} (S : steps.Sense X) (told : R → Told) (x y : X) (e : Own R) (l : Linked R) (link : model.Link) (line : Option Notice) (s : State)
    → Means S told x e s → IsLink told l link → S.means y (with_line_if line s.filter) → Means S told y (with_link_of l e) (with_line line (with_link link s))
line_mean S told x y e l link None s h stands k =
    record { filter = k; on = h.on; sees = record { replays = h.sees.replays; link = stands; shows_skips = h.sees.shows_skips; skips = h.sees.skips }; took_done = h.took_done; first_clock = h.first_clock; volatile = h.volatile }
line_mean S told x y e l link (Some n) s h stands k =
    record { filter = k; on = h.on; sees = record { replays = h.sees.replays; link = stands; shows_skips = h.sees.shows_skips; skips = h.sees.skips }; took_done = h.took_done; first_clock = h.first_clock; volatile = h.volatile }

module _ {X R A : Type 0} (S : steps.Sense X) (told : R → Told) (f : Arrow State A) (x y : X) (e : Own R) (l : Linked R) (a : A) (line : Option Notice) where
  -- A part of the link's, whose line was noted, is a part of the whole, where the remote counts the faults that the line reports.
  pub lift_link : (u : Unit {0}) → ((s : State) → IsLink told e.agent.link s.link → Ended told f s e.agent.link a line l)
      → AsksFailed (faults_in (lines_of line)) (told_of told e) (told l.remote)
      → steps.Answers S steps.Any (noted (with_line_if line)) x (Ok u) y → Answers (whole S told) Any f (x, e) (Ok a) (y, with_link_of l e)
  lift_link u ends rose h = record {
    leads = λ s i p.
        let d = h.leads s.filter i.filter (record {}) in let n = ends s i.sees.link in (
          with_line line (with_link n.link s),
          leads_ends (f s) (told e.agent.link.remote) (told l.remote) a (with_line line (with_link n.link s)) n.leads,
          subst (λ (t : Filter). S.moved x y s.filter t) (d.1.1 ∙ sym (line_noted line (with_link n.link s))) d.2,
          (line_mean S told x y e l n.link line s i n.stands (subst (λ (t : Filter). S.means y t) d.1.1 d.3), rose_by line n.link s (told_of told e) (told l.remote) rose),
        );
  }

  -- without memory for the line, whatever the link did
  pub link_lost : (g : Own R) → steps.Answers S steps.Any (noted (with_line_if line)) x (Err OutOfMemory) y → Answers (whole S told) Any f (x, e) (Err OutOfMemory) (y, g)
  link_lost g h = record { leads = λ s i p. let d = h.leads s.filter i.filter (record {}) in (model.with_filter d.0 s, record {}, d.2, d.3) }

  pub link_fails : (g : Own R) (q : CallError) → steps.Answers S steps.Any (noted (with_line_if line)) x (Err q) y → Answers (whole S told) Any f (x, e) (Err q) (y, g)
  link_fails g (No c) h = record { leads = λ s i p. absurd (h.leads s.filter i.filter (record {})).1.1 }
  link_fails g OutOfMemory h = link_lost g h

-- a message reports no fault, and the remote stays as it is

posted_rose : (m : Frame) (p : Posted) (old new : Told) → new ≡ old → p.line ≡ posted_line m p → AsksFailed (faults_in (lines_of p.line)) old new
posted_rose m p old new same line =
    subst (λ (n : ℕ). AsksFailed n old new) (sym (ap (λ (o : Option Notice). faults_in (lines_of o)) line ∙ posted_quiet m p))
    (subst (λ (t : Told). AsksFailed 0 old t) (sym same) (failed_none old))

pub posted : {X R : Type 0} (S : steps.Sense X) (told : R → Told) (m : Frame) (x y : X) (e g : Own R) (p : Posted) (u : Unit {0}) → Posts told m e.agent.link p g.agent.link → g ≡ with_link_of g.agent.link e
    → p.line ≡ posted_line m p → g.agent.link.remote ≡ e.agent.link.remote
    → steps.Answers S steps.Any (noted (with_line_if p.line)) x (Ok u) y → Answers (whole S told) Any (post m) (x, e) (Ok p.kept) (y, g)
posted {X} {R} S told m x y e g p u h is line same k =
    subst (λ (o : Own R). Answers (whole S told) Any (post m) (x, e) (Ok p.kept) (y, o)) (sym is)
    (lift_link S told (post m) x y e g.agent.link p.kept p.line u (λ s i. (h.ends s i).0) (posted_rose m p (told e.agent.link.remote) (told g.agent.link.remote) (ap told same) line) k)

-- a request that comes to the remote

pub came : {X R : Type 0} (S : steps.Sense X) (told : R → Told) (n : ℕ) (q : Request) (x y : X) (e g : Own R) (r : Option Reply) (line : Option Notice) (u : Unit {0})
    → links.Does told (come n q) e.agent.link r line g.agent.link → g ≡ with_link_of g.agent.link e → Rises line (told e.agent.link.remote) (told g.agent.link.remote)
    → steps.Answers S steps.Any (noted (with_line_if line)) x (Ok u) y → Answers (whole S told) Any (come n q) (x, e) (Ok r) (y, g)
came {X} {R} S told n q x y e g r line u h is rises k =
    subst (λ (o : Own R). Answers (whole S told) Any (come n q) (x, e) (Ok r) (y, o)) (sym is)
    (lift_link S told (come n q) x y e g.agent.link r line u h.ends (rises_by line (told e.agent.link.remote) (told g.agent.link.remote) rises) k)

-- without memory for it
pub link_stays : {X R A : Type 0} (S : steps.Sense X) (told : R → Told) (f : Arrow State A) (x : X) (e g : Own R) → Answers (whole S told) Any f (x, e) (Err OutOfMemory) (x, g)
link_stays S told f x e g = record { leads = λ s i p. (s, record {}, S.stays x s.filter i.filter, S.endures x s.filter i.filter) }

pub inline_read : {X R : Type 0} (S : steps.Sense X) (told : R → Told) (x : X) (e : Own R) (b : Bool) → b ≡ e.agent.link.inline → Reads (whole S told) Any is_inline (x, e) b
inline_read S told x e b is = record { is = λ s i p. is ∙ i.sees.link.inline }
