-- A read that misses nothing is answered at once.
use Rattle.std.proofs.Common.{◌≡◌, ◌+◌, ℕ, Bool, true, false, List, ◌∷◌, refl, sym, ◌∙◌, ap, subst, inl, inr}
use Rattle.std.specs.Prelude.{Option, Some, None, Result, Ok, not, slice_range, ◌==◌}
use Rattle.cf_base.specs.declared.answers.Answer.{Answer}
use Rattle.cf_base.specs.declared.answers.Shown.{Shown}
use Rattle.cf_base.specs.declared.answers.Shown.TheVariants as shown
use Rattle.cf_base.specs.declared.calls.Call.TheVariants as call
use Rattle.cf_base.specs.declared.codes.Code.{Code}
use Rattle.cf_base.specs.declared.codes.Code.TheVariants as code
use Rattle.cf_base.specs.declared.events.Event.{Event}
use Rattle.cf_base.specs.declared.events.Event.TheVariants as event
use Rattle.cf_base.specs.declared.ids.Handle.{Handle}
use Rattle.cf_base.specs.declared.policies.Mode.TheVariants as mode
use Rattle.cf_base.specs.declared.spans.Span.{Span}
use Rattle.cf_base.specs.declared.waits.Cause.TheVariants as cause
use Rattle.cf_base.specs.declared.waits.End.{End}
use Rattle.cf_base.specs.declared.waits.End.TheVariants as end
use Rattle.cf_base.specs.declared.waits.WaitKind.TheVariants as wait_kind
use Rattle.cf_model.specs.Arrows.{Arrow, choose}
use Rattle.cf_model.specs.Callbacks.{calling, drain, finish, finish_call, result_of}
use Rattle.cf_model.specs.Events.{begun, needs_volume, no_power, no_volume, tree_of}
use Rattle.cf_model.specs.Growth.{Extends}
use Rattle.cf_model.specs.Identities.{content}
use Rattle.cf_model.specs.Items.{Item, item_of}
use Rattle.cf_model.specs.Lawful.{IsStep, Runs}
use Rattle.cf_model.specs.LookUp.{find_path}
use Rattle.cf_model.specs.Missing.{View, Wait, is_met, misses, span_of, view_of}
use Rattle.cf_model.specs.Settling.{end_of, no_view, view_at}
use Rattle.cf_model.specs.State.{Filter, On, Open, State, in_filter, items_now, start, with_filter}
use Rattle.cf_model.specs.Store.{Held}
use Rattle.cf_model.specs.Trees.{Asked, Ends, Fork, Ret, Step, Tree}
use Rattle.cf_model.specs.Waits.{Need, answer_or_begin, but_directory, end_now, get, get_item, is_met_now, need, on_ok, on_open, opened_by, plain_need, read, read_item, read_need, refused, wait_for, wants_rest}
use Rattle.cf_model.specs.Words.{part}
use Rattle.cf_model.proofs.RemoteLaws.{runs_extend}
use Rattle.cf_model_laws.specs.Invariant.{All, HasBase, Invariant}
use Rattle.cf_model_laws.specs.Premises.{IsFair, IsFresh}
use Rattle.cf_model_laws.proofs.ContentLaws.{run_sound, sound_reads}
use Rattle.cf_model_laws.proofs.FoundItems.{found_there}
use Rattle.cf_model_laws.proofs.Gathered.{all_found, all_weaker}
use Rattle.cf_model_laws.proofs.Leading.{Leads, leads_any, leads_bind, leads_mapped}
use Rattle.cf_model_laws.proofs.LoggedGuarded.{content_grows}
use Rattle.cf_model_laws.proofs.RightItems.{no_way}
use Rattle.cf_model_headline.specs.Reads.{Reads, ReadsAtOnce, wait_on}
use Rattle.cf_model_headline.specs.Reports.{OfEach, Report}
use Rattle.cf_model_laws.proofs.FairBefore.{fair_before}
use Rattle.cf_model_headline.proofs.StepCases.{IsCase, IsOver, step_case}

abbrev Any : {S : Type 0} → S → Type 0
Any s = Unit {0}

-- a need that misses nothing
need_leads : (n : Need) (s : Filter) (r : Shown) → is_met_now n s ≡ true → end_now n s ≡ r → Leads Any (λ q t. q ≡ r) (need n s)
need_leads n s r met ends = subst (λ (b : Bool). Leads Any (λ q t. q ≡ r) (answer_or_begin n b s)) (sym met) (tt, ends)

get_leads : (path : List ℕ) (asked : Span) (i : Item) (s : Filter) (r : Shown) → find_path s.volume.items path ≡ Ok i → i.directory ≡ false
    → is_met_now (plain_need wait_kind.Read i.id asked) s ≡ true → end_now (plain_need wait_kind.Read i.id asked) s ≡ r → Leads Any (λ q t. q ≡ r) (get path asked s)
get_leads path asked i s r found file met ends = subst (λ (x : Result Item Code). Leads Any (λ q t. q ≡ r) (on_ok (but_directory (get_item asked)) x s)) (sym found) (by i.directory file) where
  by : (b : Bool) → b ≡ false → Leads Any (λ q t. q ≡ r) (choose b (refused code.IsDirectory) (get_item asked i) s)
  by true z = no_way (sym z)
  by false z = need_leads (plain_need wait_kind.Read i.id asked) s r met ends

read_leads : (h : Handle) (asked : Span) (o : Open) (s : Filter) (r : Shown) → opened_by h s ≡ Some o → is_met_now (read_need h asked o.item (wants_rest s)) s ≡ true → end_now (read_need h asked o.item (wants_rest s)) s ≡ r → Leads Any (λ q t. q ≡ r) (read h asked s)
read_leads h asked o s r opened met ends = subst (λ (x : Option Open). Leads Any (λ q t. q ≡ r) (on_open (read_item h asked) x s)) (sym opened) (need_leads (read_need h asked o.item (wants_rest s)) s r met ends)

-- the end of the call leaves an answer that ended
calling_leads : (part : Arrow Filter Shown) (s : State) (e : End) → Leads Any (λ q t. q ≡ shown.Ended e) (part s.filter) → Leads Any (λ q t. q ≡ shown.Ended e) (calling part s)
calling_leads part s e h =
    leads_bind Any (λ q t. q ≡ shown.Ended e) (λ q t. q ≡ shown.Ended e) (in_filter part s) finish_call
    (leads_mapped Any (λ q t. q ≡ shown.Ended e) Any (λ q t. q ≡ shown.Ended e) (λ x. with_filter x s) (part s.filter) (λ x k. k) (λ q x k. k) h)
    (λ q t k. leads_bind Any (λ a u. Unit {0}) (λ p u. p ≡ shown.Ended e) (drain t) (λ _ u. in_filter (finish q) u) (leads_any (λ a u. Unit {0}) (drain t) (λ a u. tt))
    (λ a u j. ap (λ (x : Shown). result_of x u.filter) k))

pub led_ends : {S A : Type 0} (Q : A → S → Type 0) (p : Tree S A) (a : A) (t : S) → Leads Any Q p → Ends p a t → Q a t
led_ends Q (Ret b s) a t h (d, e) = rw d (rw e h)
led_ends Q (Step s p) a t h e = led_ends Q p a t h.1 e
led_ends Q (Fork p q) a t h (inl e) = led_ends Q p a t h.0 e
led_ends Q (Fork p q) a t h (inr e) = led_ends Q q a t h.1 e
led_ends Q (Asked k) a t h e = led_ends Q (k e.0) a t (h e.0) e.1

-- what a read of the file meets

met_by : (x : Filter) (i : Item) (asked : Span) (w : Wait) → item_of x.volume.items w.item ≡ Some i → w.kind ≡ wait_kind.Read → w.span ≡ asked → misses (view_of x.policy i) (wait_on i asked) ≡ false → is_met (view_at x w.item) w ≡ true
met_by x i asked w found kind span none = by (ap (part (view_of x.policy) no_view) found) where
  same : ◌≡◌ {A = Wait} w (record w { kind = wait_kind.Read; span = asked })
  same = ap (λ k. record w { kind = k }) kind ∙ ap (λ p. record w { kind = wait_kind.Read; span = p }) span

  read : is_met (view_of x.policy i) (record w { kind = wait_kind.Read; span = asked }) ≡ true
  read = ap (λ (b : Bool). not b) none

  by : view_at x w.item ≡ view_of x.policy i → is_met (view_at x w.item) w ≡ true
  by view = subst (λ (v : View). is_met v w ≡ true) (sym view) (subst (λ (u : Wait). is_met (view_of x.policy i) u ≡ true) (sym same) read)

module _ (s : State) (sound : Invariant s) (fair : IsFair s.link) (held : Held) (more : Extends s.link.remote held) where
  abbrev Shows : Item → Span → Shown
  Shows i asked = shown.Ended (end.Data (slice_range (content held i) asked.start (asked.start + asked.len)))

  ended : (w : Wait) (i : Item) (asked : Span) → item_of (items_now s) w.item ≡ Some i → i.directory ≡ false → w.kind ≡ wait_kind.Read → w.span ≡ asked → misses (view_of s.filter.policy i) (wait_on i asked) ≡ false
      → shown.Ended (end_of (items_now s) w cause.Met) ≡ Shows i asked
  ended w i asked found file kind span none =
      ap (λ (d : End). shown.Ended d)
      (sound_reads s sound fair w i kind found file (met_by s.filter i asked w found kind span none)
      ∙ ap (λ (p : Span). end.Data (slice_range (content s.link.remote i) p.start (p.start + p.len))) span
      ∙ ap (λ (c : List ℕ). end.Data (slice_range c asked.start (asked.start + asked.len))) (sym (content_grows s.link.remote held more i (all_found (λ j. HasBase s.link.remote j.identity) (λ j. j.id.0 == w.item.0) (items_now s) i found based).0)))
    where
      based : All (λ j. HasBase s.link.remote j.identity) (items_now s)
      based = all_weaker _ (λ j. HasBase s.link.remote j.identity) (λ j k. k.based) (items_now s) (sound.1 fair).now.right

  tree_leads : (e : Event) (i : Item) (asked : Span) → Reads s e i asked → i.directory ≡ false → misses (view_of s.filter.policy i) (wait_on i asked) ≡ false → Leads Any (λ q t. q ≡ Shows i asked) (tree_of e s)
  tree_leads (event.Call (call.Get path offset len)) i asked h file none =
      let there : item_of (items_now s) i.id ≡ Some i = found_there path i s.filter.volume.next_item.0 (items_now s) (sound.1 fair).now.order h.0 file in
      let n : Need = plain_need wait_kind.Read i.id (span_of offset len) in
      calling_leads (get path (span_of offset len)) (begun s) _
      (get_leads path (span_of offset len) i (begun s).filter (Shows i asked) h.0 file (met_by s.filter i asked (wait_for n s.filter) there refl (sym h.1) none) (ended (wait_for n s.filter) i asked there file refl (sym h.1) none))
  tree_leads (event.Call (call.Read handle offset len)) i asked h file none =
      let n : Need = read_need handle (span_of offset len) h.0.item (wants_rest s.filter) in
      calling_leads (read handle (span_of offset len)) (begun s) _
      (read_leads handle (span_of offset len) h.0 (begun s).filter (Shows i asked) h.1 (met_by s.filter i asked (wait_for n s.filter) h.2 refl (sym h.3) none) (ended (wait_for n s.filter) i asked h.2 file refl (sym h.3) none))
  tree_leads e i asked h file none = absurd h

reads_need : (s : State) (e : Event) (i : Item) (asked : Span) → Reads s e i asked → s.power ≡ On → no_volume (needs_volume e) s.power ≡ None
reads_need s (event.Call c) i asked h on = ap no_power on
reads_need s e i asked h on = absurd h

at_once : (remote : Held) (clusters : ℕ) (last : State) → IsFresh remote → IsFair last.link → (before rest : Report) (s : State) (e : Event) (a : Answer) (t : State)
    → Runs mode.Replay (start mode.Replay remote clusters) before s → IsStep mode.Replay s e a t → Runs mode.Replay t rest last → ReadsAtOnce last.link.remote s e a
at_once remote clusters last fresh fair before rest s e a t runs is on i asked reads file power none stop = by (step_case mode.Replay s e a t is) where
  sound : Invariant s
  sound = run_sound remote clusters before s runs fresh

  all : Runs mode.Replay s ((e, a) ∷ rest) last
  all = (t, is, on)

  Goal : Type 0
  Goal = a.shown ≡ shown.Ended (end.Data (slice_range (content last.link.remote i) asked.start (asked.start + asked.len)))

  nothing : (c : Code) → no_volume (needs_volume e) s.power ≡ Some c → Goal
  nothing c z = let y : ◌≡◌ {A = Option Code} None (Some c) = sym (reads_need s e i asked reads power) ∙ z in cc

  over : IsOver s e (t, a) → Goal
  over (inl h) =
      ap (λ (x : Answer). x.shown) h.2
      ∙ led_ends (λ q u. q ≡ shown.Ended (end.Data (slice_range (content last.link.remote i) asked.start (asked.start + asked.len)))) (tree_of e s) h.0 t
      (tree_leads s sound (fair_before s ((e, a) ∷ rest) last sound all fair) last.link.remote (runs_extend mode.Replay s ((e, a) ∷ rest) last all) e i asked reads file none) h.1
  over (inr h) = absurd (stop (ap (λ (x : Answer). x.shown) h.3))

  by : IsCase s e (t, a) → Goal
  by (inl h) = nothing h.0 h.1
  by (inr h) = over h.1

pub reads_at_once : (remote : Held) (clusters : ℕ) (report : Report) (last : State) → IsFresh remote → IsFair last.link → Runs mode.Replay (start mode.Replay remote clusters) report last
    → OfEach mode.Replay remote clusters report last (λ before s e a t. ReadsAtOnce last.link.remote s e a)
reads_at_once remote clusters report last fresh fair runs before rest s e a t parts led is leads = at_once remote clusters last fresh fair before rest s e a t led is leads
