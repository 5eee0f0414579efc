-- Callbacks of the engine's own provider, as parts of the whole.
use Rattle.std.proofs.Common.{◌≡◌, List, [], ◌∷◌, refl, sym, ◌∙◌, ap, subst}
use Rattle.std.specs.Prelude.{Result, Ok, Err}
use Rattle.cf_base.specs.declared.answers.Shown.{Shown}
use Rattle.cf_base.specs.declared.codes.CallError.{CallError}
use Rattle.cf_base.specs.declared.codes.CallError.TheVariants.{No, OutOfMemory}
use Rattle.cf_base.specs.declared.waits.Ask.{Ask}
use Rattle.cf_engine_host.specs.CallbackLaws.{Plays, drains_all, drains_cut}
use Rattle.cf_engine_host.specs.Callbacks.{AnswersOn, CutOff, Drained, NoneFailed}
use Rattle.cf_engine_host.specs.Draining.{DrainsBy}
use Rattle.cf_engine_provider.specs.Agencies.{Agency, Sees, faults_among}
use Rattle.cf_engine_provider.specs.Answering as provider
use Rattle.cf_engine_provider.proofs.Called.{callback_ends, callback_stops}
use Rattle.cf_engine_steps.specs.Answering.{Answers, Any, On}
use Rattle.cf_engine_steps.specs.Faults.{Rose, fault_lines, rose_both, rose_none}
use Rattle.cf_engine_steps.specs.Quiet.{Quiet}
use Rattle.cf_engine_steps.specs.States.{Means, Own, whole}
use Rattle.cf_engine_steps.proofs.CallbacksAside.{Aside, aside_of, drained_aside}
use Rattle.cf_engine_steps.proofs.Laws.{fails_first, goes_on}
use Rattle.cf_engine_steps.proofs.Lifting.{lift_filter, sees_filter}
use Rattle.cf_engine_steps.proofs.QuietParts.{acts_lines}
use Rattle.cf_model.specs.Arrows.{Arrow, unit}
use Rattle.cf_model.specs.Callbacks.{begin_call, calling, drain, drained, finish, finish_call}
use Rattle.cf_model.specs.Numbers.{most}
use Rattle.cf_model.specs.Ports.{Act, Acts, Did, Failed, HasFailed, Noted, with_rest}
use Rattle.cf_model.specs.State.{Filter, State, in_filter, with_filter}
use Rattle.cf_model.proofs.TreeLaws.{kept_at_end, kept_at_stop}
use Rattle.cf_remote.specs.Told.{Told}
use Rattle.cf_filter_steps.specs.Answering as steps

none_failed : (acts : List Act) → NoneFailed acts → HasFailed acts → ⊥
none_failed [] n f = f
none_failed (Did seen op answer ∷ acts) n f = none_failed acts n f
none_failed (Failed seen op ∷ acts) n f = n
none_failed (Noted m ∷ acts) n f = none_failed acts n f

-- the end of a call
pub quiet_finish : (a : Shown) → Quiet (finish a)
quiet_finish a = record { keeps = λ n. record { keeps = λ s h. h } }

module _ {R : Type 0} (told : R → Told) where
  -- the provider plays the callbacks of the definitions
  pub plays : Plays (provider.Answers told) (Sees told)
  plays = record {
    called = λ p x asks h. sees_filter told p x (record x.filter { outbox = asks }) h;
    over = λ p x h. sees_filter told p x (begin_call x.filter) h;
    ends = λ p q x ask acts t seen sees shows good keeps gives does none.
        let l = callback_ends told p q seen _ acts x t gives sees (record { shows = shows; is = refl; book = keeps }) does (none_failed acts none) in
        (l.state, l.filter, l.sees, l.is);
    stops = λ p q x ask acts t seen sees shows good keeps gives does failed.
        let l = callback_stops told p q seen _ acts x t gives sees (record { shows = shows; is = refl; book = keeps }) does failed in
        (l.state, l.filter, l.sees, l.is);
  }

  -- the remote's count rises with the lines of faults

  abbrev RoseFor : Agency R → Agency R → Filter → Filter → Type 0
  RoseFor p q s t = Rose (told p.link.remote) (told q.link.remote) (fault_lines s) (fault_lines t)

  rose_run : (ask : Ask) (p q : Agency R) (s t : Filter) (acts : List Act) → AnswersOn (provider.Answers told) ask p s acts q → Acts s acts t → RoseFor p q s t
  rose_run ask p q s t acts h does = record { more = faults_among acts; lines = acts_lines acts s t does; failed = h.gives.faults }

  rose_then : (p m q : Agency R) (s u t : Filter) → RoseFor p m s u → RoseFor m q u t → RoseFor p q s t
  rose_then p m q s u t h k = rose_both (told p.link.remote) (told m.link.remote) (told q.link.remote) (fault_lines s) (fault_lines u) (fault_lines t) h k

  rose_all : (runs : List (List Act)) (p q : Agency R) (s t : Filter) → Drained (provider.Answers told) p s runs q t → RoseFor p q s t
  rose_all [] p q s t h =
      subst (λ (z : Agency R). RoseFor p z s t) (sym h.2) (rose_none (told p.link.remote) (fault_lines s) (fault_lines t) (ap fault_lines h.1))
  rose_all (acts ∷ more) p q s t h = rose_then p h.6 q s h.3 t (rose_run h.0 p h.6 (with_rest h.1 s) h.3 acts h.7 h.4) (rose_all more h.6 q h.3 t h.8)

  rose_cut : (runs : List (List Act)) (p q : Agency R) (s t : Filter) → CutOff (provider.Answers told) p s runs q t → RoseFor p q s t
  rose_cut [] p q s t h = absurd h
  rose_cut (acts ∷ []) p q s t h = rose_run h.0 p q (with_rest h.1 s) t acts h.5 h.3
  rose_cut (acts ∷ next ∷ more) p q s t h = rose_then p h.6 q s h.3 t (rose_run h.0 p h.6 (with_rest h.1 s) h.3 acts h.7 h.4) (rose_cut (next ∷ more) h.6 q h.3 t h.8)

  module _ {X : Type 0} (S : steps.Sense X) (x y : X) (e : Own R) (q : Agency R) where
    abbrev after : Own R
    after = record e { agent = q }

    still : (s t : State) → Means S told x e s → aside_of t ≡ aside_of s → S.means y t.filter → Sees told q t → Means S told y after t
    still s t h same k sees = record {
      filter = k;
      on = ap (λ (a : Aside). a.1) same ∙ h.on;
      sees = sees;
      took_done = h.took_done ∙ sym (ap (λ (a : Aside). a.2) same);
      first_clock = h.first_clock ∙ sym (ap (λ (a : Aside). a.3) same);
      volatile = h.volatile ∙ sym (ap (λ (a : Aside). a.0) same);
    }

    drain_done : (u : Unit {0}) → DrainsBy S (provider.Answers told) e.agent x (Ok u) q y → Answers (whole S told) Any drain (x, e) (Ok unit) (y, after)
    drain_done u h = record {
      leads = λ s i any.
          let d = h.leads s.filter i.filter in
          let back = d.2.0 in
          let a = drains_all (provider.Answers told) (Sees told) plays back.runs most e.agent q s d.0 back.few i.sees back.drained in
          let kept : aside_of a.0 ≡ aside_of s = kept_at_end (λ (t : State). aside_of t ≡ aside_of s) (drained most s) unit a.0 ((drained_aside (aside_of s) most).keeps s refl) a.3 in (
            a.0,
            a.3,
            subst (λ (t : Filter). S.moved x y s.filter t) (sym a.1) d.1,
            (
              still s a.0 i kept (subst (λ (t : Filter). S.means y t) (sym a.1) d.2.1) a.2,
              subst (λ (t : Filter). RoseFor e.agent q s.filter t) (sym a.1) (rose_all back.runs e.agent q s.filter d.0 back.drained),
            ),
          );
    }

    drain_fails : (c : CallError) → DrainsBy S (provider.Answers told) e.agent x (Err c) q y → Answers (whole S told) Any drain (x, e) (Err c) (y, after)
    drain_fails (No c) h = record {
      leads = λ s i any.
          let d = h.leads s.filter i.filter in
          let back = d.2.1 in
          let a = drains_cut (provider.Answers told) (Sees told) plays back.runs most e.agent q s d.0 back.few i.sees back.cut in
          let kept : aside_of a.0 ≡ aside_of s = kept_at_stop (λ (t : State). aside_of t ≡ aside_of s) (drained most s) a.0 ((drained_aside (aside_of s) most).keeps s refl) a.3 in (
            a.0,
            (d.2.0, a.3),
            subst (λ (t : Filter). S.moved x y s.filter t) (sym a.1) d.1,
            (
              record { filter = subst (λ (t : Filter). S.stopped x y t) (sym a.1) d.2.2; on = ap (λ (o : Aside). o.1) kept ∙ i.on; replays = a.2.replays; link = a.2.link },
              subst (λ (t : Filter). RoseFor e.agent q s.filter t) (sym a.1) (rose_cut back.runs e.agent q s.filter d.0 back.cut),
            ),
          );
    }
    drain_fails OutOfMemory h = record { leads = λ s i any. let d = h.leads s.filter i.filter in (with_filter d.0 s, record {}, d.1, d.2) }

  -- the same as the code comes to it

  pub drained_all : {X : Type 0} (S : steps.Sense X) (x y : X) (e f : Own R) (u : Unit {0}) → f ≡ record e { agent = f.agent } → DrainsBy S (provider.Answers told) e.agent x (Ok u) f.agent y → Answers (whole S told) Any drain (x, e) (Ok unit) (y, f)
  drained_all S x y e f u is h = subst (λ (o : Own R). Answers (whole S told) Any drain (x, e) (Ok unit) (y, o)) (sym is) (drain_done S x y e f.agent u h)

  pub drained_cut : {X : Type 0} (S : steps.Sense X) (x y : X) (e f : Own R) (c : CallError) → f ≡ record e { agent = f.agent } → DrainsBy S (provider.Answers told) e.agent x (Err c) f.agent y → Answers (whole S told) Any drain (x, e) (Err c) (y, f)
  drained_cut S x y e f c is h = subst (λ (o : Own R). Answers (whole S told) Any drain (x, e) (Err c) (y, o)) (sym is) (drain_fails S x y e f.agent c h)

  -- A part of the filter, and then its callbacks, is a call.

  module _ {X : Type 0} (S : steps.Sense X) (P : Filter → Type 0) (part : Arrow Filter Shown) (quiet : Quiet part) (x m y : X) (e f : Own R) where
    pub calling_on : (a : Shown) (r : Result Shown CallError) → steps.Answers S P part x (Ok a) m → Answers (whole S told) Any (finish_call a) (m, e) r (y, f) → Answers (whole S told) (On P) (calling part) (x, e) r (y, f)
    calling_on a r h k = goes_on (whole S told) (On P) Any (in_filter part) finish_call (x, e) (m, e) (y, f) a r (λ s t p d. record {}) (lift_filter S told P part x m e (Ok a) quiet h) k

    pub calling_fails : (c : CallError) → steps.Answers S P part x (Err c) m → Answers (whole S told) (On P) (calling part) (x, e) (Err c) (m, e)
    calling_fails c h = fails_first (whole S told) (On P) (in_filter part) finish_call (x, e) (m, e) c (lift_filter S told P part x m e (Err c) quiet h)
