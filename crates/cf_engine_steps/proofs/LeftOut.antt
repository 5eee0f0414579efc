-- A step that is left out, as its count and its line.
use Rattle.std.proofs.Common.{◌≡◌, ◌+◌, ℕ, Bool, true, false, [], ◌∷◌, refl, sym, ◌∙◌, ap, subst}
use Rattle.std.specs.Prelude.{Ok, Err, None}
use Rattle.cf_base.specs.declared.codes.Code.{Code}
use Rattle.cf_base.specs.declared.codes.CallError.{CallError}
use Rattle.cf_base.specs.declared.codes.CallError.TheVariants.{No, OutOfMemory}
use Rattle.cf_base.specs.declared.notices.Notice.TheVariants as notice
use Rattle.cf_engine_steps.specs.Answering.{Answers, Any}
use Rattle.cf_engine_steps.specs.Faults.{fault_lines, rose_none}
use Rattle.cf_engine_steps.specs.States.{Own, told_of, whole, with_skip_counted}
use Rattle.cf_engine_steps.specs.Lines.{with_line_if}
use Rattle.cf_engine_steps.specs.Lines.{with_skip}
use Rattle.cf_engine_steps.proofs.Lifting.{quiet_notes}
use Rattle.cf_model.specs.Arrows.{noted, unit}
use Rattle.cf_model.specs.Skips.{skip, skip_line}
use Rattle.cf_model.specs.State.{Filter, State, with_filter}
use Rattle.cf_remote.specs.Told.{Told}
use Rattle.cf_filter_steps.specs.Answering as steps

-- no line
pub no_line : {X : Type 0} (S : steps.Sense X) (c : Code) (x : X) → steps.Answers S steps.Any (noted (with_skip false c)) x (Ok unit) x
no_line S c x = record { leads = λ s h p. (s, (refl, refl), S.stays x s h, h) }

abbrev with_count : State → State
with_count s = record s { running = record s.running { skips = s.running.skips + 1 } }

line_is : (b : Bool) (c : Code) (s : State) → skip_line b c (with_count s) ≡ with_filter (with_skip b c s.filter) (with_count s)
line_is true c s = refl
line_is false c s = refl

quiet_skip : (b : Bool) (c : Code) (s : Filter) → fault_lines (with_skip b c s) ≡ fault_lines s
quiet_skip true c s = quiet_notes (fault_lines s) (notice.Skipped c ∷ []) s refl refl
quiet_skip false c s = refl

module _ {X R : Type 0} (S : steps.Sense X) (told : R → Told) (c : Code) (x y : X) (e : Own R) where
  pub left_out_ok : (u : Unit {0}) → steps.Answers S steps.Any (noted (with_skip e.agent.shows_skips c)) x (Ok u) y → Answers (whole S told) Any (skip c) (x, e) (Ok unit) (y, with_skip_counted e)
  left_out_ok u h = record {
    leads = λ s i p.
        let l = h.leads s.filter i.filter (record {}) in (
          with_filter l.0 (with_count s),
          (refl, ap (λ (f : Filter). with_filter f (with_count s)) l.1.1 ∙ sym (line_is e.agent.shows_skips c s) ∙ ap (λ (b : Bool). skip_line b c (with_count s)) i.sees.shows_skips),
          l.2,
          (
            record { filter = l.3; on = i.on; sees = record { replays = i.sees.replays; link = i.sees.link; shows_skips = i.sees.shows_skips; skips = ap (λ (n : ℕ). n + 1) i.sees.skips }; took_done = i.took_done; first_clock = i.first_clock; volatile = i.volatile },
            rose_none (told_of told e) (fault_lines s.filter) (fault_lines l.0) (ap fault_lines l.1.1 ∙ quiet_skip e.agent.shows_skips c s.filter),
          ),
        );
  }

  -- without memory to count it
  pub left_out_full : (u : Unit {0}) → steps.Answers S steps.Any (noted (with_skip e.agent.shows_skips c)) x (Ok u) y → Answers (whole S told) Any (skip c) (x, e) (Err OutOfMemory) (y, e)
  left_out_full u h = record {
    leads = λ s i p. let l = h.leads s.filter i.filter (record {}) in (with_filter l.0 s, record {}, l.2, S.endures y l.0 l.3);
  }

  pub left_out_fails : (f : CallError) → steps.Answers S steps.Any (noted (with_skip e.agent.shows_skips c)) x (Err f) y → Answers (whole S told) Any (skip c) (x, e) (Err f) (y, e)
  left_out_fails (No d) h = record { leads = λ s i p. absurd ((h.leads s.filter i.filter (record {})).1.1) }
  left_out_fails OutOfMemory h = record { leads = λ s i p. let l = h.leads s.filter i.filter (record {}) in (with_filter l.0 s, record {}, l.2, l.3) }

-- the same as the code comes to it: with what it read, and with what it left
pub skip_ok : {X R : Type 0} (S : steps.Sense X) (told : R → Told) (c : Code) (x y : X) (e f : Own R) (b : Bool) (u : Unit {0})
    → b ≡ e.agent.shows_skips → f ≡ with_skip_counted e → steps.Answers S steps.Any (noted (with_skip b c)) x (Ok u) y → Answers (whole S told) Any (skip c) (x, e) (Ok unit) (y, f)
skip_ok {X} {R} S told c x y e f b u is new h =
    subst (λ (o : Own R). Answers (whole S told) Any (skip c) (x, e) (Ok unit) (y, o)) (sym new)
    (left_out_ok S told c x y e u (subst (λ (d : Bool). steps.Answers S steps.Any (noted (with_skip d c)) x (Ok u) y) is h))

pub skip_full : {X R : Type 0} (S : steps.Sense X) (told : R → Told) (c : Code) (x y : X) (e f : Own R) (b : Bool) (u : Unit {0})
    → b ≡ e.agent.shows_skips → f ≡ e → steps.Answers S steps.Any (noted (with_skip b c)) x (Ok u) y → Answers (whole S told) Any (skip c) (x, e) (Err OutOfMemory) (y, f)
skip_full {X} {R} S told c x y e f b u is new h =
    subst (λ (o : Own R). Answers (whole S told) Any (skip c) (x, e) (Err OutOfMemory) (y, o)) (sym new)
    (left_out_full S told c x y e u (subst (λ (d : Bool). steps.Answers S steps.Any (noted (with_skip d c)) x (Ok u) y) is h))

pub skip_fails : {X R : Type 0} (S : steps.Sense X) (told : R → Told) (c : Code) (x y : X) (e : Own R) (b : Bool) (f : CallError)
    → b ≡ e.agent.shows_skips → steps.Answers S steps.Any (noted (with_skip b c)) x (Err f) y → Answers (whole S told) Any (skip c) (x, e) (Err f) (y, e)
skip_fails S told c x y e b f is h = left_out_fails S told c x y e f (subst (λ (d : Bool). steps.Answers S steps.Any (noted (with_skip d c)) x (Err f) y) is h)

pub nothing_noted : {X : Type 0} (S : steps.Sense X) (x : X) → steps.Answers S steps.Any (noted (with_line_if None)) x (Ok unit) x
nothing_noted S x = record { leads = λ s h p. (s, (refl, refl), S.stays x s h, h) }
