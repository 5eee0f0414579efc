-- What an engine has of its own, and how that and what stands for a filter stand for the whole state.
use Rattle.std.proofs.Common.{◌≡◌, ℕ, ◌+◌, Bool, true, false, refl}
use Rattle.std.specs.Prelude.{Option, Some, None, unwrap_or}
use Rattle.cf_base.specs.declared.policies.Mode.TheVariants as mode
use Rattle.cf_engine_provider.specs.Agencies.{Agency, Sees, agency_to}
use Rattle.cf_engine_steps.specs.Answering.{Whole}
use Rattle.cf_engine_steps.specs.Faults.{Rose, fault_lines, rose_both, rose_none}
use Rattle.cf_link.specs.Linked.{IsLink, Linked}
use Rattle.cf_model.specs.State.{On, State, Volatile}
use Rattle.cf_remote.specs.Told.{Told}
use Rattle.cf_filter_steps.specs.Answering.{Sense}

-- the provider, which has the link, and whether and how many steps were left out in the running event; of that event also whether a
-- Done was taken, and the clock of the first feed that was applied; and what is known until the volume is opened again
pub record Own (R : Type 0) : Type 0 where
  pub agent : Agency R
  pub took_done : Bool
  pub first_clock : Option ℕ
  pub volatile : Volatile

pub record Means {X R : Type 0} (S : Sense X) (told : R → Told) (x : X) (e : Own R) (s : State) : Type 0 where
  pub filter : S.means x s.filter
  pub on : s.power ≡ On
  pub sees : Sees told e.agent s
  pub took_done : e.took_done ≡ s.running.took_done
  pub first_clock : e.first_clock ≡ s.running.first_clock
  pub volatile : e.volatile ≡ s.volatile

-- The link stands also where the device stopped a part: other devices and crashes go on with it.
pub record Stopped {X R : Type 0} (S : Sense X) (told : R → Told) (x y : X) (f : Own R) (t : State) : Type 0 where
  pub filter : S.stopped x y t.filter
  pub on : t.power ≡ On
  pub replays : t.mode ≡ mode.Replay
  pub link : IsLink told f.agent.link t.link

-- the same engine with another remote
abbrev pub own_to : {R S : Type 0} → S → Own R → Own S
own_to remote e = record { agent = agency_to remote e.agent; took_done = e.took_done; first_clock = e.first_clock; volatile = e.volatile }

-- with another link, and with one step more that was left out

abbrev pub with_link_of : {R : Type 0} → Linked R → Own R → Own R
with_link_of l e = record e { agent = record e.agent { link = l } }

abbrev pub with_skip_counted : {R : Type 0} → Own R → Own R
with_skip_counted e = record e { agent = record e.agent { skips = e.agent.skips + 1 } }

-- as an event begins, in which nothing was left out, and no Done taken and no feed applied

abbrev pub event_begun : {R : Type 0} → Own R → Own R
event_begun e = record e { agent = record e.agent { shows_skips = false; skips = 0 }; took_done = false; first_clock = None }

-- with lines of the steps that are left out

abbrev pub with_skips_shown : {R : Type 0} → Own R → Own R
with_skips_shown e = record e { agent = record e.agent { shows_skips = true } }

-- with something else known until the volume is opened again
abbrev pub with_volatile_of : {R : Type 0} → (Volatile → Volatile) → Own R → Own R
with_volatile_of f e = record e { volatile = f e.volatile }

-- with the facts of the running event: whether a Done was taken, and the clock of the first feed

abbrev pub with_took_done : {R : Type 0} → Bool → Own R → Own R
with_took_done b e = record e { took_done = b }

abbrev pub with_clock_of : {R : Type 0} → ℕ → Own R → Own R
with_clock_of clock e = record e { first_clock = Some (unwrap_or e.first_clock clock) }

-- what its remote reports
abbrev pub told_of : {R : Type 0} → (R → Told) → Own R → Told
told_of told e = told e.agent.link.remote

abbrev pub whole : {X R : Type 0} → Sense X → (R → Told) → Whole (X × Own R)
whole S told = record {
  means = λ x s. Means S told x.0 x.1 s;
  stopped = λ x y t. Stopped S told x.0 y.0 y.1 t;
  durable = λ x s. S.durable x.0 s.filter;
  moved = λ x y s t. S.moved x.0 y.0 s.filter t.filter;
  counted = λ x y s t. Rose (told_of told x.1) (told_of told y.1) (fault_lines s.filter) (fault_lines t.filter);
  endures = λ x s h. S.endures x.0 s.filter h.filter;
  stays = λ x s h. S.stays x.0 s.filter h.filter;
  goes_on = λ x y z s t u a b. S.goes_on x.0 y.0 z.0 s.filter t.filter u.filter a b;
  stops_on = λ x y z s t u a b. record { filter = S.stops_on x.0 y.0 z.0 s.filter t.filter u.filter a b.filter; on = b.on; replays = b.replays; link = b.link };
  counts_none = λ x s. rose_none (told_of told x.1) (fault_lines s.filter) (fault_lines s.filter) refl;
  counts_on = λ x y z s t u a b. rose_both (told_of told x.1) (told_of told y.1) (told_of told z.1) (fault_lines s.filter) (fault_lines t.filter) (fault_lines u.filter) a b;
}
