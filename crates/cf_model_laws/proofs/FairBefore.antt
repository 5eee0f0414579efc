-- A remote that kept its rules so far did so before.
use Rattle.std.proofs.Common.{List}
use Rattle.cf_base.specs.declared.answers.Answer.{Answer}
use Rattle.cf_base.specs.declared.events.Event.{Event}
use Rattle.cf_base.specs.declared.policies.Mode.TheVariants as mode
use Rattle.cf_model.specs.Lawful.{Runs}
use Rattle.cf_model.specs.State.{State}
use Rattle.cf_model_laws.specs.Invariant.{Invariant}
use Rattle.cf_model_laws.specs.Premises.{IsFair}
use Rattle.cf_model_laws.proofs.BesideGuarded.{BesideRuns, Fact, HoldsIn, whole_beside}
use Rattle.cf_model_laws.proofs.ContentLaws.{sound_whole}
use Rattle.cf_model_laws.proofs.EventsGuarded.{runs_keep}

abbrev WasFair : State → Fact
WasFair s l e p log hs hn ws wn = IsFair l → IsFair s.link

fair_runs : (s : State) → BesideRuns (WasFair s)
fair_runs s = record {
  beside = record {
    puts = λ l tokens c x sound fit h. h;
    ends = λ l e p log hs hn ws wn stays h. h;
    begins = λ l tokens n x sound h. h;
    opens = λ l item x h. h;
    closes = λ l e p log hs hn ws wn stays h. h;
    stops = λ l e p log hs hn ws wn h. h;
    grows = λ l k e p log hs hn ws wn fair h z. h (fair z).0;
  };
  removes = λ l tokens item x sound idle h. h;
  crashes = λ l e p log hs hn ws wn h. h;
  opens = λ l p epoch v hs hn ws wn more h. h;
}

pub fair_before : (s : State) (trace : List (Event × Answer)) (t : State) → Invariant s → Runs mode.Replay s trace t → IsFair t.link → IsFair s.link
fair_before s trace t sound runs = (runs_keep (λ u. Invariant u × HoldsIn (WasFair s) u) (whole_beside (WasFair s) (fair_runs s) Invariant sound_whole) s trace t runs (sound, λ z. z)).1
