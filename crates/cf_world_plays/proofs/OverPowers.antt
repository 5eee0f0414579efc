-- Runs over the power cuts of a disk.
use Rattle.std.proofs.Common.{◌≡◌, ◌<◌, ℕ, ◌+◌, ◌-◌, ◌^◌, List, [], ◌∷◌, ◌++◌, refl, sym, ap, subst, ◌∙◌}
use Rattle.std.specs.Prelude.{Option, Some}
use Rattle.cf_filter_events.specs.Faulted.{faults_shown}
use Rattle.cf_filter_events.specs.Pasts.{Gains, StandsFor as Images, last_image}
use Rattle.cf_base.specs.declared.answers.Answer.{Answer}
use Rattle.cf_base.specs.declared.events.DeviceEvent.TheVariants as device
use Rattle.cf_base.specs.declared.events.Event.{Event}
use Rattle.cf_base.specs.declared.events.Event.TheVariants as event
use Rattle.cf_base.specs.declared.policies.Choice.{Choice}
use Rattle.cf_base.specs.declared.policies.Mode.{Mode}
use Rattle.cf_link.specs.Listed.{listed}
use Rattle.cf_model.specs.Lawful.{IsStep, Runs}
use Rattle.cf_model.specs.Powers.{IsPower, RunsOver, StandsFor}
use Rattle.cf_model.specs.State.{State}
use Rattle.cf_world_plays.specs.RemoteFaults.{ReportsListed}

-- more power cuts behind those of an event
pub power_more : (stands : StandsFor) (last : Option (List ℕ)) (e : Event) (a : Answer) (t : State) (powers : List (Choice × List ℕ)) (after : Option (List ℕ)) (rest more : List (Choice × List ℕ))
    → IsPower stands last e a t powers after rest → IsPower stands last e a t (powers ++ more) after (rest ++ more)
power_more stands last (event.Device (device.Crash choice)) a t [] after rest more h = absurd h
power_more stands last (event.Device (device.Crash choice)) a t (w ∷ ws) after rest more h = (h.0, h.1, ap (λ (l : List (Choice × List ℕ)). l ++ more) h.2)
power_more stands last (event.Device device.Restart) a t powers after rest more h = (h.0, h.1, ap (λ (l : List (Choice × List ℕ)). l ++ more) h.2)
power_more stands last (event.Device (device.Stop calls)) a t powers after rest more h = (h.0, ap (λ (l : List (Choice × List ℕ)). l ++ more) h.1)
power_more stands last (event.Call c) a t powers after rest more h = (h.0, ap (λ (l : List (Choice × List ℕ)). l ++ more) h.1)
power_more stands last (event.Peer e) a t powers after rest more h = (h.0, ap (λ (l : List (Choice × List ℕ)). l ++ more) h.1)
power_more stands last (event.Engine e) a t powers after rest more h = (h.0, ap (λ (l : List (Choice × List ℕ)). l ++ more) h.1)
power_more stands last (event.Provider e) a t powers after rest more h = (h.0, ap (λ (l : List (Choice × List ℕ)). l ++ more) h.1)

pub same_last : (last after : Option (List ℕ)) (powers rest : List (Choice × List ℕ)) → after ≡ last → rest ≡ powers → last_image last powers ≡ last_image after rest
same_last last after powers rest o l = sym (ap (λ (r : List (Choice × List ℕ)). last_image after r) l ∙ ap (λ (i : Option (List ℕ)). last_image i powers) o)

-- the image that is the last after an event and the rest is that of all
pub power_last : (stands : StandsFor) (last : Option (List ℕ)) (e : Event) (a : Answer) (t : State) (powers : List (Choice × List ℕ)) (after : Option (List ℕ)) (rest : List (Choice × List ℕ))
    → IsPower stands last e a t powers after rest → last_image last powers ≡ last_image after rest
power_last stands last (event.Device (device.Crash choice)) a t [] after rest h = absurd h
power_last stands last (event.Device (device.Crash choice)) a t (w ∷ ws) after rest h = same_last (Some w.1) after ws rest h.1 h.2
power_last stands last (event.Device device.Restart) a t powers after rest h = same_last last after powers rest h.1 h.2
power_last stands last (event.Device (device.Stop calls)) a t powers after rest h = same_last last after powers rest h.0 h.1
power_last stands last (event.Call c) a t powers after rest h = same_last last after powers rest h.0 h.1
power_last stands last (event.Peer e) a t powers after rest h = same_last last after powers rest h.0 h.1
power_last stands last (event.Engine e) a t powers after rest h = same_last last after powers rest h.0 h.1
power_last stands last (event.Provider e) a t powers after rest h = same_last last after powers rest h.0 h.1

pub last_then : (last : Option (List ℕ)) (powers more : List (Choice × List ℕ)) → last_image (last_image last powers) more ≡ last_image last (powers ++ more)
last_then last [] more = refl
last_then last (w ∷ ws) more = last_then (Some w.1) ws more

pub after_all : (stands : StandsFor) (last : Option (List ℕ)) (e : Event) (a : Answer) (t : State) (powers : List (Choice × List ℕ)) (after : Option (List ℕ)) → IsPower stands last e a t powers after [] → after ≡ last_image last powers
after_all stands last e a t powers after h = sym (power_last stands last e a t powers after [] h)

-- one more step, with its power cuts
pub over_push : (stands : StandsFor) (m : Mode) (last : Option (List ℕ)) (s mid t : State) (trace : List (Event × Answer)) (powers more : List (Choice × List ℕ)) (e : Event) (a : Answer) (after : Option (List ℕ))
    → RunsOver stands m last s trace powers mid → IsStep m mid e a t → IsPower stands (last_image last powers) e a t more after [] → RunsOver stands m last s (trace ++ (e, a) ∷ []) (powers ++ more) t
over_push stands m last s mid t [] powers more e a after h is power =
    let alone : IsPower stands last e a t more after [] = subst (λ (l : List (Choice × List ℕ)). IsPower stands (last_image last l) e a t more after []) h.1 power in (
      t,
      after,
      [],
      subst (λ (x : State). IsStep m x e a t) h.0 is,
      subst (λ (l : List (Choice × List ℕ)). IsPower stands last e a t (l ++ more) after []) (sym h.1) alone,
      (refl, refl),
    )
over_push stands m last s mid t (p ∷ ps) powers more e a after h is power = (
  h.0,
  h.1,
  h.2 ++ more,
  h.3,
  power_more stands last p.0 p.1 h.0 powers h.1 h.2 more h.4,
  over_push stands m h.1 h.0 mid t ps h.2 more e a after h.5 is (subst (λ (o : Option (List ℕ)). IsPower stands o e a t more after []) (power_last stands last p.0 p.1 h.0 powers h.1 h.2 h.4) power),
)

-- one more event, of which the asks that are listed are as many as its answer reports
pub listed_push : (fails : List ℕ) (m : Mode) (last : Option (List ℕ)) (s mid t : State) (trace : List (Event × Answer)) (powers more : List (Choice × List ℕ)) (e : Event) (a : Answer) (after : Option (List ℕ))
    (runs : RunsOver Images m last s trace powers mid) (is : IsStep m mid e a t) (power : IsPower Images (last_image last powers) e a t more after [])
    → ReportsListed fails m last s trace powers mid runs → (t.link.remote_asks < 2 ^ 64 - 1 → listed fails mid.link.remote_asks + faults_shown a ≡ listed fails t.link.remote_asks)
    → ReportsListed fails m last s (trace ++ (e, a) ∷ []) (powers ++ more) t (over_push Images m last s mid t trace powers more e a after runs is power)
unfolding over_push
listed_push fails m last s mid t [] powers more e a after runs is power h step =
    (subst (λ (x : State). t.link.remote_asks < 2 ^ 64 - 1 → listed fails x.link.remote_asks + faults_shown a ≡ listed fails t.link.remote_asks) runs.0 step, record {})
listed_push fails m last s mid t (p ∷ ps) powers more e a after runs is power h step =
    (h.0, listed_push fails m runs.1 runs.0 mid t ps runs.2 more e a after runs.5 is _ h.1 step)

-- a run over power cuts is a run
pub over_runs : (stands : StandsFor) (m : Mode) (last : Option (List ℕ)) (s t : State) (trace : List (Event × Answer)) (powers : List (Choice × List ℕ)) → RunsOver stands m last s trace powers t → Runs m s trace t
over_runs stands m last s t [] powers h = h.0
over_runs stands m last s t (p ∷ ps) powers h = (h.0, h.3, over_runs stands m h.1 h.0 t ps h.2 h.5)

pub gains_then : (powers more : List (Choice × List ℕ)) (old mid new : Option (List (Choice × List ℕ))) → Gains powers old mid → Gains more mid new → Gains (powers ++ more) old new
gains_then [] more old mid new h k = subst (λ (o : Option (List (Choice × List ℕ))). Gains more o new) h k
gains_then (w ∷ ws) more old mid new h k = (h.0, h.1, gains_then ws more h.0 mid new h.2 k)
