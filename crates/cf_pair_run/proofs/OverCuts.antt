-- Runs of two devices over the power cuts of their disks.
use Rattle.std.proofs.Common.{◌≡◌, ◌||◌, ℕ, Bool, false, List, [], ◌∷◌, ◌++◌, refl, sym, ap, subst}
use Rattle.std.specs.Prelude.{Option, Some, None}
use Rattle.cf_base.specs.declared.answers.Answer.{Answer}
use Rattle.cf_base.specs.declared.events.Event.{Event}
use Rattle.cf_base.specs.declared.policies.Choice.{Choice}
use Rattle.cf_filter_events.specs.Pasts.{StandsFor, last_image}
use Rattle.cf_model.specs.State.{State}
use Rattle.cf_pair_events.specs.declared.answers.PairAnswer.{PairAnswer}
use Rattle.cf_pair_events.specs.declared.events.PairEvent.{PairEvent}
use Rattle.cf_pair_identities.specs.NamedPairs.{HasNamed, NamedPair, either_stands_full}
use Rattle.cf_pair_identities.proofs.PairsNamed.{neither, pair_now_named, pair_step_named}
use Rattle.cf_pair_model.specs.declared.devices.Device.TheVariants as device
use Rattle.cf_pair_run.specs.Led.{RunsOver}
use Rattle.cf_pair_settled.specs.Settled.{SaysEqual}
use Rattle.cf_pair_traces.specs.Pairs.{IsPairStep, Pair, PairRuns}
use Rattle.cf_pair_run.specs.Owned.{PowerBy, own}
use Rattle.cf_world_plays.proofs.OverPowers.{power_last, power_more, same_last}

-- more power cuts behind those of an event
by_more : (last : Option (List ℕ)) (o : Option (Event × Answer)) (t : State) (powers : List (Choice × List ℕ)) (after : Option (List ℕ)) (rest more : List (Choice × List ℕ)) → PowerBy last o t powers after rest → PowerBy last o t (powers ++ more) after (rest ++ more)
by_more last None t powers after rest more h = (h.0, ap (λ (l : List (Choice × List ℕ)). l ++ more) h.1)
by_more last (Some x) t powers after rest more h = power_more StandsFor last x.0 x.1 t powers after rest more h

-- the image that is the last after an event and the rest is that of all
pub by_last : (last : Option (List ℕ)) (o : Option (Event × Answer)) (t : State) (powers : List (Choice × List ℕ)) (after : Option (List ℕ)) (rest : List (Choice × List ℕ)) → PowerBy last o t powers after rest → last_image last powers ≡ last_image after rest
by_last last None t powers after rest h = same_last last after powers rest h.0 h.1
by_last last (Some x) t powers after rest h = power_last StandsFor last x.0 x.1 t powers after rest h

-- one more event at the end of one list of power cuts
alone : (last : Option (List ℕ)) (o : Option (Event × Answer)) (t : State) (powers more : List (Choice × List ℕ)) (after : Option (List ℕ)) → powers ≡ [] → PowerBy (last_image last powers) o t more after [] → PowerBy last o t (powers ++ more) after []
alone last o t powers more after none h =
    subst (λ (l : List (Choice × List ℕ)). PowerBy last o t (l ++ more) after []) (sym none) (subst (λ (l : List (Choice × List ℕ)). PowerBy (last_image last l) o t more after []) none h)

-- One more event, where no policy of FULL population stood so far if the flag is not set.
pub over_push : (full : Bool) (a b : Option (List ℕ)) (p mid q : Pair) (trace : List (PairEvent × PairAnswer)) (cuts more cut other : List (Choice × List ℕ)) (e : PairEvent) (x : PairAnswer) (c d : Option (List ℕ))
    → (full ≡ false → NamedPair false p) → RunsOver full a b p trace cuts more mid → IsPairStep mid e x q → (HasNamed false mid → SaysEqual x mid) → PowerBy (last_image a cuts) (own device.First e x) q.first cut c [] → PowerBy (last_image b more) (own device.Second e x) q.second other d []
    → RunsOver full a b p (trace ++ (e, x) ∷ []) (cuts ++ cut) (more ++ other) q
over_push full a b p mid q [] cuts more cut other e x c d named h is says first second = (
  q,
  c,
  d,
  [],
  [],
  (subst (λ (y : Pair). IsPairStep y e x q) h.0 is, λ none. subst (SaysEqual x) h.0 (says (subst (HasNamed false) (sym h.0) (pair_now_named false p (named (neither full (either_stands_full p) none).0))))),
  alone a (own device.First e x) q.first cuts cut c h.1 first,
  alone b (own device.Second e x) q.second more other d h.2 second,
  (refl, refl, refl),
)
over_push full a b p mid q (y ∷ ys) cuts more cut other e x c d named h is says first second = (
  h.0,
  h.1,
  h.2,
  h.3 ++ cut,
  h.4 ++ other,
  h.5,
  by_more a (own device.First y.0 y.1) h.0.first cuts h.1 h.3 cut h.6,
  by_more b (own device.Second y.0 y.1) h.0.second more h.2 h.4 other h.7,
  over_push (full || either_stands_full p) h.1 h.2 h.0 mid q ys h.3 h.4 cut other e x c d
      (λ none. let z = neither full (either_stands_full p) none in pair_step_named false p y.0 y.1 h.0 h.5.0 (λ _. z.1) (named z.0)) h.8 is says
      (subst (λ (o : Option (List ℕ)). PowerBy o (own device.First e x) q.first cut c []) (by_last a (own device.First y.0 y.1) h.0.first cuts h.1 h.3 h.6) first)
      (subst (λ (o : Option (List ℕ)). PowerBy o (own device.Second e x) q.second other d []) (by_last b (own device.Second y.0 y.1) h.0.second more h.2 h.4 h.7) second),
)

-- a run over power cuts is a run
pub over_runs : (full : Bool) (a b : Option (List ℕ)) (p q : Pair) (trace : List (PairEvent × PairAnswer)) (cuts more : List (Choice × List ℕ)) → RunsOver full a b p trace cuts more q → PairRuns p trace q
over_runs full a b p q [] cuts more h = h.0
over_runs full a b p q (x ∷ xs) cuts more h = (h.0, h.5.0, over_runs (full || either_stands_full p) h.1 h.2 h.0 q xs h.3 h.4 h.8)
