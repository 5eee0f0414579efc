-- What holds of every lawful trace of two devices.
use Rattle.std.proofs.Common.{List, [], ◌∷◌}
use Rattle.cf_pair_events.specs.declared.answers.PairAnswer.{PairAnswer}
use Rattle.cf_pair_events.specs.declared.answers.PairAnswer.TheVariants as answer
use Rattle.cf_pair_events.specs.declared.comparisons.Comparison.TheVariants as comparison
use Rattle.cf_pair_events.specs.declared.events.PairEvent.{PairEvent}
use Rattle.cf_pair_events.specs.declared.events.PairEvent.TheVariants as pair
use Rattle.cf_pair_run.specs.Led.{AgreeBy, EqualsAgree, Promised}
use Rattle.cf_pair_traces.proofs.EqualTrees.{contents_agree, trees_agree}
use Rattle.cf_pair_traces.proofs.OneRemote.{grows, one_version}
use Rattle.cf_pair_traces.specs.Pairs.{IsPairStep, Pair, PairRuns}

agrees : (p q : Pair) (e : PairEvent) (a : PairAnswer) → IsPairStep p e a q → AgreeBy a p
agrees p q e (answer.Event a) h = record {}
agrees p q e (answer.Comparison (comparison.Unequal path)) h = record {}
agrees p q e (answer.Comparison (comparison.Refused c)) h = record {}
agrees p q (pair.Of d e) (answer.Comparison comparison.Equal) h = absurd h
agrees p q (pair.Peer e) (answer.Comparison comparison.Equal) h = absurd h
agrees p q pair.Compare (answer.Comparison comparison.Equal) h = record { trees = λ path. trees_agree p.first p.second path h.0; contents = λ held path i j. contents_agree held p.first p.second path i j h.0 }

equals_agree : (p : Pair) (trace : List (PairEvent × PairAnswer)) (q : Pair) (runs : PairRuns p trace q) → EqualsAgree p trace q runs
equals_agree p [] q runs = record {}
equals_agree p (x ∷ xs) q runs = (agrees p runs.0 x.0 x.1 runs.1, equals_agree runs.0 xs q runs.2)

pub promised : (p : Pair) (trace : List (PairEvent × PairAnswer)) (q : Pair) → PairRuns p trace q → Promised p trace q
promised p trace q runs = record { runs = runs; one = one_version p trace q runs; grows = grows p trace q runs; equals = equals_agree p trace q runs }
