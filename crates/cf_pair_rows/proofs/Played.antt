-- What is played is lawful.
use Rattle.std.proofs.Common.{◌≡◌, true, false, List, [], ◌∷◌, refl}
use Rattle.cf_base.specs.declared.events.Event.{Event}
use Rattle.cf_base.specs.declared.events.Event.TheVariants as event
use Rattle.cf_base.specs.declared.policies.Mode.TheVariants as mode
use Rattle.cf_model.specs.Events.{is_of, on_event}
use Rattle.cf_model.specs.Trees.{plainly}
use Rattle.cf_pair_events.specs.OfDevices.{is_of_device}
use Rattle.cf_pair_events.specs.declared.events.PairEvent.{PairEvent}
use Rattle.cf_pair_events.specs.declared.events.PairEvent.TheVariants as pair
use Rattle.cf_pair_model.specs.Seen.{held_seen}
use Rattle.cf_pair_traces.specs.Pairs.{IsPairStep, Pair, PairRuns, facing, state_of}
use Rattle.cf_pair_rows.specs.Scripts.{ArePlayable, IsPlayable, acted, answered, played, reported}

of_replay : (e : Event) → is_of_device e ≡ true → is_of mode.Replay e ≡ true
of_replay (event.Call c) h = refl
of_replay (event.Device d) h = refl
of_replay (event.Engine x) h = refl
of_replay (event.Peer p) h = refl
of_replay (event.Provider p) h = let bad : false ≡ true = h in cc

acted_lawfully : (p : Pair) (e : PairEvent) → IsPlayable e → IsPairStep p e (answered p e) (acted p e)
acted_lawfully p (pair.Of d e) h = (h, (on_event plainly (facing (held_seen d p.held) (state_of d p)) e).0, (of_replay e h, plainly, refl), refl)
acted_lawfully p (pair.Peer e) h = ((on_event plainly (facing p.held p.third) (event.Peer e)).0, (refl, plainly, refl), refl)
acted_lawfully p pair.Compare h = absurd h

pub played_lawfully : (p : Pair) (events : List PairEvent) → ArePlayable events → PairRuns p (reported p events) (played p events)
played_lawfully p [] h = refl
played_lawfully p (e ∷ es) h = (acted p e, acted_lawfully p e h.0, played_lawfully (acted p e) es h.1)
