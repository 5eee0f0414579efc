-- One remote through the traces of two devices.
use Rattle.std.proofs.Common.{◌≡◌, ◌⊎◌, inl, inr, List, [], ◌∷◌, refl, sym, ap, ◌∙◌, subst, ℕ}
use Rattle.std.specs.Prelude.{Some}
use Rattle.cf_base.specs.declared.answers.Answer.{Answer}
use Rattle.cf_base.specs.declared.events.Event.{Event}
use Rattle.cf_base.specs.declared.events.Event.TheVariants as event
use Rattle.cf_base.specs.declared.ids.Rid.{Rid}
use Rattle.cf_base.specs.declared.ids.Token.{Token}
use Rattle.cf_base.specs.declared.ids.Version.{Version}
use Rattle.cf_base.specs.declared.policies.Mode.TheVariants as mode
use Rattle.cf_model.specs.Growth.{Extends}
use Rattle.cf_model.specs.Lawful.{IsStep}
use Rattle.cf_model.specs.State.{State}
use Rattle.cf_model.specs.Store.{Held, bytes_of, recorded_at}
use Rattle.cf_model.proofs.RemoteLaws.{runs_extend}
use Rattle.cf_model_headline.specs.Tokens.{OneVersionEach, WasDone}
use Rattle.cf_model_headline.proofs.TokenLaws.{one_version_each}
use Rattle.cf_pair_events.specs.declared.answers.PairAnswer.{PairAnswer}
use Rattle.cf_pair_events.specs.declared.answers.PairAnswer.TheVariants as answer
use Rattle.cf_pair_events.specs.declared.events.PairEvent.{PairEvent}
use Rattle.cf_pair_events.specs.declared.events.PairEvent.TheVariants as pair
use Rattle.cf_pair_model.proofs.Crossings.{recorded_crossed, token_twice}
use Rattle.cf_pair_model.specs.Crossed.{crossed, crossed_held}
use Rattle.cf_pair_model.specs.Seen.{held_seen}
use Rattle.cf_pair_model.specs.declared.devices.Device.{Device}
use Rattle.cf_pair_model.specs.declared.devices.Device.TheVariants as device
use Rattle.cf_pair_traces.specs.Pairs.{IsPairStep, Pair, PairRuns, facing, state_of}

-- one remote after another
pub record Follows (old new : Held) : Type 0 where
  pub one : OneVersionEach old new
  pub more : Extends old new

follows_on : (a b c : Held) → Follows a b → Follows b c → Follows a c
follows_on a b c f g = record {
  one = record {
    made = λ rid version bytes e. made rid version bytes (g.one.made rid version bytes e);
    one = g.one.one;
  };
  more = record {
    versions = λ rid version bytes e. g.more.versions rid version bytes (f.more.versions rid version bytes e);
    tokens = λ token r e. g.more.tokens token r (f.more.tokens token r e);
  };
} where
  made : (rid : Rid) (version : Version) (bytes : List ℕ) → (bytes_of b rid version ≡ Some bytes) ⊎ ((token : Token) × WasDone c token rid version) → (bytes_of a rid version ≡ Some bytes) ⊎ ((token : Token) × WasDone c token rid version)
  made rid version bytes (inr h) = inr h
  made rid version bytes (inl h) = elim (f.one.made rid version bytes h) as (λ _. (bytes_of a rid version ≡ Some bytes) ⊎ ((token : Token) × WasDone c token rid version))
      [ inl k ↦ inl k | inr k ↦ inr (k.0, g.more.tokens k.0 _ k.1) ]

-- of one device

alone : (s : State) (e : Event) (a : Answer) (t : State) → IsStep mode.Replay s e a t → Follows s.link.remote t.link.remote
alone s e a t is = record {
  one = one_version_each mode.Replay s ((e, a) ∷ []) t (t, is, refl);
  more = runs_extend mode.Replay s ((e, a) ∷ []) t (t, is, refl);
}

-- the records of a remote and of what the second device sees of it
record_back : (held : Held) (token : Token) → recorded_at (crossed_held held).tokens (crossed token) ≡ recorded_at held.tokens token
record_back held token = recorded_crossed held.tokens (crossed token) ∙ ap (recorded_at held.tokens) (token_twice token)

seen : (d : Device) (old new : Held) → Follows (held_seen d old) new → Follows old (held_seen d new)
seen device.First old new h = h
seen device.Second old new h = record {
  one = record {
    made = λ rid version bytes e. made rid version bytes (h.one.made rid version bytes e);
    one = λ token rid other version next x y. h.one.one (crossed token) rid other version next (sym (recorded_crossed new.tokens token) ∙ x) (sym (recorded_crossed new.tokens token) ∙ y);
  };
  more = record {
    versions = h.more.versions;
    tokens = λ token r e. recorded_crossed new.tokens token ∙ h.more.tokens (crossed token) r (record_back old token ∙ e);
  };
} where
  made : (rid : Rid) (version : Version) (bytes : List ℕ) → (bytes_of old rid version ≡ Some bytes) ⊎ ((token : Token) × WasDone new token rid version) → (bytes_of old rid version ≡ Some bytes) ⊎ ((token : Token) × WasDone (crossed_held new) token rid version)
  made rid version bytes (inl k) = inl k
  made rid version bytes (inr k) = inr (crossed k.0, record_back new k.0 ∙ k.1)

-- of both

nothing_new : (p : Pair) → Follows p.held p.held
nothing_new p =
    let s : State = facing p.held p.first in
    record { one = one_version_each mode.Replay s [] s refl; more = runs_extend mode.Replay s [] s refl }

step_follows : (p q : Pair) (e : PairEvent) (a : PairAnswer) → IsPairStep p e a q → Follows p.held q.held
step_follows p q (pair.Of d e) (answer.Event a) h =
    subst (λ (x : Pair). Follows p.held x.held) (sym h.3) (seen d p.held h.1.link.remote (alone (facing (held_seen d p.held) (state_of d p)) e a h.1 h.2))
step_follows p q (pair.Peer e) (answer.Event a) h =
    subst (λ (x : Pair). Follows p.held x.held) (sym h.2) (alone (facing p.held p.third) (event.Peer e) a h.0 h.1)
step_follows p q pair.Compare (answer.Comparison c) h = subst (λ (x : Pair). Follows p.held x.held) (sym h.1) (nothing_new p)
step_follows p q (pair.Of d e) (answer.Comparison c) h = absurd h
step_follows p q (pair.Peer e) (answer.Comparison c) h = absurd h
step_follows p q pair.Compare (answer.Event a) h = absurd h

follows : (p : Pair) (trace : List (PairEvent × PairAnswer)) (q : Pair) → PairRuns p trace q → Follows p.held q.held
follows p [] q h = subst (λ (x : Pair). Follows p.held x.held) (sym h) (nothing_new p)
follows p (e ∷ es) q h = follows_on p.held h.0.held q.held (step_follows p h.0 e.0 e.1 h.1) (follows h.0 es q h.2)

pub one_version : (p : Pair) (trace : List (PairEvent × PairAnswer)) (q : Pair) → PairRuns p trace q → OneVersionEach p.held q.held
one_version p trace q h = (follows p trace q h).one

pub grows : (p : Pair) (trace : List (PairEvent × PairAnswer)) (q : Pair) → PairRuns p trace q → Extends p.held q.held
grows p trace q h = (follows p trace q h).more
