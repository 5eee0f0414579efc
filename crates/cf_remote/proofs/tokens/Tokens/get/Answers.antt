use Rattle.std.proofs.Common.{sym, ap, ◌∙◌}
use Rattle.std.specs.Prelude.{Some}
use Rattle.std.specs.BTreeMap.{get}
use Rattle.cf_remote.specs.Tokens.{recorded_of, token_order}
use Rattle.cf_remote.specs.declared.outcomes.Outcome.{Outcome}
use Rattle.cf_remote.proofs.TokenPlaces.{place_none, place_some, place_within}
use Rattle.cf_remote.proofs.tokens.Tokens.get.Goals as goal

pub returns-in-None : goal.returns-in-None
returns-in-None c = rw (← c.self.view_is) (sym (place_none c.self.inside.records.items c.args.token (get token_order c.self.inside.places c.args.token) (c.self.invariant c.args.token) (sym c.in-None.ensures.value)))

pub outcome_at-requires : goal.outcome_at-requires
outcome_at-requires c = rw c.as_slice-records.ensures.value (place_within c.self.inside.records.items c.args.token (get token_order c.self.inside.places c.args.token) c.in-Some.place.now (c.self.invariant c.args.token) (sym c.in-Some.ensures.value))

pub returns-in-Some : goal.returns-in-Some
returns-in-Some c = rw (← c.self.view_is) (ap (λ (o : Outcome). Some (recorded_of o)) (rw c.as_slice-records.ensures.value at (c.outcome_at.ensures (record { token = c.args.token; outcome = c.outcome_at.result })))
    ∙ place_some c.self.inside.records.items c.args.token (get token_order c.self.inside.places c.args.token) c.in-Some.place.now (record { token = c.args.token; outcome = c.outcome_at.result }) (c.self.invariant c.args.token) (sym c.in-Some.ensures.value))
