use Rattle.std.proofs.Common.{ℕ, ap, ◌∙◌}
use Rattle.std.specs.Prelude.{Some, length, cond}
use Rattle.std.specs.BTreeMap.{get}
use Rattle.std.specs.Ordering.{is_eq}
use Rattle.cf_remote.specs.Tokens.{token_order}
use Rattle.cf_remote.proofs.TokenPlaces.{kept_more}
use Rattle.cf_remote.proofs.tokens.Tokens.record.Goals as goal

pub invariant_of-self-2 : goal.invariant_of-self-2
invariant_of-self-2 c = rw (c.push.ensures.items, c.unwrap.ensures, c.in_ok-reserve.ensures.items)
    (kept_more c.self.inside.records.items (record { token = c.args.token; outcome = c.args.outcome }) c.self.inside.places c.insert.new.self c.self.invariant (λ q. c.in_ok-insert.ensures.updates.0 q ∙ ap (λ (n : ℕ). cond (is_eq (token_order c.args.token q)) (Some n) (get token_order c.self.inside.places q)) (ap length c.as_slice-place.ensures.value ∙ ap length c.in_ok-reserve.ensures.items)))
