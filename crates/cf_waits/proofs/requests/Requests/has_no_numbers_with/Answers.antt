use Rattle.std.proofs.Common.{◌≡◌, ◌∙◌, ◌+◌, ◌||◌, ap, arith, length, sym}
use Rattle.std.specs.Prelude.{nat_lt}
use Rattle.cf_ask_rule.specs.Plans.{Planned}
use Rattle.cf_model.specs.Requests.{Waiting, with_waits}
use Rattle.cf_waits.proofs.Counts.{numbers_by}
use Rattle.cf_waits.proofs.requests.Requests.has_no_numbers_with.Goals as goal

pub returns-then-keys : goal.returns-then-keys
returns-then-keys c =
    let made : c.len-made.result ≡ length c.step.inside.made.items = omega (arith, c.len-made.ensures, c.step.inside.made.ok) in
    c.if-keys.true ∙ ap (λ b. b || c.passes_most-waits.result) (sym c.if-keys.true)
    ∙ numbers_by c.passes_most-keys.result c.passes_most-waits.result c.args.step.now (with_waits c.args.begun.now c.args.self.now) c.step.inside.made.items c.self.inside.key_count (c.self.inside.wait_count + length c.args.begun.now)
    (c.passes_most-keys.ensures ∙ ap (λ n. nat_lt 4294967295 (c.self.inside.key_count + n)) made) c.passes_most-waits.ensures
    (ap (λ (p : Planned). p.made) c.step.view_is) (ap (λ (s : Waiting). s.key_count) c.self.view_is) (ap (λ (s : Waiting). s.wait_count + length c.args.begun.now) c.self.view_is)

pub returns-else-keys : goal.returns-else-keys
returns-else-keys c =
    let made : c.len-made.result ≡ length c.step.inside.made.items = omega (arith, c.len-made.ensures, c.step.inside.made.ok) in
    ap (λ b. b || c.passes_most-waits.result) (sym c.if-keys.false)
    ∙ numbers_by c.passes_most-keys.result c.passes_most-waits.result c.args.step.now (with_waits c.args.begun.now c.args.self.now) c.step.inside.made.items c.self.inside.key_count (c.self.inside.wait_count + length c.args.begun.now)
    (c.passes_most-keys.ensures ∙ ap (λ n. nat_lt 4294967295 (c.self.inside.key_count + n)) made) c.passes_most-waits.ensures
    (ap (λ (p : Planned). p.made) c.step.view_is) (ap (λ (s : Waiting). s.key_count) c.self.view_is) (ap (λ (s : Waiting). s.wait_count + length c.args.begun.now) c.self.view_is)
