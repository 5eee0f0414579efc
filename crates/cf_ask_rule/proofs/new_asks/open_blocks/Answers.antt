use Rattle.std.proofs.Common.{◌∙◌, ◌&&◌, ◌+◌, ◌/◌, ◌<◌, ◌≤◌, ◌^◌, ℕ, List, ap, arith, length, not, subst, sym}
use Rattle.std.specs.List.{AllByRecursion}
use Rattle.cf_base.specs.declared.spans.Span.{Span}
use Rattle.cf_ask_rule.proofs.Runs.{small_filter}
use Rattle.cf_ask_rule.proofs.new_asks.open_blocks.Goals as goal
use Rattle.cf_model.specs.Asks.{is_owned, is_wanted}
use Rattle.cf_ranges.specs.Positions.{contains}

pub returns-clause-open : goal.returns-clause-open
returns-clause-open c = c.in_ok-blocks.ensures (is_wanted c.args.item c.args.v.now c.args.waits.now) (is_owned c.args.item c.args.asks.now) c.requires.wants
    (λ b. ap (λ (s : List Span). contains s b) c.deref.ensures.value ∙ c.in_ok-owned.ensures.owned b)

pub returns-clause-small : goal.returns-clause-small
returns-clause-small c =
    let k : length c.args.v.now.lacks ≤ 2 ^ 24 = c.size-size.ensures.small in
    subst (λ (v : List ℕ). AllByRecursion (λ (b : ℕ). b < 2 ^ 40) v) (sym (returns-clause-open c))
    (small_filter (λ b. is_wanted c.args.item c.args.v.now c.args.waits.now b && not (is_owned c.args.item c.args.asks.now b)) 0 ((length c.args.v.now.lacks + 4095) / 4096) (omega arith))
