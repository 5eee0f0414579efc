use Rattle.std.proofs.Common.{◌≡◌, ◌∙◌, ◌||◌, ◌++◌, ◌≤◌, ◌^◌, List, ap, arith, length, subst, sym}
use Rattle.cf_base.specs.declared.spans.Span.{Span}
use Rattle.cf_ask_rule.proofs.Flags.{length_flags}
use Rattle.cf_ask_rule.proofs.Following.{lacks_next, next_small}
use Rattle.cf_ask_rule.proofs.sights.Sight.next_lacking.Goals as goal
use Rattle.cf_ask_rule.specs.Nexts.{IsNext}
use Rattle.cf_model.specs.Missing.{View}
use Rattle.cf_ranges.specs.Positions.{contains}

pub returns-clause-next : goal.returns-clause-next
returns-clause-next c =
    lacks_next c.self.inside.absent.items c.self.inside.bare.items c.self.inside.size c.args.from c.args.self.now c.below.result (ap (λ (v : View). v.lacks) (sym c.self.view_is))
    (c.below.ensures (λ p. contains c.self.inside.absent.items p || contains c.self.inside.bare.items p) c.args.from
    (c.lesser.ensures (contains c.self.inside.absent.items) (contains c.self.inside.bare.items) c.args.from
    (subst (λ (v : List Span). IsNext (contains v) c.args.from c.next_in-absent.result) c.deref.ensures.value c.next_in-absent.ensures.next)
    (subst (λ (v : List Span). IsNext (contains v) c.args.from c.next_in-bare.result) c.deref-2.ensures.value c.next_in-bare.ensures.next)))

pub returns-clause-small : goal.returns-clause-small
returns-clause-small c =
    let e : c.self.inside.size ≡ length c.args.self.now.lacks = sym (length_flags (c.self.inside.absent.items ++ c.self.inside.bare.items) c.self.inside.size) ∙ ap (λ (v : View). length v.lacks) c.self.view_is in
    let k : length c.args.self.now.lacks ≤ 2 ^ 24 = omega (arith, c.self.invariant.0, e) in
    next_small c.args.self.now c.args.from c.below.result k (returns-clause-next c)
