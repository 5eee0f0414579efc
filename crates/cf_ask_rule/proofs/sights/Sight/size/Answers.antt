use Rattle.std.proofs.Common.{◌++◌, ◌≡◌, ◌∙◌, length, sym, ap, arith}
use Rattle.cf_ask_rule.proofs.Flags.{length_flags}
use Rattle.cf_ask_rule.proofs.sights.Sight.size.Goals as goal

pub returns-clause-value : goal.returns-clause-value
returns-clause-value c = sym (length_flags (c.self.inside.absent.items ++ c.self.inside.bare.items) c.self.inside.size) ∙ ap (λ v. length v.lacks) c.self.view_is

pub returns-clause-small : goal.returns-clause-small
returns-clause-small c =
    let e : c.self.inside.size ≡ length c.args.self.now.lacks = sym (length_flags (c.self.inside.absent.items ++ c.self.inside.bare.items) c.self.inside.size) ∙ ap (λ v. length v.lacks) c.self.view_is in
    omega (arith, c.self.invariant.0, e)
