use Rattle.std.proofs.Common.{◌&&◌, not, ◌∙◌, ap, subst}
use Rattle.cf_base.specs.declared.ids.Key.{Key}
use Rattle.cf_base.specs.declared.spans.Span.{Span}
use Rattle.cf_ranges.specs.Positions.{in_span}
use Rattle.cf_ranges.specs.Owned.{is_owned, GivesBack}
use Rattle.cf_ranges.proofs.OwnedSets.{owned_kept}
use Rattle.cf_ranges.proofs.claims.Claims.spend.Goals as goal

pub returns-clause-back : goal.returns-clause-back
returns-clause-back c =
    subst (λ (v : Key × Span). GivesBack c.args.self.now c.keep_others.new.owned.items v.1) c.claim.view_is
    (λ b. ap (λ xs. is_owned xs b) c.keep_others.ensures ∙ owned_kept c.self.inside.owned.items c.claim.inside.blocks b
    ∙ ap (λ xs. is_owned xs b && not (in_span c.claim.inside.blocks b)) c.self.view_is)
