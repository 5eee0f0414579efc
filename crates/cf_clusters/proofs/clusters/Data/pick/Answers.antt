use Rattle.std.proofs.Common.{◌≡◌, ◌<◌, ℕ, Bool, List, length, ap, subst, sym, ◌∙◌}
use Rattle.std.specs.List.{position_or_len}
use Rattle.cf_clusters.specs.declared.uses.Use.{Use}
use Rattle.cf_clusters.specs.declared.uses.Use.TheVariants.{Free}
use Rattle.cf_clusters.specs.Layout.{uses_from}
use Rattle.cf_clusters.specs.Roles.{how_many, is_free, use_of}
use Rattle.cf_clusters.proofs.FreeOnes.{first_free, first_is_free, several, some_free}
use Rattle.cf_clusters.proofs.clusters.Data.pick.Goals as goal

pub returns-clause-lowest : goal.returns-clause-lowest
returns-clause-lowest c =
    c.least.ensures ∙ ap (λ (l : List Bool). position_or_len (λ b. b) l) c.self.invariant.free_ones
    ∙ first_free (uses_from c.self.inside.free c.self.inside.staged c.self.inside.held c.self.inside.places.items)
    ∙ ap (λ (us : List Use). position_or_len is_free us) c.self.view_is

pub returns-clause-some : goal.returns-clause-some
returns-clause-some c =
    let us = c.args.self.now in
    let some : 0 < how_many is_free us = several c.self.inside.free c.self.inside.staged (how_many is_free us) c.if-self.false c.self.invariant.layout.first
    (sym (ap (λ (v : List Use). how_many is_free v) c.self.view_is) ∙ c.self.invariant.layout.free_count) in
    subst (λ (k : ℕ). (k < length us) × (use_of us k ≡ Free)) (sym (returns-clause-lowest c)) (some_free us some, first_is_free us some)
