use Rattle.std.proofs.Common.{◌∙◌, List, true, false, subst}
use Rattle.std.specs.List.Sorted.{IsPermutation}
use Rattle.cf_engine_provider.specs.Listings.{known_in, targets_in}
use Rattle.cf_model.specs.Fits.{Known}
use Rattle.cf_engine_provider.proofs.KnownTargets.{alike}
use Rattle.cf_engine_provider.proofs.locals.locals_of.Goals as goal

pub returns : goal.returns
returns c = λ items m.
    alike (known_in items) c.in_ok-files.files.items c.in_ok-directories.directories.items
    (subst (λ (ks : List Known). IsPermutation (targets_in false ks) c.in_ok-files.files.items) (c.deref.ensures.value ∙ c.in_ok-list.ensures items m) c.in_ok-files.ensures.same)
    (subst (λ (ks : List Known). IsPermutation (targets_in true ks) c.in_ok-directories.directories.items) (c.deref-2.ensures.value ∙ c.in_ok-list.ensures items m) c.in_ok-directories.ensures.same)
