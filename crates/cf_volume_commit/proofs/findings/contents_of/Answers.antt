use Rattle.std.proofs.Common.{List, ℕ, inr, subst}
use Rattle.cf_volume_image.specs.Causes.{IsCause}
use Rattle.cf_volume_image.specs.States.{IsContentsIn}
use Rattle.cf_model.specs.Formats.{Image}
use Rattle.cf_volume_commit.proofs.findings.contents_of.Goals as goal

pub returns-in_ok-damage_of-in-Err-clause-cause : goal.returns-in_ok-damage_of-in-Err-clause-cause
returns-in_ok-damage_of-in-Err-clause-cause c =
    let image = c.as_slice.ensures in
    let payloads = c.as_slice-2.ensures in (
      c.in_ok-damage_of-in-Err.ensures.damage c.args.clusters
          (subst (λ (i : List ℕ). IsCause c.args.found.now.format i c.args.found.now.payloads c.args.clusters c.in-Err.fault) image
          (subst (λ (ps : List (List ℕ)). IsCause c.args.found.now.format c.as_slice.result.now ps c.args.clusters c.in-Err.fault) payloads c.in-Err.ensures.cause)),
      inr
          (subst (λ (i : List ℕ). (s : Image) → IsContentsIn c.args.found.now.format i c.args.found.now.payloads c.args.clusters s → ⊥) image
          (subst (λ (ps : List (List ℕ)). (s : Image) → IsContentsIn c.args.found.now.format c.as_slice.result.now ps c.args.clusters s → ⊥) payloads (c.in-Err.ensures.none c.in_ok-damage_of-in-Err.ensures.known))),
    )
