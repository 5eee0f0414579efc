use Rattle.std.proofs.Common.{◌≡◌, ℕ, ◌∙◌, subst, sym, true}
use Rattle.std.specs.Prelude.{IfOk, map}
use Rattle.cf_clusters.specs.Roles.{Opens}
use Rattle.cf_model.specs.Standing.{are_apart, clusters_of}
use Rattle.cf_table.specs.Spelling.{row_value}
use Rattle.cf_volume_commit.proofs.FoundParts.{finds, there}
use Rattle.cf_volume_commit.proofs.Refusals.{device_rose, no_volume, only_found, same_error}
use Rattle.cf_volume_commit.proofs.openings.find.Goals as goal

pub parts_of-requires : goal.parts_of-requires
parts_of-requires g c =
    subst (λ (n : ℕ). are_apart n (clusters_of (map row_value c.in-Ok.volume.1.rows.rows)) ≡ true) (sym c.clusters_of_disk-clusters.ensures) c.in-Ok.ensures.told.sound.apart

pub returns-in-Ok-clause-found : goal.returns-in-Ok-clause-found
returns-in-Ok-clause-found g c =
    finds c.one_content.ensures (g.D.Disk.state c.args.disk.now) (g.D.Disk.state c.read_volume.new.disk) c.in-Ok.volume.0 c.in-Ok.volume.1 c.in-Ok.ensures.opened c.read_volume.ensures.reads.keeps.seen c.in-Ok.ensures.told
    c.in-Ok.ensures.durable c.in-Ok.ensures.room c.parts_of.result c.parts_of.ensures.journal c.parts_of.ensures.below c.parts_of.ensures.image c.parts_of.ensures.rows
    (subst (λ (n : ℕ). IfOk c.parts_of.result (λ p. Opens n (clusters_of (map row_value p.contents.rows.rows)) p.held)) c.clusters_of_disk-clusters.ensures c.parts_of.ensures.held)
    (subst (λ (n : ℕ). IfOk c.parts_of.result (λ p. p.limit ≡ n)) c.limit_of-limit.ensures c.parts_of.ensures.limit)

pub returns-in-Ok-clause-last : goal.returns-in-Ok-clause-last
returns-in-Ok-clause-last g c = λ is. (
  _,
  there c.one_content.ensures (g.D.Disk.state c.args.disk.now) (g.D.Disk.state c.read_volume.new.disk) c.in-Ok.volume.0 c.in-Ok.volume.1 c.in-Ok.ensures.opened c.read_volume.ensures.reads.keeps.seen c.in-Ok.ensures.told,
  c.parts_of.ensures.last is,
)

pub returns-in-Err-clause-none : goal.returns-in-Err-clause-none
returns-in-Err-clause-none g c = λ is. no_volume c.in-Err.why (g.D.Disk.state c.args.disk.now) (g.D.Disk.state c.read_volume.new.disk) (sym c.refused.ensures ∙ same_error _ _ is) c.in-Err.ensures.cause

pub returns-in-Err-clause-cause : goal.returns-in-Err-clause-cause
returns-in-Err-clause-cause g c = λ is. device_rose c.in-Err.why (g.D.Disk.state c.args.disk.now) (g.D.Disk.state c.read_volume.new.disk) (sym c.refused.ensures ∙ same_error _ _ is) c.in-Err.ensures.cause

pub returns-in-Err-clause-only : goal.returns-in-Err-clause-only
returns-in-Err-clause-only g c = only_found c.in-Err.why c.refused.result c.refused.ensures
