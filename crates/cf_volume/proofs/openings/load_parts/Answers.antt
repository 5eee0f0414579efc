use Rattle.std.proofs.Common.{◌≡◌, ◌+◌, refl, sym, ap, subst}
use Rattle.std.specs.Prelude.{Err}
use Rattle.cf_base.specs.declared.codes.Code.TheVariants.{Exhausted, NotAVolume}
use Rattle.cf_volume_points.specs.At.{At}
use Rattle.cf_volume_points.specs.Known.{Known}
use Rattle.cf_volume_points.specs.Standing.{clusters_for, opened}
use Rattle.cf_volume.proofs.OpenedFrom.{opened_from, refused_as_one, steady_opened}
use Rattle.cf_volume.proofs.Stopped.{refused_as}
use Rattle.cf_disk.specs.Disk.{capped}
use Rattle.cf_volume_commit.specs.Loaded.{opening_bytes}
use Rattle.cf_volume_image.specs.Contents.{image_of}
use Rattle.cf_volume.specs.Written.{contents_in}
use Rattle.cf_volume.proofs.openings.load_parts.Goals as goal

pub returns-in-Err-clause-none : goal.returns-in-Err-clause-none
returns-in-Err-clause-none g c = λ epoch log b st. λ is. c.in-Err.ensures.none (ap Err (refused_as c.in-Err.fail NotAVolume is)) epoch log b st

pub returns-in-Err-clause-last : goal.returns-in-Err-clause-last
returns-in-Err-clause-last g c = λ epoch log b st. λ is. (c.in-Err.ensures.last epoch log b st).0 (ap Err (refused_as c.in-Err.fail Exhausted is))

pub returns-in-Ok-clause-ok : goal.returns-in-Ok-clause-ok
returns-in-Ok-clause-ok g c = λ epoch log b st.
    subst (λ (k : Known). At (g.D.Disk.state c.load.new.disk) k (opened (epoch + 1) log b (clusters_for (g.D.Disk.state c.args.disk.now)))) (sym c.parts_of.ensures.known) (c.in-Ok.ensures.ok epoch log b st)

pub returns-in-Ok-clause-more : goal.returns-in-Ok-clause-more
returns-in-Ok-clause-more g c = λ epoch log b st. (c.in-Ok.ensures.last epoch log b st).1 refl

pub returns-in-Ok-clause-found : goal.returns-in-Ok-clause-found
returns-in-Ok-clause-found g c = opened_from (g.D.Disk.state c.args.disk.now).seen c.in-Ok.found _ c.parts_of.ensures.known c.in-Ok.ensures.found

pub returns-in-Err-clause-absent : goal.returns-in-Err-clause-absent
returns-in-Err-clause-absent g c = λ is. c.in-Err.ensures.absent (ap Err (refused_as c.in-Err.fail NotAVolume is))

pub returns-in-Err-clause-exhausted : goal.returns-in-Err-clause-exhausted
returns-in-Err-clause-exhausted g c = λ is. c.in-Err.ensures.exhausted (ap Err (refused_as c.in-Err.fail Exhausted is))

pub returns-in-Err-clause-unwritten : goal.returns-in-Err-clause-unwritten
returns-in-Err-clause-unwritten g c = λ is. c.in-Err.ensures.unwritten (refused_as_one c.in-Err.fail NotAVolume Exhausted is)

pub returns-in-Ok-clause-written : goal.returns-in-Ok-clause-written
returns-in-Ok-clause-written g c = λ x stands.
    subst (λ (k : Known). (g.D.Disk.state c.load.new.disk).written ≡ capped ((g.D.Disk.state c.args.disk.now).written + opening_bytes x (image_of (contents_in k)))) (sym c.parts_of.ensures.known) (c.in-Ok.ensures.written x stands)

pub returns-in-Ok-clause-steady : goal.returns-in-Ok-clause-steady
returns-in-Ok-clause-steady g c = steady_opened _ _ c.in-Ok.found _ c.load.ensures.same_size c.parts_of.ensures.known c.in-Ok.ensures.sound c.in-Ok.ensures.later c.in-Ok.ensures.usable
