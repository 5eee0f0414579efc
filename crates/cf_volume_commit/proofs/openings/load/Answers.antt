use Rattle.std.proofs.Common.{◌≡◌, ◌∙◌, inl, ap, arith, subst, sym}
use Rattle.std.specs.Prelude.{Err, Ok}
use Rattle.cf_base.specs.declared.codes.Code.TheVariants as code
use Rattle.cf_base.specs.declared.codes.CallError.TheVariants as fail
use Rattle.cf_volume_commit.proofs.FoundParts.{image_there, last_epoch}
use Rattle.cf_volume_commit.proofs.LaterNumbers.{raised_later}
use Rattle.cf_volume_commit.proofs.OpenedAgain.{below_most, found_can, found_image, found_stands, opening_at, opening_holds, opening_leaves, opening_sound}
use Rattle.cf_volume_commit.proofs.Refusals.{error_is, not_ok}
use Rattle.cf_volume_commit.specs.Loaded.{StandsOrWas}
use Rattle.cf_disk.specs.Leaving.{leaves_weaker}
use Rattle.cf_journal.specs.Content.{clusters}
use Rattle.cf_volume_image.specs.declared.contents.Contents.{Contents}
use Rattle.cf_model.specs.Numbers.{usn_after}
use Rattle.cf_table.specs.Changing.{IsNext}
use Rattle.cf_volume_commit.proofs.OpenedBytes.{opening_counts, opening_most}
use Rattle.cf_volume_commit.proofs.openings.load.Goals as goal

pub returns-in_err-parts-clause-absent : goal.returns-in_err-parts-clause-absent
returns-in_err-parts-clause-absent g c = λ is. c.in_err-parts.ensures.none (ap Err (error_is c.from_residual.result c.in_err-parts.field-0.0 _ c.from_residual.ensures.1 is))

pub returns-in_err-parts-clause-exhausted : goal.returns-in_err-parts-clause-exhausted
returns-in_err-parts-clause-exhausted g c = λ is. c.in_err-parts.ensures.last (ap Err (error_is c.from_residual.result c.in_err-parts.field-0.0 _ c.from_residual.ensures.1 is))

pub returns-in_err-parts-clause-none : goal.returns-in_err-parts-clause-none
returns-in_err-parts-clause-none g c = λ is e log b st.
    c.in_err-parts.ensures.none (ap Err (error_is c.from_residual.result c.in_err-parts.field-0.0 _ c.from_residual.ensures.1 is)) st.image (image_there e (g.D.Disk.state c.args.disk.now).seen log b st)

pub returns-in_err-parts-clause-last : goal.returns-in_err-parts-clause-last
returns-in_err-parts-clause-last g c = λ e log b st. (
  (λ is. last_epoch c.one_content.ensures (g.D.Disk.state c.args.disk.now).seen (c.in_err-parts.ensures.last (ap Err (error_is c.from_residual.result c.in_err-parts.field-0.0 _ c.from_residual.ensures.1 is))) e log b st),
  (λ ok. absurd (not_ok c.from_residual.result c.in_err-parts.field-0.0 c.from_residual.ensures.1 ok)),
)

pub returns-in_err-parts-clause-crash : goal.returns-in_err-parts-clause-crash
returns-in_err-parts-clause-crash g c = λ e log b st.
    leaves_weaker (g.D.Disk.state c.args.disk.now) (g.D.Disk.state c.find.new.disk) (g.D.Disk.state c.args.disk.now).may_leave (StandsOrWas e log b (g.D.Disk.state c.args.disk.now)) c.find.ensures.reads.leaves (λ d h. inl h)

pub returns-in-Ok-clause-crash : goal.returns-in-Ok-clause-crash
returns-in-Ok-clause-crash g c = λ e log b st.
    let f = c.in_ok-parts.ensures.found in
    opening_leaves (g.D.Disk.state c.args.disk.now) (g.D.Disk.state c.find.new.disk) f.0 c.in_ok-parts.parts f.1 c.requires c.raise.ensures.rise c.raise.ensures.kept e log b st (g.D.Disk.state c.raise.new.disk) c.find.ensures.reads.leaves
    (c.raise.ensures.crash f.0 f.1.image (found_stands (g.D.Disk.state c.args.disk.now) (g.D.Disk.state c.find.new.disk) f.0 c.in_ok-parts.parts f.1 c.requires))

pub returns-in-Err-Device-clause-crash : goal.returns-in-Err-Device-clause-crash
returns-in-Err-Device-clause-crash g c = λ e log b st.
    let f = c.in_ok-parts.ensures.found in
    opening_leaves (g.D.Disk.state c.args.disk.now) (g.D.Disk.state c.find.new.disk) f.0 c.in_ok-parts.parts f.1 c.requires c.raise.ensures.rise c.raise.ensures.kept e log b st (g.D.Disk.state c.raise.new.disk) c.find.ensures.reads.leaves
    (c.raise.ensures.crash f.0 f.1.image (found_stands (g.D.Disk.state c.args.disk.now) (g.D.Disk.state c.find.new.disk) f.0 c.in_ok-parts.parts f.1 c.requires))

pub returns-in-Err-OutOfMemory-clause-crash : goal.returns-in-Err-OutOfMemory-clause-crash
returns-in-Err-OutOfMemory-clause-crash g c = λ e log b st.
    let f = c.in_ok-parts.ensures.found in
    opening_leaves (g.D.Disk.state c.args.disk.now) (g.D.Disk.state c.find.new.disk) f.0 c.in_ok-parts.parts f.1 c.requires c.raise.ensures.rise c.raise.ensures.kept e log b st (g.D.Disk.state c.raise.new.disk) c.find.ensures.reads.leaves
    (c.raise.ensures.crash f.0 f.1.image (found_stands (g.D.Disk.state c.args.disk.now) (g.D.Disk.state c.find.new.disk) f.0 c.in_ok-parts.parts f.1 c.requires))

pub returns-in-Ok-clause-ok : goal.returns-in-Ok-clause-ok
returns-in-Ok-clause-ok g c = λ e log b st.
    let f = c.in_ok-parts.ensures.found in
    opening_at (g.D.Disk.state c.args.disk.now) (g.D.Disk.state c.find.new.disk) f.0 c.in_ok-parts.parts f.1 c.requires c.raise.ensures.rise c.raise.ensures.kept e log b st c.raise.new.parts (g.D.Disk.state c.raise.new.disk) c.raise.ensures.contents c.in-Ok.ensures.held c.raise.ensures.limit
    (c.in-Ok.ensures.saved f.0 f.1.image (found_stands (g.D.Disk.state c.args.disk.now) (g.D.Disk.state c.find.new.disk) f.0 c.in_ok-parts.parts f.1 c.requires)) c.raise.ensures.keys_rise c.raise.ensures.same_size c.in-Ok.ensures.durable c.in-Ok.ensures.rest

pub returns-in-Ok-clause-last : goal.returns-in-Ok-clause-last
returns-in-Ok-clause-last g c = λ e log b st.
    let f = c.in_ok-parts.ensures.found in (
      (λ is. let z : Ok c.raise.new.parts ≡ Err (fail.No code.Exhausted) = is in absurd cc),
      (λ ok. below_most (g.D.Disk.state c.args.disk.now) (g.D.Disk.state c.find.new.disk) f.0 c.in_ok-parts.parts f.1 c.requires c.raise.ensures.rise c.raise.ensures.kept e log b st),
    )

pub returns-in-Ok-clause-sound : goal.returns-in-Ok-clause-sound
returns-in-Ok-clause-sound g c =
    let f = c.in_ok-parts.ensures.found in
    opening_sound (g.D.Disk.state c.args.disk.now) (g.D.Disk.state c.find.new.disk) f.0 c.in_ok-parts.parts f.1 c.requires c.raise.ensures.rise c.raise.ensures.kept c.raise.new.parts c.raise.ensures.contents c.in-Ok.ensures.held c.raise.ensures.limit

pub returns-in-Ok-clause-found : goal.returns-in-Ok-clause-found
returns-in-Ok-clause-found g c =
    let f = c.in_ok-parts.ensures.found in
    found_image (g.D.Disk.state c.args.disk.now) (g.D.Disk.state c.find.new.disk) f.0 c.in_ok-parts.parts f.1 c.raise.new.parts c.raise.ensures.contents

pub returns-in-Ok-clause-later : goal.returns-in-Ok-clause-later
returns-in-Ok-clause-later g c =
    let f = c.in_ok-parts.ensures.found in
    subst (λ (x : Contents). IsNext (usn_after x.last.epoch x.last.place) x.rows.rows) (sym c.raise.ensures.contents) (raised_later c.in_ok-parts.parts.contents f.1.image f.1.told.sound.rows f.1.is)

pub returns-in-Ok-clause-written : goal.returns-in-Ok-clause-written
returns-in-Ok-clause-written g c = λ y stands.
    let f = c.in_ok-parts.ensures.found in
    opening_counts (g.D.Disk.state c.args.disk.now) (g.D.Disk.state c.find.new.disk) (g.D.Disk.state c.raise.new.disk) f.0 y c.in_ok-parts.parts c.raise.new.parts.contents f.1 (f.1.alone y stands) c.raise.ensures.contents
    c.find.ensures.reads.written c.in-Ok.ensures.counts.exact

pub returns-in_err-parts-clause-at_most : goal.returns-in_err-parts-clause-at_most
returns-in_err-parts-clause-at_most g c = omega (arith, c.find.ensures.reads.written)

pub returns-in-Ok-clause-at_most : goal.returns-in-Ok-clause-at_most
returns-in-Ok-clause-at_most g c =
    let f = c.in_ok-parts.ensures.found in
    opening_most (g.D.Disk.state c.args.disk.now) (g.D.Disk.state c.find.new.disk) (g.D.Disk.state c.raise.new.disk) c.in_ok-parts.parts.journal c.in_ok-parts.parts.contents
    (found_can (g.D.Disk.state c.args.disk.now) (g.D.Disk.state c.find.new.disk) f.0 c.in_ok-parts.parts f.1 c.requires) c.find.ensures.reads.written c.raise.ensures.counts.most

pub returns-in-Err-Device-clause-at_most : goal.returns-in-Err-Device-clause-at_most
returns-in-Err-Device-clause-at_most g c =
    let f = c.in_ok-parts.ensures.found in
    opening_most (g.D.Disk.state c.args.disk.now) (g.D.Disk.state c.find.new.disk) (g.D.Disk.state c.raise.new.disk) c.in_ok-parts.parts.journal c.in_ok-parts.parts.contents
    (found_can (g.D.Disk.state c.args.disk.now) (g.D.Disk.state c.find.new.disk) f.0 c.in_ok-parts.parts f.1 c.requires) c.find.ensures.reads.written c.raise.ensures.counts.most

pub returns-in-Err-OutOfMemory-clause-at_most : goal.returns-in-Err-OutOfMemory-clause-at_most
returns-in-Err-OutOfMemory-clause-at_most g c =
    let f = c.in_ok-parts.ensures.found in
    opening_most (g.D.Disk.state c.args.disk.now) (g.D.Disk.state c.find.new.disk) (g.D.Disk.state c.raise.new.disk) c.in_ok-parts.parts.journal c.in_ok-parts.parts.contents
    (found_can (g.D.Disk.state c.args.disk.now) (g.D.Disk.state c.find.new.disk) f.0 c.in_ok-parts.parts f.1 c.requires) c.find.ensures.reads.written c.raise.ensures.counts.most

pub returns-in-Ok-clause-holds : goal.returns-in-Ok-clause-holds
returns-in-Ok-clause-holds g c =
    let f = c.in_ok-parts.ensures.found in
    opening_holds (g.D.Disk.state c.args.disk.now) (g.D.Disk.state c.find.new.disk) f.0 c.in_ok-parts.parts f.1 c.requires c.raise.new.parts (g.D.Disk.state c.raise.new.disk) c.raise.ensures.contents
    (c.in-Ok.ensures.saved f.0 f.1.image (found_stands (g.D.Disk.state c.args.disk.now) (g.D.Disk.state c.find.new.disk) f.0 c.in_ok-parts.parts f.1 c.requires)) c.raise.ensures.same_size

pub returns-in-Ok-clause-rest : goal.returns-in-Ok-clause-rest
returns-in-Ok-clause-rest g c = c.in-Ok.ensures.rest ∙ ap clusters c.find.ensures.reads.keeps.seen

pub raise-requires-clause-written : goal.raise-requires-clause-written
raise-requires-clause-written g c =
    let f = c.in_ok-parts.ensures.found in
    found_can (g.D.Disk.state c.args.disk.now) (g.D.Disk.state c.find.new.disk) f.0 c.in_ok-parts.parts f.1 c.requires
