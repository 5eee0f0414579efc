use Rattle.std.proofs.Common.{Some, [], ap}
use Rattle.cf_volume_commit.proofs.Appended.{untouched}
use Rattle.cf_volume_commit.proofs.RaisedEpoch.{header_follows}
use Rattle.cf_volume_commit.proofs.SavedText.{counts_failed, counts_same}
use Rattle.cf_volume_commit.specs.Leading.{bytes_written}
use Rattle.cf_volume_image.specs.Contents.{image_of, payload_of}
use Rattle.cf_model.specs.Formats.{spell_image, spell_payload}
use Rattle.cf_volume_commit.proofs.openings.raise.Goals as goal

pub returns-in_err-payload-clause-crash : goal.returns-in_err-payload-clause-crash
returns-in_err-payload-clause-crash g c = λ x image h.
    untouched (g.D.Disk.state c.args.disk.now) c.args.parts.now.journal x (image_of c.args.parts.now.contents) (g.met.D.Disk.same_size c.args.disk.now) h.settled

pub returns-in_err-put-clause-crash : goal.returns-in_err-put-clause-crash
returns-in_err-put-clause-crash g c = λ x image h.
    c.put_text-put.ensures.crash x image h.settled
    (header_follows c.args.parts.now (g.D.Disk.state c.args.disk.now) x image (Some c.in_ok-payload.payload) (ap Some c.in_ok-payload.ensures) (c.has_an_image.ensures.image c.requires.written h.pins) h)

pub returns-clause-saved : goal.returns-clause-saved
returns-clause-saved g c = λ x image h.
    c.in_ok-put.ensures.saved x image h.settled
    (header_follows c.args.parts.now (g.D.Disk.state c.args.disk.now) x image (Some c.in_ok-payload.payload) (ap Some c.in_ok-payload.ensures) (c.has_an_image.ensures.image c.requires.written h.pins) h)

pub returns-clause-crash : goal.returns-clause-crash
returns-clause-crash g c = λ x image h.
    c.put_text-put.ensures.crash x image h.settled
    (header_follows c.args.parts.now (g.D.Disk.state c.args.disk.now) x image (Some c.in_ok-payload.payload) (ap Some c.in_ok-payload.ensures) (c.has_an_image.ensures.image c.requires.written h.pins) h)

pub returns-clause-counts : goal.returns-clause-counts
returns-clause-counts g c =
    counts_same c.args.parts.now.journal (Some c.in_ok-payload.payload) (Some (spell_payload (payload_of c.args.parts.now.contents [] [] [] []))) (spell_image (image_of c.args.parts.now.contents)) _ (g.D.Disk.state c.args.disk.now) (g.D.Disk.state c.put_text-put.new.disk) (ap Some c.in_ok-payload.ensures) c.in_ok-put.ensures.counts

pub returns-in_err-put-clause-counts : goal.returns-in_err-put-clause-counts
returns-in_err-put-clause-counts g c =
    let h = counts_same c.args.parts.now.journal (Some c.in_ok-payload.payload) (Some (spell_payload (payload_of c.args.parts.now.contents [] [] [] []))) (spell_image (image_of c.args.parts.now.contents)) _ (g.D.Disk.state c.args.disk.now) (g.D.Disk.state c.put_text-put.new.disk) (ap Some c.in_ok-payload.ensures) c.in_err-put.ensures.counts in
    counts_failed (bytes_written c.args.parts.now.journal (Some (spell_payload (payload_of c.args.parts.now.contents [] [] [] []))) (spell_image (image_of c.args.parts.now.contents))) c.from_residual-in_err-put.result (g.D.Disk.state c.args.disk.now) (g.D.Disk.state c.put_text-put.new.disk) c.from_residual-in_err-put.ensures.0 h.least h.most
