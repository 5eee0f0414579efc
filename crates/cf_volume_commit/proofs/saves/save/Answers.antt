use Rattle.cf_volume_commit.proofs.Appended.{untouched}
use Rattle.cf_volume_commit.proofs.SavedText.{counts_failed, counts_same, follows}
use Rattle.cf_volume_commit.specs.Differing.{text_of}
use Rattle.cf_volume_commit.specs.Leading.{bytes_written}
use Rattle.cf_model.specs.Formats.{spell_image}
use Rattle.cf_volume_image.specs.Contents.{image_of}
use Rattle.cf_volume_commit.proofs.saves.save.Goals as goal

pub returns-in_err-text-clause-crash : goal.returns-in_err-text-clause-crash
returns-in_err-text-clause-crash g c = λ x image settled told is pins.
    untouched (g.D.Disk.state c.args.disk.now) c.args.journal.now x (image_of c.args.contents.now) (g.met.D.Disk.same_size c.args.disk.now) settled

pub returns-in_err-put-clause-crash : goal.returns-in_err-put-clause-crash
returns-in_err-put-clause-crash g c = λ x image settled told is pins.
    c.put_text-put.ensures.crash x image settled
    (follows x c.args.then.now c.args.contents.now image c.in_ok-text.text c.in_ok-text.ensures c.stands_in_order.ensures.next c.has_an_image.ensures.rise c.stands_in_order.ensures.rise c.stands_in_order.ensures.keys_rise
    (c.has_an_image.ensures.image c.requires.written pins) told is)

pub returns-clause-saved : goal.returns-clause-saved
returns-clause-saved g c = λ x image settled told is pins.
    c.in_ok-put.ensures.saved x image settled
    (follows x c.args.then.now c.args.contents.now image c.in_ok-text.text c.in_ok-text.ensures c.stands_in_order.ensures.next c.has_an_image.ensures.rise c.stands_in_order.ensures.rise c.stands_in_order.ensures.keys_rise
    (c.has_an_image.ensures.image c.requires.written pins) told is)

pub returns-clause-crash : goal.returns-clause-crash
returns-clause-crash g c = λ x image settled told is pins.
    c.put_text-put.ensures.crash x image settled
    (follows x c.args.then.now c.args.contents.now image c.in_ok-text.text c.in_ok-text.ensures c.stands_in_order.ensures.next c.has_an_image.ensures.rise c.stands_in_order.ensures.rise c.stands_in_order.ensures.keys_rise
    (c.has_an_image.ensures.image c.requires.written pins) told is)

pub returns-clause-counts : goal.returns-clause-counts
returns-clause-counts g c =
    counts_same c.args.journal.now c.in_ok-text.text (text_of c.args.then.now c.args.contents.now) (spell_image (image_of c.args.contents.now)) _ (g.D.Disk.state c.args.disk.now) (g.D.Disk.state c.put_text-put.new.disk) c.in_ok-text.ensures c.in_ok-put.ensures.counts

pub returns-in_err-put-clause-counts : goal.returns-in_err-put-clause-counts
returns-in_err-put-clause-counts g c =
    let h = counts_same c.args.journal.now c.in_ok-text.text (text_of c.args.then.now c.args.contents.now) (spell_image (image_of c.args.contents.now)) _ (g.D.Disk.state c.args.disk.now) (g.D.Disk.state c.put_text-put.new.disk) c.in_ok-text.ensures c.in_err-put.ensures.counts in
    counts_failed (bytes_written c.args.journal.now (text_of c.args.then.now c.args.contents.now) (spell_image (image_of c.args.contents.now))) c.from_residual-in_err-put.result (g.D.Disk.state c.args.disk.now) (g.D.Disk.state c.put_text-put.new.disk) c.from_residual-in_err-put.ensures.0 h.least h.most
