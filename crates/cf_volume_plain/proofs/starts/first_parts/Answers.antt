use Rattle.cf_volume_plain.proofs.NewPlain.{plain_at, plain_steady}
use Rattle.cf_volume_plain.proofs.starts.first_parts.Goals as goal

pub returns-clause-at : goal.returns-clause-at
returns-clause-at c = λ b long. plain_at c.of_no_disk-journal.result c.in_ok-held.held c.in_ok-contents.contents c.args.clusters b c.requires long c.in_ok-held.ensures c.in_ok-contents.ensures.image c.in_ok-contents.ensures.room c.image_len.ensures.rises c.image_len.ensures.kept c.image_len-2.ensures.rise

pub returns-clause-steady : goal.returns-clause-steady
returns-clause-steady c = λ b long. plain_steady c.of_no_disk-journal.result c.in_ok-held.held c.in_ok-contents.contents c.args.clusters b c.requires long c.in_ok-held.ensures c.in_ok-contents.ensures.image c.in_ok-contents.ensures.room c.image_len.ensures.rises c.image_len.ensures.kept c.in_ok-contents.ensures.later c.of_no_disk-journal.ensures
