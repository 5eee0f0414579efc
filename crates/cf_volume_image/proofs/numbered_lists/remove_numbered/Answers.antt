use Rattle.cf_volume_image.proofs.CountsKept.{counted_removed}
use Rattle.cf_volume_image.proofs.numbered_lists.remove_numbered.Goals as goal

pub returns-clause-counted : goal.returns-clause-counted
returns-clause-counted c =
    counted_removed c.args.key.now c.args.records.now c.remove_record.new.records c.numbers_at-gone.result c.args.numbers.now c.take.new.self c.requires.kept.rise c.requires.counted c.numbers_at-gone.ensures c.take.ensures c.remove_record.ensures.removes
