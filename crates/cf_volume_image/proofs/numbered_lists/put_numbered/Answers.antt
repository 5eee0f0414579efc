use Rattle.std.proofs.Common.{List, ℕ, subst}
use Rattle.cf_volume_image.specs.Contents.{record_at}
use Rattle.cf_volume_image.specs.Numbers.{AreNumbersOf}
use Rattle.cf_volume_image.proofs.CountsKept.{counted_put}
use Rattle.cf_volume_image.proofs.numbered_lists.put_numbered.Goals as goal

pub returns-in-Ok-clause-counted : goal.returns-in-Ok-clause-counted
returns-in-Ok-clause-counted c =
    counted_put c.args.aux c.args.records.now c.put_record.new.records c.numbers_of-more.result c.numbers_at-gone.result c.args.numbers.now c.add-added.new.self c.take.new.self c.requires.kept.rise c.requires.counted c.numbers_of-more.ensures
    (subst (λ (k : List ℕ). AreNumbersOf (record_at c.args.records.now k) c.numbers_at-gone.result) c.as_slice.ensures c.numbers_at-gone.ensures)
    c.in_default.ensures.ok c.take.ensures c.in-Ok.ensures.puts
