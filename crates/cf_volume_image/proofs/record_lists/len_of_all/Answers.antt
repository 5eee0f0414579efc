use Rattle.std.proofs.Common.{None, arith}
use Rattle.cf_volume_image.proofs.RecordPlaces.{len_bound, len_drop, short_here}
use Rattle.cf_volume_image.proofs.record_lists.len_of_all.Goals as goal

pub len_of-len-requires : goal.len_of-len-requires
len_of-len-requires c = short_here c.args.records.now c.loop-record.record-index c.record-item.result c.requires c.loop-record-test.true c.record-item.is

pub overflow_add-len : goal.overflow_add-len
overflow_add-len c =
    omega (arith, c.loop-record.invariant, c.len_of-len.ensures.value, len_bound None c.args.records.now c.requires, len_drop c.args.records.now c.loop-record.record-index c.record-item.result c.loop-record-test.true c.record-item.is)
