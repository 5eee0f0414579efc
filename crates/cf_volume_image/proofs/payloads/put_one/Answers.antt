use Rattle.cf_volume_image.proofs.PayloadPuts.{no_record_count, no_record_put, record_count, record_put, short_of}
use Rattle.std.proofs.Common.{None}
use Rattle.cf_volume_image.proofs.payloads.put_one.Goals as goal

pub returns-in-None-clause-spelled : goal.returns-in-None-clause-spelled
returns-in-None-clause-spelled c = no_record_put c.args.records.now c.args.key.now c.args.out.now c.in-None.ensures

pub returns-in-None-clause-count : goal.returns-in-None-clause-count
returns-in-None-clause-count c = no_record_count c.args.records.now c.args.key.now c.in-None.ensures

pub put_record-requires : goal.put_record-requires
put_record-requires c = short_of None c.args.records.now c.args.key.now c.in-Some.aux.now c.image_len.ensures.rise c.in-Some.ensures

pub returns-in_ok-put_record-in-Some-clause-spelled : goal.returns-in_ok-put_record-in-Some-clause-spelled
returns-in_ok-put_record-in-Some-clause-spelled c = record_put c.args.records.now c.args.key.now c.in-Some.aux.now c.args.out.now c.put_record.new.out c.in-Some.ensures c.in_ok-put_record-in-Some.ensures

pub returns-in_ok-put_record-in-Some-clause-count : goal.returns-in_ok-put_record-in-Some-clause-count
returns-in_ok-put_record-in-Some-clause-count c = record_count c.args.records.now c.args.key.now c.in-Some.aux.now c.in-Some.ensures
