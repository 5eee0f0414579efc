use Rattle.std.proofs.Common.{rules}
use Rattle.cf_script_words.proofs.DataMeans.{repeated_reads}
use Rattle.cf_script_words.proofs.byte_words.repeated.Goals as goal

pub returns : goal.returns
returns c = repeated_reads c.args.byte.now c.args.count.now c.in-Some.byte c.in-Some-times.count c.from_vec.result (rw c.in-Some.is at c.in_ok-byte.ensures) c.in-Some-times.ensures (search rules)
