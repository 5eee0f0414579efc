use Rattle.std.proofs.Common.{refl, arith}
use Rattle.cf_script_words.specs.Words.{escape_byte}
use Rattle.cf_script_print.proofs.Bytes.{all_written, written_flat}
use Rattle.cf_script_print.proofs.Loops.{one_written}
use Rattle.cf_script_print.proofs.texts.push_path.Goals as goal

pub loop-byte-preserved : goal.loop-byte-preserved
loop-byte-preserved c = one_written escape_byte c.args.path.now c.loop-byte.byte-index 0 _ _ _ _ c.loop-byte-test.true refl c.in_ok-push_path_byte.ensures c.loop-byte.invariant

pub returns : goal.returns
returns c = all_written escape_byte c.args.path.now c.loop-byte.byte-index c.args.text.now.items c.loop-byte.text.items _ (let end = c.loop-byte-test.false in omega arith) c.loop-byte.invariant (written_flat escape_byte c.args.path.now)
