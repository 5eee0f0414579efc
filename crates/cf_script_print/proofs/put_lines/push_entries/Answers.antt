use Rattle.std.proofs.Common.{[], ◌∷◌, ◌++◌, ap, ◌∙◌, arith, append_assoc}
use Rattle.cf_script_words.specs.Entries.{entry_text}
use Rattle.cf_script_print.proofs.Bytes.{all_written, entries_flat, entry_word}
use Rattle.cf_script_print.proofs.Loops.{one_written}
use Rattle.cf_script_print.proofs.put_lines.push_entries.Goals as goal

pub loop-item-preserved : goal.loop-item-preserved
loop-item-preserved c = one_written entry_word c.args.list.now c.loop-item.item-index c.item-item.result _ _ _ _ c.loop-item-test.true c.item-item.is (c.in_ok-push_entry.ensures ∙ ap (λ t. t ++ entry_text c.item-item.result) c.in_ok-push.ensures.items ∙ append_assoc _ (32 ∷ []) (entry_text c.item-item.result)) c.loop-item.invariant

pub returns : goal.returns
returns c = all_written entry_word c.args.list.now c.loop-item.item-index c.args.text.now.items c.loop-item.text.items _ (let end = c.loop-item-test.false in omega arith) c.loop-item.invariant (entries_flat c.args.list.now)
