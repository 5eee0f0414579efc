use Rattle.std.proofs.Common.{subst, sym}
use Rattle.std.specs.Result.{IfOk}
use Rattle.cf_script_words.specs.Words.{Reads}
use Rattle.cf_script.specs.Forms.{IsPeerEvent}
use Rattle.cf_script_words.proofs.WordLists.{one_word, two_exactly}
use Rattle.cf_script.proofs.peers.peer_event.Goals as goal

pub returns-in-len1 : goal.returns-in-len1
returns-in-len1 c = subst (λ ws. IfOk c.peer_word.result (Reads (IsPeerEvent c.args.command ws))) (sym (one_word c.args.words.now c.in-len1.len_at_least c.in-len1.len_below)) c.peer_word.ensures

pub returns-in-len2 : goal.returns-in-len2
returns-in-len2 c = subst (λ ws. IfOk c.peer_pair.result (Reads (IsPeerEvent c.args.command ws))) (sym (two_exactly c.args.words.now c.in-len2.len_at_least c.in-len2.len_below)) c.peer_pair.ensures
