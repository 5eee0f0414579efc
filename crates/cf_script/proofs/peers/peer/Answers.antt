use Rattle.std.proofs.Common.{◌≡◌, ◌∷◌, subst, sym, get_or}
use Rattle.std.specs.Result.{IfOk}
use Rattle.std.proofs.lemmas.Result.{IfOk-weaker}
use Rattle.cf_script_words.specs.Words.{Reads}
use Rattle.cf_script_words.specs.Names.{peer_name}
use Rattle.cf_script.specs.Forms.{IsPeer, IsPeerEvent}
use Rattle.cf_script_words.proofs.WordLists.{first_word, no_word, texts, after}
use Rattle.cf_script_words.proofs.PartsRead.{chosen_reads}
use Rattle.cf_script.proofs.peers.peer.Goals as goal

pub returns : goal.returns
returns c = subst (λ ws. IfOk c.peer_event.result (Reads (IsPeer ws))) (sym (first_word c.args.words.now c.in-len1-up.len_at_least))
    (IfOk-weaker c.peer_event.result (Reads (IsPeerEvent c.in-Some.command (texts (after 1 c.args.words.now)))) (Reads (IsPeer ((get_or c.args.words.now 0 no_word).now ∷ texts (after 1 c.args.words.now))))
    (λ o h. chosen_reads (λ d. (get_or c.args.words.now 0 no_word).now ≡ peer_name d) (λ d. IsPeerEvent d (texts (after 1 c.args.words.now))) c.in-Some.command o c.in-Some.ensures h)
    c.peer_event.ensures)
