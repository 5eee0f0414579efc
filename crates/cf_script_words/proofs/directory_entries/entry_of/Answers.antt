use Rattle.std.proofs.Common.{◌≡◌, ◌∷◌, subst, sym, get_or}
use Rattle.std.specs.Result.{IfOk}
use Rattle.std.proofs.lemmas.Result.{IfOk-weaker}
use Rattle.cf_script_words.specs.Words.{Reads}
use Rattle.cf_script_words.specs.Names.{entry_kind}
use Rattle.cf_script_words.specs.Entries.{IsEntryName, IsEntryRest, AreFields}
use Rattle.cf_script_words.proofs.WordLists.{two_words, no_word, texts, after}
use Rattle.cf_script_words.proofs.PartsRead.{both_read}
use Rattle.cf_script_words.proofs.directory_entries.entry_of.Goals as goal

pub returns : goal.returns
returns c = subst (λ ws. IfOk c.entry_rest.result (Reads (AreFields ws))) (sym (two_words c.args.fields.now c.in-len2-up.len_at_least))
    (IfOk-weaker c.entry_rest.result (Reads (IsEntryRest c.in-Some-entry_kind.dir c.in-Some.name (texts (after 2 c.args.fields.now)))) (Reads (AreFields ((get_or c.args.fields.now 0 no_word).now ∷ (get_or c.args.fields.now 1 no_word).now ∷ texts (after 2 c.args.fields.now))))
    (λ o h. both_read (IsEntryName (get_or c.args.fields.now 0 no_word).now) (λ d. (get_or c.args.fields.now 1 no_word).now ≡ entry_kind d) (λ name dir item. IsEntryRest dir name (texts (after 2 c.args.fields.now)) item) c.in-Some.name c.in-Some-entry_kind.dir o (rw c.in-Some.is at c.in_ok-name.ensures) c.in-Some-entry_kind.ensures h)
    c.entry_rest.ensures)
