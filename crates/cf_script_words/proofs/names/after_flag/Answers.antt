use Rattle.std.proofs.Common.{◌∷◌, ◌∙◌, sym, ap}
use Rattle.cf_script_words.proofs.DataMeans.{same_text}
use Rattle.cf_script_words.proofs.WordLists.{after, first_word, texts}
use Rattle.cf_script_words.proofs.names.after_flag.Goals as goal

pub returns-then-eq-clause-parts : goal.returns-then-eq-clause-parts
returns-then-eq-clause-parts c = first_word c.args.words.now c.in-len1-up.len_at_least ∙ ap (λ w. w ∷ texts (after 1 c.args.words.now)) (same_text _ _ (sym c.eq.ensures ∙ c.if-eq.true))
