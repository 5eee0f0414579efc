-- The texts of the answers to the events of two devices.
use Rattle.std.specs.Prelude.{ℕ, List, [], ◌∷◌, codes}
use Rattle.std.specs.List.{flat_map}
use Rattle.cf_pair_events.specs.declared.answers.PairAnswer.{PairAnswer}
use Rattle.cf_pair_events.specs.declared.answers.PairAnswer.TheVariants as answer
use Rattle.cf_pair_events.specs.declared.comparisons.Comparison.{Comparison}
use Rattle.cf_pair_events.specs.declared.comparisons.Comparison.TheVariants as comparison
use Rattle.cf_report.specs.Texts.{code_words}
use Rattle.cf_report.specs.Texts as report
use Rattle.cf_report.specs.Words.{name_text}

abbrev pub comparison_words : Comparison → List (List ℕ)
comparison_words comparison.Equal = codes "equal" ∷ []
comparison_words (comparison.Unequal path) = codes "unequal" ∷ name_text path ∷ []
comparison_words (comparison.Refused c) = codes "refused" ∷ code_words c

-- marked by an equals sign, as each result is
abbrev pub comparison_line : Comparison → List ℕ
comparison_line c = report.line 61 (comparison_words c)

-- the lines of an answer
abbrev pub text : PairAnswer → List ℕ
text (answer.Event a) = report.text a
text (answer.Comparison c) = comparison_line c

-- the report of these answers
abbrev pub texts : List PairAnswer → List ℕ
texts answers = flat_map text answers
