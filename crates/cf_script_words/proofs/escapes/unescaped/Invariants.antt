use Rattle.std.proofs.Common.{◌≡◌, ◌++◌, length}
use Rattle.cf_script_words.specs.Words.{written}
use Rattle.cf_script_words.specs.Escapes.{code_of}
use Rattle.cf_script_words.proofs.escapes.unescaped.Given as goal

abbrev pub invariant-loop-rest : goal.invariant-loop-rest
invariant-loop-rest l = l.word ≡ written (code_of l.escapes) l.text.items ++ l.rest

abbrev pub decreases-loop-rest : goal.decreases-loop-rest
decreases-loop-rest l = length l.rest
