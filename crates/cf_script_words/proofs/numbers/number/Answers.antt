use Rattle.std.proofs.Common.{◌∙◌, refl, sym, rules}
use Rattle.std.specs.Fmt.{decimal}
use Rattle.cf_script_words.specs.Words.{IsNumber}
use Rattle.cf_script_words.proofs.NumberMeans.{number_refused, number_other, number_once}
use Rattle.cf_script_words.proofs.numbers.number.Goals as goal

pub returns-else-is_written : goal.returns-else-is_written
returns-else-is_written c = number_other c.args.word.now (decimal c.in-Ok.n) c.in-Ok.n c.parse.result c.parse.ensures.value.0 c.in-Ok.is refl (sym c.is_written.ensures ∙ c.if-is_written.false)

pub returns-in-Err : goal.returns-in-Err
returns-in-Err c = number_refused c.args.word.now c.in-Err.field-0 c.in-Err.ensures.value.0

pub returns-then-is_written : goal.returns-then-is_written
returns-then-is_written c =
    let is : IsNumber c.args.word.now c.in-Ok.n = search rules in (is, λ y h. number_once c.args.word.now c.in-Ok.n y is h)
