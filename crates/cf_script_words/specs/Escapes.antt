-- How a byte of a path is written, and a byte of a name.
use Rattle.std.specs.Prelude.{ℕ, List}
use Rattle.cf_script_words.specs.Words.{escape_byte}
use Rattle.cf_script_words.specs.Entries.{escape_name_byte}
use Rattle.cf_script_words.specs.declared.escapes.Escapes.{Escapes}
use Rattle.cf_script_words.specs.declared.escapes.Escapes.TheVariants as escapes

abbrev pub code_of : Escapes → ℕ → List ℕ
code_of escapes.Path b = escape_byte b
code_of escapes.Name b = escape_name_byte b
