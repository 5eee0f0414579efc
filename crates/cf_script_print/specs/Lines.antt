-- A line that is to be written, as words.
use Rattle.std.specs.Prelude.{ℕ, List, [], ◌∷◌}
use Rattle.std.specs.Borrow.{Bor}
use Rattle.std.specs.List.{flat_map}
use Rattle.std.specs.Fmt.{decimal}
use Rattle.cf_script_words.specs.Words.{escaped, pair_text, plain_text}
use Rattle.cf_script_words.specs.Names.{modifier_words}
use Rattle.cf_script_words.specs.Entries.{entry_words}
use Rattle.cf_script_words.specs.Texts.{in_sync_words, key_text, plan_key_text}
use Rattle.cf_script_print.specs.declared.printed_lines.Value.{Value}
use Rattle.cf_script_print.specs.declared.printed_lines.Value.TheVariants as value
use Rattle.cf_script_print.specs.declared.printed_lines.Field.{Field}
use Rattle.cf_script_print.specs.declared.printed_lines.Field.TheVariants as field
use Rattle.cf_script_print.specs.declared.printed_lines.Line.{Line}
use Rattle.cf_script_print.specs.declared.printed_lines.Line.TheVariants as line

abbrev pub value_words : Value → List (List ℕ)
value_words value.Nothing = []
value_words (value.Number n) = decimal n ∷ []
value_words (value.Span span) = decimal span.start ∷ decimal span.len ∷ []
value_words (value.Key key) = key_text key ∷ []
value_words (value.Usn usn) = pair_text usn.epoch usn.place ∷ []
value_words (value.Ask own key) = plan_key_text own key ∷ []
value_words (value.Modifiers validate restart auto) = modifier_words validate restart auto
value_words (value.InSync in_sync) = in_sync_words in_sync

abbrev pub field_words : Field → List (List ℕ)
field_words (field.Word word) = word.now ∷ []
field_words (field.Value value) = value_words value
field_words (field.Path path) = escaped path.now ∷ []
field_words (field.Bytes bytes) = plain_text bytes.now ∷ []
field_words (field.Entries list) = entry_words list.now

-- the words of fields, in order
abbrev pub words_of : List Field → List (List ℕ)
words_of fields = flat_map field_words fields

-- and of fields that are lent
abbrev pub lent_words : List (Bor Field) → List (List ℕ)
lent_words fields = flat_map (λ f. field_words f.now) fields

abbrev pub line_words : Line → List (List ℕ)
line_words (line.Bare word) = word.now ∷ []
line_words (line.One word a) = word.now ∷ words_of (a ∷ [])
line_words (line.Two word a b) = word.now ∷ words_of (a ∷ b ∷ [])
line_words (line.Three word a b c) = word.now ∷ words_of (a ∷ b ∷ c ∷ [])
line_words (line.Four word a b c d) = word.now ∷ words_of (a ∷ b ∷ c ∷ d ∷ [])
