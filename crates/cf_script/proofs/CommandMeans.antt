-- A line is read by its first word.
use Rattle.std.proofs.Common.{◌≡◌, ℕ, true, false, List, ◌∷◌, sym, subst, ◌∙◌}
use Rattle.std.specs.Prelude.{Option, Some, None}
use Rattle.cf_base.specs.declared.events.Event.{Event}
use Rattle.cf_base.specs.declared.policies.Mode.{Mode}
use Rattle.cf_script_words.specs.declared.commands.Command.{Command}
use Rattle.cf_script_words.specs.Words.{Reads}
use Rattle.cf_script_words.specs.Names.{command_name}
use Rattle.cf_script_words.proofs.CommandNames.{command_once}
use Rattle.cf_script.specs.Modes.{is_foreign}
use Rattle.cf_script.specs.Forms.{Follows, AreWords}

same_command : (w : List ℕ) (c : Command) (ws : List (List ℕ)) (y : Event) (d : Command) → w ≡ command_name c → w ≡ command_name d → Follows d ws y → Follows c ws y
same_command w c ws y d e e' is = subst (λ x. Follows x ws y) (command_once d c (sym e' ∙ e)) is

-- a line is read by what follows its first word
pub words_read : (mode : Mode) (w : List ℕ) (ws : List (List ℕ)) (c : Command) (o : Option Event) → w ≡ command_name c → is_foreign mode c ≡ false → Reads (Follows c ws) o → Reads (AreWords mode (w ∷ ws)) o
words_read mode w ws c (Some e) name here h = ((c, name, here, h.0), λ y is. h.1 y (same_command w c ws y is.0 name is.1 is.3))
words_read mode w ws c None name here h = λ y is. h y (same_command w c ws y is.0 name is.1 is.3)

pub foreign : (mode : Mode) (w : List ℕ) (ws : List (List ℕ)) (c : Command) → w ≡ command_name c → is_foreign mode c ≡ true → (e : Event) → AreWords mode (w ∷ ws) e → ⊥
foreign mode w ws c name away e is = let h : is_foreign mode is.0 ≡ true = subst (λ d. is_foreign mode d ≡ true) (command_once c is.0 (sym name ∙ is.1)) away in cc (h, is.2)
