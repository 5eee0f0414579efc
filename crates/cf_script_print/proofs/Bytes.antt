-- Bytes written one after another.
use Rattle.std.proofs.Common.{◌≡◌, ℕ, zero, suc, ◌≤◌, List, [], ◌∷◌, ◌++◌, length, take, Bor, refl, sym, ap, ◌∙◌, arith, append_assoc}
use Rattle.std.specs.List.{flat_map}
use Rattle.std.proofs.lemmas.List.{append-nil}
use Rattle.cf_base.specs.declared.operations.NewItem.{NewItem}
use Rattle.cf_script_print.specs.declared.printed_lines.Field.{Field}
use Rattle.cf_script_words.specs.Words.{written}
use Rattle.cf_script_print.specs.Lines.{field_words, lent_words}
use Rattle.cf_script_words.specs.Texts.{spaced}
use Rattle.cf_script_words.specs.Entries.{entry_text, entry_words}

pub ruleset joins = (append_assoc, append-nil)

-- all elements are written
take_all : {A : Type 0} (xs : List A) (i : ℕ) → length xs ≤ i → take i xs ≡ xs
take_all [] zero h = refl
take_all [] (suc i) h = refl
take_all (x ∷ xs) zero h = absurd (omega arith)
take_all (x ∷ xs) (suc i) h = ap (λ t. x ∷ t) (take_all xs i (omega arith))

pub all_written : {A : Type 0} (f : A → List ℕ) (xs : List A) (i : ℕ) (old text all : List ℕ) → length xs ≤ i → text ≡ old ++ flat_map f (take i xs) → flat_map f xs ≡ all → text ≡ old ++ all
all_written f xs i old text all end so_far is = so_far ∙ ap (λ t. old ++ t) (ap (flat_map f) (take_all xs i end) ∙ is)

-- texts of a list, by what is written for each element
pub written_flat : (f : ℕ → List ℕ) (bs : List ℕ) → flat_map f bs ≡ written f bs
written_flat f [] = refl
written_flat f (b ∷ bs) = ap (λ t. f b ++ t) (written_flat f bs)

abbrev pub entry_word : NewItem → List ℕ
entry_word item = 32 ∷ entry_text item

pub entries_flat : (items : List NewItem) → flat_map entry_word items ≡ spaced (entry_words items)
entries_flat [] = refl
entries_flat (item ∷ items) = ap (λ t. entry_word item ++ t) (entries_flat items)

-- the words of a line in two parts
pub spaced_append : (ws vs : List (List ℕ)) → spaced (ws ++ vs) ≡ spaced ws ++ spaced vs
spaced_append [] vs = refl
spaced_append (w ∷ ws) vs = ap (λ t. 32 ∷ w ++ t) (spaced_append ws vs) ∙ sym (append_assoc (32 ∷ w) (spaced ws) (spaced vs))

abbrev pub field_text : Bor Field → List ℕ
field_text field = spaced (field_words field.now)

pub fields_flat : (fields : List (Bor Field)) → flat_map field_text fields ≡ spaced (lent_words fields)
fields_flat [] = refl
fields_flat (field ∷ fields) = ap (λ t. field_text field ++ t) (fields_flat fields) ∙ sym (spaced_append (field_words field.now) (lent_words fields))
