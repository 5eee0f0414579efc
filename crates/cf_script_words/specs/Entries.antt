-- An entry of a directory, which is one word.
use Rattle.std.specs.Prelude.{ℕ, List, [], ◌∷◌, Bool, true, false, ◌++◌, codes, ◌≡◌, ◌==◌, if◌then◌else◌}
use Rattle.std.specs.Fmt.{decimal}
use Rattle.std.specs.Str.{IsUtf8}
use Rattle.std.specs.List.{slice_split}
use Rattle.cf_base.specs.declared.operations.NewItem.{NewItem}
use Rattle.cf_script_words.specs.Words.{IsNumber, plain_text, IsPlain, escape_byte, written}
use Rattle.cf_script_words.specs.Names.{flag_words, entry_kind}

-- a name of an entry: a space, a percent sign and a comma are written as their codes
abbrev pub escape_name_byte : ℕ → List ℕ
escape_name_byte b = if b == 44 then codes "%2c" else escape_byte b

abbrev pub escaped_name : List ℕ → List ℕ
escaped_name name = written escape_name_byte name

abbrev pub IsEntryName : List ℕ → List ℕ → Type 0
IsEntryName word name = IsUtf8 name × (word ≡ escaped_name name)

-- the fields of an entry after its name and its kind: `NUM,IDENT` of a file, `IDENT` of a directory, with `insync`
-- after it or not
abbrev pub IsEntryRest : Bool → List ℕ → List (List ℕ) → NewItem → Type 0
IsEntryRest false name (n ∷ i ∷ f) item = (size : ℕ) × (identity : List ℕ) × (mark : Bool) × IsNumber n size × IsPlain i identity × (f ≡ flag_words (codes "insync") mark) × (item ≡ record { name = name; dir = false; size = size; identity = identity; mark = mark })
IsEntryRest true name (i ∷ f) item = (identity : List ℕ) × (mark : Bool) × IsPlain i identity × (f ≡ flag_words (codes "insync") mark) × (item ≡ record { name = name; dir = true; size = 0; identity = identity; mark = mark })
IsEntryRest dir name ws item = ⊥

abbrev pub AreFields : List (List ℕ) → NewItem → Type 0
AreFields (w ∷ k ∷ ws) item = (name : List ℕ) × (dir : Bool) × IsEntryName w name × (k ≡ entry_kind dir) × IsEntryRest dir name ws item
AreFields ws item = ⊥

-- commas part the fields
abbrev pub fields_of : List ℕ → List (List ℕ)
fields_of word = slice_split (λ b. b == 44) word

abbrev pub IsEntry : List ℕ → NewItem → Type 0
IsEntry word item = AreFields (fields_of word) item

abbrev pub AreEntries : List (List ℕ) → List NewItem → Type 0
AreEntries [] [] = Unit {0}
AreEntries (w ∷ ws) (item ∷ items) = IsEntry w item × AreEntries ws items
AreEntries [] (item ∷ items) = ⊥
AreEntries (w ∷ ws) [] = ⊥

-- the fields of an entry after its name and its kind; the size of a directory is not written
abbrev pub rest_text : NewItem → Bool → List ℕ
rest_text item true = plain_text item.identity
rest_text item false = decimal item.size ++ 44 ∷ plain_text item.identity

abbrev pub mark_text : Bool → List ℕ
mark_text true = codes ",insync"
mark_text false = []

abbrev pub entry_text : NewItem → List ℕ
entry_text item = escaped_name item.name ++ 44 ∷ entry_kind item.dir ++ 44 ∷ rest_text item item.dir ++ mark_text item.mark

abbrev pub entry_words : List NewItem → List (List ℕ)
entry_words [] = []
entry_words (item ∷ items) = entry_text item ∷ entry_words items
