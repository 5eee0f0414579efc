-- A line of words spells what its words do.
use Rattle.std.proofs.Common.{◌≡◌, ℕ, zero, suc, ◌^◌, ◌<◌, ◌≤◌, Bool, true, false, List, [], ◌∷◌, ◌++◌, get_or, refl, sym, ap, subst, ◌∙◌, inl, inr, arith, append_assoc}
use Rattle.std.specs.Prelude.{◌&&◌, ◌==◌, not, nat_le, IsTrue, codes}
use Rattle.std.specs.List.{list_all, All}
use Rattle.std.specs.Str.{IsUtf8}
use Rattle.std.specs.Fmt.{decimal}
use Rattle.std.proofs.lemmas.Bool.{cases_Bool, eqb-true}
use Rattle.std.proofs.lemmas.Bool.Decides.{nat_tests}
use Rattle.std.proofs.lemmas.List.{append-nil}
use Rattle.std.proofs.lemmas.List.Folds.{list_all-append}
use Rattle.std.proofs.lemmas.List.Sums.{AllPass-from_list_all}
use Rattle.std.proofs.lemmas.List.Splits.{slice_split_none, slice_split_at}
use Rattle.std.proofs.lemmas.Str.{IsUtf8-append, IsUtf8-nil, IsUtf8-from_ascii}
use Rattle.hex.specs.Hex.{IsBytes}
use Rattle.cf_base.specs.declared.operations.NewItem.{NewItem}
use Rattle.cf_base.specs.declared.events.Event.{Event}
use Rattle.cf_base.specs.declared.policies.Mode.{Mode}
use Rattle.cf_script_words.specs.declared.commands.Command.{Command}
use Rattle.cf_script_words.specs.declared.commands.Command.TheVariants as command
use Rattle.cf_script_words.specs.declared.commands.BareCommand.TheVariants as bare
use Rattle.cf_script_words.specs.declared.commands.PathCommand.TheVariants as on_path
use Rattle.cf_script_words.specs.declared.commands.NumberCommand.TheVariants as on_number
use Rattle.cf_script_words.specs.declared.commands.WordCommand.TheVariants as on_word
use Rattle.cf_script_words.specs.declared.commands.TwoWordCommand.TheVariants as on_two
use Rattle.cf_script_words.specs.declared.commands.ThreeWordCommand.TheVariants as on_three
use Rattle.cf_script_words.specs.declared.commands.LongCommand.TheVariants as long
use Rattle.cf_script_words.specs.declared.commands.OtherCommand.TheVariants as other
use Rattle.cf_script_words.specs.Words.{written, escape_byte, escaped, plain_text}
use Rattle.cf_script_words.specs.Names.{command_name}
use Rattle.cf_script_words.specs.Entries.{escape_name_byte, escaped_name, fields_of}
use Rattle.cf_script.specs.Forms.{AreWords}
use Rattle.cf_script.specs.Script.{is_plain, words_of, lines_of, is_event_line, Spells}
use Rattle.cf_script.specs.Fits.{PathFits, ItemFits}
use Rattle.cf_script_words.specs.Texts.{spaced, line_of}
use Rattle.cf_script_words.specs.Entries.{entry_text}
use Rattle.cf_script_words.proofs.PathMeans.{code_cases, name_code}
use Rattle.cf_script_words.proofs.WordTexts.{is_word_byte, is_word, IsWord, AreAllWords, IsPlainWay, utf8_written, and_parts, all_more, fixed, number_word, data_word, data_all}
use Rattle.hex.specs.Hex.{is_hex_digit}
use Rattle.cf_script_words.specs.Entries.{IsEntry, AreFields, AreEntries}
use Rattle.cf_script.specs.Fits.{ItemsFit}
use Rattle.cf_script_words.specs.Entries.{entry_words}
use Rattle.cf_script_words.proofs.NumberMeans.{is_digit, decimal_digits}

-- paths and names
high_path : (b : ℕ) → 128 ≤ b → escape_byte b ≡ b ∷ []
high_path b big = elim (code_cases b) [
  | inl p ↦ absurd (omega (arith, p.0))
  | inr (inl p) ↦ absurd (omega (arith, p.0))
  | inr (inr p) ↦ p.1
]

one_ascii : (b : ℕ) → b < 128 → IsUtf8 (b ∷ [])
one_ascii b small = IsUtf8-from_ascii (b ∷ []) (λ i. below i)
  where
    below : (i : ℕ) → get_or (b ∷ []) i 0 < 128
    below zero = small
    below (suc i) = omega arith

low_path : (b : ℕ) → b < 128 → IsUtf8 (escape_byte b)
low_path b small = elim (code_cases b) [
  | inl p ↦ rw p.1 ((fixed (codes "%20") refl).utf8)
  | inr (inl p) ↦ rw p.1 ((fixed (codes "%25") refl).utf8)
  | inr (inr p) ↦ rw p.1 (one_ascii b small)
]

path_way : IsPlainWay escape_byte
path_way = record { high = high_path; low = low_path }

high_name : (b : ℕ) → 128 ≤ b → escape_name_byte b ≡ b ∷ []
high_name b big = elim (name_code b) [
  | inl p ↦ absurd (omega (arith, p.0))
  | inr p ↦ p.1 ∙ high_path b big
]

low_name : (b : ℕ) → b < 128 → IsUtf8 (escape_name_byte b)
low_name b small = elim (name_code b) [
  | inl p ↦ rw p.1 ((fixed (codes "%2c") refl).utf8)
  | inr p ↦ rw p.1 (low_path b small)
]

name_way : IsPlainWay escape_name_byte
name_way = record { high = high_name; low = low_name }

-- a byte that is no control byte is written as bytes of a word
written_plain : (f : ℕ → List ℕ) (test : ℕ → Bool) → ((b : ℕ) → (nat_le 32 b && not (b == 127)) ≡ true → list_all test (f b) ≡ true) → (bs : List ℕ) → IsTrue (is_plain bs) → list_all test (written f bs) ≡ true
written_plain f test each [] h = refl
written_plain f test each (b ∷ bs) h =
    let k = and_parts (nat_le 32 b && not (b == 127)) (is_plain bs) h in
    list_all-append test (f b) (written f bs) ∙ rw (each b k.0, written_plain f test each bs k.1) refl

not_space : (b : ℕ) → (nat_le 32 b && not (b == 127)) ≡ true → (b == 32) ≡ false → is_word_byte b ≡ true
not_space b h miss = grind (arith, nat_tests)

path_byte : (b : ℕ) → (nat_le 32 b && not (b == 127)) ≡ true → is_word (escape_byte b) ≡ true
path_byte b h = elim (cases_Bool (b == 32)) [
  | inl hit ↦ rw hit refl
  | inr miss ↦ elim (cases_Bool (b == 37)) [ inl hit ↦ rw (miss, hit) refl | inr other ↦ rw (miss, other, not_space b h miss) refl ]
]

name_byte : (b : ℕ) → (nat_le 32 b && not (b == 127)) ≡ true → is_word (escape_name_byte b) ≡ true
name_byte b h = elim (name_code b) [
  | inl p ↦ rw p.1 refl
  | inr p ↦ rw p.1 (path_byte b h)
]

pub path_word : (path : List ℕ) → PathFits path → IsWord (escaped path)
path_word path h = record { utf8 = utf8_written escape_byte path_way path h.0; plain = written_plain escape_byte is_word_byte path_byte path h.2 }

name_word : (name : List ℕ) → IsUtf8 name → IsTrue (is_plain name) → IsWord (escaped_name name)
name_word name utf8 plain = record { utf8 = utf8_written escape_name_byte name_way name utf8; plain = written_plain escape_name_byte is_word_byte name_byte name plain }

-- the words of a line are its words
no_space : (w : List ℕ) → is_word w ≡ true → All (λ b. (b == 32) ≡ false) w
no_space w h = all_pass w (all_more is_word_byte (λ b. not (b == 32)) other w h)
  where
    other : (b : ℕ) → is_word_byte b ≡ true → not (b == 32) ≡ true
    other b h = grind (arith, nat_tests)

    all_pass : (w : List ℕ) → list_all (λ b. not (b == 32)) w ≡ true → All (λ b. (b == 32) ≡ false) w
    all_pass w h k d lt = flip (get_or w k d == 32) (AllPass-from_list_all (λ b. not (b == 32)) w h k d lt)
      where
        flip : (b : Bool) → not b ≡ true → b ≡ false
        flip true h = absurd cc
        flip false h = refl

words_back : (w : List ℕ) (ws : List (List ℕ)) → IsWord w → AreAllWords ws → words_of (w ++ spaced ws) ≡ w ∷ ws
words_back w [] is all = rw (append-nil w) (slice_split_none (λ b. b == 32) w (no_space w is.plain))
words_back w (v ∷ vs) is all =
    slice_split_at (λ b. b == 32) w 32 (v ++ spaced vs) (no_space w is.plain) refl ∙ ap (λ parts. w ∷ parts) (words_back v vs all.0 all.1)

space_utf8 : IsUtf8 (32 ∷ [])
space_utf8 = one_ascii 32 (omega arith)

spaced_utf8 : (ws : List (List ℕ)) → AreAllWords ws → IsUtf8 (spaced ws)
spaced_utf8 [] all = IsUtf8-nil
spaced_utf8 (w ∷ ws) all = IsUtf8-append (32 ∷ w) (spaced ws) (IsUtf8-append (32 ∷ []) w space_utf8 all.0.utf8) (spaced_utf8 ws all.1)

word_plain : (b : ℕ) → is_word_byte b ≡ true → (nat_le 32 b && not (b == 127)) ≡ true
word_plain b h = grind (arith, nat_tests)

word_is_plain : (w : List ℕ) → is_word w ≡ true → is_plain w ≡ true
word_is_plain w h = all_more is_word_byte (λ b. nat_le 32 b && not (b == 127)) word_plain w h

spaced_plain : (ws : List (List ℕ)) → AreAllWords ws → is_plain (spaced ws) ≡ true
spaced_plain [] all = refl
spaced_plain (w ∷ ws) all = list_all-append (λ b. nat_le 32 b && not (b == 127)) w (spaced ws) ∙ rw (word_is_plain w all.0.plain, spaced_plain ws all.1) refl

pub line_spells : (mode : Mode) (w : List ℕ) (ws : List (List ℕ)) (e : Event) → AreAllWords (w ∷ ws) → AreWords mode (w ∷ ws) e → Spells mode (line_of (w ∷ ws)) e
line_spells mode w ws e all is = record {
  utf8 = IsUtf8-append w (spaced ws) all.0.utf8 (spaced_utf8 ws all.1);
  plain = list_all-append (λ b. nat_le 32 b && not (b == 127)) w (spaced ws) ∙ rw (word_is_plain w all.0.plain, spaced_plain ws all.1) refl;
  words = subst (λ v. AreWords mode v e) (sym (words_back w ws all.0 all.1)) is;
}

-- a line of an event is no comment
begins : (c : Command) (t : List ℕ) → is_event_line (command_name c ++ t) ≡ true
begins (command.Bare bare.Flush) t = refl
begins (command.Bare bare.Df) t = refl
begins (command.Bare bare.Connect) t = refl
begins (command.Bare bare.Disconnect) t = refl
begins (command.Bare bare.Restart) t = refl
begins (command.Bare bare.Work) t = refl
begins (command.Bare bare.Sync) t = refl
begins (command.OnPath on_path.Open) t = refl
begins (command.OnPath on_path.Create) t = refl
begins (command.OnPath on_path.Mkdir) t = refl
begins (command.OnPath on_path.Delete) t = refl
begins (command.OnPath on_path.List) t = refl
begins (command.OnPath on_path.Hydrate) t = refl
begins (command.OnPath on_path.Info) t = refl
begins (command.OnPath on_path.Used) t = refl
begins (command.OnPath on_path.Revert) t = refl
begins (command.OnPath on_path.Unmark) t = refl
begins (command.OnNumber on_number.Stop) t = refl
begins (command.OnNumber on_number.Deliver) t = refl
begins (command.OnNumber on_number.Arrive) t = refl
begins (command.OnNumber on_number.Space) t = refl
begins (command.OnWord on_word.Close) t = refl
begins (command.OnWord on_word.Cancel) t = refl
begins (command.OnWord on_word.Tick) t = refl
begins (command.OnThree on_three.Read) t = refl
begins (command.OnThree on_three.Get) t = refl
begins (command.OnThree on_three.Write) t = refl
begins (command.OnTwo on_two.Size) t = refl
begins (command.OnTwo on_two.Rename) t = refl
begins (command.Long long.Pin) t = refl
begins (command.Other other.Dehydrate) t = refl
begins (command.OnTwo on_two.Ranges) t = refl
begins (command.Long long.Policy) t = refl
begins (command.OnTwo on_two.Keep) t = refl
begins (command.Other other.Crash) t = refl
begins (command.Other other.Peer) t = refl
begins (command.OnWord on_word.Link) t = refl
begins (command.Other other.Place) t = refl
begins (command.Long long.PlaceDir) t = refl
begins (command.OnTwo on_two.Convert) t = refl
begins (command.Other other.Update) t = refl
begins (command.OnTwo on_two.Mark) t = refl
begins (command.Long long.Do) t = refl
begins (command.Long long.Plan) t = refl

pub line_counts : (mode : Mode) (w : List ℕ) (ws : List (List ℕ)) (e : Event) → AreWords mode (w ∷ ws) e → is_event_line (line_of (w ∷ ws)) ≡ true
line_counts mode w ws e is = subst (λ v. is_event_line (v ++ spaced ws) ≡ true) (sym is.1) (begins is.0 (spaced ws))

-- the first line of a text
pub first_line : (line rest : List ℕ) → is_plain line ≡ true → lines_of (line ++ 10 ∷ rest) ≡ line ∷ lines_of rest
first_line [] rest h = refl
first_line (b ∷ bs) rest h =
    let k = and_parts (nat_le 32 b && not (b == 127)) (is_plain bs) h in
    rw (no_end b k.0, first_line bs rest k.1) refl
  where
    no_end : (b : ℕ) → (nat_le 32 b && not (b == 127)) ≡ true → (b == 10) ≡ false
    no_end b h = grind (arith, nat_tests)

-- the fields of an entry are its fields
no_comma_name : (b : ℕ) → (nat_le 32 b && not (b == 127)) ≡ true → list_all (λ x. not (x == 44)) (escape_name_byte b) ≡ true
no_comma_name b h = elim (cases_Bool (b == 44)) [
  | inl hit ↦ rw hit refl
  | inr miss ↦ elim (cases_Bool (b == 32)) [
    | inl hit ↦ rw (miss, hit) refl
    | inr miss' ↦ elim (cases_Bool (b == 37)) [ inl hit ↦ rw (miss, miss', hit) refl | inr other ↦ rw (miss, miss', other, miss) refl ]
  ]
]

abbrev has_no_comma : List ℕ → Bool
has_no_comma w = list_all (λ x. not (x == 44)) w

digit_no_comma : (b : ℕ) → is_digit b ≡ true → not (b == 44) ≡ true
digit_no_comma b h = grind (arith, nat_tests)

number_no_comma : (n : ℕ) → n < 2 ^ 32 → has_no_comma (decimal n) ≡ true
number_no_comma n lt = let small : n < 2 ^ 64 = omega (arith, lt) in all_more is_digit (λ b. not (b == 44)) digit_no_comma (decimal n) (decimal_digits n small)

hex_no_comma : (b : ℕ) → is_hex_digit b ≡ true → not (b == 44) ≡ true
hex_no_comma b h = elim (cases_Bool (b == 44)) [
  | inl hit ↦ let k : is_hex_digit 44 ≡ true = subst (λ n. is_hex_digit n ≡ true) (eqb-true _ _ hit) h in absurd cc
  | inr miss ↦ rw miss refl
]

data_no_comma : (bytes : List ℕ) → IsBytes bytes → has_no_comma (plain_text bytes) ≡ true
data_no_comma bytes is = data_all (λ b. not (b == 44)) hex_no_comma refl bytes is

name_no_comma : (name : List ℕ) → IsTrue (is_plain name) → has_no_comma (escaped_name name) ≡ true
name_no_comma name plain = written_plain escape_name_byte (λ x. not (x == 44)) no_comma_name name plain

-- fields after the first one, each behind a comma
abbrev commaed : List (List ℕ) → List ℕ
commaed [] = []
commaed (w ∷ ws) = 44 ∷ w ++ commaed ws

abbrev HaveNoComma : List (List ℕ) → Type 0
HaveNoComma [] = Unit {0}
HaveNoComma (w ∷ ws) = (has_no_comma w ≡ true) × HaveNoComma ws

all_pass : (w : List ℕ) → has_no_comma w ≡ true → All (λ b. (b == 44) ≡ false) w
all_pass w h k d lt = flip (get_or w k d == 44) (AllPass-from_list_all (λ b. not (b == 44)) w h k d lt)
  where
    flip : (b : Bool) → not b ≡ true → b ≡ false
    flip true h = absurd cc
    flip false h = refl

fields_back : (w : List ℕ) (ws : List (List ℕ)) → has_no_comma w ≡ true → HaveNoComma ws → fields_of (w ++ commaed ws) ≡ w ∷ ws
fields_back w [] is all = rw (append-nil w) (slice_split_none (λ b. b == 44) w (all_pass w is))
fields_back w (v ∷ vs) is all =
    slice_split_at (λ b. b == 44) w 44 (v ++ commaed vs) (all_pass w is) refl ∙ ap (λ parts. w ∷ parts) (fields_back v vs all.0 all.1)

join_words : (a b : List ℕ) → IsWord a → IsWord b → IsWord (a ++ b)
join_words a b x y = record { utf8 = IsUtf8-append a b x.utf8 y.utf8; plain = list_all-append is_word_byte a b ∙ rw (x.plain, y.plain) refl }

commaed_word : (ws : List (List ℕ)) → AreAllWords ws → IsWord (commaed ws)
commaed_word [] all = record { utf8 = IsUtf8-nil; plain = refl }
commaed_word (w ∷ ws) all = join_words (44 ∷ w) (commaed ws) (join_words (44 ∷ []) w (fixed (44 ∷ []) refl) all.0) (commaed_word ws all.1)

record IsWritten (word : List ℕ) (item : NewItem) : Type 0 where
  pub is_word : IsWord word
  pub spells : IsEntry word item

-- an entry that is written as these fields
written_as : (text w : List ℕ) (ws : List (List ℕ)) (item : NewItem) → text ≡ w ++ commaed ws → IsWord w → AreAllWords ws → has_no_comma w ≡ true → HaveNoComma ws → AreFields (w ∷ ws) item → IsWritten text item
written_as text w ws item e x xs n ns is = record {
  is_word = subst IsWord (sym e) (join_words w (commaed ws) x (commaed_word ws xs));
  spells = subst (λ fields. AreFields fields item) (sym (ap fields_of e ∙ fields_back w ws n ns)) is;
}

empty_dir : (name : List ℕ) (size : ℕ) (identity : List ℕ) (mark : Bool) → size ≡ 0 → ◌≡◌ {A = NewItem} (record { name = name; dir = true; size = size; identity = identity; mark = mark }) (record { name = name; dir = true; size = 0; identity = identity; mark = mark })
empty_dir name size identity mark e = ap (λ (n : ℕ). record { name = name; dir = true; size = n; identity = identity; mark = mark }) e

entry_written : (name : List ℕ) (dir : Bool) (size : ℕ) (identity : List ℕ) (mark : Bool) → ItemFits (record { name = name; dir = dir; size = size; identity = identity; mark = mark })
    → IsWritten (entry_text (record { name = name; dir = dir; size = size; identity = identity; mark = mark })) (record { name = name; dir = dir; size = size; identity = identity; mark = mark })
entry_written name false size identity true h =
    written_as _ (escaped_name name) (codes "file" ∷ decimal size ∷ plain_text identity ∷ codes "insync" ∷ []) _ (simp append_assoc)
    (name_word name h.0 h.1) (fixed (codes "file") refl, (number_word size h.2, (data_word identity h.4, (fixed (codes "insync") refl, tt))))
    (name_no_comma name h.1) (refl, (number_no_comma size h.2, (data_no_comma identity h.4, (refl, tt))))
    (name, false, (h.0, refl), refl, (size, identity, true, (h.2, refl), (h.4, refl), refl, refl))
entry_written name false size identity false h =
    written_as _ (escaped_name name) (codes "file" ∷ decimal size ∷ plain_text identity ∷ []) _ (simp (append_assoc, append-nil))
    (name_word name h.0 h.1) (fixed (codes "file") refl, (number_word size h.2, (data_word identity h.4, tt)))
    (name_no_comma name h.1) (refl, (number_no_comma size h.2, (data_no_comma identity h.4, tt)))
    (name, false, (h.0, refl), refl, (size, identity, false, (h.2, refl), (h.4, refl), refl, refl))
entry_written name true size identity true h =
    written_as _ (escaped_name name) (codes "dir" ∷ plain_text identity ∷ codes "insync" ∷ []) _ (simp append_assoc)
    (name_word name h.0 h.1) (fixed (codes "dir") refl, (data_word identity h.4, (fixed (codes "insync") refl, tt)))
    (name_no_comma name h.1) (refl, (data_no_comma identity h.4, (refl, tt)))
    (name, true, (h.0, refl), refl, (identity, true, (h.4, refl), refl, empty_dir name size identity true (h.3 refl)))
entry_written name true size identity false h =
    written_as _ (escaped_name name) (codes "dir" ∷ plain_text identity ∷ []) _ (simp (append_assoc, append-nil))
    (name_word name h.0 h.1) (fixed (codes "dir") refl, (data_word identity h.4, tt))
    (name_no_comma name h.1) (refl, (data_no_comma identity h.4, tt))
    (name, true, (h.0, refl), refl, (identity, false, (h.4, refl), refl, empty_dir name size identity false (h.3 refl)))

pub entries_written : (items : List NewItem) → ItemsFit items → AreAllWords (entry_words items) × AreEntries (entry_words items) items
entries_written [] h = (tt, tt)
entries_written (item ∷ items) h =
    let one = entry_written item.name item.dir item.size item.identity item.mark h.0 in
    let rest = entries_written items h.1 in ((one.is_word, rest.0), (one.spells, rest.1))
