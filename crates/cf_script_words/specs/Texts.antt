-- How keys, flags and lines are written.
use Rattle.std.specs.Prelude.{ℕ, List, [], ◌∷◌, Bool, true, false, ◌++◌, codes}
use Rattle.cf_base.specs.declared.ids.Key.{Key}
use Rattle.cf_script_words.specs.Words.{pair_text}
use Rattle.cf_script_words.specs.Names.{flag_words}

abbrev pub key_text : Key → List ℕ
key_text key = pair_text key.epoch key.number

abbrev pub in_sync_words : Bool → List (List ℕ)
in_sync_words b = flag_words (codes "insync") b

abbrev pub plan_key_text : Bool → Key → List ℕ
plan_key_text true key = codes "self"
plan_key_text false key = key_text key

-- words after the first one, each behind a space
abbrev pub spaced : List (List ℕ) → List ℕ
spaced [] = []
spaced (w ∷ ws) = 32 ∷ w ++ spaced ws

abbrev pub line_of : List (List ℕ) → List ℕ
line_of [] = []
line_of (w ∷ ws) = w ++ spaced ws
