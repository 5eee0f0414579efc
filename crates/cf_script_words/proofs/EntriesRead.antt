-- A list of entries is read one by one.
use Rattle.std.proofs.Common.{◌≡◌, ℕ, List, [], ◌∷◌, ◌++◌, refl, sym, ap, subst, append_assoc}
use Rattle.std.specs.Prelude.{Option, Some, None}
use Rattle.std.proofs.lemmas.List.{append-nil}
use Rattle.cf_base.specs.declared.operations.NewItem.{NewItem}
use Rattle.cf_script_words.specs.Words.{Reads}
use Rattle.cf_script_words.specs.Entries.{IsEntry, AreEntries}

abbrev pub with_front : List NewItem → Option (List NewItem) → Option (List NewItem)
with_front front (Some more) = Some (front ++ more)
with_front front None = None

abbrev pub Continues : List (List ℕ) → List NewItem → List (List ℕ) → Type 0
Continues all front rest = (o : Option (List NewItem)) → Reads (AreEntries rest) o → Reads (AreEntries all) (with_front front o)

one_more : (w : List ℕ) (ws : List (List ℕ)) (item : NewItem) (o : Option (List NewItem)) → Reads (IsEntry w) (Some item) → Reads (AreEntries ws) o → Reads (AreEntries (w ∷ ws)) (with_front (item ∷ []) o)
one_more w ws item (Some more) h k = ((h.0, k.0), λ y is. all_same y is)
  where
    all_same : (y : List NewItem) → AreEntries (w ∷ ws) y → y ≡ item ∷ more
    all_same [] is = absurd is
    all_same (z ∷ zs) is = let first = h.1 z is.0 in let rest = k.1 zs is.1 in cc
one_more w ws item None h k = λ y is. never y is
  where
    never : (y : List NewItem) → AreEntries (w ∷ ws) y → ⊥
    never [] is = is
    never (z ∷ zs) is = k zs is.1

front_front : (front : List NewItem) (item : NewItem) (o : Option (List NewItem)) → with_front front (with_front (item ∷ []) o) ≡ with_front (front ++ item ∷ []) o
front_front front item (Some more) = ap Some (sym (append_assoc front (item ∷ []) more))
front_front front item None = refl

pub entries_start : (all : List (List ℕ)) → Continues all [] all
entries_start all (Some more) h = h
entries_start all None h = h

pub entries_more : (all : List (List ℕ)) (front : List NewItem) (w : List ℕ) (ws : List (List ℕ)) (item : NewItem) → Continues all front (w ∷ ws) → Reads (IsEntry w) (Some item) → Continues all (front ++ item ∷ []) ws
entries_more all front w ws item goes h o k =
    subst (Reads (AreEntries all)) (front_front front item o) (goes (with_front (item ∷ []) o) (one_more w ws item o h k))

pub entries_stop : (all : List (List ℕ)) (front : List NewItem) (w : List ℕ) (ws : List (List ℕ)) → Continues all front (w ∷ ws) → Reads (IsEntry w) None → Reads (AreEntries all) None
entries_stop all front w ws goes h = goes None (λ y is. never y is)
  where
    never : (y : List NewItem) → AreEntries (w ∷ ws) y → ⊥
    never [] is = is
    never (z ∷ zs) is = h z is.0

pub entries_end : (all : List (List ℕ)) (front : List NewItem) → Continues all front [] → Reads (AreEntries all) (Some front)
entries_end all front goes = subst (λ xs. Reads (AreEntries all) (Some xs)) (append-nil front) (goes (Some []) (tt, λ y is. none_left y is))
  where
    none_left : (y : List NewItem) → AreEntries [] y → y ≡ []
    none_left [] is = refl
    none_left (z ∷ zs) is = absurd is
