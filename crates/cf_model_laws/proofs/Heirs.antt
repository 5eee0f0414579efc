-- Copies of items and the versions that their writes went into, over more changes and of more items.
use Rattle.std.proofs.Common.{◌≡◌, ◌⊎◌, Bool, true, false, List, [], ◌∷◌, ◌++◌, refl, sym, ◌∙◌, ap, inl, inr, ℕ}
use Rattle.std.specs.Prelude.{not, ◌||◌, ◌&&◌, ◌==◌}
use Rattle.std.specs.List.{list_any}
use Rattle.std.proofs.lemmas.List.{append_assoc}
use Rattle.cf_base.specs.declared.changes.Change.{Change}
use Rattle.cf_base.specs.declared.changes.Change.TheVariants as change
use Rattle.cf_base.specs.declared.ids.ItemId.{ItemId}
use Rattle.cf_base.specs.declared.ids.Usn.{Usn}
use Rattle.cf_model.specs.Effects.{effect}
use Rattle.cf_model.specs.Items.{Item}
use Rattle.cf_model.specs.Kept.{dropped_by, dropped_from, has_id, lists_at, with_copies, with_copy}
use Rattle.cf_model.specs.Logs.{after_changes}
use Rattle.cf_model.specs.Numbers.{above}
use Rattle.cf_model.specs.Words.{when}
use Rattle.cf_model_laws.proofs.KeptLocals.{any_after}
use Rattle.cf_model_laws.proofs.RightItems.{no_way}
use Rattle.cf_model_laws.proofs.SoundSettles.{any_longer}

-- among more items there are no fewer copies and versions

abbrev pub Sub : List ItemId → List ItemId → Type 0
Sub ids more = (h : ItemId) → has_id ids h ≡ true → has_id more h ≡ true

copy_sub : (c : Change) (ids more : List ItemId) → Sub ids more → Sub (with_copy c ids) (with_copy c more)
copy_sub c ids more k h e = by c e where
  copied : (item : ItemId) (a d : Bool) → (a ≡ true → d ≡ true) → has_id (when a (item ∷ []) ++ ids) h ≡ true → has_id (when d (item ∷ []) ++ more) h ≡ true
  copied item true true i e = one (item.0 == h.0) e where
    one : (c : Bool) → (c || has_id ids h) ≡ true → (c || has_id more h) ≡ true
    one true z = refl
    one false z = k h z
  copied item true false i e = no_way (i refl)
  copied item false true i e = one (item.0 == h.0) where
    one : (c : Bool) → (c || has_id more h) ≡ true
    one true = refl
    one false = k h e
  copied item false false i e = k h e

  by : (c : Change) → has_id (with_copy c ids) h ≡ true → has_id (with_copy c more) h ≡ true
  by (change.Copy item from parent name) e = copied item (has_id ids from) (has_id more from) (k from) e
  by (change.Make item parent name kind size identity) e = k h e
  by (change.Remove item) e = k h e
  by (change.Move item parent name) e = k h e
  by (change.Write item at bytes) e = k h e
  by (change.Size item size) e = k h e
  by (change.Filled item start bytes) e = k h e
  by (change.Validated item start len) e = k h e
  by (change.Emptied item start len) e = k h e
  by (change.SetPin item pin) e = k h e
  by (change.Mark item number) e = k h e
  by (change.Clear item) e = k h e
  by (change.Convert item identity) e = k h e
  by (change.Revert item) e = k h e
  by (change.Rebase item identity len at) e = k h e
  by (change.Take item identity size) e = k h e
  by (change.Populated item) e = k h e
  by (change.Keep item on) e = k h e

pub copies_sub : (cs : List (Usn × Change)) (ids more : List ItemId) → Sub ids more → Sub (with_copies cs ids) (with_copies cs more)
copies_sub [] ids more k = k
copies_sub (c ∷ cs) ids more k = copies_sub cs (with_copy c.1 ids) (with_copy c.1 more) (copy_sub c.1 ids more k)

pub copy_more : (c : Change) (ids : List ItemId) → Sub ids (with_copy c ids)
copy_more c ids h e = by c where
  by : (c : Change) → has_id (with_copy c ids) h ≡ true
  by (change.Copy item from parent name) = any_after (λ x. x.0 == h.0) (when (has_id ids from) (item ∷ [])) ids e
  by (change.Make item parent name kind size identity) = e
  by (change.Remove item) = e
  by (change.Move item parent name) = e
  by (change.Write item at bytes) = e
  by (change.Size item size) = e
  by (change.Filled item start bytes) = e
  by (change.Validated item start len) = e
  by (change.Emptied item start len) = e
  by (change.SetPin item pin) = e
  by (change.Mark item number) = e
  by (change.Clear item) = e
  by (change.Convert item identity) = e
  by (change.Revert item) = e
  by (change.Rebase item identity len at) = e
  by (change.Take item identity size) = e
  by (change.Populated item) = e
  by (change.Keep item on) = e

pub copies_more : (cs : List (Usn × Change)) (ids : List ItemId) → Sub ids (with_copies cs ids)
copies_more [] ids h e = e
copies_more (c ∷ cs) ids h e = copies_more cs (with_copy c.1 ids) h (copy_more c.1 ids h e)

pub copies_both : (xs ys : List (Usn × Change)) (ids : List ItemId) → with_copies (xs ++ ys) ids ≡ with_copies ys (with_copies xs ids)
copies_both [] ys ids = refl
copies_both (x ∷ xs) ys ids = copies_both xs ys (with_copy x.1 ids)

pub dropped_both : (xs ys : List (Usn × Change)) (items : List Item) (ids : List ItemId) (n : Usn) → dropped_from items ids n (xs ++ ys) ≡ dropped_from items ids n xs ++ dropped_from (after_changes items xs) (with_copies xs ids) n ys
dropped_both [] ys items ids n = refl
dropped_both (x ∷ xs) ys items ids n = ap (λ (g : List (List ℕ)). dropped_by items ids n x.1 ++ g) (dropped_both xs ys (effect items x.1 x.0) (with_copy x.1 ids) n) ∙ sym (append_assoc (dropped_by items ids n x.1) _ _)

dropped_sub : (f : List ℕ → Bool) (items : List Item) (ids more : List ItemId) (n : Usn) (c : Change) → Sub ids more → list_any f (dropped_by items ids n c) ≡ true → list_any f (dropped_by items more n c) ≡ true
dropped_sub f items ids more n c k e = by c e where
  one : (identity : List ℕ) (a d t u : Bool) → (a ≡ true → d ≡ true) → list_any f (when (a && t && u) (identity ∷ [])) ≡ true → list_any f (when (d && t && u) (identity ∷ [])) ≡ true
  one identity true true t u i e = e
  one identity true false t u i e = no_way (i refl)
  one identity false d t u i e = no_way e

  by : (c : Change) → list_any f (dropped_by items ids n c) ≡ true → list_any f (dropped_by items more n c) ≡ true
  by (change.Rebase item identity len at) e = one identity (has_id ids item) (has_id more item) (lists_at items item n) (not (above n at)) (k item) e
  by (change.Make item parent name kind size identity) e = e
  by (change.Remove item) e = e
  by (change.Move item parent name) e = e
  by (change.Write item at bytes) e = e
  by (change.Size item size) e = e
  by (change.Filled item start bytes) e = e
  by (change.Validated item start len) e = e
  by (change.Emptied item start len) e = e
  by (change.SetPin item pin) e = e
  by (change.Mark item number) e = e
  by (change.Clear item) e = e
  by (change.Convert item identity) e = e
  by (change.Revert item) e = e
  by (change.Take item identity size) e = e
  by (change.Populated item) e = e
  by (change.Keep item on) e = e
  by (change.Copy item from parent name) e = e

pub all_dropped_sub : (f : List ℕ → Bool) (cs : List (Usn × Change)) (items : List Item) (ids more : List ItemId) (n : Usn) → Sub ids more → list_any f (dropped_from items ids n cs) ≡ true → list_any f (dropped_from items more n cs) ≡ true
all_dropped_sub f [] items ids more n k e = e
all_dropped_sub f (c ∷ cs) items ids more n k e =
    by (dropped_by items ids n c.1) (dropped_by items more n c.1) (dropped_sub f items ids more n c.1 k) (all_dropped_sub f cs (effect items c.1 c.0) (with_copy c.1 ids) (with_copy c.1 more) n (copy_sub c.1 ids more k)) e where
      either : (xs ys : List (List ℕ)) → list_any f (xs ++ ys) ≡ true → (list_any f xs ≡ true) ⊎ (list_any f ys ≡ true)
      either [] ys e = inr e
      either (x ∷ xs) ys e = one (f x) e (either xs ys) where
        one : (c : Bool) → (c || list_any f (xs ++ ys)) ≡ true → (list_any f (xs ++ ys) ≡ true → (list_any f xs ≡ true) ⊎ (list_any f ys ≡ true)) → ((c || list_any f xs) ≡ true) ⊎ (list_any f ys ≡ true)
        one true e g = inl refl
        one false e g = g e

      by : (xs ys : List (List ℕ)) → (list_any f xs ≡ true → list_any f ys ≡ true) → (list_any f (dropped_from (effect items c.1 c.0) (with_copy c.1 ids) n cs) ≡ true → list_any f (dropped_from (effect items c.1 c.0) (with_copy c.1 more) n cs) ≡ true)
          → list_any f (xs ++ dropped_from (effect items c.1 c.0) (with_copy c.1 ids) n cs) ≡ true → list_any f (ys ++ dropped_from (effect items c.1 c.0) (with_copy c.1 more) n cs) ≡ true
      by xs ys i rest e =
          elim (either xs (dropped_from (effect items c.1 c.0) (with_copy c.1 ids) n cs) e) as (λ _. list_any f (ys ++ dropped_from (effect items c.1 c.0) (with_copy c.1 more) n cs) ≡ true) [ inl z ↦ any_longer f ys _ (i z) | inr z ↦ any_after f ys _ (rest z) ]
