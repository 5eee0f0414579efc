-- Items of which one, a directory, is known before its entries have come.
use Rattle.std.proofs.Common.{◌≡◌, ℕ, zero, suc, ◌+◌, Bool, true, false, cond, eqb, List, [], ◌∷◌, ◌++◌, length, Option, Some, None, refl, sym, ◌∙◌, ap, subst, arith}
use Rattle.std.specs.Prelude.{All, MatchOption, option_map, sum_by}
use Rattle.std.proofs.lemmas.List.Elements.{All-cons, All-nil}
use Rattle.std.proofs.lemmas.List.Sums.{sum_by-cons}
use Rattle.std.proofs.lemmas.Option.{none-some}
use Rattle.cf_base.specs.declared.ids.ItemId.{ItemId}
use Rattle.cf_model.specs.Books.{Book}
use Rattle.cf_model.specs.Effects.{changed, marked, populated}
use Rattle.cf_model.specs.Images.{aux_len_of, row_len}
use Rattle.cf_model.specs.Items.{Item, item_of, pin_of}
use Rattle.cf_model.specs.LookUp.{child_of, depth_at, is_child_named, line_up}
use Rattle.cf_model.specs.Soundness.{Each}
use Rattle.cf_volume_points.specs.Holding.{FitsTable}
use Rattle.cf_filter_steps.specs.Suiting.{IsOpenDirectory}

-- of any list

pub all_of : {A : Type 0} (P : A → Type 0) → ((x : A) → P x) → (xs : List A) → All P xs
all_of P h [] = All-nil P
all_of P h (x ∷ xs) = All-cons P x xs (h x) (all_of P h xs)

pub changed_both : (key : ItemId) (f : Item → Item) (xs ys : List Item) → changed key f (xs ++ ys) ≡ changed key f xs ++ changed key f ys
changed_both key f [] ys = refl
changed_both key f (x ∷ xs) ys = ap (λ (l : List Item). cond (eqb x.id.0 key.0) (f x) x ∷ l) (changed_both key f xs ys)

pub changed_none : (key : ItemId) (f : Item → Item) (x : Item) → (eqb x.id.0 key.0) ≡ false → changed key f (x ∷ []) ≡ x ∷ []
changed_none key f x h = ap (λ (b : Bool). cond b (f x) x ∷ []) h

pub changed_length : (key : ItemId) (f : Item → Item) (xs : List Item) → length (changed key f xs) ≡ length xs
changed_length key f [] = refl
changed_length key f (x ∷ xs) = ap suc (changed_length key f xs)

module _ (dir : ItemId) where
  abbrev pub now : Item → Item
  now i = cond (eqb i.id.0 dir.0) (populated i) i

  -- what is found

  pub item_ahead : (items : List Item) (id : ItemId) → item_of (changed dir populated items) id ≡ option_map now (item_of items id)
  item_ahead [] id = refl
  item_ahead (x ∷ xs) id = by (eqb x.id.0 dir.0) refl (eqb x.id.0 id.0) refl (item_ahead xs id)
    where
      by : (t : Bool) → eqb x.id.0 dir.0 ≡ t → (u : Bool) → eqb x.id.0 id.0 ≡ u → item_of (changed dir populated xs) id ≡ option_map now (item_of xs id)
          → cond (eqb (cond t (populated x) x).id.0 id.0) (Some (cond t (populated x) x)) (item_of (changed dir populated xs) id) ≡ option_map now (cond u (Some x) (item_of xs id))
      by true e true q rest = ap (λ (b : Bool). cond b (Some (populated x)) (item_of (changed dir populated xs) id)) q ∙ ap (λ (b : Bool). Some (cond b (populated x) x)) (sym e)
      by false e true q rest = ap (λ (b : Bool). cond b (Some x) (item_of (changed dir populated xs) id)) q ∙ ap (λ (b : Bool). Some (cond b (populated x) x)) (sym e)
      by true e false q rest = ap (λ (b : Bool). cond b (Some (populated x)) (item_of (changed dir populated xs) id)) q ∙ rest
      by false e false q rest = ap (λ (b : Bool). cond b (Some x) (item_of (changed dir populated xs) id)) q ∙ rest

  pub none_behind : (items : List Item) (id : ItemId) → item_of (changed dir populated items) id ≡ None → item_of items id ≡ None
  none_behind items id e = by (item_of items id) refl (sym (item_ahead items id) ∙ e)
    where
      by : (o : Option Item) → item_of items id ≡ o → option_map now o ≡ None → o ≡ None
      by None q f = refl
      by (Some i) q f = absurd (none-some (now i) (sym f))

  pub pin_ahead : (items : List Item) (id : ItemId) → pin_of (changed dir populated items) id ≡ pin_of items id
  pin_ahead [] id = refl
  pin_ahead (x ∷ xs) id = by (eqb x.id.0 dir.0) (pin_ahead xs id)
    where
      by : (t : Bool) → pin_of (changed dir populated xs) id ≡ pin_of xs id → cond (eqb (cond t (populated x) x).id.0 id.0) (cond t (populated x) x).pin (pin_of (changed dir populated xs) id) ≡ cond (eqb x.id.0 id.0) x.pin (pin_of xs id)
      by true rest = ap (cond (eqb x.id.0 id.0) x.pin) rest
      by false rest = ap (cond (eqb x.id.0 id.0) x.pin) rest

  pub child_ahead : (items : List Item) (id : ItemId) (name : List ℕ) → child_of items id name ≡ None → child_of (changed dir populated items) id name ≡ None
  child_ahead [] id name h = refl
  child_ahead (x ∷ xs) id name h = by (eqb x.id.0 dir.0) (is_child_named id name x) refl h (child_ahead xs id name)
    where
      by : (t b : Bool) → is_child_named id name x ≡ b → cond b (Some x) (child_of xs id name) ≡ None → (child_of xs id name ≡ None → child_of (changed dir populated xs) id name ≡ None)
          → cond (is_child_named id name (cond t (populated x) x)) (Some (cond t (populated x) x)) (child_of (changed dir populated xs) id name) ≡ None
      by t true q f rest = absurd (none-some x (sym f))
      by true false q f rest = ap (λ (c : Bool). cond c (Some (populated x)) (child_of (changed dir populated xs) id name)) q ∙ rest f
      by false false q f rest = ap (λ (c : Bool). cond c (Some x) (child_of (changed dir populated xs) id name)) q ∙ rest f

  pub open_ahead : (items : List Item) → MatchOption (item_of items dir) ⊥ (λ p. p.directory ≡ true) → MatchOption (item_of (changed dir populated items) dir) ⊥ IsOpenDirectory
  open_ahead [] h = absurd h
  open_ahead (x ∷ xs) h = by (eqb x.id.0 dir.0) refl h (open_ahead xs)
    where
      by : (t : Bool) → eqb x.id.0 dir.0 ≡ t → MatchOption (cond t (Some x) (item_of xs dir)) ⊥ (λ p. p.directory ≡ true)
          → (MatchOption (item_of xs dir) ⊥ (λ p. p.directory ≡ true) → MatchOption (item_of (changed dir populated xs) dir) ⊥ IsOpenDirectory)
          → MatchOption (cond (eqb (cond t (populated x) x).id.0 dir.0) (Some (cond t (populated x) x)) (item_of (changed dir populated xs) dir)) ⊥ IsOpenDirectory
      by true q d rest = subst (λ (b : Bool). MatchOption (cond b (Some (populated x)) (item_of (changed dir populated xs) dir)) ⊥ IsOpenDirectory) (sym q) (d, refl)
      by false q d rest = subst (λ (b : Bool). MatchOption (cond b (Some x) (item_of (changed dir populated xs) dir)) ⊥ IsOpenDirectory) (sym q) (rest d)

  -- how deep it is

  line_step : (n : ℕ) (items : List Item) (i : Item) (t : Bool) → line_up n (changed dir populated items) (item_of (changed dir populated items) i.parent) ≡ line_up n items (item_of items i.parent)
      → line_up (suc n) (changed dir populated items) (Some (cond t (populated i) i)) ≡ line_up (suc n) items (Some i)
  line_step n items i true rest = ap (λ (l : List ℕ). cond (eqb i.id.0 1) [] (i.id.0 ∷ l)) rest
  line_step n items i false rest = ap (λ (l : List ℕ). cond (eqb i.id.0 1) [] (i.id.0 ∷ l)) rest

  line_ahead : (n : ℕ) (items : List Item) (o : Option Item) → line_up n (changed dir populated items) (option_map now o) ≡ line_up n items o
  line_ahead zero items o = refl
  line_ahead (suc n) items None = refl
  line_ahead (suc n) items (Some i) = line_step n items i (eqb i.id.0 dir.0) (ap (line_up n (changed dir populated items)) (item_ahead items i.parent) ∙ line_ahead n items (item_of items i.parent))

  pub depth_ahead : (items : List Item) (id : ItemId) → depth_at (changed dir populated items) id ≡ depth_at items id
  depth_ahead items id =
      ap length
      ((λ j. line_up (changed_length dir populated items j) (changed dir populated items) (item_ahead items id j))
      ∙ line_ahead (length items) items (item_of items id))

  -- properties of each of an id

  pub each_ahead : (P : Item → Type 0) (id : ItemId) (items : List Item) → ((i : Item) → P i → P (populated i)) → Each id P items → Each id P (changed dir populated items)
  each_ahead P id [] f h = record {}
  each_ahead P id (x ∷ xs) f h = (by (eqb x.id.0 dir.0), each_ahead P id xs f h.1)
    where
      by : (t : Bool) → eqb (cond t (populated x) x).id.0 id.0 ≡ true → P (cond t (populated x) x)
      by true e = f x (h.0 e)
      by false e = h.0 e

  -- how long the table is

  rows_ahead : (b : Book) (items : List Item) → sum_by (row_len b) (changed dir populated items) ≡ sum_by (row_len b) items
  rows_ahead b [] = refl
  rows_ahead b (x ∷ xs) =
      sum_by-cons (row_len b) (cond (eqb x.id.0 dir.0) (populated x) x) (changed dir populated xs) ∙ (λ j. by (eqb x.id.0 dir.0) j + rows_ahead b xs j) ∙ sym (sum_by-cons (row_len b) x xs)
    where
      by : (t : Bool) → row_len b (cond t (populated x) x) ≡ row_len b x
      by true = refl
      by false = refl

  pub fits_ahead : (items : List Item) (b : Book) → FitsTable items b → FitsTable (changed dir populated items) b
  fits_ahead items b h = record {
    few = let k = h.few in omega (arith, k, changed_length dir populated items);
    short = let k = h.short in omega (arith, k, ap (λ (n : ℕ). 41 + n + aux_len_of b) (rows_ahead b items));
  }

  -- changes that are made ahead of it

  pub twice_ahead : (items : List Item) → changed dir populated (changed dir populated items) ≡ changed dir populated items
  twice_ahead [] = refl
  twice_ahead (x ∷ xs) = λ j. by (eqb x.id.0 dir.0) refl j ∷ twice_ahead xs j
    where
      by : (t : Bool) → eqb x.id.0 dir.0 ≡ t → cond (eqb (cond t (populated x) x).id.0 dir.0) (populated (cond t (populated x) x)) (cond t (populated x) x) ≡ cond t (populated x) x
      by true e = ap (λ (b : Bool). cond b (populated x) (populated x)) e
      by false e = ap (λ (b : Bool). cond b (populated x) x) e

  pub marked_ahead : (key : ItemId) (items : List Item) → changed dir populated (changed key marked items) ≡ changed key marked (changed dir populated items)
  marked_ahead key [] = refl
  marked_ahead key (x ∷ xs) = λ j. by (eqb x.id.0 key.0) refl (eqb x.id.0 dir.0) refl j ∷ marked_ahead key xs j
    where
      by : (t : Bool) → eqb x.id.0 key.0 ≡ t → (u : Bool) → eqb x.id.0 dir.0 ≡ u
          → cond (eqb (cond t (marked x) x).id.0 dir.0) (populated (cond t (marked x) x)) (cond t (marked x) x) ≡ cond (eqb (cond u (populated x) x).id.0 key.0) (marked (cond u (populated x) x)) (cond u (populated x) x)
      by true e true f = ap (λ (b : Bool). cond b (populated (marked x)) (marked x)) f ∙ sym (ap (λ (b : Bool). cond b (marked (populated x)) (populated x)) e)
      by true e false f = ap (λ (b : Bool). cond b (populated (marked x)) (marked x)) f ∙ sym (ap (λ (b : Bool). cond b (marked x) x) e)
      by false e true f = ap (λ (b : Bool). cond b (populated x) x) f ∙ sym (ap (λ (b : Bool). cond b (marked (populated x)) (populated x)) e)
      by false e false f = ap (λ (b : Bool). cond b (populated x) x) f ∙ sym (ap (λ (b : Bool). cond b (marked x) x) e)
