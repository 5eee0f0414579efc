-- Numbers are given once, and a change changes no item that it does not name.
use Rattle.std.proofs.Common.{◌≡◌, ℕ, zero, suc, ◌+◌, ◌<◌, Bool, true, false, not, cond, List, [], ◌∷◌, ◌++◌, append-nil, refl, sym, ◌∙◌, ap, subst, arith, inl, inr, take, nat_lt, ◌&&◌, ◌||◌, ◌==◌}
use Rattle.std.proofs.lemmas.Bool.Decides.{eqb_tells, nat_tests}
use Rattle.std.specs.Prelude.{Option, Some, None}
use Rattle.cf_base.specs.declared.changes.Change.{Change}
use Rattle.cf_base.specs.declared.changes.Change.TheVariants as change
use Rattle.cf_base.specs.declared.ids.ItemId.{ItemId}
use Rattle.cf_base.specs.declared.ids.Usn.{Usn}
use Rattle.cf_model.specs.Asks.{with_keys}
use Rattle.cf_model.specs.Requests.{Live}
use Rattle.cf_model.specs.Blocks.{is_full, puts_into}
use Rattle.cf_model.specs.Books.{Book}
use Rattle.cf_model.specs.Images.{is_table_full, never_longer}
use Rattle.cf_model.specs.Changes.{next_number, put_change}
use Rattle.cf_model.specs.Effects.{changed, copies, effect, without}
use Rattle.cf_model.specs.Given.{AllBelow, AreNext, named_by}
use Rattle.cf_model.specs.Items.{Item, item_of, pin_of}
use Rattle.cf_model.specs.Restarts.{opened_at}
use Rattle.cf_model.specs.Numbers.{usn_after}
use Rattle.cf_model.specs.State.{Point, Volume}

-- keys

pub keys_are_next : (epoch n : ℕ) (asks : List Live) → AreNext epoch n (with_keys epoch n asks)
keys_are_next epoch n [] = record {}
keys_are_next epoch n (a ∷ as') = (refl, refl, keys_are_next epoch (n + 1) as')

-- items

pub equal_of : (a b : ℕ) → (a == b) ≡ true → a ≡ b
equal_of a b e = elim (eqb_tells a b) [ inl h ↦ h.1 | inr h ↦ elim (true_is_not_false (sym e ∙ h.0)) as (λ _. a ≡ b) [ ] ] where
  true_is_not_false : true ≡ false → ⊥
  true_is_not_false e = cc

-- an item of another id is found as before
found_past : (x i : Item) (k id : ItemId) (rest more : List Item) → x.id ≡ i.id → (i.id.0 == k.0) ≡ true → (k.0 == id.0) ≡ false → item_of rest id ≡ item_of more id
    → item_of (x ∷ rest) id ≡ item_of (i ∷ more) id
found_past x i k id rest more same is_k apart h =
    let miss : (i.id.0 == id.0) ≡ false = subst (λ (n : ℕ). (n == id.0) ≡ false) (sym (equal_of i.id.0 k.0 is_k)) apart in
    let miss_x : (x.id.0 == id.0) ≡ false = subst (λ (j : ItemId). (j.0 == id.0) ≡ false) (sym same) miss in
    rw miss (rw miss_x h)

found_or_past : (i : Item) (id : ItemId) (rest more : List Item) → item_of rest id ≡ item_of more id → item_of (i ∷ rest) id ≡ item_of (i ∷ more) id
found_or_past i id rest more h = ap (λ (x : Option Item). cond (i.id.0 == id.0) (Some i) x) h

pub others_changed : (f : Item → Item) (k id : ItemId) (items : List Item) → ((i : Item) → (f i).id ≡ i.id) → (k.0 == id.0) ≡ false → item_of (changed k f items) id ≡ item_of items id
others_changed f k id [] same apart = refl
others_changed f k id (i ∷ is) same apart = by (i.id.0 == k.0) refl (others_changed f k id is same apart) where
  by : (b : Bool) → (i.id.0 == k.0) ≡ b → item_of (changed k f is) id ≡ item_of is id → item_of (cond b (f i) i ∷ changed k f is) id ≡ item_of (i ∷ is) id
  by true e h = found_past (f i) i k id (changed k f is) is (same i) e apart h
  by false e h = found_or_past i id (changed k f is) is h

pub others_left : (k id : ItemId) (items : List Item) → (k.0 == id.0) ≡ false → item_of (without k items) id ≡ item_of items id
others_left k id [] apart = refl
others_left k id (i ∷ is) apart = by (i.id.0 == k.0) refl (others_left k id is apart) where
  by : (b : Bool) → (i.id.0 == k.0) ≡ b → item_of (without k is) id ≡ item_of is id → item_of (cond (not b) (i ∷ without k is) (without k is)) id ≡ item_of (i ∷ is) id
  by true e h =
      let miss : (i.id.0 == id.0) ≡ false = subst (λ (n : ℕ). (n == id.0) ≡ false) (sym (equal_of i.id.0 k.0 e)) apart in
      rw miss h
  by false e h = found_or_past i id (without k is) is h

-- an item of another id at the end is not found
pub others_added : (x : Item) (id : ItemId) (items : List Item) → (x.id.0 == id.0) ≡ false → item_of (items ++ x ∷ []) id ≡ item_of items id
others_added x id [] apart = rw apart refl
others_added x id (i ∷ is) apart = found_or_past i id (is ++ x ∷ []) is (others_added x id is apart)

added_nothing : (id : ItemId) (items : List Item) → item_of (items ++ []) id ≡ item_of items id
added_nothing id items = ap (λ (xs : List Item). item_of xs id) (append-nil items)

-- the change changes no item but the one that it names
pub others_stay : (items : List Item) (c : Change) (n : Usn) (id : ItemId) → ((named_by c).0 == id.0) ≡ false → item_of (effect items c n) id ≡ item_of items id
others_stay items (change.Make item parent name kind size identity) n id apart = others_added _ id items apart
others_stay items (change.Remove item) n id apart = others_left item id items apart
others_stay items (change.Move item parent name) n id apart = others_changed _ item id items (λ i. refl) apart
others_stay items (change.Write item at bytes) n id apart = others_changed _ item id items (λ i. refl) apart
others_stay items (change.Size item size) n id apart = others_changed _ item id items (λ i. refl) apart
others_stay items (change.Filled item start bytes) n id apart = others_changed _ item id items (λ i. refl) apart
others_stay items (change.Validated item start len) n id apart = others_changed _ item id items (λ i. refl) apart
others_stay items (change.Emptied item start len) n id apart = others_changed _ item id items (λ i. refl) apart
others_stay items (change.SetPin item pin) n id apart = others_changed _ item id items (λ i. refl) apart
others_stay items (change.Mark item number) n id apart = others_changed _ item id items (λ i. refl) apart
others_stay items (change.Clear item) n id apart = others_changed _ item id items (λ i. refl) apart
others_stay items (change.Convert item identity) n id apart = others_changed _ item id items (λ i. refl) apart
others_stay items (change.Revert item) n id apart = others_changed _ item id items (λ i. refl) apart
others_stay items (change.Rebase item identity len at) n id apart = others_changed _ item id items (λ i. refl) apart
others_stay items (change.Take item identity size) n id apart = others_changed _ item id items (λ i. refl) apart
others_stay items (change.Copy item from parent name) n id apart = by (item_of items from) where
  by : (o : Option Item) → item_of (items ++ copies item parent name (pin_of items parent) n o) id ≡ item_of items id
  by None = added_nothing id items
  by (Some i) = others_added _ id items apart
others_stay items (change.Populated item) n id apart = others_changed _ item id items (λ i. refl) apart
others_stay items (change.Keep item on) n id apart = others_changed _ item id items (λ i. refl) apart

-- numbers of changes

still_below : (e p be bp : ℕ) → (nat_lt be e || ((e == be) && nat_lt bp (p + 1))) ≡ true → (nat_lt be e || ((e == be) && nat_lt bp (p + 1 + 1))) ≡ true
still_below e p be bp h = grind (arith, nat_tests, h)

just_below : (e p : ℕ) → (nat_lt e e || ((e == e) && nat_lt (p + 1) (p + 1 + 1))) ≡ true
just_below e p = grind (arith, nat_tests)

below_longer : (e p : ℕ) (log : List (Usn × Change)) (c : Change) → AllBelow (usn_after e p) log → AllBelow (usn_after e (p + 1)) (log ++ (usn_after e p, c) ∷ [])
below_longer e p [] c h = (just_below e p, record {})
below_longer e p (d ∷ log) c h = (still_below e p d.0.epoch d.0.place h.0, below_longer e p log c h.1)

-- with the new change each number is below the next
pub all_below_next : (v : Volume) (c : Change) → AllBelow (next_number v) v.log → AllBelow (next_number (put_change c v)) (put_change c v).log
all_below_next v c h = below_longer v.epoch v.place v.log c h

-- in a later epoch every number so far is below the first
later_epoch : (e n be p bp q : ℕ) → (nat_lt be e || ((e == be) && nat_lt bp (p + 1))) ≡ true → e < n → (nat_lt be n || ((n == be) && nat_lt bp (q + 1))) ≡ true
later_epoch e n be p bp q h small = grind (arith, nat_tests, h, small)

pub below_later : (e n p q : ℕ) (log : List (Usn × Change)) → e < n → AllBelow (usn_after e p) log → AllBelow (usn_after n q) log
below_later e n p q [] small h = record {}
below_later e n p q (d ∷ log) small h = (later_epoch e n d.0.epoch p d.0.place q h.0 small, below_later e n p q log small h.1)

below_front : (x : Usn) (k : ℕ) (log : List (Usn × Change)) → AllBelow x log → AllBelow x (take k log)
below_front x zero log h = record {}
below_front x (suc k) [] h = record {}
below_front x (suc k) (d ∷ log) h = (h.0, below_front x k log h.1)

-- a restart keeps some first changes, and goes on in a later epoch
pub all_below_opened : (v : Volume) (p : Point) (epoch : ℕ) → v.epoch < epoch → AllBelow (next_number v) v.log → AllBelow (next_number (opened_at p epoch v)) (opened_at p epoch v).log
all_below_opened v p epoch small h = below_later v.epoch epoch v.place 0 (take p.count v.log) small (below_front (usn_after v.epoch v.place) p.count v.log h)

-- room

pub never_full : (clusters : ℕ) (items : List Item) (c : Change) → puts_into items c ≡ [] → is_full clusters items c ≡ false
never_full clusters items c h = rw h refl

pub never_table_full : (items : List Item) (c : Change) (b : Book) → never_longer c ≡ true → is_table_full c items b ≡ false
never_table_full items c b h = rw h refl
