-- A file in sync that is emptied from a place to its end needs no more room for its row.
use Rattle.std.proofs.Common.{◌≡◌, ℕ, zero, suc, ◌+◌, ◌-◌, ◌*◌, ◌<◌, ◌≤◌, Bool, true, false, ◌&&◌, not, cond, List, [], ◌∷◌, length, map, take, drop, refl, sym, ap, subst, arith, Option, None, is_some}
use Rattle.std.specs.Prelude.{filter, sum_by, slice_range, nat_lt, nat_le, ◌==◌, ◌||◌}
use Rattle.std.specs.List.{list_any}
use Rattle.std.proofs.lemmas.Bool.{le-leb, le-ltb, lt-ltb}
use Rattle.std.proofs.lemmas.Bool.Decides.{nat_tests}
use Rattle.std.proofs.lemmas.List.Sums.{sum_by-cons}
use Rattle.cf_base.specs.declared.changes.Change.{Change}
use Rattle.cf_base.specs.declared.changes.Change.TheVariants as change
use Rattle.cf_base.specs.declared.codes.Code.TheVariants as code
use Rattle.cf_base.specs.declared.ids.ItemId.{ItemId}
use Rattle.cf_model.specs.Blocks.{block_has_byte, blocks_holding, blocks_in}
use Rattle.cf_model.specs.Books.{Book, anchor_of}
use Rattle.cf_model.specs.Changes.{no_places, why_no_room}
use Rattle.cf_model.specs.Effects.{changed, cleared, emptied, leaves_at, left_out}
use Rattle.cf_model.specs.Images.{count_runs, image_len, most_image, most_len, row_len, table_full, writes_since}
use Rattle.cf_model.specs.Items.{Item, covered_flags, here_flags, modified_flags, size_of}
use Rattle.cf_model.specs.Numbers.{above}
use Rattle.cf_model.specs.Overlay.{Written, is_covered}
use Rattle.cf_model.specs.Soundness.{Each}
use Rattle.cf_model.specs.State.{Volume}
use Rattle.cf_model.specs.Words.{by_place, counting, first_of}

-- flags that are clear from a place on, and stay before it

abbrev CutFrom : ℕ → List Bool → List Bool → Type 0
CutFrom k [] [] = Unit {0}
CutFrom k [] (c ∷ cs) = ⊥
CutFrom k (b ∷ bs) [] = ⊥
CutFrom zero (b ∷ bs) (c ∷ cs) = (c ≡ false) × CutFrom zero bs cs
CutFrom (suc k) (b ∷ bs) (c ∷ cs) = (c ≡ b) × CutFrom k bs cs

none_cut : (before : Bool) (bs cs : List Bool) → CutFrom 0 bs cs → count_runs before cs ≡ 0
none_cut before [] [] h = refl
none_cut before [] (c ∷ cs) h = absurd h
none_cut before (b ∷ bs) [] h = absurd h
none_cut before (b ∷ bs) (c ∷ cs) h = subst (λ (d : Bool). count_runs before (d ∷ cs) ≡ 0) (sym h.0) (none_cut false bs cs h.1)

runs_cut : (k : ℕ) (before : Bool) (bs cs : List Bool) → CutFrom k bs cs → count_runs before cs ≤ count_runs before bs
runs_cut zero before bs cs h = omega (arith, none_cut before bs cs h)
runs_cut (suc k) before [] [] h = omega arith
runs_cut (suc k) before [] (c ∷ cs) h = absurd h
runs_cut (suc k) before (b ∷ bs) [] h = absurd h
runs_cut (suc k) before (b ∷ bs) (c ∷ cs) h = subst (λ (d : Bool). count_runs before (d ∷ cs) ≤ count_runs before (b ∷ bs)) (sym h.0) (one b (λ d. runs_cut k d bs cs h.1)) where
  one : (d : Bool) → ((e : Bool) → count_runs e cs ≤ count_runs e bs) → count_runs before (d ∷ cs) ≤ count_runs before (d ∷ bs)
  one true rest = omega (arith, rest true)
  one false rest = rest false

-- from `start` on the places leave, up to `end`
record Leaves (leaves : ℕ → Bool) (start end : ℕ) : Type 0 where
  pub before : (p : ℕ) → p < start → leaves p ≡ false
  pub after : (p : ℕ) → start ≤ p → p < end → leaves p ≡ true

held_cut : (leaves : ℕ → Bool) (start end k at : ℕ) (held : List (Option ℕ)) → Leaves leaves start end → (k ≡ start - at) → at + length held ≤ end
    → CutFrom k (map is_some held) (map is_some (by_place (λ p h. cond (leaves p) None h) at held))
held_cut leaves start end k at [] l e h = tt
held_cut leaves start end zero at (x ∷ xs) l e h =
    (ap (λ (b : Bool). is_some (cond b None x)) (l.after at (omega (arith, e)) (omega (arith, h))), held_cut leaves start end zero (at + 1) xs l (omega (arith, e)) (omega (arith, h)))
held_cut leaves start end (suc k) at (x ∷ xs) l e h =
    (ap (λ (b : Bool). is_some (cond b None x)) (l.before at (omega (arith, e))), held_cut leaves start end k (at + 1) xs l (omega (arith, e)) (omega (arith, h)))

valid_cut : (leaves : ℕ → Bool) (start end k at : ℕ) (flags : List Bool) → Leaves leaves start end → (k ≡ start - at) → at + length flags ≤ end
    → CutFrom k flags (by_place (λ p b. not (leaves p) && b) at flags)
valid_cut leaves start end k at [] l e h = tt
valid_cut leaves start end zero at (x ∷ xs) l e h =
    (ap (λ (b : Bool). not b && x) (l.after at (omega (arith, e)) (omega (arith, h))), valid_cut leaves start end zero (at + 1) xs l (omega (arith, e)) (omega (arith, h)))
valid_cut leaves start end (suc k) at (x ∷ xs) l e h =
    (ap (λ (b : Bool). not b && x) (l.before at (omega (arith, e))), valid_cut leaves start end k (at + 1) xs l (omega (arith, e)) (omega (arith, h)))

leaves_end : (start len : ℕ) → Leaves (leaves_at start len []) start (start + len)
leaves_end start len = record {
  before = λ p h. ap (λ (b : Bool). (b && nat_lt p (start + len)) && true) (gt_leb start p h);
  after = λ p h k. two (nat_le start p) (nat_lt p (start + len)) (le-leb start p h) (lt-ltb p (start + len) k);
} where
  two : (a b : Bool) → a ≡ true → b ≡ true → ((a && b) && true) ≡ true
  two true true e f = refl
  two false b e f = let z : false ≡ true = e in absurd cc
  two true false e f = let z : false ≡ true = f in absurd cc

  gt_leb : (start p : ℕ) → p < start → nat_le start p ≡ false
  gt_leb start p h = grind (arith, nat_tests)

-- blocks

abbrev Fewer : List (Option ℕ) → List (Option ℕ) → Type 0
Fewer [] [] = Unit {0}
Fewer [] (y ∷ ys) = ⊥
Fewer (x ∷ xs) [] = ⊥
Fewer (x ∷ xs) (y ∷ ys) = (is_some x ≡ true → is_some y ≡ true) × Fewer xs ys

fewer_drop : (n : ℕ) (xs ys : List (Option ℕ)) → Fewer xs ys → Fewer (drop n xs) (drop n ys)
fewer_drop zero xs ys h = h
fewer_drop (suc n) [] [] h = tt
fewer_drop (suc n) [] (y ∷ ys) h = absurd h
fewer_drop (suc n) (x ∷ xs) [] h = absurd h
fewer_drop (suc n) (x ∷ xs) (y ∷ ys) h = fewer_drop n xs ys h.1

fewer_take : (n : ℕ) (xs ys : List (Option ℕ)) → Fewer xs ys → Fewer (take n xs) (take n ys)
fewer_take zero xs ys h = tt
fewer_take (suc n) [] [] h = tt
fewer_take (suc n) [] (y ∷ ys) h = absurd h
fewer_take (suc n) (x ∷ xs) [] h = absurd h
fewer_take (suc n) (x ∷ xs) (y ∷ ys) h = (h.0, fewer_take n xs ys h.1)

fewer_any : (xs ys : List (Option ℕ)) → Fewer xs ys → list_any is_some xs ≡ true → list_any is_some ys ≡ true
fewer_any [] [] h e = e
fewer_any [] (y ∷ ys) h e = absurd h
fewer_any (x ∷ xs) [] h e = absurd h
fewer_any (x ∷ xs) (y ∷ ys) h e = one (is_some x) (is_some y) h.0 e (fewer_any xs ys h.1) where
  one : (a b : Bool) → (a ≡ true → b ≡ true) → (a || list_any is_some xs) ≡ true → (list_any is_some xs ≡ true → list_any is_some ys ≡ true) → (b || list_any is_some ys) ≡ true
  one a true f e rest = refl
  one true false f e rest = let z : false ≡ true = f refl in absurd cc
  one false false f e rest = rest e

fewer_emptied : (leaves : ℕ → Bool) (at : ℕ) (held : List (Option ℕ)) → Fewer (by_place (λ p h. cond (leaves p) None h) at held) held
fewer_emptied leaves at [] = tt
fewer_emptied leaves at (x ∷ xs) = (one (leaves at), fewer_emptied leaves (at + 1) xs) where
  one : (b : Bool) → is_some (cond b None x) ≡ true → is_some x ≡ true
  one true e = let z : false ≡ true = e in absurd cc
  one false e = e

filter_fewer : (f g : ℕ → Bool) (xs : List ℕ) → ((x : ℕ) → f x ≡ true → g x ≡ true) → length (filter f xs) ≤ length (filter g xs)
filter_fewer f g [] h = omega arith
filter_fewer f g (x ∷ xs) h = one (f x) (g x) (h x) (filter_fewer f g xs h) where
  one : (a b : Bool) → (a ≡ true → b ≡ true) → length (filter f xs) ≤ length (filter g xs) → length (cond a (x ∷ filter f xs) (filter f xs)) ≤ length (cond b (x ∷ filter g xs) (filter g xs))
  one true true k r = omega (arith, r)
  one true false k r = let z : false ≡ true = k refl in absurd cc
  one false true k r = omega (arith, r)
  one false false k r = r

place_length : {A B : Type 0} (f : ℕ → A → B) (at : ℕ) (xs : List A) → length (by_place f at xs) ≡ length xs
place_length f at [] = refl
place_length f at (x ∷ xs) = ap suc (place_length f (at + 1) xs)

blocks_fewer : (leaves : ℕ → Bool) (held : List (Option ℕ)) → length (blocks_holding (emptied leaves held)) ≤ length (blocks_holding held)
blocks_fewer leaves held =
    subst (λ (n : ℕ). length (filter (block_has_byte (emptied leaves held)) (counting 0 (blocks_in n))) ≤ length (blocks_holding held)) (sym (place_length (λ p h. cond (leaves p) None h) 0 held))
    (filter_fewer (block_has_byte (emptied leaves held)) (block_has_byte held) (counting 0 (blocks_in (length held)))
    (λ b e. fewer_any (slice_range (emptied leaves held) (4096 * b) (4096 * b + 4096)) (slice_range held (4096 * b) (4096 * b + 4096))
    (fewer_take (4096 * b + 4096 - 4096 * b) (drop (4096 * b) (emptied leaves held)) (drop (4096 * b) held) (fewer_drop (4096 * b) (emptied leaves held) held (fewer_emptied leaves 0 held))) e))

-- no write covers a place

uncovered : (before : Bool) (at : ℕ) (held : List (Option ℕ)) → count_runs before (by_place (λ p h. is_covered [] p) at held) ≡ 0
uncovered before at [] = refl
uncovered before at (x ∷ xs) = uncovered false (at + 1) xs

-- the row

covers_none : (b : Book) (start len : ℕ) (i : Item) → i.writes ≡ [] → (count_runs false (modified_flags (left_out start len i)) ≡ 0) × (count_runs false (covered_flags (writes_since b (left_out start len i)) (left_out start len i)) ≡ 0)
covers_none b start len i e = (
  subst (λ (ws : List Written). count_runs false (by_place (λ p h. is_covered ws p) 0 (left_out start len i).held) ≡ 0) (sym e) (uncovered false 0 (left_out start len i).held),
  subst (λ (ws : List Written). count_runs false (by_place (λ p h. is_covered (filter (λ w. above w.number (anchor_of b i.id)) ws) p) 0 (left_out start len i).held) ≡ 0) (sym e)
      (uncovered false 0 (left_out start len i).held),
)

row_shorter : (b : Book) (start len : ℕ) (i : Item) → i.writes ≡ [] → length i.valid ≡ length i.held → size_of i ≤ start + len → row_len b (left_out start len i) ≤ row_len b i
row_shorter b start len i e even h =
    let leaves = leaves_at start len i.writes in
    let l : Leaves leaves start (start + len) = subst (λ (ws : List Written). Leaves (leaves_at start len ws) start (start + len)) (sym e) (leaves_end start len) in
    let here : count_runs false (here_flags (left_out start len i)) ≤ count_runs false (here_flags i) =
    runs_cut start false (here_flags i) (here_flags (left_out start len i)) (held_cut leaves start (start + len) start 0 i.held l (omega arith) (omega (arith, h))) in
    let valid : count_runs false (cleared leaves i.valid) ≤ count_runs false i.valid = runs_cut start false i.valid (cleared leaves i.valid) (valid_cut leaves start (start + len) start 0 i.valid l (omega arith) (omega (arith, h, even))) in
    let none = covers_none b start len i e in
    omega (arith, here, valid, none.0, none.1, blocks_fewer leaves i.held)

-- the table

sum_shorter : (g : Item → ℕ) (f : Item → Item) (id : ItemId) (items : List Item) → Each id (λ i. g (f i) ≤ g i) items → sum_by g (changed id f items) ≤ sum_by g items
sum_shorter g f id [] h = omega arith
sum_shorter g f id (x ∷ xs) h = one (x.id.0 == id.0) h.0 (sum_shorter g f id xs h.1) where
  one : (b : Bool) → (b ≡ true → g (f x) ≤ g x) → sum_by g (changed id f xs) ≤ sum_by g xs → sum_by g (cond b (f x) x ∷ changed id f xs) ≤ sum_by g (x ∷ xs)
  one true k r = omega (arith, k refl, r, sum_by-cons g (f x) (changed id f xs), sum_by-cons g x xs)
  one false k r = omega (arith, r, sum_by-cons g x (changed id f xs), sum_by-cons g x xs)

length_changed : (f : Item → Item) (id : ItemId) (items : List Item) → length (changed id f items) ≡ length items
length_changed f id [] = refl
length_changed f id (i ∷ is) = ap suc (length_changed f id is)

-- where the file is in sync, and the span reaches its end
pub record EndsSynced (start len : ℕ) (i : Item) : Type 0 where
  pub writes : i.writes ≡ []
  pub even : length i.valid ≡ length i.held
  pub end : size_of i ≤ start + len

each_shorter : (b : Book) (start len : ℕ) (id : ItemId) (items : List Item) → Each id (EndsSynced start len) items → Each id (λ i. row_len b (left_out start len i) ≤ row_len b i) items
each_shorter b start len id [] h = tt
each_shorter b start len id (i ∷ is) h = ((λ e. let k = h.0 e in row_shorter b start len i k.writes k.even k.end), each_shorter b start len id is h.1)

has_room : (items : List Item) (b : Book) → length items ≤ 10000 → image_len items b ≤ most_image → table_full items b ≡ false
has_room items b few short = one (nat_lt 10000 (length items)) (nat_lt most_image (most_len items b)) (nat_lt most_image (image_len items b)) (le-ltb 10000 (length items) few) (le-ltb most_image (image_len items b) short) where
  one : (x y z : Bool) → x ≡ false → z ≡ false → (x || (y && z)) ≡ false
  one true y z p q = let w : true ≡ false = p in absurd cc
  one false true z p q = q
  one false false z p q = refl

-- such a change finds room wherever there was room before, and a number is left
pub empty_room : (id : ItemId) (start len : ℕ) (v : Volume) → Each id (EndsSynced start len) v.items → length v.items ≤ 10000 → image_len v.items v.book ≤ most_image → no_places v 1 ≡ false
    → why_no_room (change.Emptied id start len ∷ []) v ≡ None
empty_room id start len v h few short left =
    let c : Change = change.Emptied id start len in
    let after : List Item = changed id (left_out start len) v.items in
    let less : sum_by (row_len v.book) after ≤ sum_by (row_len v.book) v.items = sum_shorter (row_len v.book) (left_out start len) id v.items (each_shorter v.book start len id v.items h) in
    let room : table_full after v.book ≡ false = has_room after v.book (omega (arith, length_changed (left_out start len) id v.items, few)) (omega (arith, less, short)) in
    three (no_places v 1) (table_full after v.book) left room
  where
    three : (a b : Bool) → a ≡ false → b ≡ false
        → first_of ((a || false, code.Exhausted) ∷ (b || false, code.TableFull) ∷ (false, code.Full) ∷ []) ≡ None
    three false false p q = refl
    three true b p q = let z : true ≡ false = p in absurd cc
    three false true p q = let z : true ≡ false = q in absurd cc
