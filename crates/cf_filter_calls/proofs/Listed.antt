-- The changes of a list and their numbers.
use Rattle.std.proofs.Common.{◌≡◌, inl, inr, ◌≤◌, ◌<◌, ◌+◌, ◌++◌, ℕ, suc, Bool, true, false, cond, not, List, [], ◌∷◌, drop, get_or, length, refl, sym, ◌∙◌, ap, subst, arith}
use Rattle.std.proofs.lemmas.Bool.{ltb-false, or_parts}
use Rattle.std.proofs.lemmas.Bool.Decides.{nat_tests}
use Rattle.std.proofs.lemmas.List.{append_assoc, length-append}
use Rattle.std.proofs.lemmas.Result.{err_from_is_err_and}
use Rattle.std.specs.Prelude.{Result, Ok, Err, IfErr, IfOk, min, nat_lt, ◌⊎◌, ◌&&◌, ◌||◌}
use Rattle.std.specs.List.{list_any}
use Rattle.std.specs.Result.{IsErrAnd}
use Rattle.cf_base.specs.declared.answers.Shown.TheVariants as shown
use Rattle.cf_base.specs.declared.changes.Change.{Change}
use Rattle.cf_base.specs.declared.changes.Change.TheVariants as change
use Rattle.cf_base.specs.declared.codes.Code.{Code}
use Rattle.cf_base.specs.declared.codes.Code.TheVariants as code
use Rattle.cf_base.specs.declared.codes.CallError.{CallError}
use Rattle.cf_base.specs.declared.codes.CallError.TheVariants as fail
use Rattle.cf_base.specs.declared.ids.ItemId.{ItemId}
use Rattle.cf_base.specs.declared.ids.Usn.{Usn}
use Rattle.cf_base.specs.declared.operations.NewItem.{NewItem}
use Rattle.cf_base.specs.declared.policies.Policy.{Policy}
use Rattle.cf_base.specs.declared.waits.Ask.{Ask}
use Rattle.cf_filter_calls.specs.Entering.{changes_of_list, entered_by, listed_changes, number_past, put_listed}
use Rattle.cf_filter_calls.specs.Moved.{lacks_place}
use Rattle.cf_model.specs.Arrows.{unless}
use Rattle.cf_model.specs.Books.{Book}
use Rattle.cf_model.specs.Changes.{lacks_numbers, needs_id, next_number, no_places, no_table, put_change, put_changes}
use Rattle.cf_model.specs.Images.{is_table_full, table_full}
use Rattle.cf_model.specs.Operations.{entry_changes, entry_kind, no_table_listed}
use Rattle.cf_model.specs.State.{Filter, Volume}
use Rattle.cf_model.specs.Words.{first_of, is_empty, when}
use Rattle.cf_filter_steps.proofs.Laws.{drop_at}

-- a name, or none

pub failed_as : (r : Result (Unit {0}) CallError) (f : CallError) (P : CallError → Type 0) → IsErrAnd r (λ y. y ≡ f) → P f → IfErr r P
failed_as r f P is h = let p = err_from_is_err_and r is in subst (λ (q : Result (Unit {0}) CallError). IfErr q P) (sym (p.1 ∙ ap (λ (z : CallError). Err z) p.2)) h

pub named_ok : (r : Result (Unit {0}) CallError) (u : Unit {0}) (b : Bool) → IfOk r (λ v. b ≡ true) → r ≡ Ok u → true ≡ b
named_ok r u b h e = sym (subst (λ (q : Result (Unit {0}) CallError). IfOk q (λ v. b ≡ true)) e h)

pub named_not : (r : Result (Unit {0}) CallError) (f : CallError) (c : Code) (b : Bool) → IfErr r (λ x. (x ≡ fail.OutOfMemory) ⊎ ((x ≡ fail.No code.BadPath) × (b ≡ false))) → r ≡ Err f → f ≡ fail.No c → false ≡ b
named_not r f c b h e q = one (subst (λ (y : CallError). (y ≡ fail.OutOfMemory) ⊎ ((y ≡ fail.No code.BadPath) × (b ≡ false))) q (subst (λ (y : Result (Unit {0}) CallError). IfErr y (λ x. (x ≡ fail.OutOfMemory) ⊎ ((x ≡ fail.No code.BadPath) × (b ≡ false)))) e h)) where
  one : (fail.No c ≡ fail.OutOfMemory) ⊎ ((fail.No c ≡ fail.No code.BadPath) × (b ≡ false)) → false ≡ b
  one (inl z) = let w : ◌≡◌ {A = CallError} (fail.No c) fail.OutOfMemory = z in absurd cc
  one (inr z) = sym z.1

-- as the definitions number them
abbrev pub exact : Policy → ItemId → ℕ → Usn → List NewItem → List Change
exact p dir k n list = entry_changes p dir k n list ++ change.Populated dir ∷ []

abbrev make_of : Policy → ItemId → ℕ → NewItem → Change
make_of p dir k e = change.Make (record { 0 = k }) dir e.name (entry_kind p e.dir) (cond e.dir 0 e.size) e.identity

abbrev mark_of : ℕ → Usn → Change
mark_of k n = change.Mark (record { 0 = k }) n

abbrev next_of : Bool → Usn → Usn
next_of mark n = record n { place = n.place + cond mark 2 1 }

abbrev with_log : List (Usn × Change) → Volume → Volume
with_log l v = record v { log = l }

-- the table after them hangs on no number of a mark

abbrev full_after : Change → Volume → Bool
full_after c v = is_table_full c (put_change c v).items (put_change c v).book

abbrev logged : List (Usn × Change) → Change → Volume → List (Usn × Change)
logged l c v = l ++ (next_number v, c) ∷ []

tables_alike : (p : Policy) (dir : ItemId) (k : ℕ) (n m : Usn) (list : List NewItem) (l : List (Usn × Change)) (v : Volume) → no_table (with_log l v) (listed_changes p dir k n list) ≡ no_table v (exact p dir k m list)
tables_alike p dir k n m [] l v = refl
tables_alike p dir k n m (e ∷ es) l v = two e.mark (λ i j h w. tables_alike p dir (k + 1) i j es h w) where
  two : (b : Bool) → ((i j : Usn) (h : List (Usn × Change)) (w : Volume) → no_table (with_log h w) (listed_changes p dir (k + 1) i es) ≡ no_table w (exact p dir (k + 1) j es))
      → no_table (with_log l v) (make_of p dir k e ∷ when b (mark_of k n ∷ []) ++ listed_changes p dir (k + 1) (number_past b n) es)
      ≡ no_table v ((make_of p dir k e ∷ when b (mark_of k m ∷ []) ++ entry_changes p dir (k + 1) (next_of b m) es) ++ change.Populated dir ∷ [])
  two false rest = ap (λ (t : Bool). full_after (make_of p dir k e) v || t) (rest (number_past false n) (next_of false m) (logged l (make_of p dir k e) v) (put_change (make_of p dir k e) v))
  two true rest = ap (λ (t : Bool). full_after (make_of p dir k e) v || t)
      (rest (number_past true n) (next_of true m) (logged (logged l (make_of p dir k e) v) (mark_of k n) (put_change (make_of p dir k e) v)) (put_change (mark_of k m) (put_change (make_of p dir k e) v)))

-- nor does what they leave, but for the log

after_alike : (p : Policy) (dir : ItemId) (k : ℕ) (n m : Usn) (list : List NewItem) (l : List (Usn × Change)) (v : Volume)
    → (h : List (Usn × Change)) × (put_changes (listed_changes p dir k n list) (with_log l v) ≡ with_log h (put_changes (exact p dir k m list) v))
after_alike p dir k n m [] l v = (logged l (change.Populated dir) v, refl)
after_alike p dir k n m (e ∷ es) l v = two e.mark (λ i j h w. after_alike p dir (k + 1) i j es h w) where
  two : (b : Bool) → ((i j : Usn) (h : List (Usn × Change)) (w : Volume) → (g : List (Usn × Change)) × (put_changes (listed_changes p dir (k + 1) i es) (with_log h w) ≡ with_log g (put_changes (exact p dir (k + 1) j es) w)))
      → (h : List (Usn × Change)) × (put_changes (make_of p dir k e ∷ when b (mark_of k n ∷ []) ++ listed_changes p dir (k + 1) (number_past b n) es) (with_log l v)
      ≡ with_log h (put_changes ((make_of p dir k e ∷ when b (mark_of k m ∷ []) ++ entry_changes p dir (k + 1) (next_of b m) es) ++ change.Populated dir ∷ []) v))
  two false rest = rest (number_past false n) (next_of false m) (logged l (make_of p dir k e) v) (put_change (make_of p dir k e) v)
  two true rest = rest (number_past true n) (next_of true m) (logged (logged l (make_of p dir k e) v) (mark_of k n) (put_change (make_of p dir k e) v)) (put_change (mark_of k m) (put_change (make_of p dir k e) v))

lists_some : (p : Policy) (dir : ItemId) (k : ℕ) (n m : Usn) (list : List NewItem) → is_empty (listed_changes p dir k n list) ≡ is_empty (exact p dir k m list)
lists_some p dir k n m [] = refl
lists_some p dir k n m (e ∷ es) = refl

listed_alike : (f : Book → Book) (p : Policy) (dir : ItemId) (k : ℕ) (n m : Usn) (list : List NewItem) (v : Volume) → no_table_listed f (listed_changes p dir k n list) v ≡ no_table_listed f (exact p dir k m list) v
listed_alike f p dir k n m list v =
    let after = after_alike p dir k n m list v.log v in
    (λ j. tables_alike p dir k n m list v.log v j || (not (lists_some p dir k n m list j) && table_full (after.1 j).items (f (after.1 j).book)))

-- how many they are, and whether there are ids for them

lengths_alike : (p : Policy) (dir : ItemId) (k : ℕ) (n m : Usn) (list : List NewItem) → length (listed_changes p dir k n list) ≡ length (exact p dir k m list)
lengths_alike p dir k n m [] = refl
lengths_alike p dir k n m (e ∷ es) = two e.mark (λ i j. lengths_alike p dir (k + 1) i j es) where
  two : (b : Bool) → ((i j : Usn) → length (listed_changes p dir (k + 1) i es) ≡ length (exact p dir (k + 1) j es))
      → length (make_of p dir k e ∷ when b (mark_of k n ∷ []) ++ listed_changes p dir (k + 1) (number_past b n) es)
      ≡ length ((make_of p dir k e ∷ when b (mark_of k m ∷ []) ++ entry_changes p dir (k + 1) (next_of b m) es) ++ change.Populated dir ∷ [])
  two false rest = ap (λ (t : ℕ). suc t) (rest (number_past false n) (next_of false m))
  two true rest = ap (λ (t : ℕ). suc (suc t)) (rest (number_past true n) (next_of true m))

ids_alike : (p : Policy) (dir : ItemId) (k : ℕ) (n m : Usn) (list : List NewItem) → list_any needs_id (listed_changes p dir k n list) ≡ list_any needs_id (exact p dir k m list)
ids_alike p dir k n m [] = refl
ids_alike p dir k n m (e ∷ es) = two e.mark (λ i j. ids_alike p dir (k + 1) i j es) where
  two : (b : Bool) → ((i j : Usn) → list_any needs_id (listed_changes p dir (k + 1) i es) ≡ list_any needs_id (exact p dir (k + 1) j es))
      → list_any needs_id (make_of p dir k e ∷ when b (mark_of k n ∷ []) ++ listed_changes p dir (k + 1) (number_past b n) es)
      ≡ list_any needs_id ((make_of p dir k e ∷ when b (mark_of k m ∷ []) ++ entry_changes p dir (k + 1) (next_of b m) es) ++ change.Populated dir ∷ [])
  two false rest = ap (λ (t : Bool). needs_id (make_of p dir k e) || t) (rest (number_past false n) (next_of false m))
  two true rest = ap (λ (t : Bool). needs_id (make_of p dir k e) || t) (rest (number_past true n) (next_of true m))

lacks_alike : (p : Policy) (dir : ItemId) (k : ℕ) (n m : Usn) (list : List NewItem) (v : Volume) → lacks_numbers v (listed_changes p dir k n list) ≡ lacks_numbers v (exact p dir k m list)
lacks_alike p dir k n m list v = λ j. no_places v (lengths_alike p dir k n m list j) || ids_alike p dir k n m list j

-- where the numbers suffice they are those of the definitions

number_is : (b : Bool) (n : Usn) → n.place + cond b 2 1 ≤ 4294967295 → number_past b n ≡ next_of b n
number_is b n h = let e : min (n.place + cond b 2 1) 4294967295 ≡ n.place + cond b 2 1 = omega (arith, h) in ap (λ (q : ℕ). record n { place = q }) e

numbers_are : (p : Policy) (dir : ItemId) (k : ℕ) (n : Usn) (list : List NewItem) → n.place + length (entry_changes p dir k n list) ≤ 4294967295 → listed_changes p dir k n list ≡ exact p dir k n list
numbers_are p dir k n [] h = refl
numbers_are p dir k n (e ∷ es) h = two e.mark h (λ i q. numbers_are p dir (k + 1) i es q) where
  two : (b : Bool) → n.place + length (make_of p dir k e ∷ when b (mark_of k n ∷ []) ++ entry_changes p dir (k + 1) (next_of b n) es) ≤ 4294967295
      → ((i : Usn) → i.place + length (entry_changes p dir (k + 1) i es) ≤ 4294967295 → listed_changes p dir (k + 1) i es ≡ exact p dir (k + 1) i es)
      → make_of p dir k e ∷ when b (mark_of k n ∷ []) ++ listed_changes p dir (k + 1) (number_past b n) es
      ≡ (make_of p dir k e ∷ when b (mark_of k n ∷ []) ++ entry_changes p dir (k + 1) (next_of b n) es) ++ change.Populated dir ∷ []
  two false q rest =
      let all : n.place + suc (length (entry_changes p dir (k + 1) (next_of false n) es)) ≤ 4294967295 = q in
      let first : n.place + 1 ≤ 4294967295 = omega (arith, all) in
      let later : n.place + 1 + length (entry_changes p dir (k + 1) (next_of false n) es) ≤ 4294967295 = omega (arith, all) in
      ap (λ (i : Usn). make_of p dir k e ∷ listed_changes p dir (k + 1) i es) (number_is false n first) ∙ ap (λ (l : List Change). make_of p dir k e ∷ l) (rest (next_of false n) later)
  two true q rest =
      let all : n.place + suc (suc (length (entry_changes p dir (k + 1) (next_of true n) es))) ≤ 4294967295 = q in
      let first : n.place + 2 ≤ 4294967295 = omega (arith, all) in
      let later : n.place + 2 + length (entry_changes p dir (k + 1) (next_of true n) es) ≤ 4294967295 = omega (arith, all) in
      ap (λ (i : Usn). make_of p dir k e ∷ mark_of k n ∷ listed_changes p dir (k + 1) i es) (number_is true n first) ∙ ap (λ (l : List Change). make_of p dir k e ∷ mark_of k n ∷ l) (rest (next_of true n) later)

enough : (p : Policy) (dir : ItemId) (k : ℕ) (n : Usn) (list : List NewItem) (v : Volume) → (no_places v 1 ≡ false → n ≡ next_number v) → lacks_numbers v (exact p dir k (next_number v) list) ≡ false
    → listed_changes p dir k n list ≡ exact p dir k (next_number v) list
enough p dir k n list v h e =
    let few = ltb-false 4294967295 (v.place + length (exact p dir k (next_number v) list)) (or_parts (no_places v (length (exact p dir k (next_number v) list))) (list_any needs_id (exact p dir k (next_number v) list)) e).0 in
    let last : length (change.Populated dir ∷ []) ≡ 1 = refl in
    let one : length (exact p dir k (next_number v) list) ≡ length (entry_changes p dir k (next_number v) list) + length (change.Populated dir ∷ []) = length-append (entry_changes p dir k (next_number v) list) (change.Populated dir ∷ []) in
    let left : no_places v 1 ≡ false = past_not (v.place + 1) (omega (arith, few, one, last)) in
    let sum : v.place + 1 + length (entry_changes p dir k (next_number v) list) ≤ 4294967295 = omega (arith, few, one, last) in
    ap (λ (i : Usn). listed_changes p dir k i list) (h left) ∙ numbers_are p dir k (next_number v) list sum
  where
    past_not : (a : ℕ) → a ≤ 4294967295 → nat_lt 4294967295 a ≡ false
    past_not a h = grind (arith, nat_tests)

-- so that the operation is the same

put_by : (t b : Bool) (cs ds : List Change) (f : Book → Book) (ask : Ask) (s : Filter) → (b ≡ false → cs ≡ ds)
    → unless shown.Refused (first_of ((t, code.TableFull) ∷ (b, code.Exhausted) ∷ [])) (entered_by f ask cs) s ≡ unless shown.Refused (first_of ((t, code.TableFull) ∷ (b, code.Exhausted) ∷ [])) (entered_by f ask ds) s
put_by true b cs ds f ask s h = refl
put_by false true cs ds f ask s h = refl
put_by false false cs ds f ask s h = ap (λ (l : List Change). entered_by f ask l s) (h refl)

pub put_alike : (f : Book → Book) (ask : Ask) (list : List NewItem) (n : Usn) (s : Filter) → (lacks_place s ≡ false → n ≡ next_number s.volume)
    → put_listed f ask (listed_changes s.policy ask.item s.volume.next_item.0 n list) s ≡ put_listed f ask (changes_of_list ask.item list s) s
put_alike f ask list n s h =
    let m : Usn = next_number s.volume in
    let k : ℕ = s.volume.next_item.0 in
    let cs : List Change = listed_changes s.policy ask.item k n list in
    let ds : List Change = exact s.policy ask.item k m list in
    (λ j. unless shown.Refused (first_of ((listed_alike f s.policy ask.item k n m list s.volume j, code.TableFull) ∷ (lacks_alike s.policy ask.item k n m list s.volume j, code.Exhausted) ∷ [])) (entered_by f ask cs) s)
    ∙ put_by (no_table_listed f ds s.volume) (lacks_numbers s.volume ds) cs ds f ask s (λ e. enough s.policy ask.item k n list s.volume h e)

-- one entry more

pub listed_more : (p : Policy) (dir item : ItemId) (n m : Usn) (list : List NewItem) (i : ℕ) (e : NewItem) (out mid new all : List Change) (make : Change) → i < length list → e ≡ get_or list i e
    → make ≡ change.Make item dir e.name (entry_kind p e.dir) (cond e.dir 0 e.size) e.identity → mid ≡ out ++ make ∷ [] → new ≡ mid ++ when e.mark (change.Mark item n ∷ []) → m ≡ number_past e.mark n
    → out ++ listed_changes p dir item.0 n (drop i list) ≡ all → new ++ listed_changes p dir (item.0 + 1) m (drop (i + 1) list) ≡ all
listed_more p dir item n m list i e out mid new all make small at makes mids news next h =
    let mark : List Change = when e.mark (change.Mark item n ∷ []) in
    let rest : List Change = listed_changes p dir (item.0 + 1) m (drop (i + 1) list) in
    let first : new ++ rest ≡ (out ++ make ∷ []) ++ (mark ++ rest) = ap (λ (l : List Change). l ++ rest) (news ∙ ap (λ (l : List Change). l ++ mark) mids) ∙ append_assoc (out ++ make ∷ []) mark rest in
    let whole : make ∷ mark ++ rest ≡ listed_changes p dir item.0 n (drop i list) =
    (λ j. makes j ∷ mark ++ listed_changes p dir (item.0 + 1) (next j) (drop (i + 1) list)) ∙ ap (λ (l : List NewItem). listed_changes p dir item.0 n l) (sym (drop_at list i e small at)) in
    first ∙ append_assoc out (make ∷ []) (mark ++ rest) ∙ ap (λ (l : List Change). out ++ l) whole ∙ h
