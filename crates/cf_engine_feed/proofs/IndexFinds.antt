-- What is found by an index is the first item by id.
use Rattle.std.proofs.Common.{◌≡◌, ℕ, ◌<◌, ◌≤◌, ◌+◌, Bool, true, false, cond, List, [], ◌∷◌, ◌++◌, length, drop, get_or, refl, sym, ◌∙◌, ap, subst, arith}
use Rattle.std.proofs.lemmas.Bool.{and_parts, eqb-true}
use Rattle.std.proofs.lemmas.Bool.Decides.{nat_tests}
use Rattle.std.proofs.lemmas.List.{drop_all}
use Rattle.std.specs.Prelude.{Option, Some, None, find, nat_lt, ◌==◌, ◌&&◌}
use Rattle.cf_base.specs.declared.ids.ItemId.{ItemId}
use Rattle.cf_base.specs.declared.ids.Rid.{Rid}
use Rattle.cf_engine_feed.specs.Indexes.{Changes, IsIndex, Says, entry_of, target_at}
use Rattle.cf_engine_feed.specs.Targets.{is_parent_of, open_id}
use Rattle.cf_engine_feed.specs.declared.indexes.Targets.{Targets}
use Rattle.cf_engine_feed.proofs.IndexSteps.{differ, none_is, own, same_id}
use Rattle.cf_engine_feed_plan.specs.Premises.{id_of}
use Rattle.cf_filter_steps.proofs.Laws.{drop_at}
use Rattle.cf_filter_steps.proofs.RowReads.{both_read, row_gone, row_there}
use Rattle.cf_model.specs.Identities.{has_target, target_of}
use Rattle.cf_model.specs.Items.{Item, item_of}
use Rattle.cf_model.specs.Words.{part}
use Rattle.cf_model.proofs.GivenLaws.{others_added}
use Rattle.cf_table.specs.Means.{Means}
use Rattle.cf_table.specs.Tables.{MeansAll, row_of}
use Rattle.cf_table.specs.declared.rows.Row.{Row}
use Rattle.cf_tree.specs.Trees.{RiseFrom}
use Rattle.cf_tree.proofs.Alike.{rows_by_id}
use Rattle.cf_tree.proofs.Walks.{by_own_id, found_passes}

-- of items

abbrev open_item : Item → Option ItemId
open_item i = cond (i.directory && i.populated) (Some i.id) None

found_not : (f g : Item → Bool) (items : List Item) (i : Item) → find g items ≡ Some i → f i ≡ true → find f items ≡ None → ⊥
found_not f g [] i h p e = let z : ◌≡◌ {A = Option Item} None (Some i) = h in absurd cc
found_not f g (x ∷ xs) i h p e = two (g x) (f x) refl (λ k n. found_not f g xs i k p n) h e where
  two : (a b : Bool) → f x ≡ b → (find g xs ≡ Some i → find f xs ≡ None → ⊥) → cond a (Some x) (find g xs) ≡ Some i → cond b (Some x) (find f xs) ≡ None → ⊥
  two a true q rest k n = let z : ◌≡◌ {A = Option Item} (Some x) None = n in absurd cc
  two false false q rest k n = rest k n
  two true false q rest k n = let same : x ≡ i = cc in differ (sym p ∙ ap f (sym same) ∙ q)

three : (a b c : Bool) → (a && b && c) ≡ true → (a ≡ true) × (b ≡ true) × (c ≡ true)
three true true true h = (refl, refl, refl)
three true true false h = differ (sym h)
three true false c h = differ (sym h)
three false b c h = differ (sym h)

all_three : (a b c : Bool) → a ≡ true → (b && c) ≡ true → (a && b && c) ≡ true
all_three true true true h k = refl
all_three true true false h k = k
all_three true false c h k = k
all_three false b c h k = differ (sym h)

some_number : (n : ℕ) → (n == 0) ≡ false → nat_lt 0 n ≡ true
some_number n h = grind (arith, nat_tests, h)

module _ (items : List Item) (rid : Rid) (rises : RiseFrom 1 items) where
  hit_at : (f : Item → Bool) (i : Item) → find f items ≡ Some i → item_of items i.id ≡ Some i
  hit_at f i e = by_own_id 1 f items i rises e

  -- an item that the item of the remote is, by its id
  is_at : (f : Item → Bool) (i : Item) → find f items ≡ Some i → has_target i rid ≡ true → (target_at items i.id == rid.0) ≡ true
  is_at f i e h = ap (λ (o : Option Item). part (λ (j : Item). (target_of j).0) 0 o == rid.0) (hit_at f i e) ∙ (and_parts (nat_lt 0 rid.0) ((target_of i).0 == rid.0) h).1

  none_of : (f : Item → Bool) → ((i : Item) → f i ≡ true → has_target i rid ≡ true) → Says None (target_at items) rid.0 → ◌≡◌ {A = Option ItemId} None (id_of (find f items))
  none_of f needs s = cases (find f items) refl where
    cases : (o : Option Item) → find f items ≡ o → ◌≡◌ {A = Option ItemId} None (id_of o)
    cases None e = refl
    cases (Some i) e = differ (sym (is_at f i e (needs i (found_passes f items i e))) ∙ s i.id)

  module _ (k : ℕ) (some : (rid.0 == 0) ≡ false) (one : (d : ItemId) → (target_at items d == rid.0) ≡ (d.0 == k)) where
    its_id : (f : Item → Bool) (i : Item) → find f items ≡ Some i → has_target i rid ≡ true → i.id ≡ record { 0 = k }
    its_id f i e h = same_id i.id (record { 0 = k }) (sym (one i.id) ∙ is_at f i e h)

    it_has : (i : Item) → item_of items (record { 0 = k }) ≡ Some i → has_target i rid ≡ true
    it_has i e =
        ap (λ (b : Bool). b && ((target_of i).0 == rid.0)) (some_number rid.0 some)
        ∙ ap (λ (o : Option Item). part (λ (j : Item). (target_of j).0) 0 o == rid.0) (sym e) ∙ one (record { 0 = k }) ∙ own k

    pub one_item : ◌≡◌ {A = Option ItemId} (Some (record { 0 = k })) (id_of (find (λ i. has_target i rid) items))
    one_item = cases (find (λ i. has_target i rid) items) refl where
      missing : (o : Option Item) → item_of items (record { 0 = k }) ≡ o → find (λ i. has_target i rid) items ≡ None → ⊥
      missing None e n = differ (sym (own k) ∙ sym (one (record { 0 = k })) ∙ ap (λ (o : Option Item). part (λ (j : Item). (target_of j).0) 0 o == rid.0) e ∙ none_is rid.0 some)
      missing (Some i) e n = found_not (λ j. has_target j rid) (λ j. j.id.0 == k) items i e (it_has i e) n

      cases : (o : Option Item) → find (λ i. has_target i rid) items ≡ o → ◌≡◌ {A = Option ItemId} (Some (record { 0 = k })) (id_of o)
      cases None e = absurd (missing (item_of items (record { 0 = k })) refl e)
      cases (Some i) e = ap (λ (d : ItemId). Some d) (sym (its_id (λ j. has_target j rid) i e (found_passes (λ j. has_target j rid) items i e)))

    parent_is : part open_item None (item_of items (record { 0 = k })) ≡ id_of (find (is_parent_of rid) items)
    parent_is = cases (find (is_parent_of rid) items) refl where
      none : (o : Option Item) → item_of items (record { 0 = k }) ≡ o → find (is_parent_of rid) items ≡ None → part open_item None o ≡ None
      none None e n = refl
      none (Some i) e n = two (i.directory && i.populated) refl where
        two : (b : Bool) → (i.directory && i.populated) ≡ b → cond b (Some i.id) None ≡ None
        two false q = refl
        two true q = absurd (found_not (is_parent_of rid) (λ j. j.id.0 == k) items i e (all_three (has_target i rid) i.directory i.populated (it_has i e) q) n)

      cases : (o : Option Item) → find (is_parent_of rid) items ≡ o → part open_item None (item_of items (record { 0 = k })) ≡ id_of o
      cases None e = none (item_of items (record { 0 = k })) refl e
      cases (Some j) e =
          let p = three (has_target j rid) j.directory j.populated (found_passes (is_parent_of rid) items j e) in
          let at : item_of items (record { 0 = k }) ≡ Some j = sym (ap (item_of items) (its_id (is_parent_of rid) j e p.0)) ∙ hit_at (is_parent_of rid) j e in
          ap (part open_item None) at ∙ ap (λ (b : Bool). cond (b && j.populated) (Some j.id) None) p.1 ∙ ap (λ (b : Bool). cond b (Some j.id) None) p.2

    pub one_parent : (rows : List Row) → MeansAll rows items → part open_id None (row_of rows (record { 0 = k })) ≡ id_of (find (is_parent_of rid) items)
    one_parent rows m = both_read open_id open_item None (λ r i h. (λ l. cond (h.directory l && h.populated l) (Some (h.id l)) None)) (row_of rows (record { 0 = k })) (item_of items (record { 0 = k })) (rows_by_id rows items (record { 0 = k }) m) ∙ parent_is

  pub no_item : Says None (target_at items) rid.0 → ◌≡◌ {A = Option ItemId} None (id_of (find (λ i. has_target i rid) items))
  no_item s = none_of (λ i. has_target i rid) (λ i h. h) s

  pub no_parent : Says None (target_at items) rid.0 → ◌≡◌ {A = Option ItemId} None (id_of (find (is_parent_of rid) items))
  no_parent s = none_of (is_parent_of rid) (λ i h. (three (has_target i rid) i.directory i.populated h).0) s

  -- 0 names no item of the remote
  zero_has : (i : Item) → (rid.0 == 0) ≡ true → has_target i rid ≡ true → false ≡ true
  zero_has i z h = let n : rid.0 ≡ 0 = eqb-true rid.0 0 z in sym (ap (λ (m : ℕ). nat_lt 0 m) n) ∙ (and_parts (nat_lt 0 rid.0) ((target_of i).0 == rid.0) h).0

  zero_of : (f : Item → Bool) → ((i : Item) → f i ≡ true → has_target i rid ≡ true) → (rid.0 == 0) ≡ true → ◌≡◌ {A = Option ItemId} None (id_of (find f items))
  zero_of f needs z = cases (find f items) refl where
    cases : (o : Option Item) → find f items ≡ o → ◌≡◌ {A = Option ItemId} None (id_of o)
    cases None e = refl
    cases (Some i) e = differ (sym (zero_has i z (needs i (found_passes f items i e))))

  pub zero_item : (rid.0 == 0) ≡ true → ◌≡◌ {A = Option ItemId} None (id_of (find (λ i. has_target i rid) items))
  zero_item z = zero_of (λ i. has_target i rid) (λ i h. h) z

  pub zero_parent : (rid.0 == 0) ≡ true → ◌≡◌ {A = Option ItemId} None (id_of (find (is_parent_of rid) items))
  zero_parent z = zero_of (is_parent_of rid) (λ i h. (three (has_target i rid) i.directory i.populated h).0) z

-- what the entry says
pub said : (t : Targets) (f : ItemId → ℕ) (rid : ℕ) (o : Option ℕ) → (rid == 0) ≡ false → entry_of t rid ≡ o → IsIndex t f → Says o f rid
said t f rid o some e h = subst (λ (q : Option ℕ). Says q f rid) e (h.says rid some)

-- the target of a row's item

pub target_some : (rows : List Row) (id : ItemId) (row : Row) (rid : ℕ) → row_of rows id ≡ Some row → ((i : Item) → Means row i → rid ≡ (target_of i).0) → (items : List Item) → MeansAll rows items → rid ≡ target_at items id
target_some rows id row rid e tells items m = let there = row_there rows items id row m e in tells there.0 there.2 ∙ sym (ap (part (λ (j : Item). (target_of j).0) 0) there.1)

pub target_none : (rows : List Row) (id : ItemId) → row_of rows id ≡ None → (items : List Item) → MeansAll rows items → 0 ≡ target_at items id
target_none rows id e items m = sym (ap (part (λ (j : Item). (target_of j).0) 0) (row_gone rows items id m e))

-- an index that is filled row by row

abbrev pub IsFilled : List Row → List Item → Targets → Type 0
IsFilled rows items t = (pre : List Item) × (rest : List Item) × (pre ++ rest ≡ items) × MeansAll rows rest × IsIndex t (target_at pre)

pub none_filled : (rows : List Row) (items : List Item) (t : Targets) → MeansAll rows items → IsIndex t (λ d. 0) → IsFilled rows items t
none_filled rows items t m h = ([], items, refl, m, h)

grouped : (pre : List Item) (i : Item) (rest : List Item) → (pre ++ i ∷ []) ++ rest ≡ pre ++ (i ∷ rest)
grouped [] i rest = refl
grouped (x ∷ pre) i rest = ap (λ (l : List Item). x ∷ l) (grouped pre i rest)

above : (low : ℕ) (pre : List Item) (i : Item) (rest : List Item) → RiseFrom low (pre ++ (i ∷ rest)) → low ≤ i.id.0
above low [] i rest h = h.0
above low (x ∷ pre) i rest h = let a = above (x.id.0 + 1) pre i rest h.1 in omega (arith, h.0, a)

apart : (a b : ℕ) → a + 1 ≤ b → (a == b) ≡ false
apart a b h = grind (arith, nat_tests, h)

not_before : (low : ℕ) (pre : List Item) (i : Item) (rest : List Item) → RiseFrom low (pre ++ (i ∷ rest)) → item_of pre i.id ≡ None
not_before low [] i rest h = refl
not_before low (x ∷ pre) i rest h = ap (λ (b : Bool). cond b (Some x) (item_of pre i.id)) (apart x.id.0 i.id.0 (above (x.id.0 + 1) pre i rest h.1)) ∙ not_before (x.id.0 + 1) pre i rest h.1

found_last : (pre : List Item) (i : Item) → item_of pre i.id ≡ None → item_of (pre ++ i ∷ []) i.id ≡ Some i
found_last [] i h = ap (λ (b : Bool). cond b (Some i) None) (own i.id.0)
found_last (x ∷ pre) i h = two (x.id.0 == i.id.0) (λ k. found_last pre i k) h where
  two : (b : Bool) → (item_of pre i.id ≡ None → item_of (pre ++ i ∷ []) i.id ≡ Some i) → cond b (Some x) (item_of pre i.id) ≡ None → cond b (Some x) (item_of (pre ++ i ∷ []) i.id) ≡ Some i
  two true rest e = let z : ◌≡◌ {A = Option Item} (Some x) None = e in absurd cc
  two false rest e = rest e

turned : (a b : ℕ) → (a == b) ≡ false → (b == a) ≡ false
turned a b h = grind (arith, nat_tests, h)

one_more : (pre : List Item) (i : Item) (rest : List Item) (id : ItemId) (rid : ℕ) → RiseFrom 1 (pre ++ (i ∷ rest)) → id ≡ i.id → rid ≡ (target_of i).0 → Changes id 0 rid (target_at pre) (target_at (pre ++ i ∷ []))
one_more pre i rest id rid r same is =
    let missing = not_before 1 pre i rest r in record {
      was = ap (target_at pre) same ∙ ap (part (λ (j : Item). (target_of j).0) 0) missing;
      is = ap (target_at (pre ++ i ∷ [])) same ∙ ap (part (λ (j : Item). (target_of j).0) 0) (found_last pre i missing) ∙ sym is;
      others = λ d e. ap (part (λ (j : Item). (target_of j).0) 0) (others_added i d pre (turned d.0 i.id.0 (ap (λ (q : ItemId). d.0 == q.0) (sym same) ∙ e)));
    }

filled_on : (r : Row) (rs : List Row) (items pre rest : List Item) (rid : ℕ) (old new : Targets) → RiseFrom 1 items → pre ++ rest ≡ items → MeansAll (r ∷ rs) rest → IsIndex old (target_at pre) → ((i : Item) → Means r i → rid ≡ (target_of i).0)
    → ((f g : ItemId → ℕ) → Changes r.id 0 rid f g → IsIndex old f → IsIndex new g) → IsFilled rs items new
filled_on r rs items pre [] rid old new rise e m h tells enter = absurd m
filled_on r rs items pre (i ∷ rest) rid old new rise e m h tells enter =
    (pre ++ i ∷ [], rest, grouped pre i rest ∙ e, m.1, enter (target_at pre) (target_at (pre ++ i ∷ [])) (one_more pre i rest r.id rid (subst (RiseFrom 1) (sym e) rise) m.0.id (tells i m.0)) h)

pub one_filled : (rows : List Row) (k : ℕ) (r : Row) (items : List Item) (rid : ℕ) (old new : Targets) → k < length rows → r ≡ get_or rows k r → RiseFrom 1 items → ((i : Item) → Means r i → rid ≡ (target_of i).0)
    → ((f g : ItemId → ℕ) → Changes r.id 0 rid f g → IsIndex old f → IsIndex new g) → IsFilled (drop k rows) items old → IsFilled (drop (k + 1) rows) items new
one_filled rows k r items rid old new small at rise tells enter h =
    let there : IsFilled (r ∷ drop (k + 1) rows) items old = subst (λ (rs : List Row). IsFilled rs items old) (drop_at rows k r small at) h in
    filled_on r (drop (k + 1) rows) items there.0 there.1 rid old new rise there.2 there.3 there.4 tells enter

nothing : (pre rest items : List Item) (t : Targets) → MeansAll [] rest → pre ++ rest ≡ items → IsIndex t (target_at pre) → IsIndex t (target_at items)
nothing pre [] items t m e h = subst (λ (l : List Item). IsIndex t (target_at l)) (sym (ended pre) ∙ e) h where
  ended : (l : List Item) → l ++ [] ≡ l
  ended [] = refl
  ended (x ∷ l) = ap (λ (q : List Item). x ∷ q) (ended l)
nothing pre (i ∷ rest) items t m e h = absurd m

pub all_filled : (rows : List Row) (k : ℕ) (items : List Item) (t : Targets) → length rows ≤ k → IsFilled (drop k rows) items t → IsIndex t (target_at items)
all_filled rows k items t le h =
    let there : IsFilled [] items t = subst (λ (rs : List Row). IsFilled rs items t) (drop_all k rows le) h in
    nothing there.0 there.1 items t there.3 there.2 there.4

pub empty : (t : Targets) → ((rid : ℕ) → entry_of t rid ≡ None) → IsIndex t (λ d. 0)
empty t h = record { says = λ r some. subst (λ (o : Option ℕ). Says o (λ d. 0) r) (sym (h r)) (λ d. none_is r some) }
