-- What a sync leaves to do, counted over the rows.
use Rattle.std.proofs.Common.{◌≡◌, ℕ, zero, suc, ◌+◌, ◌<◌, ◌≤◌, Bool, true, false, not, List, [], ◌∷◌, length, map, take, get_or, refl, sym, ◌∙◌, ap, subst, arith}
use Rattle.std.specs.Prelude.{◌&&◌, ◌||◌, ◌==◌, count_by}
use Rattle.std.proofs.lemmas.List.{length-map, take_all}
use Rattle.std.proofs.lemmas.List.Sums.{count_by_more_no, count_by_more_yes}
use Rattle.cf_base.specs.declared.answers.Shown.TheVariants as shown
use Rattle.cf_base.specs.declared.ids.ItemId.{ItemId}
use Rattle.std.specs.Prelude.{Ok}
use Rattle.cf_engine_passes.specs.Unsettled.{LeftIf, is_left, items_left, items_there, tombstones_there, unsettled_there}
use Rattle.cf_engine_steps.specs.Answering.{Answers, Any, Reads}
use Rattle.cf_engine_steps.specs.BookReads.{queue_in}
use Rattle.cf_engine_steps.specs.States.{Own, whole}
use Rattle.cf_engine_steps.proofs.Laws.{reads_on, returned}
use Rattle.cf_filter_steps.specs.Answering as steps
use Rattle.cf_filter_steps.specs.Finding.{HasRows}
use Rattle.cf_model.specs.Arrows.{ret}
use Rattle.cf_model.specs.Books.{Book, Tombstone}
use Rattle.cf_model.specs.Dehydration.{in_use}
use Rattle.cf_model.specs.Items.{Item, root}
use Rattle.cf_model.specs.LookUp.{is_excluded}
use Rattle.cf_model.specs.Passes.{show_unsettled, things, unsettled}
use Rattle.cf_model.specs.State.{Filter}
use Rattle.cf_remote.specs.Told.{Told}
use Rattle.cf_table.specs.Means.{Means}
use Rattle.cf_table.specs.Tables.{MeansAll, Table}
use Rattle.cf_table.specs.declared.rows.Row.{Row}
use Rattle.cf_tree.specs.Trees.{IsTree}

-- one item

rests : (a b c d : Bool) → (a || b) ≡ true → false ≡ (not a && not b && not c && not d)
rests true b c d e = refl
rests false true c d e = refl
rests false false c d e = let z : false ≡ true = e in absurd cc

is_used : (a b c d : Bool) → (a || b) ≡ false → c ≡ true → false ≡ (not a && not b && not c && not d)
is_used true b c d e q = let z : true ≡ false = e in absurd cc
is_used false true c d e q = let z : true ≡ false = e in absurd cc
is_used false false true d e q = refl
is_used false false false d e q = let z : false ≡ true = q in absurd cc

by_exclusion : (a b c d : Bool) → (a || b) ≡ false → c ≡ false → not d ≡ (not a && not b && not c && not d)
by_exclusion true b c d e q = let z : true ≡ false = e in absurd cc
by_exclusion false true c d e q = let z : true ≡ false = e in absurd cc
by_exclusion false false true d e q = let z : true ≡ false = q in absurd cc
by_exclusion false false false d e q = refl

module _ {X : Type 0} (S : steps.Sense X) (x : X) (row : Row) (b : Bool) (is : b ≡ ((row.id.0 == 1) || row.in_sync)) where
  rest_is : (c : Bool) → b ≡ c → (i : Item) → Means row i → ((i.id.0 == 1) || i.in_sync) ≡ c
  rest_is c e i m = (λ j. ((sym m.id j).0 == 1) || sym m.in_sync j) ∙ sym is ∙ e

  pub at_rest : b ≡ true → LeftIf S row x false
  at_rest e = record { is = λ s i h m. rests (i.id.0 == 1) i.in_sync (in_use i.id s) (is_excluded s.volume.items i.id) (rest_is true e i m) }

  module _ (used : Bool) (reads : steps.Reads S steps.Any (in_use row.id) x used) (awake : b ≡ false) where
    used_is : (c : Bool) → used ≡ c → (s : Filter) (i : Item) → S.means x s → Means row i → in_use i.id s ≡ c
    used_is c e s i h m = sym (reads.is s h (record {}) ∙ ap (λ (k : ItemId). in_use k s) m.id) ∙ e

    pub in_hand : used ≡ true → LeftIf S row x false
    in_hand e = record { is = λ s i h m. is_used (i.id.0 == 1) i.in_sync (in_use i.id s) (is_excluded s.volume.items i.id) (rest_is false awake i m) (used_is true e s i h m) }

    pub unless_out : (out : Bool) (t : Table) → used ≡ false → HasRows S x t → ((items : List Item) → MeansAll t.rows items → IsTree items → out ≡ is_excluded items row.id) → LeftIf S row x (not out)
    unless_out out t e rows h = record {
      is = λ s i p m.
          let excluded : out ≡ is_excluded s.volume.items i.id = h s.volume.items (rows.rows s p) (S.good x s p).volume.tree ∙ ap (is_excluded s.volume.items) m.id in
          ap not excluded ∙ by_exclusion (i.id.0 == 1) i.in_sync (in_use i.id s) (is_excluded s.volume.items i.id) (rest_is false awake i m) (used_is false e s i p m);
    }

-- all items

means_at : (rows : List Row) (items : List Item) (k : ℕ) (r : Row) (d : Item) → MeansAll rows items → k < length rows → r ≡ get_or rows k r → Means r (get_or items k d) × (k < length items)
means_at [] items k r d m small is = absurd (omega (arith, small))
means_at (x ∷ xs) [] k r d m small is = absurd m
means_at (x ∷ xs) (y ∷ ys) zero r d m small is = (subst (λ (q : Row). Means q y) (sym is) m.0, omega arith)
means_at (x ∷ xs) (y ∷ ys) (suc k) r d m small is = let h = means_at xs ys k r d m.1 (omega (arith, small)) is in (h.0, omega (arith, h.1))

pub means_length : (rows : List Row) (items : List Item) → MeansAll rows items → length rows ≡ length items
means_length [] [] m = refl
means_length [] (y ∷ ys) m = absurd m
means_length (x ∷ xs) [] m = absurd m
means_length (x ∷ xs) (y ∷ ys) m = ap suc (means_length xs ys m.1)

module _ {X : Type 0} (S : steps.Sense X) (x : X) (rows : List Row) where
  -- so many of the first items are left, in each state
  pub record Counted (k count : ℕ) : Type 0 where
    pub most : count ≤ k
    pub are : (s : Filter) → S.means x s → MeansAll rows s.volume.items → count ≡ count_by (λ i. is_left i s) (take k s.volume.items)

  pub none_yet : Counted 0 0
  none_yet = record { most = omega arith; are = λ s h m. refl }

  module _ (k count : ℕ) (row : Row) (b : Bool) (so_far : Counted k count) (small : k < length rows) (at : row ≡ get_or rows k row) (left : LeftIf S row x b) where
    pub one_more : b ≡ true → Counted (k + 1) (count + 1)
    one_more is = record {
      most = omega (arith, so_far.most);
      are = λ s h m.
          let i = means_at rows s.volume.items k row root m small at in
          ap (λ (n : ℕ). n + 1) (so_far.are s h m) ∙ sym (count_by_more_yes (λ j. is_left j s) s.volume.items k root i.1 (sym (left.is s (get_or s.volume.items k root) h i.0) ∙ is));
    }

    pub as_many : b ≡ false → Counted (k + 1) count
    as_many is = record {
      most = omega (arith, so_far.most);
      are = λ s h m.
          let i = means_at rows s.volume.items k row root m small at in
          so_far.are s h m ∙ sym (count_by_more_no (λ j. is_left j s) s.volume.items k root i.1 (sym (left.is s (get_or s.volume.items k root) h i.0) ∙ is));
    }

  pub all_counted : (k count : ℕ) → Counted k count → length rows ≤ k → (s : Filter) → S.means x s → MeansAll rows s.volume.items → count ≡ items_left s
  all_counted k count so_far le s h m =
      let past : length s.volume.items ≤ k = subst (λ (n : ℕ). n ≤ k) (means_length rows s.volume.items m) le in
      so_far.are s h m ∙ ap (count_by (λ i. is_left i s)) (take_all k s.volume.items past)

-- items and tombstones

pub items_counted : {X : Type 0} (S : steps.Sense X) (x : X) (t : Table) (rows : List Row) (n : ℕ) → HasRows S x t → rows ≡ t.rows → n ≡ length rows → steps.Reads S steps.Any items_there x n
items_counted S x t rows n h same is = record { is = λ s m p. is ∙ ap length same ∙ means_length t.rows s.volume.items (h.rows s m) }

module _ {X : Type 0} (S : steps.Sense X) (x : X) where
  pub tombstones_counted : {A : Type 0} (b : Book) (value : A → Tombstone) (ts : List A) (n : ℕ) → steps.Reads S steps.Any queue_in x b → map value ts ≡ b.tombstones → n ≡ length ts → steps.Reads S steps.Any tombstones_there x n
  tombstones_counted b value ts n h same is = record { is = λ s m p. is ∙ sym (length-map ts value) ∙ ap length (same ∙ ap (λ (c : Book). c.tombstones) (h.is s m (record {}))) }

  module _ (tombstones : ℕ) (reads : steps.Reads S steps.Any tombstones_there x tombstones) (t : Table) (h : HasRows S x t) (rows : List Row) (same : rows ≡ t.rows) where
    pub unsettled_counted : (left n : ℕ) → ((s : Filter) → S.means x s → MeansAll rows s.volume.items → left ≡ items_left s) → n ≡ tombstones + left → steps.Reads S steps.Any unsettled_there x n
    unsettled_counted left n are is = record { is = λ s m p. is ∙ (λ j. reads.is s m (record {}) j + are s m (subst (λ (rs : List Row). MeansAll rs s.volume.items) (sym same) (h.rows s m)) j) }

-- as parts of the whole

module _ {X R : Type 0} (S : steps.Sense X) (told : R → Told) (x : X) (e : Own R) (n : ℕ) where
  pub things_counted : (items tombstones : ℕ) → steps.Reads S steps.Any items_there x items → steps.Reads S steps.Any tombstones_there x tombstones → n ≡ items + tombstones → Reads (whole S told) Any things (x, e) n
  things_counted items tombstones i t is = record { is = λ s m p. is ∙ (λ j. i.is s.filter m.filter (record {}) j + t.is s.filter m.filter (record {}) j) }

  pub shows_unsettled : steps.Reads S steps.Any unsettled_there x n → Answers (whole S told) Any show_unsettled (x, e) (Ok (shown.Count n)) (x, e)
  shows_unsettled h = reads_on (whole S told) Any unsettled (λ k. ret (shown.Count k)) (x, e) (x, e) n (Ok (shown.Count n)) (record { is = λ s m p. h.is s.filter m.filter (record {}) }) (returned (whole S told) Any (shown.Count n) (x, e))
