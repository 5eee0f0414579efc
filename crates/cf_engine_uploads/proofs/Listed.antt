-- The turns of all tombstones and items.
use Rattle.std.proofs.Common.{◌≡◌, ℕ, ◌<◌, List, [], ◌∷◌, length, get_or, zero, suc, refl, ◌∙◌, ap, arith}
use Rattle.std.specs.Prelude.{Result, map, filter}
use Rattle.cf_base.specs.declared.codes.CallError.{CallError}
use Rattle.cf_base.specs.declared.ids.ItemId.{ItemId}
use Rattle.cf_engine_queue.specs.Books.{tombstone_value}
use Rattle.cf_engine_queue.specs.declared.uploads.Tombstone.{Tombstone}
use Rattle.cf_engine_steps.specs.Answering.{Answers, Any}
use Rattle.cf_engine_steps.specs.BookReads.{queue_in}
use Rattle.cf_engine_steps.specs.States.{Own, whole}
use Rattle.cf_engine_uploads.proofs.Trees.{same_at}
use Rattle.cf_engine_uploads.specs.Turns.{push_one, push_with}
use Rattle.cf_filter_steps.specs.Answering as steps
use Rattle.cf_filter_steps.specs.Finding.{HasRows}
use Rattle.cf_model.specs.Arrows.{each, then_do}
use Rattle.cf_model.specs.Books as model
use Rattle.cf_model.specs.Items.{Item}
use Rattle.cf_model.specs.LookUp.{by_depth, is_in_tree_of, tree_of}
use Rattle.cf_model.specs.Numbers.{root_id}
use Rattle.cf_model.specs.Pushes.{push_all, push_lists, push_tombstone}
use Rattle.cf_model.specs.State.{items_now}
use Rattle.cf_remote.specs.Told.{Told}
use Rattle.cf_table.specs.Tables.{MeansAll, Table}
use Rattle.cf_tree.specs.Trees.{IsTree}

-- the same element for each other value that stands for none
pub there : {A : Type 0} (xs : List A) (i : ℕ) (d e : A) → i < length xs → get_or xs i d ≡ get_or xs i e
there [] i d e h = absurd (omega (arith, h))
there (x ∷ xs) zero d e h = refl
there (x ∷ xs) (suc i) d e h = there xs i d e (omega (arith, h))

-- tombstones as records have them
pub each_one : (ts : List Tombstone) → each push_one ts ≡ each push_tombstone (map tombstone_value ts)
each_one [] = refl
each_one (t ∷ ts) = ap (then_do (push_one t)) (each_one ts)

-- the whole tree is all items
all_in : (items list : List Item) → filter (λ i. is_in_tree_of items i.id root_id) list ≡ list
all_in items [] = refl
all_in items (i ∷ is) = ap (λ (l : List Item). i ∷ l) (all_in items is)

module _ {X R : Type 0} (S : steps.Sense X) (told : R → Told) (x y : X) (e f : Own R) (r : Result (Unit {0}) CallError) where
  pub with_items : (t : Table) (ts : List model.Tombstone) (ids : List ItemId) → HasRows S x t → ((items : List Item) → MeansAll t.rows items → IsTree items → ids ≡ map (λ i. i.id) (tree_of items root_id)) → Answers (whole S told) Any (push_lists ts ids) (x, e) r (y, f)
      → Answers (whole S told) Any (push_with ts) (x, e) r (y, f)
  with_items t ts ids rows is h = same_at (whole S told) (x, e) r (y, f) Any (push_lists ts ids) (push_with ts)
      (λ s m p. ap (λ (l : List ItemId). push_lists ts l s) (is (items_now s) (rows.rows s.filter m.filter) (S.good x s.filter m.filter).volume.tree ∙ ap (λ (l : List Item). map (λ (i : Item). i.id) (by_depth (items_now s) l)) (all_in (items_now s) (items_now s)))) h

  pub with_tombstones : (q : model.Book) (ts : List model.Tombstone) → steps.Reads S steps.Any queue_in x q → ts ≡ q.tombstones → Answers (whole S told) Any (push_with ts) (x, e) r (y, f) → Answers (whole S told) Any push_all (x, e) r (y, f)
  with_tombstones q ts reads is h = same_at (whole S told) (x, e) r (y, f) Any (push_with ts) push_all (λ s m p. ap (λ (l : List model.Tombstone). push_with l s) (is ∙ ap (λ (b : model.Book). b.tombstones) (reads.is s.filter m.filter (record {})))) h
