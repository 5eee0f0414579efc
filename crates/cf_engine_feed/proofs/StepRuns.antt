-- Steps that are done one after the other, up to the first that is left out.
use Rattle.std.proofs.Common.{◌≡◌, ℕ, ◌<◌, ◌≤◌, ◌+◌, Bool, true, false, List, ◌∷◌, length, drop, get_or, refl, sym, ◌∙◌, ap, subst}
use Rattle.std.proofs.Math.ListN.{drop_of_length-le}
use Rattle.std.specs.Prelude.{Option, Some, None, Result, Ok, Err, option_map}
use Rattle.cf_base.specs.declared.changes.Change.{Change}
use Rattle.cf_base.specs.declared.codes.CallError.{CallError}
use Rattle.cf_base.specs.declared.ids.ItemId.{ItemId}
use Rattle.cf_engine_feed.specs.Copies.{try_if}
use Rattle.cf_engine_feed_plan.specs.Lists.{copied_off, copy_of}
use Rattle.cf_engine_feed_plan.specs.Turns.{copy_if, copy_now, do_step, do_steps}
use Rattle.cf_engine_feed_plan.specs.declared.entry_steps.Step.{Step}
use Rattle.cf_engine_steps.specs.Answering.{After, Answers, Any, Whole}
use Rattle.cf_engine_steps.specs.States.{Own, whole}
use Rattle.cf_engine_steps.proofs.Laws.{fails_first, ok_off, ok_on, returned}
use Rattle.cf_filter_steps.proofs.Laws.{drop_at}
use Rattle.cf_filter_steps.specs.Answering.{Sense}
use Rattle.cf_filter_steps.specs.Finding.{HasRows}
use Rattle.cf_model.specs.Arrows.{Arrow}
use Rattle.cf_model.specs.Items.{Item, item_of}
use Rattle.cf_model.specs.State.{State, items_now}
use Rattle.cf_model.specs.Trees.{Does}
use Rattle.cf_remote.specs.Told.{Told}
use Rattle.cf_table.specs.Tables.{MeansAll, Table}

-- the same tree in each state that it stands for
pub same_where : {X A : Type 0} (W : Whole X) (f g : Arrow State A) (old new : X) (r : Result A CallError) → ((s : State) → W.means old s → f s ≡ g s) → Answers W Any f old r new → Answers W Any g old r new
same_where W f g old new r same h = record {
  leads = λ s i p.
      subst (λ (q : _). (t : State) × Does q r t × W.moved old new s t × After W old r new s t) (same s i) (h.leads s i p);
}

module _ {X : Type 0} (W : Whole X) (xs : List Step) (i : ℕ) where
  from_here : (x : Step) (old new : X) (r : Result Bool CallError) → i < length xs → x ≡ get_or xs i x → Answers W Any (do_steps (x ∷ drop (i + 1) xs)) old r new → Answers W Any (do_steps (drop i xs)) old r new
  from_here x old new r small at h = subst (λ (ys : List Step). Answers W Any (do_steps ys) old r new) (sym (drop_at xs i x small at)) h

  pub steps_more : (x : Step) (old mid new : X) (a : Bool) (r : Result Bool CallError) → i < length xs → x ≡ get_or xs i x → Answers W Any (do_step x) old (Ok a) mid → a ≡ true → Answers W Any (do_steps (drop (i + 1) xs)) mid r new → Answers W Any (do_steps (drop i xs)) old r new
  steps_more x old mid new a r small at h is k = from_here x old new r small at (ok_on W Any (do_step x) false (do_steps (drop (i + 1) xs)) old mid new a r h is k)

  pub steps_off : (x : Step) (old mid : X) (a : Bool) → i < length xs → x ≡ get_or xs i x → Answers W Any (do_step x) old (Ok a) mid → a ≡ false → Answers W Any (do_steps (drop i xs)) old (Ok false) mid
  steps_off x old mid a small at h is = from_here x old mid (Ok false) small at (ok_off W Any (do_step x) false (do_steps (drop (i + 1) xs)) old mid a h is)

  pub steps_fail : (x : Step) (old new : X) (e : CallError) → i < length xs → x ≡ get_or xs i x → Answers W Any (do_step x) old (Err e) new → Answers W Any (do_steps (drop i xs)) old (Err e) new
  steps_fail x old new e small at h = from_here x old new (Err e) small at (fails_first W Any (do_step x) _ old new e h)

  pub steps_end : (last : X) → length xs ≤ i → Answers W Any (do_steps (drop i xs)) last (Ok true) last
  steps_end last le = subst (λ (ys : List Step). Answers W Any (do_steps ys) last (Ok true) last) (sym (drop_of_length-le xs le)) (returned W Any true last)

-- the local writes of a file go on in a copy, by the change that is planned on the rows

copies : (s : State) (item : ItemId) → try_if (copy_of s.filter.volume.next_item (items_now s) item) s ≡ copy_now item s
copies s item = cases (item_of (items_now s) item) where
  cases : (o : Option Item) → try_if (option_map (copied_off s.filter.volume.next_item (items_now s)) o) s ≡ copy_if o s
  cases None = refl
  cases (Some i) = refl

pub copied : {X R : Type 0} (S : Sense X) (told : R → Told) (t : Table) (item : ItemId) (o : Option Change) (x y : X) (d e : Own R) (r : Result Bool CallError) → HasRows S x t → ((items : List Item) → MeansAll t.rows items → o ≡ copy_of t.next items item)
    → Answers (whole S told) Any (try_if o) (x, d) r (y, e) → Answers (whole S told) Any (copy_now item) (x, d) r (y, e)
copied S told t item o x y d e r rows is h =
    same_where (whole S told) (try_if o) (copy_now item) (x, d) (y, e) r
    (λ s i. ap (λ (q : Option Change). try_if q s) (is (items_now s) (rows.rows s.filter i.filter) ∙ ap (λ (n : ItemId). copy_of n (items_now s) item) (rows.next s.filter i.filter)) ∙ copies s item)
    h
