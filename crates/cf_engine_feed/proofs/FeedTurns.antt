-- The turns of a feed's entries, one after the other.
use Rattle.std.proofs.Common.{◌≡◌, ℕ, ◌<◌, ◌≤◌, ◌+◌, Bool, false, List, [], ◌∷◌, length, drop, get_or, refl, sym, ◌∙◌, ap, subst, arith, zero, suc}
use Rattle.std.proofs.Math.ListN.{drop_of_length-le}
use Rattle.std.proofs.lemmas.Result.{err_from_is_err_and}
use Rattle.std.specs.Prelude.{Option, Some, None, Result, Ok, Err, slice_get}
use Rattle.std.specs.Result.{IsErrAnd}
use Rattle.cf_base.specs.declared.codes.CallError.{CallError}
use Rattle.cf_base.specs.declared.messages.Entry.{Entry}
use Rattle.cf_engine_feed.specs.Turns.{before, entries_at, fed, fed_of, turn_at, turns_in}
use Rattle.cf_engine_feed.specs.Indexed.{indexed}
use Rattle.cf_engine_feed.specs.Indexes.{IsIndex, target_at}
use Rattle.cf_engine_feed.specs.declared.indexes.Targets.{Targets}
use Rattle.cf_engine_feed.proofs.IndexedParts.{beside}
use Rattle.cf_engine_feed.proofs.StepRuns.{same_where}
use Rattle.cf_engine_steps.specs.Answering.{Answers, Any, Whole}
use Rattle.cf_engine_steps.specs.States.{Own, whole}
use Rattle.cf_engine_steps.proofs.Laws.{fails_first, goes_any, returned}
use Rattle.cf_filter_steps.specs.Answering.{Sense}
use Rattle.cf_filter_steps.specs.Finding.{HasRows}
use Rattle.cf_filter_steps.proofs.Laws.{drop_at}
use Rattle.cf_model.specs.Arrows.{Arrow}
use Rattle.cf_model.specs.Feeds.{Fed, all_turns, first_turn, in_turn, second_turn, second_turns, turns}
use Rattle.cf_model.specs.Items.{Item}
use Rattle.cf_model.specs.State.{State, items_now}
use Rattle.cf_remote.specs.Told.{Told}
use Rattle.cf_table.specs.Tables.{MeansAll, Table}
use Rattle.cf_table.specs.declared.rows.Row.{Row}
use Rattle.cf_tree.specs.Trees.{IsTree, RiseFrom}

-- the same element for each other value that stands for none
pub there : (ks : List ℕ) (i d e : ℕ) → i < length ks → get_or ks i d ≡ get_or ks i e
there [] i d e h = absurd (omega (arith, h))
there (k ∷ ks) zero d e h = refl
there (k ∷ ks) (suc i) d e h = there ks i d e (omega (arith, h))

-- what a call that failed answers, whatever came before
pub fed_err : {X : Type 0} (W : Whole X) (f : Arrow State Fed) (es : List Entry) (l : List ℕ) (old new : X) (e : CallError) (r : Result Bool CallError) → IsErrAnd r (λ y. y ≡ e) → Answers W Any f old (Err e) new → Answers W Any f old (fed_of es r l) new
fed_err W f es l old new e r is h = let p = err_from_is_err_and r is in subst (λ (q : Result Bool CallError). Answers W Any f old (fed_of es q l) new) (sym (p.1 ∙ ap (λ (z : CallError). Err z) p.2)) h

module _ {X : Type 0} (W : Whole X) (f : Entry → Fed → Arrow State Fed) (es : List Entry) (ks : List ℕ) (i : ℕ) where
  one_then : (o : Option Entry) (rest : List Entry) (a b : Fed) (old mid new : X) (r : Result Fed CallError) → Answers W Any (turn_at f o a) old (Ok b) mid → Answers W Any (turns f rest b) mid r new → Answers W Any (turns f (before o rest) a) old r new
  one_then None rest a b old mid new r h k = goes_any W Any (turn_at f None a) (turns f rest) old mid new b r h k
  one_then (Some e) rest a b old mid new r h k = goes_any W Any (f e a) (turns f rest) old mid new b r h k

  one_fails : (o : Option Entry) (rest : List Entry) (a : Fed) (old new : X) (e : CallError) → Answers W Any (turn_at f o a) old (Err e) new → Answers W Any (turns f (before o rest) a) old (Err e) new
  one_fails None rest a old new e h = fails_first W Any (turn_at f None a) (turns f rest) old new e h
  one_fails (Some d) rest a old new e h = fails_first W Any (f d a) (turns f rest) old new e h

  from_here : (k : ℕ) (a : Fed) (old new : X) (r : Result Fed CallError) → i < length ks → k ≡ get_or ks i k → Answers W Any (turns f (before (slice_get es k) (entries_at es (drop (i + 1) ks))) a) old r new → Answers W Any (turns f (entries_at es (drop i ks)) a) old r new
  from_here k a old new r small at h = subst (λ (l : List ℕ). Answers W Any (turns f (entries_at es l) a) old r new) (sym (drop_at ks i k small at)) h

  pub turns_more : (k : ℕ) (a b : Fed) (old mid new : X) (r : Result Fed CallError) → i < length ks → k ≡ get_or ks i k → Answers W Any (turn_at f (slice_get es k) a) old (Ok b) mid → Answers W Any (turns f (entries_at es (drop (i + 1) ks)) b) mid r new
      → Answers W Any (turns f (entries_at es (drop i ks)) a) old r new
  turns_more k a b old mid new r small at h rest = from_here k a old new r small at (one_then (slice_get es k) (entries_at es (drop (i + 1) ks)) a b old mid new r h rest)

  pub turns_fail : (k : ℕ) (a : Fed) (old new : X) (e : CallError) → i < length ks → k ≡ get_or ks i k → Answers W Any (turn_at f (slice_get es k) a) old (Err e) new → Answers W Any (turns f (entries_at es (drop i ks)) a) old (Err e) new
  turns_fail k a old new e small at h = from_here k a old new (Err e) small at (one_fails (slice_get es k) (entries_at es (drop (i + 1) ks)) a old new e h)

  pub turns_end : (a : Fed) (last : X) → length ks ≤ i → Answers W Any (turns f (entries_at es (drop i ks)) a) last (Ok a) last
  turns_end a last le = subst (λ (l : List ℕ). Answers W Any (turns f (entries_at es l) a) last (Ok a) last) (sym (drop_of_length-le ks le)) (returned W Any a last)

-- first turns, and then second turns

from_none : {X : Type 0} (W : Whole X) (es : List Entry) (ks none : List ℕ) (old new : X) (r : Result Fed CallError) → none ≡ [] → Answers W Any (turns first_turn (entries_at es ks) (fed es false none)) old r new → Answers W Any (turns first_turn (entries_at es ks) (fed es false [])) old r new
from_none W es ks none old new r is h = subst (λ (l : List ℕ). Answers W Any (turns first_turn (entries_at es ks) (fed es false l)) old r new) is h

pub both_turns : {X : Type 0} (W : Whole X) (es : List Entry) (ks none l again : List ℕ) (p : Bool) (old mid new : X) (r : Result Fed CallError) → none ≡ [] → again ≡ l → Answers W Any (turns first_turn (entries_at es ks) (fed es false none)) old (Ok (fed es p l)) mid
    → Answers W Any (turns second_turn (entries_at es again) (fed es p l)) mid r new → Answers W Any (turns_in (entries_at es ks)) old r new
both_turns W es ks none l again p old mid new r is same h k =
    goes_any W Any (turns first_turn (entries_at es ks) (fed es false [])) second_turns old mid new (fed es p l) r (from_none W es ks none old mid (Ok (fed es p l)) is h)
    (subst (λ (q : List ℕ). Answers W Any (turns second_turn (entries_at es q) (fed es p l)) mid r new) same k)

pub first_fails : {X : Type 0} (W : Whole X) (es : List Entry) (ks none : List ℕ) (old new : X) (e : CallError) → none ≡ [] → Answers W Any (turns first_turn (entries_at es ks) (fed es false none)) old (Err e) new → Answers W Any (turns_in (entries_at es ks)) old (Err e) new
first_fails W es ks none old new e is h = fails_first W Any (turns first_turn (entries_at es ks) (fed es false [])) second_turns old new e (from_none W es ks none old new (Err e) is h)

-- in the order of the items as they are before all of them
pub in_order : {X R : Type 0} (S : Sense X) (told : R → Told) (t u : Table) (rows : List Row) (es : List Entry) (ks : List ℕ) (x y : X) (d e : Own R) (m n : Targets) (r : Result Fed CallError) → HasRows S x t → HasRows S x u → rows ≡ u.rows
    → ((items : List Item) → MeansAll rows items → RiseFrom 1 items → IsIndex m (target_at items))
    → ((items : List Item) → MeansAll t.rows items → IsTree items → IsIndex m (target_at items) → entries_at es ks ≡ in_turn items es)
    → Answers (indexed (whole S told)) Any (turns_in (entries_at es ks)) ((x, d), m) r ((y, e), n) → Answers (whole S told) Any (all_turns es) (x, d) r (y, e)
in_order S told t u rows es ks x y d e m n r has old same fills is h =
    beside (whole S told) (all_turns es) (x, d) (y, e) m n r
    (λ s i. fills (items_now s) (subst (λ (l : List Row). MeansAll l (items_now s)) (sym same) (old.rows s.filter i.filter)) (S.good x s.filter i.filter).volume.tree.order)
    (same_where (indexed (whole S told)) (turns_in (entries_at es ks)) (all_turns es) ((x, d), m) ((y, e), n) r
    (λ s i. ap (λ (l : List Entry). turns_in l s) (is (items_now s) (has.rows s.filter i.0.filter) (S.good x s.filter i.0.filter).volume.tree i.1))
    h)
