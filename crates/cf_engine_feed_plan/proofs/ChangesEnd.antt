-- What is known after a step that was done.
use Rattle.std.proofs.Common.{◌≡◌, Bool, true, false, refl, ap, ◌∙◌, inl, inr}
use Rattle.std.specs.Prelude.{Option, Some, None, max}
use Rattle.cf_base.specs.declared.changes.Change.{Change}
use Rattle.cf_base.specs.declared.codes.Code.{Code}
use Rattle.cf_base.specs.declared.items.SeenPath.{SeenPath}
use Rattle.cf_model.specs.Arrows.{unless_done}
use Rattle.cf_model.specs.Books.{with_seen}
use Rattle.cf_model.specs.Changes.{may_need_room, next_number, put_after_room, same_book, tell_change}
use Rattle.cf_model.specs.Effects.{effect}
use Rattle.cf_model.specs.Logs.{next_by}
use Rattle.cf_model.specs.Skips.{do_change, in_book, is_there, left_out, seen_if, try_change, try_seen, why_no_change, why_no_record}
use Rattle.cf_model.specs.State.{Filter, State, Volume, items_now, with_filter, with_volume}
use Rattle.cf_model.specs.Trees.{Ends, Ret, Tree, bind, mapped}

pub record IsAfter (c : Change) (s t : State) : Type 0 where
  pub items : items_now t ≡ effect (items_now s) c (next_number s.filter.volume)
  pub next : t.filter.volume.next_item ≡ record { 0 = max s.filter.volume.next_item.0 (next_by c) }
  pub policy : t.filter.policy ≡ s.filter.policy

is_so : (c : Change) (s t u : State) → t ≡ u → IsAfter c s u → IsAfter c s t
is_so c s t u e h = record { items = ap (λ (v : State). items_now v) e ∙ h.items; next = ap (λ (v : State). v.filter.volume.next_item) e ∙ h.next; policy = ap (λ (v : State). v.filter.policy) e ∙ h.policy }

no : {X : Type 0} → true ≡ false → X
no e = let z : true ≡ false = e in absurd cc

-- the change as it is made, with or without a commit for room
abbrev made : Change → State → Bool → Tree State (Unit {0})
made c s b = mapped (λ (x : Filter). with_filter x s) (bind (mapped (λ (v : Volume). with_volume v s.filter) (put_after_room same_book c b s.filter.volume)) (tell_change c))

made_ends : (c : Change) (s t : State) (b : Bool) → Ends (bind (bind (made c s b) (λ _ u. Ret None u)) left_out) true t → IsAfter c s t
made_ends c s t false e = is_so c s t _ e.1 (record { items = refl; next = refl; policy = refl })
made_ends c s t true (inl e) = is_so c s t _ e.1 (record { items = refl; next = refl; policy = refl })
made_ends c s t true (inr e) = is_so c s t _ e.1 (record { items = refl; next = refl; policy = refl })

pub change_ends : (c : Change) (s t : State) → Ends (try_change c s) true t → IsAfter c s t
change_ends c s t h = cases (why_no_change c s) h where
  cases : (why : Option Code) → Ends (bind (unless_done (do_change c) why s) left_out) true t → IsAfter c s t
  cases (Some d) e = no e.0
  cases None e = made_ends c s t (may_need_room c s.filter.volume) e

-- a path seen leaves the items
pub seen_ends : (p : SeenPath) (s t : State) → Ends (try_seen p s) true t → items_now t ≡ items_now s
seen_ends p s t h = cases (is_there p.item s) h where
  put : (why : Option Code) → Ends (bind (unless_done (in_book (with_seen p)) why s) left_out) true t → items_now t ≡ items_now s
  put (Some d) e = no e.0
  put None e = ap (λ (v : State). items_now v) e.1

  cases : (here : Bool) → Ends (seen_if p here s) true t → items_now t ≡ items_now s
  cases true e = put (why_no_record (with_seen p) s) e
  cases false e = ap (λ (v : State). items_now v) e.1
