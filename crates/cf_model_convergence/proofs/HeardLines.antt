-- Lines that are heard, and notes that go on.
use Rattle.std.proofs.Common.{◌≡◌, Bool, true, false, List, [], ◌∷◌, ◌++◌, refl, sym, ◌∙◌, ap, subst, inl, inr, ◌⊎◌}
use Rattle.std.specs.Prelude.{◌||◌, if◌then◌else◌}
use Rattle.std.specs.List.{list_any}
use Rattle.std.proofs.lemmas.List.{append-nil, append_assoc}
use Rattle.cf_base.specs.declared.notices.Notice.{Notice}
use Rattle.cf_base.specs.declared.notices.Notice.TheVariants as notice
use Rattle.cf_base.specs.declared.waits.Cause.{Cause}
use Rattle.cf_model.specs.Arrows.{each}
use Rattle.cf_model.specs.Missing.{Wait}
use Rattle.cf_model.specs.Requests.{Told, Waiting}
use Rattle.cf_model.specs.Settling.{accessed, end_of, end_wait, is_access, is_own, tell, tell_end, with_asks_told, with_ended, with_waiting}
use Rattle.cf_base.specs.declared.ids.WaitId.{WaitId}
use Rattle.cf_base.specs.declared.waits.End.{End}
use Rattle.cf_model.specs.State.{Filter, State}
use Rattle.cf_model.specs.Trees.{Asked, Fork, Ret, Step, Tree, mapped, Ends}
use Rattle.cf_model_laws.proofs.RightItems.{no_way}
use Rattle.cf_model_convergence.specs.Hearing.{IsHeard, is_heard}
use Rattle.cf_model_convergence.specs.Telling.{IsTold, IsUnfair, is_loud}
use Rattle.cf_model_convergence.proofs.TurnsTold.{ends_bind}
use Rattle.cf_model_convergence.proofs.SinceGuarded.{Follows}

-- lines that are heard

pub any_left : (f : Notice → Bool) (xs ys : List Notice) → list_any f xs ≡ true → list_any f (xs ++ ys) ≡ true
any_left f [] ys e = no_way e
any_left f (x ∷ xs) ys e = by (f x) e (any_left f xs ys) where
  by : (b : Bool) → (b || list_any f xs) ≡ true → (list_any f xs ≡ true → list_any f (xs ++ ys) ≡ true) → (b || list_any f (xs ++ ys)) ≡ true
  by true z more = refl
  by false z more = more z

any_right : (f : Notice → Bool) (xs ys : List Notice) → list_any f ys ≡ true → list_any f (xs ++ ys) ≡ true
any_right f [] ys e = e
any_right f (x ∷ xs) ys e = by (f x) (any_right f xs ys e) where
  by : (b : Bool) → list_any f (xs ++ ys) ≡ true → (b || list_any f (xs ++ ys)) ≡ true
  by true z = refl
  by false z = z

loud_heard : (n : Notice) → is_loud n ≡ true → is_heard n ≡ true
loud_heard (notice.Message m) e = by (is_loud (notice.Message m)) _ e where
  by : (a b : Bool) → a ≡ true → (a || b) ≡ true
  by true b z = refl
  by false b z = no_way z
loud_heard n e = e

any_heard : (ns : List Notice) → list_any is_loud ns ≡ true → list_any is_heard ns ≡ true
any_heard [] e = no_way e
any_heard (n ∷ ns) e = by (is_loud n) refl e (any_heard ns) where
  first : (b : Bool) → b ≡ true → (b || list_any is_heard ns) ≡ true
  first true z = refl
  first false z = no_way z

  rest : (b : Bool) → list_any is_heard ns ≡ true → (b || list_any is_heard ns) ≡ true
  rest true z = refl
  rest false z = z

  by : (b : Bool) → is_loud n ≡ b → (b || list_any is_loud ns) ≡ true → (list_any is_loud ns ≡ true → list_any is_heard ns ≡ true) → (is_heard n || list_any is_heard ns) ≡ true
  by true q z more = first (is_heard n) (loud_heard n q)
  by false q z more = rest (is_heard n) (more z)

pub heard_of : (s t : State) → IsTold s t → IsHeard s t
heard_of s t h = record { lines = h.lines; noted = h.noted; heard = by h.loud } where
  by : (list_any is_loud h.lines ≡ true) ⊎ IsUnfair t → (list_any is_heard h.lines ≡ true) ⊎ IsUnfair t
  by (inl e) = inl (any_heard h.lines e)
  by (inr e) = inr e

pub heard_then : (s m t : State) → IsHeard s m → Follows m t → IsHeard s t
heard_then s m t h k = record { lines = h.lines ++ k.adds.lines; noted = k.adds.noted ∙ ap (λ (ns : List Notice). ns ++ k.adds.lines) h.noted ∙ append_assoc s.filter.notes h.lines k.adds.lines; heard = by h.heard } where
  by : (list_any is_heard h.lines ≡ true) ⊎ IsUnfair m → (list_any is_heard (h.lines ++ k.adds.lines) ≡ true) ⊎ IsUnfair t
  by (inl e) = inl (any_left is_heard h.lines k.adds.lines e)
  by (inr e) = inr (k.unfair e)

pub heard_after : (s m t : State) (ns : List Notice) → m.filter.notes ≡ s.filter.notes ++ ns → IsHeard m t → IsHeard s t
heard_after s m t ns e h = record { lines = ns ++ h.lines; noted = h.noted ∙ ap (λ (xs : List Notice). xs ++ h.lines) e ∙ append_assoc s.filter.notes ns h.lines; heard = by h.heard } where
  by : (list_any is_heard h.lines ≡ true) ⊎ IsUnfair t → (list_any is_heard (ns ++ h.lines) ≡ true) ⊎ IsUnfair t
  by (inl e) = inl (any_right is_heard ns h.lines e)
  by (inr e) = inr e

pub one_heard : (s t : State) (n : Notice) → t.filter.notes ≡ s.filter.notes ++ n ∷ [] → is_heard n ≡ true → IsHeard s t
one_heard s t n e loud = record { lines = n ∷ []; noted = e; heard = inl (by (is_heard n) loud) } where
  by : (b : Bool) → b ≡ true → (b || false) ≡ true
  by true z = refl
  by false z = no_way z

-- a part of the filter

pub ends_mapped : {S T A : Type 0} (f : S → T) (p : Tree S A) (a : A) (t : T) → Ends (mapped f p) a t → (s : S) × Ends p a s × (t ≡ f s)
ends_mapped f (Ret b s) a t e = (s, (e.0, refl), e.1)
ends_mapped f (Step s p) a t e = ends_mapped f p a t e
ends_mapped f (Fork p q) a t (inl e) = let k = ends_mapped f p a t e in (k.0, inl k.1, k.2)
ends_mapped f (Fork p q) a t (inr e) = let k = ends_mapped f q a t e in (k.0, inr k.1, k.2)
ends_mapped f (Asked k) a t e = let j = ends_mapped f (k e.0) a t e.1 in (j.0, (e.0, j.1), j.2)

-- the notes go on behind those of before
abbrev pub GoesOn : Filter → Filter → Type 0
GoesOn x y = (ls : List Notice) × (y.notes ≡ x.notes ++ ls)

pub goes_more : (x y z : Filter) → GoesOn x y → GoesOn y z → GoesOn x z
goes_more x y z h k = (h.0 ++ k.0, k.1 ∙ ap (λ (ns : List Notice). ns ++ k.0) h.1 ∙ append_assoc x.notes h.0 k.0)

goes_same : (x : Filter) → GoesOn x x
goes_same x = ([], sym (append-nil x.notes))

ended_goes : (e : Wait × Cause) (x : Filter) → GoesOn x (with_ended e x)
ended_goes e x = accesses (is_access e.0.kind e.1) (tell_end e.0.id (end_of x.volume.items e.0 e.1) (is_own e.0.id x) x) (tells e.0.id (end_of x.volume.items e.0 e.1) (is_own e.0.id x)) where
  tells : (i : WaitId) (d : End) (own : Bool) → GoesOn x (tell_end i d own x)
  tells i d true = goes_same x
  tells i d false = (notice.Done i d ∷ [], refl)

  accesses : (is : Bool) (y : Filter) → GoesOn x y → GoesOn x (if is then accessed e.0.item y else y)
  accesses true y k = k
  accesses false y k = k

each_goes : (es : List (Wait × Cause)) (x : Filter) (u : Unit {0}) (y : Filter) → Ends (each end_wait es x) u y → GoesOn x y
each_goes [] x u y e = subst (GoesOn x) (sym e.1) (goes_same x)
each_goes (d ∷ es) x u y e = goes_more x (with_ended d x) y (ended_goes d x) (each_goes es (with_ended d x) u y e)

pub tell_goes : (r : Told × Waiting) (x : Filter) (u : Unit {0}) (y : Filter) → Ends (tell r x) u y → GoesOn x y
tell_goes r x u y e =
    let k = ends_bind (each end_wait r.0.ended (with_waiting r.1 x)) (λ _ z. Ret (record {}) (with_asks_told r.0 z)) u y e in
    goes_more x k.1 y (each_goes r.0.ended (with_waiting r.1 x) k.0 k.1 k.2) (subst (GoesOn k.1) (sym k.3.1) (_, append_assoc k.1.notes _ _))
