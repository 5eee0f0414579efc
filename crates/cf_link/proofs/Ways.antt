-- Ways through trees, one part after the other: to an end, to a stop of the device, and so far as memory lasts.
use Rattle.std.proofs.Common.{◌≡◌, inl, inr, subst}
use Rattle.cf_model.specs.Arrows.{Arrow}
use Rattle.cf_model.specs.Trees as trees
use Rattle.cf_model.specs.Trees.{Asked, Ends, Fork, Ret, Step, Tree, bind}
use Rattle.cf_remote.specs.Peers.{Begins, Leads}
use Rattle.cf_remote.specs.Told.{Told}

pub leads_on : {S A B : Type 0} (p : Tree S A) (g : A → Arrow S B) (old mid new : Told) (a : A) (t : S) (b : B) (u : S)
    → Leads p old a t mid → Leads (g a t) mid b u new → Leads (bind p g) old b u new
leads_on (Ret x s) g old mid new a t b u h k = begins_at x s g old mid new a t b u h k where
  begins_at : {S A B : Type 0} (x : A) (s : S) (g : A → Arrow S B) (old mid new : Told) (a : A) (t : S) (b : B) (u : S)
      → (a ≡ x) × (t ≡ s) × (mid ≡ old) → Leads (g a t) mid b u new → Leads (g x s) old b u new
  begins_at {S} x s g old mid new a t b u h k =
      subst (λ y. Leads (g y s) old b u new) h.0 (subst (λ (y : S). Leads (g a y) old b u new) h.1 (subst (λ (y : Told). Leads (g a t) y b u new) h.2 k))
leads_on (Step s p) g old mid new a t b u h k = leads_on p g old mid new a t b u h k
leads_on (Fork p q) g old mid new a t b u h k = elim h [
  | inl x ↦ inl (leads_on p g old mid new a t b u x k)
  | inr y ↦ inr (leads_on q g old mid new a t b u y k)
]
leads_on (Asked f) g old mid new a t b u h k = (h.0, h.1, h.2, leads_on (f h.0) g h.1 mid new a t b u h.3 k)

-- what was gone through to its end was begun
pub leads_begins : {S A : Type 0} (p : Tree S A) (old new : Told) (a : A) (t : S) → Leads p old a t new → Begins p old new
leads_begins (Ret x s) old new a t h = h.2
leads_begins (Step s p) old new a t h = leads_begins p old new a t h
leads_begins (Fork p q) old new a t h = elim h [
  | inl x ↦ inl (leads_begins p old new a t x)
  | inr y ↦ inr (leads_begins q old new a t y)
]
leads_begins (Asked f) old new a t h = inr (h.0, h.1, h.2, leads_begins (f h.0) h.1 new a t h.3)

-- for those who look at where a part ends, and not at what the remote did
pub leads_ends : {S A : Type 0} (p : Tree S A) (old new : Told) (a : A) (t : S) → Leads p old a t new → Ends p a t
leads_ends (Ret x s) old new a t h = (h.0, h.1)
leads_ends (Step s p) old new a t h = leads_ends p old new a t h
leads_ends (Fork p q) old new a t h = elim h [
  | inl x ↦ inl (leads_ends p old new a t x)
  | inr y ↦ inr (leads_ends q old new a t y)
]
leads_ends (Asked f) old new a t h = (h.0, leads_ends (f h.0) h.1 new a t h.3)
