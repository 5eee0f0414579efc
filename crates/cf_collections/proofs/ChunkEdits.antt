-- Lists of chunks in which a chunk changes, comes or goes.
use Rattle.std.proofs.Common.{◌≡◌, ℕ, zero, suc, ◌+◌, ◌<◌, ◌≤◌, Bool, true, false, cond, eqb, List, [], ◌∷◌, ◌++◌, Result, Ok, Err, is_ok, length, length-append, get_or, set, append_assoc, append-nil, refl, sym, ap, ◌∙◌, subst, arith}
use Rattle.std.specs.Prelude.{insert, remove, OnErr, OnOk}
use Rattle.std.specs.Result.{IsOk}
use Rattle.cf_collections.specs.Split.{AreFilled, flat}

-- calls that may fail

pub on_ok : {X E A B : Type 0} (r : Result X E) → (A → B) → OnOk r A → OnOk r B
on_ok (Ok x) f h = f h
on_ok (Err e) f h = tt

pub on_err : {X E A B : Type 0} (r : Result X E) → (A → B) → OnErr r A → OnErr r B
on_err (Ok x) f h = tt
on_err (Err e) f h = f h

inserted : {A E : Type 0} (r : Result (Unit {0}) E) (xs ys zs : List A) → IsOk r → xs ≡ cond (is_ok r) ys zs → xs ≡ ys
inserted (Ok x) xs ys zs h e = e
inserted (Err x) xs ys zs h e = let z : false ≡ true = h in cc

pub some_items : (n : ℕ) (b : Bool) → b ≡ eqb n 0 → b ≡ false → 0 < n
some_items zero b is unless = let z : true ≡ false = sym is ∙ unless in cc
some_items (suc n) b is unless = omega arith

module _ {T : Type 0} where
  pub some_more : (a : List T) (x : T) (b : List T) → 0 < length (a ++ x ∷ b)
  some_more a x b = omega (arith, length-append a (x ∷ b))

  pub filled_at : (cs : List (List T)) (n : ℕ) (d : List T) → AreFilled cs → n < length cs → 0 < length (get_or cs n d)
  filled_at [] n d f lt = absurd (omega arith)
  filled_at (c ∷ cs) zero d f lt = f.0
  filled_at (c ∷ cs) (suc n) d f lt = filled_at cs n d f.1 (omega arith)

  -- no chunk is empty, so there are no more of them than items
  pub few_chunks : (cs : List (List T)) → AreFilled cs → length cs ≤ length (flat cs)
  few_chunks [] f = omega arith
  few_chunks (c ∷ cs) f = omega (arith, f.0, few_chunks cs f.1, length-append c (flat cs))

  pub filled_set : (cs : List (List T)) (n : ℕ) (c : List T) → AreFilled cs → 0 < length c → AreFilled (set cs n c)
  filled_set [] n c f some = tt
  filled_set (b ∷ cs) zero c f some = (some, f.1)
  filled_set (b ∷ cs) (suc n) c f some = (f.0, filled_set cs n c f.1 some)

  pub filled_remove : (cs : List (List T)) (n : ℕ) → AreFilled cs → AreFilled (remove cs n)
  filled_remove [] n f = nothing n where
    nothing : (n : ℕ) → AreFilled {T = T} (remove [] n)
    nothing zero = tt
    nothing (suc n) = tt
  filled_remove (c ∷ cs) zero f = f.1
  filled_remove (c ∷ cs) (suc n) f = (f.0, filled_remove cs n f.1)

  pub filled_push : (cs : List (List T)) (c : List T) → AreFilled cs → 0 < length c → AreFilled (cs ++ c ∷ [])
  filled_push [] c f some = (some, tt)
  filled_push (b ∷ cs) c f some = (f.0, filled_push cs c f.1 some)

  pub flat_push : (cs : List (List T)) (c : List T) → flat (cs ++ c ∷ []) ≡ flat cs ++ c
  flat_push [] c = append-nil c
  flat_push (b ∷ cs) c = ap (λ (l : List T). b ++ l) (flat_push cs c) ∙ sym (append_assoc b (flat cs) c)

  -- the last chunk gets longer
  pub flat_longer : (cs : List (List T)) (n : ℕ) (c m d : List T) → n + 1 ≡ length cs → c ≡ get_or cs n d ++ m → flat (set cs n c) ≡ flat cs ++ m
  flat_longer [] n c m d e is = absurd (omega arith)
  flat_longer (b ∷ []) zero c m d e is = append-nil c ∙ is ∙ ap (λ (l : List T). l ++ m) (sym (append-nil b))
  flat_longer (b ∷ c2 ∷ cs) zero c m d e is = absurd (omega arith)
  flat_longer (b ∷ cs) (suc n) c m d e is = ap (λ (l : List T). b ++ l) (flat_longer cs n c m d (omega arith) is) ∙ sym (append_assoc b (flat cs) m)

  pub flat_gone : (cs : List (List T)) (n : ℕ) → n < length cs → flat (remove cs n) ≡ flat (set cs n [])
  flat_gone [] n lt = absurd (omega arith)
  flat_gone (c ∷ cs) zero lt = refl
  flat_gone (c ∷ cs) (suc n) lt = ap (λ (l : List T). c ++ l) (flat_gone cs n (omega arith))

  -- a chunk in two halves

  halves : (cs : List (List T)) (n k : ℕ) (a b d : List T) → k ≡ suc n → n < length cs → get_or cs n d ≡ a ++ b → flat (insert (set cs n a) k b) ≡ flat cs
  halves [] n k a b d e lt is = absurd (omega arith)
  halves (c ∷ cs) n zero a b d e lt is = absurd (omega arith)
  halves (c ∷ cs) zero (suc zero) a b d e lt is = sym (append_assoc a b (flat cs)) ∙ ap (λ (l : List T). l ++ flat cs) (sym is)
  halves (c ∷ cs) zero (suc (suc k)) a b d e lt is = absurd (omega arith)
  halves (c ∷ cs) (suc n) (suc k) a b d e lt is = ap (λ (l : List T). c ++ l) (halves cs n k a b d (omega arith) (omega arith) is)

  pub flat_halved : (cs : List (List T)) (n : ℕ) (a b d : List T) → n < length cs → get_or cs n d ≡ a ++ b → flat (insert (set cs n a) (n + 1) b) ≡ flat cs
  flat_halved cs n a b d lt is = halves cs n (n + 1) a b d (omega arith) lt is

  pub filled_insert : (cs : List (List T)) (n : ℕ) (c : List T) → AreFilled cs → 0 < length c → AreFilled (insert cs n c)
  filled_insert [] zero c f some = (some, tt)
  filled_insert [] (suc n) c f some = (some, tt)
  filled_insert (b ∷ cs) zero c f some = (some, f)
  filled_insert (b ∷ cs) (suc n) c f some = (f.0, filled_insert cs n c f.1 some)

  pub set_same : (cs : List (List T)) (n : ℕ) (c d : List T) → c ≡ get_or cs n d → n < length cs → set cs n c ≡ cs
  set_same [] n c d is lt = absurd (omega arith)
  set_same (b ∷ cs) zero c d is lt = ap (λ (l : List T). l ∷ cs) is
  set_same (b ∷ cs) (suc n) c d is lt = ap (λ (l : List (List T)). b ∷ l) (set_same cs n c d is (omega arith))

  -- calls that may fail

  pub grown : {X E : Type 0} (r : Result X E) (c d a b : List T) (x : T) → OnOk r (c ≡ a ++ x ∷ b) → OnErr r (c ≡ d) → 0 < length d → 0 < length c
  grown (Ok y) c d a b x ok err some = omega (arith, ap (λ (l : List T). length l) ok, length-append a (x ∷ b))
  grown (Err e) c d a b x ok err some = omega (arith, ap (λ (l : List T). length l) err)

  pub halved : {E : Type 0} (r : Result (Unit {0}) E) (cs held new : List (List T)) (n : ℕ) (a b was : List T) → IsOk r → held ≡ cs → new ≡ cond (is_ok r) (insert (set held n a) (n + 1) b) (set held n a)
      → n < length cs → was ≡ get_or held n was → was ≡ a ++ b → flat new ≡ flat cs
  halved r cs held new n a b was ok same is lt here parts =
      ap (λ (l : List (List T)). flat l) (inserted r new _ _ ok is ∙ ap (λ (l : List (List T)). insert (set l n a) (n + 1) b) same)
      ∙ flat_halved cs n a b was lt (sym (here ∙ ap (λ (l : List (List T)). get_or l n was) same) ∙ parts)

  pub halves_filled : {E : Type 0} (r : Result (Unit {0}) E) (cs held new : List (List T)) (n : ℕ) (a b : List T) → IsOk r → held ≡ cs → new ≡ cond (is_ok r) (insert (set held n a) (n + 1) b) (set held n a)
      → AreFilled cs → 0 < length a → 0 < length b → AreFilled new
  halves_filled r cs held new n a b ok same is f some more =
      subst (λ (l : List (List T)). AreFilled l) (sym (inserted r new _ _ ok is ∙ ap (λ (l : List (List T)). insert (set l n a) (n + 1) b) same)) (filled_insert (set cs n a) (n + 1) b (filled_set cs n a f some) more)
