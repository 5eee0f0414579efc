-- Two lists of which each row has one like it in the other agree at each path.
use Rattle.std.proofs.Common.{◌≡◌, inl, inr, ℕ, ◌≤◌, Bool, true, false, cond, List, [], ◌∷◌, refl, sym, ap, ◌∙◌, subst, arith}
use Rattle.std.specs.Prelude.{Option, Some, None, bytes_eq, sum_by}
use Rattle.std.proofs.lemmas.List.Sums.{sum_by-cons}
use Rattle.cf_model_laws.specs.Invariant.{All, Among}
use Rattle.cf_model_laws.proofs.Gathered.{all_any, all_found}
use Rattle.cf_model_convergence.proofs.FedKnown.{find_among}
use Rattle.cf_model_convergence.proofs.FeedsTold.{all_among}
use Rattle.cf_pair_compare.specs.First.{Agree, AgreeAt, AreAlike, row_at}
use Rattle.cf_pair_compare.specs.declared.path_rows.PathRow.{PathRow}
use Rattle.cf_pair_trees.specs.Trees.{AreApart, at_path}

-- the other list has a row like it
abbrev pub HasLike : List PathRow → PathRow → Type 0
HasLike bs a = (b : PathRow) × Among b bs × AreAlike a b

abbrev pub HasLikeFor : List PathRow → PathRow → Type 0
HasLikeFor as' b = (a : PathRow) × Among a as' × AreAlike a b

counts : (path : List ℕ) (r : PathRow) → bytes_eq r.path path ≡ true → at_path path r ≡ 1
counts path r e = ap (λ (b : Bool). cond b 1 0) e

-- a row of the path counts
counted : (path : List ℕ) (b : PathRow) (rs : List PathRow) → Among b rs → bytes_eq b.path path ≡ true → 1 ≤ sum_by (at_path path) rs
counted path b [] m e = absurd m
counted path b (r ∷ rs) (inl q) e =
    let one : at_path path r ≡ 1 = counts path r (subst (λ (x : PathRow). bytes_eq x.path path ≡ true) (sym q) e) in
    omega (one, sum_by-cons (at_path path) r rs, arith)
counted path b (r ∷ rs) (inr m) e =
    let rest : 1 ≤ sum_by (at_path path) rs = counted path b rs m e in
    omega (rest, sum_by-cons (at_path path) r rs, arith)

apart_rest : (r : PathRow) (rs : List PathRow) → AreApart (r ∷ rs) → AreApart rs
apart_rest r rs h path = omega (h path, sum_by-cons (at_path path) r rs, arith)

-- where no path stands twice a row is the one that is found at its path
looked_up : (path : List ℕ) (b : PathRow) (rs : List PathRow) → AreApart rs → Among b rs → bytes_eq b.path path ≡ true → row_at rs path ≡ Some b
looked_up path b [] h m e = absurd m
looked_up path b (r ∷ rs) h (inl q) e = ap (λ (c : Bool). cond c (Some r) (row_at rs path)) (subst (λ (x : PathRow). bytes_eq x.path path ≡ true) (sym q) e) ∙ ap (λ (x : PathRow). Some x) q
looked_up path b (r ∷ rs) h (inr m) e = by (bytes_eq r.path path) refl (looked_up path b rs (apart_rest r rs h) m e) where
  by : (c : Bool) → bytes_eq r.path path ≡ c → row_at rs path ≡ Some b → row_at (r ∷ rs) path ≡ Some b
  by true q k =
      let one : at_path path r ≡ 1 = counts path r q in
      absurd (omega (h path, one, counted path b rs m e, sum_by-cons (at_path path) r rs, arith))
  by false q k = ap (λ (c : Bool). cond c (Some r) (row_at rs path)) q ∙ k

-- a row is found at the path of each
some_found : (path : List ℕ) (a : PathRow) (rs : List PathRow) → Among a rs → bytes_eq a.path path ≡ true → row_at rs path ≡ None → ⊥
some_found path a [] m e n = m
some_found path a (r ∷ rs) (inl q) e n = none (sym (ap (λ (c : Bool). cond c (Some r) (row_at rs path)) (subst (λ (x : PathRow). bytes_eq x.path path ≡ true) (sym q) e)) ∙ n) where
  none : Some r ≡ None → ⊥
  none z = cc
some_found path a (r ∷ rs) (inr m) e n = by (bytes_eq r.path path) n (some_found path a rs m e) where
  none : Some r ≡ None → ⊥
  none z = cc

  by : (c : Bool) → cond c (Some r) (row_at rs path) ≡ None → (row_at rs path ≡ None → ⊥) → ⊥
  by true z k = none z
  by false z k = k z

-- what is found is a row of the path
found_row : (path : List ℕ) (rs : List PathRow) (a : PathRow) → row_at rs path ≡ Some a → Among a rs × (bytes_eq a.path path ≡ true)
found_row path rs a e = (find_among (λ r. bytes_eq r.path path) rs a e, (all_found (λ r. Unit {0}) (λ r. bytes_eq r.path path) rs a e (all_any (λ r. Unit {0}) (λ r. tt) rs)).1)

pub agree : (as' bs : List PathRow) → AreApart bs → All (HasLike bs) as' → All (HasLikeFor as') bs → (path : List ℕ) → AgreeAt as' bs path
agree as' bs apart here there path = by (row_at as' path) (row_at bs path) refl refl where
  both : (a b c : PathRow) → AreAlike a c → ◌≡◌ {A = Option PathRow} (Some c) (Some b) → Agree (Some a) (Some b)
  both a b c like e = let same : c ≡ b = cc in subst (λ (x : PathRow). Agree (Some a) (Some x)) same like.1

  none : (a : PathRow) → ◌≡◌ {A = Option PathRow} (Some a) None → ⊥
  none a z = cc

  by : (x y : Option PathRow) → row_at as' path ≡ x → row_at bs path ≡ y → Agree x y
  by None None e f = tt
  by (Some a) (Some b) e f =
      let m : Among a as' × (bytes_eq a.path path ≡ true) = found_row path as' a e in
      let k : HasLike bs a = all_among (HasLike bs) as' a m.0 here in
      both a b k.0 k.2 (sym (looked_up path k.0 bs apart k.1 (subst (λ (p : List ℕ). bytes_eq p path ≡ true) k.2.0 m.1)) ∙ f)
  by (Some a) None e f =
      let m : Among a as' × (bytes_eq a.path path ≡ true) = found_row path as' a e in
      let k : HasLike bs a = all_among (HasLike bs) as' a m.0 here in
      some_found path k.0 bs k.1 (subst (λ (p : List ℕ). bytes_eq p path ≡ true) k.2.0 m.1) f
  by None (Some b) e f =
      let m : Among b bs × (bytes_eq b.path path ≡ true) = found_row path bs b f in
      let k : HasLikeFor as' b = all_among (HasLikeFor as') bs b m.0 there in
      some_found path k.0 as' k.1 (subst (λ (p : List ℕ). bytes_eq p path ≡ true) (sym k.2.0) m.1) e
