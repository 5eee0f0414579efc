-- A block staged, or an extent dropped, in the middle of a change.
use Rattle.std.proofs.Common.{◌≡◌, inl, inr, ℕ, ◌+◌, ◌<◌, ◌≤◌, ◌==◌, Bool, true, false, ◌||◌, cond, eqb, List, [], ◌∷◌, ◌++◌, length, set, refl, sym, ◌∙◌, ap, subst, arith, Option, Some, None, get_or-set_other}
use Rattle.std.specs.Prelude.{slice_index_or}
use Rattle.std.proofs.lemmas.Bool.{cases_eq, cases_lt, cond-true, cond-false, eq-eqb, ne_eqb, true≢false}
use Rattle.std.proofs.lemmas.List.{get_or-set_same, get_or_default, length-set}
use Rattle.std.proofs.lemmas.List.Folds.{list_any-append}
use Rattle.std.proofs.lemmas.Option.{none-some, same_Some}
use Rattle.cf_volume_blocks.specs.Bytes.{HoldsBlock, is_among}
use Rattle.cf_clusters.proofs.Counts.{free_staged}
use Rattle.cf_clusters.proofs.Keeping.{committed_stays, keeps_then, same_then, same_weaker}
use Rattle.cf_clusters.specs.Area.{KeepsWhere}
use Rattle.cf_clusters.specs.Roles.{IsCommitted, IsUsed, dropped, dropped_at, how_many, is_free, is_now, staged_at, use_of}
use Rattle.cf_clusters.specs.declared.uses.Use.{Use}
use Rattle.cf_clusters.specs.declared.uses.Use.TheVariants.{Free, Held, Staged, Dropped}
use Rattle.cf_disk.specs.Disk.{Leaves, State}
use Rattle.cf_disk.specs.Leaving.{leaves_weaker}
use Rattle.cf_volume_points.specs.Clusters.{once}
use Rattle.cf_volume_points.specs.Staging.{AreBlocks, Moves, StagesBlock}
use Rattle.cf_volume_points.specs.Standing.{cluster_on}
use Rattle.cf_volume_points.proofs.Apart.{none_past}
use Rattle.cf_volume_points.proofs.Extents.{is_one, named_once, put_times}
use Rattle.cf_volume_points.proofs.Points.{committed_used}
use Rattle.cf_ranges.specs.Pairs.{cluster_at}

-- counts of a use

abbrev pub one_of : Use → ℕ
one_of u = cond (is_now u) 1 0

once_set : (uses : List Use) (j : ℕ) (u : Use) (k : ℕ) → j < length uses → once (set uses j u) k ≡ cond (eqb j k) (one_of u) (once uses k)
once_set uses j u k lt = elim (cases_eq j k) [
  | inl same ↦ ap one_of (ap (λ (i : ℕ). slice_index_or (set uses j u) i Free) (sym same) ∙ get_or-set_same uses j u Free lt) ∙ sym (cond-true (eqb j k) (one_of u) (once uses k) (eq-eqb j k same))
  | inr apart ↦ ap one_of (get_or-set_other uses j k u Free (λ s. apart (sym s))) ∙ sym (cond-false (eqb j k) (one_of u) (once uses k) (ne_eqb j k apart))
]

in_use : (u : Use) → 1 ≤ one_of u → IsUsed u × (is_now u ≡ true)
in_use Free h = absurd (omega (arith, h))
in_use Held h = (tt, refl)
in_use Staged h = (tt, refl)
in_use Dropped h = absurd (omega (arith, h))

pub once_used : (uses : List Use) (k : ℕ) → 1 ≤ once uses k → (k < length uses) × IsUsed (use_of uses k) × (is_now (use_of uses k) ≡ true)
once_used uses k h = (within, by.0, by.1)
  where
    within : k < length uses
    within = elim (cases_lt k (length uses)) [ inl low ↦ low | inr high ↦ absurd (let z = none_past uses k high in omega (arith, h, z)) ]

    same : slice_index_or uses k Free ≡ use_of uses k
    same = get_or_default uses k Free Held within

    by : IsUsed (use_of uses k) × (is_now (use_of uses k) ≡ true)
    by = subst (λ (u : Use). IsUsed u × (is_now u ≡ true)) same (in_use (slice_index_or uses k Free) h)

none_dropped_now : (u : Use) → ◌≡◌ {A = ℕ} (one_of (dropped u)) 0
none_dropped_now Free = refl
none_dropped_now Held = refl
none_dropped_now Staged = refl
none_dropped_now Dropped = refl

pub length-dropped : (o : ℕ) (uses : List Use) → length (dropped_at o uses) ≡ length uses
length-dropped o uses = length-set uses o (dropped (use_of uses o))

pub length-staged : (k : ℕ) (o : Option ℕ) (uses : List Use) → length (staged_at k o uses) ≡ length uses
length-staged k None uses = length-set uses k Staged
length-staged k (Some o) uses = length-dropped o (set uses k Staged) ∙ length-set uses k Staged

-- a cluster that is held is dropped
pub once_dropped : (uses : List Use) (o k : ℕ) → 1 ≤ once uses o → once (dropped_at o uses) k + is_one k (Some o) ≡ once uses k
once_dropped uses o k held = elim (cases_eq o k) [
  | inl same ↦ here same
  | inr apart ↦ there apart
]
  where
    lt : o < length uses
    lt = (once_used uses o held).0

    now_is : once (dropped_at o uses) k ≡ cond (eqb o k) (one_of (dropped (use_of uses o))) (once uses k)
    now_is = once_set uses o (dropped (use_of uses o)) k lt

    here : o ≡ k → once (dropped_at o uses) k + is_one k (Some o) ≡ once uses k
    here same =
        let t = eq-eqb o k same in
        let a : once (dropped_at o uses) k ≡ one_of (dropped (use_of uses o)) = now_is ∙ cond-true (eqb o k) _ _ t in
        let b = none_dropped_now (use_of uses o) in
        let c : ◌≡◌ {A = ℕ} (is_one k (Some o)) 1 = cond-true {A = ℕ} (eqb o k) 1 0 t in
        let d : once uses k ≡ once uses o = ap (once uses) (sym same) in
        let e = at_most (slice_index_or uses o Free) in
        omega (arith, a, b, c, d, e, held)
      where
        at_most : (u : Use) → one_of u ≤ 1
        at_most Free = omega arith
        at_most Held = omega arith
        at_most Staged = omega arith
        at_most Dropped = omega arith

    there : (o ≡ k → ⊥) → once (dropped_at o uses) k + is_one k (Some o) ≡ once uses k
    there apart =
        let f = ne_eqb o k apart in
        let a : once (dropped_at o uses) k ≡ once uses k = now_is ∙ cond-false (eqb o k) _ _ f in
        let c : ◌≡◌ {A = ℕ} (is_one k (Some o)) 0 = cond-false {A = ℕ} (eqb o k) 1 0 f in
        omega (arith, a, c)

-- a free cluster is staged
once_taken : (uses : List Use) (j k : ℕ) → j < length uses → use_of uses j ≡ Free → once (set uses j Staged) k ≡ once uses k + is_one k (Some j)
once_taken uses j k lt free = elim (cases_eq j k) [
  | inl same ↦
      let t = eq-eqb j k same in
      let a : once (set uses j Staged) k ≡ 1 = once_set uses j Staged k lt ∙ cond-true {A = ℕ} (eqb j k) _ _ t in
      let c : ◌≡◌ {A = ℕ} (is_one k (Some j)) 1 = cond-true {A = ℕ} (eqb j k) 1 0 t in
      let d : once uses k ≡ 0 = ap (once uses) (sym same) ∙ none (slice_index_or uses j Free) (get_or_default uses j Free Held lt ∙ free) in
      omega (arith, a, c, d)
  | inr apart ↦
      let f = ne_eqb j k apart in
      let a : once (set uses j Staged) k ≡ once uses k = once_set uses j Staged k lt ∙ cond-false {A = ℕ} (eqb j k) _ _ f in
      let c : ◌≡◌ {A = ℕ} (is_one k (Some j)) 0 = cond-false {A = ℕ} (eqb j k) 1 0 f in
      omega (arith, a, c)
]
  where
    none : (u : Use) → u ≡ Free → ◌≡◌ {A = ℕ} (one_of u) 0
    none u e = subst (λ (w : Use). ◌≡◌ {A = ℕ} (one_of w) 0) (sym e) refl

pub once_staged : (uses : List Use) (j : ℕ) (old : Option ℕ) (k : ℕ) → j < length uses → use_of uses j ≡ Free → ((o : ℕ) → old ≡ Some o → 1 ≤ once uses o) → once (staged_at j old uses) k + is_one k old ≡ once uses k + is_one k (Some j)
once_staged uses j None k lt free held = let a = once_taken uses j k lt free in omega (arith, a)
once_staged uses j (Some o) k lt free held =
    let more = once_taken uses j o lt free in
    let a = once_dropped (set uses j Staged) o k (omega (arith, more, held o refl)) in
    let b = once_taken uses j k lt free in
    omega (arith, a, b)

-- the last block of a list
pub among_push : (done : List ℕ) (n b : ℕ) → is_among (done ++ n ∷ []) b ≡ (is_among done b || eqb n b)
among_push done n b = list_any-append (λ c. c == b) done (n ∷ []) ∙ ap (λ (t : Bool). is_among done b || t) (one (eqb n b))
  where
    one : (t : Bool) → (t || false) ≡ t
    one true = refl
    one false = refl

pub moves_none : (s : State) (uses : List Use) → Moves 0 s s uses uses
moves_none s uses = record { size = refl; long = refl; same = record { size = refl; halves = refl; clusters = λ k lt h. refl }; committed = λ k h. h; free = omega arith }

pub moves_then : (n m : ℕ) (s t u : State) (a b c : List Use) → Moves n s t a b → Moves m t u b c → Moves (n + m) s u a c
moves_then n m s t u a b c p q = record {
  size = q.size ∙ p.size;
  long = q.long ∙ p.long;
  same = same_then IsCommitted a b s.seen t.seen u.seen p.long p.committed p.same q.same;
  committed = λ k h. q.committed k (p.committed k h);
  free = omega (arith, p.free, q.free);
}

pub moves_less : (n m : ℕ) (s t : State) (a b : List Use) → n ≤ m → Moves n s t a b → Moves m s t a b
moves_less n m s t a b le p = record { size = p.size; long = p.long; same = p.same; committed = p.committed; free = omega (arith, le, p.free) }

pub stage_moves : (number : ℕ) (bytes : List ℕ) (s t : State) (old new : List Use) (es fs : List (ℕ × ℕ)) → StagesBlock number bytes s t old new es fs → Moves 1 s t old new
stage_moves number bytes s t old new es fs st = record {
  size = st.size;
  long = ap length st.uses ∙ length-staged st.cluster (cluster_at es number) old;
  same = same_weaker IsUsed IsCommitted old s.seen t.seen committed_used st.same;
  committed = λ k h. subst (λ (u : List Use). IsCommitted (use_of u k)) (sym st.uses) (committed_stays old st.cluster (cluster_at es number) k st.was_free h);
  free = let e = ap (how_many is_free) st.uses in let h = free_staged old st.cluster (cluster_at es number) st.in_range st.was_free in omega (arith, e, h);
}

-- what a crash leaves of the last commit's clusters
pub leaves_committed : (s t : State) (uses : List Use) → Leaves s t (KeepsWhere IsUsed uses s) → Leaves s t (KeepsWhere IsCommitted uses s)
leaves_committed s t uses leaves = leaves_weaker s t (KeepsWhere IsUsed uses s) (KeepsWhere IsCommitted uses s) leaves
    (λ c h. (h.0, h.1, same_weaker IsUsed IsCommitted uses h.0 c committed_used h.2))

pub leaves_on : (n : ℕ) (s t u : State) (a b : List Use) → Moves n s t a b → Leaves s t (KeepsWhere IsCommitted a s) → Leaves t u (KeepsWhere IsUsed b t) → Leaves s u (KeepsWhere IsCommitted a s)
leaves_on n s t u a b moves p q = keeps_then IsCommitted a b s t u moves.long moves.committed p (leaves_committed t u b q)

module _ (rest : ℕ → ℕ) (was : ℕ → List ℕ) (before after : List (Option ℕ)) (done : List ℕ) (number : ℕ) (bytes : List ℕ) (s t : State) (old new : List Use) (es fs : List (ℕ × ℕ))
    (blocks : AreBlocks rest was before after done old es (cluster_on s.seen)) (st : StagesBlock number bytes s t old new es fs) (fresh : is_among done number ≡ false) (laid : HoldsBlock after number bytes) where
  held_old : (b k : ℕ) → cluster_at es b ≡ Some k → 1 ≤ once old k
  held_old b k e = let a = named_once es b k e in let o = blocks.owns k in omega (arith, a, o)

  same_at : (b k : ℕ) → cluster_at es b ≡ Some k → cluster_on t.seen k ≡ cluster_on s.seen k
  same_at b k e = let u = once_used old k (held_old b k e) in st.same.clusters k u.0 u.1

  put_here : cluster_at fs number ≡ Some st.cluster
  put_here = st.puts number ∙ cond-true (eqb number number) (Some st.cluster) (cluster_at es number) (eq-eqb number number refl)

  put_other : (b : ℕ) → (b ≡ number → ⊥) → cluster_at fs b ≡ cluster_at es b
  put_other b apart = st.puts b ∙ cond-false (eqb b number) (Some st.cluster) (cluster_at es b) (ne_eqb b number apart)

  among_other : (b : ℕ) → (b ≡ number → ⊥) → is_among (done ++ number ∷ []) b ≡ is_among done b
  among_other b apart = among_push done number b ∙ ap (λ (x : Bool). is_among done b || x) (ne_eqb number b (λ h. apart (sym h))) ∙ one (is_among done b)
    where
      one : (x : Bool) → (x || false) ≡ x
      one true = refl
      one false = refl

  among_here : is_among (done ++ number ∷ []) number ≡ true
  among_here = among_push done number number ∙ ap (λ (x : Bool). is_among done number || x) (eq-eqb number number refl) ∙ one (is_among done number)
    where
      one : (x : Bool) → (x || true) ≡ true
      one true = refl
      one false = refl

  not_here : (b : ℕ) → is_among (done ++ number ∷ []) b ≡ false → b ≡ number → ⊥
  not_here b out same = true≢false (sym among_here ∙ ap (is_among (done ++ number ∷ [])) (sym same) ∙ out)

  pub stage_blocks : AreBlocks rest was before after (done ++ number ∷ []) new fs (cluster_on t.seen)
  stage_blocks = record {
    rising = st.rising;
    owns = λ k.
        let a = put_times es fs number (Some st.cluster) st.before st.rising st.puts k in
        let b = once_staged old st.cluster (cluster_at es number) k st.in_range st.was_free (λ o e. held_old number o e) in
        let c : once new k ≡ once (staged_at st.cluster (cluster_at es number) old) k = ap (λ (u : List Use). once u k) st.uses in
        let d = blocks.owns k in
        omega (arith, a, b, c, d);
    others = λ k some. let o = blocks.owns k in let u = once_used old k (omega (arith, some, o)) in st.same.clusters k u.0 u.1 ∙ blocks.others k some;
    laid = λ b k e among. elim (cases_eq b number) [
      | inl here ↦
          let is : st.cluster ≡ k = same_Some st.cluster k (sym put_here ∙ ap (cluster_at fs) (sym here) ∙ e) in
          subst (λ (n : ℕ). HoldsBlock after n (cluster_on t.seen k)) (sym here)
          (subst (λ (j : ℕ). HoldsBlock after number (cluster_on t.seen j)) is (subst (λ (l : List ℕ). HoldsBlock after number l) (sym st.holds) laid))
      | inr apart ↦
          let was_at : cluster_at es b ≡ Some k = sym (put_other b apart) ∙ e in
          subst (λ (l : List ℕ). HoldsBlock after b l) (sym (same_at b k was_at)) (blocks.laid b k was_at (sym (among_other b apart) ∙ among))
    ];
    kept = λ b k e out.
        let apart : b ≡ number → ⊥ = not_here b out in
        let was_at : cluster_at es b ≡ Some k = sym (put_other b apart) ∙ e in
        subst (λ (l : List ℕ). HoldsBlock before b l) (sym (same_at b k was_at)) (blocks.kept b k was_at (sym (among_other b apart) ∙ out));
    has = λ b among none. elim (cases_eq b number) [
      | inl here ↦ none-some st.cluster (sym none ∙ ap (cluster_at fs) here ∙ put_here)
      | inr apart ↦ blocks.has b (sym (among_other b apart) ∙ among) (sym (put_other b apart) ∙ none)
    ];
    none = λ b out gone. let apart : b ≡ number → ⊥ = not_here b out in blocks.none b (sym (among_other b apart) ∙ out) (sym (put_other b apart) ∙ gone);
  }
