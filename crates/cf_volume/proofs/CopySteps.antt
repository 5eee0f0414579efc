-- The extents of a file copied one after the other.
use Rattle.std.proofs.Common.{◌≡◌, ℕ, zero, suc, ◌+◌, ◌*◌, ◌<◌, ◌≤◌, Bool, true, false, ◌||◌, eqb, List, [], ◌∷◌, ◌++◌, length, take, get_or, Some, None, refl, sym, ◌∙◌, ap, subst, arith, inl, inr, length-append, length-take}
use Rattle.std.specs.Prelude.{All}
use Rattle.std.proofs.lemmas.Bool.{cases_eq, cond-true, cond-false, eq-eqb, ne_eqb, true≢false}
use Rattle.std.proofs.lemmas.List.{map-append, take_all}
use Rattle.std.proofs.lemmas.List.Elements.{All-head, All-tail}
use Rattle.std.proofs.lemmas.Option.{none-some, same_Some}
use Rattle.cf_volume_blocks.specs.Bytes.{HoldsBlock, is_among}
use Rattle.cf_clusters.specs.Area.{KeepsWhere}
use Rattle.cf_clusters.specs.Roles.{IsCommitted, IsUsed, how_many, is_free}
use Rattle.cf_clusters.specs.declared.uses.Use.{Use}
use Rattle.cf_disk.specs.Disk.{Leaves, State}
use Rattle.cf_volume_points.proofs.Stages.{among_push, leaves_on, length-staged, moves_none, moves_then, stage_blocks, stage_moves}
use Rattle.cf_volume_points.specs.Runs.{Ran}
use Rattle.cf_volume_points.specs.Staging.{AreBlocks, Moves, StagesBlock, names}
use Rattle.cf_volume_points.specs.Standing.{cluster_on}
use Rattle.cf_ranges.specs.Pairs.{IsRisingFrom, cluster_at}
use Rattle.cf_volume.proofs.Staged.{same_here}
use Rattle.cf_volume.proofs.Stagings.{ran_less, ran_none, ran_then}
use Rattle.cf_volume.specs.Copies.{CopiesAll, blocks_of}

-- pairs whose blocks rise

pub next_pair : (es : List (ℕ × ℕ)) (i : ℕ) (d : ℕ × ℕ) → i < length es → take (suc i) es ≡ take i es ++ get_or es i d ∷ []
next_pair [] i d lt = absurd (omega (arith, lt))
next_pair (e ∷ es) zero d lt = refl
next_pair (e ∷ es) (suc i) d lt = ap (λ (l : List (ℕ × ℕ)). e ∷ l) (next_pair es i d (omega (arith, lt)))

pair_above : (low : ℕ) (es : List (ℕ × ℕ)) (i : ℕ) (d : ℕ × ℕ) → IsRisingFrom low es → i < length es → low ≤ (get_or es i d).0
pair_above low [] i d r lt = absurd (omega (arith, lt))
pair_above low (e ∷ es) zero d r lt = r.0
pair_above low (e ∷ es) (suc i) d r lt = let h = pair_above (e.0 + 1) es i d r.1 (omega (arith, lt)) in omega (arith, r.0, h)

new_block : (low : ℕ) (es : List (ℕ × ℕ)) (i : ℕ) (d : ℕ × ℕ) → IsRisingFrom low es → i < length es → is_among (blocks_of (take i es)) (get_or es i d).0 ≡ false
new_block low [] i d r lt = absurd (omega (arith, lt))
new_block low (e ∷ es) zero d r lt = refl
new_block low (e ∷ es) (suc i) d r lt =
    let later = pair_above (e.0 + 1) es i d r.1 (omega (arith, lt)) in
    ap (λ (t : Bool). t || is_among (blocks_of (take i es)) (get_or es i d).0) (ne_eqb e.0 (get_or es i d).0 (λ same. omega (arith, same, later))) ∙ new_block (e.0 + 1) es i d r.1 (omega (arith, lt))

found_pair : (low : ℕ) (es : List (ℕ × ℕ)) (i : ℕ) (d : ℕ × ℕ) → IsRisingFrom low es → i < length es → cluster_at es (get_or es i d).0 ≡ Some (get_or es i d).1
found_pair low [] i d r lt = absurd (omega (arith, lt))
found_pair low (e ∷ es) zero d r lt = cond-true (eqb e.0 e.0) (Some e.1) (cluster_at es e.0) (eq-eqb e.0 e.0 refl)
found_pair low (e ∷ es) (suc i) d r lt =
    let later = pair_above (e.0 + 1) es i d r.1 (omega (arith, lt)) in
    cond-false (eqb e.0 (get_or es i d).0) (Some e.1) (cluster_at es (get_or es i d).0) (ne_eqb e.0 (get_or es i d).0 (λ same. omega (arith, same, later))) ∙ found_pair (e.0 + 1) es i d r.1 (omega (arith, lt))

pub named_at : (P : ℕ → Type 0) (es : List (ℕ × ℕ)) (i : ℕ) (d : ℕ × ℕ) → All P (names es) → i < length es → P (get_or es i d).1
named_at P [] i d all lt = absurd (omega (arith, lt))
named_at P (e ∷ es) zero d all lt = All-head P e.1 (names es) all
named_at P (e ∷ es) (suc i) d all lt = named_at P es i d (All-tail P e.1 (names es) all) (omega (arith, lt))

-- one more

module _ (source : List (ℕ × ℕ)) (i : ℕ) (pair : ℕ × ℕ) (s t u : State) (old mid new : List Use) (fs gs : List (ℕ × ℕ)) (lt : i < length source) (is : pair ≡ get_or source i (0, 0)) (all : CopiesAll source (take i source) s t old mid fs) where
  pub copy_crash : Leaves t u (KeepsWhere IsUsed mid t) → Leaves s u (KeepsWhere IsCommitted old s)
  copy_crash leaves = leaves_on (length (take i source)) s t u old mid all.moves all.leaves leaves

  pub copy_ran : Ran 4096 t u → Ran (4096 * length source) s u
  copy_ran ran = ran_less (4096 * length (take i source) + 4096) (4096 * length source) s u (omega (arith, length-take i source, lt)) (ran_then (4096 * length (take i source)) 4096 s t u all.ran ran)

  pub copy_next : StagesBlock pair.0 (cluster_on t.seen pair.1) t u mid new fs gs → Ran 4096 t u → Leaves t u (KeepsWhere IsUsed mid t) → CopiesAll source (take (suc i) source) s u old new gs
  copy_next st ran leaves = subst (λ (l : List (ℕ × ℕ)). CopiesAll source l s u old new gs) (sym (next_pair source i (0, 0) lt ∙ ap (λ (p : ℕ × ℕ). take i source ++ p ∷ []) (sym is))) (record {
    moves = subst (λ (n : ℕ). Moves n s u old new) (sym one_more) (moves_then (length (take i source)) 1 s t u old mid new all.moves (stage_moves pair.0 (cluster_on t.seen pair.1) t u mid new fs gs st));
    leaves = copy_crash leaves;
    ran = ran_less (4096 * length (take i source) + 4096) (4096 * length (take i source ++ pair ∷ [])) s u (omega (arith, one_more)) (ran_then (4096 * length (take i source)) 4096 s t u all.ran ran);
    rising = st.rising;
    inside = λ b k e. inside b k e;
    only = λ b out. only b out;
    each = λ rest held rising sources start.
        let now = all.each rest held rising sources start in
        let fresh : is_among (blocks_of (take i source)) pair.0 ≡ false = ap (λ (p : ℕ × ℕ). is_among (blocks_of (take i source)) p.0) is ∙ new_block 0 source i (0, 0) rising lt in
        let found : cluster_at source pair.0 ≡ Some pair.1 = subst (λ (p : ℕ × ℕ). cluster_at source p.0 ≡ Some p.1) (sym is) (found_pair 0 source i (0, 0) rising lt) in
        let here = sources pair.0 pair.1 found in
        subst (λ (l : List ℕ). AreBlocks rest (cluster_on s.seen) [] held l new gs (cluster_on u.seen)) (sym blocks_more)
        (stage_blocks rest (cluster_on s.seen) [] held (blocks_of (take i source)) pair.0 (cluster_on t.seen pair.1) t u mid new fs gs now st fresh
        (subst (λ (l : List ℕ). HoldsBlock held pair.0 l) (sym (now.others pair.1 here.0)) here.1));
  })
    where
      one_more : length (take i source ++ pair ∷ []) ≡ length (take i source) + 1
      one_more = length-append (take i source) (pair ∷ [])

      blocks_more : blocks_of (take i source ++ pair ∷ []) ≡ blocks_of (take i source) ++ pair.0 ∷ []
      blocks_more = map-append (λ (e : ℕ × ℕ). e.0) (take i source) (pair ∷ [])

      long : length new ≡ length mid
      long = ap length st.uses ∙ length-staged st.cluster (cluster_at fs pair.0) mid

      put_here : (b : ℕ) → b ≡ pair.0 → cluster_at gs b ≡ Some st.cluster
      put_here b here = st.puts b ∙ cond-true (eqb b pair.0) _ _ (eq-eqb b pair.0 here)

      put_there : (b : ℕ) → (b ≡ pair.0 → ⊥) → cluster_at gs b ≡ cluster_at fs b
      put_there b apart = st.puts b ∙ cond-false (eqb b pair.0) _ _ (ne_eqb b pair.0 apart)

      inside : (b k : ℕ) → cluster_at gs b ≡ Some k → k < length new
      inside b k e = elim (cases_eq b pair.0) [
        | inl here ↦ let same : st.cluster ≡ k = same_Some st.cluster k (sym (put_here b here) ∙ e) in omega (arith, same, long, st.in_range)
        | inr apart ↦ let h = all.inside b k (sym (put_there b apart) ∙ e) in omega (arith, h, long)
      ]

      among : (b : ℕ) → is_among (blocks_of (take i source ++ pair ∷ [])) b ≡ (is_among (blocks_of (take i source)) b || eqb pair.0 b)
      among b = ap (λ (l : List ℕ). is_among l b) blocks_more ∙ among_push (blocks_of (take i source)) pair.0 b

      neither : (x y : Bool) → (x || y) ≡ false → (x ≡ false) × (y ≡ false)
      neither true y e = absurd (true≢false e)
      neither false y e = (refl, e)

      only : (b : ℕ) → is_among (blocks_of (take i source ++ pair ∷ [])) b ≡ false → cluster_at gs b ≡ None
      only b out =
          let both = neither (is_among (blocks_of (take i source)) b) (eqb pair.0 b) (sym (among b) ∙ out) in
          put_there b (λ (same : b ≡ pair.0). true≢false (sym (eq-eqb pair.0 b (sym same)) ∙ both.1)) ∙ all.only b both.0

-- none is copied yet
pub copy_start : (source : List (ℕ × ℕ)) (s : State) (old : List Use) (es : List (ℕ × ℕ)) → es ≡ [] → CopiesAll source [] s s old old es
copy_start source s old es none = subst (λ (l : List (ℕ × ℕ)). CopiesAll source [] s s old old l) (sym none) (record {
  moves = moves_none s old;
  leaves = record { later = omega arith; now = λ c left. (c, left, same_here IsCommitted old c); since = λ t c le left. inl left };
  ran = ran_none s;
  rising = tt;
  inside = λ b k e. absurd (none-some k e);
  only = λ b out. refl;
  each = λ rest held rising sources start. start;
})

pub copy_room : (source : List (ℕ × ℕ)) (i : ℕ) (s t : State) (old mid : List Use) (fs : List (ℕ × ℕ)) → i < length source → CopiesAll source (take i source) s t old mid fs → length source ≤ how_many is_free old → 0 < how_many is_free mid
copy_room source i s t old mid fs lt all room = let e = length-take i source in omega (arith, all.moves.free, e, lt, room)

pub all_copied : (source : List (ℕ × ℕ)) (i : ℕ) (s t : State) (old mid : List Use) (fs : List (ℕ × ℕ)) → length source ≤ i → CopiesAll source (take i source) s t old mid fs → CopiesAll source source s t old mid fs
all_copied source i s t old mid fs past all = subst (λ (l : List (ℕ × ℕ)). CopiesAll source l s t old mid fs) (take_all i source past) all
