-- Extents dropped one after the other.
use Rattle.std.proofs.Common.{◌≡◌, ℕ, ◌+◌, ◌<◌, ◌≤◌, Bool, true, false, not, ◌&&◌, ◌||◌, cond, eqb, List, [], ◌∷◌, ◌++◌, length, refl, sym, ◌∙◌, ap, subst, arith, Option, Some, None}
use Rattle.std.specs.Prelude.{MatchOption, filter}
use Rattle.std.proofs.lemmas.Bool.{eq-eqb, eqb-true, true≢false}
use Rattle.std.proofs.lemmas.Option.{none-some}
use Rattle.cf_volume_blocks.proofs.Elsewhere.{among_filter}
use Rattle.cf_volume_blocks.specs.Bytes.{is_among}
use Rattle.cf_clusters.proofs.Counts.{how_many-set}
use Rattle.cf_clusters.proofs.Keeping.{committed_drops}
use Rattle.cf_clusters.specs.Roles.{IsCommitted, dropped, dropped_at, how_many, is_free, use_of}
use Rattle.cf_clusters.specs.declared.uses.Use.{Use}
use Rattle.cf_clusters.specs.declared.uses.Use.TheVariants.{Free, Held, Staged, Dropped}
use Rattle.cf_volume_points.specs.Clusters.{once, times}
use Rattle.cf_volume_points.specs.Staging.{Drops, DropsAll, DropsGone, DropsOne}
use Rattle.cf_volume_points.proofs.Apart.{head_once}
use Rattle.cf_volume_points.proofs.Extents.{is_one, named_once, put_times}
use Rattle.cf_volume_points.proofs.FileRows.{blocks_in_extents, none_among}
use Rattle.cf_volume_points.proofs.Stages.{among_push, length-dropped, once_dropped}
use Rattle.cf_ranges.specs.Pairs.{IsRising, cluster_at}
use Rattle.cf_ranges.specs.Positions.{touches}
use Rattle.cf_base.specs.declared.spans.Span.{Span}

free_use : (u : Use) → cond {A = ℕ} (is_free u) 1 0 ≤ cond {A = ℕ} (is_free (dropped u)) 1 0
free_use Free = omega arith
free_use Held = omega arith
free_use Staged = omega arith
free_use Dropped = omega arith

free_dropped : (uses : List Use) (o : ℕ) → o < length uses → how_many is_free uses ≤ how_many is_free (dropped_at o uses)
free_dropped uses o lt = let h = how_many-set is_free uses o (dropped (use_of uses o)) Held lt in let u = free_use (use_of uses o) in omega (arith, h, u)

pub drops_none : (uses : List Use) (es : List (ℕ × ℕ)) → IsRising es → Drops [] uses uses es es
drops_none uses es rising = record { rising = rising; each = λ b. refl; owns = λ rest h. h; committed = λ k h. h; long = refl; free = omega arith }

-- what one drop does, in the middle of others
pub drops_more : (done : List ℕ) (number : ℕ) (old mid new : List Use) (es fs gs : List (ℕ × ℕ)) → ((b k : ℕ) → cluster_at fs b ≡ Some k → k < length mid) → Drops done old mid es fs → DropsOne number mid new fs gs → Drops (done ++ number ∷ []) old new es gs
drops_more done number old mid new es fs gs inside all one = by (cluster_at fs number) refl one.uses
  where
    each : (b : ℕ) → cluster_at gs b ≡ cond (is_among (done ++ number ∷ []) b) None (cluster_at es b)
    each b = one.puts b ∙ ap (λ (o : Option ℕ). cond (eqb b number) None o) (all.each b) ∙ both (eqb b number) (is_among done b) (eqb number b) (swap b) (cluster_at es b) ∙ ap (λ (t : Bool). cond t None (cluster_at es b)) (sym (among_push done number b))
      where
        swap : (n : ℕ) → eqb n number ≡ eqb number n
        swap n = test (eqb n number) refl (eqb number n) refl
          where
            test : (t : Bool) → eqb n number ≡ t → (u : Bool) → eqb number n ≡ u → t ≡ u
            test true p true q = refl
            test false p false q = refl
            test true p false q = absurd (true≢false (sym (eq-eqb number n (sym (eqb-true n number p))) ∙ q))
            test false p true q = absurd (true≢false (sym (eq-eqb n number (sym (eqb-true number n q))) ∙ p))

        both : (x y z : Bool) → x ≡ z → (o : Option ℕ) → cond x None (cond y None o) ≡ cond (y || z) None o
        both true y true e o = one_true y o
          where
            one_true : (w : Bool) (o : Option ℕ) → None ≡ cond (w || true) None o
            one_true true o = refl
            one_true false o = refl
        both false y false e o = none_false y o
          where
            none_false : (w : Bool) (o : Option ℕ) → cond w None o ≡ cond (w || false) None o
            none_false true o = refl
            none_false false o = refl
        both true y false e o = absurd (true≢false e)
        both false y true e o = absurd (true≢false (sym e))

    by : (o : Option ℕ) → cluster_at fs number ≡ o → MatchOption o (new ≡ mid) (λ k. new ≡ dropped_at k mid) → Drops (done ++ number ∷ []) old new es gs
    by None e uses = record {
      rising = one.rising;
      each = each;
      owns = λ rest h k.
          let a = all.owns rest h k in
          let p = put_times fs gs number None one.before one.rising one.puts k in
          let z : is_one k (cluster_at fs number) ≡ 0 = ap (is_one k) e in
          let u : once new k ≡ once mid k = ap (λ (l : List Use). once l k) uses in
          omega (arith, a, p, z, u);
      committed = λ k h. subst (λ (l : List Use). IsCommitted (use_of l k)) (sym uses) (all.committed k h);
      long = ap length uses ∙ all.long;
      free = let u = ap (how_many is_free) uses in omega (arith, u, all.free);
    }
    by (Some o) e uses = record {
      rising = one.rising;
      each = each;
      owns = λ rest h k.
          let a = all.owns rest h k in
          let p = put_times fs gs number None one.before one.rising one.puts k in
          let z : is_one k (cluster_at fs number) ≡ is_one k (Some o) = ap (is_one k) e in
          let u : once new k ≡ once (dropped_at o mid) k = ap (λ (l : List Use). once l k) uses in
          let n = named_once fs number o e in
          let m = all.owns rest h o in
          let d = once_dropped mid o k (omega (arith, n, m)) in
          omega (arith, a, p, z, u, d);
      committed = λ k h. subst (λ (l : List Use). IsCommitted (use_of l k)) (sym uses) (committed_drops mid o k (all.committed k h));
      long = ap length uses ∙ length-dropped o mid ∙ all.long;
      free = let u = ap (how_many is_free) uses in let f = free_dropped mid o (inside number o e) in omega (arith, u, f, all.free);
    }

-- the clusters stay in range
pub drops_inside : (done : List ℕ) (old mid : List Use) (es fs : List (ℕ × ℕ)) → ((b k : ℕ) → cluster_at es b ≡ Some k → k < length old) → Drops done old mid es fs → (b k : ℕ) → cluster_at fs b ≡ Some k → k < length mid
drops_inside done old mid es fs inside d b k e = by (is_among done b) (sym (d.each b) ∙ e)
  where
    by : (t : Bool) → cond t None (cluster_at es b) ≡ Some k → k < length mid
    by true h = absurd (none-some k h)
    by false h = let i = inside b k h in omega (arith, i, d.long)

-- those whose block holds no byte
pub drops_gone : (here : List Span) (old new : List Use) (es fs : List (ℕ × ℕ)) → Drops (filter (λ b. not (touches here b)) (blocks_in_extents es)) old new es fs → DropsGone here old new es fs
drops_gone here old new es fs d = record {
  rising = d.rising;
  each = λ b. d.each b ∙ ap (λ (t : Bool). cond t None (cluster_at es b)) (among_filter (λ n. not (touches here n)) (blocks_in_extents es) b) ∙ by b (touches here b) (is_among (blocks_in_extents es) b) refl;
  owns = d.owns;
  committed = d.committed;
  long = d.long;
  free = d.free;
}
  where
    by : (b : ℕ) (t u : Bool) → is_among (blocks_in_extents es) b ≡ u → cond (u && not t) None (cluster_at es b) ≡ cond t (cluster_at es b) None
    by b true true e = refl
    by b true false e = refl
    by b false true e = refl
    by b false false e = none_among es b e

-- all clusters of a list, from the first on

pub record DropsFront (front rest' : List ℕ) (old new : List Use) : Type 0 where
  pub owns : (rest : ℕ → ℕ) → ((k : ℕ) → rest k + times k front ≡ once old k) → (k : ℕ) → rest k + times k rest' ≡ once new k
  pub committed : (k : ℕ) → IsCommitted (use_of old k) → IsCommitted (use_of new k)
  pub long : length new ≡ length old
  pub free : how_many is_free old ≤ how_many is_free new

pub front_none : (ks : List ℕ) (uses : List Use) → DropsFront ks ks uses uses
front_none ks uses = record { owns = λ rest h. h; committed = λ k h. h; long = refl; free = omega arith }

pub front_more : (all ks : List ℕ) (o : ℕ) (old mid new : List Use) → o < length mid → new ≡ dropped_at o mid → DropsFront all (o ∷ ks) old mid → DropsFront all ks old new
front_more all ks o old mid new lt is d = record {
  owns = λ rest h k.
      let a = d.owns rest h k in
      let b = d.owns rest h o in
      let one = head_once o ks in
      let u : once new k ≡ once (dropped_at o mid) k = ap (λ (l : List Use). once l k) is in
      let c = once_dropped mid o k (omega (arith, b, one)) in
      omega (arith, a, u, c);
  committed = λ k h. subst (λ (l : List Use). IsCommitted (use_of l k)) (sym is) (committed_drops mid o k (d.committed k h));
  long = ap length is ∙ length-dropped o mid ∙ d.long;
  free = let u = ap (how_many is_free) is in let f = free_dropped mid o lt in omega (arith, u, f, d.free);
}

pub front_all : (ks : List ℕ) (old new : List Use) → DropsFront ks [] old new → DropsAll ks old new
front_all ks old new d = record { owns = λ rest h k. let a = d.owns rest h k in omega (arith, a); committed = d.committed; long = d.long; free = d.free }
