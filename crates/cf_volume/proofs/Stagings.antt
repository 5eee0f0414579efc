-- Blocks staged one after the other.
use Rattle.std.proofs.Common.{◌≡◌, ℕ, zero, suc, ◌+◌, ◌*◌, ◌<◌, ◌≤◌, Bool, true, false, ◌||◌, eqb, List, [], ◌∷◌, ◌++◌, length, take, get_or, Option, Some, None, refl, sym, ◌∙◌, ap, subst, arith, inl, inr, length-append, length-take}
use Rattle.std.proofs.lemmas.Bool.{ne_eqb, cases_eq}
use Rattle.std.proofs.lemmas.Option.{same_Some}
use Rattle.std.proofs.lemmas.Bool.{cond-true, cond-false, eq-eqb, true≢false}
use Rattle.cf_base.specs.declared.changes.Change.{Change}
use Rattle.cf_volume_blocks.specs.Bytes.{is_among}
use Rattle.cf_clusters.specs.Area.{KeepsWhere}
use Rattle.cf_clusters.specs.Roles.{IsCommitted, IsUsed, how_many, is_free}
use Rattle.std.proofs.lemmas.List.{take_all}
use Rattle.cf_volume.proofs.Staged.{same_here}
use Rattle.cf_clusters.specs.declared.uses.Use.{Use}
use Rattle.cf_disk.specs.Disk.{Leaves, State, may_fail}
use Rattle.cf_volume_points.proofs.Stages.{among_push, leaves_on, length-staged, moves_none, moves_then, stage_blocks, stage_moves}
use Rattle.cf_volume_points.specs.Staging.{AreBlocks, Moves, StagesBlock}
use Rattle.cf_volume_points.specs.Standing.{cluster_on}
use Rattle.cf_ranges.specs.Pairs.{cluster_at}
use Rattle.cf_table.specs.declared.rows.Row.{Row}
use Rattle.cf_volume_changes.proofs.Removed.{take_next}
use Rattle.cf_volume_changes.specs.Laid.{AreRising, HoldsIn, Lays, StagesAll}
use Rattle.std.specs.Prelude.{IfErr, Result, Ok, Err}
use Rattle.std.specs.Result.{IsErrAnd}
use Rattle.cf_volume_points.specs.declared.stops.Stop.{Stop}
use Rattle.cf_volume_points.specs.declared.stops.Stop.TheVariants.{Device, OutOfMemory}
use Rattle.cf_volume_points.specs.Runs.{IsStop, Ran}

pub ran_none : (s : State) → Ran 0 s s
ran_none s = record { size = refl; powers = refl; settings = refl; faults = omega arith; calm = omega arith; written = omega arith }

pub ran_then : (n m : ℕ) (s t u : State) → Ran n s t → Ran m t u → Ran (n + m) s u
ran_then n m s t u p q = record { size = q.size ∙ p.size; powers = q.powers ∙ p.powers; settings = q.settings ∙ p.settings; faults = omega (arith, p.faults, q.faults); calm = omega (arith, p.calm, q.calm); written = omega (arith, p.written, q.written) }

pub ran_less : (n m : ℕ) (s t : State) → n ≤ m → Ran n s t → Ran m s t
ran_less n m s t le p = record { size = p.size; powers = p.powers; settings = p.settings; faults = p.faults; calm = p.calm; written = omega (arith, le, p.written) }

-- a list of numbers that rise has none twice
before_rising : (low : ℕ) (bs : List ℕ) (i d : ℕ) → AreRising low bs → i < length bs → low ≤ get_or bs i d
before_rising low [] i d r lt = absurd (omega (arith, lt))
before_rising low (b ∷ bs) zero d r lt = r.0
before_rising low (b ∷ bs) (suc i) d r lt = let h = before_rising (b + 1) bs i d r.1 (omega (arith, lt)) in omega (arith, r.0, h)

pub not_yet : (low : ℕ) (bs : List ℕ) (i d : ℕ) → AreRising low bs → i < length bs → is_among (take i bs) (get_or bs i d) ≡ false
not_yet low [] i d r lt = absurd (omega (arith, lt))
not_yet low (b ∷ bs) zero d r lt = refl
not_yet low (b ∷ bs) (suc i) d r lt =
    let later = before_rising (b + 1) bs i d r.1 (omega (arith, lt)) in
    ap (λ (t : Bool). t || is_among (take i bs) (get_or bs i d)) (ne_eqb b (get_or bs i d) (λ same. omega (arith, same, later))) ∙ not_yet (b + 1) bs i d r.1 (omega (arith, lt))

-- the block's old cluster holds what it held before
held_in : (rest : ℕ → ℕ) (was : ℕ → List ℕ) (before after : List (Option ℕ)) (done : List ℕ) (uses : List Use) (es : List (ℕ × ℕ)) (disk : List ℕ) (number : ℕ) → AreBlocks rest was before after done uses es (cluster_on disk) → is_among done number ≡ false
    → HoldsIn disk before number (cluster_at es number)
held_in rest was before after done uses es disk number blocks fresh = by (cluster_at es number) refl
  where
    by : (o : Option ℕ) → cluster_at es number ≡ o → HoldsIn disk before number o
    by None e = blocks.none number fresh e
    by (Some k) e = blocks.kept number k e fresh

module _ (c : Change) (row : Row) (blocks : List ℕ) (i : ℕ) (number : ℕ) (s t u : State) (old mid new : List Use) (es fs gs : List (ℕ × ℕ)) (lt : i < length blocks) (is : number ≡ get_or blocks i 0) (all : StagesAll c row blocks (take i blocks) s t old mid es fs) where
  pub stage_crash : Leaves t u (KeepsWhere IsUsed mid t) → Leaves s u (KeepsWhere IsCommitted old s)
  stage_crash leaves = leaves_on (length (take i blocks)) s t u old mid all.moves all.leaves leaves

  pub stage_ran : Ran 4096 t u → Ran (4096 * length blocks) s u
  stage_ran ran = ran_less (4096 * length (take i blocks) + 4096) (4096 * length blocks) s u (omega (arith, length-take i blocks, lt)) (ran_then (4096 * length (take i blocks)) 4096 s t u all.ran ran)

  pub stage_next : (bytes : List ℕ) → StagesBlock number bytes t u mid new fs gs → Lays c row number t.seen (cluster_at fs number) bytes → Ran 4096 t u → Leaves t u (KeepsWhere IsUsed mid t) → StagesAll c row blocks (take (suc i) blocks) s u old new es gs
  stage_next bytes st lays ran leaves = subst (λ (l : List ℕ). StagesAll c row blocks l s u old new es gs) (sym (take_next blocks i 0 lt ∙ ap (λ (n : ℕ). take i blocks ++ n ∷ []) (sym is))) (record {
    moves = subst (λ (n : ℕ). Moves n s u old new) (sym one_more) (moves_then (length (take i blocks)) 1 s t u old mid new all.moves (stage_moves number bytes t u mid new fs gs st));
    leaves = stage_crash leaves;
    ran = ran_less (4096 * length (take i blocks) + 4096) (4096 * length (take i blocks ++ number ∷ [])) s u (omega (arith, one_more)) (ran_then (4096 * length (take i blocks)) 4096 s t u all.ran ran);
    inside = λ b k e. inside b k e;
    others = λ b out. others b (sym (among_push (take i blocks) number b) ∙ out);
    each = λ rest was item pin n means rising start.
        let now = all.each rest was item pin n means rising start in
        let fresh : is_among (take i blocks) number ≡ false = ap (is_among (take i blocks)) is ∙ not_yet 0 blocks i 0 rising lt in
        stage_blocks rest was item.held _ (take i blocks) number bytes t u mid new fs gs now st fresh
        (lays item pin n means (held_in rest was item.held _ (take i blocks) mid fs t.seen number now fresh));
  })
    where
      one_more : length (take i blocks ++ number ∷ []) ≡ length (take i blocks) + 1
      one_more = length-append (take i blocks) (number ∷ [])

      long : length new ≡ length mid
      long = ap length st.uses ∙ length-staged st.cluster (cluster_at fs number) mid

      inside : (b k : ℕ) → cluster_at gs b ≡ Some k → k < length new
      inside b k e = elim (cases_eq b number) [
        | inl here ↦
            let put : cluster_at gs b ≡ Some st.cluster = st.puts b ∙ cond-true (eqb b number) _ _ (eq-eqb b number here) in
            let same : st.cluster ≡ k = same_Some st.cluster k (sym put ∙ e) in
            omega (arith, same, long, st.in_range)
        | inr apart ↦
            let put : cluster_at gs b ≡ cluster_at fs b = st.puts b ∙ cond-false (eqb b number) _ _ (ne_eqb b number apart) in
            let h = all.inside b k (sym put ∙ e) in
            omega (arith, h, long)
      ]

      neither : (x y : Bool) → (x || y) ≡ false → (x ≡ false) × (y ≡ false)
      neither true y e = absurd (true≢false e)
      neither false y e = (refl, e)

      others : (b : ℕ) → (is_among (take i blocks) b || eqb number b) ≡ false → cluster_at gs b ≡ cluster_at es b
      others b out =
          let apart = neither (is_among (take i blocks) b) (eqb number b) out in
          st.puts b ∙ cond-false (eqb b number) _ _ (ne_eqb b number (λ same. true≢false (sym (eq-eqb number b (sym same)) ∙ apart.1))) ∙ all.others b apart.0

-- nothing is staged yet
pub stage_start : (c : Change) (row : Row) (blocks : List ℕ) (s : State) (old : List Use) (es : List (ℕ × ℕ)) → ((b k : ℕ) → cluster_at es b ≡ Some k → k < length old) → StagesAll c row blocks [] s s old old es es
stage_start c row blocks s old es inside = record {
  moves = moves_none s old;
  leaves = untouched s old;
  ran = ran_none s;
  inside = inside;
  others = λ b out. refl;
  each = λ rest was i pin n means rising start. start;
}
  where
    untouched : (t : State) (uses : List Use) → Leaves t t (KeepsWhere IsCommitted uses t)
    untouched t uses = record { later = omega arith; now = λ c left. (c, left, same_here IsCommitted uses c); since = λ t c le left. inl left }

-- room is left for those to come
pub room_left : (c : Change) (row : Row) (blocks : List ℕ) (i : ℕ) (s t : State) (old mid : List Use) (es fs : List (ℕ × ℕ)) → i < length blocks → StagesAll c row blocks (take i blocks) s t old mid es fs → length blocks ≤ how_many is_free old → 0 < how_many is_free mid
room_left c row blocks i s t old mid es fs lt all room = let e = length-take i blocks in omega (arith, all.moves.free, e, lt, room)

pub all_staged : (c : Change) (row : Row) (blocks : List ℕ) (i : ℕ) (s t : State) (old mid : List Use) (es fs : List (ℕ × ℕ)) → length blocks ≤ i → StagesAll c row blocks (take i blocks) s t old mid es fs → StagesAll c row blocks blocks s t old mid es fs
all_staged c row blocks i s t old mid es fs past all = subst (λ (l : List ℕ). StagesAll c row blocks l s t old mid es fs) (take_all i blocks past) all

-- why a later call stopped
pub stop_later : {T : Type 0} (r : Result T Stop) (e : Stop) (s t u : State) → IsErrAnd r (λ y. y ≡ e) → IsStop e t u → s.faults ≤ t.faults → may_fail t.armed ≤ may_fail s.armed → IfErr r (λ y. IsStop y s u)
stop_later {T} (Ok x) e s t u is stop le calm = absurd is
stop_later {T} (Err y) e s t u is stop le calm = by y (subst (λ (z : Stop). IsStop z t u) (sym is) stop)
  where
    by : (z : Stop) → IsStop z t u → IsStop z s u
    by Device h = (omega (arith, h.0, le), omega (arith, h.1, calm))
    by OutOfMemory h = tt
