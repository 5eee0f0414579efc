-- The state holds as many clusters as its rows have blocks.
use Rattle.std.proofs.Common.{◌≡◌, ℕ, zero, suc, ◌+◌, ◌<◌, ◌≤◌, Bool, true, false, cond, eqb, List, [], ◌∷◌, length, map, set, refl, sym, ◌∙◌, ap, subst, arith, inl, inr, get_or-set_other}
use Rattle.std.specs.Prelude.{slice_index_or}
use Rattle.std.proofs.lemmas.Bool.{cases_lt, eq-eqb, eqb-true}
use Rattle.std.proofs.lemmas.List.Sums.{sum_by-cons}
use Rattle.std.proofs.lemmas.List.{length-append, length-map}
use Rattle.cf_clusters.proofs.Counts.{how_many-set, now_committed, none_dropped, uses_add_up}
use Rattle.cf_clusters.specs.Roles.{committed, how_many, is_free, is_now}
use Rattle.cf_clusters.specs.declared.uses.Use.{Use}
use Rattle.cf_clusters.specs.declared.uses.Use.TheVariants.{Free}
use Rattle.cf_model.specs.Blocks.{blocks_held, blocks_holding, blocks_used}
use Rattle.cf_model.specs.Books.{Book}
use Rattle.cf_model.specs.Items.{Item}
use Rattle.cf_volume_points.specs.Clusters.{Owns, clusters_in_row, clusters_in_rows, once, times}
use Rattle.cf_volume_points.specs.Holding.{HoldRows}
use Rattle.cf_volume_points.proofs.Apart.{head_once, none_past, one_use}
use Rattle.cf_volume_points.proofs.Frames.{clusters_more}
use Rattle.cf_table.specs.declared.rows.Row.{Row}

none_now : (uses : List Use) → ((k : ℕ) → 0 ≡ once uses k) → how_many is_now uses ≡ 0
none_now [] h = refl
none_now (u ∷ us) h = let first = h 0 in let rest = none_now us (λ k. h (suc k)) in omega (arith, first, rest)

-- without one cluster
once_without : (uses : List Use) (j k : ℕ) (n : ℕ) → once uses k ≡ cond (eqb j k) 1 0 + n → once (set uses j Free) k ≡ n
once_without uses j k n e = by (eqb j k) refl e
  where
    freed : (us : List Use) (i : ℕ) → slice_index_or (set us i Free) i Free ≡ Free
    freed [] i = refl
    freed (u ∷ us) zero = refl
    freed (u ∷ us) (suc i) = freed us i

    none : (u : Use) → u ≡ Free → ◌≡◌ {A = ℕ} (cond (is_now u) 1 0) 0
    none u h = subst (λ (w : Use). ◌≡◌ {A = ℕ} (cond (is_now w) 1 0) 0) (sym h) refl

    by : (b : Bool) → eqb j k ≡ b → once uses k ≡ cond b 1 0 + n → once (set uses j Free) k ≡ n
    by true same h =
        let here : j ≡ k = eqb-true j k same in
        let zero_is : once (set uses j Free) k ≡ 0 = none (slice_index_or (set uses j Free) k Free) (ap (λ (i : ℕ). slice_index_or (set uses j Free) i Free) (sym here) ∙ freed uses j) in
        let one = one_use (slice_index_or uses k Free) in
        omega (arith, zero_is, h, one)
    by false other h =
        let apart : k ≡ j → ⊥ = λ (p : k ≡ j). let z : true ≡ false = sym (eq-eqb j k (sym p)) ∙ other in cc in
        let kept : slice_index_or (set uses j Free) k Free ≡ slice_index_or uses k Free = get_or-set_other uses j k Free Free apart in
        ap (λ (u : Use). cond (is_now u) 1 0) kept ∙ h ∙ (let z : 0 + n ≡ n = omega arith in z)

pub counted : (ks : List ℕ) (uses : List Use) → Owns uses ks → length ks ≡ how_many is_now uses
counted [] uses owns = sym (none_now uses owns)
counted (j ∷ js) uses owns =
    let within : j < length uses = elim (cases_lt j (length uses)) [ inl low ↦ low | inr high ↦ absurd (omega (arith, head_once j js, owns j, none_past uses j high)) ] in
    let rest = counted js (set uses j Free) (λ k. sym (once_without uses j k (times k js) (sym (owns k)))) in
    let change = how_many-set is_now uses j Free Free within in
    let was : once uses j ≡ 1 + times j js = sym (owns j) ∙ head_once j js in
    let one = one_use (slice_index_or uses j Free) in
    omega (arith, rest, change, was, one)

row_blocks : (es : List (ℕ × ℕ)) (bs : List ℕ) → map (λ (e : ℕ × ℕ). e.0) es ≡ bs → length (map (λ (e : ℕ × ℕ). e.1) es) ≡ length bs
row_blocks es bs h = length-map es (λ (e : ℕ × ℕ). e.1) ∙ sym (length-map es (λ (e : ℕ × ℕ). e.0)) ∙ ap length h

pub blocks_are_clusters : (cluster : ℕ → List ℕ) (b : Book) (rows : List Row) (items : List Item) → HoldRows cluster b rows items → length (clusters_in_rows rows) ≡ blocks_used items
blocks_are_clusters cluster b [] [] h = refl
blocks_are_clusters cluster b [] (i ∷ is) h = absurd h
blocks_are_clusters cluster b (r ∷ rs) [] h = absurd h
blocks_are_clusters cluster b (r ∷ rs) (i ∷ is) h =
    let split : length (clusters_in_rows (r ∷ rs)) ≡ length (clusters_in_row r) + length (clusters_in_rows rs) = ap length (clusters_more r rs) ∙ length-append (clusters_in_row r) (clusters_in_rows rs) in
    let here = row_blocks r.extents (blocks_holding i.held) h.0.blocks in
    let rest = blocks_are_clusters cluster b rs is h.1 in
    let total : blocks_used (i ∷ is) ≡ blocks_held i.held + blocks_used is = sum_by-cons (λ (x : Item). blocks_held x.held) i is in
    omega (arith, split, here, rest, total)

pub used_now : (cluster : ℕ → List ℕ) (b : Book) (rows : List Row) (items : List Item) (uses : List Use) → HoldRows cluster b rows items → Owns uses (clusters_in_rows rows) → blocks_used items ≡ how_many is_now uses
used_now cluster b rows items uses h owns = sym (blocks_are_clusters cluster b rows items h) ∙ counted (clusters_in_rows rows) uses owns

-- after a commit only what the state holds is used
pub used_committed : (uses : List Use) (n : ℕ) → n ≡ how_many is_now uses → length (map committed uses) ≤ how_many is_free (map committed uses) + n
used_committed uses n e =
    let sums = uses_add_up (map committed uses) in
    let dropped = none_dropped uses in
    let now = now_committed uses in
    omega (arith, sums, dropped, now, e)
