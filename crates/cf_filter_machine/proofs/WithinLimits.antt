-- Rows that a change fits.
use Rattle.std.proofs.Common.{◌≡◌, ℕ, ◌+◌, ◌<◌, Bool, true, false, cond, eqb, ltb, List, [], ◌∷◌, Option, Some, None, refl, ◌∙◌, ap, arith}
use Rattle.std.specs.Prelude.{All, MatchOption, find, is_some, not}
use Rattle.std.proofs.lemmas.Bool.{eqb-false, eqb-true, ltb-false, true≢false}
use Rattle.std.proofs.lemmas.List.Elements.{All-cons, All-nil}
use Rattle.cf_base.specs.declared.ids.ItemId.{ItemId}
use Rattle.cf_table.specs.Tables.{RisesFrom, comes_after, id_of, row_of}
use Rattle.cf_table.specs.declared.rows.Row.{Row}

-- what holds of the row with an id holds of each

none_beyond : (P : Row → Type 0) (id : ItemId) (low : ℕ) (rows : List Row) → RisesFrom low rows → id.0 < low → All (λ r. r.id.0 ≡ id.0 → P r) rows
none_beyond P id low [] rise lt = All-nil (λ (r : Row). r.id.0 ≡ id.0 → P r)
none_beyond P id low (r ∷ rs) rise lt =
    All-cons (λ (r : Row). r.id.0 ≡ id.0 → P r) r rs (λ e. absurd (omega (arith, e, lt, rise.0))) (none_beyond P id (r.id.0 + 1) rs rise.1 (omega (arith, lt, rise.0)))

pub all_by_own : (P : Row → Type 0) (id : ItemId) (low : ℕ) (rows : List Row) → RisesFrom low rows → MatchOption (row_of rows id) (Unit {0}) P → All (λ r. r.id.0 ≡ id.0 → P r) rows
all_by_own P id low [] rise own = All-nil (λ (r : Row). r.id.0 ≡ id.0 → P r)
all_by_own P id low (r ∷ rs) rise own = by (eqb r.id.0 id.0) refl own (all_by_own P id (r.id.0 + 1) rs rise.1)
  where
    by : (t : Bool) → eqb r.id.0 id.0 ≡ t → MatchOption (cond t (Some r) (row_of rs id)) (Unit {0}) P → (MatchOption (row_of rs id) (Unit {0}) P → All (λ r. r.id.0 ≡ id.0 → P r) rs) → All (λ r. r.id.0 ≡ id.0 → P r) (r ∷ rs)
    by true e h rest = All-cons (λ (r : Row). r.id.0 ≡ id.0 → P r) r rs (λ s. h) (none_beyond P id (r.id.0 + 1) rs rise.1 (let s = eqb-true r.id.0 id.0 e in omega (arith, s)))
    by false e h rest = All-cons (λ (r : Row). r.id.0 ≡ id.0 → P r) r rs (λ s. absurd (eqb-false r.id.0 id.0 e s)) (rest h)

-- where none comes after an id, each comes before the next

pub all_before : (last item : ItemId) (rows : List Row) → last.0 + 1 ≡ item.0 → None ≡ id_of (find (comes_after (Some last)) rows) → All (λ r. r.id.0 < item.0) rows
all_before last item [] next none = All-nil (λ (r : Row). r.id.0 < item.0)
all_before last item (r ∷ rs) next none = by (ltb last.0 r.id.0) refl none (all_before last item rs next)
  where
    by : (t : Bool) → ltb last.0 r.id.0 ≡ t → None ≡ id_of (cond t (Some r) (find (comes_after (Some last)) rs)) → (None ≡ id_of (find (comes_after (Some last)) rs) → All (λ r. r.id.0 < item.0) rs) → All (λ r. r.id.0 < item.0) (r ∷ rs)
    by true e h rest = let z : ◌≡◌ {A = Option ItemId} None (Some r.id) = h in absurd cc
    by false e h rest = All-cons (λ (r : Row). r.id.0 < item.0) r rs (let low = ltb-false last.0 r.id.0 e in omega (arith, low, next)) (rest h)

pub none_of : (o : Option ItemId) (b : Bool) → is_some o ≡ not b → b ≡ true → None ≡ o
none_of None b e h = refl
none_of (Some x) b e h = absurd (true≢false (e ∙ ap not h))
