-- A table without a row.
use Rattle.std.proofs.Common.{◌≡◌, Bool, true, false, not, eqb, List, [], ◌∷◌, sym, ◌∙◌, ap}
use Rattle.std.proofs.lemmas.Bool.{cond-false, eq-eqb, true≢false}
use Rattle.cf_base.specs.declared.ids.ItemId.{ItemId}
use Rattle.cf_model.specs.Items.{root}
use Rattle.cf_model.specs.Numbers.{root_id}
use Rattle.cf_table.specs.Tables.{MeansAll, without_row}
use Rattle.cf_table.specs.declared.rows.Row.{Row}

-- a new table without its root
pub none_left : (rows : List Row) → MeansAll rows (root ∷ []) → without_row root_id rows ≡ []
none_left [] m = absurd m
none_left (r ∷ []) m =
    let one = ap (λ (i : ItemId). i.0) m.0.id in
    cond-false (not (eqb r.id.0 1)) (r ∷ []) [] (ap not (eq-eqb r.id.0 1 one))
none_left (r ∷ s ∷ rs) m = absurd m.1

pub not_yes : (b : Bool) → b ≡ false → b ≡ true → ⊥
not_yes b e f = true≢false (sym f ∙ e)
