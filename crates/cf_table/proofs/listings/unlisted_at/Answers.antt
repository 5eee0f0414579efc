use Rattle.std.proofs.Common.{◌<◌, ℕ, Result, length, subst}
use Rattle.std.specs.Prelude.{IfErr, IfOk}
use Rattle.cf_table.specs.Tables.{IsRowAt, IsRowGap}
use Rattle.cf_table.proofs.Counts.{count_here, put_at, put_in_gap}
use Rattle.cf_table.proofs.listings.unlisted_at.Goals as goal

pub returns-in-Ok-clause-put : goal.returns-in-Ok-clause-put
returns-in-Ok-clause-put c = λ row at gap.
    put_at c.args.rows.now c.in-Ok.place c.unlisted.result c.index-rows-place.result row c.requires.rises (subst (λ (r : Result ℕ ℕ). IfOk r (IsRowAt c.args.rows.now row.id.0)) c.in-Ok.is at) c.index-rows-place.is c.unlisted.ensures

pub returns-in-Ok-clause-most : goal.returns-in-Ok-clause-most
returns-in-Ok-clause-most c =
    count_here c.args.rows.now c.in-Ok.place c.unlisted.result c.index-rows-place.result (subst (λ (r : Result ℕ ℕ). IfOk r (λ (k : ℕ). k < length c.args.rows.now)) c.in-Ok.is c.requires.found) c.index-rows-place.is c.unlisted.ensures

pub returns-in-Err-clause-put : goal.returns-in-Err-clause-put
returns-in-Err-clause-put c = λ row at gap. put_in_gap c.args.rows.now c.in-Err.field-0 row (subst (λ (r : Result ℕ ℕ). IfErr r (IsRowGap c.args.rows.now row.id.0)) c.in-Err.is gap)
