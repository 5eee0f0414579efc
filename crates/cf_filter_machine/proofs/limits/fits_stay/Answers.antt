use Rattle.std.proofs.Common.{Option, ◌∙◌, ap, subst}
use Rattle.std.specs.Prelude.{MatchOption}
use Rattle.cf_table.specs.Applied.{FitsRow}
use Rattle.cf_table.specs.Changing.{item_of_change}
use Rattle.cf_table.specs.Tables.{row_of}
use Rattle.cf_table.specs.declared.rows.Row.{Row}
use Rattle.cf_filter_machine.proofs.WithinLimits.{all_by_own}
use Rattle.cf_filter_machine.proofs.limits.fits_stay.Goals as goal

pub returns : goal.returns
returns c = λ hit.
    all_by_own (FitsRow c.args.change.now) (item_of_change c.args.change.now) 0 c.args.rows.now.rows c.image_len.ensures.rises
    (subst (λ (o : Option Row). MatchOption o (Unit {0}) (FitsRow c.args.change.now)) (c.get.ensures ∙ ap (row_of c.args.rows.now.rows) c.item_of.ensures.of) (c.fits_own.ensures hit))
