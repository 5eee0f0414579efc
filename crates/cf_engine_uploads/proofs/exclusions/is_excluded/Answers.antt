use Rattle.cf_engine_uploads.proofs.StoredPins.{line_excluded, root_excluded}
use Rattle.std.proofs.Common.{sym, ◌∙◌}
use Rattle.cf_engine_uploads.proofs.exclusions.is_excluded.Goals as goal

pub returns-then-is_stored : goal.returns-then-is_stored
returns-then-is_stored c = λ items m t. root_excluded c.args.rows.now.rows items c.args.id m t (sym c.is_stored.ensures ∙ c.if-is_stored.true)

pub returns : goal.returns
returns c = λ items m t. c.is_line_stored.ensures ∙ line_excluded c.args.rows.now.rows items c.args.id m t (sym c.is_stored.ensures ∙ c.if-is_stored.false)
