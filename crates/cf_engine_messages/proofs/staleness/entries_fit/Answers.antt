use Rattle.std.proofs.Common.{List, subst, sym}
use Rattle.cf_engine_messages.proofs.StaleReplies.{fits_here}
use Rattle.cf_table.specs.Tables.{MeansAll}
use Rattle.cf_table.specs.declared.rows.Row.{Row}
use Rattle.cf_engine_messages.proofs.staleness.entries_fit.Goals as goal

pub returns : goal.returns
returns g c = fits_here g.S.Steps.sense c.args.s.now c.rows.result.now c.in_ok-local.local c.args.settled c.args.request.now c.args.reply.now c.in_ok-fitting.fitting c.rows.ensures.means
    (λ items m. c.in_ok-local.ensures items (subst (λ (l : List Row). MeansAll l items) (sym c.as_slice.ensures.value) m)) c.in_ok-fitting.ensures
