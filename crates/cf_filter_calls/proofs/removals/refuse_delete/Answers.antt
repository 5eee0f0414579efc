use Rattle.cf_filter_calls.proofs.Moved.{delete_reads}
use Rattle.cf_filter_calls.proofs.removals.refuse_delete.Goals as goal

pub returns : goal.returns
returns g c = delete_reads g.S.Steps.sense c.args.s.now c.args.id c.is_unlisted-unlisted.result c.in_ok-full.full c.is_used-used.result c.lacks_place-none.result c.delete_code.result c.is_unlisted-unlisted.ensures c.in_ok-full.ensures c.is_used-used.ensures c.lacks_place-none.ensures c.delete_code.ensures
