use Rattle.cf_engine_queue.specs.Books.{tombstone_value}
use Rattle.cf_engine_uploads.proofs.Listed.{with_items}
use Rattle.std.proofs.Common.{◌∙◌}
use Rattle.std.specs.Prelude.{map}
use Rattle.cf_engine_uploads.proofs.push_lists.push_now.Goals as goal

pub returns : goal.returns
returns g c = with_items g.S.Steps.sense g.R.Remote.told c.args.s.now c.push_lists-done.new.s c.args.e.now c.push_lists-done.new.e c.push_lists-done.result c.rows.result.now (map tombstone_value c.args.tombstones.now) c.as_slice.result.now c.rows.ensures.means (λ items m t. c.as_slice.ensures.value ∙ c.in_ok-ids.ensures items m t) c.push_lists-done.ensures
