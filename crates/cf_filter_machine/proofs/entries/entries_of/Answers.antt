use Rattle.std.proofs.Common.{◌∙◌}
use Rattle.cf_filter_machine.proofs.EntriesMean.{entries_mean}
use Rattle.cf_filter_machine.specs.Ends.{AreEntriesOf}
use Rattle.cf_filter_steps.proofs.Laws.{ok_map}
use Rattle.cf_table.proofs.ChildrenOf.{children_mean}
use Rattle.cf_filter_machine.proofs.entries.entries_of.Goals as goal

pub returns : goal.returns
returns c =
    ok_map c.list_all.result (AreEntriesOf c.args.rows.now.rows c.deref.result.now) _
    (λ list told. λ items mean rise. entries_mean c.args.rows.now.rows items c.args.dir c.deref.result.now list mean rise (c.deref.ensures.value ∙ c.in_ok-ids.ensures ∙ children_mean c.args.rows.now.rows items c.args.dir mean) told) c.list_all.ensures
