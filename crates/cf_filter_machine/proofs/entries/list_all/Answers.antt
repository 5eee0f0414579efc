use Rattle.std.proofs.Common.{List, [], append-nil, subst, sym}
use Rattle.std.proofs.Math.ListN.{drop_of_length-le}
use Rattle.cf_base.specs.declared.ids.ItemId.{ItemId}
use Rattle.cf_filter_machine.specs.Ends.{AreEntriesOf}
use Rattle.cf_filter_machine.proofs.entries.list_all.Goals as goal

pub returns : goal.returns
returns c =
    subst (AreEntriesOf c.args.rows.now.rows c.args.ids.now) (append-nil c.loop-id.list)
    (c.loop-id.invariant [] (subst (λ (l : List ItemId). AreEntriesOf c.args.rows.now.rows l []) (sym (drop_of_length-le c.args.ids.now c.loop-id-test.false)) (record {})))
