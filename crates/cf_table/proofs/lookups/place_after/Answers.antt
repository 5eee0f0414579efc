use Rattle.std.proofs.Common.{◌∙◌, Option, ap, get_or}
use Rattle.std.proofs.lemmas.Bool.{le-ltb, lt-ltb}
use Rattle.cf_base.specs.declared.ids.ItemId.{ItemId}
use Rattle.cf_table.specs.Tables.{comes_after}
use Rattle.cf_table.proofs.Finds.{past, up_to}
use Rattle.cf_table.proofs.lookups.place_after.Goals as goal

pub returns-in-Ok-clause-before : goal.returns-in-Ok-clause-before
returns-in-Ok-clause-before c = λ k d lt.
    ap (λ (o : Option ItemId). comes_after o (get_or c.args.rows.now k d)) c.in-Some.is
    ∙ le-ltb c.in-Some.id.0 (get_or c.args.rows.now k d).id.0 (up_to c.args.rows.now c.in-Some.id.0 c.in-Ok.place k d c.requires c.in-Ok.ensures.found lt)

pub returns-in-Ok-clause-from : goal.returns-in-Ok-clause-from
returns-in-Ok-clause-from c = λ k d le lt.
    ap (λ (o : Option ItemId). comes_after o (get_or c.args.rows.now k d)) c.in-Some.is
    ∙ lt-ltb c.in-Some.id.0 (get_or c.args.rows.now k d).id.0 (past c.args.rows.now c.in-Some.id.0 c.in-Ok.place k d c.requires c.in-Ok.ensures.found le lt)
