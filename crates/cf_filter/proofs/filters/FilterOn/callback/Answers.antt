use Rattle.std.proofs.Common.{◌∙◌, ap, sym}
use Rattle.std.specs.Prelude.{option_copied}
use Rattle.cf_filter.proofs.Drained.{callback_none, callback_there}
use Rattle.cf_filter_steps.proofs.Laws.{ok_map}
use Rattle.cf_table.specs.Tables.{Table, row_of}
use Rattle.cf_filter.proofs.filters.FilterOn.callback.Goals as goal

pub returns-in-Some : goal.returns-in-Some
returns-in-Some g c = ok_map c.callback_on.result _ _
    (λ call e. callback_there g.G.Ground.state c.args.self.now c.args.ask c.in-Some.row.now call (ap (λ (t : Table). row_of t.rows c.args.ask.item) (sym c.rows.ensures) ∙ sym c.get.ensures ∙ ap option_copied c.in-Some.is) e) c.callback_on.ensures

pub returns-in-None : goal.returns-in-None
returns-in-None g c = ok_map c.callback_gone.result _ _
    (λ call e. callback_none g.G.Ground.state c.args.self.now c.args.ask call (ap (λ (t : Table). row_of t.rows c.args.ask.item) (sym c.rows.ensures) ∙ sym c.get.ensures ∙ ap option_copied c.in-None.is) e) c.callback_gone.ensures
