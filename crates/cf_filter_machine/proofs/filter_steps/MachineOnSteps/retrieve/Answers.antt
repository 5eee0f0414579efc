use Rattle.std.proofs.Common.{Option, ◌+◌, ◌∙◌, ap, refl, subst}
use Rattle.cf_filter_machine.proofs.AnswerSteps.{bytes_told, on_ok}
use Rattle.cf_filter_machine.proofs.DeskSteps.{desk_left, seen_at, seen_cause, seen_desk, seen_leaves, seen_runs, seen_whole}
use Rattle.cf_filter_machine.proofs.ReadSteps.{err_map, not_rebooked, one_read}
use Rattle.cf_filter_machine.proofs.Shown.{seen_same}
use Rattle.cf_filter_machine.specs.Ends.{IsCutHere}
use Rattle.cf_filter_desk.specs.Desks.{Desk}
use Rattle.cf_filter_machine.specs.Held.{Held}
use Rattle.cf_model.specs.Arrows.{one}
use Rattle.cf_model.specs.Operations.{as_it_is}
use Rattle.cf_volume_points.specs.At.{StandsLast}
use Rattle.cf_filter_steps.specs.Putting as putting
use Rattle.cf_table.specs.Tables.{row_of}
use Rattle.cf_table.specs.declared.rows.Row.{Row}
use Rattle.cf_volume.specs.Calls.{IsHere}
use Rattle.cf_filter_machine.proofs.filter_steps.MachineOnSteps.retrieve.Goals as goal

pub bytes-requires-clause-end : goal.bytes-requires-clause-end
bytes-requires-clause-end g c = c.in_ok-cut.ensures.near

pub bytes-requires-clause-here : goal.bytes-requires-clause-here
bytes-requires-clause-here g c = subst (λ (o : Option Row). IsHere o c.in_ok-cut.cut.start (c.in_ok-cut.cut.start + c.in_ok-cut.cut.len)) c.row.ensures c.in_ok-cut.ensures.here

pub returns-in_err-cut-clause-does : goal.returns-in_err-cut-clause-does
returns-in_err-cut-clause-does g c =
    desk_left g.G.Ground.state (putting.IsHere c.args.item c.args.span) (one as_it_is) c.args.self.now _ c.args.self.now.desk c.from_residual.result c.from_residual.ensures.1 refl

pub returns-clause-does : goal.returns-clause-does
returns-clause-does g c =
    one_read g.G.Ground.state (putting.IsHere c.args.item c.args.span) c.args.self.now c.bytes.new.self.disk c.bytes.new.self.known c.self.inside.desk as_it_is c.bytes.result
    (record { same_size = g.met.G.Ground.same_size c.bytes.new.self.disk })
    (λ v at. seen_leaves g.G.Ground.state (g.G.Ground.state c.bytes.new.self.disk) (StandsLast v) c.self.view_is (c.bytes.ensures.crash v (seen_at g.G.Ground.state v c.self.view_is at)))
    (seen_runs g.G.Ground.state (g.G.Ground.state c.bytes.new.self.disk) c.self.view_is c.bytes.ensures.runs)
    (seen_desk c.self.view_is) c.bytes.ensures.usable (λ s h p. c.bytes.ensures.ok s.volume (seen_at g.G.Ground.state s.volume c.self.view_is h.volume)) (λ s h. refl)
    (λ s h. c.bytes.ensures.only (seen_whole c.self.view_is h.whole))
    (err_map c.bytes.result _ _ (λ q why. seen_cause g.G.Ground.state (g.G.Ground.state c.bytes.new.self.disk) q c.self.view_is why) c.bytes.ensures.cause) (seen_same c.bytes.new.self.known c.self.view_is c.bytes.ensures.contents) (λ s h p. not_rebooked s h.good h.kept)

pub returns-clause-tells : goal.returns-clause-tells
returns-clause-tells g c =
    bytes_told g.G.Ground.state c.args.self.now c.args.item c.args.span c.in_ok-cut.cut
    (subst (λ (o : Option Row). IsCutHere o c.args.span c.in_ok-cut.cut) (c.row.ensures ∙ ap (λ (x : Held _). row_of x.known.table.rows c.args.item) c.self.view_is) c.in_ok-cut.ensures) c.bytes.result
    (λ v i at there. c.bytes.ensures.bytes v i (seen_at g.G.Ground.state v c.self.view_is at) there)

pub returns-clause-same : goal.returns-clause-same
returns-clause-same g c = on_ok c.bytes.result (ap (λ (d : Desk). d.waiting) (seen_desk c.self.view_is))
