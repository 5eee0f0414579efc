use Rattle.std.proofs.Common.{Option, ◌+◌, ◌∙◌, ap, refl, subst, sym}
use Rattle.cf_base.specs.declared.waits.Cause.TheVariants as cause
use Rattle.cf_filter_machine.proofs.AnswerSteps.{bytes_found, is_accessed, not_accessed, on_file, read_end}
use Rattle.cf_filter_machine.proofs.BookSteps.{IsRebooked, accessed_good}
use Rattle.cf_filter_machine.proofs.DeskSteps.{desk_left, seen_at, seen_cause, seen_desk, seen_leaves, seen_runs, seen_whole}
use Rattle.cf_filter_machine.proofs.ReadSteps.{one_done, one_stays, one_stops_by}
use Rattle.cf_filter_machine.proofs.Shown.{seen_stays}
use Rattle.cf_filter_machine.specs.Ends.{IsCutHere}
use Rattle.cf_filter_desk.specs.Desks.{desk_of}
use Rattle.cf_filter_machine.specs.Held.{Held}
use Rattle.cf_model.specs.Arrows.{one}
use Rattle.cf_model.specs.State.{Filter}
use Rattle.cf_model.specs.Waits.{accessed_now, wait_for}
use Rattle.cf_volume_points.proofs.KeptSound.{means_all}
use Rattle.cf_volume_points.specs.At.{At, StandsLast}
use Rattle.cf_volume_points.specs.Standing.{cluster_on}
use Rattle.cf_filter_steps.specs.Needing.{MayAnswer, meant}
use Rattle.cf_table.specs.Tables.{MeansAll, Table, row_of}
use Rattle.cf_table.specs.declared.rows.Row.{Row}
use Rattle.cf_volume.specs.Calls.{IsHere}
use Rattle.cf_filter_machine.proofs.filter_steps.MachineOnSteps.answer.Goals as goal

pub returns-in_err-end-clause-does : goal.returns-in_err-end-clause-does
returns-in_err-end-clause-does g c =
    desk_left g.G.Ground.state (MayAnswer (meant c.args.need.now)) (one (accessed_now (meant c.args.need.now))) c.args.self.now _ c.args.self.now.desk c.from_residual.result c.from_residual.ensures.1 refl

pub returns-then-not-is_access-clause-does : goal.returns-then-not-is_access-clause-does
returns-then-not-is_access-clause-does g c =
    one_stays g.G.Ground.state (MayAnswer (meant c.args.need.now)) (accessed_now (meant c.args.need.now)) c.args.self.now _ refl
    (λ s h p. not_accessed (wait_for (meant c.args.need.now) s) cause.Met s (sym c.if-not-is_access.ensures))

pub returns-then-not-is_access-clause-tells : goal.returns-then-not-is_access-clause-tells
returns-then-not-is_access-clause-tells g c = record {
  is = λ s h p.
      let at = seen_at g.G.Ground.state s.volume c.self.view_is h.volume in
      c.in_ok-end.ensures s.volume.items (wait_for (meant c.args.need.now) s)
      (subst (λ (t : Table). MeansAll t.rows s.volume.items) (sym c.rows.ensures) (means_all (cluster_on (g.G.Ground.state c.self.inside.volume.disk).seen) s.volume.book c.self.inside.volume.known.table.rows s.volume.items at.now.rows))
      h.good.volume.tree.order refl;
}

pub returns-in_err-cut-clause-does : goal.returns-in_err-cut-clause-does
returns-in_err-cut-clause-does g c =
    desk_left g.G.Ground.state (MayAnswer (meant c.args.need.now)) (one (accessed_now (meant c.args.need.now))) c.args.self.now _ c.args.self.now.desk c.from_residual-in_err-cut.result c.from_residual-in_err-cut.ensures.1 refl

pub read_here-requires-clause-end : goal.read_here-requires-clause-end
read_here-requires-clause-end g c = c.in_ok-cut.ensures.near

pub read_here-requires-clause-here : goal.read_here-requires-clause-here
read_here-requires-clause-here g c = subst (λ (o : Option Row). IsHere o c.in_ok-cut.cut.start (c.in_ok-cut.cut.start + c.in_ok-cut.cut.len)) c.row.ensures c.in_ok-cut.ensures.here

pub returns-in_err-bytes-clause-does : goal.returns-in_err-bytes-clause-does
returns-in_err-bytes-clause-does g c =
    one_stops_by g.G.Ground.state (MayAnswer (meant c.args.need.now)) c.args.self.now c.read_here.new.volume.disk
    (record { same_size = g.met.G.Ground.same_size c.read_here.new.volume.disk })
    (λ v at. seen_leaves g.G.Ground.state (g.G.Ground.state c.read_here.new.volume.disk) (StandsLast v) c.self.view_is (c.in_err-bytes.ensures.crash v (seen_at g.G.Ground.state v c.self.view_is at)))
    (seen_runs g.G.Ground.state (g.G.Ground.state c.read_here.new.volume.disk) c.self.view_is c.in_err-bytes.ensures.runs)
    (accessed_now (meant c.args.need.now)) c.read_here.new.volume.known c.self.inside.desk c.in_err-bytes.field-0.0 c.from_residual-in_err-bytes.result c.from_residual-in_err-bytes.ensures.1 (seen_desk c.self.view_is)
    (λ s h. c.in_err-bytes.ensures.only (seen_whole c.self.view_is h.whole))
    (seen_cause g.G.Ground.state (g.G.Ground.state c.read_here.new.volume.disk) c.in_err-bytes.field-0.0 c.self.view_is c.in_err-bytes.ensures.cause)
    (seen_stays c.in_err-bytes.field-0.0 c.read_here.new.volume.known c.self.view_is c.in_err-bytes.ensures.stays)

pub returns-clause-does : goal.returns-clause-does
returns-clause-does g c =
    let reads = sym c.is_access.ensures ∙ c.if-not-is_access.false in
    one_done g.G.Ground.state (MayAnswer (meant c.args.need.now)) c.args.self.now c.read_here.new.volume.disk
    (record { same_size = g.met.G.Ground.same_size c.read_here.new.volume.disk })
    (λ v at. seen_leaves g.G.Ground.state (g.G.Ground.state c.read_here.new.volume.disk) (StandsLast v) c.self.view_is (c.in_ok-bytes.ensures.crash v (seen_at g.G.Ground.state v c.self.view_is at)))
    (seen_runs g.G.Ground.state (g.G.Ground.state c.read_here.new.volume.disk) c.self.view_is c.in_ok-bytes.ensures.runs)
    (accessed_now (meant c.args.need.now)) c.read_here.new.volume.known c.self.inside.desk c.in_ok-bytes.ensures.usable
    (λ s h p. subst (λ (t : Filter). At (g.G.Ground.state c.read_here.new.volume.disk) c.read_here.new.volume.known t.volume) (is_accessed (wait_for (meant c.args.need.now) s) cause.Met s reads)
    (c.in_ok-bytes.ensures.ok s.volume (seen_at g.G.Ground.state s.volume c.self.view_is h.volume)))
    (λ s h. seen_desk c.self.view_is ∙ h.desk ∙ ap desk_of (is_accessed (wait_for (meant c.args.need.now) s) cause.Met s reads))
    (λ s h p. subst (IsRebooked s) (is_accessed (wait_for (meant c.args.need.now) s) cause.Met s reads)
    (accessed_good c.args.need.now.item s (on_file c.args.need.now.kind cause.Met s.volume.items c.args.need.now.item reads p.file) h.good h.kept))

pub returns-clause-tells : goal.returns-clause-tells
returns-clause-tells g c = record {
  is = λ s h p.
      read_end (wait_for (meant c.args.need.now) s) cause.Met s.volume.items c.in_ok-bytes.bytes (sym c.is_access.ensures ∙ c.if-not-is_access.false)
      (bytes_found g.G.Ground.state c.args.self.now c.args.need.now.item c.args.need.now.span c.in_ok-cut.cut
      (subst (λ (o : Option Row). IsCutHere o c.args.need.now.span c.in_ok-cut.cut) (c.row.ensures ∙ ap (λ (x : Held _). row_of x.known.table.rows c.args.need.now.item) c.self.view_is) c.in_ok-cut.ensures) s h c.in_ok-bytes.bytes
      (λ i there. c.in_ok-bytes.ensures.bytes s.volume i (seen_at g.G.Ground.state s.volume c.self.view_is h.volume) there));
}
