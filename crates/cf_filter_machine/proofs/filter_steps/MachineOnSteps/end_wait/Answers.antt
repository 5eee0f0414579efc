use Rattle.std.proofs.Common.{Option, ◌+◌, ◌∙◌, ap, refl, subst, sym}
use Rattle.cf_base.specs.declared.codes.CallError.TheVariants.{OutOfMemory}
use Rattle.cf_base.specs.declared.ids.ItemId.{ItemId}
use Rattle.cf_base.specs.declared.ids.WaitId.{WaitId}
use Rattle.cf_base.specs.declared.waits.End.TheVariants as end
use Rattle.cf_base.specs.declared.waits.WaitKind.{WaitKind}
use Rattle.cf_filter_machine.proofs.AnswerSteps.{bytes_found, end_desk, end_unread, ended_desk, ended_rebooked, ended_volume, read_end}
use Rattle.cf_filter_machine.proofs.DeskSteps.{desk_exit, seen_at, seen_cause, seen_desk, seen_leaves, seen_runs, seen_whole, with_desk}
use Rattle.cf_filter_machine.proofs.ReadSteps.{one_done, one_lost, one_stopped}
use Rattle.cf_filter_machine.proofs.Shown.{seen_stays}
use Rattle.cf_filter_desk.specs.Desks.{Desk, ended}
use Rattle.cf_filter_machine.specs.Ends.{IsCutHere}
use Rattle.cf_filter_machine.specs.Held.{Held}
use Rattle.cf_filter_machine.specs.Sensing.{sense}
use Rattle.cf_model.specs.Numbers.{same_key}
use Rattle.cf_model.specs.Settling.{bytes_at, end_of, end_wait, is_access, with_access_to, with_ended}
use Rattle.cf_model.specs.State.{Volume}
use Rattle.cf_model.specs.Words.{says}
use Rattle.cf_volume_points.proofs.KeptSound.{means_all}
use Rattle.cf_volume_points.specs.At.{At, StandsLast}
use Rattle.cf_volume_points.specs.Standing.{cluster_on}
use Rattle.cf_filter_steps.proofs.Laws.{with_err}
use Rattle.cf_filter_steps.specs.Settled.{IsEndOnFile}
use Rattle.cf_table.specs.Tables.{MeansAll, Table, row_of}
use Rattle.cf_table.specs.declared.rows.Row.{Row}
use Rattle.cf_volume.specs.Calls.{IsHere}
use Rattle.cf_filter_machine.proofs.filter_steps.MachineOnSteps.end_wait.Goals as goal

pub returns-in_err-tell_unread : goal.returns-in_err-tell_unread
returns-in_err-tell_unread g c =
    desk_exit g.G.Ground.state (IsEndOnFile c.args.ended.now) (end_wait c.args.ended.now) c.args.self.now _ c.tell_unread.new.desk c.from_residual.result c.from_residual.ensures.1 (with_desk c.tell_unread.new.desk c.self.view_is)

pub returns-then-not-is_access : goal.returns-then-not-is_access
returns-then-not-is_access g c =
    end_unread g.G.Ground.state (IsEndOnFile c.args.ended.now) c.args.ended.now c.args.self.now _ c.tell_unread.new.desk (with_desk c.tell_unread.new.desk c.self.view_is) (ap (λ (k : WaitKind). is_access k c.args.ended.now.1) (sym c.kind.ensures) ∙ sym c.if-not-is_access.ensures)
    (λ s h.
    let at = seen_at g.G.Ground.state s.volume c.self.view_is h.volume in
    end_desk c.args.ended.now c.tell_unread.new.desk s (end_of s.volume.items c.args.ended.now.0 c.args.ended.now.1)
    (c.in_ok-tell_unread.ensures s.volume.items
    (subst (λ (t : Table). MeansAll t.rows s.volume.items) (sym c.rows.ensures) (means_all (cluster_on (g.G.Ground.state c.self.inside.volume.disk).seen) s.volume.book c.self.inside.volume.known.table.rows s.volume.items at.now.rows))
    h.good.volume.tree.order
    ∙ ap (λ (d : Desk). ended c.args.ended.now.0.id (end_of s.volume.items c.args.ended.now.0 c.args.ended.now.1) (says (λ own. same_key own.0 c.args.ended.now.0.id.0) d.own) d) (seen_desk c.self.view_is ∙ h.desk))
    refl)

pub returns-in_err-cut : goal.returns-in_err-cut
returns-in_err-cut g c =
    desk_exit g.G.Ground.state (IsEndOnFile c.args.ended.now) (end_wait c.args.ended.now) c.args.self.now _ c.args.self.now.desk c.from_residual-in_err-cut.result c.from_residual-in_err-cut.ensures.1 refl

pub read_here-requires-clause-end : goal.read_here-requires-clause-end
read_here-requires-clause-end g c = c.in_ok-cut.ensures.near

pub read_here-requires-clause-here : goal.read_here-requires-clause-here
read_here-requires-clause-here g c = subst (λ (o : Option Row). IsHere o c.in_ok-cut.cut.start (c.in_ok-cut.cut.start + c.in_ok-cut.cut.len)) c.row.ensures c.in_ok-cut.ensures.here

pub returns-in_err-bytes : goal.returns-in_err-bytes
returns-in_err-bytes g c =
    with_err (sense g.G.Ground.state) (IsEndOnFile c.args.ended.now) (end_wait c.args.ended.now) c.args.self.now _ c.in_err-bytes.field-0.0 c.from_residual-in_err-bytes.result c.from_residual-in_err-bytes.ensures.1
    (one_stopped g.G.Ground.state (IsEndOnFile c.args.ended.now) c.args.self.now c.read_here.new.volume.disk
    (record { same_size = g.met.G.Ground.same_size c.read_here.new.volume.disk })
    (λ v at. seen_leaves g.G.Ground.state (g.G.Ground.state c.read_here.new.volume.disk) (StandsLast v) c.self.view_is (c.in_err-bytes.ensures.crash v (seen_at g.G.Ground.state v c.self.view_is at)))
    (seen_runs g.G.Ground.state (g.G.Ground.state c.read_here.new.volume.disk) c.self.view_is c.in_err-bytes.ensures.runs)
    (with_ended c.args.ended.now) c.read_here.new.volume.known c.self.inside.desk c.in_err-bytes.field-0.0 (seen_desk c.self.view_is) (λ s h. c.in_err-bytes.ensures.only (seen_whole c.self.view_is h.whole))
    (seen_cause g.G.Ground.state (g.G.Ground.state c.read_here.new.volume.disk) c.in_err-bytes.field-0.0 c.self.view_is c.in_err-bytes.ensures.cause)
    (seen_stays c.in_err-bytes.field-0.0 c.read_here.new.volume.known c.self.view_is c.in_err-bytes.ensures.stays))

pub returns-in_err-end : goal.returns-in_err-end
returns-in_err-end g c =
    with_err (sense g.G.Ground.state) (IsEndOnFile c.args.ended.now) (end_wait c.args.ended.now) c.args.self.now _ OutOfMemory c.from_residual-in_err-end.result c.from_residual-in_err-end.ensures.1
    (one_lost g.G.Ground.state (IsEndOnFile c.args.ended.now) c.args.self.now c.read_here.new.volume.disk
    (record { same_size = g.met.G.Ground.same_size c.read_here.new.volume.disk })
    (λ v at. seen_leaves g.G.Ground.state (g.G.Ground.state c.read_here.new.volume.disk) (StandsLast v) c.self.view_is (c.in_ok-bytes.ensures.crash v (seen_at g.G.Ground.state v c.self.view_is at)))
    (seen_runs g.G.Ground.state (g.G.Ground.state c.read_here.new.volume.disk) c.self.view_is c.in_ok-bytes.ensures.runs)
    (with_ended c.args.ended.now) c.read_here.new.volume.known c.end.new.self)

pub returns : goal.returns
returns g c =
    let reads = ap (λ (k : WaitKind). is_access k c.args.ended.now.1) (sym c.kind.ensures) ∙ sym c.is_access.ensures ∙ c.if-not-is_access.false in
    one_done g.G.Ground.state (IsEndOnFile c.args.ended.now) c.args.self.now c.read_here.new.volume.disk
    (record { same_size = g.met.G.Ground.same_size c.read_here.new.volume.disk })
    (λ v at. seen_leaves g.G.Ground.state (g.G.Ground.state c.read_here.new.volume.disk) (StandsLast v) c.self.view_is (c.in_ok-bytes.ensures.crash v (seen_at g.G.Ground.state v c.self.view_is at)))
    (seen_runs g.G.Ground.state (g.G.Ground.state c.read_here.new.volume.disk) c.self.view_is c.in_ok-bytes.ensures.runs)
    (with_ended c.args.ended.now) c.read_here.new.volume.known c.end.new.self c.in_ok-bytes.ensures.usable
    (λ s h p. subst (λ (v : Volume). At (g.G.Ground.state c.read_here.new.volume.disk) c.read_here.new.volume.known v) (ended_volume c.args.ended.now reads s)
    (subst (λ (id : ItemId). At (g.G.Ground.state c.read_here.new.volume.disk) c.read_here.new.volume.known (with_access_to id s.volume)) c.item-item.ensures (c.in_ok-bytes.ensures.ok s.volume (seen_at g.G.Ground.state s.volume c.self.view_is h.volume))))
    (λ s h.
    end_desk c.args.ended.now c.end.new.self s (end.Data c.in_ok-bytes.bytes)
    (c.in_ok-end.ensures
    ∙ ap (λ (k : WaitId). ended k (end.Data c.in_ok-bytes.bytes) (says (λ own. same_key own.0 k.0) c.self.inside.desk.own) c.self.inside.desk) c.id.ensures
    ∙ ap (λ (d : Desk). ended c.args.ended.now.0.id (end.Data c.in_ok-bytes.bytes) (says (λ own. same_key own.0 c.args.ended.now.0.id.0) d.own) d) (seen_desk c.self.view_is ∙ h.desk))
    (read_end c.args.ended.now.0 c.args.ended.now.1 s.volume.items c.in_ok-bytes.bytes reads
    (bytes_found g.G.Ground.state c.args.self.now c.item-item.result c.span.result c.in_ok-cut.cut
    (subst (λ (o : Option Row). IsCutHere o c.span.result c.in_ok-cut.cut) (c.row.ensures ∙ ap (λ (x : Held _). row_of x.known.table.rows c.item-item.result) c.self.view_is) c.in_ok-cut.ensures) s h c.in_ok-bytes.bytes
    (λ i there. c.in_ok-bytes.ensures.bytes s.volume i (seen_at g.G.Ground.state s.volume c.self.view_is h.volume) there)
    ∙ (λ j. bytes_at s.volume.items (c.item-item.ensures j) (c.span.ensures j))))
    ∙ ended_desk c.args.ended.now reads s)
    (λ s h p. ended_rebooked c.args.ended.now reads s p h.good h.kept)

pub tell_unread-requires : goal.tell_unread-requires
tell_unread-requires g c = ap (λ (k : WaitKind). is_access k c.args.ended.now.1) (sym c.kind.ensures) ∙ sym c.if-not-is_access.ensures
