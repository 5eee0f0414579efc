use Rattle.std.proofs.Common.{subst}
use Rattle.cf_base.specs.declared.ids.ItemId.{ItemId}
use Rattle.cf_disk.specs.Disk.{size_of}
use Rattle.cf_volume_points.proofs.Saves.{untouched_either}
use Rattle.cf_volume_points.specs.Known.{Known}
use Rattle.cf_volume.proofs.Committed.{commit_leaves, commit_room, commit_sure, committed_is, committed_steady, is_writable}
use Rattle.cf_volume_changes.proofs.EmptyTables.{not_yes}
use Rattle.cf_volume_changes.specs.Notes.{NotesNothing}
use Rattle.cf_volume_changes.specs.Steady.{Steady, known_of}
use Rattle.cf_volume.proofs.Stopped.{failed_stop}
use Rattle.cf_volume.proofs.commits.commit_parts.Goals as goal

pub returns-in-Err-clause-only : goal.returns-in-Err-clause-only
returns-in-Err-clause-only g c = λ v at. failed_stop c.in-Err.stop c.fail_of.result c.fail_of.ensures

pub returns-then-not-can_be_written-clause-only : goal.returns-then-not-can_be_written-clause-only
returns-then-not-can_be_written-clause-only g c = λ v at.
    absurd (not_yes c.can_be_written.result c.if-not-can_be_written.true (c.can_be_written.ensures.1 (is_writable (g.G.Ground.state c.args.ground.now) c.args.parts.now v at c.image_len.ensures.kept)))

pub returns-then-not-can_be_written-clause-crash : goal.returns-then-not-can_be_written-clause-crash
returns-then-not-can_be_written-clause-crash g c = λ v at keep.
    untouched_either (g.G.Ground.state c.args.ground.now) (g.G.Ground.state c.args.ground.now) (known_of c.args.parts.now) v
    (record { same_size = g.met.G.Ground.same_size c.args.ground.now }) at

pub returns-in_err-then-clause-crash : goal.returns-in_err-then-clause-crash
returns-in_err-then-clause-crash g c = λ v at keep.
    untouched_either (g.G.Ground.state c.args.ground.now) (g.G.Ground.state c.args.ground.now) (known_of c.args.parts.now) v
    (record { same_size = g.met.G.Ground.same_size c.args.ground.now }) at

pub returns-in-Ok-clause-sure : goal.returns-in-Ok-clause-sure
returns-in-Ok-clause-sure g c = λ v at keep.
    commit_sure (g.G.Ground.state c.args.ground.now) (g.G.Ground.state c.save.new.self) c.args.parts.now
    (record { same_size = g.met.G.Ground.same_size c.args.ground.now })
    c.requires.steady c.image_len.ensures.rises c.image_len.ensures.kept (c.can_be_written.ensures.0 c.if-not-can_be_written.false) v at keep
    c.save.new.journal c.save.new.held c.in_ok-then.then (subst (λ (n : ItemId). NotesNothing n c.in_ok-then.then) c.next.ensures c.in_ok-then.ensures) c.in-Ok.ensures.held c.used-parts.result c.used-parts.ensures c.in-Ok.ensures.saved
    c.image_len-2.ensures.rise c.save.ensures.ran.size c.in-Ok.ensures.durable c.in-Ok.ensures.rest

pub returns-in-Ok-clause-room : goal.returns-in-Ok-clause-room
returns-in-Ok-clause-room g c = λ v at keep.
    commit_room (g.G.Ground.state c.args.ground.now) (g.G.Ground.state c.save.new.self) c.args.parts.now
    (record { same_size = g.met.G.Ground.same_size c.args.ground.now })
    c.requires.steady c.image_len.ensures.rises c.image_len.ensures.kept (c.can_be_written.ensures.0 c.if-not-can_be_written.false) v at keep
    c.save.new.journal c.save.new.held c.in_ok-then.then (subst (λ (n : ItemId). NotesNothing n c.in_ok-then.then) c.next.ensures c.in_ok-then.ensures) c.in-Ok.ensures.held c.used-parts.result c.used-parts.ensures c.in-Ok.ensures.saved
    c.image_len-2.ensures.rise c.save.ensures.ran.size c.in-Ok.ensures.durable c.in-Ok.ensures.rest

pub returns-in-Ok-clause-crash : goal.returns-in-Ok-clause-crash
returns-in-Ok-clause-crash g c = λ v at keep.
    commit_leaves (g.G.Ground.state c.args.ground.now) (g.G.Ground.state c.save.new.self) c.args.parts.now
    (record { same_size = g.met.G.Ground.same_size c.args.ground.now })
    c.requires.steady c.image_len.ensures.rises c.image_len.ensures.kept (c.can_be_written.ensures.0 c.if-not-can_be_written.false) v at keep c.in-Ok.ensures.crash

pub returns-in-Ok-clause-steady : goal.returns-in-Ok-clause-steady
returns-in-Ok-clause-steady g c =
    subst (λ (k : Known). Steady (size_of (g.G.Ground.state c.save.new.self)) k)
    (committed_is (known_of c.args.parts.now) c.save.new.journal c.save.new.held c.in_ok-then.then c.used-parts.result (subst (λ (n : ItemId). NotesNothing n c.in_ok-then.then) c.next.ensures c.in_ok-then.ensures) c.in-Ok.ensures.held c.used-parts.ensures)
    (committed_steady (g.G.Ground.state c.args.ground.now) (g.G.Ground.state c.save.new.self) (known_of c.args.parts.now) c.save.new.journal c.requires.steady c.save.ensures.ran.size c.in-Ok.ensures.usable)

pub returns-in-Err-clause-crash : goal.returns-in-Err-clause-crash
returns-in-Err-clause-crash g c = λ v at keep.
    commit_leaves (g.G.Ground.state c.args.ground.now) (g.G.Ground.state c.save.new.self) c.args.parts.now
    (record { same_size = g.met.G.Ground.same_size c.args.ground.now })
    c.requires.steady c.image_len.ensures.rises c.image_len.ensures.kept (c.can_be_written.ensures.0 c.if-not-can_be_written.false) v at keep c.in-Err.ensures.crash

pub returns-in-Ok-clause-noted : goal.returns-in-Ok-clause-noted
returns-in-Ok-clause-noted g c =
    let then = subst (λ (n : ItemId). NotesNothing n c.in_ok-then.then) c.next.ensures c.in_ok-then.ensures in
    record { rows = then.rows; next = then.next_is; records = then.records; keys = then.made }

pub returns-in-Ok-clause-written : goal.returns-in-Ok-clause-written
returns-in-Ok-clause-written g c = record { exact = c.in-Ok.ensures.counts.exact; least = c.in-Ok.ensures.counts.least; most = c.in-Ok.ensures.counts.most }

pub returns-in-Err-clause-written : goal.returns-in-Err-clause-written
returns-in-Err-clause-written g c = record { exact = tt; least = c.in-Err.ensures.counts.least; most = c.in-Err.ensures.counts.most }
