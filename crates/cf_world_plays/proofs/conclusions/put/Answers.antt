use Rattle.std.proofs.Common.{◌≡◌, subst}
use Rattle.std.specs.Prelude.{IfOk}
use Rattle.cf_gen.specs.Summaries.{summary_of}
use Rattle.cf_gen.specs.declared.summaries.Counts.{Counts}
use Rattle.cf_world_plays.proofs.Concluded.{ends_image, ends_text, puts_image, puts_state, puts_summary}
use Rattle.cf_world_plays.proofs.conclusions.put.Goals as goal

pub returns-in-State-clause-writes : goal.returns-in-State-clause-writes
returns-in-State-clause-writes g c = λ disk first trace counted h. rw c.in-State.is (
    puts_state g.D.Disk.state g.A.Actor.acts disk c.state-disk.result.0 first c.state-disk.result.1 trace (g.K.Sink.held c.args.sink.now) (g.K.Sink.held c.put_text-status.new.sink) c.state-disk.result.2 c.put_text-status.result
    c.put_text-status.ensures.puts (c.state-disk.ensures disk first trace h))

pub returns-in-Image-clause-writes : goal.returns-in-Image-clause-writes
returns-in-Image-clause-writes g c = λ disk first trace counted h. rw c.in-Image.is (
    puts_image g.D.Disk.state g.A.Actor.acts disk c.put_image-status.new.disk first c.finish-disk.result.1 trace (g.K.Sink.held c.args.sink.now) (g.K.Sink.held c.put_image-status.new.sink) c.finish-disk.result.0 c.put_image-status.result
    c.put_image-status.ensures.writes (c.finish-disk.ensures disk first trace h))

pub returns-in-Summary-clause-writes : goal.returns-in-Summary-clause-writes
returns-in-Summary-clause-writes g c = λ disk first trace counted h. rw c.in-Summary.is (
    puts_summary g.D.Disk.state g.A.Actor.acts disk c.blocks-disk.result.0 first c.blocks-disk.result.1 trace (g.K.Sink.held c.args.sink.now) (g.K.Sink.held c.put_text-status-in-Summary.new.sink) c.text.result c.blocks-disk.result.2 c.put_text-status-in-Summary.result
    c.put_text-status-in-Summary.ensures.puts (subst (λ (n : Counts). IfOk c.text.result (λ b. b ≡ summary_of n c.blocks-disk.result.2)) counted c.text.ensures) (c.blocks-disk.ensures disk first trace h))

pub returns-in-State-clause-only : goal.returns-in-State-clause-only
returns-in-State-clause-only g c = ends_text c.args.ending c.state-disk.result.2 (g.K.Sink.held c.args.sink.now) (g.K.Sink.held c.put_text-status.new.sink) c.put_text-status.result c.put_text-status.ensures.puts

pub returns-in-Image-clause-only : goal.returns-in-Image-clause-only
returns-in-Image-clause-only g c = rw c.in-Image.is (
    ends_image g.D.Disk.state c.finish-disk.result.0 c.put_image-status.new.disk (g.K.Sink.held c.args.sink.now) (g.K.Sink.held c.put_image-status.new.sink) c.put_image-status.result c.put_image-status.ensures.writes)

pub returns-in-Summary-clause-only : goal.returns-in-Summary-clause-only
returns-in-Summary-clause-only g c = ends_text c.args.ending c.text.result (g.K.Sink.held c.args.sink.now) (g.K.Sink.held c.put_text-status-in-Summary.new.sink) c.put_text-status-in-Summary.result c.put_text-status-in-Summary.ensures.puts
