use Rattle.cf_pair_run.proofs.Endings.{played_written}
use Rattle.cf_pair_run.proofs.Playable.{all_playable}
use Rattle.cf_pair_run.proofs.WorldRuns.{gives}
use Rattle.cf_pair_run.proofs.reports.done.Goals as goal

pub play-world-requires : goal.play-world-requires
play-world-requires g c = all_playable c.args.text.now c.args.events.now c.requires.script

pub returns-clause-writes : goal.returns-clause-writes
returns-clause-writes g c = λ first second remote h.
    let f = c.finish-first in
    rw c.status_of.ensures (
    played_written g.D.Disk.state g.R.Remote.told first second remote c.args.text.now (g.K.Sink.held c.args.sink.now) (g.K.Sink.held c.play-world.new.sink) f.result.0 f.result.1 f.result.2 c.args.events.now c.play-world.result.0 c.play-world.result.1
    c.requires.script c.requires.short (c.play-world.ensures.ok first second remote h) (c.play-world.ensures.err first second remote h)
    (λ trace run. gives g.D.Disk.state g.R.Remote.told first second remote c.play-world.result.0 f.result.0 f.result.1 f.result.2 trace f.ensures.first_lasts f.ensures.second_lasts f.ensures.first_powers f.ensures.second_powers f.ensures.first f.ensures.second f.ensures.remote run))
