use Rattle.cf_world_plays.proofs.reports.report.Goals as goal

pub returns-in-Ok-clause-writes : goal.returns-in-Ok-clause-writes
returns-in-Ok-clause-writes g c = c.done.ensures.writes c.args.disk c.args.actor c.in-Ok.ensures.ok
