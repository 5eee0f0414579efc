use Rattle.cf_engine_steps.proofs.targets.target_of.Goals as goal

pub returns-in-Some : goal.returns-in-Some
returns-in-Some c = record { is = c.in-Some.ensures }
