use Rattle.cf_pair_run.proofs.worlds.new_device.Goals as goal

pub returns-in-Ok-clause-ok : goal.returns-in-Ok-clause-ok
returns-in-Ok-clause-ok g c = λ held past told. c.in-Ok.ensures.ok held (c.new.ensures.begins held _ tt tt) past told
