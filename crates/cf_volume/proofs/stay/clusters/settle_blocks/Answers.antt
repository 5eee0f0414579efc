use Rattle.cf_volume.proofs.stay.clusters.settle_blocks.Goals as goal

pub returns-in_err-stage_all-clause-crash : goal.returns-in_err-stage_all-clause-crash
returns-in_err-stage_all-clause-crash g c = c.stage_all.ensures.crash

pub returns-in_err-stage_all-clause-ran : goal.returns-in_err-stage_all-clause-ran
returns-in_err-stage_all-clause-ran g c = c.stage_all.ensures.ran

pub returns-in_err-drop_gone-clause-crash : goal.returns-in_err-drop_gone-clause-crash
returns-in_err-drop_gone-clause-crash g c = c.stage_all.ensures.crash

pub returns-in_err-drop_gone-clause-ran : goal.returns-in_err-drop_gone-clause-ran
returns-in_err-drop_gone-clause-ran g c = c.stage_all.ensures.ran

pub returns-clause-crash : goal.returns-clause-crash
returns-clause-crash g c = c.stage_all.ensures.crash

pub returns-clause-ran : goal.returns-clause-ran
returns-clause-ran g c = c.stage_all.ensures.ran

pub returns-clause-settled : goal.returns-clause-settled
returns-clause-settled g c = record { mid = c.stage_all.new.held; between = c.stage_all.new.extents; all = c.in_ok-stage_all.ensures.staged; drops = c.in_ok-drop_gone.ensures }

pub drop_gone-requires : goal.drop_gone-requires
drop_gone-requires g c = c.in_ok-stage_all.ensures.staged.inside
