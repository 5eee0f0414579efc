use Rattle.cf_clusters.specs.Roles.{is_free}
use Rattle.cf_clusters.proofs.Counts.{free_staged, none_pass}
use Rattle.cf_clusters.proofs.laws.stages_find_room.Goals as goal

pub returns-clause-one : goal.returns-clause-one
returns-clause-one c = free_staged

pub returns-clause-none : goal.returns-clause-none
returns-clause-none c = none_pass is_free
