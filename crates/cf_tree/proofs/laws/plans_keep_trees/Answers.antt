use Rattle.cf_tree.proofs.PlansKeep.{convert_keeps, create_keeps, keep_keeps, mark_keeps, pin_keeps, revert_keeps, unmark_keeps, update_keeps}
use Rattle.cf_tree.proofs.laws.plans_keep_trees.Goals as goal

pub returns : goal.returns
returns c = record {
  create = λ items p item next parent name what cs t last room e. create_keeps items p item next parent name what cs t last room e;
  convert = λ items i identity cs t e. convert_keeps items i identity cs t e;
  revert = λ items i in_use cs t e. revert_keeps items i in_use cs t e;
  update = λ items p i identity size in_use cs t e. update_keeps items p i identity size in_use cs t e;
  mark = λ items i n cs t e. mark_keeps items i n cs t e;
  unmark = λ items i cs t e. unmark_keeps items i cs t e;
  keep = λ items i on cs t e. keep_keeps items i on cs t e;
  pin = λ items i asked reach t. pin_keeps items i asked reach t;
}
