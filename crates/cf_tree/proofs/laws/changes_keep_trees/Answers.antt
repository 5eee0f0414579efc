use Rattle.cf_model.specs.Effects.{made}
use Rattle.cf_model.specs.Items.{item_of, pin_of}
use Rattle.cf_tree.proofs.TreesGrow.{copy_grown, grown, root_tree, shrunk}
use Rattle.cf_tree.proofs.TreesMove.{may_move, moved_tree}
use Rattle.cf_tree.proofs.TreesStay.{effect_stays}
use Rattle.cf_tree.proofs.laws.changes_keep_trees.Goals as goal

pub returns : goal.returns
returns c = record {
  first = root_tree;
  make = λ items item parent name kind size identity n t may. grown items (made item parent name kind size identity (pin_of items parent) n) t may;
  copy = λ items item source parent name n t may. copy_grown items item parent name (pin_of items parent) n (item_of items source) t may;
  remove = λ items id n t other bare. shrunk items id bare other t;
  moves = λ items id parent name n i p t other there up above free. moved_tree items id parent name (pin_of items parent) n i p t there up above other (may_move items id parent name free);
  others = λ items c n t keeps. effect_stays items c n keeps t;
}
