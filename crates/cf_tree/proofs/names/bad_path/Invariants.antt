use Rattle.std.proofs.Common.{◌≡◌, ◌+◌, ◌≤◌, length}
use Rattle.std.specs.Prelude.{◌&&◌, Bool}
use Rattle.std.specs.List.{list_all}
use Rattle.cf_model.specs.LookUp.{names_of}
use Rattle.cf_model.specs.Texts.{is_name}
use Rattle.cf_tree.proofs.names.bad_path.Given as goal

abbrev pub invariant-loop-name : goal.invariant-loop-name
invariant-loop-name l = record {
  count : l.count ≤ 32;
  many : l.count + length l.left ≡ length (names_of l.path);
  good : ◌≡◌ {A = Bool} (l.good && list_all is_name l.left) (list_all is_name (names_of l.path));
}

abbrev pub decreases-loop-name : goal.decreases-loop-name
decreases-loop-name l = length l.left
