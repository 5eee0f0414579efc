use Rattle.std.proofs.Common.{◌≡◌, length}
use denote.Text.{Utf8}
use denote.Shadow.{shadow}
use Rattle.cf_model.specs.LookUp.{names_of}
use Rattle.cf_tree.specs.Steps.{place_in, place_of_names}
use Rattle.cf_tree.proofs.finds.place.Given as goal

abbrev pub invariant-loop-next : goal.invariant-loop-next
invariant-loop-next l = record {
  utf8 : shadow (Utf8 l.name);
  same : place_in l.rows.rows l.at l.name l.names ≡ place_of_names l.rows.rows (names_of l.path);
}

abbrev pub decreases-loop-next : goal.decreases-loop-next
decreases-loop-next l = length l.names
