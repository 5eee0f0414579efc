use Rattle.std.proofs.Common.{◌≡◌, ◌++◌, drop}
use Rattle.std.specs.List.{flat_map}
use Rattle.cf_scrub.specs.Texts.{line_of}
use Rattle.cf_scrub.proofs.judgements.push_lines.Given as goal

abbrev pub invariant-loop-damage : goal.invariant-loop-damage
invariant-loop-damage l = l.out.items ++ flat_map line_of (drop l.damage-index l.damages) ≡ l.fn.out.items ++ flat_map line_of l.damages
