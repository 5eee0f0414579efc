use Rattle.std.proofs.Common.{◌≡◌, ◌-◌}
use Rattle.std.specs.Prelude.{map}
use Rattle.cf_scrub.specs.Ways.{climbs}
use Rattle.cf_table.specs.Spelling.{row_value}
use Rattle.cf_scrub.proofs.ways.climbs.Given as goal

abbrev pub invariant-loop : goal.invariant-loop
invariant-loop l = climbs (map row_value l.rows.rows) (32 - l.counter) l.at ≡ climbs (map row_value l.rows.rows) 32 l.fn.id
