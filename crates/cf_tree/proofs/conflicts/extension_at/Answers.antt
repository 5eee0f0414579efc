use Rattle.std.proofs.Common.{arith}
use Rattle.cf_tree.proofs.Extensions.{extension, first_dot, long_extension, no_extension}
use Rattle.cf_tree.proofs.conflicts.extension_at.Goals as goal

pub returns-in-Some-clause-value : goal.returns-in-Some-clause-value
returns-in-Some-clause-value c = let e = c.in-Some.ensures in extension c.args.name.now c.in-Some.dot e.0 e.1 e.2 c.if-dot-gt0.true c.if-name-dot-le-MOST_EXTENSION_BYTES.true

pub returns-in_default-clause-value : goal.returns-in_default-clause-value
returns-in_default-clause-value c = let e = c.in-Some.ensures in long_extension c.args.name.now c.in-Some.dot e.0 e.1 e.2 (omega (arith, c.if-name-dot-le-MOST_EXTENSION_BYTES.false))

pub returns-in_default-2-clause-value : goal.returns-in_default-2-clause-value
returns-in_default-2-clause-value c = let e = c.in-Some.ensures in first_dot c.args.name.now c.in-Some.dot e.0 e.1 e.2 (omega (arith, c.if-dot-gt0.false))

pub returns-in_default-3-clause-value : goal.returns-in_default-3-clause-value
returns-in_default-3-clause-value c = no_extension c.args.name.now c.in_default.ensures
