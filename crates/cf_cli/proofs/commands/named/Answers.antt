use Rattle.std.proofs.Common.{rules}
use Rattle.clap.specs.Matches.{found_of}
use Rattle.clap.specs.Walk.{rows_of}
use Rattle.cf_cli.proofs.TextMet.{gen_alone, is_met, no_name}
use Rattle.cf_cli.proofs.commands.named.Goals as goal

pub returns-then-eq-clause-usage : goal.returns-then-eq-clause-usage
returns-then-eq-clause-usage c = λ e. gen_alone c.args.name.now (rows_of (found_of c.args.found.now)) (search rules) (c.numbered.ensures.usage e)

pub returns-in-Some-clause-ok : goal.returns-in-Some-clause-ok
returns-in-Some-clause-ok c = is_met c.args.name.now (rows_of (found_of c.args.found.now)) c.in-Some.command c.in-Some.ensures.0 c.in-Some.ensures.1

pub returns-in-None-clause-usage : goal.returns-in-None-clause-usage
returns-in-None-clause-usage c = λ _. no_name c.args.name.now (rows_of (found_of c.args.found.now)) (search rules) c.in-None.ensures
