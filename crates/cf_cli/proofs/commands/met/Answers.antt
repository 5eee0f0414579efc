use Rattle.std.proofs.Common.{rules, sym, subst}
use Rattle.std.specs.Result.{IfOk}
use Rattle.clap.specs.Matches.{found_of}
use Rattle.clap.specs.Simple.{subcommand_rows_of}
use Rattle.clap.specs.Walk.{rows_of}
use Rattle.cf_cli.specs.Accounts.{IsMet}
use Rattle.cf_cli.proofs.TextMet.{both_parts}
use Rattle.cf_cli.proofs.commands.met.Goals as goal

pub returns-in-Some-clause-ok : goal.returns-in-Some-clause-ok
returns-in-Some-clause-ok c = subst (λ m. IfOk c.named.result (IsMet m)) (sym (both_parts (subcommand_rows_of c.args.matches.now) c.in-Some.name.now (rows_of (found_of c.in-Some.found.now)) (search rules) (search rules))) c.named.ensures.ok

pub returns-in-Some-clause-usage : goal.returns-in-Some-clause-usage
returns-in-Some-clause-usage c = λ e d is. c.named.ensures.usage e d (subst (λ m. IsMet m d) (both_parts (subcommand_rows_of c.args.matches.now) c.in-Some.name.now (rows_of (found_of c.in-Some.found.now)) (search rules) (search rules)) is)
