use Rattle.cf_cli.proofs.OneCommand.{one_command}
use Rattle.cf_cli.proofs.laws.one_command.Goals as goal

pub returns : goal.returns
returns c = one_command
