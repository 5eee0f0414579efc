use Rattle.std.proofs.Common.{rules, refl, ◌∙◌}
use Rattle.clap.specs.Matches.{found_of}
use Rattle.cf_cli.proofs.TextMet.{other_text, text_of, without_text}
use Rattle.cf_cli.proofs.commands.numbered.Goals as goal

pub returns-in_default-clause-usage : goal.returns-in_default-clause-usage
returns-in_default-clause-usage c = λ _. without_text (found_of c.args.found.now) c.get_str.result c.get_str.ensures c.in_default.is

pub returns-in-Some-number-clause-ok : goal.returns-in-Some-number-clause-ok
returns-in-Some-number-clause-ok c = (c.in-Some-number.n, refl, (c.in-Some.text.now, text_of (found_of c.args.found.now) c.get_str.result c.get_str.ensures ∙ (rw c.in-Some.is refl), search rules))

pub returns-in-None-clause-usage : goal.returns-in-None-clause-usage
returns-in-None-clause-usage c = λ _. other_text (found_of c.args.found.now) c.get_str.result c.in-Some.text c.get_str.ensures c.in-Some.is (search rules)
