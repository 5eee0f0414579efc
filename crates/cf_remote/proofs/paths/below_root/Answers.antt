use Rattle.std.proofs.Common.{sym, ap, ◌∙◌}
use Rattle.cf_model.specs.LookUp.{names_of}
use Rattle.cf_model.specs.Words.{is_empty}
use Rattle.cf_remote.proofs.PeerWalks.{root_passed, root_refused}
use Rattle.cf_remote.proofs.paths.below_root.Goals as goal

pub returns-then-is_empty : goal.returns-then-is_empty
returns-then-is_empty g c f next s st =
    root_refused f f (names_of c.args.path.now) next s (g.R.Remote.told c.args.remote.now) (ap is_empty (sym c.of.ensures) ∙ sym c.is_empty.ensures ∙ c.if-is_empty.true) st

pub returns : goal.returns
returns g c f next s st =
    root_passed f f (names_of c.args.path.now) next s (g.R.Remote.told c.args.remote.now) c.look_up.result (g.R.Remote.told c.look_up.new.remote)
    (ap is_empty (sym c.of.ensures) ∙ sym c.is_empty.ensures ∙ c.if-is_empty.false) (c.look_up.ensures f next s st)
