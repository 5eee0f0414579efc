use Rattle.std.proofs.Common.{sym, ◌∙◌}
use Rattle.cf_model.specs.LookUp.{names_of}
use Rattle.cf_remote.proofs.PeerWalks.{path_bad, path_good}
use Rattle.cf_remote.proofs.paths.look_up.Goals as goal

pub returns-in-Some : goal.returns-in-Some
returns-in-Some g c f next s st = path_bad f f (names_of c.args.path.now) c.in-Some.code next s (g.R.Remote.told c.args.remote.now) (sym c.bad_path.ensures ∙ c.in-Some.is) st

pub returns : goal.returns
returns g c f next s st =
    path_good f f (names_of c.args.path.now) next s (g.R.Remote.told c.args.remote.now) c.walk.result (g.R.Remote.told c.walk.new.remote) (sym c.bad_path.ensures ∙ c.in_default.is) (c.walk.ensures f next s st)
