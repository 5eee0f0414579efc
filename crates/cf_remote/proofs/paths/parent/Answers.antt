use Rattle.std.proofs.Common.{List, ℕ, sym, ◌∙◌}
use Rattle.cf_base.specs.declared.messages.Entry.{Entry}
use Rattle.cf_model.specs.LookUp.{names_of}
use Rattle.cf_remote.proofs.PeerWalks.{parent_bad, parent_good}
use Rattle.cf_remote.proofs.paths.parent.Goals as goal

pub returns-in-Some-clause-part : goal.returns-in-Some-clause-part
returns-in-Some-clause-part g c f next s st =
    parent_bad {A = Entry × List ℕ} f f (names_of c.args.path.now) c.in-Some.code next s (g.R.Remote.told c.args.remote.now) (sym c.bad_path.ensures ∙ c.in-Some.is) st

pub returns-clause-part : goal.returns-clause-part
returns-clause-part g c f next s st =
    parent_good f (λ x. f (x.0, x.1.now)) (names_of c.args.path.now) next s (g.R.Remote.told c.args.remote.now) c.walk_to_parent.result (g.R.Remote.told c.walk_to_parent.new.remote) (sym c.bad_path.ensures ∙ c.in_default.is) (c.walk_to_parent.ensures.part f next s st)
