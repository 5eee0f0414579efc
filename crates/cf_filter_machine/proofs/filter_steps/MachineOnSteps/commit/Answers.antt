use Rattle.cf_filter_machine.proofs.CommitSteps.{commit_stops, committed}
use Rattle.cf_filter_machine.proofs.DeskSteps.{seen_at, seen_cause, seen_desk, seen_leaves, seen_runs, seen_whole}
use Rattle.cf_filter_machine.proofs.Shown.{seen_same}
use Rattle.cf_volume_points.specs.At.{StandsEither}
use Rattle.cf_filter_machine.proofs.filter_steps.MachineOnSteps.commit.Goals as goal

pub returns-in_err-commit : goal.returns-in_err-commit
returns-in_err-commit g c =
    commit_stops g.G.Ground.state c.args.self.now c.commit.new.self.disk c.commit.new.self.known c.self.inside.desk (seen_desk c.self.view_is)
    (record { same_size = g.met.G.Ground.same_size c.commit.new.self.disk })
    (λ v at keep. seen_leaves g.G.Ground.state (g.G.Ground.state c.commit.new.self.disk) (StandsEither v) c.self.view_is (c.in_err-commit.ensures.crash v (seen_at g.G.Ground.state v c.self.view_is at) keep))
    (seen_runs g.G.Ground.state (g.G.Ground.state c.commit.new.self.disk) c.self.view_is c.in_err-commit.ensures.runs)
    c.in_err-commit.field-0.0 c.from_residual.result c.from_residual.ensures.1
    (seen_same c.commit.new.self.known c.self.view_is c.in_err-commit.ensures.contents)
    (λ v at keep whole. c.in_err-commit.ensures.why v (seen_at g.G.Ground.state v c.self.view_is at) keep (seen_whole c.self.view_is whole))
    (seen_cause g.G.Ground.state (g.G.Ground.state c.commit.new.self.disk) c.in_err-commit.field-0.0 c.self.view_is c.in_err-commit.ensures.cause)

pub returns : goal.returns
returns g c =
    committed g.G.Ground.state c.args.self.now c.commit.new.self.disk c.commit.new.self.known c.self.inside.desk (seen_desk c.self.view_is)
    (record { same_size = g.met.G.Ground.same_size c.commit.new.self.disk })
    (λ v at keep. seen_leaves g.G.Ground.state (g.G.Ground.state c.commit.new.self.disk) (StandsEither v) c.self.view_is (c.in_ok-commit.ensures.crash v (seen_at g.G.Ground.state v c.self.view_is at) keep))
    (seen_runs g.G.Ground.state (g.G.Ground.state c.commit.new.self.disk) c.self.view_is c.in_ok-commit.ensures.runs)
    c.in_ok-commit.ensures.usable (λ v at keep. (c.in_ok-commit.ensures.ok v (seen_at g.G.Ground.state v c.self.view_is at) keep).0)
