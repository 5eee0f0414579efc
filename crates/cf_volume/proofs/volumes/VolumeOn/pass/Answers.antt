use Rattle.std.proofs.Common.{◌≡◌, ◌+◌, ℕ, min, sym, subst, arith}
use Rattle.cf_model.specs.Books.{with_ticks}
use Rattle.cf_volume_points.proofs.BookChanges.{passed_at}
use Rattle.cf_volume_points.specs.At.{At}
use Rattle.cf_volume.proofs.Views.{seen_at}
use Rattle.cf_volume_changes.specs.Steady.{known_of}
use Rattle.cf_volume.proofs.volumes.VolumeOn.pass.Goals as goal

pub returns-clause-ok : goal.returns-clause-ok
returns-clause-ok g c = λ v at.
    let sum : c.saturating_add-self-inside.result ≡ min 18446744073709551615 (c.self.inside.parts.contents.clock + c.args.ticks) = omega (arith, c.saturating_add-self-inside.ensures) in
    subst (λ (n : ℕ). At (g.G.Ground.state c.self.inside.ground) (record (known_of c.self.inside.parts) { clock = n }) (record v { book = with_ticks c.args.ticks v.book })) (sym sum)
    (passed_at (g.G.Ground.state c.self.inside.ground) (known_of c.self.inside.parts) v c.args.ticks (seen_at g.G.Ground.state v (sym c.self.view_is) at))
