use Rattle.std.proofs.Common.{◌≡◌, ◌<◌, ◌∙◌, ◌-◌, ℕ, ap, arith, get_or, length, sym}
use Rattle.cf_collections.proofs.Splits.{last_is}
use Rattle.cf_collections.proofs.chunks.Chunk.ends_before.Goals as goal

pub returns : goal.returns
returns g c =
    let long : c.len-len.result ≡ length c.self.inside.items.items = omega (arith, c.len-len.ensures, c.self.inside.items.ok) in
    let some : 0 < length c.self.inside.items.items = omega (arith, long, c.if-len-eq0.false) in
    rw (← c.self.view_is) (c.is_behind.ensures ∙ sym (last_is (g.P.Probe.is_behind c.args.probe.now) c.self.inside.items.items c.index.result.now some
    (c.index.ensures ∙ ap (λ (n : ℕ). get_or c.self.inside.items.items (n - 1) c.index.result.now) long)))
