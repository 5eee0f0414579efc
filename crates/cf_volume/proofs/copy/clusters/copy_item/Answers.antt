use Rattle.std.proofs.Common.{ℕ, List, sym, subst}
use Rattle.cf_volume.specs.Copies.{CopiesAll}
use Rattle.cf_volume.proofs.WrittenBytes.{source_ran}
use Rattle.cf_volume.proofs.copy.clusters.copy_item.Goals as goal

pub returns-clause-copied : goal.returns-clause-copied
returns-clause-copied g c = record {
  source = c.in-Some.source.now;
  found = sym c.in-Some.ensures;
  extents = c.copy_all-copied.new.extents;
  table = c.in_ok-put_row.ensures.ok;
  room = c.in_ok-put_row.ensures.room;
  all = subst (λ (l : List (ℕ × ℕ)). CopiesAll l l (g.G.Ground.state c.args.ground.now) (g.G.Ground.state c.copy_all-copied.new.ground) c.args.held.now c.copy_all-copied.new.held c.copy_all-copied.new.extents) c.pairs.ensures.value c.in-Ok.ensures.copied;
}

pub returns-clause-ran : goal.returns-clause-ran
returns-clause-ran g c = λ r found.
    source_ran c.args.rows.now.rows c.args.from c.in-Some.source.now r c.pairs.result.now (g.G.Ground.state c.args.ground.now) (g.G.Ground.state c.copy_all-copied.new.ground) (sym c.in-Some.ensures) found c.pairs.ensures.value c.copy_all-copied.ensures.ran
