use Rattle.std.proofs.Common.{subst, sym}
use Rattle.cf_model.specs.State.{items_now}
use Rattle.cf_pair_run.proofs.Comparing.{compares_whole, whole}
use Rattle.cf_table.specs.Tables.{MeansAll}
use Rattle.cf_pair_run.proofs.comparisons.compare_whole.Goals as goal

pub returns-in-Ok : goal.returns-in-Ok
returns-in-Ok g c = λ a b s t p q.
    let u = whole g.D.Disk.state a c.args.first.now s c.requires.first p in
    let v = whole g.D.Disk.state b c.args.second.now t c.requires.second q in
    compares_whole c.args.first.now c.args.second.now s t c.in_ok-ours.ours.items c.in-Ok.theirs.items c.compare.result u v
    (c.in_ok-ours.ensures s (subst (λ x. MeansAll x.rows (items_now s)) (sym c.rows.ensures) u.rows)) (c.in-Ok.ensures t (subst (λ x. MeansAll x.rows (items_now t)) (sym c.rows-2.ensures) v.rows)) c.compare.ensures
