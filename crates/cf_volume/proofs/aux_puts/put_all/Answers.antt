use Rattle.std.proofs.Common.{◌∙◌, sym}
use Rattle.cf_volume_changes.proofs.RecordRoom.{all_put}
use Rattle.cf_volume_changes.specs.Steady.{known_of}
use Rattle.cf_volume_changes.proofs.Resting.{now_is}
use Rattle.cf_volume.proofs.aux_puts.put_all.Goals as goal

pub returns-then-branch-clause-why : goal.returns-then-branch-clause-why
returns-then-branch-clause-why g c = λ v b at has. sym (c.in_ok-is_full_now.ensures (g.G.Ground.state c.args.ground.now).seen v b (now_is (g.G.Ground.state c.args.ground.now) (known_of c.args.parts.now) v at.now) has) ∙ c.if-branch.true

pub returns-clause-ok : goal.returns-clause-ok
returns-clause-ok g c = λ v b at has.
    all_put (g.G.Ground.state c.args.ground.now) (known_of c.args.parts.now) v b c.args.list.now at has (sym (c.in_ok-is_full_now.ensures (g.G.Ground.state c.args.ground.now).seen v b (now_is (g.G.Ground.state c.args.ground.now) (known_of c.args.parts.now) v at.now) has) ∙ c.if-branch.false) c.put_each.new.records c.put_each.new.then c.put_each.new.made c.in_ok-put_each.ensures.records c.in_ok-put_each.ensures.known

pub returns-clause-why : goal.returns-clause-why
returns-clause-why g c = λ v b at has. sym (c.in_ok-is_full_now.ensures (g.G.Ground.state c.args.ground.now).seen v b (now_is (g.G.Ground.state c.args.ground.now) (known_of c.args.parts.now) v at.now) has) ∙ c.if-branch.false

pub is_full_now-requires-clause-later : goal.is_full_now-requires-clause-later
is_full_now-requires-clause-later g c = c.requires.steady.later
