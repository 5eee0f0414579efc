use Rattle.std.proofs.Common.{length, ap, ◌∙◌, inr}
use Rattle.cf_model.specs.Numbers.{usn_after}
use Rattle.cf_volume_changes.proofs.Judged.{nothing_needed}
use Rattle.cf_volume_changes.proofs.Resting.{now_is}
use Rattle.cf_volume_changes.specs.Steady.{known_of}
use Rattle.cf_volume.proofs.make.new_items.put_new.Goals as goal

pub returns-in-Some-clause-put : goal.returns-in-Some-clause-put
returns-in-Some-clause-put g c = λ v change i n at made. inr (c.in-Some.ensures.why (g.G.Ground.state c.args.ground.now).seen v change i (now_is (g.G.Ground.state c.args.ground.now) (known_of c.args.parts.now) v at.now) made.arrives (ap length made.puts))

pub returns-clause-put : goal.returns-clause-put
returns-clause-put g c = λ v change i n at made. (
  c.requires.number ∙ (λ j. usn_after (at.now.epoch j) (at.now.place j)),
  c.in_default.ensures.why (g.G.Ground.state c.args.ground.now).seen v change i (now_is (g.G.Ground.state c.args.ground.now) (known_of c.args.parts.now) v at.now) made.arrives (ap length made.puts),
  c.in_ok-put_made.ensures.at v change i n at made (c.in_default.ensures.fits (g.G.Ground.state c.args.ground.now).seen v change i (now_is (g.G.Ground.state c.args.ground.now) (known_of c.args.parts.now) v at.now) made.arrives),
)

pub returns-clause-aimed : goal.returns-clause-aimed
returns-clause-aimed g c = λ v change puts wanted. nothing_needed change v (ap length puts)
