use Rattle.cf_volume_changes.proofs.RecordRoom.{taken_at, taken_short}
use Rattle.cf_volume_changes.specs.Steady.{known_of}
use Rattle.cf_volume.proofs.aux_puts.take_record.Goals as goal

pub returns-clause-ok : goal.returns-clause-ok
returns-clause-ok g c = λ v b at has.
    taken_at (g.G.Ground.state c.args.ground.now) (known_of c.args.parts.now) v b c.args.key.now at has c.remove.new.self c.note_record.new.before c.note_record.new.made c.remove.ensures c.in_ok-note_record.ensures

pub returns-clause-why : goal.returns-clause-why
returns-clause-why g c = λ v b at has. taken_short (g.G.Ground.state c.args.ground.now) (known_of c.args.parts.now) v b c.args.key.now at has
