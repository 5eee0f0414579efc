use Rattle.std.proofs.Common.{refl}
use Rattle.cf_world.proofs.runs.commanded.Goals as goal

pub returns-in-Replay-clause-does : goal.returns-in-Replay-clause-does
returns-in-Replay-clause-does g c = rw c.in-Replay.is c.sourced.ensures.text

pub returns-in-Filter-clause-does : goal.returns-in-Filter-clause-does
returns-in-Filter-clause-does g c = let t = c.sourced-in-Filter.ensures.text in rw c.in-Filter.is (t.0, t.1, t.2, c.sourced-in-Filter.ensures.filter refl)

pub returns-in-State-clause-does : goal.returns-in-State-clause-does
returns-in-State-clause-does g c = rw c.in-State.is c.left.ensures.text

pub returns-in-Image-clause-does : goal.returns-in-Image-clause-does
returns-in-Image-clause-does g c = rw c.in-Image.is c.left-in-Image.ensures.text

pub returns-in-Gen-clause-does : goal.returns-in-Gen-clause-does
returns-in-Gen-clause-does g c = rw c.in-Gen.is (refl, c.made.ensures.text (g.S.Source.faults c.args.source.now))

pub returns-in-Migrate-clause-does : goal.returns-in-Migrate-clause-does
returns-in-Migrate-clause-does g c = let b = c.migrated.ensures.bytes in rw c.in-Migrate.is (b.0, b.1, b.2, c.migrated.ensures.remote)

pub returns-in-Scrub-clause-does : goal.returns-in-Scrub-clause-does
returns-in-Scrub-clause-does g c = let b = c.judge-status.ensures.bytes in rw c.in-Scrub.is (b.0, b.1, b.2, refl, refl)

pub returns-in-Check-clause-does : goal.returns-in-Check-clause-does
returns-in-Check-clause-does g c = let t = c.judged.ensures.text in rw c.in-Check.is (t.0, t.1, t.2, c.judged.ensures.disk, c.judged.ensures.remote)
