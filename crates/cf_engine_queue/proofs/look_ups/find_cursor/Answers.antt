use Rattle.std.proofs.Common.{ap, refl}
use Rattle.std.specs.Prelude.{codes, option_copied}
use Rattle.cf_engine_queue.proofs.Found.{cursor_none, cursor_some}
use Rattle.cf_engine_queue.proofs.look_ups.find_cursor.Goals as goal

pub returns-in_ok-clock-in-Some : goal.returns-in_ok-clock-in-Some
returns-in_ok-clock-in-Some c = λ b k same.
    cursor_some b k c.args.records.now same (codes "c") (option_copied c.get.result) c.get.ensures c.in-Some.record.now c.in_ok-clock-in-Some.clock refl (ap option_copied c.in-Some.is) c.in_ok-clock-in-Some.ensures

pub returns-in-None : goal.returns-in-None
returns-in-None c = λ b k same. cursor_none b k c.args.records.now same (codes "c") (option_copied c.get.result) c.get.ensures refl (ap option_copied c.in-None.is)
