use Rattle.cf_engine_queue.specs.Books.{action_of, entry_value}
use Rattle.cf_model.specs.Pushes.{request_by}
use Rattle.std.proofs.Common.{sym}
use Rattle.cf_engine_uploads.proofs.requests.spell.Goals as goal

pub returns-in-Put : goal.returns-in-Put
returns-in-Put c = λ j. request_by (action_of (sym c.in-Put.is j)) (record (entry_value c.args.entry.now) { name = c.in_ok-name.ensures j }) c.args.expect c.args.bytes

pub returns-in-MakeDir : goal.returns-in-MakeDir
returns-in-MakeDir c = λ j. request_by (action_of (sym c.in-MakeDir.is j)) (record (entry_value c.args.entry.now) { name = c.in_ok-name.ensures j }) c.args.expect c.args.bytes

pub returns-in-Move : goal.returns-in-Move
returns-in-Move c = λ j. request_by (action_of (sym c.in-Move.is j)) (record (entry_value c.args.entry.now) { name = c.in_ok-name.ensures j }) c.args.expect c.args.bytes

pub returns-in-Remove : goal.returns-in-Remove
returns-in-Remove c = λ j. request_by (action_of (sym c.in-Remove.is j)) (record (entry_value c.args.entry.now) { name = c.in_ok-name.ensures j }) c.args.expect c.args.bytes
