use Rattle.cf_engine_queue.specs.Books.{action_of, entry_value}
use Rattle.cf_engine_uploads.proofs.Drafted.{new_directory, of_action, put_entry_is}
use Rattle.std.proofs.Common.{ap}
use Rattle.cf_engine_uploads.proofs.entries.entry_by.Goals as goal

pub returns-in-Put : goal.returns-in-Put
returns-in-Put c = of_action c.args.row.now c.args.token c.args.target c.args.parent (action_of c.args.action) _ (entry_value c.in_ok-entry.entry) (entry_value c.put_entry.result) (ap action_of c.in-Put.is) (put_entry_is c.args.row.now c.args.token c.args.target c.args.parent (entry_value c.in_ok-entry.entry) (entry_value c.put_entry.result) c.put_entry.ensures) c.in_ok-entry.ensures

pub returns-in-MakeDir : goal.returns-in-MakeDir
returns-in-MakeDir c = of_action c.args.row.now c.args.token c.args.target c.args.parent (action_of c.args.action) _ (entry_value c.in_ok-entry.entry) (entry_value c.without_rid.result) (ap action_of c.in-MakeDir.is) (new_directory c.args.row.now c.args.token c.args.target c.args.parent (entry_value c.in_ok-entry.entry) (entry_value c.without_rid.result) c.without_rid.ensures) c.in_ok-entry.ensures

pub returns-in-Move : goal.returns-in-Move
returns-in-Move c = of_action c.args.row.now c.args.token c.args.target c.args.parent (action_of c.args.action) _ (entry_value c.in_ok-entry.entry) (entry_value c.in_ok-entry.entry) (ap action_of c.in-Move.is) (λ h. h) c.in_ok-entry.ensures

pub returns-in-Remove : goal.returns-in-Remove
returns-in-Remove c = of_action c.args.row.now c.args.token c.args.target c.args.parent (action_of c.args.action) _ (entry_value c.in_ok-entry.entry) (entry_value c.in_ok-entry.entry) (ap action_of c.in-Remove.is) (λ h. h) c.in_ok-entry.ensures
