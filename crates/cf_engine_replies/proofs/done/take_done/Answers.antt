use Rattle.std.proofs.Common.{ap}
use Rattle.cf_engine_queue.specs.Books.{action_of, entry_value}
use Rattle.cf_model.specs.Books.{MakeDir, MoveItem, PutFile, RemoveItem}
use Rattle.cf_model.specs.PushReplies.{done_by}
use Rattle.cf_engine_replies.proofs.Parts.{by_known}
use Rattle.cf_engine_replies.proofs.done.take_done.Goals as goal

pub returns-in-Put : goal.returns-in-Put
returns-in-Put g c = by_known _ (λ a. done_by a (entry_value c.args.entry.now) c.args.rid c.args.version) _ _ (action_of c.args.entry.now.action) PutFile _ (ap action_of c.in-Put.is) c.done_upload.ensures

pub returns-in-MakeDir : goal.returns-in-MakeDir
returns-in-MakeDir g c = by_known _ (λ a. done_by a (entry_value c.args.entry.now) c.args.rid c.args.version) _ _ (action_of c.args.entry.now.action) MakeDir _ (ap action_of c.in-MakeDir.is) c.done_upload-in-MakeDir.ensures

pub returns-in-Move : goal.returns-in-Move
returns-in-Move g c = by_known _ (λ a. done_by a (entry_value c.args.entry.now) c.args.rid c.args.version) _ _ (action_of c.args.entry.now.action) MoveItem _ (ap action_of c.in-Move.is) c.done_move.ensures

pub returns-in-Remove : goal.returns-in-Remove
returns-in-Remove g c = by_known _ (λ a. done_by a (entry_value c.args.entry.now) c.args.rid c.args.version) _ _ (action_of c.args.entry.now.action) RemoveItem _ (ap action_of c.in-Remove.is) c.done_removal.ensures
