use Rattle.cf_engine_queue.specs.Books.{action_of}
use Rattle.std.proofs.Common.{◌∙◌}
use Rattle.cf_engine_uploads.proofs.entries.placed.Goals as goal

pub returns : goal.returns
returns c = λ s i r. λ j. record { token = r.token_is j; item = r.means.id j; action = action_of c.args.action; number = r.means.number j; rid = r.target_is j; parent = r.parent_is j; name = (c.in_ok-name.ensures ∙ r.means.name) j }
