use Rattle.std.proofs.Common.{◌∙◌, ap}
use Rattle.cf_model.specs.Books.{Book, entry_of}
use Rattle.cf_engine_queue.proofs.Mapped.{live_is}
use Rattle.cf_engine_queue.proofs.queues.Queue.end.Goals as goal

pub returns-clause-found : goal.returns-clause-found
returns-clause-found c =
    live_is c.self.inside.entries.items c.self.inside.tombstones.items c.args.token c.take_ranked.result c.take_ranked.ensures.found ∙ ap (λ (b : Book). entry_of b c.args.token) c.self.view_is
