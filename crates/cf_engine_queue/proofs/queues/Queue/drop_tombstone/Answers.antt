use Rattle.std.proofs.Common.{◌∙◌, ap}
use Rattle.cf_model.specs.Books.{Book, tombstone_of}
use Rattle.cf_engine_queue.proofs.Mapped.{buried_is}
use Rattle.cf_engine_queue.proofs.queues.Queue.drop_tombstone.Goals as goal

pub returns-clause-found : goal.returns-clause-found
returns-clause-found c =
    buried_is c.self.inside.entries.items c.self.inside.tombstones.items c.args.number c.take_ranked.result c.take_ranked.ensures.found ∙ ap (λ (b : Book). tombstone_of b c.args.number) c.self.view_is
