use Rattle.std.proofs.Common.{◌∙◌, ap, List}
use Rattle.std.specs.Prelude.{find, option_copied}
use Rattle.cf_model.specs.Books.{Book, entry_of}
use Rattle.cf_engine_queue.specs.Books.{entry_rank}
use Rattle.cf_engine_queue.specs.Order.{is_same}
use Rattle.cf_engine_queue.specs.declared.uploads.QueueEntry.{QueueEntry}
use Rattle.cf_engine_queue.proofs.Mapped.{live_is}
use Rattle.cf_engine_queue.proofs.queues.Queue.live.Goals as goal

pub returns : goal.returns
returns c =
    live_is c.self.inside.entries.items c.self.inside.tombstones.items c.args.token (option_copied c.find_ranked.result)
    (c.find_ranked.ensures ∙ ap (λ (l : List QueueEntry). find (λ e. is_same (entry_rank e) (c.args.token.0.epoch, c.args.token.0.number)) l) c.deref.ensures.value)
    ∙ ap (λ (b : Book). entry_of b c.args.token) c.self.view_is
