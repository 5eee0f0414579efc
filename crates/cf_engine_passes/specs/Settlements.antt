-- One upload that is asked for, which mirrors the code: no definition to believe.
use Rattle.cf_engine_queue.specs.Books.{entry_value}
use Rattle.cf_engine_queue.specs.declared.uploads.QueueEntry.{QueueEntry}
use Rattle.cf_model.specs.Arrows.{Arrow}
use Rattle.cf_model.specs.Passes.{settle_entry}
use Rattle.cf_model.specs.State.{State}

abbrev pub settle_one : QueueEntry → Arrow State (Unit {0})
settle_one e = settle_entry (entry_value e)
