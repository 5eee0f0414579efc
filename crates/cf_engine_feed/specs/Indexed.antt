-- A whole state with an index of its items beside it.
use Rattle.cf_engine_feed.specs.Indexes.{Indexes}
use Rattle.cf_engine_feed.specs.declared.indexes.Targets.{Targets}
use Rattle.cf_engine_steps.specs.Answering.{Whole}

-- The index is that of the state, as long as nothing failed.
abbrev pub indexed : {X : Type 0} → Whole X → Whole (X × Targets)
indexed W = record {
  means = λ x s. W.means x.0 s × Indexes x.1 s;
  stopped = λ x y t. W.stopped x.0 y.0 t;
  durable = λ x s. W.durable x.0 s;
  moved = λ x y s t. W.moved x.0 y.0 s t;
  counted = λ x y s t. W.counted x.0 y.0 s t;
  endures = λ x s h. W.endures x.0 s h.0;
  stays = λ x s h. W.stays x.0 s h.0;
  goes_on = λ x y z s t u a b. W.goes_on x.0 y.0 z.0 s t u a b;
  stops_on = λ x y z s t u a b. W.stops_on x.0 y.0 z.0 s t u a b;
  counts_none = λ x s. W.counts_none x.0 s;
  counts_on = λ x y z s t u a b. W.counts_on x.0 y.0 z.0 s t u a b;
}
