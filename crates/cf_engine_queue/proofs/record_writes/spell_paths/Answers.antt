use Rattle.std.proofs.Common.{◌+◌, ◌≡◌, List, ◌∷◌, ap, drop, sym, ◌∙◌}
use Rattle.std.proofs.Math.ListN.{drop_of_length-le}
use Rattle.std.proofs.lemmas.List.{drop_more}
use Rattle.cf_base.specs.declared.items.SeenPath.{SeenPath}
use Rattle.cf_engine_queue.proofs.SeenRecords.{seen_all, seen_more, seen_none}
use Rattle.cf_engine_queue.proofs.record_writes.spell_paths.Goals as goal

pub loop-path-init : goal.loop-path-init
loop-path-init c = seen_none c.args.paths.now c.new-records.result c.new-records.ensures

pub loop-path-preserved : goal.loop-path-preserved
loop-path-preserved c =
    let rest : List SeenPath = drop (c.loop-path.path-index + 1) c.args.paths.now in
    let is : drop c.loop-path.path-index c.args.paths.now ≡ c.path-item.result ∷ rest
    = drop_more c.args.paths.now c.loop-path.path-index c.path-item.result c.loop-path-test.true ∙ ap (λ (p : SeenPath). p ∷ rest) (sym c.path-item.is) in
    seen_more (drop c.loop-path.path-index c.args.paths.now) rest c.args.paths.now c.loop-path.records c.push.new.self c.in_ok-spell_seen.field-0 c.path-item.result is c.in_ok-spell_seen.ensures c.in_ok-push.ensures.ok c.loop-path.invariant

pub returns : goal.returns
returns c = seen_all (drop c.loop-path.path-index c.args.paths.now) c.args.paths.now c.loop-path.records (drop_of_length-le c.args.paths.now c.loop-path-test.false) c.loop-path.invariant
