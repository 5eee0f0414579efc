use Rattle.std.proofs.Common.{◌∙◌, List, ap, sym, subst, Err, Ok}
use Rattle.std.proofs.lemmas.Result.{err_from_is_err_and}
use Rattle.cf_base.specs.declared.answers.AuxRecord.{AuxRecord}
use Rattle.cf_base.specs.declared.codes.CallError.{CallError}
use Rattle.cf_collections.specs.Split.{behind, front}
use Rattle.cf_engine_queue.specs.Keys.{is_kind_below}
use Rattle.cf_engine_queue.specs.Records.{Loads, Reads, Says}
use Rattle.cf_engine_queue.specs.declared.records.Record.{Record}
use Rattle.cf_volume_image.specs.RecordLists.{stands_before}
use Rattle.cf_engine_queue.proofs.Loading.{heard_more, heard_none, heard_stops, heard_them, passes_first, stops_first}
use Rattle.cf_engine_queue.proofs.OneMeaning.{kept}
use Rattle.cf_engine_queue.proofs.queues.Queue.load.Goals as goal

pub loop-one-init : goal.loop-one-init
loop-one-init c = heard_none (front (is_kind_below c.args.end) (behind (stands_before c.args.from.now) c.args.records.now)) (front (is_kind_below c.args.end) c.from-items.result) c.new-queue.result (ap (λ (l : List AuxRecord). front (is_kind_below c.args.end) l) c.from-items.ensures.value) c.new-queue.ensures

pub returns-then-not-is_kind_below-clause-loaded : goal.returns-then-not-is_kind_below-clause-loaded
returns-then-not-is_kind_below-clause-loaded c =
    heard_them (front (is_kind_below c.args.end) (behind (stands_before c.args.from.now) c.args.records.now)) (front (is_kind_below c.args.end) c.loop-one.items) c.loop-one.queue c.loop-one.invariant
    (stops_first (is_kind_below c.args.end) c.loop-one.items c.next.new.self c.in-Some.one.now c.in-Some.ensures (sym c.is_kind_below.ensures ∙ c.if-not-is_kind_below.true))

pub returns-then-not-is_kind_below-clause-kept : goal.returns-then-not-is_kind_below-clause-kept
returns-then-not-is_kind_below-clause-kept c = λ b k e. kept b (front (is_kind_below c.args.end) (behind (stands_before c.args.from.now) c.args.records.now)) (Ok c.loop-one.queue) k e (returns-then-not-is_kind_below-clause-loaded c)

pub returns-in_err-read_record-clause-loaded : goal.returns-in_err-read_record-clause-loaded
returns-in_err-read_record-clause-loaded c =
    let q = err_from_is_err_and c.from_residual.result c.from_residual.ensures.1 in
    subst (Loads (front (is_kind_below c.args.end) (behind (stands_before c.args.from.now) c.args.records.now))) (sym q.1)
    (heard_stops (front (is_kind_below c.args.end) (behind (stands_before c.args.from.now) c.args.records.now)) (front (is_kind_below c.args.end) c.loop-one.items) (front (is_kind_below c.args.end) c.next.new.self) c.in-Some.one.now c.loop-one.queue q.0 c.loop-one.invariant
    (passes_first (is_kind_below c.args.end) c.loop-one.items c.next.new.self c.in-Some.one.now c.in-Some.ensures (sym c.is_kind_below.ensures ∙ c.if-not-is_kind_below.false))
    (subst (λ (e : CallError). Reads {X = Record} (Says c.in-Some.one.now) (Err e)) (sym q.2) c.in_err-read_record.ensures))

pub returns-in_err-read_record-clause-kept : goal.returns-in_err-read_record-clause-kept
returns-in_err-read_record-clause-kept c = λ b k e. kept b (front (is_kind_below c.args.end) (behind (stands_before c.args.from.now) c.args.records.now)) c.from_residual.result k e (returns-in_err-read_record-clause-loaded c)

pub loop-one-preserved : goal.loop-one-preserved
loop-one-preserved c =
    heard_more (front (is_kind_below c.args.end) (behind (stands_before c.args.from.now) c.args.records.now)) (front (is_kind_below c.args.end) c.loop-one.items) (front (is_kind_below c.args.end) c.next.new.self) c.in-Some.one.now c.in_ok-read_record.field-0 c.loop-one.queue c.hear.new.self c.loop-one.invariant
    (passes_first (is_kind_below c.args.end) c.loop-one.items c.next.new.self c.in-Some.one.now c.in-Some.ensures (sym c.is_kind_below.ensures ∙ c.if-not-is_kind_below.false))
    c.in_ok-read_record.ensures c.in_ok-hear.ensures

pub returns-clause-loaded : goal.returns-clause-loaded
returns-clause-loaded c = heard_them (front (is_kind_below c.args.end) (behind (stands_before c.args.from.now) c.args.records.now)) (front (is_kind_below c.args.end) c.loop-one.items) c.loop-one.queue c.loop-one.invariant (ap (λ (l : List AuxRecord). front (is_kind_below c.args.end) l) c.in_default.ensures)

pub returns-clause-kept : goal.returns-clause-kept
returns-clause-kept c = λ b k e. kept b (front (is_kind_below c.args.end) (behind (stands_before c.args.from.now) c.args.records.now)) (Ok c.loop-one.queue) k e (returns-clause-loaded c)
