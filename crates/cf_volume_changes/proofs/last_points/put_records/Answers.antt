use Rattle.std.proofs.Common.{◌∙◌, List, None, Some, ap, subst, sym}
use Rattle.cf_base.specs.declared.answers.AuxRecord.{AuxRecord}
use Rattle.cf_volume_changes.proofs.PutBack.{record_put}
use Rattle.cf_volume_image.specs.Contents.{record_at}
use Rattle.cf_volume_image.specs.RecordLists.{IsShort}
use Rattle.cf_volume_image.specs.Spelled.{AreRecordsFrom}
use Rattle.cf_volume_points.specs.Known.{or_now}
use Rattle.cf_volume_changes.proofs.last_points.put_records.Goals as goal

pub loop-aux-init : goal.loop-aux-init
loop-aux-init c = record {
  puts = λ key. ap (λ (l : List AuxRecord). or_now (record_at l key) (record_at c.args.records.now key)) c.iter-items.ensures.value;
  rise = (None, subst (λ (l : List AuxRecord). AreRecordsFrom None l) (sym c.iter-items.ensures.value) c.iter-items.ensures.rise);
}

pub put-requires : goal.put-requires
put-requires c =
    let l = c.loop-aux in
    let before = l.invariant.rise.0 in
    let rise = subst (λ (rs : List AuxRecord). AreRecordsFrom before rs) c.in-Some.ensures l.invariant.rise.1 in
    subst IsShort (sym c.in_ok-copy.ensures) (rise.0.0.0, rise.0.1)

pub loop-aux-preserved : goal.loop-aux-preserved
loop-aux-preserved c =
    let l = c.loop-aux in
    let before = l.invariant.rise.0 in
    record {
      puts = record_put l.items c.next.new.self c.args.noted.now c.in-Some.aux.now c.in_ok-copy.copy c.args.records.now l.records c.put.new.self before
          c.in-Some.ensures c.in_ok-copy.ensures c.in_ok-put.ensures.ok l.invariant.rise.1 l.invariant.puts;
      rise = (Some c.in-Some.aux.now.key, (subst (λ (rs : List AuxRecord). AreRecordsFrom before rs) c.in-Some.ensures l.invariant.rise.1).1);
    }

pub returns : goal.returns
returns c = λ key. ap (λ (l : List AuxRecord). or_now (record_at l key) (record_at c.loop-aux.records key)) (sym c.in_default.ensures) ∙ c.loop-aux.invariant.puts key
