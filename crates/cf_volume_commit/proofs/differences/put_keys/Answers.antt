use Rattle.std.proofs.Common.{◌||◌, ◌&&◌, ℕ, List, ap, arith, length, subst, sym}
use Rattle.std.specs.List.{list_any}
use Rattle.std.specs.Prelude.{All, is_some}
use Rattle.cf_base.specs.declared.answers.AuxRecord.{AuxRecord}
use Rattle.cf_volume_commit.proofs.MergedKeys.{all_keys, more_keys}
use Rattle.cf_volume_commit.specs.Differing.{AddsKeys}
use Rattle.cf_volume_image.proofs.Kept.{all_short, first_short, rest_short}
use Rattle.cf_volume_image.specs.Contents.{record_at}
use Rattle.cf_volume_image.specs.RecordLists.{IsShort}
use Rattle.cf_model.specs.Words.{same}
use Rattle.cf_volume_commit.proofs.differences.put_keys.Goals as goal

pub loop-aux-init : goal.loop-aux-init
loop-aux-init c = record {
  puts = λ k. ap (λ (l : List AuxRecord). is_some (record_at c.args.keys.now k) || (is_some (record_at c.args.now.now k) && list_any (λ r. same r.key k) l)) c.iter-items.ensures.value;
  short = subst (λ (l : List AuxRecord). All IsShort l) (sym c.iter-items.ensures.value) (all_short c.args.noted.now c.iter-items.ensures.rise);
}

pub put_key-requires : goal.put_key-requires
put_key-requires c =
    let short = first_short _ _ c.in-Some.aux.now c.in-Some.ensures c.loop-aux.invariant.short in
    omega (arith, short.0, ap length c.as_slice.ensures)

pub loop-aux-preserved : goal.loop-aux-preserved
loop-aux-preserved c = record {
  puts = more_keys c.args.now.now c.args.keys.now c.loop-aux.keys c.put_key.new.keys c.args.noted.now c.loop-aux.items c.next.new.self c.in-Some.aux.now c.in-Some.ensures
      (subst (λ (key : List ℕ). AddsKeys c.args.now.now (λ k. same key k) c.loop-aux.keys c.put_key.new.keys) c.as_slice.ensures c.in_ok-put_key.ensures) c.loop-aux.invariant.puts;
  short = rest_short _ _ c.in-Some.aux.now c.in-Some.ensures c.loop-aux.invariant.short;
}

pub returns : goal.returns
returns c = all_keys c.args.now.now c.args.keys.now c.loop-aux.keys c.args.noted.now c.loop-aux.items c.in_default.ensures c.loop-aux.invariant.puts
