use Rattle.std.proofs.Common.{◌≡◌, arith, false, refl, true}
use Rattle.cf_volume_image.proofs.EachRow.{sound_at, sound_cons, sound_first, sound_none, sound_rest}
use Rattle.cf_volume_image.proofs.Loops.{drop_at, drop_end}
use Rattle.cf_volume_image.proofs.sound.are_sound.Goals as goal

pub returns-then-not-is_sound_row : goal.returns-then-not-is_sound_row
returns-then-not-is_sound_row c =
    let is = drop_at c.args.rows.now c.loop-row.row-index c.row-item.result c.loop-row-test.true c.row-item.is in
    λ h n l. (
      λ z. let w : false ≡ true = z in absurd cc,
      λ all. c.if-not-is_sound_row.ensures.1 (sound_at h c.args.next c.args.last c.row-item.result n l (sound_first h _ _ c.row-item.result is (c.loop-row.invariant.from h all))),
    )

pub loop-row-preserved : goal.loop-row-preserved
loop-row-preserved c =
    let is = drop_at c.args.rows.now c.loop-row.row-index c.row-item.result c.loop-row-test.true c.row-item.is in
    record {
      to = λ h n l rest. c.loop-row.invariant.to h n l (sound_cons h c.args.next c.args.last _ _ c.row-item.result is n l (c.is_sound_row.ensures.0 c.if-not-is_sound_row.false) rest);
      from = λ h all. sound_rest h _ _ c.row-item.result is (c.loop-row.invariant.from h all);
    }

pub returns : goal.returns
returns c = λ h n l. (λ yes. c.loop-row.invariant.to h n l (sound_none h _ (drop_end c.args.rows.now c.loop-row.row-index (omega arith))), λ all. refl)
