use Rattle.std.proofs.Common.{◌++◌, ◌∙◌, List, ℕ, ap}
use Rattle.cf_model.specs.Formats.{spell_key}
use Rattle.cf_volume_image.proofs.Loops.{put_step}
use Rattle.cf_volume_image.proofs.payloads.put_keys.Goals as goal

pub loop-key-preserved : goal.loop-key-preserved
loop-key-preserved c =
    put_step spell_key c.args.keys.now c.loop-key.key-index c.key-item.result _ _ _ c.loop-key-test.true c.key-item.is
    (c.in_ok-put_key.ensures ∙ ap (λ (k : List ℕ). c.loop-key.out ++ spell_key k) c.as_slice.ensures) c.loop-key.invariant
