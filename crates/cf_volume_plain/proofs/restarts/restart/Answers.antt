use Rattle.std.proofs.Common.{◌+◌, ◌∙◌, ap, subst, sym, take}
use Rattle.cf_model.specs.State.{Volume}
use Rattle.cf_volume_commit.specs.Loaded.{known_of}
use Rattle.cf_volume_plain.proofs.Restarted.{with_aim}
use Rattle.cf_volume_plain.specs.Plains.{Blocks, plain_state}
use Rattle.cf_volume_points.specs.At.{At}
use Rattle.cf_volume_points.specs.Known.{Known}
use Rattle.cf_volume_points.specs.Standing.{opened}
use Rattle.cf_volume_plain.proofs.restarts.restart.Goals as goal

pub returns-in-Ok-of_parts-clause-ok : goal.returns-in-Ok-of_parts-clause-ok
returns-in-Ok-of_parts-clause-ok c = λ v p earlier at points.
    let b = c.args.volume.disk in
    let w : Volume = opened (v.epoch + 1) (take p.count v.log) p.book v.clusters in
    subst (λ (x : Blocks). At (plain_state x) c.in-Ok-of_parts.volume.known w) (sym (c.in-Ok-of_parts.ensures.ground ∙ c.with_aim.ensures ∙ ap (λ (x : Blocks). record x { aim = c.args.aim }) c.in-Ok.ensures.ground))
    (subst (λ (k : Known). At (plain_state (record b { aim = c.args.aim })) k w) (sym c.in-Ok-of_parts.ensures.known)
    (with_aim b c.args.aim (known_of c.in-Ok.parts) w (c.in-Ok.ensures.at v p earlier at points (λ x left. left))))
