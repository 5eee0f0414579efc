use Rattle.std.proofs.Common.{◌∙◌, ap, subst, sym}
use Rattle.cf_base.specs.declared.policies.Mode.TheVariants as mode
use Rattle.cf_base.specs.declared.policies.Policy.{Policy}
use Rattle.cf_check_world.specs.Remotes.{Failing}
use Rattle.cf_filter_machine.specs.Held.{Held}
use Rattle.cf_filter_machine.specs.Sensing as sensing
use Rattle.cf_model.specs.State.{new_filter, new_volume, start}
use Rattle.cf_model.specs.Store.{empty_remote}
use Rattle.cf_volume_plain.specs.Plains.{Blocks, plain_state}
use Rattle.cf_volume_points.specs.Standing.{clusters_for}
use Rattle.cf_check_world.proofs.Standing.{started}
use Rattle.cf_check_world.proofs.plain_devices.PlainDeviceDevice.start.Goals as goal

pub returns : goal.returns
returns c =
    let is = c.on_volume-filter.ensures.is in
    let stands = c.on_volume-filter.ensures.new c.args.clusters c.in_ok-volume.ensures.usable c.in_ok-volume.ensures.ok in
    started c.on_volume-filter.result c.new-actor.result c.args.aim c.args.clusters
    (subst (λ (p : Policy). sensing.Stands plain_state c.on_volume-filter.result (new_filter (new_volume c.args.clusters) p)) c.first_policy.ensures stands)
    (c.new-actor.ensures.begins empty_remote c.args.clusters (sym (ap (λ (r : Failing). r.held) c.in_ok-remote.ensures)) tt) (ap (λ (x : Held Blocks). x.disk.aim) is ∙ c.in_ok-volume.ensures.aimed)
    (ap (λ (x : Held Blocks). clusters_for (plain_state x.disk)) is ∙ c.in_ok-volume.ensures.clusters)

pub invariant_of-result : goal.invariant_of-result
invariant_of-result c = (c.args.aim, start mode.Replay empty_remote c.args.clusters, returns c)
