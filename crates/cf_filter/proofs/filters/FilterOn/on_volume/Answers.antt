use Rattle.std.proofs.Common.{◌∙◌, ℕ, ap}
use Rattle.cf_filter.proofs.Started.{starts_new, starts_opened}
use Rattle.cf_filter.specs.Starting.{desk_at}
use Rattle.cf_filter.proofs.filters.FilterOn.on_volume.Goals as goal

pub returns-clause-new : goal.returns-clause-new
returns-clause-new g c = λ clusters whole at.
    starts_new g.G.Ground.state (record { disk = c.args.volume.disk; known = c.args.volume.known; desk = c.new-desk.result }) c.args.volume.disk c.args.volume.known c.args.policy
    (record { same_size = g.met.G.Ground.same_size c.args.volume.disk }) whole
    (ap (λ (d : _). record { disk = c.args.volume.disk; known = c.args.volume.known; desk = d }) (c.new-desk.ensures ∙ ap (λ (e : ℕ). desk_at e c.args.policy) c.epoch.ensures)) clusters at

pub returns-clause-opened : goal.returns-clause-opened
returns-clause-opened g c = λ epoch log b clusters whole at kept.
    starts_opened g.G.Ground.state (record { disk = c.args.volume.disk; known = c.args.volume.known; desk = c.new-desk.result }) c.args.volume.disk c.args.volume.known c.args.policy
    (record { same_size = g.met.G.Ground.same_size c.args.volume.disk }) whole
    (ap (λ (d : _). record { disk = c.args.volume.disk; known = c.args.volume.known; desk = d }) (c.new-desk.ensures ∙ ap (λ (e : ℕ). desk_at e c.args.policy) c.epoch.ensures)) epoch log b clusters at kept
