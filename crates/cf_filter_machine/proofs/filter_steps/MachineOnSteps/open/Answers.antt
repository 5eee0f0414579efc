use Rattle.std.proofs.Common.{refl, ap, ◌∙◌, ℕ}
use Rattle.std.specs.Prelude.{◌∷◌, [], ◌++◌, ◌+◌}
use Rattle.cf_filter_machine.proofs.DeskSteps.{desk_left, desk_stepped, seen_at, seen_desk, with_desk}
use Rattle.cf_filter_machine.proofs.GoodSteps.{opened_good}
use Rattle.cf_filter_desk.specs.Desks.{Desk, desk_of}
use Rattle.cf_model.specs.Arrows.{noted}
use Rattle.cf_model.specs.Calls.{with_handle}
use Rattle.cf_model.specs.Numbers.{key_after}
use Rattle.cf_filter_steps.specs.Needing.{MayOpenFile}
use Rattle.cf_filter_machine.proofs.filter_steps.MachineOnSteps.open.Goals as goal

pub returns-in_err-handle-clause-does : goal.returns-in_err-handle-clause-does
returns-in_err-handle-clause-does g c = desk_left g.G.Ground.state (MayOpenFile c.args.item) (noted (with_handle c.args.item)) c.args.self.now _ c.open.new.self c.from_residual.result c.from_residual.ensures.1 (with_desk c.open.new.self c.self.view_is)

pub returns-clause-does : goal.returns-clause-does
returns-clause-does g c =
    desk_stepped g.G.Ground.state (MayOpenFile c.args.item) (with_handle c.args.item)
    (λ (d : Desk). record d { handles = d.handles ++ record { handle = record { 0 = key_after c.epoch-epoch.result d.handle_count }; item = c.args.item } ∷ []; handle_count = d.handle_count + 1 })
    c.args.self.now _ c.self.inside.desk c.open.new.self (with_desk c.open.new.self c.self.view_is) (seen_desk c.self.view_is) c.in_ok-handle.ensures.ok (λ s. refl)
    (λ s h. let epoch = c.epoch-epoch.ensures ∙ (seen_at g.G.Ground.state s.volume c.self.view_is h.volume).now.epoch in
    ap (λ (e : ℕ). record (desk_of s) { handles = s.handles ++ record { handle = record { 0 = key_after e s.handle_count }; item = c.args.item } ∷ []; handle_count = s.handle_count + 1 }) epoch)
    (λ s h p. opened_good c.args.item s p.file h.good)

pub returns-clause-tells : goal.returns-clause-tells
returns-clause-tells g c = record {
  is = λ s h p.
      let epoch = c.epoch-epoch.ensures ∙ (seen_at g.G.Ground.state s.volume c.self.view_is h.volume).now.epoch in
      c.in_ok-handle.ensures.handle ∙ (λ j. record { 0 = key_after (epoch j) ((seen_desk c.self.view_is ∙ h.desk) j).handle_count });
}
