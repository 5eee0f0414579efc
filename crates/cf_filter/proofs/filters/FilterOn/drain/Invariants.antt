use Rattle.std.specs.Prelude.{◌+◌, ◌≤◌, ℕ, Result}
use Rattle.cf_base.specs.declared.codes.CallError.{CallError}
use Rattle.cf_engine_host.specs.Draining.{DrainsBy}
use Rattle.cf_filter.specs.Draining.{Drains}
use Rattle.cf_filter_machine.specs.Held.{Held}
use Rattle.cf_filter_machine.specs.Sensing.{sense}
use Rattle.cf_model.specs.Numbers.{most}
use Rattle.cf_filter.proofs.filters.FilterOn.drain.Given as goal

-- what so many callbacks from now on lead to the call leads to
abbrev pub invariant-loop-called : goal.invariant-loop-called
invariant-loop-called g l =
    (n : ℕ) (r : Result (Unit {0}) CallError) (q : g.row.P.Denot) (y : Held g.row.G.Denot) → n + l.called ≤ most → Drains n g.G.Ground.state g.P.Provider.answers l.p l.self r q y → DrainsBy (sense g.G.Ground.state) g.P.Provider.answers l.fn.p l.fn.self r q y
