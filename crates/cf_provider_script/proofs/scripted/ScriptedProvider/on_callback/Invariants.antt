use Rattle.std.specs.Prelude.{length}
use Rattle.cf_provider_script.specs.Lines.{HasCarried}
use Rattle.cf_provider_script.proofs.scripted.ScriptedProvider.on_callback.Given as goal

-- what is carried out so far and the rest are the whole plan
abbrev pub invariant-loop-planned : goal.invariant-loop-planned
invariant-loop-planned g l = HasCarried g.P.Port.goes l.call.ask.key l.fn.self l.fn.port l.self l.port

abbrev pub decreases-loop-planned : goal.decreases-loop-planned
decreases-loop-planned g l = length l.self
