use Rattle.std.proofs.Common.{◌≡◌, ◌≤◌, ◌∙◌, ℕ, List, length, subst, sym}
use Rattle.cf_base.specs.declared.policies.Mode.TheVariants as modes
use Rattle.cf_gen.specs.Scripts.{made_script}
use Rattle.cf_io.specs.Moves.{IsQuiet}
use Rattle.cf_world_plays.proofs.OfTexts.{read_text}
use Rattle.cf_world_plays.specs.Outputs.{OfText}
use Rattle.cf_world_plays.specs.Runs.{most_script}
use Rattle.cf_world_plays.specs.declared.outputs.Ending.TheVariants as endings
use Rattle.cf_world_plays.specs.declared.outputs.Output.TheVariants as outputs
use Rattle.cf_world.proofs.runs.made.Goals as goal

pub returns-in-Ok-clause-text : goal.returns-in-Ok-clause-text
returns-in-Ok-clause-text g c = λ n.
    let s = c.scripted-finish in
    let same : c.as_slice.result.now ≡ made_script c.args.number = c.as_slice.ensures ∙ c.in-Ok.ensures in
    let old = g.K.Sink.held c.args.sink.now in
    let new = g.K.Sink.held s.new.sink in
    subst (λ (t : List ℕ). OfText g.D.Disk.state g.R.Remote.told (outputs.Ending endings.Summary) modes.Replay c.args.disk c.args.remote t old new (s.new.sink ≡ c.args.sink.now) (IsQuiet n n × IsQuiet (g.K.Sink.faults c.args.sink.now) (g.K.Sink.faults s.new.sink)) s.result.status s.result.disk s.result.remote)
    same
    (read_text g.D.Disk.state g.R.Remote.told (outputs.Ending endings.Summary) modes.Replay c.args.disk c.args.remote old new (s.new.sink ≡ c.args.sink.now) n n (g.K.Sink.faults c.args.sink.now) (g.K.Sink.faults s.new.sink)
    c.as_slice.result.now s.result.status s.result.disk s.result.remote (subst (λ (t : List ℕ). length t ≤ most_script) (sym same) (c.made_script_is_short.ensures c.args.number)) s.ensures.only s.ensures.writes s.ensures.bad s.ensures.unfit s.ensures.complete)
