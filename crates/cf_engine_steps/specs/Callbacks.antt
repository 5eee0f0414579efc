-- How an engine answers a callback.
use Rattle.std.specs.Prelude.{◌≡◌, List}
use Rattle.cf_engine_provider.specs.Answering as provider
use Rattle.cf_engine_steps.specs.States.{Own}
use Rattle.cf_model.specs.Ports.{Act}
use Rattle.cf_provider.specs.Sights.{Sight}
use Rattle.cf_provider.specs.declared.outcomes.Callback.{Callback}
use Rattle.cf_remote.specs.Told.{Told}

-- as its own provider does, and all else that it has of its own is as before
pub record Answers {R : Type 0} (told : R → Told) (e : Own R) (seen : Sight) (call : Callback) (acts : List Act) (f : Own R) : Type 0 where
  pub agent : provider.Answers told e.agent seen call acts f.agent
  pub rest : f ≡ record e { agent = f.agent }
