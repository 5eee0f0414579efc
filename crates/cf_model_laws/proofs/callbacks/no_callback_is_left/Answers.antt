-- They are the laws of runs and of callbacks.
use Rattle.cf_model_laws.proofs.CallbacksBetween.{none_between}
use Rattle.cf_model_laws.proofs.SpentKeys.{event_boxed, none_left, run_boxed}
use Rattle.cf_model_laws.proofs.callbacks.no_callback_is_left.Goals as goal

pub returns : goal.returns
returns c = record { boxed = run_boxed; during = event_boxed; over = none_left; between = none_between }
