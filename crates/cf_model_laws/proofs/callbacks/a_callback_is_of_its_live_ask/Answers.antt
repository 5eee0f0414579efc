-- They are the laws of asks and their keys.
use Rattle.cf_model_laws.proofs.OwnAsks.{acts_own, event_own, own_live, run_own}
use Rattle.cf_model_laws.proofs.callbacks.a_callback_is_of_its_live_ask.Goals as goal

pub returns : goal.returns
returns c = record { own = run_own; during = event_own; acts = acts_own; live = own_live }
