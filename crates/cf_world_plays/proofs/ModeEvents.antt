-- The events of a script are events of its mode, by the tests of the script and of the definitions alike.
use Rattle.std.proofs.Common.{◌≡◌, Bool, List, refl, subst}
use Rattle.std.specs.Prelude.{IsTrue, ℕ}
use Rattle.std.specs.List.{list_all}
use Rattle.cf_base.specs.declared.events.Event.{Event}
use Rattle.cf_base.specs.declared.events.Event.TheVariants as event
use Rattle.cf_base.specs.declared.policies.Mode.{Mode}
use Rattle.cf_base.specs.declared.policies.Mode.TheVariants as mode
use Rattle.cf_model.specs.Events.{is_of}
use Rattle.cf_script.proofs.FitsBack.{all_of}
use Rattle.cf_script.specs.Fits as script
use Rattle.cf_script.specs.Script.{IsScript}

same_test : (m : Mode) (e : Event) → script.is_of m e ≡ is_of m e
same_test mode.Replay (event.Call c) = refl
same_test mode.Replay (event.Device d) = refl
same_test mode.Replay (event.Peer p) = refl
same_test mode.Replay (event.Engine g) = refl
same_test mode.Replay (event.Provider p) = refl
same_test mode.Filter (event.Call c) = refl
same_test mode.Filter (event.Device d) = refl
same_test mode.Filter (event.Peer p) = refl
same_test mode.Filter (event.Engine g) = refl
same_test mode.Filter (event.Provider p) = refl

pub all_of_mode : (m : Mode) (text : List ℕ) (events : List Event) → IsScript m text events → IsTrue (list_all (is_of m) events)
all_of_mode m text events h = subst (λ (p : Event → Bool). IsTrue (list_all p events)) (λ j e. same_test m e j) (all_of m text events h)
