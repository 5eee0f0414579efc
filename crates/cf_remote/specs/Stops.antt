-- Why a look-up ends.
use Rattle.cf_remote.specs.declared.ask_errors.AskError.{AskError}
use Rattle.cf_remote.specs.declared.ask_errors.AskError.TheVariants as ask
use Rattle.cf_remote.specs.declared.find_errors.FindError.{FindError}
use Rattle.cf_remote.specs.declared.find_errors.FindError.TheVariants as find
use Rattle.cf_remote.specs.declared.stops.Stop.{Stop}
use Rattle.cf_remote.specs.declared.stops.Stop.TheVariants as stop

-- by why an ask has no reply
abbrev pub find_error_of : AskError → FindError
find_error_of ask.Fault = find.Fault
find_error_of ask.OutOfMemory = find.OutOfMemory

-- by why a directory told nothing
abbrev pub stop_of : FindError → Stop
stop_of find.Fault = stop.Fault
stop_of (find.Stray r) = stop.Stray r
stop_of find.OutOfMemory = stop.OutOfMemory
