-- Entries of a directory as they are given, which mirror the code: no definitions to believe.
use Rattle.std.specs.Prelude.{◌≡◌, List}
use Rattle.cf_base.specs.declared.ids.Key.{Key}
use Rattle.cf_base.specs.declared.items.SeenPath.{SeenPath}
use Rattle.cf_base.specs.declared.messages.Entry.{Entry}
use Rattle.cf_base.specs.declared.operations.NewItem.{NewItem}
use Rattle.cf_engine_provider.specs.Parts.{give_entries}
use Rattle.cf_model.specs.Fetching.{take_listing}
use Rattle.cf_model.specs.State.{State}
use Rattle.cf_filter_steps.specs.Answering.{Sense}

-- These items and paths are what is taken of the entries, in each state.
pub record AreListed {X : Type 0} (S : Sense X) (es : List Entry) (x : X) (p : List NewItem × List SeenPath) : Type 0 where
  pub takes : (key : Key) (s : State) → S.means x s.filter → give_entries key p.0 p.1 s ≡ take_listing key es s
