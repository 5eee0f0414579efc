-- Operations of a provider, by the ask that each answers.
use Rattle.std.specs.Prelude.{◌≡◌, ℕ, List, Option, None, option_map}
use Rattle.cf_base.specs.declared.answers.AuxRecord.{AuxRecord}
use Rattle.cf_base.specs.declared.codes.Code.{Code}
use Rattle.cf_base.specs.declared.ids.ItemId.{ItemId}
use Rattle.cf_base.specs.declared.ids.Key.{Key}
use Rattle.cf_base.specs.declared.operations.Operation.{Operation}
use Rattle.cf_base.specs.declared.waits.Ask.{Ask}
use Rattle.cf_filter_calls.specs.Operating.{Keeps}
use Rattle.cf_provider.specs.Checks.{base_at as base_of_live, check_of}
use Rattle.cf_model.specs.Books.{Book}
use Rattle.cf_model.specs.Items.{base_of, item_of}
use Rattle.cf_model.specs.Operations.{key_of, live_at}
use Rattle.cf_model.specs.State.{Filter}
use Rattle.cf_model.specs.Words.{part}

abbrev pub ask_at : Key → Filter → Option Ask
ask_at key s = option_map (λ a. a.ask) (live_at key s)

-- the base length of an item, 0 of one that is not there
abbrev pub base_at : ItemId → Filter → ℕ
base_at id s = part base_of 0 (item_of s.volume.items id)

-- of the file of a live ask
abbrev pub base_named : Key → Filter → ℕ
base_named key s = base_of_live (live_at key s) s

-- the refusals that hang on the asks alone
abbrev pub op_refusal : Operation → Filter → Option Code
op_refusal op s = check_of op (base_named (key_of op) s) s.waiting

-- which do not hold
pub record IsFree (f : Book → Book) (op : Operation) (records : List AuxRecord) (s : Filter) : Type 0 where
  pub passes : op_refusal op s ≡ None
  pub beside : Keeps f records s
