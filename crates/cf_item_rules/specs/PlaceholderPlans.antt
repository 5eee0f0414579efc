-- What a plan answers.
use Rattle.std.specs.Prelude.{ℕ, Bool, false, List, [], Result, Ok, Err, ◌≡◌}
use Rattle.cf_base.specs.declared.changes.Change.{Change}
use Rattle.cf_base.specs.declared.codes.Code.{Code}
use Rattle.cf_base.specs.declared.codes.CallError.{CallError}
use Rattle.cf_base.specs.declared.codes.CallError.TheVariants as fail
use Rattle.cf_base.specs.declared.items.Kind.{Kind}
use Rattle.cf_base.specs.declared.items.Kind.TheVariants as kind
use Rattle.cf_base.specs.declared.policies.Policy.{Policy}
use Rattle.cf_model.specs.Plans.{placeholder_dir}
use Rattle.cf_model.specs.Plans as model
use Rattle.cf_item_rules.specs.declared.creations.Creation.{Creation}
use Rattle.cf_item_rules.specs.declared.creations.Creation.TheVariants.{File, Dir, Placeholder, PlaceholderDir}

-- the changes or the refusal that are meant, or there was no memory
abbrev pub IsPlan : Result (List Change) CallError → Result (List Change) Code → Type 0
IsPlan (Ok changes) meant = meant ≡ Ok changes
IsPlan (Err (fail.No c)) meant = meant ≡ Err c
IsPlan (Err fail.OutOfMemory) meant = Unit {0}

-- what is made, in the words of the definitions
abbrev pub meant : Creation → model.Creation
meant File = model.NewFile
meant Dir = model.NewDir
meant (Placeholder size identity mark) = model.NewPlaceholder size identity mark
meant (PlaceholderDir identity mark) = model.NewPlaceholderDir identity mark

-- its parts

abbrev pub kind_made : Policy → Creation → Kind
kind_made p File = kind.File
kind_made p Dir = kind.Dir
kind_made p (Placeholder size identity mark) = kind.PlaceholderFile
kind_made p (PlaceholderDir identity mark) = placeholder_dir p

abbrev pub size_made : Creation → ℕ
size_made File = 0
size_made Dir = 0
size_made (Placeholder size identity mark) = size
size_made (PlaceholderDir identity mark) = 0

abbrev pub identity_made : Creation → List ℕ
identity_made File = []
identity_made Dir = []
identity_made (Placeholder size identity mark) = identity
identity_made (PlaceholderDir identity mark) = identity

abbrev pub mark_made : Creation → Bool
mark_made File = false
mark_made Dir = false
mark_made (Placeholder size identity mark) = mark
mark_made (PlaceholderDir identity mark) = mark
