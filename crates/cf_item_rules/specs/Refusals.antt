-- Why a plan is refused, in order, as the rows say it.
use Rattle.std.specs.Prelude.{ℕ, Bool, not, List, [], length, find, is_some, nat_lt, ◌&&◌, ◌||◌, ◌∷◌}
use Rattle.cf_base.specs.Policies.{is_always_full}
use Rattle.cf_base.specs.declared.codes.Code.{Code}
use Rattle.cf_base.specs.declared.codes.Code.TheVariants as code
use Rattle.cf_base.specs.declared.ids.ItemId.{ItemId}
use Rattle.cf_base.specs.declared.ids.Usn.{Usn}
use Rattle.cf_base.specs.declared.limits.TheConstants.{MOST_FILE_BYTES}
use Rattle.cf_base.specs.declared.policies.Policy.{Policy}
use Rattle.cf_model.specs.Numbers.{is_no_usn, same_usn}
use Rattle.cf_table.specs.Tables.{is_child_row}
use Rattle.cf_table.specs.declared.rows.Row.{Row}
use Rattle.cf_item_rules.specs.declared.creations.Creation.{Creation}
use Rattle.cf_item_rules.specs.declared.creations.Creation.TheVariants.{File, Dir, Placeholder, PlaceholderDir}

abbrev pub long_identity : List ℕ → Bool × Code
long_identity identity = (nat_lt 4096 (length identity), code.IdentityTooLong)

-- beside another item of the name
abbrev pub creation_tests : Policy → Creation → List (Bool × Code)
creation_tests p File = []
creation_tests p Dir = []
creation_tests p (Placeholder size identity mark) = long_identity identity ∷ (nat_lt MOST_FILE_BYTES size, code.TooLarge) ∷ (is_always_full p.hydration && nat_lt 0 size, code.PolicyDenied) ∷ []
creation_tests p (PlaceholderDir identity mark) = long_identity identity ∷ []

abbrev pub create_tests : List Row → Policy → ItemId → List ℕ → Creation → List (Bool × Code)
create_tests rows p parent name what = (is_some (find (is_child_row parent name) rows), code.Exists) ∷ creation_tests p what

abbrev pub convert_tests : Row → List ℕ → List (Bool × Code)
convert_tests r identity = (r.placeholder, code.AlreadyPlaceholder) ∷ long_identity identity ∷ []

abbrev pub not_placeholder : Row → Bool × Code
not_placeholder r = (not r.placeholder, code.NotPlaceholder)

-- `whole` says whether all bytes are here
abbrev pub revert_tests : Row → Bool → Bool → List (Bool × Code)
revert_tests r whole in_use = not_placeholder r ∷ (r.dir && not r.populated, code.NotPopulated) ∷ (not whole, code.NotHydrated) ∷ (in_use, code.InUse) ∷ []

abbrev pub rebase_tests : Row → List ℕ → List (Bool × Code)
rebase_tests r identity = not_placeholder r ∷ long_identity identity ∷ []

abbrev pub take_tests : Policy → Row → List ℕ → ℕ → Bool → List (Bool × Code)
take_tests p r identity size in_use =
    (r.dir, code.IsDirectory) ∷ not_placeholder r ∷ long_identity identity ∷ (is_always_full p.hydration || r.keep, code.PolicyDenied)
    ∷ (not r.in_sync, code.NotInSync) ∷ (in_use, code.InUse) ∷ (nat_lt MOST_FILE_BYTES size, code.TooLarge) ∷ []

abbrev pub mark_tests : Row → Usn → List (Bool × Code)
mark_tests r n = not_placeholder r ∷ (not (is_no_usn n || same_usn n r.number), code.UsnMismatch r.number) ∷ []

abbrev pub unmark_tests : Row → List (Bool × Code)
unmark_tests r = not_placeholder r ∷ []

abbrev pub keep_tests : Row → List (Bool × Code)
keep_tests r = (r.dir, code.IsDirectory) ∷ not_placeholder r ∷ []
