-- The entries of a directory, which a provider gives to a list ask.
use Rattle.std.specs.Prelude.{◌≡◌, ◌+◌, ◌&&◌, ◌++◌, Bool, true, false, not, cond, ℕ, List, [], ◌∷◌, length, min, nat_le, nat_lt, Option, Some, None}
use Rattle.std.specs.List.{list_all, list_any}
use Rattle.cf_base.specs.Policies.{is_always_full}
use Rattle.cf_base.specs.declared.answers.AuxRecord.{AuxRecord}
use Rattle.cf_base.specs.declared.answers.Shown.{Shown}
use Rattle.cf_base.specs.declared.changes.Change.{Change}
use Rattle.cf_base.specs.declared.changes.Change.TheVariants as change
use Rattle.cf_base.specs.declared.codes.Code.{Code}
use Rattle.cf_base.specs.declared.codes.Code.TheVariants as code
use Rattle.cf_base.specs.declared.ids.ItemId.{ItemId}
use Rattle.cf_base.specs.declared.ids.Usn.{Usn}
use Rattle.cf_base.specs.declared.limits.TheConstants.{MOST_FILE_BYTES, MOST_NUMBER}
use Rattle.cf_base.specs.declared.operations.NewItem.{NewItem}
use Rattle.cf_base.specs.declared.policies.Policy.{Policy}
use Rattle.cf_base.specs.declared.waits.Ask.{Ask}
use Rattle.cf_base.specs.declared.waits.Cause.TheVariants as cause
use Rattle.cf_filter_calls.specs.Consenting.{finished_by, finished_now}
use Rattle.cf_filter_calls.specs.Moved.{is_unlisted_at, lacks_place}
use Rattle.cf_model.specs.Arrows.{Arrow, reading, then_do}
use Rattle.cf_model.specs.Books.{Book}
use Rattle.cf_model.specs.Changes.{lacks_numbers, next_number}
use Rattle.cf_model.specs.LookUp.{depth_at}
use Rattle.cf_model.specs.Operations.{changes_with, checked, entry_changes, entry_kind, is_twice, no_table_listed}
use Rattle.cf_model.specs.State.{Filter}
use Rattle.cf_model.specs.Texts.{is_name}
use Rattle.cf_model.specs.Words.{first_of, is_empty, when}
use Rattle.cf_filter_steps.specs.Listing.{HasRecordsBeside}

-- why a list is refused, besides for want of room

abbrev pub are_names : List NewItem → Bool
are_names list = list_all (λ e. is_name e.name) list

abbrev pub has_long_identity : List NewItem → Bool
has_long_identity list = list_any (λ e. nat_lt 4096 (length e.identity)) list

abbrev pub has_large : List NewItem → Bool
has_large list = list_any (λ e. not e.dir && nat_lt MOST_FILE_BYTES e.size) list

abbrev pub has_bytes_to_fetch : Policy → List NewItem → Bool
has_bytes_to_fetch p list = list_any (λ e. not e.dir && is_always_full p.hydration && nat_lt 0 e.size) list

abbrev pub is_too_deep : ItemId → List NewItem → Filter → Bool
is_too_deep dir list s = not (is_empty list) && nat_le 32 (depth_at s.volume.items dir)

abbrev pub list_tests : ItemId → List NewItem → Filter → List (Bool × Code)
list_tests dir list s =
    (not (are_names list), code.BadPath) ∷ (is_twice list, code.Exists) ∷ (has_long_identity list, code.IdentityTooLong) ∷ (has_large list, code.TooLarge)
    ∷ (has_bytes_to_fetch s.policy list, code.PolicyDenied) ∷ (is_too_deep dir list s, code.TooDeep) ∷ []

-- the code of the first of four refusals that hang on the entries and the policy
abbrev pub entry_code : Bool → Bool → Bool → Bool → Option Code
entry_code twice long large fetched = first_of ((twice, code.Exists) ∷ (long, code.IdentityTooLong) ∷ (large, code.TooLarge) ∷ (fetched, code.PolicyDenied) ∷ [])

-- the code of the first refusal, by whether they have names, by the refusal of the entries, and by the depth
abbrev pub list_code : Bool → Option Code → Bool → Option Code
list_code named (Some c) deep = cond named (Some c) (Some code.BadPath)
list_code named None deep = first_of ((not named, code.BadPath) ∷ (deep, code.TooDeep) ∷ [])

abbrev pub list_refusal : ItemId → List NewItem → Filter → Option Code
list_refusal dir list s = first_of (list_tests dir list s)

-- the changes

-- The number of the next entry, which is at most the last that there is.
abbrev pub number_past : Bool → Usn → Usn
number_past mark n = record n { place = min (n.place + cond mark 2 1) MOST_NUMBER }

-- under the ids and numbers from these on; at last the directory's entries have come
abbrev pub listed_changes : Policy → ItemId → ℕ → Usn → List NewItem → List Change
listed_changes p dir item n [] = change.Populated dir ∷ []
listed_changes p dir item n (e ∷ es) =
    change.Make (record { 0 = item }) dir e.name (entry_kind p e.dir) (cond e.dir 0 e.size) e.identity
    ∷ when e.mark (change.Mark (record { 0 = item }) n ∷ [])
    ++ listed_changes p dir (item + 1) (number_past e.mark n) es

-- and as the definitions number them
abbrev pub changes_of_list : ItemId → List NewItem → Filter → List Change
changes_of_list dir list s = entry_changes s.policy dir s.volume.next_item.0 (next_number s.volume) list ++ change.Populated dir ∷ []

-- the operation

abbrev pub listed_tests : (Book → Book) → List Change → Filter → List (Bool × Code)
listed_tests f cs s = (no_table_listed f cs s.volume, code.TableFull) ∷ (lacks_numbers s.volume cs, code.Exhausted) ∷ []

-- the changes, and then the ask is answered
abbrev pub entered_by : (Book → Book) → Ask → List Change → Arrow Filter Shown
entered_by f ask cs = then_do (changes_with f cs) (finished_now ask cause.Met)

abbrev pub put_listed : (Book → Book) → Ask → List Change → Arrow Filter Shown
put_listed f ask cs = checked (listed_tests f cs) (entered_by f ask cs)

abbrev pub entered : (Book → Book) → Ask → List NewItem → Arrow Filter Shown
entered f ask list = reading (changes_of_list ask.item list) (put_listed f ask)

abbrev pub listed_by : (Book → Book) → Ask → List NewItem → Bool → Arrow Filter Shown
listed_by f ask list true = entered f ask list
listed_by f ask list false = finished_by ask (cause.Failed 1)

-- a number is left for a change
abbrev pub HasPlace : Filter → Type 0
HasPlace s = lacks_place s ≡ false

-- a list that is not refused, and the records that come with it
pub record IsListable (f : Book → Book) (dir : ItemId) (list : List NewItem) (records : List AuxRecord) (s : Filter) : Type 0 where
  pub passes : list_refusal dir list s ≡ None
  pub beside : HasRecordsBeside (next_number s.volume) s.volume.book records (f s.volume.book)

pub record IsOpenList (f : Book → Book) (dir : ItemId) (list : List NewItem) (records : List AuxRecord) (s : Filter) : Type 0 where
  pub listable : IsListable f dir list records s
  pub unlisted : is_unlisted_at dir s ≡ true
