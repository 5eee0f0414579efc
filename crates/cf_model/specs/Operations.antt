-- The operations of a provider: the refusals of each in order, then what it does. Callbacks are not called yet.
use Rattle.std.specs.Prelude.{ℕ, Bool, true, false, not, cond, List, [], ◌∷◌, ◌++◌, length, Option, Some, None, is_some, nat_le, nat_lt, slice_range, ◌+◌, ◌%◌, ◌&&◌, ◌||◌, ◌==◌}
use Rattle.std.specs.List.{list_all, list_any}
use Rattle.cf_base.specs.Policies.{is_always_full}
use Rattle.cf_base.specs.declared.changes.Change.{Change}
use Rattle.cf_base.specs.declared.changes.Change.TheVariants as change
use Rattle.cf_base.specs.declared.answers.Shown.{Shown}
use Rattle.cf_base.specs.declared.answers.Shown.TheVariants as shown
use Rattle.cf_base.specs.declared.codes.Code.{Code}
use Rattle.cf_base.specs.declared.codes.Code.TheVariants as code
use Rattle.cf_base.specs.declared.ids.ItemId.{ItemId}
use Rattle.cf_base.specs.declared.ids.Key.{Key}
use Rattle.cf_base.specs.declared.ids.Usn.{Usn}
use Rattle.cf_base.specs.declared.ids.WaitId.{WaitId}
use Rattle.cf_base.specs.declared.items.Kind.{Kind}
use Rattle.cf_base.specs.declared.items.Kind.TheVariants as kind
use Rattle.cf_base.specs.declared.limits.TheConstants.{MOST_FILE_BYTES, MOST_IDENTITY_BYTES, MOST_PATH_NAMES}
use Rattle.cf_base.specs.declared.operations.NewItem.{NewItem}
use Rattle.cf_base.specs.declared.operations.Operation.{Operation}
use Rattle.cf_base.specs.declared.operations.Operation.TheVariants as operation
use Rattle.cf_base.specs.declared.policies.Policy.{Policy}
use Rattle.cf_base.specs.declared.spans.Span.{Span}
use Rattle.cf_base.specs.declared.waits.Cause.TheVariants as cause
use Rattle.cf_model.specs.Arrows.{Arrow, one, reading, ret, then_do, unless}
use Rattle.cf_model.specs.Asks.{step_of}
use Rattle.cf_model.specs.Requests.{Deed, Fails, Finishes, Leaves, Live, Restarts, Waiting, has_block, is_busy_beside, is_data, is_dehydrate, is_fetch, is_list, is_validate, live_of, no_numbers, too_many_asks}
use Rattle.cf_model.specs.Blocks.{blocks_of, held_of, size_at}
use Rattle.cf_model.specs.Books.{Book}
use Rattle.cf_model.specs.Changes.{change, change_with, changes, lacks_numbers, next_number, no_blocks, no_places, no_table, put_changes, same_book}
use Rattle.cf_model.specs.Images.{table_full}
use Rattle.cf_model.specs.Items.{base_of, bytes_held, item_of}
use Rattle.cf_model.specs.LookUp.{depth_at}
use Rattle.cf_model.specs.Plans.{placeholder_dir}
use Rattle.cf_model.specs.Settling.{settle, view_at}
use Rattle.cf_model.specs.State.{Filter, Volume}
use Rattle.cf_model.specs.Texts.{is_name}
use Rattle.cf_model.specs.Verdicts.{verdict}
use Rattle.cf_model.specs.Words.{first_of, is_empty, part, same, when}

-- what uses an item: an open handle, or a live wait other than this one
abbrev pub in_use_beside : ItemId → WaitId → Filter → Bool
in_use_beside item wait s = list_any (λ h. h.item.0 == item.0) s.handles || is_busy_beside item wait s.waiting

-- the waits and asks after a step
abbrev pub waiting_after : ItemId → Deed → Filter → Waiting
waiting_after item d s = (step_of item (view_at s item) d s.waiting).1

-- the filter once these changes are made, as far as refusals look at it
abbrev pub with_changes : List Change → Filter → Filter
with_changes cs s = record s { volume = put_changes cs s.volume }

-- the first refusal whose condition holds, which changes nothing, or the rest
abbrev pub checked : (Filter → List (Bool × Code)) → Arrow Filter Shown → Arrow Filter Shown
checked tests f s = unless shown.Refused (first_of (tests s)) f s

abbrev pub done : Arrow Filter Shown
done = ret shown.Done

-- spans

-- empty, not from the start of a block, or neither to a block's end nor to the base length
abbrev pub is_misaligned : Filter → Live → ℕ → ℕ → Bool
is_misaligned s a start len =
    (len == 0) || not (start % 4096 == 0)
    || not (((start + len) % 4096 == 0) || (start + len == part base_of 0 (item_of s.volume.items a.ask.item)))

-- a block of the span is not owned by the ask
abbrev pub is_outside : Live → ℕ → ℕ → Bool
is_outside a start len = not (list_all (has_block a.owned) (blocks_of start len))

-- Transfer: bytes of a fetch ask

abbrev pub transfer_by : Live → Change → List ℕ → Arrow Filter Shown
transfer_by a c blocks = then_do (change c) (then_do (settle a.ask.item (Leaves a.ask.key blocks)) done)

abbrev pub transfer_tests : Live → Change → ℕ → ℕ → Filter → List (Bool × Code)
transfer_tests a c at len s =
    let after : Waiting = waiting_after a.ask.item (Leaves a.ask.key (blocks_of at len)) (with_changes (c ∷ []) s) in
    (not (is_fetch a.ask.kind), code.WrongKind) ∷ (is_misaligned s a at len, code.Misaligned) ∷ (is_outside a at len, code.OutsideAsk)
    ∷ (no_table s.volume (c ∷ []), code.TableFull) ∷ (no_blocks s.volume (c ∷ []), code.Full)
    ∷ (too_many_asks after, code.TooManyAsks) ∷ (no_places s.volume 1 || no_numbers after, code.Exhausted) ∷ []

abbrev pub transfer : Live → ℕ → List ℕ → Arrow Filter Shown
transfer a at bytes =
    let c : Change = change.Filled a.ask.item at bytes in
    checked (transfer_tests a c at (length bytes)) (transfer_by a c (blocks_of at (length bytes)))

-- Refuse: no bytes for these blocks of a fetch ask

abbrev pub refuse_tests : Live → Span → Filter → List (Bool × Code)
refuse_tests a asked s =
    (not (is_fetch a.ask.kind), code.WrongKind) ∷ (is_misaligned s a asked.start asked.len, code.Misaligned)
    ∷ (is_outside a asked.start asked.len, code.OutsideAsk) ∷ []

abbrev pub refuse : Live → Span → ℕ → Arrow Filter Shown
refuse a asked status =
    checked (refuse_tests a asked) (then_do (settle a.ask.item (Fails a.ask.key (blocks_of asked.start asked.len) (cause.Failed status))) done)

-- Retrieve: the bytes here of a validate ask; reading them is a step

abbrev pub held_in : Live → Span → Filter → List (Option ℕ)
held_in a asked s = slice_range (held_of s.volume.items a.ask.item) asked.start (asked.start + asked.len)

abbrev pub retrieve_tests : Live → Span → Filter → List (Bool × Code)
retrieve_tests a asked s =
    (not (is_validate a.ask.kind), code.WrongKind)
    ∷ (is_outside a asked.start asked.len || not (length (held_in a asked s) == asked.len) || not (list_all is_some (held_in a asked s)), code.OutsideAsk) ∷ []

abbrev pub as_it_is : Filter → Filter
as_it_is s = s

abbrev pub retrieve_by : Live → List (Option ℕ) → Arrow Filter Shown
retrieve_by a held = then_do (one as_it_is) (then_do (settle a.ask.item (Leaves a.ask.key [])) (ret (shown.Retrieved (bytes_held held))))

abbrev pub retrieve : Live → Span → Arrow Filter Shown
retrieve a asked = checked (retrieve_tests a asked) (reading (held_in a asked) (retrieve_by a))

-- Ack: the bytes of these blocks of a validate ask are good, or not

abbrev pub ack_change : Live → Span → Bool → Change
ack_change a asked true = change.Validated a.ask.item asked.start asked.len
ack_change a asked false = change.Emptied a.ask.item asked.start asked.len

abbrev pub ack_deed : Live → Span → Bool → Deed
ack_deed a asked true = Leaves a.ask.key (blocks_of asked.start asked.len)
ack_deed a asked false = Fails a.ask.key (blocks_of asked.start asked.len) (cause.Failed 1)

abbrev pub ack_tests : Live → Span → Bool → Filter → List (Bool × Code)
ack_tests a asked good s =
    let after : Waiting = waiting_after a.ask.item (ack_deed a asked good) (with_changes (ack_change a asked good ∷ []) s) in
    (not (is_validate a.ask.kind), code.WrongKind) ∷ (is_misaligned s a asked.start asked.len, code.Misaligned)
    ∷ (is_outside a asked.start asked.len, code.OutsideAsk) ∷ (no_table s.volume (ack_change a asked good ∷ []), code.TableFull)
    ∷ (no_places s.volume 1 || no_numbers after, code.Exhausted) ∷ []

abbrev pub ack : Live → Span → Bool → Arrow Filter Shown
ack a asked good =
    checked (ack_tests a asked good) (then_do (change (ack_change a asked good)) (then_do (settle a.ask.item (ack_deed a asked good)) done))

-- Restart: the file's unmodified bytes leave, and its hydration starts again

abbrev pub restart_change : Live → Filter → Change
restart_change a s = change.Emptied a.ask.item 0 (size_at s.volume.items a.ask.item)

abbrev pub restart_tests : Live → Filter → List (Bool × Code)
restart_tests a s =
    let after : Waiting = waiting_after a.ask.item Restarts (with_changes (restart_change a s ∷ []) s) in
    (not (is_data a.ask.kind), code.WrongKind) ∷ (not s.policy.restart, code.RestartDenied) ∷ (no_table s.volume (restart_change a s ∷ []), code.TableFull)
    ∷ (too_many_asks after, code.TooManyAsks) ∷ (no_places s.volume 1 || no_numbers after, code.Exhausted) ∷ []

abbrev pub restart_by : Live → Change → Arrow Filter Shown
restart_by a c = then_do (change c) (then_do (settle a.ask.item Restarts) done)

abbrev pub restart : Live → Arrow Filter Shown
restart a = checked (restart_tests a) (reading (restart_change a) (restart_by a))

-- Entries: the entries of a list ask; the book may change in the same step

abbrev pub is_twice : List NewItem → Bool
is_twice [] = false
is_twice (e ∷ es) = list_any (λ f. same e.name f.name) es || is_twice es

abbrev pub entry_kind : Policy → Bool → Kind
entry_kind p false = kind.PlaceholderFile
entry_kind p true = placeholder_dir p

-- the changes of these entries, under the ids and numbers from these on
abbrev pub entry_changes : Policy → ItemId → ℕ → Usn → List NewItem → List Change
entry_changes p parent item n [] = []
entry_changes p parent item n (e ∷ es) =
    change.Make (record { 0 = item }) parent e.name (entry_kind p e.dir) (cond e.dir 0 e.size) e.identity
    ∷ when e.mark (change.Mark (record { 0 = item }) n ∷ [])
    ++ entry_changes p parent (item + 1) (record n { place = n.place + cond e.mark 2 1 }) es

abbrev pub list_changes : Live → List NewItem → Filter → List Change
list_changes a list s = entry_changes s.policy a.ask.item s.volume.next_item.0 (next_number s.volume) list ++ change.Populated a.ask.item ∷ []

abbrev pub changes_listed : Live → List NewItem → Bool → Filter → List Change
changes_listed a list good s = when good (list_changes a list s)

-- too many items or bytes after the changes, each of them tested, and with the records that come with them
abbrev pub no_table_listed : (Book → Book) → List Change → Volume → Bool
no_table_listed f cs v = no_table v cs || (not (is_empty cs) && table_full (put_changes cs v).items (f (put_changes cs v).book))

abbrev pub entries_tests : (Book → Book) → Live → List NewItem → List Change → Filter → List (Bool × Code)
entries_tests f a list cs s =
    (not (is_list a.ask.kind), code.WrongKind) ∷ (not (list_all (λ e. is_name e.name) list), code.BadPath) ∷ (is_twice list, code.Exists)
    ∷ (list_any (λ e. nat_lt MOST_IDENTITY_BYTES (length e.identity)) list, code.IdentityTooLong) ∷ (list_any (λ e. not e.dir && nat_lt MOST_FILE_BYTES e.size) list, code.TooLarge)
    ∷ (list_any (λ e. not e.dir && is_always_full s.policy.hydration && nat_lt 0 e.size) list, code.PolicyDenied)
    ∷ (not (is_empty list) && nat_le MOST_PATH_NAMES (depth_at s.volume.items a.ask.item), code.TooDeep)
    ∷ (no_table_listed f cs s.volume, code.TableFull) ∷ (lacks_numbers s.volume cs, code.Exhausted) ∷ []

-- the book changes with the last change
abbrev pub changes_with : (Book → Book) → List Change → Arrow Filter (Unit {0})
changes_with f [] = ret (record {})
changes_with f (c ∷ []) = change_with f c
changes_with f (c ∷ d ∷ cs) = then_do (change c) (changes_with f (d ∷ cs))

abbrev pub entries_deed : Live → Bool → Deed
entries_deed a true = Finishes a.ask.key cause.Met
entries_deed a false = Finishes a.ask.key (cause.Failed 1)

abbrev pub entries_by : (Book → Book) → Live → List NewItem → Bool → List Change → Arrow Filter Shown
entries_by f a list good cs =
    checked (entries_tests f a list cs) (then_do (changes_with f cs) (then_do (settle a.ask.item (entries_deed a good)) done))

abbrev pub entries : (Book → Book) → Live → List NewItem → Bool → Arrow Filter Shown
entries f a list good = reading (changes_listed a list good) (entries_by f a list good)

-- AckDehydrate: consent to a dehydrate ask, or none

-- the verdict, taken again, but for the ask's own wait
abbrev pub second_verdict : Live → Filter → Option Code
second_verdict a s = part (λ i. verdict s.policy i a.ask.span.start a.ask.span.len (in_use_beside a.ask.item a.wait s)) None (item_of s.volume.items a.ask.item)

abbrev pub dehydration : Live → Change
dehydration a = change.Emptied a.ask.item a.ask.span.start a.ask.span.len

-- the change that consent makes, and why the wait ends
abbrev pub consent_changes : Live → Bool → Option Code → List Change
consent_changes a false refusal = []
consent_changes a true None = dehydration a ∷ []
consent_changes a true (Some c) = []

abbrev pub consent_deed : Live → Bool → Option Code → Deed
consent_deed a false refusal = Finishes a.ask.key (cause.Failed 1)
consent_deed a true None = Finishes a.ask.key cause.Emptied
consent_deed a true (Some c) = Finishes a.ask.key (cause.Refused c)

abbrev pub consent_tests : Live → List Change → Filter → List (Bool × Code)
consent_tests a cs s = (not (is_dehydrate a.ask.kind), code.WrongKind) ∷ (no_places s.volume (length cs), code.Exhausted) ∷ []

abbrev pub consent_by : Live → Bool → Option Code → Arrow Filter Shown
consent_by a good refusal =
    checked (consent_tests a (consent_changes a good refusal))
    (then_do (changes (consent_changes a good refusal)) (then_do (settle a.ask.item (consent_deed a good refusal)) done))

abbrev pub ack_dehydrate : Live → Bool → Arrow Filter Shown
ack_dehydrate a good = reading (second_verdict a) (consent_by a good)

-- all of them

abbrev pub key_of : Operation → Key
key_of (operation.Transfer key at bytes) = key
key_of (operation.Refuse key asked status) = key
key_of (operation.Retrieve key asked) = key
key_of (operation.Ack key asked good) = key
key_of (operation.Restart key) = key
key_of (operation.Entries key list good) = key
key_of (operation.AckDehydrate key good) = key

-- an operation on a live ask
abbrev pub on_ask : (Book → Book) → Operation → Live → Arrow Filter Shown
on_ask f (operation.Transfer key at bytes) a = transfer a at bytes
on_ask f (operation.Refuse key asked status) a = refuse a asked status
on_ask f (operation.Retrieve key asked) a = retrieve a asked
on_ask f (operation.Ack key asked good) a = ack a asked good
on_ask f (operation.Restart key) a = restart a
on_ask f (operation.Entries key list good) a = entries f a list good
on_ask f (operation.AckDehydrate key good) a = ack_dehydrate a good

abbrev pub on_live : (Book → Book) → Operation → Option Live → Arrow Filter Shown
on_live f op None = ret (shown.Refused code.StaleKey)
on_live f op (Some a) = on_ask f op a

abbrev pub live_at : Key → Filter → Option Live
live_at key s = live_of s.waiting.asks key

-- One operation; where it is Entries, the book changes so in the same step.
abbrev pub execute_with : (Book → Book) → Operation → Arrow Filter Shown
execute_with f op = reading (live_at (key_of op)) (on_live f op)

abbrev pub execute : Operation → Arrow Filter Shown
execute op = execute_with same_book op
