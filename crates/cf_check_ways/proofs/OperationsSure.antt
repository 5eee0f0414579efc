-- The parts of `Operations` are sure, each by its own parts.
use Rattle.std.proofs.Common.{◌≡◌, ◌+◌, ◌||◌, cond, not, refl, ap}
use Rattle.std.specs.Prelude.{ℕ, Bool, true, false, List, [], ◌∷◌, length, Option, Some, None}
use Rattle.cf_base.specs.declared.changes.Change.{Change}
use Rattle.cf_base.specs.declared.changes.Change.TheVariants as change
use Rattle.cf_base.specs.declared.answers.Shown.{Shown}
use Rattle.cf_base.specs.declared.answers.Shown.TheVariants as shown
use Rattle.cf_base.specs.declared.codes.Code.{Code}
use Rattle.cf_base.specs.declared.codes.Code.TheVariants as code
use Rattle.cf_base.specs.declared.ids.ItemId.{ItemId}
use Rattle.cf_base.specs.declared.ids.Usn.{Usn}
use Rattle.cf_base.specs.declared.operations.NewItem.{NewItem}
use Rattle.cf_base.specs.declared.operations.Operation.{Operation}
use Rattle.cf_base.specs.declared.operations.Operation.TheVariants as operation
use Rattle.cf_base.specs.declared.policies.Policy.{Policy}
use Rattle.cf_base.specs.declared.spans.Span.{Span}
use Rattle.cf_base.specs.declared.waits.Cause.TheVariants as cause
use Rattle.cf_model.specs.Arrows.{Arrow, one, reading, ret, then_do, unless}
use Rattle.cf_model.specs.Requests.{Fails, Leaves, Live, Restarts, Waiting, is_fetch, no_numbers, too_many_asks}
use Rattle.cf_model.specs.Blocks.{blocks_of}
use Rattle.cf_model.specs.Books.{Book}
use Rattle.cf_model.specs.Changes.{change, changes, next_number, no_blocks, no_places, no_table, same_book}
use Rattle.cf_model.specs.Items.{bytes_held}
use Rattle.cf_model.specs.Settling.{settle}
use Rattle.cf_model.specs.State.{Filter}
use Rattle.cf_model.specs.Words.{first_of, when}
use Rattle.cf_model.specs.Operations.{ack, ack_change, ack_deed, ack_dehydrate, ack_tests, as_it_is, changes_listed, changes_with, checked, consent_by, consent_changes, consent_deed, consent_tests, done, entries, entries_by, entries_deed, entries_tests, entry_changes, execute, execute_with, held_in, is_misaligned, is_outside, key_of, live_at, on_ask, on_live, refuse, refuse_tests, restart, restart_by, restart_change, restart_tests, retrieve, retrieve_by, retrieve_tests, second_verdict, transfer, transfer_by, transfer_tests, waiting_after, with_changes}
use Rattle.cf_check_ways.specs.Ways.{IsSure, IsSureFrom, Reads, of_filter}
use Rattle.cf_check_ways.proofs.Sure.{plain_quiet, reads_fixed, sure_at, sure_fixed, sure_known, sure_one, sure_reading, sure_ret, sure_then, sure_then_from, sure_unless}
use Rattle.cf_check_ways.proofs.ChangesSure.{PutNothing, PutsNothing, both_put_nothing, change_sure, changes_sure, changes_with_sure, checked_sure_from, first_room, passes_first}
use Rattle.cf_check_ways.proofs.VolumeSteps.{HasRoom, change_sure_from, settle_sure}
use Rattle.cf_check_ways.proofs.RoomReads.{reads_entries}

pub checked_sure : (tests : (Filter → List (Bool × Code))) → (f : Arrow Filter Shown) → Reads of_filter tests → IsSure of_filter f → IsSure of_filter (checked tests f)
checked_sure tests f same f_sure = sure_at of_filter (checked tests f) (λ s. first_of (tests s)) (λ c. unless shown.Refused c f) (λ s. refl) (λ s o e. ap first_of (same s o e)) (λ c. sure_unless of_filter shown.Refused c f f_sure)

pub done_sure : IsSure of_filter (done)
done_sure = sure_ret of_filter shown.Done

pub transfer_by_sure : (x1 : Live) → (x2 : Change) → (x3 : List ℕ) → IsSureFrom of_filter (λ s. HasRoom x2 s.volume) (transfer_by x1 x2 x3)
transfer_by_sure a c blocks = sure_then_from of_filter (λ s. HasRoom c s.volume) (change c) (then_do (settle a.ask.item (Leaves a.ask.key blocks)) done) (change_sure_from same_book c) (sure_then of_filter (settle a.ask.item (Leaves a.ask.key blocks)) done (settle_sure a.ask.item (Leaves a.ask.key blocks)) (done_sure))

transfer_fits : (a : Live) (c : Change) (at len : ℕ) (s : Filter) → first_of (transfer_tests a c at len s) ≡ None → HasRoom c s.volume
transfer_fits a c at len s h =
    let after : Waiting = waiting_after a.ask.item (Leaves a.ask.key (blocks_of at len)) (with_changes (c ∷ []) s) in
    first_room c [] s.volume
    (fifth (not (is_fetch a.ask.kind)) (is_misaligned s a at len) (is_outside a at len) (no_table s.volume (c ∷ [])) (no_blocks s.volume (c ∷ []))
    ((too_many_asks after, code.TooManyAsks) ∷ (no_places s.volume 1 || no_numbers after, code.Exhausted) ∷ []) h)
  where
    fifth : (kind place ask table full : Bool) (tests : List (Bool × Code))
        → first_of ((kind, code.WrongKind) ∷ (place, code.Misaligned) ∷ (ask, code.OutsideAsk) ∷ (table, code.TableFull) ∷ (full, code.Full) ∷ tests) ≡ None → full ≡ false
    fifth kind place ask table full tests h =
        let w = passes_first kind code.WrongKind ((place, code.Misaligned) ∷ (ask, code.OutsideAsk) ∷ (table, code.TableFull) ∷ (full, code.Full) ∷ tests) h in
        let x = passes_first place code.Misaligned ((ask, code.OutsideAsk) ∷ (table, code.TableFull) ∷ (full, code.Full) ∷ tests) w.1 in
        let y = passes_first ask code.OutsideAsk ((table, code.TableFull) ∷ (full, code.Full) ∷ tests) x.1 in
        let z = passes_first table code.TableFull ((full, code.Full) ∷ tests) y.1 in
        (passes_first full code.Full tests z.1).0

pub transfer_sure : (x1 : Live) → (x2 : ℕ) → (x3 : List ℕ) → IsSure of_filter (transfer x1 x2 x3)
transfer_sure a at bytes =
    let c : Change = change.Filled a.ask.item at bytes in
    checked_sure_from (transfer_tests a c at (length bytes)) (transfer_by a c (blocks_of at (length bytes))) (reads_fixed of_filter (transfer_tests a c at (length bytes)) (λ s. refl))
    (sure_known of_filter (λ s. HasRoom c s.volume) (λ s. first_of (transfer_tests a c at (length bytes) s) ≡ None) (transfer_by a c (blocks_of at (length bytes))) (transfer_fits a c at (length bytes)) (transfer_by_sure a c (blocks_of at (length bytes))))

pub refuse_sure : (x1 : Live) → (x2 : Span) → (x3 : ℕ) → IsSure of_filter (refuse x1 x2 x3)
refuse_sure a asked status = checked_sure (refuse_tests a asked) (then_do (settle a.ask.item (Fails a.ask.key (blocks_of asked.start asked.len) (cause.Failed status))) done) (reads_fixed of_filter (refuse_tests a asked) (λ s. refl)) (sure_then of_filter (settle a.ask.item (Fails a.ask.key (blocks_of asked.start asked.len) (cause.Failed status))) done (settle_sure a.ask.item (Fails a.ask.key (blocks_of asked.start asked.len) (cause.Failed status))) (done_sure))

pub retrieve_by_sure : (x1 : Live) → (x2 : List (Option ℕ)) → IsSure of_filter (retrieve_by x1 x2)
retrieve_by_sure a held = sure_then of_filter (one as_it_is) (then_do (settle a.ask.item (Leaves a.ask.key [])) (ret (shown.Retrieved (bytes_held held)))) (sure_one of_filter as_it_is (plain_quiet of_filter as_it_is (λ s. refl) (λ s. refl) (λ s. refl) (λ s. refl) (λ s. refl) (λ s. refl))) (sure_then of_filter (settle a.ask.item (Leaves a.ask.key [])) (ret (shown.Retrieved (bytes_held held))) (settle_sure a.ask.item (Leaves a.ask.key [])) (sure_ret of_filter (shown.Retrieved (bytes_held held))))

pub retrieve_sure : (x1 : Live) → (x2 : Span) → IsSure of_filter (retrieve x1 x2)
retrieve_sure a asked = checked_sure (retrieve_tests a asked) (reading (held_in a asked) (retrieve_by a)) (reads_fixed of_filter (retrieve_tests a asked) (λ s. refl)) (sure_reading of_filter (held_in a asked) (retrieve_by a) (reads_fixed of_filter (held_in a asked) (λ s. refl)) (retrieve_by_sure a))

acked_nothing : (a : Live) (asked : Span) (good : Bool) → PutsNothing (ack_change a asked good)
acked_nothing a asked true items = refl
acked_nothing a asked false items = refl

pub ack_sure : (x1 : Live) → (x2 : Span) → (x3 : Bool) → IsSure of_filter (ack x1 x2 x3)
ack_sure a asked good = checked_sure (ack_tests a asked good) (then_do (change (ack_change a asked good)) (then_do (settle a.ask.item (ack_deed a asked good)) done)) (reads_fixed of_filter (ack_tests a asked good) (λ s. refl)) (sure_then of_filter (change (ack_change a asked good)) (then_do (settle a.ask.item (ack_deed a asked good)) done) (change_sure same_book (ack_change a asked good) (acked_nothing a asked good)) (sure_then of_filter (settle a.ask.item (ack_deed a asked good)) done (settle_sure a.ask.item (ack_deed a asked good)) (done_sure)))

pub restart_by_sure : (x1 : Live) → (x2 : Change) → PutsNothing x2 → IsSure of_filter (restart_by x1 x2)
restart_by_sure a c none = sure_then of_filter (change c) (then_do (settle a.ask.item Restarts) done) (change_sure same_book c none) (sure_then of_filter (settle a.ask.item Restarts) done (settle_sure a.ask.item Restarts) (done_sure))

pub restart_sure : (x1 : Live) → IsSure of_filter (restart x1)
restart_sure a = checked_sure (restart_tests a) (reading (restart_change a) (restart_by a)) (reads_fixed of_filter (restart_tests a) (λ s. refl)) (sure_fixed of_filter (reading (restart_change a) (restart_by a)) (λ x. restart_by a (restart_change a x)) (λ s. refl) (λ x. restart_by_sure a (restart_change a x) (λ items. refl)))

pub entries_by_sure : (x1 : (Book → Book)) → (x2 : Live) → (x3 : List NewItem) → (x4 : Bool) → (x5 : List Change) → PutNothing x5 → IsSure of_filter (entries_by x1 x2 x3 x4 x5)
entries_by_sure f a list good cs none = checked_sure (entries_tests f a list cs) (then_do (changes_with f cs) (then_do (settle a.ask.item (entries_deed a good)) done)) (reads_entries f a list cs) (sure_then of_filter (changes_with f cs) (then_do (settle a.ask.item (entries_deed a good)) done) (changes_with_sure f cs none) (sure_then of_filter (settle a.ask.item (entries_deed a good)) done (settle_sure a.ask.item (entries_deed a good)) (done_sure)))

marked_nothing : (may : Bool) (item : ItemId) (n : Usn) → PutNothing (when may (change.Mark item n ∷ []))
marked_nothing true item n = ((λ items. refl), record {})
marked_nothing false item n = record {}

made_nothing : (p : Policy) (parent : ItemId) (item : ℕ) (n : Usn) (es : List NewItem) → PutNothing (entry_changes p parent item n es)
made_nothing p parent item n [] = record {}
made_nothing p parent item n (e ∷ es) =
    ((λ items. refl), both_put_nothing _ _ (marked_nothing e.mark (record { 0 = item }) n) (made_nothing p parent (item + 1) (record n { place = n.place + cond e.mark 2 1 }) es))

listed_nothing : (a : Live) (list : List NewItem) (good : Bool) (s : Filter) → PutNothing (changes_listed a list good s)
listed_nothing a list true s = both_put_nothing _ _ (made_nothing s.policy a.ask.item s.volume.next_item.0 (next_number s.volume) list) ((λ items. refl), record {})
listed_nothing a list false s = record {}

pub entries_sure : (x1 : (Book → Book)) → (x2 : Live) → (x3 : List NewItem) → (x4 : Bool) → IsSure of_filter (entries x1 x2 x3 x4)
entries_sure f a list good = sure_fixed of_filter (entries f a list good) (λ x. entries_by f a list good (changes_listed a list good x)) (λ s. refl) (λ x. entries_by_sure f a list good (changes_listed a list good x) (listed_nothing a list good x))

consented_nothing : (a : Live) (good : Bool) (refusal : Option Code) → PutNothing (consent_changes a good refusal)
consented_nothing a false refusal = record {}
consented_nothing a true None = ((λ items. refl), record {})
consented_nothing a true (Some c) = record {}

pub consent_by_sure : (x1 : Live) → (x2 : Bool) → (x3 : Option Code) → IsSure of_filter (consent_by x1 x2 x3)
consent_by_sure a good refusal = checked_sure (consent_tests a (consent_changes a good refusal)) (then_do (changes (consent_changes a good refusal)) (then_do (settle a.ask.item (consent_deed a good refusal)) done)) (reads_fixed of_filter (consent_tests a (consent_changes a good refusal)) (λ s. refl)) (sure_then of_filter (changes (consent_changes a good refusal)) (then_do (settle a.ask.item (consent_deed a good refusal)) done) (changes_sure (consent_changes a good refusal) (consented_nothing a good refusal)) (sure_then of_filter (settle a.ask.item (consent_deed a good refusal)) done (settle_sure a.ask.item (consent_deed a good refusal)) (done_sure)))

pub ack_dehydrate_sure : (x1 : Live) → (x2 : Bool) → IsSure of_filter (ack_dehydrate x1 x2)
ack_dehydrate_sure a good = sure_reading of_filter (second_verdict a) (consent_by a good) (reads_fixed of_filter (second_verdict a) (λ s. refl)) (consent_by_sure a good)

pub on_ask_sure : (x1 : (Book → Book)) → (x2 : Operation) → (x3 : Live) → IsSure of_filter (on_ask x1 x2 x3)
on_ask_sure f (operation.Transfer key at bytes) a = transfer_sure a at bytes
on_ask_sure f (operation.Refuse key asked status) a = refuse_sure a asked status
on_ask_sure f (operation.Retrieve key asked) a = retrieve_sure a asked
on_ask_sure f (operation.Ack key asked good) a = ack_sure a asked good
on_ask_sure f (operation.Restart key) a = restart_sure a
on_ask_sure f (operation.Entries key list good) a = entries_sure f a list good
on_ask_sure f (operation.AckDehydrate key good) a = ack_dehydrate_sure a good

pub on_live_sure : (x1 : (Book → Book)) → (x2 : Operation) → (x3 : Option Live) → IsSure of_filter (on_live x1 x2 x3)
on_live_sure f op None = sure_ret of_filter (shown.Refused code.StaleKey)
on_live_sure f op (Some a) = on_ask_sure f op a

pub execute_with_sure : (x1 : (Book → Book)) → (x2 : Operation) → IsSure of_filter (execute_with x1 x2)
execute_with_sure f op = sure_reading of_filter (live_at (key_of op)) (on_live f op) (reads_fixed of_filter (live_at (key_of op)) (λ s. refl)) (on_live_sure f op)

pub execute_sure : (x1 : Operation) → IsSure of_filter (execute x1)
execute_sure op = execute_with_sure same_book op
