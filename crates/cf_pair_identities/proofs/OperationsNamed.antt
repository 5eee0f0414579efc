-- The parts of `Operations` keep identities named.
use Rattle.std.proofs.Common.{◌≡◌, false, true, refl, sym, ◌∙◌, subst, ◌+◌}
use Rattle.std.specs.Prelude.{ℕ, Bool, List, [], ◌∷◌, length, Option, Some, None, cond}
use Rattle.cf_base.specs.declared.answers.Shown.{Shown}
use Rattle.cf_base.specs.declared.answers.Shown.TheVariants as shown
use Rattle.cf_base.specs.declared.changes.Change.{Change}
use Rattle.cf_base.specs.declared.changes.Change.TheVariants as change
use Rattle.cf_base.specs.declared.codes.Code.{Code}
use Rattle.cf_base.specs.declared.codes.Code.TheVariants as code
use Rattle.cf_base.specs.declared.ids.ItemId.{ItemId}
use Rattle.cf_base.specs.declared.ids.Usn.{Usn}
use Rattle.cf_base.specs.declared.operations.NewItem.{NewItem}
use Rattle.cf_base.specs.declared.operations.Operation.{Operation}
use Rattle.cf_base.specs.declared.operations.Operation.TheVariants as operation
use Rattle.cf_base.specs.declared.policies.Policy.{Policy}
use Rattle.cf_base.specs.declared.spans.Span.{Span}
use Rattle.cf_base.specs.declared.waits.Cause.TheVariants as cause
use Rattle.cf_model.specs.Arrows.{Arrow, one, Preserves, reading, ret, then_do}
use Rattle.cf_model.specs.Blocks.{blocks_of}
use Rattle.cf_model.specs.Books.{Book}
use Rattle.cf_model.specs.Changes.{change, changes, next_number, same_book}
use Rattle.cf_model.specs.Effects.{is_directory, is_populated}
use Rattle.cf_model.specs.Items.{bytes_held}
use Rattle.cf_model.specs.Operations.{ack, ack_change, ack_deed, ack_dehydrate, ack_tests, as_it_is, changes_listed, changes_with, checked, consent_by, consent_changes, consent_deed, consent_tests, done, entries, entries_by, entries_deed, entries_tests, entry_changes, entry_kind, execute, execute_with, held_in, key_of, list_changes, live_at, on_ask, on_live, refuse, refuse_tests, restart, restart_by, restart_change, restart_tests, retrieve, retrieve_by, retrieve_tests, second_verdict, transfer, transfer_by, transfer_tests}
use Rattle.cf_model.specs.Requests.{Fails, Leaves, Live, Restarts}
use Rattle.cf_model.specs.Settling.{settle}
use Rattle.cf_model.specs.State.{Filter}
use Rattle.cf_model.specs.Words.{first_of, when}
use Rattle.cf_model.proofs.ArrowLaws.{keeps_one, keeps_reading, keeps_ret, keeps_then, keeps_unless}
use Rattle.cf_model_laws.specs.Invariant.{All}
use Rattle.cf_model_laws.proofs.Gathered.{all_append}
use Rattle.cf_model_laws.proofs.RightItems.{no_way}
use Rattle.cf_pair_identities.specs.Named.{Gives, GivesNew, IsNamedAs, IsNew, NamedIn, StandsAs}
use Rattle.cf_pair_identities.proofs.NamedKinds.{dir_filled, dir_is, when_give}
use Rattle.cf_pair_identities.proofs.NamedSteps.{change_keeps, changes_keeps, settled_named}

pub checked_keeps : (full : Bool) → (x1 : (Filter → List (Bool × Code))) → (x2 : Arrow Filter Shown) → (Preserves (NamedIn full) (x2)) → Preserves (NamedIn full) (checked x1 x2)
checked_keeps full tests f f_keeps = record { keeps = λ s h. (keeps_unless (NamedIn full) shown.Refused (first_of (tests s)) f f_keeps).keeps s h }

pub done_keeps : (full : Bool) → Preserves (NamedIn full) (done)
done_keeps full = keeps_ret (NamedIn full) shown.Done

pub transfer_by_keeps : (full : Bool) → (x1 : Live) → (x2 : Change) → (x3 : List ℕ) → Gives full x2 → Preserves (NamedIn full) (transfer_by x1 x2 x3)
transfer_by_keeps full a c blocks g =
    keeps_then (NamedIn full)
    (change c)
    (then_do (settle a.ask.item (Leaves a.ask.key blocks)) done)
    (change_keeps full same_book c g)
    (keeps_then (NamedIn full) (settle a.ask.item (Leaves a.ask.key blocks)) done (settled_named full a.ask.item (Leaves a.ask.key blocks)) (done_keeps full))

pub transfer_keeps : (full : Bool) → (x1 : Live) → (x2 : ℕ) → (x3 : List ℕ) → Preserves (NamedIn full) (transfer x1 x2 x3)
transfer_keeps full a at bytes = let c : Change = change.Filled a.ask.item at bytes in (checked_keeps full (transfer_tests a c at (length bytes)) (transfer_by a c (blocks_of at (length bytes))) (transfer_by_keeps full a c (blocks_of at (length bytes)) tt))

pub refuse_keeps : (full : Bool) → (x1 : Live) → (x2 : Span) → (x3 : ℕ) → Preserves (NamedIn full) (refuse x1 x2 x3)
refuse_keeps full a asked status = checked_keeps full (refuse_tests a asked) (then_do (settle a.ask.item (Fails a.ask.key (blocks_of asked.start asked.len) (cause.Failed status))) done) (keeps_then (NamedIn full) (settle a.ask.item (Fails a.ask.key (blocks_of asked.start asked.len) (cause.Failed status))) done (settled_named full a.ask.item (Fails a.ask.key (blocks_of asked.start asked.len) (cause.Failed status))) (done_keeps full))

pub retrieve_by_keeps : (full : Bool) → (x1 : Live) → (x2 : List (Option ℕ)) → Preserves (NamedIn full) (retrieve_by x1 x2)
retrieve_by_keeps full a held =
    keeps_then (NamedIn full) (one as_it_is) (then_do (settle a.ask.item (Leaves a.ask.key [])) (ret (shown.Retrieved (bytes_held held))))
    (keeps_one (NamedIn full) as_it_is (λ s h. h))
    (keeps_then (NamedIn full) (settle a.ask.item (Leaves a.ask.key [])) (ret (shown.Retrieved (bytes_held held))) (settled_named full a.ask.item (Leaves a.ask.key [])) (keeps_ret (NamedIn full) (shown.Retrieved (bytes_held held))))

pub retrieve_keeps : (full : Bool) → (x1 : Live) → (x2 : Span) → Preserves (NamedIn full) (retrieve x1 x2)
retrieve_keeps full a asked = checked_keeps full (retrieve_tests a asked) (reading (held_in a asked) (retrieve_by a)) (keeps_reading (NamedIn full) (held_in a asked) (retrieve_by a) (retrieve_by_keeps full a))

ack_gives : (full : Bool) (a : Live) (asked : Span) (good : Bool) → Gives full (ack_change a asked good)
ack_gives full a asked true = tt
ack_gives full a asked false = tt

pub ack_keeps : (full : Bool) → (x1 : Live) → (x2 : Span) → (x3 : Bool) → Preserves (NamedIn full) (ack x1 x2 x3)
ack_keeps full a asked good = checked_keeps full (ack_tests a asked good) (then_do (change (ack_change a asked good)) (then_do (settle a.ask.item (ack_deed a asked good)) done)) (keeps_then (NamedIn full) (change (ack_change a asked good)) (then_do (settle a.ask.item (ack_deed a asked good)) done) (change_keeps full same_book (ack_change a asked good) (ack_gives full a asked good)) (keeps_then (NamedIn full) (settle a.ask.item (ack_deed a asked good)) done (settled_named full a.ask.item (ack_deed a asked good)) (done_keeps full)))

pub restart_by_keeps : (full : Bool) → (x1 : Live) → (x2 : Change) → Gives full x2 → Preserves (NamedIn full) (restart_by x1 x2)
restart_by_keeps full a c g =
    keeps_then (NamedIn full)
    (change c)
    (then_do (settle a.ask.item Restarts) done)
    (change_keeps full same_book c g)
    (keeps_then (NamedIn full) (settle a.ask.item Restarts) done (settled_named full a.ask.item Restarts) (done_keeps full))

pub restart_keeps : (full : Bool) → (x1 : Live) → Preserves (NamedIn full) (restart x1)
restart_keeps full a = checked_keeps full (restart_tests a) (reading (restart_change a) (restart_by a)) (record { keeps = λ s h. (restart_by_keeps full a (restart_change a s) tt).keeps s h })

pub changes_with_keeps : (full : Bool) → (x1 : (Book → Book)) → (x2 : List Change) → All (Gives full) x2 → Preserves (NamedIn full) (changes_with x1 x2)
changes_with_keeps full f [] g = keeps_ret (NamedIn full) (record {})
changes_with_keeps full f (c ∷ []) g = change_keeps full f c g.0
changes_with_keeps full f (c ∷ d ∷ cs) g = keeps_then (NamedIn full) (change c) (changes_with f (d ∷ cs)) (change_keeps full same_book c g.0) (changes_with_keeps full f (d ∷ cs) g.1)

pub entries_by_keeps : (full : Bool) → (x1 : (Book → Book)) → (x2 : Live) → (x3 : List NewItem) → (x4 : Bool) → (x5 : List Change) → All (Gives full) x5 → Preserves (NamedIn full) (entries_by x1 x2 x3 x4 x5)
entries_by_keeps full f a list good cs g = checked_keeps full (entries_tests f a list cs) (then_do (changes_with f cs) (then_do (settle a.ask.item (entries_deed a good)) done)) (keeps_then (NamedIn full) (changes_with f cs) (then_do (settle a.ask.item (entries_deed a good)) done) (changes_with_keeps full f cs g) (keeps_then (NamedIn full) (settle a.ask.item (entries_deed a good)) done (settled_named full a.ask.item (entries_deed a good)) (done_keeps full)))

-- the new items of a listing

entry_gives : (full : Bool) (p : Policy) (e : NewItem) → StandsAs full p.population → IsNew e → (dir : Bool) → e.dir ≡ dir → IsNamedAs (is_directory (entry_kind p dir)) e.identity × (full ≡ false → is_directory (entry_kind p dir) ≡ true → is_populated (entry_kind p dir) ≡ true)
entry_gives full p e stands g false q = (subst (λ (b : Bool). IsNamedAs b e.identity) q g, λ _ d. no_way d)
entry_gives full p e stands g true q = (subst (λ (b : Bool). IsNamedAs b e.identity) (q ∙ sym (dir_is p)) g, dir_filled full p stands)

listed_give : (full : Bool) (p : Policy) (parent : ItemId) (item : ℕ) (n : Usn) (list : List NewItem) → StandsAs full p.population → All IsNew list → All (Gives full) (entry_changes p parent item n list)
listed_give full p parent item n [] stands g = tt
listed_give full p parent item n (e ∷ es) stands g = (
  entry_gives full p e stands g.0 e.dir refl,
  all_append (Gives full) (when e.mark (change.Mark (record { 0 = item }) n ∷ [])) _ (when_give full e.mark (change.Mark (record { 0 = item }) n ∷ []) (tt, tt))
      (listed_give full p parent (item + 1) (record n { place = n.place + cond e.mark 2 1 }) es stands g.1),
)

changes_give : (full : Bool) (a : Live) (list : List NewItem) (good : Bool) (x : Filter) → StandsAs full x.policy.population → All IsNew list → All (Gives full) (changes_listed a list good x)
changes_give full a list good x stands g =
    when_give full good (list_changes a list x) (all_append (Gives full) (entry_changes x.policy a.ask.item x.volume.next_item.0 (next_number x.volume) list) (change.Populated a.ask.item ∷ [])
    (listed_give full x.policy a.ask.item x.volume.next_item.0 (next_number x.volume) list stands g) (tt, tt))

pub entries_keeps : (full : Bool) → (x1 : (Book → Book)) → (x2 : Live) → (x3 : List NewItem) → (x4 : Bool) → All IsNew x3 → Preserves (NamedIn full) (entries x1 x2 x3 x4)
entries_keeps full f a list good g = record { keeps = λ x h. (entries_by_keeps full f a list good (changes_listed a list good x) (changes_give full a list good x h.1 g)).keeps x h }

consent_give : (full : Bool) (a : Live) (good : Bool) (refusal : Option Code) → All (Gives full) (consent_changes a good refusal)
consent_give full a false refusal = tt
consent_give full a true None = (tt, tt)
consent_give full a true (Some c) = tt

pub consent_by_keeps : (full : Bool) → (x1 : Live) → (x2 : Bool) → (x3 : Option Code) → Preserves (NamedIn full) (consent_by x1 x2 x3)
consent_by_keeps full a good refusal = checked_keeps full (consent_tests a (consent_changes a good refusal)) (then_do (changes (consent_changes a good refusal)) (then_do (settle a.ask.item (consent_deed a good refusal)) done)) (keeps_then (NamedIn full) (changes (consent_changes a good refusal)) (then_do (settle a.ask.item (consent_deed a good refusal)) done) (changes_keeps full (consent_changes a good refusal) (consent_give full a good refusal)) (keeps_then (NamedIn full) (settle a.ask.item (consent_deed a good refusal)) done (settled_named full a.ask.item (consent_deed a good refusal)) (done_keeps full)))

pub ack_dehydrate_keeps : (full : Bool) → (x1 : Live) → (x2 : Bool) → Preserves (NamedIn full) (ack_dehydrate x1 x2)
ack_dehydrate_keeps full a good = keeps_reading (NamedIn full) (second_verdict a) (consent_by a good) (consent_by_keeps full a good)

pub on_ask_keeps : (full : Bool) → (x1 : (Book → Book)) → (x2 : Operation) → (x3 : Live) → GivesNew x2 → Preserves (NamedIn full) (on_ask x1 x2 x3)
on_ask_keeps full f (operation.Transfer key at bytes) a g = transfer_keeps full a at bytes
on_ask_keeps full f (operation.Refuse key asked status) a g = refuse_keeps full a asked status
on_ask_keeps full f (operation.Retrieve key asked) a g = retrieve_keeps full a asked
on_ask_keeps full f (operation.Ack key asked good) a g = ack_keeps full a asked good
on_ask_keeps full f (operation.Restart key) a g = restart_keeps full a
on_ask_keeps full f (operation.Entries key list good) a g = entries_keeps full f a list good g
on_ask_keeps full f (operation.AckDehydrate key good) a g = ack_dehydrate_keeps full a good

pub on_live_keeps : (full : Bool) → (x1 : (Book → Book)) → (x2 : Operation) → GivesNew x2 → (x3 : Option Live) → Preserves (NamedIn full) (on_live x1 x2 x3)
on_live_keeps full f op g None = keeps_ret (NamedIn full) (shown.Refused code.StaleKey)
on_live_keeps full f op g (Some a) = on_ask_keeps full f op a g

pub execute_with_keeps : (full : Bool) → (x1 : (Book → Book)) → (x2 : Operation) → GivesNew x2 → Preserves (NamedIn full) (execute_with x1 x2)
execute_with_keeps full f op g = keeps_reading (NamedIn full) (live_at (key_of op)) (on_live f op) (on_live_keeps full f op g)

pub execute_keeps : (full : Bool) → (x1 : Operation) → GivesNew x1 → Preserves (NamedIn full) (execute x1)
execute_keeps full op g = execute_with_keeps full same_book op g
