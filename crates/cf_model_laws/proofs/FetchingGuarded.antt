-- What the parts of `Fetching` keep in `replay`, each by what its own parts keep.
use Rattle.std.specs.Prelude.{ℕ, true, false, List, [], length, map, filter, Option, Some, None, take, drop}
use Rattle.cf_base.specs.Codes.{number_of}
use Rattle.cf_base.specs.declared.answers.Shown.{Shown}
use Rattle.cf_base.specs.declared.answers.Shown.TheVariants as shown
use Rattle.cf_base.specs.declared.codes.Code.{Code}
use Rattle.cf_base.specs.declared.codes.Code.TheVariants as code
use Rattle.cf_base.specs.declared.ids.Key.{Key}
use Rattle.cf_base.specs.declared.messages.Entry.{Entry}
use Rattle.cf_base.specs.declared.operations.Operation.{Operation}
use Rattle.cf_base.specs.declared.operations.Operation.TheVariants as operation
use Rattle.cf_base.specs.declared.spans.Span.{Span}
use Rattle.cf_base.specs.declared.waits.AskKind.{AskKind}
use Rattle.cf_base.specs.declared.waits.AskKind.TheVariants as ask_kind
use Rattle.cf_model.specs.Arrows.{unit, Preserves, Arrow}
use Rattle.cf_model.specs.Requests.{Live, is_fetch, live_of, is_list}
use Rattle.cf_model.specs.Operations.{execute, execute_with}
use Rattle.cf_model.specs.Skips.{skip}
use Rattle.cf_model.specs.State.{State, in_filter, items_now, with_filter, Filter, book_now}
use Rattle.cf_model_laws.proofs.OperationsGuarded as operations_keep
use Rattle.cf_model_laws.proofs.StepsGuarded as skips_keep
use Rattle.cf_model.specs.Fetching.{after_listing, after_transfer, do_op, is_new, live_ask, new_item_of, no_entries, nothing_more, refuse_by_kind, refuse_for, refuse_live, span_at, take_bytes, take_gone, take_listing, take_missing, with_seen_from}
use Rattle.cf_model_laws.proofs.Guarded.{Guarded, KeepsCursor, AreSeenBelow}
use Rattle.cf_model.proofs.ArrowLaws.{keeps_ret, keeps_then}
use Rattle.std.proofs.Common.{◌≡◌, ◌<◌, ◌≤◌, ℕ, ◌+◌, suc, List, [], ◌∷◌, refl, true, false, arith, ap}
use Rattle.cf_model.specs.Books.{with_seen, Book}
use Rattle.cf_model.specs.Identities.{base_bytes, entry_identity}
use Rattle.cf_model.specs.Soundness.{Each}
use Rattle.cf_model.specs.Trees.{Keeps}
use Rattle.cf_model.proofs.TreeLaws.{keeps_bind, keeps_mapped}
use Rattle.cf_model_laws.specs.Invariant.{All, HasEntry, target_in}
use Rattle.cf_model_laws.specs.Premises.{IsFair}
use Rattle.cf_model_laws.proofs.EntryLaws.{new_fits, others_told, entry_small, entry_target_in}
use Rattle.cf_model_laws.proofs.Gathered.{all_filter, all_both, all_weaker}
use Rattle.cf_model_laws.proofs.OperationsGuarded.{NewFits}
use Rattle.cf_model_laws.proofs.SkipsGuarded.{seen_below}
use Rattle.cf_model_laws.proofs.SoundChanges.{KeepsEntries}
use Rattle.cf_model.specs.PushReplies.{is_new_entry}
use Rattle.std.specs.List.{list_any}
use Rattle.cf_model.specs.Fits.{are_distinct}
use Rattle.cf_model_laws.specs.Taken.{Heard, Since}
use Rattle.cf_base.specs.declared.ids.Rid.{Rid}

-- a part of the filter in the whole
pub in_filter_at : (P : State → Type 0) (f : Arrow Filter Shown) (s : State) → Keeps (λ x. P (with_filter x s)) (f s.filter) → Keeps P (in_filter f s)
in_filter_at P f s h = keeps_mapped (λ x. P (with_filter x s)) P (λ x. with_filter x s) (f s.filter) (λ x j. j) h

op_keeps : (P : State → Type 0) → Guarded P → (op : Operation) → ((s : State) → P s → Preserves (λ x. P (with_filter x s)) (execute op)) → Preserves P (do_op op)
op_keeps P closed op k = record { keeps = λ s h. keeps_bind P (in_filter (execute op) s) nothing_more (in_filter_at P (execute op) s ((k s h).keeps s.filter h)) (λ a t j. j) }

pub consents_op_keeps : (P : State → Type 0) → Guarded P → (key : Key) → Preserves P (do_op (operation.AckDehydrate key true))
consents_op_keeps P closed key = op_keeps P closed (operation.AckDehydrate key true) (λ s h. operations_keep.consented_keeps s.link s.volatile.tokens (λ x. P (with_filter x s)) (closed.on_filter s h) key)

pub refuse_op_keeps : (P : State → Type 0) → Guarded P → (key : Key) (span : Span) (status : ℕ) → Preserves P (do_op (operation.Refuse key span status))
refuse_op_keeps P closed key span status = op_keeps P closed (operation.Refuse key span status) (λ s h. operations_keep.refused_op_keeps s.link s.volatile.tokens (λ x. P (with_filter x s)) (closed.on_filter s h) key span status)

pub nothing_more_keeps : (P : State → Type 0) → Guarded P → (x1 : Shown) → Preserves P (nothing_more x1)
nothing_more_keeps P closed answer = keeps_ret P unit

pub refuse_for_keeps : (P : State → Type 0) → Guarded P → (x1 : Key) → (x2 : Span) → (x3 : Code) → Preserves P (refuse_for x1 x2 x3)
refuse_for_keeps P closed key span c = keeps_then P (skip c) (do_op (operation.Refuse key span (number_of c))) (skips_keep.skip_keeps P closed c) (refuse_op_keeps P closed key span (number_of c))

pub after_transfer_keeps : (P : State → Type 0) → Guarded P → (x1 : Key) → (x2 : Span) → (x3 : Shown) → Preserves P (after_transfer x1 x2 x3)
after_transfer_keeps P closed key span (shown.Refused code.Full) = refuse_for_keeps P closed key span code.Full
after_transfer_keeps P closed key span (shown.Refused code.TableFull) = refuse_for_keeps P closed key span code.TableFull
after_transfer_keeps P closed key span (shown.Refused code.TooManyAsks) = skips_keep.skip_keeps P closed code.TooManyAsks
after_transfer_keeps P closed key span (shown.Refused code.Exhausted) = skips_keep.skip_keeps P closed code.Exhausted
after_transfer_keeps P closed key span _ = keeps_ret P unit

pub no_entries_keeps : (P : State → Type 0) → Guarded P → (x1 : Key) → Preserves P (no_entries x1)
no_entries_keeps P closed key = op_keeps P closed (operation.Entries key [] false) (λ s h. operations_keep.no_entries_op_keeps s.link s.volatile.tokens (λ x. P (with_filter x s)) (closed.on_filter s h) key)

pub refuse_by_kind_keeps : (P : State → Type 0) → Guarded P → (x1 : AskKind) → (x2 : Live) → (x3 : ℕ) → Preserves P (refuse_by_kind x1 x2 x3)
refuse_by_kind_keeps P closed ask_kind.Fetch a status = refuse_op_keeps P closed a.ask.key a.ask.span status
refuse_by_kind_keeps P closed ask_kind.Validate a status = keeps_ret P unit
refuse_by_kind_keeps P closed ask_kind.List a status = no_entries_keeps P closed a.ask.key
refuse_by_kind_keeps P closed ask_kind.Dehydrate a status = keeps_ret P unit

pub refuse_live_keeps : (P : State → Type 0) → Guarded P → (x1 : ℕ) → (x2 : Option Live) → Preserves P (refuse_live x1 x2)
refuse_live_keeps P closed status None = keeps_ret P unit
refuse_live_keeps P closed status (Some a) = refuse_by_kind_keeps P closed a.ask.kind a status

pub take_missing_keeps : (P : State → Type 0) → Guarded P → (x1 : Key) → Preserves P (take_missing x1)
take_missing_keeps P closed key = record { keeps = λ s i_. ((refuse_live_keeps P closed 2 (live_ask s key))).keeps s i_ }

pub take_gone_keeps : (P : State → Type 0) → Guarded P → (x1 : Key) → Preserves P (take_gone x1)
take_gone_keeps P closed key = record { keeps = λ s i_. ((refuse_live_keeps P closed (number_of code.VersionGone) (live_ask s key))).keeps s i_ }

pub after_listing_keeps : (P : State → Type 0) → Guarded P → (x1 : Key) → (x2 : Shown) → Preserves P (after_listing x1 x2)
after_listing_keeps P closed key (shown.Refused code.TableFull) = skips_keep.skip_keeps P closed code.TableFull
after_listing_keeps P closed key (shown.Refused code.TooManyAsks) = skips_keep.skip_keeps P closed code.TooManyAsks
after_listing_keeps P closed key (shown.Refused code.Exhausted) = skips_keep.skip_keeps P closed code.Exhausted
after_listing_keeps P closed key (shown.Refused code.TooDeep) = keeps_then P (skip code.TooDeep) (no_entries key) (skips_keep.skip_keeps P closed code.TooDeep) (no_entries_keeps P closed key)
after_listing_keeps P closed key (shown.Refused c) = no_entries_keeps P closed key
after_listing_keeps P closed key _ = keeps_ret P unit

pub take_bytes_at : (P : State → Type 0) → Guarded P → (key : Key) (start : ℕ) (bytes : List ℕ) (s : State)
    → ((a : Live) → live_of s.filter.waiting.asks key ≡ Some a → IsFair s.link → is_fetch a.ask.kind ≡ true → Each a.ask.item (λ i. take (length bytes) (drop start (base_bytes s.link.remote i)) ≡ bytes) (items_now s)) → P s → Keeps P (take_bytes key start bytes s)
take_bytes_at P closed key start bytes s fit h =
    keeps_bind P (in_filter (execute (operation.Transfer key start bytes)) s) (after_transfer key (span_at start (length bytes)))
    (in_filter_at P (execute (operation.Transfer key start bytes)) s (operations_keep.fetched_at s.link s.volatile.tokens (λ x. P (with_filter x s)) (closed.on_filter s h) key start bytes s.filter fit h))
    (λ a t j. (after_transfer_keeps P closed key (span_at start (length bytes)) a).keeps t j)

seen_from_keeps : (id : ℕ) (es : List Entry) → KeepsEntries (with_seen_from id es)
seen_from_keeps id [] b = refl
seen_from_keeps id (e ∷ es) b = seen_from_keeps (id + 1) es (with_seen (record { item = record { 0 = id }; parent = e.parent; name = e.name }) b)

seen_from_below : (id : ℕ) (es : List Entry) (m : ℕ) (b : Book) → id + length es ≤ m → AreSeenBelow m b → AreSeenBelow m (with_seen_from id es b)
seen_from_below id [] m b low h = h
seen_from_below id (e ∷ es) m b low h =
    seen_from_below (id + 1) es m (with_seen (record { item = record { 0 = id }; parent = e.parent; name = e.name }) b) (rest id (length es) m low) (seen_below m (record { item = record { 0 = id }; parent = e.parent; name = e.name }) b (first id (length es) m low) h) where
      first : (k n m : ℕ) → k + suc n ≤ m → k < m
      first k n m h = omega (arith, h)

      rest : (k n m : ℕ) → k + suc n ≤ m → k + 1 + n ≤ m
      rest k n m h = omega (arith, h)

seen_from_cursor : (id : ℕ) (es : List Entry) → KeepsCursor (with_seen_from id es)
seen_from_cursor id [] b = refl
seen_from_cursor id (e ∷ es) b = seen_from_cursor (id + 1) es (with_seen (record { item = record { 0 = id }; parent = e.parent; name = e.name }) b)

pub take_listing_at : (P : State → Type 0) → Guarded P → (key : Key) (es : List Entry) (s : State) → ((a : Live) → live_of s.filter.waiting.asks key ≡ Some a → is_list a.ask.kind ≡ true → All (Heard false s) es) → (IsFair s.link → All (HasEntry s.link.remote) es) → All (λ e. e.rid.0 ≡ 1 → ⊥) es → (IsFair s.link → list_any is_new_entry (book_now s).entries ≡ false) → are_distinct es ≡ true → P s → Keeps P (take_listing key es s)
take_listing_at P closed key es s heard has low old apart h =
    let news : List Entry = filter (is_new (items_now s)) es in
    keeps_bind P (in_filter (execute_with (with_seen_from s.filter.volume.next_item.0 news) (operation.Entries key (map new_item_of news) true)) s) (after_listing key)
    (in_filter_at P (execute_with (with_seen_from s.filter.volume.next_item.0 news) (operation.Entries key (map new_item_of news) true)) s
    (operations_keep.listed_at s.link s.volatile.tokens (λ x. P (with_filter x s)) (closed.on_filter s h) (with_seen_from s.filter.volume.next_item.0 news) (seen_from_keeps s.filter.volume.next_item.0 news) key news s.filter (λ b. refl)
    (λ a live kind fair. record {
      at = none s.filter.volume.next_item.0;
      parts = refl;
      made = tt;
      left = all_filter (Since P s.link false (book_now s).cursor) (is_new (items_now s)) es (all_weaker (Heard false s) (Since P s.link false (book_now s).cursor) (λ e k. (s, h, k, refl, refl)) es (heard a live kind));
      small = all_filter (λ e. (target_in (entry_identity e)).0 ≡ e.rid.0) (is_new (items_now s)) es (all_weaker (HasEntry s.link.remote) (λ e. (target_in (entry_identity e)).0 ≡ e.rid.0) (λ e k. ap (λ (r : Rid). r.0) (entry_target_in e (entry_small s.link.remote e fair.1 k))) es (has fair));
    })
    (seen_from_below s.filter.volume.next_item.0 news, seen_from_cursor s.filter.volume.next_item.0 news)
    (λ fair. all_both (HasEntry s.link.remote) (λ e. e.rid.0 ≡ 1 → ⊥) (λ e. NewFits s.link.remote s.filter.policy (new_item_of e)) (λ e k g. new_fits s.link.remote s.filter.policy e fair.1 k g) news (all_filter (HasEntry s.link.remote) (is_new (items_now s)) es (has fair)) (all_filter (λ e. e.rid.0 ≡ 1 → ⊥) (is_new (items_now s)) es low)) old (λ fair. others_told s.link.remote (items_now s) es fair.1 (has fair) apart) h))
    (λ a t j. (after_listing_keeps P closed key a).keeps t j)
  where
    none : (n : ℕ) → n + 0 ≡ n
    none n = omega arith
