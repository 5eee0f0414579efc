-- What the parts of `Operations` keep in `replay`, each by what its own parts keep.
use Rattle.std.specs.Prelude.{◌&&◌, ℕ, Bool, List, [], ◌∷◌, length, Option, Some, None, cond, not, take, drop, map, ◌==◌}
use Rattle.cf_base.specs.declared.changes.Change.{Change}
use Rattle.cf_base.specs.declared.changes.Change.TheVariants as change
use Rattle.cf_base.specs.declared.answers.Shown.{Shown}
use Rattle.cf_base.specs.declared.answers.Shown.TheVariants as shown
use Rattle.cf_base.specs.declared.codes.Code.{Code}
use Rattle.cf_base.specs.declared.codes.Code.TheVariants as code
use Rattle.cf_base.specs.declared.operations.NewItem.{NewItem}
use Rattle.cf_base.specs.declared.operations.Operation.{Operation}
use Rattle.cf_base.specs.declared.operations.Operation.TheVariants as operation
use Rattle.cf_base.specs.declared.spans.Span.{Span}
use Rattle.cf_base.specs.declared.waits.Cause.TheVariants as cause
use Rattle.cf_model.specs.Arrows.{Arrow, ret, then_do, Preserves, unit}
use Rattle.cf_model.specs.Requests.{Fails, Leaves, Live, Waiting, live_of, is_fetch, is_list}
use Rattle.cf_model.specs.Blocks.{blocks_of}
use Rattle.cf_model.specs.Books.{Book, QueueEntry, with_seen}
use Rattle.cf_model.specs.Changes.{change_with, change, changes, same_book, next_number}
use Rattle.cf_model.specs.Items.{Item, item_of, pin_of, size_of}
use Rattle.cf_model.specs.Settling.{settle}
use Rattle.cf_model.specs.State.{Filter, Link}
use Rattle.cf_model.specs.Words.{first_of, number_of, part}
use Rattle.cf_model.specs.Operations.{changes_with, checked, consent_by, consent_deed, consent_tests, done, entries, entries_deed, entries_tests, execute, execute_with, key_of, on_ask, on_live, refuse, refuse_tests, second_verdict, transfer, transfer_by, transfer_tests, entry_changes, entry_kind, list_changes, dehydration, in_use_beside}
use Rattle.cf_model_laws.proofs.Guarded.{AreSeenBelow, GuardedFilter, IsAskOn, KeepsCursor, one_ask, settled_on}
use Rattle.cf_model.proofs.ArrowLaws.{keeps_ret, keeps_then, keeps_unless}
use Rattle.std.proofs.Common.{◌≡◌, ◌<◌, ◌≤◌, ◌+◌, ◌∷◌, ◌++◌, refl, sym, ◌∙◌, ap, subst, inl, inr, max, arith, List, [], ℕ, suc, Bool, true, false}
use Rattle.cf_base.specs.declared.ids.ItemId.{ItemId}
use Rattle.cf_base.specs.declared.ids.Usn.{Usn}
use Rattle.cf_base.specs.declared.ids.Key.{Key}
use Rattle.cf_base.specs.declared.items.Kind.TheVariants as kind
use Rattle.cf_base.specs.declared.messages.Entry.{Entry}
use Rattle.cf_base.specs.declared.policies.Policy.{Policy}
use Rattle.cf_model.specs.Contents.{base_named}
use Rattle.cf_model.specs.Effects.{is_directory, is_placeholder, made, size_made, writes_made, changed, effect}
use Rattle.cf_model.specs.Fetching.{new_item_of, with_seen_from}
use Rattle.cf_model.specs.Identities.{base_bytes, is_untargeted, entry_identity, target_of}
use Rattle.cf_model.specs.Numbers.{root_rid, same_key, usn_after}
use Rattle.cf_model.specs.Plans.{is_full_population, placeholder_dir}
use Rattle.cf_model.specs.Soundness.{Each}
use Rattle.cf_model.specs.Store.{Held}
use Rattle.cf_model.specs.Trees.{Keeps}
use Rattle.cf_model.specs.Verdicts.{is_bad_range, is_kept_full, is_pinned, verdict}
use Rattle.cf_model.proofs.TreeLaws.{keeps_bind}
use Rattle.cf_model_laws.specs.Fitting.{NamesWell, IsUnaimed, Populates}
use Rattle.cf_model_laws.specs.Invariant.{All, InOrder, target_in}
use Rattle.cf_model_laws.specs.Seats.{IsListed}
use Rattle.cf_model_laws.specs.Premises.{IsFair}
use Rattle.cf_model_laws.proofs.FitItems.{each_append, each_changed}
use Rattle.cf_model_laws.proofs.Gathered.{all_any, all_found, each_any}
use Rattle.cf_model_laws.proofs.Leading.{Leads, leads_bind, leads_weaker}
use Rattle.cf_model_laws.proofs.Plainly.{After, change_after, checked_at, head_false, keeps_led, tail_none, tail_of}
use Rattle.cf_model_laws.proofs.RightItems.{no_way}
use Rattle.cf_model_laws.proofs.SoundChanges.{KeepsEntries}
use Rattle.cf_model_laws.proofs.SoundSettles.{each_found, not_false}
use Rattle.std.proofs.lemmas.Bool.{eqb-true}
use Rattle.cf_model_laws.proofs.MadeUploads.{unmade_old}
use Rattle.cf_model.specs.PushReplies.{is_new_entry}
use Rattle.std.specs.List.{list_any}
use Rattle.cf_model_laws.proofs.AimedTargets.{AreOthers, below_root, named_in, others_after, unaimed_more, unaimed_still}
use Rattle.cf_model_laws.specs.Taken.{Knowledge, AreListedBy}
use Rattle.cf_base.specs.declared.ids.Rid.{Rid}
use Rattle.std.proofs.lemmas.List.{append-nil, append_assoc, length-append}

pub checked_keeps : {On : Knowledge} (l : Link) (tokens : ℕ) (P : Filter → Type 0) → GuardedFilter On l tokens P → (x1 : (Filter → List (Bool × Code))) → (x2 : Arrow Filter Shown) → (Preserves P (x2)) → Preserves P (checked x1 x2)
checked_keeps l tokens P closed tests f f_keeps = record { keeps = λ s i_. ((keeps_unless P shown.Refused (first_of (tests s)) f f_keeps)).keeps s i_ }

pub done_keeps : {On : Knowledge} (l : Link) (tokens : ℕ) (P : Filter → Type 0) → GuardedFilter On l tokens P → Preserves P (done)
done_keeps l tokens P closed = keeps_ret P shown.Done

-- a fill of the bytes of the base
pub transfer_at : {On : Knowledge} (l : Link) (tokens : ℕ) (P : Filter → Type 0) → GuardedFilter On l tokens P → (a : Live) (at : ℕ) (bytes : List ℕ) (x : Filter)
    → (IsFair l → is_fetch a.ask.kind ≡ true → Each a.ask.item (λ i. take (length bytes) (drop at (base_bytes l.remote i)) ≡ bytes) x.volume.items) → P x → Keeps P (transfer a at bytes x)
transfer_at l tokens P closed a at bytes x fit h =
    let c : Change = change.Filled a.ask.item at bytes in
    checked_at P (transfer_tests a c at (length bytes)) (transfer_by a c (blocks_of at (length bytes))) x h
    (λ e. closed.touch same_book c a.ask.item (Leaves a.ask.key (blocks_of at (length bytes))) x tt (λ b. refl) (λ fair. ((λ z b. refl), (λ k. k), λ b. refl)) (λ id k. k) (λ fair. fit fair (not_false (is_fetch a.ask.kind) (head_false (transfer_tests a c at (length bytes) x) e))) (λ fair. (tt, inl (λ b. refl), inl tt, λ b. refl)) h)

pub refuse_keeps : {On : Knowledge} (l : Link) (tokens : ℕ) (P : Filter → Type 0) → GuardedFilter On l tokens P → (x1 : Live) → (x2 : Span) → (x3 : ℕ) → Preserves P (refuse x1 x2 x3)
refuse_keeps l tokens P closed a asked status = checked_keeps l tokens P closed (refuse_tests a asked) (then_do (settle a.ask.item (Fails a.ask.key (blocks_of asked.start asked.len) (cause.Failed status))) done) (keeps_then P (settle a.ask.item (Fails a.ask.key (blocks_of asked.start asked.len) (cause.Failed status))) done (settled_on l tokens P closed a.ask.item (Fails a.ask.key (blocks_of asked.start asked.len) (cause.Failed status)) (λ x. (refl, tt))) (done_keeps l tokens P closed))

-- entries

-- what an entry of a directory needs
abbrev pub NewFits : Held → Policy → NewItem → Type 0
NewFits r p e = (length (base_named r e.identity) ≡ size_made (entry_kind p e.dir) (cond e.dir 0 e.size)) × NamesWell r (is_directory (entry_kind p e.dir)) (is_placeholder (entry_kind p e.dir)) e.identity × ((number_of (take 8 e.identity) == 0) ≡ false)

pub each_new : (id : ItemId) (P : Item → Type 0) (low next : ℕ) (items : List Item) → next ≡ id.0 → InOrder low next items → Each id P items
each_new id P low next [] e h = tt
each_new id P low next (i ∷ is) e h = (λ z. absurd (apart i.id.0 id.0 next (under i.id.0 next is h.1) e (eqb-true i.id.0 id.0 z)), each_new id P i.id.0 next is e h.1) where
  under : (low next : ℕ) (items : List Item) → InOrder low next items → low < next
  under low next [] h = h
  under low next (i ∷ is) h = let z : low < i.id.0 = h.0 in let y : i.id.0 < next = under i.id.0 next is h.1 in let w : low < next = omega (arith, z, y) in w

  apart : (a b n : ℕ) → a < n → n ≡ b → a ≡ b → ⊥
  apart a b n h e z = omega (arith, h, e, z)

pub each_none : (id : ItemId) (P : Item → Type 0) (items : List Item) → item_of items id ≡ None → Each id P items
each_none id P [] e = tt
each_none id P (i ∷ is) e = by (i.id.0 == id.0) refl e (each_none id P is) where
  by : (b : Bool) → (i.id.0 == id.0) ≡ b → cond b (Some i) (item_of is id) ≡ None → (item_of is id ≡ None → Each id P is) → Each id P (i ∷ is)
  by true q e g = cc
  by false q e g = (λ k. no_way (sym q ∙ k), g e)

abbrev usn_of : ℕ → ℕ → Usn
usn_of e p = record { epoch = e; place = p }

clean_made : (p : Policy) (dir : Bool) (n : Usn) → writes_made (entry_kind p dir) n ≡ []
clean_made p false n = refl
clean_made p true n = by (is_full_population p.population) where
  by : (b : Bool) → writes_made (cond b kind.UnpopulatedDir kind.PlaceholderDir) n ≡ []
  by true = refl
  by false = refl

pub dir_populates : (p : Policy) → Populates p (placeholder_dir p)
dir_populates p = by (is_full_population p.population) refl where
  by : (b : Bool) → is_full_population p.population ≡ b → Populates p (cond b kind.UnpopulatedDir kind.PlaceholderDir)
  by true q = q
  by false q = tt

-- what is made of an entry is populated, but under FULL population
pub kind_populates : (p : Policy) (directory : Bool) → Populates p (entry_kind p directory)
kind_populates p true = dir_populates p
kind_populates p false = tt

next_made : (n m : ℕ) → n ≡ m → max n (m + 1) ≡ m + 1
next_made n m e = omega (arith, e)

next_kept : (k n m : ℕ) → k ≡ max n 2 → n ≡ m → 2 ≤ n → k ≡ m
next_kept k n m q e h = omega (arith, q, e, h)

-- the number after two changes
plus_two : (e p q r : ℕ) → q ≡ p + 1 → r ≡ q + 1 → usn_after e r ≡ record { epoch = e; place = p + 1 + 2 }
plus_two e p q r a b = let z : r + 1 ≡ p + 1 + 2 = omega (arith, a, b) in ap (λ (m : ℕ). usn_of e m) z

number_after : (n : Usn) (e p q r : ℕ) → usn_after e p ≡ n → q ≡ p + 1 → r ≡ q + 1 → usn_after e r ≡ record n { place = n.place + 2 }
number_after n e p q r is a b = plus_two e p q r a b ∙ ap (λ (u : Usn). record u { place = u.place + 2 }) is

more_in : (P : Filter → Type 0) (f : Book → Book) (c d : Change) (cs : List Change) (x : Filter) → Keeps P (then_do (change c) (changes_with f (cs ++ d ∷ [])) x) → Keeps P (changes_with f (c ∷ (cs ++ d ∷ [])) x)
more_in P f c d [] x h = h
more_in P f c d (e ∷ cs) x h = h

abbrev IsUnmarked : Usn → Item → Type 0
IsUnmarked n i = (i.writes ≡ []) × (n ≡ i.number) × (is_untargeted i ≡ false)

targeted : (b : Bool) (identity : List ℕ) → (number_of (take 8 identity) == 0) ≡ false → ((cond b root_rid (record { 0 = number_of (take 8 identity) })).0 == 0) ≡ false
targeted true identity h = refl
targeted false identity h = h

-- the paths that come to be seen are of items below this one; the cursor stays
abbrev pub SeesFrom : (Book → Book) → ℕ → Type 0
SeesFrom f n = ((m : ℕ) (b : Book) → n ≤ m → AreSeenBelow m b → AreSeenBelow m (f b)) × KeepsCursor f

shift : (k n : ℕ) → k + suc n ≡ k + 1 + n
shift k n = omega arith

still_listed : (parent : ItemId) (x y : Filter) → y.waiting ≡ x.waiting → IsListed x parent → IsListed y parent
still_listed parent x y same h = (h.0, subst (λ (w : Waiting). live_of w.asks h.0.ask.key ≡ Some h.0) (sym same) h.1, h.2, h.3)

-- the items that are made come to have the targets of the entries

listed_more : (On : Entry → Type 0) (items : List Item) (new : Item) (id : ℕ) (es : List Entry) → id + length es ≡ new.id.0 → AreListedBy On items id es → AreListedBy On (items ++ new ∷ []) id es
listed_more On items new id [] e h = tt
listed_more On items new id (d ∷ es) e h =
    (h.0, each_append (record { 0 = id }) (λ i. (target_of i).0 ≡ d.rid.0) items new h.1 (λ q. absurd (past id (length es) new.id.0 e (eqb-true new.id.0 id q))), listed_more On items new (id + 1) es (sym (shift id (length es)) ∙ e) h.2) where
      past : (a n m : ℕ) → a + suc n ≡ m → m ≡ a → ⊥
      past a n m h k = omega (arith, h, k)

listed_still : (On : Entry → Type 0) (item : ItemId) (f : Item → Item) → ((i : Item) → (f i).id ≡ i.id) → ((i : Item) → target_of (f i) ≡ target_of i) → (items : List Item) (id : ℕ) (es : List Entry) → AreListedBy On items id es → AreListedBy On (changed item f items) id es
listed_still On item f same like items id [] h = tt
listed_still On item f same like items id (d ∷ es) h = (
  h.0,
  each_changed (record { 0 = id }) item f (λ i. Unit {0}) (λ i. (target_of i).0 ≡ d.rid.0) (λ i. (target_of i).0 ≡ d.rid.0) same (λ i _ k. ap (λ (r : Rid). r.0) (like i) ∙ k) (λ i k. k) items (each_any item (λ i. Unit {0}) (λ i. tt) items) h.1,
  listed_still On item f same like items (id + 1) es h.2,
)

listed_last : (On : Entry → Type 0) (items : List Item) (id : ℕ) (es : List Entry) (d : Entry) → AreListedBy On items id es → On d → Each (record { 0 = id + length es }) (λ i. (target_of i).0 ≡ d.rid.0) items → AreListedBy On items id (es ++ d ∷ [])
listed_last On items id [] d h on last = (on, subst (λ (n : ℕ). Each (record { 0 = n }) (λ i. (target_of i).0 ≡ d.rid.0) items) (none id) last, tt) where
  none : (n : ℕ) → n + 0 ≡ n
  none n = omega arith
listed_last On items id (e ∷ es) d h on last = (h.0, h.1, listed_last On items (id + 1) es d h.2 on (subst (λ (n : ℕ). Each (record { 0 = n }) (λ i. (target_of i).0 ≡ d.rid.0) items) (shift id (length es)) last))

-- What is known of a listing: these of its entries are made, and those are left. All are told.
pub record Listing (On : Entry → Type 0) (items : List Item) (start item : ℕ) (gone rest all : List Entry) : Type 0 where
  pub at : start + length gone ≡ item
  pub parts : all ≡ gone ++ rest
  pub made : AreListedBy On items start gone
  pub left : All On rest
  pub small : All (λ e. (target_in (entry_identity e)).0 ≡ e.rid.0) rest

listing_all : (On : Entry → Type 0) (items : List Item) (start item : ℕ) (gone all : List Entry) → Listing On items start item gone [] all → AreListedBy On items start all
listing_all On items start item gone all h = subst (AreListedBy On items start) (sym (h.parts ∙ append-nil gone)) h.made

listing_next : (On : Entry → Type 0) (items after : List Item) (start item : ℕ) (gone rest all : List Entry) (e : Entry) → AreListedBy On after start gone → Each (record { 0 = item }) (λ i. (target_of i).0 ≡ e.rid.0) after
    → Listing On items start item gone (e ∷ rest) all → Listing On after start (item + 1) (gone ++ e ∷ []) rest all
listing_next On items after start item gone rest all e made last h = record {
  at = ap (λ (n : ℕ). start + n) (length-append gone (e ∷ [])) ∙ more start (length gone) item h.at;
  parts = h.parts ∙ sym (append_assoc gone (e ∷ []) rest);
  made = listed_last On after start gone e made h.left.0 (subst (λ (n : ℕ). Each (record { 0 = n }) (λ i. (target_of i).0 ≡ e.rid.0) after) (sym h.at) last);
  left = h.left.1;
  small = h.small.1;
}
  where
    more : (a n m : ℕ) → a + n ≡ m → a + (n + 1) ≡ m + 1
    more a n m h = omega (arith, h)

listing_step : (On : Entry → Type 0) (items : List Item) (new : Item) (f : Item → Item) → ((i : Item) → (f i).id ≡ i.id) → ((i : Item) → target_of (f i) ≡ target_of i) → (start item next : ℕ) (gone rest all : List Entry) (e : Entry) → new.id.0 ≡ item → (target_of new).0 ≡ e.rid.0
    → next ≡ item → InOrder 0 next items → Listing On items start item gone (e ∷ rest) all → Listing On (changed (record { 0 = item }) f (items ++ new ∷ [])) start (item + 1) (gone ++ e ∷ []) rest all
listing_step On items new f same like start item next gone rest all e id target is order h =
    listing_next On items (changed (record { 0 = item }) f (items ++ new ∷ [])) start item gone rest all e
    (listed_still On (record { 0 = item }) f same like (items ++ new ∷ []) start gone (listed_more On items new start gone (h.at ∙ sym id) h.made))
    (each_changed (record { 0 = item }) (record { 0 = item }) f (λ i. Unit {0}) (λ i. (target_of i).0 ≡ e.rid.0) (λ i. (target_of i).0 ≡ e.rid.0) same (λ i _ k. ap (λ (r : Rid). r.0) (like i) ∙ k) (λ i k. k) (items ++ new ∷ [])
    (each_any (record { 0 = item }) (λ i. Unit {0}) (λ i. tt) (items ++ new ∷ []))
    (each_append (record { 0 = item }) (λ i. (target_of i).0 ≡ e.rid.0) items new (each_new (record { 0 = item }) (λ i. (target_of i).0 ≡ e.rid.0) 0 next items is order) (λ _. target))) h

-- the paths of a listing leave the tombstones
seen_from_buried : (id : ℕ) (es : List Entry) (b : Book) → (with_seen_from id es b).tombstones ≡ b.tombstones
seen_from_buried id [] b = refl
seen_from_buried id (e ∷ es) b = seen_from_buried (id + 1) es (with_seen (record { item = record { 0 = id }; parent = e.parent; name = e.name }) b)

-- the changes of the entries, each as it comes, and then the last
listing_in : {On : Knowledge} (l : Link) (tokens : ℕ) (P : Filter → Type 0) → GuardedFilter On l tokens P → (f : Book → Book) → KeepsEntries f → (p : Policy) (parent : ItemId) (start : ℕ) (gone all : List Entry) (es : List Entry) (item : ℕ) (n : Usn) (x : Filter) → ((b : Book) → f b ≡ with_seen_from start all b) → (IsFair l → Listing (On.told false x.volume.book.cursor) x.volume.items start item gone es all)
    → SeesFrom f (item + length es) → (IsFair l → All (λ e. NewFits l.remote p (new_item_of e)) es) → (IsFair l → x.volume.next_item.0 ≡ item) → (IsFair l → list_any is_new_entry x.volume.book.entries ≡ false) → (IsFair l → AreOthers x.volume.items es) → next_number x.volume ≡ n → x.policy ≡ p → IsListed x parent → P x
    → Keeps P (changes_with f (entry_changes p parent item n (map new_item_of es) ++ change.Populated parent ∷ []) x)
listing_in {On} l tokens P closed f keeps p parent start gone all [] item n x is list sees fit next old new number policy listed h = closed.change f (change.Populated parent) x keeps (λ fair. ((λ z. absurd z), (λ k. sees.0 (max x.volume.next_item.0 2) x.volume.book (room x.volume.next_item.0 item (next fair)) k), sees.1)) (λ id k. k) (λ fair. tt) (λ fair. (tt, inr (start, all, is, listing_all (On.told false x.volume.book.cursor) x.volume.items start item gone all (list fair), parent, refl), inl tt, λ b. ap (λ (d : Book). d.tombstones) (is b) ∙ seen_from_buried start all b)) h where
  room : (m k : ℕ) → m ≡ k → k + 0 ≤ max m 2
  room m k e = omega (arith, e)
listing_in {On} l tokens P closed f keeps p parent start gone all (e ∷ es) item n x is list sees fit next old new number policy listed h =
    let q : NewItem = new_item_of e in
    let make : Change = change.Make (record { 0 = item }) parent q.name (entry_kind p q.dir) (cond q.dir 0 q.size) q.identity in
    let mark : Change = change.Mark (record { 0 = item }) n in
    keeps_led P (λ u t. After same_book make x t) (change make x) (λ _ t. changes_with f (mark ∷ (entry_changes p parent (item + 1) (record n { place = n.place + 2 }) (map new_item_of es) ++ change.Populated parent ∷ [])) t)
    (closed.change same_book make x (λ b. refl) (λ fair. ((λ z b. refl), (λ k. k), λ b. refl)) (λ id k. k) (λ fair. ((sym (next fair), (fit fair).0.0, (fit fair).0.1), (inr (unmade_old l.remote x.volume.book.entries (target_in q.identity) (old fair)), (new fair).0), inr listed, subst (λ (o : Policy). Populates o (entry_kind p q.dir)) (sym policy) (kind_populates p q.dir))) (λ fair. (inr (e, (list fair).left.0, refl), inl (λ b. refl), inl tt, λ b. refl)) h) (change_after same_book make x)
    (λ u t j a.
    more_in P f mark (change.Populated parent) (entry_changes p parent (item + 1) (record n { place = n.place + 2 }) (map new_item_of es)) t
    (keeps_led P (λ u y. After same_book mark t y) (change mark t) (λ _ y. changes_with f (entry_changes p parent (item + 1) (record n { place = n.place + 2 }) (map new_item_of es) ++ change.Populated parent ∷ []) y)
    (closed.change same_book mark t (λ b. refl) (λ fair. ((λ z b. refl), (λ k. k), λ b. refl)) (λ id k. k)
    (λ fair. (
      subst (λ (is : List Item). Each (record { 0 = item }) (IsUnmarked n) is) (sym a.items)
          (each_append (record { 0 = item }) (IsUnmarked n) x.volume.items (made (record { 0 = item }) parent q.name (entry_kind p q.dir) (cond q.dir 0 q.size) q.identity (pin_of x.volume.items parent) (next_number x.volume))
          (each_new (record { 0 = item }) (IsUnmarked n) 0 x.volume.next_item.0 x.volume.items (next fair) (closed.sound x h fair).now.order)
          (λ _. (clean_made p q.dir (next_number x.volume), sym number, targeted (item == 1) q.identity (fit fair).0.2))),
      inr (x.volume.log, next_number x.volume, parent, q.name, entry_kind p q.dir, cond q.dir 0 q.size, q.identity, a.log),
    )) (λ fair. (tt, inl (λ b. refl), inl tt, λ b. refl)) j)
    (change_after same_book mark t)
    (λ v y k b. listing_in l tokens P closed f keeps p parent start (gone ++ e ∷ []) all es (item + 1) (record n { place = n.place + 2 }) y is
    (λ fair. subst (λ (c : ℕ). Listing (On.told false c) y.volume.items start (item + 1) (gone ++ e ∷ []) es all) (sym (b.cursor (λ d. refl) ∙ a.cursor (λ d. refl)))
    (subst (λ (is : List Item). Listing (On.told false x.volume.book.cursor) is start (item + 1) (gone ++ e ∷ []) es all) (sym b.items)
    (subst (λ (is : List Item). Listing (On.told false x.volume.book.cursor) (effect is mark (next_number t.volume)) start (item + 1) (gone ++ e ∷ []) es all) (sym a.items)
    (listing_step (On.told false x.volume.book.cursor) x.volume.items (made (record { 0 = item }) parent q.name (entry_kind p q.dir) (cond q.dir 0 q.size) q.identity (pin_of x.volume.items parent) (next_number x.volume)) _ (λ i. refl) (λ i. refl) start item x.volume.next_item.0 gone es all e refl
    (ap (λ (r : Rid). r.0) (below_root item (named_in e) (subst (λ (m : ℕ). 2 ≤ m) (next fair) (closed.sound x h fair).now.more)) ∙ (list fair).small.0) (next fair) (closed.sound x h fair).now.order (list fair)))))
    (subst (SeesFrom f) (shift item (length es)) sees) (λ fair. (fit fair).1)
    (λ fair. next_kept y.volume.next_item.0 t.volume.next_item.0 (item + 1) b.next (a.next ∙ next_made x.volume.next_item.0 item (next fair)) (closed.sound t j fair).now.more)
    (λ fair. ap (λ (qs : List QueueEntry). list_any is_new_entry qs) (b.entries (λ d. refl) ∙ a.entries (λ d. refl)) ∙ old fair)
    (λ fair. others_after x.volume.items y.volume.items (λ d. (named_in e).0 ≡ (named_in d).0 → (named_in d).0 ≡ 0)
    (λ d k g. subst (λ (is : List Item). IsUnaimed is (named_in d)) (sym b.items)
    (unaimed_still (named_in d) (record { 0 = item }) _ t.volume.items (λ i. refl)
    (subst (λ (is : List Item). IsUnaimed is (named_in d)) (sym a.items)
    (unaimed_more x.volume.items (made (record { 0 = item }) parent q.name (entry_kind p q.dir) (cond q.dir 0 q.size) q.identity (pin_of x.volume.items parent) (next_number x.volume)) (named_in d)
    (λ z. k (ap (λ (r : Rid). r.0) (sym (below_root item (named_in e) (subst (λ (m : ℕ). 2 ≤ m) (next fair) (closed.sound x h fair).now.more))) ∙ z)) g))))
    es (new fair).1 (new fair).2)
    (ap (λ (d : ℕ). usn_after d y.volume.place) (b.epoch ∙ a.epoch) ∙ number_after n x.volume.epoch x.volume.place t.volume.place y.volume.place number a.place b.place)
    (b.policy ∙ a.policy ∙ policy) (still_listed parent x y (b.waiting ∙ a.waiting) listed) k)))

-- the changes leave what waits and is asked
waiting_stays : (f : Book → Book) (cs : List Change) (x : Filter) → Leads (λ s. Unit {0}) (λ u t. t.waiting ≡ x.waiting) (changes_with f cs x)
waiting_stays f [] x = refl
waiting_stays f (c ∷ []) x = leads_weaker (λ s. Unit {0}) (λ u t. After f c x t) (λ u t. t.waiting ≡ x.waiting) (change_with f c x) (λ u t h. h.waiting) (change_after f c x)
waiting_stays f (c ∷ d ∷ cs) x =
    leads_bind (λ s. Unit {0}) (λ u t. After same_book c x t) (λ u t. t.waiting ≡ x.waiting) (change c x) (λ _ t. changes_with f (d ∷ cs) t) (change_after same_book c x)
    (λ u t h. leads_weaker (λ s. Unit {0}) (λ v y. y.waiting ≡ t.waiting) (λ v y. y.waiting ≡ x.waiting) (changes_with f (d ∷ cs) t) (λ v y e. e ∙ h.waiting) (waiting_stays f (d ∷ cs) t))

-- the ask that is answered is of a listing
listing_ends : (a : Live) (w v : Waiting) → v ≡ w → live_of w.asks a.ask.key ≡ Some a → is_list a.ask.kind ≡ true → (b : Live) → live_of v.asks a.ask.key ≡ Some b → is_list b.ask.kind ≡ true
listing_ends a w v same found list b e = inner (sym found ∙ ap (λ (u : Waiting). live_of u.asks a.ask.key) (sym same) ∙ e) where
  inner : ◌≡◌ {A = Option Live} (Some a) (Some b) → is_list b.ask.kind ≡ true
  inner z = let y : a ≡ b = cc in subst (λ (c : Live). is_list c.ask.kind ≡ true) y list

-- and it is of its item
ask_ends : (a : Live) (x t : Filter) → t.waiting ≡ x.waiting → live_of x.waiting.asks a.ask.key ≡ Some a → IsAskOn a.ask.item a.ask.key t
ask_ends a x t same found = one_ask a.ask.key a t (subst (λ (w : Waiting). live_of w.asks a.ask.key ≡ Some a) (sym same) found)

pub listing_at : {On : Knowledge} (l : Link) (tokens : ℕ) (P : Filter → Type 0) → GuardedFilter On l tokens P → (f : Book → Book) → KeepsEntries f → (a : Live) (es : List Entry) (x : Filter) → live_of x.waiting.asks a.ask.key ≡ Some a → ((b : Book) → f b ≡ with_seen_from x.volume.next_item.0 es b) → (is_list a.ask.kind ≡ true → IsFair l → Listing (On.told false x.volume.book.cursor) x.volume.items x.volume.next_item.0 x.volume.next_item.0 [] es es)
    → SeesFrom f (x.volume.next_item.0 + length es) → (IsFair l → All (λ e. NewFits l.remote x.policy (new_item_of e)) es) → (IsFair l → list_any is_new_entry x.volume.book.entries ≡ false) → (IsFair l → AreOthers x.volume.items es) → P x → Keeps P (entries f a (map new_item_of es) true x)
listing_at l tokens P closed f keeps a es x live is list sees fit old new h =
    checked_at P (entries_tests f a (map new_item_of es) (list_changes a (map new_item_of es) x)) (then_do (changes_with f (list_changes a (map new_item_of es) x)) (then_do (settle a.ask.item (entries_deed a true)) done)) x h
    (λ e. keeps_led P (λ u t. t.waiting ≡ x.waiting) (changes_with f (list_changes a (map new_item_of es) x) x) (λ _ t. then_do (settle a.ask.item (entries_deed a true)) done t)
    (listing_in l tokens P closed f keeps x.policy a.ask.item x.volume.next_item.0 [] es es x.volume.next_item.0 (next_number x.volume) x is (list (not_false (is_list a.ask.kind) (head_false (entries_tests f a (map new_item_of es) (list_changes a (map new_item_of es) x) x) e))) sees fit (λ fair. refl) old new refl refl
    (a, live, not_false (is_list a.ask.kind) (head_false (entries_tests f a (map new_item_of es) (list_changes a (map new_item_of es) x) x) e), refl) h)
    (waiting_stays f (list_changes a (map new_item_of es) x) x)
    (λ u t j w. keeps_bind P (settle a.ask.item (entries_deed a true) t) (λ _ y. done y)
    (closed.settled a.ask.item (entries_deed a true) t (inr (listing_ends a x.waiting t.waiting w live (not_false (is_list a.ask.kind) (head_false (entries_tests f a (map new_item_of es) (list_changes a (map new_item_of es) x) x) e))), ask_ends a x t w live) j) (λ v y k. k)))

-- no entries
no_listing_at : {On : Knowledge} (l : Link) (tokens : ℕ) (P : Filter → Type 0) → GuardedFilter On l tokens P → (f : Book → Book) (a : Live) (list : List NewItem) (x : Filter) → live_of x.waiting.asks a.ask.key ≡ Some a → P x → Keeps P (entries f a list false x)
no_listing_at l tokens P closed f a list x live h =
    checked_at P (entries_tests f a list []) (then_do (changes_with f []) (then_do (settle a.ask.item (entries_deed a false)) done)) x h
    (λ e. keeps_bind P (settle a.ask.item (entries_deed a false) x) (λ _ y. done y) (closed.settled a.ask.item (entries_deed a false) x (inl refl, ask_ends a x x refl live) h) (λ v y k. k))

-- consent

allowed_in_sync : (p : Policy) (i : Item) (start len : ℕ) (busy : Bool) → verdict p i start len busy ≡ None → i.in_sync ≡ true
allowed_in_sync p i start len busy e =
    let ts : List (Bool × Code) = (is_bad_range start len (size_of i), code.BadRange) ∷ (not i.placeholder, code.NotPlaceholder) ∷ (is_kept_full p i, code.PolicyDenied)
    ∷ (is_pinned i.pin, code.Pinned) ∷ (not i.in_sync, code.NotInSync) ∷ (busy, code.InUse) ∷ [] in
    not_false i.in_sync (head_false (tail_of (tail_of (tail_of (tail_of ts)))) (tail_none (tail_of (tail_of (tail_of ts))) (tail_none (tail_of (tail_of ts)) (tail_none (tail_of ts) (tail_none ts e)))))

pub verdict_in_sync : (p : Policy) (i : Item) (start len : ℕ) (busy : Bool) → verdict p i start len busy ≡ None → i.in_sync ≡ true
verdict_in_sync p i start len busy e = allowed_in_sync p i start len busy e

consent_fits : {On : Knowledge} (l : Link) (tokens : ℕ) (P : Filter → Type 0) → GuardedFilter On l tokens P → (a : Live) (x : Filter) → P x → second_verdict a x ≡ None → IsFair l → Each a.ask.item (λ i. i.in_sync ≡ true) x.volume.items
consent_fits l tokens P closed a x h e fair = by (item_of x.volume.items a.ask.item) refl e where
  by : (o : Option Item) → item_of x.volume.items a.ask.item ≡ o → part (λ i. verdict x.policy i a.ask.span.start a.ask.span.len (in_use_beside a.ask.item a.wait x)) None o ≡ None → Each a.ask.item (λ i. i.in_sync ≡ true) x.volume.items
  by None q e = each_none a.ask.item (λ i. i.in_sync ≡ true) x.volume.items q
  by (Some i) q e = each_found a.ask.item (λ i. i.in_sync ≡ true) 0 x.volume.next_item.0 x.volume.items i (closed.sound x h fair).now.order q (allowed_in_sync x.policy i a.ask.span.start a.ask.span.len (in_use_beside a.ask.item a.wait x) e)

emptied_waits : (a : Live) (x : Filter) → Leads (λ s. Unit {0}) (λ u t. t.waiting ≡ x.waiting) (changes (dehydration a ∷ []) x)
emptied_waits a x = leads_bind (λ s. Unit {0}) (λ u t. After same_book (dehydration a) x t) (λ u t. t.waiting ≡ x.waiting) (change (dehydration a) x) (λ _ t. ret unit t) (change_after same_book (dehydration a) x) (λ u t k. k.waiting)

consent_at : {On : Knowledge} (l : Link) (tokens : ℕ) (P : Filter → Type 0) → GuardedFilter On l tokens P → (a : Live) (refusal : Option Code) (x : Filter) → live_of x.waiting.asks a.ask.key ≡ Some a → second_verdict a x ≡ refusal → P x → Keeps P (consent_by a true refusal x)
consent_at l tokens P closed a None x live e h =
    checked_at P (consent_tests a (dehydration a ∷ [])) (then_do (changes (dehydration a ∷ [])) (then_do (settle a.ask.item (consent_deed a true None)) done)) x h
    (λ q. keeps_led P (λ u t. t.waiting ≡ x.waiting) (changes (dehydration a ∷ []) x) (λ _ t. then_do (settle a.ask.item (consent_deed a true None)) done t)
    (keeps_bind P (change (dehydration a) x) (λ _ t. ret unit t) (closed.change same_book (dehydration a) x (λ b. refl) (λ fair. ((λ z b. refl), (λ k. k), λ b. refl)) (λ id k. k) (λ fair. consent_fits l tokens P closed a x h e fair) (λ fair. (tt, inl (λ b. refl), inl tt, λ b. refl)) h) (λ u t j. j))
    (emptied_waits a x)
    (λ u t j w. keeps_bind P (settle a.ask.item (consent_deed a true None) t) (λ _ y. done y) (closed.settled a.ask.item (consent_deed a true None) t (inl refl, ask_ends a x t w live) j) (λ v y k. k)))
consent_at l tokens P closed a (Some c) x live e h =
    checked_at P (consent_tests a []) (then_do (changes []) (then_do (settle a.ask.item (consent_deed a true (Some c))) done)) x h
    (λ q. keeps_bind P (settle a.ask.item (consent_deed a true (Some c)) x) (λ _ y. done y) (closed.settled a.ask.item (consent_deed a true (Some c)) x (inl refl, ask_ends a x x refl live) h) (λ v y k. k))

-- an operation of the engine

pub keys_same : (a b : Key) → same_key a b ≡ true → a ≡ b
keys_same a b h = by (a.epoch == b.epoch) (a.number == b.number) refl refl h where
  at : ℕ → ℕ → Key
  at x y = record { epoch = x; number = y }

  by : (p q : Bool) → (a.epoch == b.epoch) ≡ p → (a.number == b.number) ≡ q → (p && q) ≡ true → a ≡ b
  by true true e f g = ap (λ (x : ℕ). at x a.number) (eqb-true a.epoch b.epoch e) ∙ ap (λ (x : ℕ). at b.epoch x) (eqb-true a.number b.number f)
  by true false e f g = no_way g
  by false q e f g = no_way g

live_key : (asks : List Live) (key : Key) (a : Live) → live_of asks key ≡ Some a → a.ask.key ≡ key
live_key asks key a e = keys_same a.ask.key key (all_found (λ (b : Live). Unit {0}) (λ (b : Live). same_key b.ask.key key) asks a e (all_any (λ (b : Live). Unit {0}) (λ b. tt) asks)).1

live_same : (x : Filter) (key : Key) (a : Live) → live_of x.waiting.asks key ≡ Some a → live_of x.waiting.asks a.ask.key ≡ Some a
live_same x key a e = subst (λ (k : Key). live_of x.waiting.asks k ≡ Some a) (sym (live_key x.waiting.asks key a e)) e

on_key : (l : Link) (tokens : ℕ) (P : Filter → Type 0) (f : Book → Book) (op : Operation) (x : Filter) → P x → ((a : Live) → live_of x.waiting.asks (key_of op) ≡ Some a → Keeps P (on_ask f op a x)) → Keeps P (execute_with f op x)
on_key l tokens P f op x h k = by (live_of x.waiting.asks (key_of op)) refl where
  by : (o : Option Live) → live_of x.waiting.asks (key_of op) ≡ o → Keeps P (on_live f op o x)
  by None e = h
  by (Some a) e = k a e

pub fetched_at : {On : Knowledge} (l : Link) (tokens : ℕ) (P : Filter → Type 0) → GuardedFilter On l tokens P → (key : Key) (at : ℕ) (bytes : List ℕ) (x : Filter)
    → ((a : Live) → live_of x.waiting.asks key ≡ Some a → IsFair l → is_fetch a.ask.kind ≡ true → Each a.ask.item (λ i. take (length bytes) (drop at (base_bytes l.remote i)) ≡ bytes) x.volume.items) → P x
    → Keeps P (execute (operation.Transfer key at bytes) x)
fetched_at l tokens P closed key at bytes x fit h = on_key l tokens P same_book (operation.Transfer key at bytes) x h (λ a e. transfer_at l tokens P closed a at bytes x (fit a e) h)

pub refused_op_keeps : {On : Knowledge} (l : Link) (tokens : ℕ) (P : Filter → Type 0) → GuardedFilter On l tokens P → (key : Key) (asked : Span) (status : ℕ) → Preserves P (execute (operation.Refuse key asked status))
refused_op_keeps l tokens P closed key asked status = record { keeps = λ x h. on_key l tokens P same_book (operation.Refuse key asked status) x h (λ a e. (refuse_keeps l tokens P closed a asked status).keeps x h) }

pub no_entries_op_keeps : {On : Knowledge} (l : Link) (tokens : ℕ) (P : Filter → Type 0) → GuardedFilter On l tokens P → (key : Key) → Preserves P (execute (operation.Entries key [] false))
no_entries_op_keeps l tokens P closed key = record { keeps = λ x h. on_key l tokens P same_book (operation.Entries key [] false) x h (λ a e. no_listing_at l tokens P closed same_book a [] x (live_same x key a e) h) }

pub listed_at : {On : Knowledge} (l : Link) (tokens : ℕ) (P : Filter → Type 0) → GuardedFilter On l tokens P → (f : Book → Book) → KeepsEntries f → (key : Key) (es : List Entry) (x : Filter) → ((b : Book) → f b ≡ with_seen_from x.volume.next_item.0 es b)
    → ((a : Live) → live_of x.waiting.asks key ≡ Some a → is_list a.ask.kind ≡ true → IsFair l → Listing (On.told false x.volume.book.cursor) x.volume.items x.volume.next_item.0 x.volume.next_item.0 [] es es)
    → SeesFrom f (x.volume.next_item.0 + length es) → (IsFair l → All (λ e. NewFits l.remote x.policy (new_item_of e)) es) → (IsFair l → list_any is_new_entry x.volume.book.entries ≡ false) → (IsFair l → AreOthers x.volume.items es) → P x → Keeps P (execute_with f (operation.Entries key (map new_item_of es) true) x)
listed_at l tokens P closed f keeps key es x is list sees fit old new h = on_key l tokens P f (operation.Entries key (map new_item_of es) true) x h (λ a e. listing_at l tokens P closed f keeps a es x (live_same x key a e) is (list a e) sees fit old new h)

pub consented_keeps : {On : Knowledge} (l : Link) (tokens : ℕ) (P : Filter → Type 0) → GuardedFilter On l tokens P → (key : Key) → Preserves P (execute (operation.AckDehydrate key true))
consented_keeps l tokens P closed key = record { keeps = λ x h. on_key l tokens P same_book (operation.AckDehydrate key true) x h (λ a e. consent_at l tokens P closed a (second_verdict a x) x (live_same x key a e) refl h) }
