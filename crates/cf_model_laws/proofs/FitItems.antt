-- What a change that fits keeps of all items.
use Rattle.std.proofs.Common.{◌≡◌, ◌<◌, ◌≤◌, ◌+◌, ℕ, Bool, true, false, List, [], ◌∷◌, ◌++◌, refl, sym, subst, arith, length, max, ◌∙◌}
use Rattle.std.specs.Prelude.{Option, Some, None, cond, filter, ◌==◌}
use Rattle.cf_base.specs.declared.changes.Change.{Change}
use Rattle.cf_base.specs.declared.changes.Change.TheVariants as change
use Rattle.cf_base.specs.declared.ids.ItemId.{ItemId}
use Rattle.cf_base.specs.declared.ids.Usn.{Usn}
use Rattle.cf_base.specs.declared.items.Kind.{Kind}
use Rattle.cf_base.specs.declared.items.Kind.TheVariants as kind
use Rattle.cf_base.specs.declared.items.Pin.{Pin}
use Rattle.cf_model.specs.Contents.{RisesFrom}
use Rattle.cf_model.specs.Effects.{changed, converted, copies, effect, got, is_directory, is_placeholder, kept, left_out, made, marked, moved, pinned, populated, rebased, sized, took, unmarked, validated_in, writes_made, wrote}
use Rattle.cf_model.specs.Items.{Item, item_of, pin_of}
use Rattle.cf_model.specs.Logs.{next_by}
use Rattle.cf_model.specs.Numbers.{above, no_usn}
use Rattle.cf_model.specs.Overlay.{Resize}
use Rattle.cf_model.specs.Soundness.{Each}
use Rattle.cf_model.specs.State.{Filter}
use Rattle.cf_model.specs.Store.{Held}
use Rattle.cf_model_laws.specs.Fitting.{Meets, NamesWell}
use Rattle.cf_model_laws.specs.Invariant.{All, AllUpTo, InOrder, IsRight}
use Rattle.cf_model_laws.proofs.Gathered.{all_append, all_filter, all_found, all_weaker, each_any}
use Rattle.cf_model_laws.proofs.RightItems.{above_self, cleared_right, converted_right, copied_right, made_right, marked_right, numbered_right, rebased_right, stays_right, took_right, written_right}

pub all_changed : (id : ItemId) (f : Item → Item) (C P Q : Item → Type 0) → ((i : Item) → C i → P i → Q (f i)) → ((i : Item) → P i → Q i)
    → (items : List Item) → Each id C items → All P items → All Q (changed id f items)
all_changed id f C P Q k m [] c h = tt
all_changed id f C P Q k m (i ∷ is) c h = (by (i.id.0 == id.0) c.0, all_changed id f C P Q k m is c.1 h.1) where
  by : (b : Bool) → (b ≡ true → C i) → Q (cond b (f i) i)
  by true g = k i (g refl) h.0
  by false g = m i h.0

pub each_changed : (at id : ItemId) (f : Item → Item) (C P Q : Item → Type 0) → ((i : Item) → (f i).id ≡ i.id) → ((i : Item) → C i → P i → Q (f i)) → ((i : Item) → P i → Q i)
    → (items : List Item) → Each id C items → Each at P items → Each at Q (changed id f items)
each_changed at id f C P Q same k m [] c h = tt
each_changed at id f C P Q same k m (i ∷ is) c h = (by (i.id.0 == id.0) c.0, each_changed at id f C P Q same k m is c.1 h.1) where
  by : (b : Bool) → (b ≡ true → C i) → ((cond b (f i) i).id.0 == at.0) ≡ true → Q (cond b (f i) i)
  by true g e = k i (g refl) (h.0 (subst (λ (x : ItemId). (x.0 == at.0) ≡ true) (same i) e))
  by false g e = m i (h.0 e)

-- what the change makes of the item itself
pub each_made : (id : ItemId) (f : Item → Item) (C Q : Item → Type 0) → ((i : Item) → C i → Q (f i)) → (items : List Item) → Each id C items → Each id Q (changed id f items)
each_made id f C Q k [] c = tt
each_made id f C Q k (i ∷ is) c = (by (i.id.0 == id.0) refl, each_made id f C Q k is c.1) where
  never : {A : Type 0} → false ≡ true → A
  never z = cc

  by : (b : Bool) → (i.id.0 == id.0) ≡ b → ((cond b (f i) i).id.0 == id.0) ≡ true → Q (cond b (f i) i)
  by true q e = k i (c.0 q)
  by false q e = never (sym q ∙ e)

pub each_append : (at : ItemId) (P : Item → Type 0) (items : List Item) (x : Item) → Each at P items → ((x.id.0 == at.0) ≡ true → P x) → Each at P (items ++ x ∷ [])
each_append at P [] x h k = (k, tt)
each_append at P (i ∷ is) x h k = (h.0, each_append at P is x h.1 k)

pub each_filter : (at : ItemId) (P : Item → Type 0) (f : Item → Bool) (items : List Item) → Each at P items → Each at P (filter f items)
each_filter at P f [] h = tt
each_filter at P f (i ∷ is) h = by (f i) (each_filter at P f is h.1) where
  by : (b : Bool) → Each at P (filter f is) → Each at P (cond b (i ∷ filter f is) (filter f is))
  by true k = (h.0, k)
  by false k = k

-- all items are right

abbrev Any : Item → Type 0
Any i = Unit {0}

plainly : (r : Held) (n after : Usn) (id : ItemId) (f : Item → Item) → ((i : Item) → IsRight r n i → IsRight r after (f i)) → above after n ≡ true
    → (items : List Item) → All (IsRight r n) items → All (IsRight r after) (changed id f items)
plainly r n after id f k e items h =
    all_changed id f Any (IsRight r n) (IsRight r after) (λ i _. k i) (λ i. stays_right r n after i.id.0 i.directory i.placeholder i.identity i.in_sync i.number i.writes e) items (each_any id Any (λ i. tt) items) h

with_each : (r : Held) (n after : Usn) (id : ItemId) (f : Item → Item) (C : Item → Type 0) → ((i : Item) → C i → IsRight r n i → IsRight r after (f i)) → above after n ≡ true
    → (items : List Item) → Each id C items → All (IsRight r n) items → All (IsRight r after) (changed id f items)
with_each r n after id f C k e items c h =
    all_changed id f C (IsRight r n) (IsRight r after) k (λ i. stays_right r n after i.id.0 i.directory i.placeholder i.identity i.in_sync i.number i.writes e) items c h

same_right : (r : Held) (n after : Usn) → above after n ≡ true → (i : Item) → IsRight r n i → IsRight r after i
same_right r n after e i h = stays_right r n after i.id.0 i.directory i.placeholder i.identity i.in_sync i.number i.writes e h

first_rises : (k : Kind) (n : Usn) → above n no_usn ≡ true → RisesFrom no_usn (writes_made k n)
first_rises kind.File n e = (e, tt)
first_rises kind.Dir n e = tt
first_rises kind.PlaceholderFile n e = tt
first_rises kind.PlaceholderDir n e = tt
first_rises kind.UnpopulatedDir n e = tt

first_last : (k : Kind) (n : Usn) → AllUpTo n (writes_made k n)
first_last kind.File n = (above_self n, tt)
first_last kind.Dir n = tt
first_last kind.PlaceholderFile n = tt
first_last kind.PlaceholderDir n = tt
first_last kind.UnpopulatedDir n = tt

new_right : (r : Held) (n after : Usn) (id parent : ItemId) (name : List ℕ) (k : Kind) (size : ℕ) (identity : List ℕ) (pin : Pin)
    → NamesWell r (is_directory k) (is_placeholder k) identity → above n no_usn ≡ true → 2 ≤ id.0 → above after n ≡ true → IsRight r after (made id parent name k size identity pin n)
new_right r n after id parent name k size identity pin well some large e = made_right r n after id.0 (is_directory k) (is_placeholder k) identity (writes_made k n) well (first_rises k n some) (first_last k n) large e

all_later : (r : Held) (n after : Usn) → above after n ≡ true → (items : List Item) → All (IsRight r n) items → All (IsRight r after) items
all_later r n after e items h = all_weaker (IsRight r n) (IsRight r after) (same_right r n after e) items h

copies_right : (r : Held) (n after : Usn) (id parent : ItemId) (name : List ℕ) (pin : Pin) → 2 ≤ id.0 → above after n ≡ true → (o : Option Item) → ((i : Item) → o ≡ Some i → IsRight r n i) → All (IsRight r after) (copies id parent name pin n o)
copies_right r n after id parent name pin large e None h = tt
copies_right r n after id parent name pin large e (Some i) h =
    (copied_right r n after i.id.0 id.0 i.directory i.placeholder i.identity i.in_sync i.number i.writes (record { number = n; before = length i.held; write = Resize (length i.held) }) refl large e (h i refl), tt)

pub effect_right : (r : Held) (x : Filter) (c : Change) (n after : Usn) → above n no_usn ≡ true → above after n ≡ true → 2 ≤ x.volume.next_item.0 → Meets r x c
    → All (IsRight r n) x.volume.items → All (IsRight r after) (effect x.volume.items c n)
effect_right r x (change.Make item parent name k size identity) n after some e large fit h =
    all_append (IsRight r after) x.volume.items _ (all_later r n after e x.volume.items h) (new_right r n after item parent name k size identity (pin_of x.volume.items parent) fit.2 some (subst (λ (m : ℕ). 2 ≤ m) (sym fit.0) large) e, tt)
effect_right r x (change.Remove item) n after some e large fit h = all_filter (IsRight r after) _ x.volume.items (all_later r n after e x.volume.items h)
effect_right r x (change.Move item parent name) n after some e large fit h =
    plainly r n after item (moved parent name (pin_of x.volume.items parent) n) (λ i. numbered_right r n after i.id.0 i.directory i.placeholder i.identity i.in_sync i.number i.writes e) e x.volume.items h
effect_right r x (change.Write item at bytes) n after some e large fit h =
    plainly r n after item (wrote at bytes n) (λ i. written_right r n after i.id.0 i.directory i.placeholder i.identity i.in_sync i.number i.writes _ refl e) e x.volume.items h
effect_right r x (change.Size item size) n after some e large fit h =
    plainly r n after item (sized size n) (λ i. written_right r n after i.id.0 i.directory i.placeholder i.identity i.in_sync i.number i.writes _ refl e) e x.volume.items h
effect_right r x (change.Filled item start bytes) n after some e large fit h = plainly r n after item (got start bytes) (same_right r n after e) e x.volume.items h
effect_right r x (change.Validated item start len) n after some e large fit h = plainly r n after item (validated_in start len) (same_right r n after e) e x.volume.items h
effect_right r x (change.Emptied item start len) n after some e large fit h = plainly r n after item (left_out start len) (same_right r n after e) e x.volume.items h
effect_right r x (change.SetPin item pin) n after some e large fit h = plainly r n after item (pinned pin) (same_right r n after e) e x.volume.items h
effect_right r x (change.Mark item number) n after some e large fit h =
    plainly r n after item marked (λ i. marked_right r n after i.id.0 i.directory i.placeholder i.identity i.in_sync i.number i.writes e) e x.volume.items h
effect_right r x (change.Clear item) n after some e large fit h =
    plainly r n after item unmarked (λ i. cleared_right r n after i.id.0 i.directory i.placeholder i.identity i.in_sync i.number i.writes e) e x.volume.items h
effect_right r x (change.Convert item identity) n after some e large fit h =
    with_each r n after item (converted identity n) _ (λ i same. converted_right r n after i.id.0 i.directory i.placeholder i.identity identity i.in_sync i.number i.writes same fit.1 e) e x.volume.items fit.0 h
effect_right r x (change.Revert item) n after some e large fit h = elim fit as (λ _. All (IsRight r after) (effect x.volume.items (change.Revert item) n)) [ ]
effect_right r x (change.Rebase item identity len at) n after some e large fit h =
    with_each r n after item (rebased identity len at) _ (λ i well. rebased_right r n after i.id.0 i.directory i.placeholder i.identity identity i.in_sync i.number at i.writes well e) e x.volume.items fit.0 h
effect_right r x (change.Take item identity size) n after some e large fit h =
    with_each r n after item (took identity size n) _ (λ i well. took_right r n after i.id.0 i.directory i.placeholder i.identity identity i.in_sync i.number i.writes well.1 e) e x.volume.items fit.0 h
effect_right r x (change.Copy item from parent name) n after some e large fit h =
    all_append (IsRight r after) x.volume.items _ (all_later r n after e x.volume.items h)
    (copies_right r n after item parent name (pin_of x.volume.items parent) (subst (λ (m : ℕ). 2 ≤ m) (sym fit) large) e (item_of x.volume.items from) (λ i f. (all_found (IsRight r n) _ x.volume.items i f h).0))
effect_right r x (change.Populated item) n after some e large fit h = plainly r n after item populated (same_right r n after e) e x.volume.items h
effect_right r x (change.Keep item on) n after some e large fit h = plainly r n after item (kept on) (same_right r n after e) e x.volume.items h

-- the ids rise

pub order_changed : (id : ItemId) (f : Item → Item) → ((i : Item) → (f i).id ≡ i.id) → (low next : ℕ) (items : List Item) → InOrder low next items → InOrder low next (changed id f items)
order_changed id f same low next [] h = h
order_changed id f same low next (i ∷ is) h = by (i.id.0 == id.0) (order_changed id f same i.id.0 next is h.1) where
  by : (b : Bool) → InOrder i.id.0 next (changed id f is) → InOrder low next (cond b (f i) i ∷ changed id f is)
  by true k = subst (λ (x : ItemId). (low < x.0) × InOrder x.0 next (changed id f is)) (sym (same i)) (h.0, k)
  by false k = (h.0, k)

pub order_lower : (low less next : ℕ) (items : List Item) → less ≤ low → InOrder low next items → InOrder less next items
order_lower low less next [] e h = let z : low < next = h in let y : less < next = omega (arith, e, z) in y
order_lower low less next (i ∷ is) e h = (let z : low < i.id.0 = h.0 in let y : less < i.id.0 = omega (arith, e, z) in y, h.1)

pub order_filter : (f : Item → Bool) (low next : ℕ) (items : List Item) → InOrder low next items → InOrder low next (filter f items)
order_filter f low next [] h = h
order_filter f low next (i ∷ is) h = by (f i) (order_filter f i.id.0 next is h.1) where
  under : (a b : ℕ) → a < b → a ≤ b
  under a b z = omega (arith, z)

  by : (b : Bool) → InOrder i.id.0 next (filter f is) → InOrder low next (cond b (i ∷ filter f is) (filter f is))
  by true k = (h.0, k)
  by false k = order_lower i.id.0 low next (filter f is) (under low i.id.0 h.0) k

pub order_append : (low next : ℕ) (items : List Item) (x : Item) → x.id.0 ≡ next → InOrder low next items → InOrder low (next + 1) (items ++ x ∷ [])
order_append low next [] x e h = (subst (λ (m : ℕ). low < m) (sym e) h, let z : x.id.0 < next + 1 = omega (arith, e) in z)
order_append low next (i ∷ is) x e h = (h.0, order_append i.id.0 next is x e h.1)

max_old : (n : ℕ) → 2 ≤ n → max n 2 ≡ n
max_old n h = omega (arith, h)

max_new : (n m : ℕ) → m ≡ n → max n (m + 1) ≡ n + 1
max_new n m e = omega (arith, e)

stays_next : (low next : ℕ) (items : List Item) → 2 ≤ next → InOrder low next items → InOrder low (max next 2) items
stays_next low next items large h = subst (λ (m : ℕ). InOrder low m items) (sym (max_old next large)) h

pub effect_order : (r : Held) (x : Filter) (c : Change) (n : Usn) → 2 ≤ x.volume.next_item.0 → Meets r x c → InOrder 0 x.volume.next_item.0 x.volume.items → InOrder 0 (max x.volume.next_item.0 (next_by c)) (effect x.volume.items c n)
effect_order r x (change.Make item parent name k size identity) n large fit h =
    let new : Item = made item parent name k size identity (pin_of x.volume.items parent) n in
    subst (λ (m : ℕ). InOrder 0 m (x.volume.items ++ new ∷ [])) (sym (max_new x.volume.next_item.0 item.0 fit.0)) (order_append 0 x.volume.next_item.0 x.volume.items new fit.0 h)
effect_order r x (change.Remove item) n large fit h = stays_next 0 x.volume.next_item.0 _ large (order_filter _ 0 x.volume.next_item.0 x.volume.items h)
effect_order r x (change.Move item parent name) n large fit h = stays_next 0 x.volume.next_item.0 _ large (order_changed item _ (λ i. refl) 0 x.volume.next_item.0 x.volume.items h)
effect_order r x (change.Write item at bytes) n large fit h = stays_next 0 x.volume.next_item.0 _ large (order_changed item _ (λ i. refl) 0 x.volume.next_item.0 x.volume.items h)
effect_order r x (change.Size item size) n large fit h = stays_next 0 x.volume.next_item.0 _ large (order_changed item _ (λ i. refl) 0 x.volume.next_item.0 x.volume.items h)
effect_order r x (change.Filled item start bytes) n large fit h = stays_next 0 x.volume.next_item.0 _ large (order_changed item _ (λ i. refl) 0 x.volume.next_item.0 x.volume.items h)
effect_order r x (change.Validated item start len) n large fit h = stays_next 0 x.volume.next_item.0 _ large (order_changed item _ (λ i. refl) 0 x.volume.next_item.0 x.volume.items h)
effect_order r x (change.Emptied item start len) n large fit h = stays_next 0 x.volume.next_item.0 _ large (order_changed item _ (λ i. refl) 0 x.volume.next_item.0 x.volume.items h)
effect_order r x (change.SetPin item pin) n large fit h = stays_next 0 x.volume.next_item.0 _ large (order_changed item _ (λ i. refl) 0 x.volume.next_item.0 x.volume.items h)
effect_order r x (change.Mark item number) n large fit h = stays_next 0 x.volume.next_item.0 _ large (order_changed item _ (λ i. refl) 0 x.volume.next_item.0 x.volume.items h)
effect_order r x (change.Clear item) n large fit h = stays_next 0 x.volume.next_item.0 _ large (order_changed item _ (λ i. refl) 0 x.volume.next_item.0 x.volume.items h)
effect_order r x (change.Convert item identity) n large fit h = stays_next 0 x.volume.next_item.0 _ large (order_changed item _ (λ i. refl) 0 x.volume.next_item.0 x.volume.items h)
effect_order r x (change.Revert item) n large fit h = elim fit as (λ _. InOrder 0 (max x.volume.next_item.0 2) (effect x.volume.items (change.Revert item) n)) [ ]
effect_order r x (change.Rebase item identity len at) n large fit h = stays_next 0 x.volume.next_item.0 _ large (order_changed item _ (λ i. refl) 0 x.volume.next_item.0 x.volume.items h)
effect_order r x (change.Take item identity size) n large fit h = stays_next 0 x.volume.next_item.0 _ large (order_changed item _ (λ i. refl) 0 x.volume.next_item.0 x.volume.items h)
effect_order r x (change.Copy item from parent name) n large fit h = subst (λ (m : ℕ). InOrder 0 m (x.volume.items ++ copies item parent name (pin_of x.volume.items parent) n (item_of x.volume.items from))) (sym (max_new x.volume.next_item.0 item.0 fit)) (by (item_of x.volume.items from)) where
  nothing : (low next : ℕ) (items : List Item) → InOrder low next items → InOrder low (next + 1) (items ++ [])
  nothing low next [] h = let z : low < next = h in let y : low < next + 1 = omega (arith, z) in y
  nothing low next (i ∷ is) h = (h.0, nothing i.id.0 next is h.1)

  by : (o : Option Item) → InOrder 0 (x.volume.next_item.0 + 1) (x.volume.items ++ copies item parent name (pin_of x.volume.items parent) n o)
  by None = nothing 0 x.volume.next_item.0 x.volume.items h
  by (Some i) = order_append 0 x.volume.next_item.0 x.volume.items _ fit h
effect_order r x (change.Populated item) n large fit h = stays_next 0 x.volume.next_item.0 _ large (order_changed item _ (λ i. refl) 0 x.volume.next_item.0 x.volume.items h)
effect_order r x (change.Keep item on) n large fit h = stays_next 0 x.volume.next_item.0 _ large (order_changed item _ (λ i. refl) 0 x.volume.next_item.0 x.volume.items h)
