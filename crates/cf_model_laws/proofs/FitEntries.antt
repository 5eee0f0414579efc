-- What a change that fits keeps of uploads on their way.
use Rattle.std.proofs.Common.{◌≡◌, ◌⊎◌, ◌<◌, ℕ, Bool, true, false, List, [], ◌∷◌, ◌++◌, refl, sym, ◌∙◌, ap, subst, inl, inr, arith, length}
use Rattle.std.specs.Prelude.{Option, Some, None, is_some, map, cond, ◌==◌}
use Rattle.std.specs.List.{list_all}
use Rattle.std.proofs.lemmas.Bool.{eqb-true}
use Rattle.cf_base.specs.declared.changes.Change.{Change}
use Rattle.cf_base.specs.declared.changes.Change.TheVariants as change
use Rattle.cf_base.specs.declared.ids.ItemId.{ItemId}
use Rattle.cf_base.specs.declared.ids.Token.{Token}
use Rattle.cf_base.specs.declared.ids.Usn.{Usn}
use Rattle.cf_base.specs.declared.notices.Frame.{Frame}
use Rattle.cf_model.specs.Books.{Action, MakeDir, MoveItem, PutFile, QueueEntry, RemoveItem}
use Rattle.cf_model.specs.Contents.{base_named, up_to}
use Rattle.cf_model.specs.Effects.{changed, copies, effect, filled, later_than, left_out}
use Rattle.cf_model.specs.Given.{named_by}
use Rattle.cf_model.specs.Identities.{base_bytes}
use Rattle.cf_model.specs.Items.{Item, item_of, pin_of}
use Rattle.cf_model.specs.Numbers.{above, no_usn}
use Rattle.cf_model.specs.Overlay.{Put, Resize, Written, over, patched, resized}
use Rattle.cf_model.specs.Soundness.{Each}
use Rattle.cf_model.specs.State.{Filter}
use Rattle.cf_model.specs.Store.{Held}
use Rattle.cf_model.proofs.Rebasing.{later-all}
use Rattle.cf_model_laws.specs.Fitting.{Meets, NoEntry}
use Rattle.cf_model_laws.specs.Invariant.{All, Carries, EntryFits, FitsBy, IsEntryOf, IsRight, OfRequest, PutFits, PutFitsOf, SameBase, is_put, put_bytes}
use Rattle.cf_model_laws.proofs.FitItems.{each_append, each_changed, each_filter}
use Rattle.cf_model_laws.proofs.Gathered.{all_weaker, each_all, each_any, each_both}
use Rattle.cf_model_laws.proofs.HeldBytes.{here_filled, here_patched, here_resized, up_to_more}
use Rattle.cf_model_laws.proofs.RightItems.{same_named}

-- other values that are equal
carried : (r : Held) (ms : List (Option Frame)) (token : Token) (at : Usn) (base new : List ℕ) (directory placeholder : Bool) (held after : List (Option ℕ)) (ws vs : List Written)
    → (list_all is_some after ≡ true) ⊎ (up_to at vs ≡ []) → put_bytes new at vs ≡ put_bytes base at ws → PutFitsOf r ms token at base directory placeholder held ws → PutFitsOf r ms token at new directory placeholder after vs
carried r ms token at base new directory placeholder held after ws vs here same h = record {
  file = h.file;
  here = here;
  placed = h.placed;
  recorded = λ rid version e. h.recorded rid version e ∙ ap (λ (b : List ℕ). Some b) (sym same);
  asked = all_weaker (OfRequest (Carries token (put_bytes base at ws))) (OfRequest (Carries token (put_bytes new at vs))) (λ m k. subst (λ (b : List ℕ). OfRequest (Carries token b) m) (sym same) k) ms h.asked;
}

-- another base of the same bytes, in a placeholder
based_anew : (r : Held) (ms : List (Option Frame)) (token : Token) (at : Usn) (base new : List ℕ) (directory placeholder : Bool) (held : List (Option ℕ)) (ws : List Written)
    → new ≡ base → PutFitsOf r ms token at base directory placeholder held ws → PutFitsOf r ms token at new directory true held ws
based_anew r ms token at base new directory placeholder held ws e h =
    let k : PutFitsOf r ms token at new directory placeholder held ws = carried r ms token at base new directory placeholder held held ws ws h.here (ap (λ (b : List ℕ). put_bytes b at ws) e) h in
    record { file = k.file; here = k.here; placed = refl; recorded = k.recorded; asked = k.asked }

more_put : (base : List ℕ) (at : Usn) (ws : List Written) (w : Written) → above w.number at ≡ true → put_bytes base at (ws ++ w ∷ []) ≡ put_bytes base at ws
more_put base at ws w h = ap (λ (vs : List Written). over base (map (λ v. v.write) vs)) (up_to_more at ws w h)

still : {A B C D : Type 0} → (A → C) → (B → D) → A ⊎ B → C ⊎ D
still f g (inl a) = inl (f a)
still f g (inr b) = inr (g b)

-- one entry

abbrev Any : Item → Type 0
Any i = Unit {0}

plainly : (r : Held) (ms : List (Option Frame)) (e : QueueEntry) (id : ItemId) (f : Item → Item) → ((i : Item) → (f i).id ≡ i.id) → ((i : Item) → PutFits r ms e i → PutFits r ms e (f i))
    → (items : List Item) → Each e.item (PutFits r ms e) items → Each e.item (PutFits r ms e) (changed id f items)
plainly r ms e id f same k items h = each_changed e.item id f Any (PutFits r ms e) (PutFits r ms e) same (λ i _. k i) (λ i g. g) items (each_any id Any (λ i. tt) items) h

with_each : (r : Held) (ms : List (Option Frame)) (e : QueueEntry) (id : ItemId) (f : Item → Item) (C : Item → Type 0) → ((i : Item) → (f i).id ≡ i.id) → ((i : Item) → C i → PutFits r ms e i → PutFits r ms e (f i))
    → (items : List Item) → Each id C items → Each e.item (PutFits r ms e) items → Each e.item (PutFits r ms e) (changed id f items)
with_each r ms e id f C same k items c h = each_changed e.item id f C (PutFits r ms e) (PutFits r ms e) same k (λ i g. g) items c h

-- an item that the entry is not about
pub apart_each : (id : ItemId) (f : Item → Item) (at : ItemId) (P : Item → Type 0) → ((i : Item) → (f i).id ≡ i.id) → (at.0 ≡ id.0 → ⊥) → (items : List Item) → Each at P items → Each at P (changed id f items)
apart_each id f at P same apart [] h = tt
apart_each id f at P same apart (i ∷ is) h = (by (i.id.0 == id.0) (λ z. eqb-true i.id.0 id.0 z), apart_each id f at P same apart is h.1) where
  by : (b : Bool) → (b ≡ true → i.id.0 ≡ id.0) → ((cond b (f i) i).id.0 == at.0) ≡ true → P (cond b (f i) i)
  by true g z = absurd (apart (sym (eqb-true i.id.0 at.0 (subst (λ (x : ItemId). (x.0 == at.0) ≡ true) (same i) z)) ∙ g refl))
  by false g z = h.0 z

pub new_apart : (new at next : ℕ) → new ≡ next → at < next → (new == at) ≡ true → ⊥
new_apart new at next e h z = let y : new ≡ at = eqb-true new at z in omega (arith, e, h, y)

pub record PutEntry (n : Usn) (next : ℕ) (e : QueueEntry) : Type 0 where
  pub early : true ≡ true → above n e.number ≡ true
  pub item : e.item.0 < next

put_stays : (r : Held) (ms : List (Option Frame)) (x : Filter) (c : Change) (n : Usn) (e : QueueEntry) (next epoch tokens : ℕ) → next ≡ x.volume.next_item.0 → PutEntry n next e → (NoEntry x.volume.book.entries (named_by c) → e.item.0 ≡ (named_by c).0 → ⊥) → Meets r x c
    → All (IsRight r n) x.volume.items → Each e.item (PutFits r ms e) x.volume.items → Each e.item (PutFits r ms e) (effect x.volume.items c n)
put_stays r ms x (change.Make item parent name k size identity) n e next epoch tokens is g free fit right h =
    each_append e.item (PutFits r ms e) x.volume.items _ h (λ z. absurd (new_apart item.0 e.item.0 next (fit.0 ∙ sym is) g.item z))
put_stays r ms x (change.Remove item) n e next epoch tokens is g free fit right h = each_filter e.item (PutFits r ms e) _ x.volume.items h
put_stays r ms x (change.Move item parent name) n e next epoch tokens is g free fit right h = plainly r ms e item _ (λ i. refl) (λ i k. k) x.volume.items h
put_stays r ms x (change.Write item at bytes) n e next epoch tokens is g free fit right h =
    plainly r ms e item _ (λ i. refl)
    (λ i k. let w : Written = record { number = n; before = length i.held; write = Put at bytes } in
    carried r ms e.token e.number (base_bytes r i) (base_bytes r i) i.directory i.placeholder i.held (patched (Some 0) at (map Some bytes) i.held) i.writes (i.writes ++ w ∷ []) (still (here_patched at bytes i.held) (λ z. up_to_more e.number i.writes w (g.early refl) ∙ z) k.here) (more_put (base_bytes r i) e.number i.writes w (g.early refl)) k)
    x.volume.items h
put_stays r ms x (change.Size item size) n e next epoch tokens is g free fit right h =
    plainly r ms e item _ (λ i. refl)
    (λ i k. let w : Written = record { number = n; before = length i.held; write = Resize size } in
    carried r ms e.token e.number (base_bytes r i) (base_bytes r i) i.directory i.placeholder i.held (resized (Some 0) size i.held) i.writes (i.writes ++ w ∷ []) (still (here_resized size i.held) (λ z. up_to_more e.number i.writes w (g.early refl) ∙ z) k.here) (more_put (base_bytes r i) e.number i.writes w (g.early refl)) k)
    x.volume.items h
put_stays r ms x (change.Filled item start bytes) n e next epoch tokens is g free fit right h =
    plainly r ms e item _ (λ i. refl) (λ i k. carried r ms e.token e.number (base_bytes r i) (base_bytes r i) i.directory i.placeholder i.held (filled start bytes i.held) i.writes i.writes (still (here_filled start bytes i.held) (λ z. z) k.here) refl k) x.volume.items h
put_stays r ms x (change.Validated item start len) n e next epoch tokens is g free fit right h = plainly r ms e item _ (λ i. refl) (λ i k. k) x.volume.items h
put_stays r ms x (change.Emptied item start len) n e next epoch tokens is g free fit right h =
    with_each r ms e item _ (λ i. i.writes ≡ []) (λ i. refl) (λ i clean k. carried r ms e.token e.number (base_bytes r i) (base_bytes r i) i.directory i.placeholder i.held (left_out start len i).held i.writes i.writes (inr (ap (up_to e.number) clean)) refl k) x.volume.items
    (each_both item (λ i. i.in_sync ≡ true) (IsRight r n) (λ i. i.writes ≡ []) (λ i s k. k.clean s) x.volume.items fit (each_all item (IsRight r n) (IsRight r n) (λ i k. k) x.volume.items right)) h
put_stays r ms x (change.SetPin item pin) n e next epoch tokens is g free fit right h = plainly r ms e item _ (λ i. refl) (λ i k. k) x.volume.items h
put_stays r ms x (change.Mark item number) n e next epoch tokens is g free fit right h = with_each r ms e item _ _ (λ i. refl) (λ i clean k. carried r ms e.token e.number (base_bytes r i) (base_bytes r i) i.directory i.placeholder i.held i.held i.writes [] (inr refl) (ap (λ (ws : List Written). put_bytes (base_bytes r i) e.number ws) (sym clean.0)) k) x.volume.items fit h
put_stays r ms x (change.Clear item) n e next epoch tokens is g free fit right h = plainly r ms e item _ (λ i. refl) (λ i k. k) x.volume.items h
put_stays r ms x (change.Convert item identity) n e next epoch tokens is g free fit right h =
    with_each r ms e item _ _ (λ i. refl) (λ i same k. based_anew r ms e.token e.number (base_bytes r i) (base_named r identity) i.directory i.placeholder i.held i.writes (same_named r identity i.identity same) k) x.volume.items fit.0 h
put_stays r ms x (change.Revert item) n e next epoch tokens is g free fit right h = elim fit as (λ _. Each e.item (PutFits r ms e) (effect x.volume.items (change.Revert item) n)) [ ]
put_stays r ms x (change.Rebase item identity len at) n e next epoch tokens is g free fit right h = by fit.1 where
  one : (i : Item) → (at ≡ no_usn) → SameBase identity i.identity → IsRight r n i → PutFits r ms e i → PutFitsOf r ms e.token e.number (base_named r identity) i.directory i.placeholder i.held (later_than at i.writes)
  one i zero same k p =
      let all : later_than at i.writes ≡ i.writes = ap (λ (a : Usn). later_than a i.writes) zero ∙ (later-all no_usn no_usn i.writes refl k.rises).0 in
      let bytes : base_named r identity ≡ base_bytes r i = same_named r identity i.identity same in
      carried r ms e.token e.number (base_bytes r i) (base_named r identity) i.directory i.placeholder i.held i.held i.writes (later_than at i.writes) (still (λ z. z) (λ z. ap (up_to e.number) all ∙ z) p.here)
      (ap (λ (ws : List Written). put_bytes (base_named r identity) e.number ws) all ∙ ap (λ (b : List ℕ). put_bytes b e.number i.writes) bytes) p

  by : (((at ≡ no_usn) × Each item (λ i. SameBase identity i.identity) x.volume.items) ⊎ (NoEntry x.volume.book.entries item × Each item (λ i. i.directory ≡ false → ((list_all is_some i.held ≡ true) ⊎ (up_to at i.writes ≡ [])) × (base_named r identity ≡ put_bytes (base_bytes r i) at i.writes)) x.volume.items)) → Each e.item (PutFits r ms e) (effect x.volume.items (change.Rebase item identity len at) n)
  by (inl k) =
      with_each r ms e item _ (λ i. SameBase identity i.identity × IsRight r n i) (λ i. refl) (λ i c p. one i k.0 c.0 c.1 p) x.volume.items
      (each_both item (λ i. SameBase identity i.identity) (IsRight r n) (λ i. SameBase identity i.identity × IsRight r n i) (λ i a b. (a, b)) x.volume.items k.1 (each_all item (IsRight r n) (IsRight r n) (λ i q. q) x.volume.items right)) h
  by (inr k) = apart_each item _ e.item (PutFits r ms e) (λ i. refl) (free k.0) x.volume.items h
put_stays r ms x (change.Take item identity size) n e next epoch tokens is g free fit right h = apart_each item _ e.item (PutFits r ms e) (λ i. refl) (free fit.1) x.volume.items h
put_stays r ms x (change.Copy item from parent name) n e next epoch tokens is g free fit right h = by (item_of x.volume.items from) where
  nothing : (items : List Item) → Each e.item (PutFits r ms e) items → Each e.item (PutFits r ms e) (items ++ [])
  nothing [] k = tt
  nothing (i ∷ is) k = (k.0, nothing is k.1)

  by : (o : Option Item) → Each e.item (PutFits r ms e) (x.volume.items ++ copies item parent name (pin_of x.volume.items parent) n o)
  by None = nothing x.volume.items h
  by (Some i) = each_append e.item (PutFits r ms e) x.volume.items _ h (λ z. absurd (new_apart item.0 e.item.0 next (fit ∙ sym is) g.item z))
put_stays r ms x (change.Populated item) n e next epoch tokens is g free fit right h = plainly r ms e item _ (λ i. refl) (λ i k. k) x.volume.items h
put_stays r ms x (change.Keep item on) n e next epoch tokens is g free fit right h = plainly r ms e item _ (λ i. refl) (λ i k. k) x.volume.items h

-- what the kind of an item says

abbrev Kinds : (Bool → Bool → Type 0) → Item → Type 0
Kinds R i = R i.directory i.placeholder

pub kind_stays : (r : Held) (x : Filter) (c : Change) (n : Usn) (at : ItemId) (next : ℕ) → next ≡ x.volume.next_item.0 → at.0 < next → (R : Bool → Bool → Type 0) → ((d p : Bool) → R d p → R d true) → Meets r x c
    → Each at (Kinds R) x.volume.items → Each at (Kinds R) (effect x.volume.items c n)
kind_stays r x (change.Make item parent name kind size identity) n at next is below R k fit h = each_append at (Kinds R) x.volume.items _ h (λ z. absurd (new_apart item.0 at.0 next (fit.0 ∙ sym is) below z))
kind_stays r x (change.Remove item) n at next is below R k fit h = each_filter at (Kinds R) _ x.volume.items h
kind_stays r x (change.Move item parent name) n at next is below R k fit h = each_changed at item _ Any (Kinds R) (Kinds R) (λ i. refl) (λ i _ q. q) (λ i q. q) x.volume.items (each_any item Any (λ i. tt) x.volume.items) h
kind_stays r x (change.Write item off bytes) n at next is below R k fit h = each_changed at item _ Any (Kinds R) (Kinds R) (λ i. refl) (λ i _ q. q) (λ i q. q) x.volume.items (each_any item Any (λ i. tt) x.volume.items) h
kind_stays r x (change.Size item size) n at next is below R k fit h = each_changed at item _ Any (Kinds R) (Kinds R) (λ i. refl) (λ i _ q. q) (λ i q. q) x.volume.items (each_any item Any (λ i. tt) x.volume.items) h
kind_stays r x (change.Filled item start bytes) n at next is below R k fit h = each_changed at item _ Any (Kinds R) (Kinds R) (λ i. refl) (λ i _ q. q) (λ i q. q) x.volume.items (each_any item Any (λ i. tt) x.volume.items) h
kind_stays r x (change.Validated item start len) n at next is below R k fit h = each_changed at item _ Any (Kinds R) (Kinds R) (λ i. refl) (λ i _ q. q) (λ i q. q) x.volume.items (each_any item Any (λ i. tt) x.volume.items) h
kind_stays r x (change.Emptied item start len) n at next is below R k fit h = each_changed at item _ Any (Kinds R) (Kinds R) (λ i. refl) (λ i _ q. q) (λ i q. q) x.volume.items (each_any item Any (λ i. tt) x.volume.items) h
kind_stays r x (change.SetPin item pin) n at next is below R k fit h = each_changed at item _ Any (Kinds R) (Kinds R) (λ i. refl) (λ i _ q. q) (λ i q. q) x.volume.items (each_any item Any (λ i. tt) x.volume.items) h
kind_stays r x (change.Mark item number) n at next is below R k fit h = each_changed at item _ Any (Kinds R) (Kinds R) (λ i. refl) (λ i _ q. q) (λ i q. q) x.volume.items (each_any item Any (λ i. tt) x.volume.items) h
kind_stays r x (change.Clear item) n at next is below R k fit h = each_changed at item _ Any (Kinds R) (Kinds R) (λ i. refl) (λ i _ q. q) (λ i q. q) x.volume.items (each_any item Any (λ i. tt) x.volume.items) h
kind_stays r x (change.Convert item identity) n at next is below R k fit h = each_changed at item _ Any (Kinds R) (Kinds R) (λ i. refl) (λ i _ q. k i.directory i.placeholder q) (λ i q. q) x.volume.items (each_any item Any (λ i. tt) x.volume.items) h
kind_stays r x (change.Revert item) n at next is below R k fit h = elim fit as (λ _. Each at (Kinds R) (effect x.volume.items (change.Revert item) n)) [ ]
kind_stays r x (change.Rebase item identity len number) n at next is below R k fit h = each_changed at item _ Any (Kinds R) (Kinds R) (λ i. refl) (λ i _ q. q) (λ i q. q) x.volume.items (each_any item Any (λ i. tt) x.volume.items) h
kind_stays r x (change.Take item identity size) n at next is below R k fit h = each_changed at item _ Any (Kinds R) (Kinds R) (λ i. refl) (λ i _ q. q) (λ i q. q) x.volume.items (each_any item Any (λ i. tt) x.volume.items) h
kind_stays r x (change.Copy item from parent name) n at next is below R k fit h = by (item_of x.volume.items from) where
  nothing : (items : List Item) → Each at (Kinds R) items → Each at (Kinds R) (items ++ [])
  nothing [] q = tt
  nothing (i ∷ is) q = (q.0, nothing is q.1)

  by : (o : Option Item) → Each at (Kinds R) (x.volume.items ++ copies item parent name (pin_of x.volume.items parent) n o)
  by None = nothing x.volume.items h
  by (Some i) = each_append at (Kinds R) x.volume.items _ h (λ z. absurd (new_apart item.0 at.0 next (fit ∙ sym is) below z))
kind_stays r x (change.Populated item) n at next is below R k fit h = each_changed at item _ Any (Kinds R) (Kinds R) (λ i. refl) (λ i _ q. q) (λ i q. q) x.volume.items (each_any item Any (λ i. tt) x.volume.items) h
kind_stays r x (change.Keep item on) n at next is below R k fit h = each_changed at item _ Any (Kinds R) (Kinds R) (λ i. refl) (λ i _ q. q) (λ i q. q) x.volume.items (each_any item Any (λ i. tt) x.volume.items) h

by_action : (r : Held) (ms : List (Option Frame)) (x : Filter) (c : Change) (n : Usn) (a : Action) (e : QueueEntry) (next epoch tokens : ℕ) → next ≡ x.volume.next_item.0 → IsEntryOf n next epoch tokens e → e.action ≡ a
    → (NoEntry x.volume.book.entries (named_by c) → e.item.0 ≡ (named_by c).0 → ⊥) → Meets r x c → All (IsRight r n) x.volume.items → FitsBy a r ms x.volume.items e → FitsBy a r ms (effect x.volume.items c n) e
by_action r ms x c n PutFile e next epoch tokens is g same free fit right h = put_stays r ms x c n e next epoch tokens is (record { early = λ _. g.early (ap is_put same); item = g.item }) free fit right h
by_action r ms x c n MakeDir e next epoch tokens is g same free fit right h = kind_stays r x c n e.item next is g.item (λ d p. d ≡ true) (λ d p k. k) fit h
by_action r ms x c n MoveItem e next epoch tokens is g same free fit right h = tt
by_action r ms x c n RemoveItem e next epoch tokens is g same free fit right h = tt

pub member_no : (id : ItemId) (es all : List QueueEntry) → (NoEntry all id → NoEntry es id) → All (λ e. NoEntry all id → e.item.0 ≡ id.0 → ⊥) es
member_no id [] all k = tt
member_no id (e ∷ es) all k = (λ n. (k n).0, member_no id es all (λ n. (k n).1))

pub three : (P Q R S : QueueEntry → Type 0) → ((e : QueueEntry) → P e → Q e → R e → S e) → (es : List QueueEntry) → All P es → All Q es → All R es → All S es
three P Q R S k [] a b c = tt
three P Q R S k (e ∷ es) a b c = (k e a.0 b.0 c.0, three P Q R S k es a.1 b.1 c.1)

pub effect_entries : (r : Held) (ms : List (Option Frame)) (x : Filter) (c : Change) (n : Usn) (epoch tokens : ℕ) → Meets r x c → All (IsRight r n) x.volume.items
    → All (IsEntryOf n x.volume.next_item.0 epoch tokens) x.volume.book.entries → All (EntryFits r ms x.volume.items) x.volume.book.entries → All (EntryFits r ms (effect x.volume.items c n)) x.volume.book.entries
effect_entries r ms x c n epoch tokens fit right given h =
    three (IsEntryOf n x.volume.next_item.0 epoch tokens) (λ e. NoEntry x.volume.book.entries (named_by c) → e.item.0 ≡ (named_by c).0 → ⊥) (EntryFits r ms x.volume.items) (EntryFits r ms (effect x.volume.items c n))
    (λ e g free k. by_action r ms x c n e.action e x.volume.next_item.0 epoch tokens refl g refl free fit right k)
    x.volume.book.entries given (member_no (named_by c) x.volume.book.entries x.volume.book.entries (λ n. n)) h
