-- What a change that fits keeps of live asks.
use Rattle.std.proofs.Common.{◌≡◌, ◌⊎◌, ◌<◌, ◌≤◌, ℕ, Bool, true, false, List, [], ◌∷◌, ◌++◌, refl, sym, ◌∙◌, ap, subst, inl, inr, arith, eq-eqb}
use Rattle.std.specs.Prelude.{Option, Some, None, is_some, map, unwrap_or, ◌==◌}
use Rattle.std.specs.List.{list_all, list_any}
use Rattle.std.proofs.lemmas.Bool.{eqb-true}
use Rattle.cf_base.specs.declared.changes.Change.{Change}
use Rattle.cf_base.specs.declared.changes.Change.TheVariants as change
use Rattle.cf_base.specs.declared.ids.ItemId.{ItemId}
use Rattle.cf_base.specs.declared.ids.Usn.{Usn}
use Rattle.cf_base.specs.declared.messages.Request.{Request}
use Rattle.cf_base.specs.declared.messages.Request.TheVariants as request
use Rattle.cf_base.specs.declared.notices.Frame.{Frame}
use Rattle.cf_base.specs.declared.notices.Frame.TheVariants as frame
use Rattle.cf_base.specs.declared.waits.Ask.{Ask}
use Rattle.cf_model.specs.Effects.{changed, copies, effect, leaves_at}
use Rattle.cf_model.specs.Identities.{base_bytes}
use Rattle.cf_model.specs.Contents.{base_named, up_to}
use Rattle.cf_model.specs.Items.{Item, item_of, pin_of}
use Rattle.cf_model.specs.Missing.{Wait}
use Rattle.cf_model.specs.Numbers.{no_usn}
use Rattle.cf_model.specs.Requests.{Live, is_fetch}
use Rattle.cf_model.specs.Soundness.{Each}
use Rattle.cf_model.specs.State.{Filter}
use Rattle.cf_model.specs.Overlay.{Written, over}
use Rattle.cf_model.specs.Store.{Held, bytes_of}
use Rattle.cf_model_laws.specs.Fitting.{Meets, NamesWell, NoEntry, Touches}
use Rattle.cf_model_laws.specs.Invariant.{All, AllLack, IsLiveRight, IsRight, Lacks, Names, NoItem, OfRequest, SameBase, put_bytes, waits_on}
use Rattle.cf_model_laws.proofs.FitEntries.{apart_each}
use Rattle.cf_model_laws.proofs.FitItems.{each_append, each_changed, each_filter}
use Rattle.cf_model_laws.proofs.Gathered.{all_both, all_weaker, each_all, each_any, each_both}
use Rattle.cf_model_laws.proofs.HeldBytes.{lacks_emptied}
use Rattle.cf_model_laws.proofs.RightItems.{both_none, no_way, same_named}

abbrev Any : Item → Type 0
Any i = Unit {0}

abbrev Misses : Item → Type 0
Misses i = list_all is_some i.held ≡ false

plainly : (at id : ItemId) (f : Item → Item) (P : Item → Type 0) → ((i : Item) → (f i).id ≡ i.id) → ((i : Item) → P i → P (f i)) → (items : List Item) → Each at P items → Each at P (changed id f items)
plainly at id f P same k items h = each_changed at id f Any P P same (λ i _. k i) (λ i g. g) items (each_any id Any (λ i. tt) items) h

new_apart : (new at next : ℕ) → new ≡ next → at < next → (new == at) ≡ true → ⊥
new_apart new at next e h z = let y : new ≡ at = eqb-true new at z in omega (arith, e, h, y)

-- an item that is waited for is none that is not
waited_apart : (at id : ItemId) (ws : List Wait) → waits_on at ws ≡ true → waits_on id ws ≡ false → at.0 ≡ id.0 → ⊥
waited_apart at id ws h k e = let z : waits_on id ws ≡ true = subst (λ (n : ℕ). list_any (λ (w : Wait). w.item.0 == n) ws ≡ true) e h in no_way (sym k ∙ z)

differ : (a b : ℕ) → (a == b) ≡ false → a ≡ b → ⊥
differ a b h e = let z : (a == b) ≡ true = subst (λ (n : ℕ). (a == n) ≡ true) e (eq-eqb a a refl) in no_way (sym h ∙ z)

-- the file itself, or another one
touched : (at id : ItemId) (f : Item → Item) → ((i : Item) → (f i).id ≡ i.id) → (items : List Item) → Lacks at items → Lacks at (changed id f items) ⊎ (at.0 ≡ id.0)
touched at id f same items h = by (at.0 == id.0) refl where
  by : (b : Bool) → (at.0 == id.0) ≡ b → Lacks at (changed id f items) ⊎ (at.0 ≡ id.0)
  by true e = inr (eqb-true at.0 id.0 e)
  by false e = inl (apart_each id f at Misses same (differ at.0 id.0 e) items h)

-- a file that an ask is on lacks a byte still

pub lacks_stays : (r : Held) (x : Filter) (c : Change) (n : Usn) (at : ItemId) → at.0 < x.volume.next_item.0 → waits_on at x.waiting.waits ≡ true → Meets r x c
    → Lacks at x.volume.items → Lacks at (effect x.volume.items c n) ⊎ Touches c at
lacks_stays r x (change.Make item parent name k size identity) n at below waited fit h = inl (each_append at Misses x.volume.items _ h (λ z. absurd (new_apart item.0 at.0 x.volume.next_item.0 fit.0 below z)))
lacks_stays r x (change.Remove item) n at below waited fit h = inl (each_filter at Misses _ x.volume.items h)
lacks_stays r x (change.Move item parent name) n at below waited fit h = inl (plainly at item _ Misses (λ i. refl) (λ i k. k) x.volume.items h)
lacks_stays r x (change.Write item off bytes) n at below waited fit h = touched at item _ (λ i. refl) x.volume.items h
lacks_stays r x (change.Size item size) n at below waited fit h = touched at item _ (λ i. refl) x.volume.items h
lacks_stays r x (change.Filled item start bytes) n at below waited fit h = touched at item _ (λ i. refl) x.volume.items h
lacks_stays r x (change.Validated item start len) n at below waited fit h = inl (plainly at item _ Misses (λ i. refl) (λ i k. k) x.volume.items h)
lacks_stays r x (change.Emptied item start len) n at below waited fit h = inl (plainly at item _ Misses (λ i. refl) (λ i k. lacks_emptied (leaves_at start len i.writes) 0 i.held k) x.volume.items h)
lacks_stays r x (change.SetPin item pin) n at below waited fit h = inl (plainly at item _ Misses (λ i. refl) (λ i k. k) x.volume.items h)
lacks_stays r x (change.Mark item number) n at below waited fit h = inl (plainly at item _ Misses (λ i. refl) (λ i k. k) x.volume.items h)
lacks_stays r x (change.Clear item) n at below waited fit h = inl (plainly at item _ Misses (λ i. refl) (λ i k. k) x.volume.items h)
lacks_stays r x (change.Convert item identity) n at below waited fit h = inl (plainly at item _ Misses (λ i. refl) (λ i k. k) x.volume.items h)
lacks_stays r x (change.Revert item) n at below waited fit h = elim fit as (λ _. Lacks at (effect x.volume.items (change.Revert item) n) ⊎ Touches (change.Revert item) at) [ ]
lacks_stays r x (change.Rebase item identity len number) n at below waited fit h = inl (plainly at item _ Misses (λ i. refl) (λ i k. k) x.volume.items h)
lacks_stays r x (change.Take item identity size) n at below waited fit h = inl (apart_each item _ at Misses (λ i. refl) (waited_apart at item x.waiting.waits waited fit.2) x.volume.items h)
lacks_stays r x (change.Copy item from parent name) n at below waited fit h = inl (by (item_of x.volume.items from)) where
  nothing : (items : List Item) → Each at Misses items → Each at Misses (items ++ [])
  nothing [] k = tt
  nothing (i ∷ is) k = (k.0, nothing is k.1)

  by : (o : Option Item) → Each at Misses (x.volume.items ++ copies item parent name (pin_of x.volume.items parent) n o)
  by None = nothing x.volume.items h
  by (Some i) = each_append at Misses x.volume.items _ h (λ z. absurd (new_apart item.0 at.0 x.volume.next_item.0 fit below z))
lacks_stays r x (change.Populated item) n at below waited fit h = inl (plainly at item _ Misses (λ i. refl) (λ i k. k) x.volume.items h)
lacks_stays r x (change.Keep item on) n at below waited fit h = inl (plainly at item _ Misses (λ i. refl) (λ i k. k) x.volume.items h)

-- and has the same base

abbrev Has : Held → List ℕ → Item → Type 0
Has r base i = base_bytes r i ≡ base

base_stays : (r : Held) (x : Filter) (c : Change) (n : Usn) (at : ItemId) (base : List ℕ) → at.0 < x.volume.next_item.0 → waits_on at x.waiting.waits ≡ true → Lacks at x.volume.items → All (IsRight r n) x.volume.items → Meets r x c
    → Each at (Has r base) x.volume.items → Each at (Has r base) (effect x.volume.items c n)
base_stays r x (change.Make item parent name k size identity) n at base below waited lacks right fit h = each_append at (Has r base) x.volume.items _ h (λ z. absurd (new_apart item.0 at.0 x.volume.next_item.0 fit.0 below z))
base_stays r x (change.Remove item) n at base below waited lacks right fit h = each_filter at (Has r base) _ x.volume.items h
base_stays r x (change.Move item parent name) n at base below waited lacks right fit h = plainly at item _ (Has r base) (λ i. refl) (λ i k. k) x.volume.items h
base_stays r x (change.Write item off bytes) n at base below waited lacks right fit h = plainly at item _ (Has r base) (λ i. refl) (λ i k. k) x.volume.items h
base_stays r x (change.Size item size) n at base below waited lacks right fit h = plainly at item _ (Has r base) (λ i. refl) (λ i k. k) x.volume.items h
base_stays r x (change.Filled item start bytes) n at base below waited lacks right fit h = plainly at item _ (Has r base) (λ i. refl) (λ i k. k) x.volume.items h
base_stays r x (change.Validated item start len) n at base below waited lacks right fit h = plainly at item _ (Has r base) (λ i. refl) (λ i k. k) x.volume.items h
base_stays r x (change.Emptied item start len) n at base below waited lacks right fit h = plainly at item _ (Has r base) (λ i. refl) (λ i k. k) x.volume.items h
base_stays r x (change.SetPin item pin) n at base below waited lacks right fit h = plainly at item _ (Has r base) (λ i. refl) (λ i k. k) x.volume.items h
base_stays r x (change.Mark item number) n at base below waited lacks right fit h = plainly at item _ (Has r base) (λ i. refl) (λ i k. k) x.volume.items h
base_stays r x (change.Clear item) n at base below waited lacks right fit h = plainly at item _ (Has r base) (λ i. refl) (λ i k. k) x.volume.items h
base_stays r x (change.Convert item identity) n at base below waited lacks right fit h = each_changed at item _ (λ i. SameBase identity i.identity) (Has r base) (Has r base) (λ i. refl) (λ i same k. same_named r identity i.identity same ∙ k) (λ i k. k) x.volume.items fit.0 h
base_stays r x (change.Revert item) n at base below waited lacks right fit h = elim fit as (λ _. Each at (Has r base) (effect x.volume.items (change.Revert item) n)) [ ]
base_stays r x (change.Rebase item identity len number) n at base below waited lacks right fit h = by fit.1 where
  one : (i : Item) → (i.directory ≡ false → ((list_all is_some i.held ≡ true) ⊎ (up_to number i.writes ≡ [])) × (base_named r identity ≡ put_bytes (base_bytes r i) number i.writes)) → NamesWell r i.directory i.placeholder identity → IsRight r n i → Misses i → Has r base i
      → (d : Bool) → i.directory ≡ d → base_named r identity ≡ base
  one i here well old lacks k true e = same_named r identity i.identity (both_none identity i.identity (well.bare e) (old.bare e)) ∙ k
  one i here well old lacks k false e = taken (here e).0 (here e).1 where
    taken : (list_all is_some i.held ≡ true) ⊎ (up_to number i.writes ≡ []) → base_named r identity ≡ put_bytes (base_bytes r i) number i.writes → base_named r identity ≡ base
    taken (inl all) q = no_way (sym lacks ∙ all)
    taken (inr none) q = q ∙ ap (λ (ws : List Written). over (base_bytes r i) (map (λ w. w.write) ws)) none ∙ k

  by : (((number ≡ no_usn) × Each item (λ i. SameBase identity i.identity) x.volume.items)
      ⊎ (NoEntry x.volume.book.entries item × Each item (λ i. i.directory ≡ false → ((list_all is_some i.held ≡ true) ⊎ (up_to number i.writes ≡ [])) × (base_named r identity ≡ put_bytes (base_bytes r i) number i.writes)) x.volume.items))
      → Each at (Has r base) (effect x.volume.items (change.Rebase item identity len number) n)
  by (inl s) = each_changed at item _ (λ i. SameBase identity i.identity) (Has r base) (Has r base) (λ i. refl) (λ i same k. same_named r identity i.identity same ∙ k) (λ i k. k) x.volume.items s.1 h
  by (inr s) =
      each_changed at item _ (λ i. ((i.directory ≡ false → ((list_all is_some i.held ≡ true) ⊎ (up_to number i.writes ≡ [])) × (base_named r identity ≡ put_bytes (base_bytes r i) number i.writes)) × NamesWell r i.directory i.placeholder identity) × IsRight r n i) (λ i. Misses i × Has r base i) (Has r base) (λ i. refl)
      (λ i c k. one i c.0.0 c.0.1 c.1 k.0 k.1 i.directory refl) (λ i k. k.1) x.volume.items
      (each_both item (λ i. (i.directory ≡ false → ((list_all is_some i.held ≡ true) ⊎ (up_to number i.writes ≡ [])) × (base_named r identity ≡ put_bytes (base_bytes r i) number i.writes)) × NamesWell r i.directory i.placeholder identity) (IsRight r n)
      (λ i. ((i.directory ≡ false → ((list_all is_some i.held ≡ true) ⊎ (up_to number i.writes ≡ [])) × (base_named r identity ≡ put_bytes (base_bytes r i) number i.writes)) × NamesWell r i.directory i.placeholder identity) × IsRight r n i) (λ i a b. (a, b)) x.volume.items
      (each_both item (λ i. i.directory ≡ false → ((list_all is_some i.held ≡ true) ⊎ (up_to number i.writes ≡ [])) × (base_named r identity ≡ put_bytes (base_bytes r i) number i.writes)) (λ i. NamesWell r i.directory i.placeholder identity)
      (λ i. (i.directory ≡ false → ((list_all is_some i.held ≡ true) ⊎ (up_to number i.writes ≡ [])) × (base_named r identity ≡ put_bytes (base_bytes r i) number i.writes)) × NamesWell r i.directory i.placeholder identity) (λ i a b. (a, b)) x.volume.items s.1 fit.0)
      (each_all item (IsRight r n) (IsRight r n) (λ i k. k) x.volume.items right))
      (each_both at Misses (Has r base) (λ i. Misses i × Has r base i) (λ i a b. (a, b)) x.volume.items lacks h)
base_stays r x (change.Take item identity size) n at base below waited lacks right fit h = apart_each item _ at (Has r base) (λ i. refl) (waited_apart at item x.waiting.waits waited fit.2) x.volume.items h
base_stays r x (change.Copy item from parent name) n at base below waited lacks right fit h = by (item_of x.volume.items from) where
  nothing : (items : List Item) → Each at (Has r base) items → Each at (Has r base) (items ++ [])
  nothing [] k = tt
  nothing (i ∷ is) k = (k.0, nothing is k.1)

  by : (o : Option Item) → Each at (Has r base) (x.volume.items ++ copies item parent name (pin_of x.volume.items parent) n o)
  by None = nothing x.volume.items h
  by (Some i) = each_append at (Has r base) x.volume.items _ h (λ z. absurd (new_apart item.0 at.0 x.volume.next_item.0 fit below z))
base_stays r x (change.Populated item) n at base below waited lacks right fit h = plainly at item _ (Has r base) (λ i. refl) (λ i k. k) x.volume.items h
base_stays r x (change.Keep item on) n at base below waited lacks right fit h = plainly at item _ (Has r base) (λ i. refl) (λ i k. k) x.volume.items h

-- all live asks

names_stay : (r : Held) (x : Filter) (c : Change) (n : Usn) (a : Ask) → a.item.0 < x.volume.next_item.0 → waits_on a.item x.waiting.waits ≡ true → Lacks a.item x.volume.items → All (IsRight r n) x.volume.items → Meets r x c
    → (q : Request) → Names r x.volume.items a q → Names r (effect x.volume.items c n) a q
names_stay r x c n a below waited lacks right fit (request.Fetch key rid version start len) h = λ e. ((h e).0, base_stays r x c n a.item (unwrap_or (bytes_of r rid version) []) below waited lacks right fit (h e).1)
names_stay r x c n a below waited lacks right fit (request.Feed round after) h = tt
names_stay r x c n a below waited lacks right fit (request.List key rid) h = tt
names_stay r x c n a below waited lacks right fit (request.Put token rid expect parent name bytes) h = tt
names_stay r x c n a below waited lacks right fit (request.MakeDir token parent name) h = tt
names_stay r x c n a below waited lacks right fit (request.Move token rid parent name) h = tt
names_stay r x c n a below waited lacks right fit (request.Remove token rid expect) h = tt
names_stay r x c n a below waited lacks right fit (request.Settle token) h = tt
names_stay r x c n a below waited lacks right fit (request.Keep token count) h = tt

pub of_request : (P Q : Request → Type 0) → ((q : Request) → P q → Q q) → (m : Option Frame) → OfRequest P m → OfRequest Q m
of_request P Q k (Some (frame.Request q)) h = k q h
of_request P Q k (Some (frame.Reply answers r)) h = tt
of_request P Q k None h = tt

pub effect_live : (r : Held) (x : Filter) (c : Change) (n : Usn) (ms : List (Option Frame)) (keys epoch next : ℕ) (outbox : List Ask) (a : Ask) → x.volume.next_item.0 ≤ next → Lacks a.item x.volume.items → All (IsRight r n) x.volume.items → Meets r x c
    → IsLiveRight r ms keys epoch x.volume.next_item.0 x.volume.items x.waiting.waits outbox a → IsLiveRight r ms keys epoch next (effect x.volume.items c n) x.waiting.waits outbox a
effect_live r x c n ms keys epoch next outbox a more lacks right fit h = record {
  below = let z : a.item.0 < x.volume.next_item.0 = h.below in omega (arith, more, z);
  given = h.given;
  waited = h.waited;
  named = all_weaker (OfRequest (Names r x.volume.items a)) (OfRequest (Names r (effect x.volume.items c n) a)) (of_request (Names r x.volume.items a) (Names r (effect x.volume.items c n) a) (names_stay r x c n a h.below h.waited lacks right fit)) ms h.named;
  boxed = h.boxed;
}

abbrev pub LiveAt : Held → List (Option Frame) → ℕ → ℕ → ℕ → List Item → List Wait → List Ask → Live → Type 0
LiveAt r ms keys epoch next items ws outbox a = is_fetch a.ask.kind ≡ true → IsLiveRight r ms keys epoch next items ws outbox a.ask

abbrev pub LackAt : (ItemId → Type 0) → List Item → Live → Type 0
LackAt But items a = is_fetch a.ask.kind ≡ true → Lacks a.ask.item items ⊎ But a.ask.item

pub effect_lives : (r : Held) (x : Filter) (c : Change) (n : Usn) (ms : List (Option Frame)) (keys epoch next : ℕ) (outbox : List Ask) (asks : List Live) → x.volume.next_item.0 ≤ next → All (IsRight r n) x.volume.items → Meets r x c
    → AllLack NoItem x.volume.items asks → All (LiveAt r ms keys epoch x.volume.next_item.0 x.volume.items x.waiting.waits outbox) asks
    → All (LiveAt r ms keys epoch next (effect x.volume.items c n) x.waiting.waits outbox) asks
effect_lives r x c n ms keys epoch next outbox asks more right fit lack h =
    all_both (LackAt NoItem x.volume.items) (LiveAt r ms keys epoch x.volume.next_item.0 x.volume.items x.waiting.waits outbox) (LiveAt r ms keys epoch next (effect x.volume.items c n) x.waiting.waits outbox)
    (λ a l k e. effect_live r x c n ms keys epoch next outbox a.ask more (only a.ask.item (l e)) right fit (k e)) asks lack h where
      only : (item : ItemId) → Lacks item x.volume.items ⊎ NoItem item → Lacks item x.volume.items
      only item (inl k) = k
      only item (inr k) = elim k as (λ _. Lacks item x.volume.items) [ ]

pub effect_lack : (r : Held) (x : Filter) (c : Change) (n : Usn) (ms : List (Option Frame)) (keys epoch : ℕ) (outbox : List Ask) (asks : List Live) → Meets r x c
    → AllLack NoItem x.volume.items asks → All (LiveAt r ms keys epoch x.volume.next_item.0 x.volume.items x.waiting.waits outbox) asks → AllLack (Touches c) (effect x.volume.items c n) asks
effect_lack r x c n ms keys epoch outbox asks fit lack h =
    all_both (LackAt NoItem x.volume.items) (LiveAt r ms keys epoch x.volume.next_item.0 x.volume.items x.waiting.waits outbox) (LackAt (Touches c) (effect x.volume.items c n))
    (λ a l k e. only a.ask.item (k e).below (k e).waited (l e)) asks lack h where
      only : (item : ItemId) → item.0 < x.volume.next_item.0 → waits_on item x.waiting.waits ≡ true → Lacks item x.volume.items ⊎ NoItem item → Lacks item (effect x.volume.items c n) ⊎ Touches c item
      only item below waited (inl k) = lacks_stays r x c n item below waited fit k
      only item below waited (inr k) = elim k as (λ _. Lacks item (effect x.volume.items c n) ⊎ Touches c item) [ ]
