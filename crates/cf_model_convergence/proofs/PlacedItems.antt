-- In each state items are trees, directories are bare, and what is used is of its kind.
use Rattle.std.proofs.Common.{◌≡◌, ◌⊎◌, ◌≤◌, ◌<◌, ◌+◌, ℕ, zero, suc, Bool, true, false, List, [], ◌∷◌, ◌++◌, refl, sym, ◌∙◌, ap, subst, inl, inr, arith, length, take}
use Rattle.std.specs.Prelude.{Option, Some, None, is_some, not, ◌&&◌, ◌||◌, ◌==◌}
use Rattle.std.specs.List.{list_any}
use Rattle.std.proofs.Math.Seq.{take-length}
use Rattle.std.proofs.lemmas.Bool.{cases_lt, eqb-true}
use Rattle.std.proofs.lemmas.List.{length-append, length-take-le, take-append-le, take-take, take_all}
use Rattle.cf_base.specs.declared.answers.Answer.{Answer}
use Rattle.cf_base.specs.declared.changes.Change.{Change}
use Rattle.cf_base.specs.declared.changes.Change.TheVariants as change
use Rattle.cf_base.specs.declared.events.Event.{Event}
use Rattle.cf_base.specs.declared.ids.ItemId.{ItemId}
use Rattle.cf_base.specs.declared.ids.Usn.{Usn}
use Rattle.cf_base.specs.declared.policies.Mode.TheVariants as mode
use Rattle.cf_base.specs.declared.waits.WaitKind.TheVariants as wait_kind
use Rattle.cf_model.specs.Calls.{next_handle}
use Rattle.cf_model.specs.Changes.{next_number}
use Rattle.cf_model.specs.Effects.{effect}
use Rattle.cf_model.specs.Items.{Item, item_of, root}
use Rattle.cf_model.specs.Lawful.{Runs}
use Rattle.cf_model.specs.Logs.{items_of}
use Rattle.cf_model.specs.LookUp.{item_line}
use Rattle.cf_model.specs.Missing.{Wait, no_span}
use Rattle.cf_model.specs.Numbers.{no_key, same_key}
use Rattle.cf_model.specs.Requests.{is_list, is_list_wait, wait_after}
use Rattle.cf_model.specs.Skips.{in_use}
use Rattle.cf_model.specs.State.{Filter, Link, Open, State, items_now, start}
use Rattle.cf_model.specs.Store.{Held}
use Rattle.cf_model.specs.Waits.{Need, beside, wait_for}
use Rattle.cf_model.specs.Words.{when}
use Rattle.cf_model_laws.specs.Invariant.{All, IsSound}
use Rattle.cf_model_laws.specs.Premises.{IsFair, IsFresh}
use Rattle.cf_model_laws.specs.Seats.{HasByte, IsListed, IsOpenOn, IsSeated, NeedsWell}
use Rattle.cf_model_laws.specs.Uses.{Replaces}
use Rattle.cf_model_laws.proofs.BesideGuarded.{Fact, HoldsIn, Knowing, KnowingRuns, whole_knowing}
use Rattle.cf_model_laws.proofs.ContentLaws.{start_sound}
use Rattle.cf_model_laws.proofs.EventsGuarded.{Whole, runs_keep}
use Rattle.cf_model_laws.proofs.Gathered.{all_append, all_both, all_filter, all_found, all_weaker}
use Rattle.cf_model_laws.proofs.LoggedGuarded.{items_more}
use Rattle.cf_model_laws.proofs.OutboxRuns.{Kept, kept_whole}
use Rattle.cf_model_laws.proofs.FoundItems.{found_id}
use Rattle.cf_model_laws.proofs.RightItems.{fits_meets, no_way}
use Rattle.cf_model_laws.proofs.SeatLaws.{seated_changed, seated_less, seated_more}
use Rattle.cf_model_laws.proofs.SoundSettles.{same_item}
use Rattle.cf_model_laws.proofs.UseLaws.{apart, idle_apart}
use Rattle.cf_model_convergence.specs.Matching.{IsBelow}
use Rattle.cf_model_convergence.specs.Trees.{ArePlaced, AreListsWaited, AreBare, AreTrees, AtAll, Climbs, IsUnder, NoneLists, is_listing_on}
use Rattle.cf_model_convergence.proofs.BareItems.{IsBare, effect_bare}
use Rattle.cf_model_convergence.proofs.ClimbLaws.{line_parent}
use Rattle.cf_model_convergence.proofs.ListsWaited.{lists_runs}
use Rattle.cf_model_convergence.proofs.TreeChanges.{effect_trees, removed_trees}

-- after each change of a log

no_more : (n : ℕ) → n ≤ n
no_more n = omega arith

none_any : {A : Type 0} (f : A → Bool) (xs : List A) → All (λ x. f x ≡ false) xs → list_any f xs ≡ false
none_any f [] h = refl
none_any f (x ∷ xs) h = rw h.0 (none_any f xs h.1)

pub at_now : (P : List Item → Type 0) (log : List (Usn × Change)) → AtAll P log → P (items_of log)
at_now P log h = subst (λ (l : List (Usn × Change)). P (items_of l)) (take-length log) (h (length log) (no_more (length log)))

pub at_more : (P : List Item → Type 0) (log : List (Usn × Change)) (c : Usn × Change) → AtAll P log → P (items_of (log ++ c ∷ [])) → AtAll P (log ++ c ∷ [])
at_more P log c h last n l = by (cases_lt (length log) n) where
  full : (a b m : ℕ) → a < b → b ≤ m → m ≡ a + 1 → m ≤ b
  full a b m x y z = omega (arith, x, y, z)

  by : (length log < n) ⊎ (n ≤ length log) → P (items_of (take n (log ++ c ∷ [])))
  by (inl k) = subst (λ (cs : List (Usn × Change)). P (items_of cs)) (sym (take_all n (log ++ c ∷ []) (full (length log) n (length (log ++ c ∷ [])) k l (length-append log (c ∷ []))))) last
  by (inr k) = subst (λ (cs : List (Usn × Change)). P (items_of cs)) (sym (take-append-le n log (c ∷ []) k)) (h n k)

pub at_front : (P : List Item → Type 0) (m : ℕ) (log : List (Usn × Change)) → AtAll P log → AtAll P (take m log)
at_front P m log h n l = by (cases_lt (length log) m) where
  under : (a b : ℕ) → a < b → a ≤ b
  under a b k = omega (arith, k)

  through : (a b c d : ℕ) → a ≤ b → b ≡ c → c ≤ d → a ≤ d
  through a b c d x y z = omega (arith, x, y, z)

  to : (a b c : ℕ) → a ≤ b → b ≡ c → a ≤ c
  to a b c x y = omega (arith, x, y)

  by : (length log < m) ⊎ (m ≤ length log) → P (items_of (take n (take m log)))
  by (inl k) =
      let e : take m log ≡ log = take_all m log (under (length log) m k) in
      subst (λ (cs : List (Usn × Change)). P (items_of (take n cs))) (sym e) (h n (subst (λ (cs : List (Usn × Change)). n ≤ length cs) e l))
  by (inr k) =
      let e : length (take m log) ≡ m = length-take-le m log k in
      subst (λ (cs : List (Usn × Change)). P (items_of cs)) (sym (take-take n m log (to n (length (take m log)) m l e))) (h n (through n (length (take m log)) m (length log) l e k))

-- what is here stays here but where it is removed

seated_effect : (items : List Item) (c : Change) (n : Usn) (id : ItemId) (d : Bool) → (Replaces c id → ⊥) → IsSeated items id d → IsSeated (effect items c n) id d
seated_effect items (change.Make item parent name kind size identity) n id d free h = seated_more items _ id d h
seated_effect items (change.Remove item) n id d free h = seated_less item items id d (λ z. free (sym z)) h
seated_effect items (change.Move item parent name) n id d free h = seated_changed item _ (λ i. refl) (λ i. refl) items id d h
seated_effect items (change.Write item at bytes) n id d free h = seated_changed item _ (λ i. refl) (λ i. refl) items id d h
seated_effect items (change.Size item size) n id d free h = seated_changed item _ (λ i. refl) (λ i. refl) items id d h
seated_effect items (change.Filled item start bytes) n id d free h = seated_changed item _ (λ i. refl) (λ i. refl) items id d h
seated_effect items (change.Validated item start len) n id d free h = seated_changed item _ (λ i. refl) (λ i. refl) items id d h
seated_effect items (change.Emptied item start len) n id d free h = seated_changed item _ (λ i. refl) (λ i. refl) items id d h
seated_effect items (change.SetPin item pin) n id d free h = seated_changed item _ (λ i. refl) (λ i. refl) items id d h
seated_effect items (change.Mark item number) n id d free h = seated_changed item _ (λ i. refl) (λ i. refl) items id d h
seated_effect items (change.Clear item) n id d free h = seated_changed item _ (λ i. refl) (λ i. refl) items id d h
seated_effect items (change.Convert item identity) n id d free h = seated_changed item _ (λ i. refl) (λ i. refl) items id d h
seated_effect items (change.Revert item) n id d free h = seated_changed item _ (λ i. refl) (λ i. refl) items id d h
seated_effect items (change.Rebase item identity len at) n id d free h = seated_changed item _ (λ i. refl) (λ i. refl) items id d h
seated_effect items (change.Take item identity size) n id d free h = seated_changed item _ (λ i. refl) (λ i. refl) items id d h
seated_effect items (change.Copy item from parent name) n id d free h = seated_more items _ id d h
seated_effect items (change.Populated item) n id d free h = seated_changed item _ (λ i. refl) (λ i. refl) items id d h
seated_effect items (change.Keep item on) n id d free h = seated_changed item _ (λ i. refl) (λ i. refl) items id d h

seats_after : (items : List Item) (c : Change) (n : Usn) (hs : List Open) (ws : List Wait) → All (λ o. Replaces c o.item → ⊥) hs × All (λ w. Replaces c w.item → ⊥) ws → All (λ o. IsSeated items o.item false) hs → All (λ w. IsSeated items w.item (is_list_wait w.kind)) ws
    → All (λ o. IsSeated (effect items c n) o.item false) hs × All (λ w. IsSeated (effect items c n) w.item (is_list_wait w.kind)) ws
seats_after items c n hs ws free opened waited = (
  all_both (λ o. Replaces c o.item → ⊥) (λ o. IsSeated items o.item false) (λ o. IsSeated (effect items c n) o.item false) (λ o k h. seated_effect items c n o.item false k h) hs free.0 opened,
  all_both (λ w. Replaces c w.item → ⊥) (λ w. IsSeated items w.item (is_list_wait w.kind)) (λ w. IsSeated (effect items c n) w.item (is_list_wait w.kind)) (λ w k h. seated_effect items c n w.item (is_list_wait w.kind) k h) ws free.1 waited,
)

-- beside the invariant

abbrev pub Placed : Fact
Placed l e p log hs hn ws wn = IsFair l → ArePlaced log hs ws

abbrev pub ListsOf : Filter → Type 0
ListsOf x = AreListsWaited x.outbox x.waiting

-- what waits for a listing is a directory
listing_seat : (items : List Item) (ws : List Wait) (id : ItemId) → All (λ w. IsSeated items w.item (is_list_wait w.kind)) ws → is_listing_on ws id ≡ true → IsSeated items id true
listing_seat items [] id h e = no_way e
listing_seat items (w ∷ ws) id h e = by (w.item.0 == id.0) (is_list_wait w.kind) refl refl e (listing_seat items ws id h.1) where
  by : (a b : Bool) → (w.item.0 == id.0) ≡ a → is_list_wait w.kind ≡ b → ((a && b) || is_listing_on ws id) ≡ true → (is_listing_on ws id ≡ true → IsSeated items id true) → IsSeated items id true
  by true true q p e g = subst (λ (x : ItemId). IsSeated items x true) (same_item w.item id (eqb-true w.item.0 id.0 q)) (subst (IsSeated items w.item) p h.0)
  by true false q p e g = g e
  by false b q p e g = g e

module _ (l : Link) (tokens : ℕ) (x : Filter) (sound : IsSound l tokens x) (h : ArePlaced x.volume.log x.handles x.waiting.waits) where
  now_is : items_of x.volume.log ≡ x.volume.items
  now_is = sym sound.of_log.0

  trees_now : AreTrees x.volume.items
  trees_now = subst AreTrees now_is (at_now AreTrees x.volume.log h.trees)

  bare_now : AreBare x.volume.items
  bare_now = subst AreBare now_is (at_now AreBare x.volume.log h.bare)

  waited_now : All (λ w. IsSeated x.volume.items w.item (is_list_wait w.kind)) x.waiting.waits
  waited_now = subst (λ (items : List Item). All (λ w. IsSeated items w.item (is_list_wait w.kind)) x.waiting.waits) now_is h.waited

  opened_now : All (λ o. IsSeated x.volume.items o.item false) x.handles
  opened_now = subst (λ (items : List Item). All (λ o. IsSeated items o.item false) x.handles) now_is h.opened

  listed_now : ListsOf x → (parent : ItemId) → IsListed x parent → IsSeated x.volume.items parent true
  listed_now lists parent k =
      subst (λ (y : ItemId). IsSeated x.volume.items y true) (same_item k.0.ask.item parent k.3)
      (listing_seat x.volume.items x.waiting.waits k.0.ask.item waited_now ((all_found (λ a. is_list a.ask.kind ≡ true → is_listing_on x.waiting.waits a.ask.item ≡ true) (λ a. same_key a.ask.key k.0.ask.key) x.waiting.asks k.0 k.1 lists).0 k.2))

  used_now : (item : ItemId) → IsOpenOn x item → IsSeated x.volume.items item false
  used_now item k = subst (λ (y : ItemId). IsSeated x.volume.items y false) k.3 (all_found (λ o. IsSeated x.volume.items o.item false) (λ o. same_key o.handle.0 k.0.0) x.handles k.1 k.2 opened_now).0

  -- after a change
  placed_after : (c : Change) → All (λ o. Replaces c o.item → ⊥) x.handles × All (λ w. Replaces c w.item → ⊥) x.waiting.waits → AreTrees (effect x.volume.items c (next_number x.volume)) → AreBare (effect x.volume.items c (next_number x.volume))
      → ArePlaced (x.volume.log ++ (next_number x.volume, c) ∷ []) x.handles x.waiting.waits
  placed_after c free trees bare = record {
    trees = at_more AreTrees x.volume.log (next_number x.volume, c) h.trees (subst AreTrees (sym after) trees);
    bare = at_more AreBare x.volume.log (next_number x.volume, c) h.bare (subst AreBare (sym after) bare);
    opened = subst (λ (items : List Item). All (λ o. IsSeated items o.item false) x.handles) (sym after) seats.0;
    waited = subst (λ (items : List Item). All (λ w. IsSeated items w.item (is_list_wait w.kind)) x.waiting.waits) (sym after) seats.1;
  }
    where
      after : items_of (x.volume.log ++ (next_number x.volume, c) ∷ []) ≡ effect x.volume.items c (next_number x.volume)
      after = items_more (root ∷ []) x.volume.log (next_number x.volume) c ∙ ap (λ (items : List Item). effect items c (next_number x.volume)) now_is

      seats : All (λ o. IsSeated (effect x.volume.items c (next_number x.volume)) o.item false) x.handles × All (λ w. IsSeated (effect x.volume.items c (next_number x.volume)) w.item (is_list_wait w.kind)) x.waiting.waits
      seats = seats_after x.volume.items c (next_number x.volume) x.handles x.waiting.waits free opened_now waited_now

  -- what a wait that begins is of
  need_seat : (n : Need) → NeedsWell n x → IsSeated x.volume.items n.item (is_list_wait n.kind)
  need_seat n fit = by fit.on where
    plain : (b : Bool) → is_list_wait n.kind ≡ false → IsSeated x.volume.items n.item false → IsSeated x.volume.items n.item (is_list_wait n.kind)
    plain b e k = subst (IsSeated x.volume.items n.item) (sym e) k

    byte : HasByte x n.item → IsSeated x.volume.items n.item false
    byte k = one k.0.directory refl where
      one : (b : Bool) → k.0.directory ≡ b → IsSeated x.volume.items n.item false
      one true q = no_way (sym (ap (λ (held : List (Option ℕ)). list_any is_some held) ((all_found IsBare (λ j. j.id.0 == n.item.0) x.volume.items k.0 k.1 bare_now).0 q).0) ∙ k.2)
      one false q = inl (k.0, k.1, q)

    by : IsSeated x.volume.items n.item (is_list_wait n.kind) ⊎ ((is_list_wait n.kind ≡ false) × (IsOpenOn x n.item ⊎ HasByte x n.item)) → IsSeated x.volume.items n.item (is_list_wait n.kind)
    by (inl k) = k
    by (inr k) = elim k.1 as (λ _. IsSeated x.volume.items n.item (is_list_wait n.kind)) [ inl o ↦ plain true k.0 (used_now n.item o) | inr b ↦ plain true k.0 (byte b) ]

  placed_begins : (n : Need) → NeedsWell n x → ArePlaced x.volume.log x.handles (x.waiting.waits ++ wait_for n x ∷ beside n x)
  placed_begins n fit = record {
    trees = h.trees;
    bare = h.bare;
    opened = h.opened;
    waited = subst (λ (items : List Item). All (λ w. IsSeated items w.item (is_list_wait w.kind)) (x.waiting.waits ++ wait_for n x ∷ beside n x)) (sym now_is)
        (all_append (λ w. IsSeated x.volume.items w.item (is_list_wait w.kind)) x.waiting.waits (wait_for n x ∷ beside n x) waited_now (need_seat n fit, others n.background _ refl));
  }
    where
      others : (a b : Bool) → n.background ≡ a → All (λ w. IsSeated x.volume.items w.item (is_list_wait w.kind)) (when (a && b) (wait_after x.waiting 1 wait_kind.Background n.item None no_span ∷ []))
      others true true q = (subst (IsSeated x.volume.items n.item) (fit.alone q) (need_seat n fit), tt)
      others true false q = tt
      others false b q = tt

placed_knowing : Knowing ListsOf Placed
placed_knowing = record {
  puts = λ l tokens c x sound fit known h fair.
      let s = sound fair in
      placed_after l tokens x s (h fair) c (apart l.remote x c s.numbered (fits_meets l.remote x c (fit fair)))
      (effect_trees l.remote x c (next_number x.volume) s.now.more s.now.order (listed_now l tokens x s (h fair) (known fair)) (fit fair) (trees_now l tokens x s (h fair)))
      (effect_bare l.remote x c (next_number x.volume) s.now.order (used_now l tokens x s (h fair)) (fit fair) (bare_now l tokens x s (h fair)));
  ends = λ l e p log hs hn ws wn stays h fair. let k = h fair in record { trees = k.trees; bare = k.bare; opened = k.opened; waited = all_filter (λ w. IsSeated (items_of log) w.item (is_list_wait w.kind)) stays ws k.waited };
  begins = λ l tokens n x sound fit unmet known h fair. placed_begins l tokens x (sound fair) (h fair) n (fit fair);
  opens = λ l tokens item x sound fit h fair.
      let k = h fair in
      record {
        trees = k.trees;
        bare = k.bare;
        opened = all_append (λ o. IsSeated (items_of x.volume.log) o.item false) x.handles (record { handle = next_handle x; item = item } ∷ []) k.opened (subst (λ (items : List Item). IsSeated items item false) (sound fair).of_log.0 (fit fair), tt);
        waited = k.waited;
      };
  closes = λ l e p log hs hn ws wn stays h fair. let k = h fair in record { trees = k.trees; bare = k.bare; opened = all_filter (λ o. IsSeated (items_of log) o.item false) stays hs k.opened; waited = k.waited };
  stops = λ l e p log hs hn ws wn h fair. let k = h fair in record { trees = k.trees; bare = k.bare; opened = k.opened; waited = tt };
  grows = λ l k e p log hs hn ws wn fair h z. h (fair z).0;
}

placed_runs : KnowingRuns ListsOf Placed
placed_runs = record {
  knowing = placed_knowing;
  removes = λ l tokens item x sound idle leaf h fair.
      let s = sound fair in
      placed_after l tokens x s (h fair) (change.Remove item) (idle_apart item x s.numbered idle) (removed_trees item x.volume.items (leaf fair) (trees_now l tokens x s (h fair))) (all_filter IsBare _ x.volume.items (bare_now l tokens x s (h fair)));
  crashes = λ l e p log hs hn ws wn h fair. let k = h fair in record { trees = k.trees; bare = k.bare; opened = tt; waited = tt };
  opens = λ l p epoch v hs hn ws wn more h fair. let k = h fair in record { trees = at_front AreTrees p.count v.log k.trees; bare = at_front AreBare p.count v.log k.bare; opened = tt; waited = tt };
}

-- what the machine keeps of these, with what waits for listings
abbrev pub IsPlacedIn : State → Type 0
IsPlacedIn s = Kept AreListsWaited lists_runs s × HoldsIn Placed s

pub placed_whole : Whole IsPlacedIn
placed_whole = whole_knowing ListsOf Placed placed_runs (Kept AreListsWaited lists_runs) (λ s h fair. h.1) (kept_whole AreListsWaited lists_runs)

first_trees : AreTrees (root ∷ [])
first_trees = record { top = (root, refl, refl, refl); under = ((λ below. absurd (below refl)), tt); reached = ((0, refl), tt) }

pub at_first : (P : List Item → Type 0) → P (root ∷ []) → AtAll P []
at_first P h n l = by n where
  by : (n : ℕ) → P (items_of (take n []))
  by zero = h
  by (suc n) = h

pub run_placed : (remote : Held) (clusters : ℕ) (trace : List (Event × Answer)) (s : State) → Runs mode.Replay (start mode.Replay remote clusters) trace s → IsFresh remote → IsPlacedIn s
run_placed remote clusters trace s runs fresh =
    runs_keep IsPlacedIn placed_whole (start mode.Replay remote clusters) trace s runs
    ((start_sound remote clusters fresh, tt), λ fair. record { trees = at_first AreTrees first_trees; bare = at_first AreBare ((λ d. (refl, refl)), tt); opened = tt; waited = tt })

pub items_placed : (remote : Held) (clusters : ℕ) (trace : List (Event × Answer)) (s : State) → Runs mode.Replay (start mode.Replay remote clusters) trace s → IsFresh remote → IsFair s.link → ArePlaced s.filter.volume.log s.filter.handles s.filter.waiting.waits
items_placed remote clusters trace s runs fresh fair = (run_placed remote clusters trace s runs fresh).1 fair

pub lists_waited : (remote : Held) (clusters : ℕ) (trace : List (Event × Answer)) (s : State) → Runs mode.Replay (start mode.Replay remote clusters) trace s → IsFresh remote → AreListsWaited s.filter.outbox s.filter.waiting
lists_waited remote clusters trace s runs fresh = (run_placed remote clusters trace s runs fresh).0.1

-- so items are trees

module _ (s : State) (h : IsPlacedIn s) (fair : IsFair s.link) where
  pub placed_trees : AreTrees (items_now s)
  placed_trees = trees_now s.link s.volatile.tokens s.filter (h.0.0.1 fair) (h.1 fair)

  pub placed_bare : AreBare (items_now s)
  placed_bare = bare_now s.link s.volatile.tokens s.filter (h.0.0.1 fair) (h.1 fair)

  pub placed_tree : (i : Item) → IsBelow s i → (p : Item) × (item_of (items_now s) i.parent ≡ Some p) × (item_line (items_now s) i.id ≡ i.id.0 ∷ item_line (items_now s) p.id)
  placed_tree i below =
      let u = (all_found (IsUnder (items_now s)) (λ j. j.id.0 == i.id.0) (items_now s) i below.0 placed_trees.under).0 below.1 in
      let r = (all_found (λ j. (n : ℕ) × Climbs (items_now s) n j.id) (λ j. j.id.0 == i.id.0) (items_now s) i below.0 placed_trees.reached).0 in
      (u.0, u.1, line_parent (items_now s) r.0 i u.0 below.0 below.1 u.1 r.1)

  -- and where no list call waits no directory is in use
  apart_file : (id : ItemId) (p : Item) → item_of (items_now s) p.id ≡ Some p → p.directory ≡ true → IsSeated (items_now s) id false → (id.0 == p.id.0) ≡ false
  apart_file id p there dir seat = by (id.0 == p.id.0) refl where
    same : (q : Item) → ◌≡◌ {A = Option Item} (Some q) (Some p) → q ≡ p
    same q e = cc

    at : IsSeated (items_now s) id false → id.0 ≡ p.id.0 → ⊥
    at (inl k) z = no_way (sym k.2 ∙ ap (λ (i : Item). i.directory) (same k.0 (sym k.1 ∙ ap (λ (x : ItemId). item_of (items_now s) x) (same_item id p.id z) ∙ there)) ∙ dir)
    at (inr k) z = no_way k.1

    by : (b : Bool) → (id.0 == p.id.0) ≡ b → b ≡ false
    by true q = absurd (at seat (eqb-true id.0 p.id.0 q))
    by false q = refl

  pub placed_dirs : (i p : Item) → IsBelow s i → item_of (items_now s) i.parent ≡ Some p → p.directory ≡ true
  placed_dirs i p below up = ap (λ (j : Item). j.directory) (sym (same u.0 (sym u.1 ∙ up))) ∙ u.2 where
    u : (q : Item) × (item_of (items_now s) i.parent ≡ Some q) × (q.directory ≡ true)
    u = (all_found (IsUnder (items_now s)) (λ j. j.id.0 == i.id.0) (items_now s) i below.0 placed_trees.under).0 below.1

    same : (q : Item) → ◌≡◌ {A = Option Item} (Some q) (Some p) → q ≡ p
    same q e = cc

  pub placed_idle : NoneLists s → (i p : Item) → IsBelow s i → item_of (items_now s) i.parent ≡ Some p → in_use s p.id ≡ false
  placed_idle none i p below up = both_false _ _ (no_handle s.filter.handles opened) (no_wait s.filter.waiting.waits waited none) where
    dir : p.directory ≡ true
    dir = placed_dirs i p below up

    there : item_of (items_now s) p.id ≡ Some p
    there = subst (λ (x : ItemId). item_of (items_now s) x ≡ Some p) (sym (same_item p.id i.parent (found_id i.parent (items_now s) p up))) up

    opened : All (λ o. IsSeated (items_now s) o.item false) s.filter.handles
    opened = opened_now s.link s.volatile.tokens s.filter (h.0.0.1 fair) (h.1 fair)

    waited : All (λ w. IsSeated (items_now s) w.item (is_list_wait w.kind)) s.filter.waiting.waits
    waited = waited_now s.link s.volatile.tokens s.filter (h.0.0.1 fair) (h.1 fair)

    both_false : (a b : Bool) → a ≡ false → b ≡ false → (a || b) ≡ false
    both_false true b e f = no_way (sym e)
    both_false false b e f = f

    no_handle : (hs : List Open) → All (λ o. IsSeated (items_now s) o.item false) hs → list_any (λ o. o.item.0 == p.id.0) hs ≡ false
    no_handle hs k = none_any (λ o. o.item.0 == p.id.0) hs (all_weaker (λ o. IsSeated (items_now s) o.item false) (λ o. (o.item.0 == p.id.0) ≡ false) (λ o z. apart_file o.item p there dir z) hs k)

    no_wait : (ws : List Wait) → All (λ w. IsSeated (items_now s) w.item (is_list_wait w.kind)) ws → All (λ w. is_list_wait w.kind ≡ false) ws → list_any (λ w. (w.item.0 == p.id.0) && not (same_key w.id.0 no_key)) ws ≡ false
    no_wait ws k n =
        none_any (λ w. (w.item.0 == p.id.0) && not (same_key w.id.0 no_key)) ws
        (all_both (λ w. IsSeated (items_now s) w.item (is_list_wait w.kind)) (λ w. is_list_wait w.kind ≡ false) (λ w. ((w.item.0 == p.id.0) && not (same_key w.id.0 no_key)) ≡ false)
        (λ w z e. left_out (w.item.0 == p.id.0) (not (same_key w.id.0 no_key)) (apart_file w.item p there dir (subst (IsSeated (items_now s) w.item) e z))) ws k n) where
          left_out : (a b : Bool) → a ≡ false → (a && b) ≡ false
          left_out true b e = no_way (sym e)
          left_out false b e = refl
