-- What keeps it that what the cursor has passed is known rightly, of what entries tell that count.
use Rattle.std.proofs.Common.{◌≡◌, ◌⊎◌, ◌<◌, ◌≤◌, ◌+◌, ℕ, Bool, true, false, List, [], ◌∷◌, refl, sym, ◌∙◌, ap, subst, inl, inr, arith, take}
use Rattle.std.specs.Prelude.{Option, Some, None, cond, filter, find, nat_le, not, ◌==◌}
use Rattle.std.proofs.lemmas.Bool.{eqb-true}
use Rattle.std.proofs.lemmas.Bool.Decides.{nat_tests}
use Rattle.cf_base.specs.declared.changes.Change.{Change}
use Rattle.cf_base.specs.declared.changes.Change.TheVariants as change
use Rattle.cf_base.specs.declared.ids.ItemId.{ItemId}
use Rattle.cf_base.specs.declared.ids.Rid.{Rid}
use Rattle.cf_base.specs.declared.ids.Usn.{Usn}
use Rattle.cf_base.specs.declared.items.SeenPath.{SeenPath}
use Rattle.cf_base.specs.declared.messages.Entry.{Entry}
use Rattle.cf_model.specs.Books.{Book, book_after, seen_of, with_cursor, with_seen}
use Rattle.cf_model.specs.Effects.{made, rebased, took}
use Rattle.cf_model.specs.Fetching.{with_seen_from}
use Rattle.cf_model.specs.Growth.{IsCounted}
use Rattle.cf_model.specs.Identities.{base_version, entry_identity, target_of}
use Rattle.cf_model.specs.Items.{Item, pin_of}
use Rattle.cf_model.specs.Numbers.{root_rid}
use Rattle.cf_model.specs.Soundness.{Each}
use Rattle.cf_model.specs.State.{Filter}
use Rattle.cf_model.specs.Store.{Held, entry_told, latest, stored_at}
use Rattle.cf_model.specs.Words.{number_of}
use Rattle.cf_model_laws.specs.Fitting.{Fits}
use Rattle.cf_model_laws.specs.Invariant.{All, Among, IsAimed, target_in, version_in}
use Rattle.cf_model_laws.specs.Taken.{AreListedBy, IsNamedBy, NamesTold}
use Rattle.cf_model_laws.proofs.EntryLaws.{entry_target_in}
use Rattle.cf_model_laws.proofs.Gathered.{all_found, all_weaker, each_any}
use Rattle.cf_model_laws.proofs.Guarded.{AreSeenBelow}
use Rattle.cf_model_laws.proofs.SeenPaths.{seen_put}
use Rattle.cf_model_laws.proofs.SoundSettles.{same_item}
use Rattle.cf_model_convergence.specs.Lasting.{IsBaseEarly}
use Rattle.cf_model_convergence.specs.Passed.{ArePassedRight, AreTargetsLower, IsPassedRight, NamesRight, TellsBetween}
use Rattle.cf_model_convergence.specs.Resting.{IsKnown}
use Rattle.cf_model_convergence.specs.Tidy.{IsLower}
use Rattle.cf_model_convergence.proofs.FeedsTold.{all_among}
use Rattle.cf_model_convergence.proofs.PassedSteps.{free_right, seen_right}
use Rattle.cf_model_convergence.proofs.ReadyRests.{nothing}
use Rattle.cf_model_convergence.proofs.TidyItems.{found_rid}
use Rattle.cf_model_agreement.proofs.FeedsRight.{least}
use Rattle.cf_model_agreement.specs.Turned.{IsTurnedTo}
use Rattle.cf_model_agreement.proofs.EntriesHeard.{IsEntryRight}

never : (a n : ℕ) → a < n → n ≤ a → ⊥
never a n h k = omega (arith, h, k)

pub target_below : (id : ℕ) (rid : Rid) → (id ≡ 1 → ⊥) → cond (id == 1) root_rid rid ≡ rid
target_below id rid below = by (id == 1) refl where
  by : (b : Bool) → (id == 1) ≡ b → cond b root_rid rid ≡ rid
  by true q = absurd (below (eqb-true id 1 q))
  by false q = refl

-- fewer paths are seen
pub passed_fewer : (r : Held) (b d : Book) (items : List Item) → d.cursor ≡ b.cursor → ((id : ItemId) (p : SeenPath) → seen_of d id ≡ Some p → seen_of b id ≡ Some p) → ArePassedRight r items b → ArePassedRight r items d
passed_fewer r b d items cursor fewer h = all_weaker (IsPassedRight r b) (IsPassedRight r d) one items h where
  one : (i : Item) → IsPassedRight r b i → IsPassedRight r d i
  one i k below x found passed = let z = k below x found (subst (λ (n : ℕ). x.changed ≤ n) cursor passed) in record { live = z.live; version = z.version; seen = λ p e. z.seen p (fewer i.id p e) }

left_seen : (id item : ItemId) (ps : List SeenPath) (p : SeenPath) → find (λ q. q.item.0 == id.0) (filter (λ q. not (q.item.0 == item.0)) ps) ≡ Some p → find (λ q. q.item.0 == id.0) ps ≡ Some p
left_seen id item [] p e = e
left_seen id item (q ∷ ps) p e = by (q.item.0 == item.0) (q.item.0 == id.0) refl refl e (left_seen id item ps p) where
  clash : {A : Type 0} → ◌≡◌ {A = Option SeenPath} None (Some p) → A
  clash z = cc

  none : (xs : List SeenPath) → q.item.0 ≡ item.0 → q.item.0 ≡ id.0 → find (λ y. y.item.0 == id.0) (filter (λ y. not (y.item.0 == item.0)) xs) ≡ None
  none [] a b = refl
  none (y ∷ ys) a b = one (y.item.0 == item.0) refl (none ys a b) where
    one : (c : Bool) → (y.item.0 == item.0) ≡ c → find (λ z. z.item.0 == id.0) (filter (λ z. not (z.item.0 == item.0)) ys) ≡ None → find (λ z. z.item.0 == id.0) (cond (not c) (y ∷ filter (λ z. not (z.item.0 == item.0)) ys) (filter (λ z. not (z.item.0 == item.0)) ys)) ≡ None
    one true w g = g
    one false w g = rw (subst (λ (n : ℕ). (y.item.0 == n) ≡ false) (sym a ∙ b) w) g

  by : (a c : Bool) → (q.item.0 == item.0) ≡ a → (q.item.0 == id.0) ≡ c → find (λ y. y.item.0 == id.0) (cond (not a) (q ∷ filter (λ y. not (y.item.0 == item.0)) ps) (filter (λ y. not (y.item.0 == item.0)) ps)) ≡ Some p
      → (find (λ y. y.item.0 == id.0) (filter (λ y. not (y.item.0 == item.0)) ps) ≡ Some p → find (λ y. y.item.0 == id.0) ps ≡ Some p) → cond c (Some q) (find (λ y. y.item.0 == id.0) ps) ≡ Some p
  by true true w v z g = clash (sym (none ps (eqb-true q.item.0 item.0 w) (eqb-true q.item.0 id.0 v)) ∙ z)
  by true false w v z g = g z
  by false true w v z g = subst (λ (c : Bool). cond c (Some q) (find (λ y. y.item.0 == id.0) (filter (λ y. not (y.item.0 == item.0)) ps)) ≡ Some p) v z
  by false false w v z g = g (subst (λ (c : Bool). cond c (Some q) (find (λ y. y.item.0 == id.0) (filter (λ y. not (y.item.0 == item.0)) ps)) ≡ Some p) v z)

pub after_fewer : (c : Change) (b : Book) (id : ItemId) (p : SeenPath) → seen_of (book_after c b) id ≡ Some p → seen_of b id ≡ Some p
after_fewer (change.Remove item) b id p e = left_seen id item b.seen p e
after_fewer (change.Make item parent name kind size identity) b id p e = e
after_fewer (change.Move item parent name) b id p e = e
after_fewer (change.Write item at bytes) b id p e = e
after_fewer (change.Size item size) b id p e = e
after_fewer (change.Filled item start bytes) b id p e = e
after_fewer (change.Validated item start len) b id p e = e
after_fewer (change.Emptied item start len) b id p e = e
after_fewer (change.SetPin item pin) b id p e = e
after_fewer (change.Mark item number) b id p e = e
after_fewer (change.Clear item) b id p e = e
after_fewer (change.Convert item identity) b id p e = e
after_fewer (change.Revert item) b id p e = e
after_fewer (change.Rebase item identity len at) b id p e = e
after_fewer (change.Take item identity size) b id p e = e
after_fewer (change.Copy item from parent name) b id p e = e
after_fewer (change.Populated item) b id p e = e
after_fewer (change.Keep item on) b id p e = e

module _ (r : Held) (b : Book) (counted : IsCounted r) where
  abbrev pub On : Bool → Entry → Type 0
  On late e = IsEntryRight r late b.cursor e

  -- an item that was changed after the cursor
  pub late_item : (i : Item) (e : Entry) → On true e → ((i.id.0 ≡ 1 → ⊥) → (target_of i).0 ≡ e.rid.0) → IsPassedRight r b i
  late_item i e on target below x found passed = absurd (never b.cursor x.changed (on.right refl x (subst (λ (y : Rid). stored_at r.items y ≡ Some x) (rid_same (target_of i) e.rid (target below)) found)) passed) where
    rid_same : (a c : Rid) → a.0 ≡ c.0 → a ≡ c
    rid_same a c z = λ k. record { 0 = z k }

  told_target : (e : Entry) → On true e → (identity : List ℕ) → identity ≡ entry_identity e → (target_in identity).0 ≡ e.rid.0
  told_target e on identity q = ap (λ (y : List ℕ). (target_in y).0) q ∙ ap (λ (y : Rid). y.0) (entry_target_in e on.small)

  -- an item that comes to have the entry's target
  renamed : (identity : List ℕ) (i : Item) → NamesTold (On true) identity → i.identity ≡ identity → IsPassedRight r b i
  renamed identity i (inl z) same = free_right r b i counted (ap (λ (y : List ℕ). number_of (take 8 y)) same ∙ z)
  renamed identity i (inr z) same = late_item i z.0 z.1 (λ below. ap (λ (y : Rid). y.0) (target_below i.id.0 (target_in i.identity) below) ∙ ap (λ (y : List ℕ). (target_in y).0) same ∙ told_target z.0 z.1 identity z.2)

  none_seen : (next : ℕ) (item : ItemId) (p : SeenPath) → AreSeenBelow next b → item.0 ≡ next → seen_of b item ≡ Some p → ⊥
  none_seen next item p h e f = let k = all_found (λ q. q.item.0 < next) (λ q. q.item.0 == item.0) b.seen p f h in past p.item.0 next item.0 k.0 (eqb-true p.item.0 item.0 k.1) e where
    past : (a n m : ℕ) → a < n → a ≡ m → m ≡ n → ⊥
    past a n m h j k = omega (arith, h, j, k)

  -- a new item
  made_told : (next : ℕ) (i : Item) (d : Bool) → AreSeenBelow next b → i.id.0 ≡ next → IsAimed r d i.identity → (z : (e : Entry) × On false e × (i.identity ≡ entry_identity e)) → IsPassedRight r b i
  made_told next i d seen new aimed z below x found passed = known where
    e : Entry
    e = z.0

    on : On false e
    on = z.1

    target : target_of i ≡ e.rid
    target = target_below i.id.0 (target_in i.identity) below ∙ ap (λ (y : List ℕ). target_in y) z.2 ∙ entry_target_in e on.small

    lower : e.rid.0 ≡ 1 → ⊥
    lower w = by aimed where
      at : (target_in i.identity).0 ≡ 1
      at = ap (λ (y : Rid). y.0) (ap (λ (y : List ℕ). target_in y) z.2 ∙ entry_target_in e on.small) ∙ w

      zero_one : (n : ℕ) → n ≡ 0 → n ≡ 1 → ⊥
      zero_one n g k = omega (arith, g, k)

      by : IsAimed r d i.identity → ⊥
      by (inl k) = zero_one (target_in i.identity).0 k at
      by (inr k) = k.2 at

    told : (e ≡ entry_told x) × (e.live ≡ true) × ((version_in (entry_identity e)).0 ≡ latest x)
    told = on.now lower x (subst (λ (y : Rid). stored_at r.items y ≡ Some x) target found) passed

    known : IsKnown b i x
    known = record {
      live = sym (ap (λ (y : Entry). y.live) told.0) ∙ told.1;
      version = λ file. ap (λ (y : List ℕ). (version_in y).0) z.2 ∙ told.2;
      seen = λ p f. absurd (none_seen next i.id p seen new f);
    }

  made_right : (next : ℕ) (i : Item) (d : Bool) → AreSeenBelow next b → i.id.0 ≡ next → IsAimed r d i.identity → NamesTold (On false) i.identity → IsPassedRight r b i
  made_right next i d seen new aimed (inl z) = free_right r b i counted z
  made_right next i d seen new aimed (inr z) = made_told next i d seen new aimed z

  pub named_right : (x : Filter) (c : Change) (n : Usn) → AreSeenBelow x.volume.next_item.0 b → Fits r x c → IsNamedBy (On true) (On false) c → NamesRight r b x.volume.items c n
  named_right x (change.Make item parent name kind size identity) n seen fit named =
      made_right x.volume.next_item.0 (made item parent name kind size identity (pin_of x.volume.items parent) n) _ seen fit.0.0 fit.0.2.aimed named
  named_right x (change.Convert item identity) n seen fit named = named
  named_right x (change.Revert item) n seen fit named = fit
  named_right x (change.Rebase item identity len at) n seen fit named = each_any item (λ i. IsPassedRight r b (rebased identity len at i)) (λ i. renamed identity (rebased identity len at i) named refl) x.volume.items
  named_right x (change.Take item identity size) n seen fit named = each_any item (λ i. IsPassedRight r b (took identity size n i)) (λ i. renamed identity (took identity size n i) named refl) x.volume.items
  named_right x (change.Remove item) n seen fit named = tt
  named_right x (change.Move item parent name) n seen fit named = tt
  named_right x (change.Write item at bytes) n seen fit named = tt
  named_right x (change.Size item size) n seen fit named = tt
  named_right x (change.Filled item start bytes) n seen fit named = tt
  named_right x (change.Validated item start len) n seen fit named = tt
  named_right x (change.Emptied item start len) n seen fit named = tt
  named_right x (change.SetPin item pin) n seen fit named = tt
  named_right x (change.Mark item number) n seen fit named = tt
  named_right x (change.Clear item) n seen fit named = tt
  named_right x (change.Copy item from parent name) n seen fit named = tt
  named_right x (change.Populated item) n seen fit named = tt
  named_right x (change.Keep item on) n seen fit named = tt

-- the paths of a listing come to be seen
pub listed_right : (r : Held) (cursor : ℕ) (items : List Item) → AreTargetsLower items → (id : ℕ) (es : List Entry) (b : Book) → b.cursor ≡ cursor → AreListedBy (λ e. IsEntryRight r false cursor e) items id es → ArePassedRight r items b → ArePassedRight r items (with_seen_from id es b)
listed_right r cursor items lower id [] b same listed h = h
listed_right r cursor items lower id (e ∷ es) b same listed h = listed_right r cursor items lower (id + 1) es (with_seen p b) same listed.2 (seen_right r b p items (each items listed.1 lower h) h) where
  p : SeenPath
  p = record { item = record { 0 = id }; parent = e.parent; name = e.name }

  one : (i : Item) → (target_of i).0 ≡ e.rid.0 → ((i.id.0 ≡ 1 → ⊥) → (target_of i).0 ≡ 1 → ⊥) → IsPassedRight r b i → i.id.0 ≡ id → IsPassedRight r (with_seen p b) i
  one i target low k at below x found passed = record {
    live = z.live;
    version = z.version;
    seen = λ q f. let y : p ≡ q = inner (sym (seen_put p b) ∙ subst (λ (n : ItemId). seen_of (with_seen p b) n ≡ Some q) (same_item i.id (record { 0 = id }) at) f) in
        (ap (λ (w : SeenPath). w.parent.0) (sym y) ∙ ap (λ (w : Entry). w.parent.0) told, ap (λ (w : SeenPath). w.name) (sym y) ∙ ap (λ (w : Entry). w.name) told);
  }
    where
      z : IsKnown b i x
      z = k below x found passed

      rid_same : (a c : Rid) → a.0 ≡ c.0 → a ≡ c
      rid_same a c z = λ k. record { 0 = z k }

      told : e ≡ entry_told x
      told = (listed.0.now (λ w. low below (target ∙ w)) x (subst (λ (y : Rid). stored_at r.items y ≡ Some x) (rid_same (target_of i) e.rid target) found) (subst (λ (n : ℕ). x.changed ≤ n) same passed)).0

      inner : {q : SeenPath} → ◌≡◌ {A = Option SeenPath} (Some p) (Some q) → p ≡ q
      inner w = cc

  each : (is : List Item) → Each (record { 0 = id }) (λ i. (target_of i).0 ≡ e.rid.0) is → AreTargetsLower is → ArePassedRight r is b → Each (record { 0 = id }) (IsPassedRight r (with_seen p b)) is
  each [] a l k = tt
  each (i ∷ is) a l k = ((λ q. one i (a.0 q) l.0 k.0 (eqb-true i.id.0 id q)), each is a.1 l.1 k.1)

-- The cursor rises to a feed's clock: each item that was changed since has its entry, and its item is known as that tells it.
pub raised_turned : (r : Held) (b : Book) (items : List Item) (clock : ℕ) (es : List Entry) → IsCounted r → AreTargetsLower items → All (IsBaseEarly r) items → TellsBetween r b.cursor clock es → All (λ e. All (IsTurnedTo e b) items) es → ArePassedRight r items b → ArePassedRight r items (with_cursor clock b)
raised_turned r b items clock es counted lower bases tells done h = each items lower bases (all_weaker (λ e. All (IsTurnedTo e b) items) (λ e. All (IsTurnedTo e b) items) (λ e k. k) es done) h where
  early_or_late : (c n : ℕ) → (n ≤ c) ⊎ (c < n)
  early_or_late c n = by (nat_le n c) refl where
    by : (d : Bool) → nat_le n c ≡ d → (n ≤ c) ⊎ (c < n)
    by true e = inl (low n c e) where
      low : (a b : ℕ) → nat_le a b ≡ true → a ≤ b
      low a b z = grind (arith, nat_tests, z)
    by false e = inr (high n c e) where
      high : (a b : ℕ) → nat_le a b ≡ false → b < a
      high a b z = grind (arith, nat_tests, z)

  both_ways : (a n : ℕ) → a ≤ n → n ≤ a → n ≡ a
  both_ways a n h k = omega (arith, h, k)

  one : (i : Item) → ((i.id.0 ≡ 1 → ⊥) → (target_of i).0 ≡ 1 → ⊥) → IsBaseEarly r i → All (λ e. IsTurnedTo e b i) es → IsPassedRight r b i → IsPassedRight r (with_cursor clock b) i
  one i low base turned k below x found passed = by (early_or_late b.cursor x.changed) where
    rid : x.rid.0 ≡ (target_of i).0
    rid = found_rid r.items (target_of i) x found

    some : (target_of i).0 ≡ 0 → ⊥
    some z = nothing r.items 1 counted (target_of i) x z found (least 1)

    told : b.cursor < x.changed → Among (entry_told x) es
    told late = (all_found (λ y. IsLower y → b.cursor < y.changed → y.changed ≤ clock → Among (entry_told y) es) (λ y. y.rid.0 == (target_of i).0) r.items x found tells).0 (λ e. low below (sym rid ∙ e)) late passed

    by : (x.changed ≤ b.cursor) ⊎ (b.cursor < x.changed) → IsKnown (with_cursor clock b) i x
    by (inl early) = let z = k below x found early in record { live = z.live; version = z.version; seen = z.seen }
    by (inr late) =
        let z = all_among (λ e. IsTurnedTo e b i) es (entry_told x) (told late) turned below (sym rid) in
        record { live = z.0; version = λ file. both_ways (latest x) (base_version i).0 (z.1 file) (base below file some x found); seen = z.2 }

  each : (is : List Item) → AreTargetsLower is → All (IsBaseEarly r) is → All (λ e. All (IsTurnedTo e b) is) es → ArePassedRight r is b → ArePassedRight r is (with_cursor clock b)
  each [] l s t k = tt
  each (i ∷ is) l s t k =
      (one i l.0 s.0 (all_weaker (λ e. All (IsTurnedTo e b) (i ∷ is)) (λ e. IsTurnedTo e b i) (λ e z. z.0) es t) k.0, each is l.1 s.1 (all_weaker (λ e. All (IsTurnedTo e b) (i ∷ is)) (λ e. All (IsTurnedTo e b) is) (λ e z. z.1) es t) k.1)
