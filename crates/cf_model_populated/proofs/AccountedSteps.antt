-- What is here or buried stays so, step for step.
use Rattle.std.proofs.Common.{◌≡◌, ◌⊎◌, ◌<◌, ◌≤◌, ℕ, Bool, true, false, List, [], ◌∷◌, refl, sym, ◌∙◌, ap, subst, inl, inr, arith}
use Rattle.std.specs.Prelude.{Some, cond, filter, nat_lt, not, ◌&&◌, ◌||◌, ◌==◌}
use Rattle.std.specs.List.{list_any}
use Rattle.std.proofs.lemmas.Bool.{eqb-true}
use Rattle.cf_base.specs.declared.changes.Change.{Change}
use Rattle.cf_base.specs.declared.changes.Change.TheVariants as change
use Rattle.cf_base.specs.declared.ids.ItemId.{ItemId}
use Rattle.cf_base.specs.declared.ids.Rid.{Rid}
use Rattle.cf_base.specs.declared.ids.Usn.{Usn}
use Rattle.cf_base.specs.declared.messages.Entry.{Entry}
use Rattle.cf_base.specs.declared.messages.Request.{Request}
use Rattle.cf_model.specs.Books.{Book, Tombstone, with_cursor, with_tombstone, without_tombstone}
use Rattle.cf_model.specs.Effects.{changed, converted, effect, rebased, took, without}
use Rattle.cf_model.specs.Growth.{IsCounted}
use Rattle.cf_model.specs.Identities.{has_target, target_of}
use Rattle.cf_model.specs.Items.{Item}
use Rattle.cf_model.specs.Numbers.{above, same_usn}
use Rattle.cf_model.specs.Soundness.{Each}
use Rattle.cf_model.specs.State.{State, book_now, items_now}
use Rattle.cf_model.specs.Store.{Held, Stored, entry_told, remote_step, stored_at}
use Rattle.cf_model.specs.Words.{put_in}
use Rattle.cf_model_laws.specs.Invariant.{All, Among}
use Rattle.cf_model_laws.proofs.Gathered.{all_both, all_found, all_weaker}
use Rattle.cf_model_laws.proofs.RightItems.{no_way_back}
use Rattle.cf_model_laws.proofs.SoundSettles.{right_true}
use Rattle.cf_model_convergence.specs.Feeds.{IsLateOrSame}
use Rattle.cf_model_convergence.specs.Passed.{TellsBetween}
use Rattle.cf_model_convergence.specs.Tidy.{IsLower, IsTidy, IsTidyItem}
use Rattle.cf_model_convergence.proofs.FedKnown.{early_or_late}
use Rattle.cf_model_convergence.proofs.FeedsTold.{all_among, among_filter, among_left}
use Rattle.cf_model_convergence.proofs.LateChanges.{late_or_same}
use Rattle.cf_model_convergence.proofs.Lines.{same_rid}
use Rattle.cf_model_convergence.proofs.TidyItems.{each_found}
use Rattle.cf_model_populated.specs.Accounted.{AreAccountedFor, BuriesUnsaid, IsAccountedFor, IsHeld, IsHereOrBuried, IsUnsaid, KeepsTarget, LosesUnsaid}
use Rattle.cf_model_populated.specs.Populated.{ArePassedHere}

never : {A : Type 0} (a n : ℕ) → a < n → n ≤ a → A
never a n h k = absurd (clash h k) where
  clash : a < n → n ≤ a → ⊥
  clash h k = omega (arith, h, k)

-- the remote is asked

pub asked_accounted : (r : Held) (q : Request) (items : List Item) (b : Book) → IsCounted r → b.cursor ≤ r.clock → AreAccountedFor r items b → AreAccountedFor (remote_step r q).1 items b
asked_accounted r q items b counted early h none = all_weaker (IsLateOrSame r) (IsAccountedFor items b) one (remote_step r q).1.items (late_or_same r q counted) where
  past : (a c n : ℕ) → a ≤ c → c < n → n ≤ a → ⊥
  past a c n h j k = omega (arith, h, j, k)

  one : (x : Stored) → IsLateOrSame r x → IsAccountedFor items b x
  one x (inl late) low live passed = absurd (past b.cursor r.clock x.changed early late passed)
  one x (inr k) low live passed =
      subst (IsHereOrBuried items b) (same_rid k.0.rid x.rid (ap (λ (e : Entry). e.rid.0) k.2))
      ((all_found (IsAccountedFor items b) (λ s. s.rid.0 == x.rid.0) r.items k.0 k.1 (h none)).0 (λ z. low (sym (ap (λ (e : Entry). e.rid.0) k.2) ∙ z))
      (ap (λ (e : Entry). e.live) k.2 ∙ live) (subst (λ (n : ℕ). n ≤ b.cursor) (sym (ap (λ (e : Entry). e.changed) k.2)) passed))

-- changes

module _ (r : Held) (b : Book) (x : Stored) (stored : stored_at r.items x.rid ≡ Some x) (live : x.live ≡ true) (passed : x.changed ≤ b.cursor) where
  same_target : (i : Item) → has_target i x.rid ≡ true → target_of i ≡ x.rid
  same_target i e = same_rid (target_of i) x.rid (eqb-true (target_of i).0 x.rid.0 (right_true (nat_lt 0 x.rid.0) ((target_of i).0 == x.rid.0) e))

  -- of the item's target something is said
  said : {A : Type 0} (i : Item) → has_target i x.rid ≡ true → IsUnsaid r b (target_of i) → A
  said i e k = never b.cursor x.changed (k x (subst (λ (y : Rid). stored_at r.items y ≡ Some x) (sym (same_target i e)) stored) live) passed

  kept : (i j : Item) → KeepsTarget r b i j → has_target i x.rid ≡ true → has_target j x.rid ≡ true
  kept i j (inl k) e = subst (λ (n : ℕ). (nat_lt 0 x.rid.0 && (n == x.rid.0)) ≡ true) (sym k) e
  kept i j (inr k) e = said i e k

  in_place : (item : ItemId) (f : Item → Item) (C : Item → Type 0) → ((i : Item) → C i → has_target i x.rid ≡ true → has_target (f i) x.rid ≡ true) → (items : List Item) → Each item C items → IsHeld items x.rid → IsHeld (changed item f items) x.rid
  in_place item f C k [] c h = absurd h.1
  in_place item f C k (j ∷ items) c h = by h.1 (j.id.0 == item.0) refl (λ m. in_place item f C k items c.1 (h.0, m, h.2)) where
    by : (j ≡ h.0) ⊎ Among h.0 items → (d : Bool) → (j.id.0 == item.0) ≡ d → (Among h.0 items → IsHeld (changed item f items) x.rid) → IsHeld (cond d (f j) j ∷ changed item f items) x.rid
    by (inl e) true q more = (f j, inl refl, k j (c.0 q) (subst (λ (i : Item). has_target i x.rid ≡ true) (sym e) h.2))
    by (inl e) false q more = (j, inl refl, subst (λ (i : Item). has_target i x.rid ≡ true) (sym e) h.2)
    by (inr m) d q more = let w = more m in (w.0, inr w.1, w.2)

  still : (item : ItemId) (f : Item → Item) → ((i : Item) → target_of (f i) ≡ target_of i) → (items : List Item) → IsHeld items x.rid → IsHeld (changed item f items) x.rid
  still item f same items h = in_place item f (λ i. Unit {0}) (λ i _ e. subst (λ (y : Rid). (nat_lt 0 x.rid.0 && (y.0 == x.rid.0)) ≡ true) (sym (same i)) e) items (anyway items) h where
    anyway : (is : List Item) → Each item (λ i. Unit {0}) is
    anyway [] = tt
    anyway (i ∷ is) = ((λ z. tt), anyway is)

  rest : (item : ItemId) (items : List Item) → Each item (λ i. IsUnsaid r b (target_of i)) items → IsHeld items x.rid → IsHeld (without item items) x.rid
  rest item items c h = (h.0, among_filter (λ i. not (i.id.0 == item.0)) h.0 items (other items c h.1) h.1, h.2) where
    by : (d : Bool) → (h.0.id.0 == item.0) ≡ d → ((h.0.id.0 == item.0) ≡ true → IsUnsaid r b (target_of h.0)) → not (h.0.id.0 == item.0) ≡ true
    by true q k = said h.0 h.2 (k q)
    by false q k = ap (λ (d : Bool). not d) q

    other : (is : List Item) → Each item (λ i. IsUnsaid r b (target_of i)) is → Among h.0 is → not (h.0.id.0 == item.0) ≡ true
    other [] c m = absurd m
    other (i ∷ is) c (inl e) = by (h.0.id.0 == item.0) refl (subst (λ (y : Item). (y.id.0 == item.0) ≡ true → IsUnsaid r b (target_of y)) e c.0)
    other (i ∷ is) c (inr m) = other is c.1 m

  held_after : (items : List Item) (c : Change) (n : Usn) → LosesUnsaid r b items c n → IsHeld items x.rid → IsHeld (effect items c n) x.rid
  held_after items (change.Make item parent name kind size identity) n fit h = (h.0, among_left h.0 items _ h.1, h.2)
  held_after items (change.Remove item) n fit h = rest item items fit h
  held_after items (change.Move item parent name) n fit h = still item _ (λ i. refl) items h
  held_after items (change.Write item at bytes) n fit h = still item _ (λ i. refl) items h
  held_after items (change.Size item size) n fit h = still item _ (λ i. refl) items h
  held_after items (change.Filled item start bytes) n fit h = still item _ (λ i. refl) items h
  held_after items (change.Validated item start len) n fit h = still item _ (λ i. refl) items h
  held_after items (change.Emptied item start len) n fit h = still item _ (λ i. refl) items h
  held_after items (change.SetPin item pin) n fit h = still item _ (λ i. refl) items h
  held_after items (change.Mark item number) n fit h = still item _ (λ i. refl) items h
  held_after items (change.Clear item) n fit h = still item _ (λ i. refl) items h
  held_after items (change.Convert item identity) n fit h = in_place item (converted identity n) (λ i. KeepsTarget r b i (converted identity n i)) (λ i k e. kept i (converted identity n i) k e) items fit h
  held_after items (change.Revert item) n fit h = absurd fit
  held_after items (change.Rebase item identity len at) n fit h = in_place item (rebased identity len at) (λ i. KeepsTarget r b i (rebased identity len at i)) (λ i k e. kept i (rebased identity len at i) k e) items fit h
  held_after items (change.Take item identity size) n fit h = in_place item (took identity size n) (λ i. KeepsTarget r b i (took identity size n i)) (λ i k e. kept i (took identity size n i) k e) items fit h
  held_after items (change.Copy item from parent name) n fit h = (h.0, among_left h.0 items _ h.1, h.2)
  held_after items (change.Populated item) n fit h = still item _ (λ i. refl) items h
  held_after items (change.Keep item on) n fit h = still item _ (λ i. refl) items h

-- of each, by what it is to be of one that something is said of
by_each : (r : Held) (items after : List Item) (b d : Book) → IsCounted r → d.cursor ≡ b.cursor → ((x : Stored) → stored_at r.items x.rid ≡ Some x → x.live ≡ true → x.changed ≤ b.cursor → IsHereOrBuried items b x.rid → IsHereOrBuried after d x.rid)
    → All (IsAccountedFor items b) r.items → All (IsAccountedFor after d) r.items
by_each r items after b d counted same k h =
    all_both (λ x. stored_at r.items x.rid ≡ Some x) (IsAccountedFor items b) (IsAccountedFor after d)
    (λ x stored j low live passed. let early : x.changed ≤ b.cursor = subst (λ (n : ℕ). x.changed ≤ n) same passed in k x stored live early (j low live early)) r.items (each_found 1 r.items counted) h

pub effect_accounted : (r : Held) (b : Book) (items : List Item) (c : Change) (n : Usn) → IsCounted r → LosesUnsaid r b items c n → AreAccountedFor r items b → AreAccountedFor r (effect items c n) b
effect_accounted r b items c n counted fit h none = by_each r items (effect items c n) b b counted refl one (h none) where
  one : (x : Stored) → stored_at r.items x.rid ≡ Some x → x.live ≡ true → x.changed ≤ b.cursor → IsHereOrBuried items b x.rid → IsHereOrBuried (effect items c n) b x.rid
  one x stored live passed (inl k) = inl (held_after r b x stored live passed items c n fit k)
  one x stored live passed (inr k) = inr k

-- tombstones

module _ (f : Tombstone → Tombstone → Bool) (t : Tombstone) where
  pub put_first : (ts : List Tombstone) → Among t (put_in f t ts)
  put_first [] = inl refl
  put_first (u ∷ ts) = by (f u t) (put_first ts) where
    by : (d : Bool) → Among t (put_in f t ts) → Among t (cond d (u ∷ put_in f t ts) (t ∷ u ∷ ts))
    by true k = inr k
    by false k = inl refl

  pub put_more : (u : Tombstone) (ts : List Tombstone) → Among u ts → Among u (put_in f t ts)
  put_more u [] m = absurd m
  put_more u (v ∷ ts) m = by (f v t) m (put_more u ts) where
    by : (d : Bool) → (v ≡ u) ⊎ Among u ts → (Among u ts → Among u (put_in f t ts)) → Among u (cond d (v ∷ put_in f t ts) (t ∷ v ∷ ts))
    by true (inl e) k = inl e
    by true (inr m) k = inr (k m)
    by false m k = inr m

  pub put_none : (g : Tombstone → Bool) (ts : List Tombstone) → list_any g (put_in f t ts) ≡ false → list_any g ts ≡ false
  put_none g [] e = refl
  put_none g (v ∷ ts) e = by (f v t) (g v) refl e (put_none g ts) where
    right : (a b : Bool) → (a || b) ≡ false → b ≡ false
    right true b z = no_way_back z
    right false b z = z

    by : (d a : Bool) → g v ≡ a → list_any g (cond d (v ∷ put_in f t ts) (t ∷ v ∷ ts)) ≡ false → (list_any g (put_in f t ts) ≡ false → list_any g ts ≡ false) → (g v || list_any g ts) ≡ false
    by true true q z k = no_way_back (subst (λ (c : Bool). (c || list_any g (put_in f t ts)) ≡ false) q z)
    by true false q z k = rw q (k (subst (λ (c : Bool). (c || list_any g (put_in f t ts)) ≡ false) q z))
    by false a q z k = right (g t) (g v || list_any g ts) z

-- An application removes an item, and leaves a tombstone of its target.
pub buried_accounted : (r : Held) (b : Book) (items : List Item) (item : ItemId) (t : Tombstone) (n : Usn) → IsCounted r → Each item (λ i. (target_of i).0 ≡ t.rid.0) items → AreAccountedFor r items b → AreAccountedFor r (effect items (change.Remove item) n) (with_tombstone t b)
buried_accounted r b items item t n counted same h none = by_each r items (without item items) b (with_tombstone t b) counted refl one (h (put_none before t (λ u. u.version.0 == 0) b.tombstones none)) where
  before : Tombstone → Tombstone → Bool
  before x y = above y.number x.number

  found : (rid : Rid) (i : Item) (is : List Item) → Each item (λ j. (target_of j).0 ≡ t.rid.0) is → Among i is → (i.id.0 == item.0) ≡ true → (target_of i).0 ≡ t.rid.0
  found rid i [] c m e = absurd m
  found rid i (j ∷ is) c (inl z) e = subst (λ (y : Item). (y.id.0 == item.0) ≡ true → (target_of y).0 ≡ t.rid.0) z c.0 e
  found rid i (j ∷ is) c (inr m) e = found rid i is c.1 m e

  one : (x : Stored) → stored_at r.items x.rid ≡ Some x → x.live ≡ true → x.changed ≤ b.cursor → IsHereOrBuried items b x.rid → IsHereOrBuried (without item items) (with_tombstone t b) x.rid
  one x stored live passed (inr k) = inr (k.0, put_more before t k.0 b.tombstones k.1, k.2)
  one x stored live passed (inl k) = by (k.0.id.0 == item.0) refl where
    aims : (target_of k.0).0 ≡ x.rid.0
    aims = eqb-true (target_of k.0).0 x.rid.0 (right_true (nat_lt 0 x.rid.0) ((target_of k.0).0 == x.rid.0) k.2)

    by : (d : Bool) → (k.0.id.0 == item.0) ≡ d → IsHereOrBuried (without item items) (with_tombstone t b) x.rid
    by true q = inr (t, put_first before t b.tombstones, sym (found x.rid k.0 items same k.1 q) ∙ aims)
    by false q = inl (k.0, among_filter (λ i. not (i.id.0 == item.0)) k.0 items (ap (λ (d : Bool). not d) q) k.1, k.2)

pub unburied_accounted : (r : Held) (b : Book) (items : List Item) (number : Usn) → IsCounted r → BuriesUnsaid r b number → AreAccountedFor r items b → AreAccountedFor r items (without_tombstone number b)
unburied_accounted r b items number counted fit h none = by_each r items items b (without_tombstone number b) counted refl one (h (none_before b.tombstones fit none)) where
  goes : Tombstone → Bool
  goes t = not (same_usn t.number number)

  none_before : (ts : List Tombstone) → All (λ t. same_usn t.number number ≡ true → ((t.version.0 == 0) ≡ false) × IsUnsaid r b t.rid) ts → list_any (λ t. t.version.0 == 0) (filter goes ts) ≡ false → list_any (λ t. t.version.0 == 0) ts ≡ false
  none_before [] k e = refl
  none_before (t ∷ ts) k e = by (same_usn t.number number) (t.version.0 == 0) refl refl k.0 e (none_before ts k.1) where
    by : (d a : Bool) → same_usn t.number number ≡ d → (t.version.0 == 0) ≡ a → (same_usn t.number number ≡ true → ((t.version.0 == 0) ≡ false) × IsUnsaid r b t.rid) → list_any (λ u. u.version.0 == 0) (cond (not d) (t ∷ filter goes ts) (filter goes ts)) ≡ false
        → (list_any (λ u. u.version.0 == 0) (filter goes ts) ≡ false → list_any (λ u. u.version.0 == 0) ts ≡ false) → ((t.version.0 == 0) || list_any (λ u. u.version.0 == 0) ts) ≡ false
    by true a p q c z more = rw (c p).0 (more z)
    by false true p q c z more = no_way_back (subst (λ (y : Bool). (y || list_any (λ u. u.version.0 == 0) (filter goes ts)) ≡ false) q z)
    by false false p q c z more = rw q (more (subst (λ (y : Bool). (y || list_any (λ u. u.version.0 == 0) (filter goes ts)) ≡ false) q z))

  one : (x : Stored) → stored_at r.items x.rid ≡ Some x → x.live ≡ true → x.changed ≤ b.cursor → IsHereOrBuried items b x.rid → IsHereOrBuried items (without_tombstone number b) x.rid
  one x stored live passed (inl k) = inl k
  one x stored live passed (inr k) = by (same_usn k.0.number number) refl where
    by : (d : Bool) → same_usn k.0.number number ≡ d → IsHereOrBuried items (without_tombstone number b) x.rid
    by true q = never b.cursor x.changed ((all_among (λ t. same_usn t.number number ≡ true → ((t.version.0 == 0) ≡ false) × IsUnsaid r b t.rid) b.tombstones k.0 k.1 fit q).1 x (subst (λ (y : Rid). stored_at r.items y ≡ Some x) (sym (same_rid k.0.rid x.rid k.2)) stored) live) passed
    by false q = inr (k.0, among_filter goes k.0 b.tombstones (ap (λ (d : Bool). not d) q) k.1, k.2)

-- the cursor

pub reset_accounted : (r : Held) (b : Book) (items : List Item) → IsTidy r → AreAccountedFor r items (with_cursor 0 b)
reset_accounted r b items tidy none = all_weaker (IsTidyItem r) (IsAccountedFor items (with_cursor 0 b)) (λ x k low live passed. early x.changed (k.placed low).late passed) r.items tidy.items where
  early : {A : Type 0} (n : ℕ) → 1 ≤ n → n ≤ 0 → A
  early n h k = absurd (clash h k) where
    clash : 1 ≤ n → n ≤ 0 → ⊥
    clash h k = omega (arith, h, k)

pub raised_accounted : (r : Held) (b : Book) (items : List Item) (clock : ℕ) (es : List Entry) → TellsBetween r b.cursor clock es → All (λ e. e.live ≡ true → IsHereOrBuried items b e.rid) es → AreAccountedFor r items b → AreAccountedFor r items (with_cursor clock b)
raised_accounted r b items clock es tells done h none =
    all_both (λ x. IsLower x → b.cursor < x.changed → x.changed ≤ clock → Among (entry_told x) es) (IsAccountedFor items b) (IsAccountedFor items (with_cursor clock b))
    (λ x told k low live passed. one x (told low) (k low live) live passed (early_or_late b.cursor x.changed)) r.items tells (h none) where
      one : (x : Stored) → (b.cursor < x.changed → x.changed ≤ clock → Among (entry_told x) es) → (x.changed ≤ b.cursor → IsHereOrBuried items b x.rid) → x.live ≡ true → x.changed ≤ clock → (x.changed ≤ b.cursor) ⊎ (b.cursor < x.changed) → IsHereOrBuried items (with_cursor clock b) x.rid
      one x told k live passed (inl early) = k early
      one x told k live passed (inr late) = all_among (λ e. e.live ≡ true → IsHereOrBuried items b e.rid) es (entry_told x) (told late passed) done live

-- of the moment

pub accounted_now : (s : State) → (book_now s).tombstones ≡ [] → AreAccountedFor s.link.remote (items_now s) (book_now s) → ArePassedHere s
accounted_now s none h =
    all_weaker (IsAccountedFor (items_now s) (book_now s)) (λ x. IsLower x → x.live ≡ true → x.changed ≤ (book_now s).cursor → IsHeld (items_now s) x.rid)
    (λ x k low live passed. by x (k low live passed)) s.link.remote.items (h (ap (λ (ts : List Tombstone). list_any (λ t. t.version.0 == 0) ts) none)) where
      by : (x : Stored) → IsHereOrBuried (items_now s) (book_now s) x.rid → IsHeld (items_now s) x.rid
      by x (inl k) = k
      by x (inr k) = absurd (subst (Among k.0) none k.1)
