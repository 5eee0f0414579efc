-- What keeps it that what the cursor has passed is known rightly.
use Rattle.std.proofs.Common.{◌≡◌, ◌⊎◌, ◌<◌, ◌≤◌, ℕ, Bool, true, false, List, [], ◌∷◌, refl, sym, ◌∙◌, ap, subst, inl, inr, arith, take, eq-eqb}
use Rattle.std.specs.Prelude.{Some, cond, nat_le, ◌==◌}
use Rattle.std.proofs.lemmas.Bool.Decides.{nat_tests}
use Rattle.std.proofs.lemmas.Bool.{eqb-true}
use Rattle.cf_base.specs.declared.changes.Change.{Change}
use Rattle.cf_base.specs.declared.ids.ItemId.{ItemId}
use Rattle.cf_base.specs.declared.ids.Rid.{Rid}
use Rattle.cf_base.specs.declared.ids.Usn.{Usn}
use Rattle.cf_base.specs.declared.items.SeenPath.{SeenPath}
use Rattle.cf_base.specs.declared.messages.Entry.{Entry}
use Rattle.cf_base.specs.declared.messages.Request.{Request}
use Rattle.cf_model.specs.Books.{Book, seen_of, with_cursor, with_seen}
use Rattle.cf_model.specs.Effects.{effect}
use Rattle.cf_model.specs.Growth.{IsCounted}
use Rattle.cf_model.specs.Identities.{base_version, target_of}
use Rattle.cf_model.specs.Items.{Item}
use Rattle.cf_model.specs.Soundness.{Each}
use Rattle.cf_model.specs.State.{State, book_now, items_now}
use Rattle.cf_model.specs.Store.{Held, Stored, entry_told, feed_of, remote_step, stored_at}
use Rattle.cf_model.specs.Words.{number_of}
use Rattle.cf_model_laws.specs.Invariant.{All, target_in, Among}
use Rattle.cf_model_laws.proofs.Gathered.{all_found, all_weaker}
use Rattle.cf_model_laws.proofs.SeenPaths.{seen_past}
use Rattle.cf_model_convergence.specs.Agreeing.{IsKeptUp}
use Rattle.cf_model_convergence.specs.Feeds.{AreAsTheyWere, IsAsItWas, IsLateOrSame, TellsNow}
use Rattle.cf_model_convergence.specs.Passed.{ArePassedRight, AreTargetsLower, IsDoneAs, IsPassedRight, IsToldOrLate, NamesRight, TellsBetween}
use Rattle.cf_model_convergence.specs.Resting.{IsKnown}
use Rattle.cf_model_convergence.specs.Tidy.{IsLower, IsTidy, IsTidyItem}
use Rattle.cf_model_convergence.proofs.EffectItems.{effect_all}
use Rattle.cf_model_convergence.proofs.FeedsTold.{all_among, tells_all, tells_now}
use Rattle.cf_model_convergence.proofs.LateChanges.{late_or_same}
use Rattle.cf_model_convergence.proofs.Lines.{one_some, same_rid}
use Rattle.cf_model_convergence.proofs.ReadyRests.{nothing}
use Rattle.cf_model_convergence.proofs.TidyItems.{found_rid}

least : (n : ℕ) → n ≤ n
least n = omega arith

early_or_late : (c n : ℕ) → (n ≤ c) ⊎ (c < n)
early_or_late c n = by (nat_le n c) refl where
  by : (d : Bool) → nat_le n c ≡ d → (n ≤ c) ⊎ (c < n)
  by true e = inl (low n c e) where
    low : (a b : ℕ) → nat_le a b ≡ true → a ≤ b
    low a b z = grind (arith, nat_tests, z)
  by false e = inr (high n c e) where
    high : (a b : ℕ) → nat_le a b ≡ false → b < a
    high a b z = grind (arith, nat_tests, z)

-- the remote is asked

later_known : (b : Book) (i : Item) (s x : Stored) → entry_told s ≡ entry_told x → IsKnown b i s → IsKnown b i x
later_known b i s x same k = record {
  live = sym (ap (λ (e : Entry). e.live) same) ∙ k.live;
  version = λ file. k.version file ∙ ap (λ (e : Entry). e.version.0) same;
  seen = λ p e. let z = k.seen p e in (z.0 ∙ ap (λ (e : Entry). e.parent.0) same, z.1 ∙ ap (λ (e : Entry). e.name) same);
}

pub asked_right : (r : Held) (q : Request) (items : List Item) (b : Book) → IsCounted r → b.cursor ≤ r.clock → ArePassedRight r items b → ArePassedRight (remote_step r q).1 items b
asked_right r q items b counted early h = all_weaker (IsPassedRight r b) (IsPassedRight (remote_step r q).1 b) one items h where
  one : (i : Item) → IsPassedRight r b i → IsPassedRight (remote_step r q).1 b i
  one i k below x found passed = by (all_found (IsLateOrSame r) (λ s. s.rid.0 == (target_of i).0) (remote_step r q).1.items x found (late_or_same r q counted)).0 where
    never : (a c n : ℕ) → a ≤ c → c < n → n ≤ a → ⊥
    never a c n h j k = omega (arith, h, j, k)

    by : IsLateOrSame r x → IsKnown b i x
    by (inl late) = absurd (never b.cursor r.clock x.changed early late passed)
    by (inr w) =
        later_known b i w.0 x w.2
        (k below w.0 (subst (λ (y : Rid). stored_at r.items y ≡ Some w.0) (same_rid x.rid (target_of i) (found_rid (remote_step r q).1.items (target_of i) x found)) w.1)
        (subst (λ (n : ℕ). n ≤ b.cursor) (sym (ap (λ (e : Entry). e.changed) w.2)) passed))

-- changes

-- another item with the same id, kind and identity
alike : (r : Held) (b : Book) (i j : Item) → i.id ≡ j.id → i.directory ≡ j.directory → i.identity ≡ j.identity → IsPassedRight r b i → IsPassedRight r b j
alike r b i j id kind identity k below x found passed =
    let z : IsKnown b i x = k (λ e. below (sym (ap (λ (y : ItemId). y.0) id) ∙ e)) x (subst (λ (y : Rid). stored_at r.items y ≡ Some x) (sym target) found) passed in
    record {
      live = z.live;
      version = λ file. sym version ∙ z.version (kind ∙ file);
      seen = λ p e. z.seen p (ap (λ (y : ItemId). seen_of b y) id ∙ e);
    }
  where
    target : target_of i ≡ target_of j
    target = ap (λ (y : ItemId). target_of (record i { id = y })) id ∙ ap (λ (y : List ℕ). target_of (record i { id = j.id; identity = y })) identity

    version : (base_version i).0 ≡ (base_version j).0
    version = ap (λ (y : List ℕ). (base_version (record i { identity = y })).0) identity

-- an item with no target
pub free_right : (r : Held) (b : Book) (i : Item) → IsCounted r → number_of (take 8 i.identity) ≡ 0 → IsPassedRight r b i
free_right r b i counted none below x found passed = absurd (nothing r.items 1 counted (target_of i) x (by (i.id.0 == 1) refl) found (least 1)) where
  by : (c : Bool) → (i.id.0 == 1) ≡ c → (cond c (record { 0 = 1 }) (target_in i.identity)).0 ≡ 0
  by true q = absurd (below (eqb-true i.id.0 1 q))
  by false q = none

pub effect_right : (r : Held) (b : Book) (items : List Item) (c : Change) (n : Usn) → IsCounted r → NamesRight r b items c n → ArePassedRight r items b → ArePassedRight r (effect items c n) b
effect_right r b items c n counted fit h = effect_all (IsPassedRight r b) (alike r b) (λ i none. free_right r b i counted none) items c n fit h

-- the book

pub seen_right : (r : Held) (b : Book) (p : SeenPath) (items : List Item) → Each p.item (IsPassedRight r (with_seen p b)) items → ArePassedRight r items b → ArePassedRight r items (with_seen p b)
seen_right r b p [] c h = tt
seen_right r b p (i ∷ is) c h = (by (i.id.0 == p.item.0) refl c.0, seen_right r b p is c.1 h.1) where
  past : (p.item.0 == i.id.0) ≡ false → IsPassedRight r (with_seen p b) i
  past q below x found passed = let k = h.0 below x found passed in record { live = k.live; version = k.version; seen = λ y e. k.seen y (sym (seen_past p b i.id q) ∙ e) }

  flip : (p.item.0 == i.id.0) ≡ true → (i.id.0 == p.item.0) ≡ true
  flip e = subst (λ (n : ℕ). (i.id.0 == n) ≡ true) (sym (eqb-true p.item.0 i.id.0 e)) (eq-eqb i.id.0 i.id.0 refl)

  by : (c : Bool) → (i.id.0 == p.item.0) ≡ c → (c ≡ true → IsPassedRight r (with_seen p b) i) → IsPassedRight r (with_seen p b) i
  by true q g = g refl
  by false q g = past (other (p.item.0 == i.id.0) refl) where
    other : (d : Bool) → (p.item.0 == i.id.0) ≡ d → d ≡ false
    other true z = sym (flip z) ∙ q
    other false z = refl

pub reset_right : (r : Held) (b : Book) (items : List Item) → IsTidy r → AreTargetsLower items → ArePassedRight r items (with_cursor 0 b)
reset_right r b items tidy lower = all_weaker (λ i. (i.id.0 ≡ 1 → ⊥) → (target_of i).0 ≡ 1 → ⊥) (IsPassedRight r (with_cursor 0 b)) one items lower where
  never : (n : ℕ) → 1 ≤ n → n ≤ 0 → ⊥
  never n a c = omega (arith, a, c)

  one : (i : Item) → ((i.id.0 ≡ 1 → ⊥) → (target_of i).0 ≡ 1 → ⊥) → IsPassedRight r (with_cursor 0 b) i
  one i k below x found passed = absurd (never x.changed (((all_found (IsTidyItem r) (λ s. s.rid.0 == (target_of i).0) r.items x found tidy.items).0.placed (λ e. k below (sym (found_rid r.items (target_of i) x found) ∙ e))).late) passed)

-- the cursor rises to a feed's clock

cursor_known : (b : Book) (c : ℕ) (i : Item) (x : Stored) → IsKnown b i x → IsKnown (with_cursor c b) i x
cursor_known b c i x k = record { live = k.live; version = k.version; seen = k.seen }

module _ (r : Held) (b : Book) (clock : ℕ) (es : List Entry) (tells : TellsBetween r b.cursor clock es) where
  raised : (i : Item) → ((i.id.0 ≡ 1 → ⊥) → (target_of i).0 ≡ 1 → ⊥) → All (λ e. IsDoneAs b e i) es → IsPassedRight r b i → IsPassedRight r (with_cursor clock b) i
  raised i lower done k below x found passed = cursor_known b clock i x (by (early_or_late b.cursor x.changed)) where
    rid : x.rid.0 ≡ (target_of i).0
    rid = found_rid r.items (target_of i) x found

    told : b.cursor < x.changed → Among (entry_told x) es
    told late = (all_found (λ y. IsLower y → b.cursor < y.changed → y.changed ≤ clock → Among (entry_told y) es) (λ y. y.rid.0 == (target_of i).0) r.items x found tells).0 (λ e. lower below (sym rid ∙ e)) late passed

    by : (x.changed ≤ b.cursor) ⊎ (b.cursor < x.changed) → IsKnown b i x
    by (inl early) = k below x found early
    by (inr late) = let z = all_among (λ e. IsDoneAs b e i) es (entry_told x) (told late) done below (sym rid) in record { live = z.0; version = z.1; seen = z.2 }

  raised_all : (is : List Item) → AreTargetsLower is → All (λ e. All (IsDoneAs b e) is) es → All (IsPassedRight r b) is → All (IsPassedRight r (with_cursor clock b)) is
  raised_all [] lower done h = tt
  raised_all (i ∷ is) lower done h =
      (raised i lower.0 (all_weaker (λ e. All (IsDoneAs b e) (i ∷ is)) (λ e. IsDoneAs b e i) (λ e z. z.0) es done) h.0, raised_all is lower.1 (all_weaker (λ e. All (IsDoneAs b e) (i ∷ is)) (λ e. All (IsDoneAs b e) is) (λ e z. z.1) es done) h.1)

pub raised_right : (r : Held) (b : Book) (items : List Item) (clock : ℕ) (es : List Entry) → AreTargetsLower items → TellsBetween r b.cursor clock es → All (λ e. All (IsDoneAs b e) items) es → ArePassedRight r items b → ArePassedRight r items (with_cursor clock b)
raised_right r b items clock es lower tells done h = raised_all r b clock es tells items lower done h

-- what a feed told is told so later too
pub told_between : (first : Held) (after : ℕ) (r : Held) → IsTidy first → AreAsTheyWere first first.clock r → TellsBetween r after first.clock (feed_of first after)
told_between first after r tidy h = all_weaker (IsAsItWas first first.clock) (λ x. IsLower x → after < x.changed → x.changed ≤ first.clock → Among (entry_told x) (feed_of first after)) one r.items h.items where
  never : (a n : ℕ) → a < n → n ≤ a → ⊥
  never a n h k = omega (arith, h, k)

  one : (x : Stored) → IsAsItWas first first.clock x → IsLower x → after < x.changed → x.changed ≤ first.clock → Among (entry_told x) (feed_of first after)
  one x (inl z) lower late early = absurd (never first.clock x.changed z early)
  one x (inr z) lower late early =
      subst (λ (e : Entry). Among e (feed_of first after)) z.2
      ((all_found (λ y. IsLower y → after < y.changed → Among (entry_told y) (feed_of first after)) (λ y. y.rid.0 == x.rid.0) first.items z.0 z.1 (tells_all first after tidy).each).0
      (λ e. lower (sym (found_rid first.items x.rid z.0 z.1) ∙ e)) (subst (λ (n : ℕ). after < n) (sym (ap (λ (e : Entry). e.changed) z.2)) late))

pub told_or_late : (first : Held) (after : ℕ) (r : Held) → IsTidy first → AreAsTheyWere first first.clock r → All (IsToldOrLate r first.clock) (feed_of first after)
told_or_late first after r tidy h = all_weaker (TellsNow first after) (IsToldOrLate r first.clock) one (feed_of first after) (tells_now first after tidy) where
  one : (e : Entry) → TellsNow first after e → IsToldOrLate r first.clock e
  one e told x found = by (all_found (IsAsItWas first first.clock) (λ y. y.rid.0 == e.rid.0) r.items x found h.items).0 where
    by : IsAsItWas first first.clock x → (first.clock < x.changed) ⊎ (e ≡ entry_told x)
    by (inl late) = inl late
    by (inr z) =
        let same : z.0 ≡ told.0 = one_some (stored_at first.items e.rid) z.0 told.0 (subst (λ (y : Rid). stored_at first.items y ≡ Some z.0) (same_rid x.rid e.rid (found_rid r.items e.rid x found)) z.1) told.1 in
        inr (told.2 ∙ ap (λ (y : Stored). entry_told y) (sym same) ∙ z.2)

-- of the moment

pub passed_now : (s : State) → ArePassedRight s.link.remote (items_now s) (book_now s) → IsKeptUp s
passed_now s h = record { passed = λ i x below target early. (all_found (IsPassedRight s.link.remote (book_now s)) (λ j. j.id.0 == i.id.0) (items_now s) i below.0 h).0 below.1 x target early }
