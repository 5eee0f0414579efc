-- A turn of another entry leaves what was done of an entry.
use Rattle.std.proofs.Common.{◌≡◌, ◌⊎◌, ◌<◌, ◌≤◌, ◌+◌, ℕ, Bool, true, false, List, [], ◌∷◌, refl, sym, ◌∙◌, ap, subst, inl, inr, eq-eqb, take}
use Rattle.std.specs.Prelude.{Some, ◌==◌}
use Rattle.std.proofs.lemmas.Bool.{eqb-true}
use Rattle.cf_base.specs.declared.changes.Change.{Change}
use Rattle.cf_base.specs.declared.changes.Change.TheVariants as change
use Rattle.cf_base.specs.declared.codes.Code.{Code}
use Rattle.cf_base.specs.declared.ids.ItemId.{ItemId}
use Rattle.cf_base.specs.declared.ids.Rid.{Rid}
use Rattle.cf_base.specs.declared.ids.Usn.{Usn}
use Rattle.cf_base.specs.declared.items.SeenPath.{SeenPath}
use Rattle.cf_base.specs.declared.messages.Entry.{Entry}
use Rattle.cf_model.specs.Books.{Book, book_after, seen_of, with_seen}
use Rattle.cf_model.specs.Changes.{change as put, next_number, put_with_book, same_book}
use Rattle.cf_model.specs.Effects.{effect, made, rebased, took}
use Rattle.cf_model.specs.Identities.{base_version, target_of}
use Rattle.cf_model.specs.Items.{Item, pin_of}
use Rattle.cf_model.specs.Points.{with_room_point}
use Rattle.cf_model.specs.Skips.{do_change, skip_line, with_book}
use Rattle.cf_model.specs.Soundness.{Each}
use Rattle.cf_model.specs.State.{State, Volume, book_now, items_now, with_filter}
use Rattle.cf_model.specs.Trees.{Keeps}
use Rattle.cf_model.specs.Words.{number_of}
use Rattle.cf_model.proofs.TreeLaws.{keeps_mapped}
use Rattle.cf_model_laws.specs.Fitting.{Fits}
use Rattle.cf_model_laws.specs.Invariant.{All, target_in}
use Rattle.cf_model_laws.specs.Premises.{IsFair}
use Rattle.cf_model_laws.specs.Taken.{IsNamedBy, IsSeenBy, NamesTold}
use Rattle.cf_model_laws.proofs.EntryLaws.{entry_target_in}
use Rattle.cf_model_laws.proofs.Gathered.{all_weaker, each_any}
use Rattle.cf_model_laws.proofs.Leading.{kept_leads}
use Rattle.cf_model_laws.proofs.SeenPaths.{seen_past}
use Rattle.cf_model_laws.proofs.SinceKept.{named_weaker}
use Rattle.cf_model_laws.proofs.SkipsGuarded.{IsStepBy, Skipping, keeps_both}
use Rattle.cf_model_laws.proofs.SoundFilters.{change_leads}
use Rattle.cf_model_agreement.specs.Turned.{IsTurnedTo}
use Rattle.cf_model_convergence.specs.Passed.{NamesAs}
use Rattle.cf_model_convergence.proofs.EffectItems.{effect_all}
use Rattle.cf_model_agreement.proofs.KnownSteps.{after_fewer, target_below}

-- what is known of an entry: its rid is another than this one's, and small
abbrev pub IsApartFrom : Entry → Entry → Type 0
IsApartFrom d e = (e.rid.0 ≡ d.rid.0 → ⊥) × (e.rid.0 < 18446744073709551616)

module _ (d : Entry) (some : d.rid.0 ≡ 0 → ⊥) where
  turned_alike : (b : Book) (i j : Item) → i.id ≡ j.id → i.directory ≡ j.directory → i.identity ≡ j.identity → IsTurnedTo d b i → IsTurnedTo d b j
  turned_alike b i j id kind identity k below t =
      let z = k (λ y. below (sym (ap (λ (x : ItemId). x.0) id) ∙ y)) (target ∙ t) in
      (z.0, (λ file. subst (λ (n : ℕ). d.version.0 ≤ n) (ap (λ (y : List ℕ). (base_version (record i { identity = y })).0) identity) (z.1 (kind ∙ file))), λ p f. z.2 p (subst (λ (x : ItemId). seen_of b x ≡ Some p) (sym id) f)) where
        target : (target_of i).0 ≡ (target_of j).0
        target = ap (λ (y : ItemId). (target_of (record i { id = y })).0) id ∙ ap (λ (y : List ℕ). (target_of (record i { id = j.id; identity = y })).0) identity

  other_target : (b : Book) (i : Item) → ((i.id.0 ≡ 1 → ⊥) → (target_of i).0 ≡ d.rid.0 → ⊥) → IsTurnedTo d b i
  other_target b i h below t = absurd (h below t)

  free_target : (i : Item) → number_of (take 8 i.identity) ≡ 0 → (i.id.0 ≡ 1 → ⊥) → (target_of i).0 ≡ d.rid.0 → ⊥
  free_target i none below t = some (sym t ∙ ap (λ (x : Rid). x.0) (target_below i.id.0 (target_in i.identity) below) ∙ none)

  named_target : (identity : List ℕ) (i : Item) → NamesTold (IsApartFrom d) identity → i.identity ≡ identity → (i.id.0 ≡ 1 → ⊥) → (target_of i).0 ≡ d.rid.0 → ⊥
  named_target identity i (inl z) same below t = free_target i (ap (λ (y : List ℕ). number_of (take 8 y)) same ∙ z) below t
  named_target identity i (inr z) same below t =
      z.1.0 (sym (ap (λ (x : Rid). x.0) (entry_target_in z.0 z.1.1)) ∙ ap (λ (y : List ℕ). (target_in y).0) (sym z.2) ∙ ap (λ (y : List ℕ). (target_in y).0) (sym same) ∙ ap (λ (x : Rid). x.0) (sym (target_below i.id.0 (target_in i.identity) below)) ∙ t)

  names_as : (b : Book) (items : List Item) (c : Change) (n : Usn) → IsNamedBy (IsApartFrom d) (IsApartFrom d) c → (revert : (item : ItemId) → c ≡ change.Revert item → ⊥) → NamesAs (IsTurnedTo d b) items c n
  names_as b items (change.Make item parent name kind size identity) n named revert = other_target b (made item parent name kind size identity (pin_of items parent) n) (named_target identity (made item parent name kind size identity (pin_of items parent) n) named refl)
  names_as b items (change.Convert item identity) n named revert = named
  names_as b items (change.Revert item) n named revert = revert item refl
  names_as b items (change.Rebase item identity len at) n named revert = each_any item (λ i. IsTurnedTo d b (rebased identity len at i)) (λ i. other_target b (rebased identity len at i) (named_target identity (rebased identity len at i) named refl)) items
  names_as b items (change.Take item identity size) n named revert = each_any item (λ i. IsTurnedTo d b (took identity size n i)) (λ i. other_target b (took identity size n i) (named_target identity (took identity size n i) named refl)) items
  names_as b items (change.Remove item) n named revert = tt
  names_as b items (change.Move item parent name) n named revert = tt
  names_as b items (change.Write item at bytes) n named revert = tt
  names_as b items (change.Size item size) n named revert = tt
  names_as b items (change.Filled item start bytes) n named revert = tt
  names_as b items (change.Validated item start len) n named revert = tt
  names_as b items (change.Emptied item start len) n named revert = tt
  names_as b items (change.SetPin item pin) n named revert = tt
  names_as b items (change.Mark item number) n named revert = tt
  names_as b items (change.Clear item) n named revert = tt
  names_as b items (change.Copy item from parent name) n named revert = tt
  names_as b items (change.Populated item) n named revert = tt
  names_as b items (change.Keep item on) n named revert = tt

  turned_fewer : (b c : Book) (items : List Item) → ((id : ItemId) (p : SeenPath) → seen_of c id ≡ Some p → seen_of b id ≡ Some p) → All (IsTurnedTo d b) items → All (IsTurnedTo d c) items
  turned_fewer b c items fewer h = all_weaker (IsTurnedTo d b) (IsTurnedTo d c) (λ i k below t. let z = k below t in (z.0, z.1, λ p f. z.2 p (fewer i.id p f))) items h

  turned_effect : (b : Book) (items : List Item) (c : Change) (n : Usn) → IsNamedBy (IsApartFrom d) (IsApartFrom d) c → ((item : ItemId) → c ≡ change.Revert item → ⊥) → All (IsTurnedTo d b) items → All (IsTurnedTo d (book_after c b)) (effect items c n)
  turned_effect b items c n named revert h =
      turned_fewer b (book_after c b) (effect items c n) (after_fewer c b)
      (effect_all (IsTurnedTo d b) (turned_alike b) (λ i none. other_target b i (free_target i none)) items c n (names_as b items c n named revert) h)

  turned_seen : (b : Book) (p : SeenPath) (items : List Item) → IsSeenBy (IsApartFrom d) items p → All (IsTurnedTo d b) items → All (IsTurnedTo d (with_seen p b)) items
  turned_seen b p items told h = each items told.2 h where
    one : (i : Item) → (c : Bool) → (p.item.0 == i.id.0) ≡ c → ((i.id.0 == p.item.0) ≡ true → (i.id.0 ≡ 1 → ⊥) → (target_of i).0 ≡ told.0.rid.0) → IsTurnedTo d b i → IsTurnedTo d (with_seen p b) i
    one i true q a k below t = absurd (told.1.0 (sym (a (eq-eqb i.id.0 p.item.0 (sym (eqb-true p.item.0 i.id.0 q))) below) ∙ t))
    one i false q a k below t = let z = k below t in (z.0, z.1, λ y f. z.2 y (sym (seen_past p b i.id q) ∙ f))

    each : (is : List Item) → Each p.item (λ i. (i.id.0 ≡ 1 → ⊥) → (target_of i).0 ≡ told.0.rid.0) is → All (IsTurnedTo d b) is → All (IsTurnedTo d (with_seen p b)) is
    each [] a k = tt
    each (i ∷ is) a k = (one i (p.item.0 == i.id.0) refl a.0 k.0, each is a.1 k.1)

abbrev pub IsApartFromAll : List Entry → Entry → Type 0
IsApartFromAll ds e = All (λ d. IsApartFrom d e) ds

abbrev pub Turned : List Entry → List Item → Book → Type 0
Turned ds items b = All (λ d. All (IsTurnedTo d b) items) ds

abbrev pub AreSome : List Entry → Type 0
AreSome ds = All (λ d. d.rid.0 ≡ 0 → ⊥) ds

kept_effect : (On : Entry → Type 0) (ds : List Entry) → AreSome ds → ((e : Entry) → On e → IsApartFromAll ds e) → (b : Book) (items : List Item) (c : Change) (n : Usn) → IsNamedBy On On c → ((item : ItemId) → c ≡ change.Revert item → ⊥) → Turned ds items b
    → Turned ds (effect items c n) (book_after c b)
kept_effect On [] some apart b items c n named revert h = tt
kept_effect On (d ∷ ds) some apart b items c n named revert h = (
  turned_effect d some.0 b items c n (named_weaker (IsApartFrom d) On (IsApartFrom d) On (λ e on. (apart e on).0) (λ e on. (apart e on).0) c named) revert h.0,
  kept_effect On ds some.1 (λ e on. (apart e on).1) b items c n named revert h.1,
)

kept_seen : (On : Entry → Type 0) (ds : List Entry) → AreSome ds → ((e : Entry) → On e → IsApartFromAll ds e) → (b : Book) (p : SeenPath) (items : List Item) → IsSeenBy On items p → Turned ds items b → Turned ds items (with_seen p b)
kept_seen On [] some apart b p items told h = tt
kept_seen On (d ∷ ds) some apart b p items told h = (turned_seen d some.0 b p items (told.0, (apart told.0 told.1).0, told.2, told.3, told.4) h.0, kept_seen On ds some.1 (λ e on. (apart e on).1) b p items told h.1)

-- a book with the same paths seen
kept_same : (ds : List Entry) → AreSome ds → (b c : Book) (items : List Item) → c.seen ≡ b.seen → Turned ds items b → Turned ds items c
kept_same [] some b c items e h = tt
kept_same (d ∷ ds) some b c items e h = (turned_fewer d some.0 b c items (λ id p f. subst (λ (ps : List SeenPath). seen_of (record c { seen = ps }) id ≡ Some p) e f) h.0, kept_same ds some.1 b c items e h.1)

module _ {On : Entry → Type 0} (P : State → Type 0) (ds : List Entry) (some : AreSome ds) (apart : (e : Entry) → On e → IsApartFromAll ds e) where
  abbrev pub In : State → Type 0
  In t = IsFair t.link → Turned ds (items_now t) (book_now t)

  no_revert : (s : State) (c : Change) (item : ItemId) → Fits s.link.remote s.filter c → c ≡ change.Revert item → ⊥
  no_revert s c item fit e = subst (Fits s.link.remote s.filter) e fit

  kept_change : (c : Change) (s : State) → IsNamedBy On On c → (IsFair s.link → Fits s.link.remote s.filter c) → In s → Keeps In (do_change c s)
  kept_change c s named fit h =
      keeps_mapped (λ x. IsFair s.link → Turned ds x.volume.items x.volume.book) In (λ x. with_filter x s) (put c s.filter) (λ x j. j)
      (kept_leads (λ x. IsFair s.link → Turned ds x.volume.items x.volume.book) (put c s.filter)
      (change_leads (λ x. IsFair s.link → Turned ds x.volume.items x.volume.book) (λ x. IsFair s.link → Turned ds x.volume.items x.volume.book) same_book c s.filter h h h (λ v is fair. by v is fair))) where
        after : IsFair s.link → Turned ds (effect (items_now s) c (next_number s.filter.volume)) (book_after c (book_now s))
        after fair = kept_effect On ds some apart (book_now s) (items_now s) c (next_number s.filter.volume) named (λ item e. no_revert s c item (fit fair) e) (h fair)

        by : (v : Volume) → (v ≡ s.filter.volume) ⊎ (v ≡ with_room_point s.filter.volume) → IsFair s.link → Turned ds (put_with_book same_book c v).items (put_with_book same_book c v).book
        by v (inl e) fair = subst (λ (w : Volume). Turned ds (put_with_book same_book c w).items (put_with_book same_book c w).book) (sym e) (after fair)
        by v (inr e) fair = subst (λ (w : Volume). Turned ds (put_with_book same_book c w).items (put_with_book same_book c w).book) (sym e) (after fair)

  kept_book : (f : Book → Book) (s : State) → IsStepBy On f s → In s → In (with_book f s)
  kept_book f s (inl k) h fair = kept_same ds some (book_now s) (f (book_now s)) (items_now s) (k.0 (book_now s)) (h fair)
  kept_book f s (inr k) h fair = subst (Turned ds (items_now s)) (sym (k.1 (book_now s))) (kept_seen On ds some apart (book_now s) k.0 (items_now s) (k.2 fair) (h fair))

  line_kept : (b : Bool) (c : Code) (s : State) → In s → In (skip_line b c s)
  line_kept true c s h = h
  line_kept false c s h = h

  pub kept_skipping : Skipping On (IsNamedBy On On) P → Skipping On (IsNamedBy On On) (λ t. P t × In t)
  kept_skipping closed = record {
    sound = λ s h fair. closed.sound s h.0 fair;
    change = λ c s ok free fit h. keeps_both P In (do_change c s) (closed.change c s ok free fit h.0) (kept_change c s ok (λ fair. (fit fair).0) h.1);
    books = λ f s keeps placed step h. (closed.books f s keeps placed step h.0, kept_book f s step h.1);
    skips = λ c s h. (closed.skips c s h.0, line_kept s.running.shows_skips c (record s { running = record s.running { skips = s.running.skips + 1 } }) h.1);
  }
