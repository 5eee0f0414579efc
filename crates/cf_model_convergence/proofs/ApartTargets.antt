-- No two items have one target, by what each change meets.
use Rattle.std.proofs.Common.{◌≡◌, ◌≤◌, ℕ, Bool, true, false, List, [], ◌∷◌, ◌++◌, refl, sym, ◌∙◌, ap, subst, inl, inr, arith}
use Rattle.std.specs.Prelude.{Option, Some, None, cond, filter, ◌==◌}
use Rattle.std.proofs.lemmas.Bool.{eqb-true}
use Rattle.cf_base.specs.declared.answers.Answer.{Answer}
use Rattle.cf_base.specs.declared.changes.Change.{Change}
use Rattle.cf_base.specs.declared.changes.Change.TheVariants as change
use Rattle.cf_base.specs.declared.events.Event.{Event}
use Rattle.cf_base.specs.declared.ids.ItemId.{ItemId}
use Rattle.cf_base.specs.declared.ids.Rid.{Rid}
use Rattle.cf_base.specs.declared.ids.Usn.{Usn}
use Rattle.cf_base.specs.declared.items.Pin.{Pin}
use Rattle.cf_base.specs.declared.policies.Mode.TheVariants as mode
use Rattle.cf_model.specs.Changes.{next_number}
use Rattle.cf_model.specs.Effects.{changed, copies, effect, untargeted}
use Rattle.cf_model.specs.Identities.{target_of}
use Rattle.cf_model.specs.Items.{Item, item_of}
use Rattle.cf_model.specs.Lawful.{Runs}
use Rattle.cf_model.specs.Numbers.{root_rid}
use Rattle.cf_model.specs.Soundness.{Each}
use Rattle.cf_model.specs.State.{Filter, State, start}
use Rattle.cf_model.specs.Store.{Held}
use Rattle.cf_model_laws.specs.Fitting.{Aims, AimsAlone, Meets}
use Rattle.cf_model_laws.specs.Invariant.{All, InOrder, target_in}
use Rattle.cf_model_laws.specs.Premises.{IsFresh}
use Rattle.cf_model_laws.proofs.AimedTargets.{HasTarget, below_root, retargeted}
use Rattle.cf_model_laws.proofs.FitItems.{all_changed}
use Rattle.cf_model_laws.proofs.Gathered.{all_any, all_append, all_filter, all_weaker, each_any, each_weaker}
use Rattle.cf_model_laws.proofs.RightItems.{fits_aims, fits_meets}
use Rattle.cf_model_laws.proofs.SoundSettles.{each_past}
use Rattle.cf_model_convergence.specs.Lasting.{AreTargetsAlone, HoldsIn}
use Rattle.cf_model_convergence.specs.Resting.{AreTargetsApart}
use Rattle.cf_model_convergence.proofs.LastingGuarded.{Lasting, run_lasts}

-- lists

abbrev IsApart : Item → Item → Type 0
IsApart i j = (target_of i).0 ≡ (target_of j).0 → (target_of i).0 ≡ 0

apart_append : (items : List Item) (x : Item) → All (λ i. IsApart i x) items → AreTargetsApart items → AreTargetsApart (items ++ x ∷ [])
apart_append [] x k h = (tt, tt)
apart_append (i ∷ is) x k h = (all_append (IsApart i) is (x ∷ []) h.0 (k.0, tt), apart_append is x k.1 h.1)

apart_same : (items : List Item) → AreTargetsApart items → AreTargetsApart (items ++ [])
apart_same [] h = tt
apart_same (i ∷ is) h = (all_append (IsApart i) is [] h.0 tt, apart_same is h.1)

apart_filter : (p : Item → Bool) (items : List Item) → AreTargetsApart items → AreTargetsApart (filter p items)
apart_filter p [] h = tt
apart_filter p (i ∷ is) h = by (p i) (apart_filter p is h.1) where
  by : (b : Bool) → AreTargetsApart (filter p is) → AreTargetsApart (cond b (i ∷ filter p is) (filter p is))
  by true k = (all_filter (IsApart i) p is h.0, k)
  by false k = k

-- items that keep their targets
apart_kept : (id : ItemId) (f : Item → Item) (items : List Item) → Each id (λ i. (target_of (f i)).0 ≡ (target_of i).0) items → AreTargetsApart items → AreTargetsApart (changed id f items)
apart_kept id f [] c h = tt
apart_kept id f (i ∷ is) c h = (by (i.id.0 == id.0) c.0, apart_kept id f is c.1 h.1) where
  rest : (t : ℕ) → t ≡ (target_of i).0 → All (λ j. t ≡ (target_of j).0 → t ≡ 0) (changed id f is)
  rest t e = all_changed id f (λ j. (target_of (f j)).0 ≡ (target_of j).0) (IsApart i) (λ j. t ≡ (target_of j).0 → t ≡ 0) (λ j same k z. e ∙ k (sym e ∙ z ∙ same)) (λ j k z. e ∙ k (sym e ∙ z)) is c.1 h.0

  by : (b : Bool) → (b ≡ true → (target_of (f i)).0 ≡ (target_of i).0) → All (IsApart (cond b (f i) i)) (changed id f is)
  by true g = rest (target_of (f i)).0 (g refl)
  by false g = rest (target_of i).0 refl

-- one item comes to have a target that no other has
apart_new : (id : ItemId) (f : Item → Item) (t low next : ℕ) (items : List Item) → InOrder low next items → Each id (λ i. (target_of (f i)).0 ≡ t) items → All (λ i. (target_of i).0 ≡ t → t ≡ 0) items → AreTargetsApart items → AreTargetsApart (changed id f items)
apart_new id f t low next [] order c u h = tt
apart_new id f t low next (i ∷ is) order c u h = (by (i.id.0 == id.0) refl c.0, apart_new id f t i.id.0 next is order.1 c.1 u.1 h.1) where
  under : (n m : ℕ) → n ≡ m → m ≤ n
  under n m e = omega (arith, e)

  by : (b : Bool) → (i.id.0 == id.0) ≡ b → (b ≡ true → (target_of (f i)).0 ≡ t) → All (IsApart (cond b (f i) i)) (changed id f is)
  by true q g =
      all_changed id f (λ j. ⊥) (λ j. (target_of j).0 ≡ t → t ≡ 0) (IsApart (f i)) (λ j no k. absurd no) (λ j k z. g refl ∙ k (sym z ∙ g refl)) is
      (each_past id (λ j. ⊥) i.id.0 next is (under i.id.0 id.0 (eqb-true i.id.0 id.0 q)) order.1) u.1
  by false q g = all_changed id f (λ j. (target_of (f j)).0 ≡ t) (IsApart i) (IsApart i) (λ j a k z. (z ∙ a) ∙ u.0 (z ∙ a)) (λ j k. k) is c.1 h.0

-- a change

still : (id : ItemId) (f : Item → Item) (items : List Item) → ((i : Item) → target_of (f i) ≡ target_of i) → AreTargetsApart items → AreTargetsApart (changed id f items)
still id f items like h = apart_kept id f items (each_any id (λ i. (target_of (f i)).0 ≡ (target_of i).0) (λ i. ap (λ (r : Rid). r.0) (like i)) items) h

each_with : (id : ItemId) (P : Item → Type 0) → ((i : Item) → (i.id.0 == id.0) ≡ true → P i) → (items : List Item) → Each id P items
each_with id P k [] = tt
each_with id P k (i ∷ is) = (k i, each_with id P k is)

-- the item gets the target that it has
kept_again : (id : ItemId) (f : Item → Item) (new : List ℕ) → ((i : Item) → target_of (f i) ≡ cond (i.id.0 == 1) root_rid (target_in new)) → (items : List Item) → Each id (λ i. (target_of i).0 ≡ (target_in new).0) items → AreTargetsApart items → AreTargetsApart (changed id f items)
kept_again id f new gives items c h =
    apart_kept id f items
    (each_weaker id (λ i. (target_of i).0 ≡ (target_in new).0) (λ i. (target_of (f i)).0 ≡ (target_of i).0) (λ i a. ap (λ (r : Rid). r.0) (gives i) ∙ retargeted (i.id.0 == 1) (target_in i.identity) (target_in new) (target_of i).0 a refl) items c) h

alone : (x : Filter) (id : ItemId) (f : Item → Item) (new : List ℕ) → ((i : Item) → target_of (f i) ≡ cond (i.id.0 == 1) root_rid (target_in new)) → InOrder 0 x.volume.next_item.0 x.volume.items → AimsAlone x.volume.book.entries x.volume.items id new
    → AreTargetsApart x.volume.items → AreTargetsApart (changed id f x.volume.items)
alone x id f new gives order (inl c) h = kept_again id f new gives x.volume.items c h
alone x id f new gives order (inr k) h = by (id.0 == 1) refl where
  first : (i : Item) (b : Bool) → (i.id.0 == id.0) ≡ true → (id.0 == 1) ≡ b → target_of (f i) ≡ cond b root_rid (target_in new)
  first i b z q = gives i ∙ ap (λ (c : Bool). cond c root_rid (target_in new)) (subst (λ (n : ℕ). (n == 1) ≡ b) (sym (eqb-true i.id.0 id.0 z)) q)

  root : (i : Item) → (i.id.0 == id.0) ≡ true → (id.0 == 1) ≡ true → target_of i ≡ root_rid
  root i z q = ap (λ (c : Bool). cond c root_rid (target_in i.identity)) (subst (λ (n : ℕ). (n == 1) ≡ true) (sym (eqb-true i.id.0 id.0 z)) q)

  by : (b : Bool) → (id.0 == 1) ≡ b → AreTargetsApart (changed id f x.volume.items)
  by true q = apart_kept id f x.volume.items (each_with id (λ i. (target_of (f i)).0 ≡ (target_of i).0) (λ i z. ap (λ (r : Rid). r.0) (first i true z q ∙ sym (root i z q))) x.volume.items) h
  by false q = apart_new id f (target_in new).0 0 x.volume.next_item.0 x.volume.items order (each_with id (λ i. (target_of (f i)).0 ≡ (target_in new).0) (λ i z. ap (λ (r : Rid). r.0) (first i false z q)) x.volume.items) k.1 h

beside_copy : (items : List Item) (id parent : ItemId) (name : List ℕ) (pin : Pin) (n : Usn) (o : Option Item) → 2 ≤ id.0 → AreTargetsApart items → AreTargetsApart (items ++ copies id parent name pin n o)
beside_copy items id parent name pin n None large h = apart_same items h
beside_copy items id parent name pin n (Some i) large h = apart_append items _ (all_any (λ j. (target_of j).0 ≡ (cond (id.0 == 1) root_rid (target_in (untargeted i.identity))).0 → (target_of j).0 ≡ 0) (λ j z. z ∙ ap (λ (r : Rid). r.0) (below_root id.0 (target_in (untargeted i.identity)) large)) items) h

effect_apart : (r : Held) (x : Filter) (c : Change) (n : Usn) → 2 ≤ x.volume.next_item.0 → InOrder 0 x.volume.next_item.0 x.volume.items → Meets r x c → Aims r x c → AreTargetsApart x.volume.items → AreTargetsApart (effect x.volume.items c n)
effect_apart r x (change.Make item parent name kind size identity) n large order fit aims h =
    let same : cond (item.0 == 1) root_rid (target_in identity) ≡ target_in identity = below_root item.0 (target_in identity) (subst (λ (m : ℕ). 2 ≤ m) (sym fit.0) large) in
    apart_append x.volume.items _
    (all_weaker (λ i. (target_of i).0 ≡ (target_in identity).0 → (target_in identity).0 ≡ 0) (λ i. (target_of i).0 ≡ (cond (item.0 == 1) root_rid (target_in identity)).0 → (target_of i).0 ≡ 0)
    (λ i k z. (z ∙ ap (λ (r : Rid). r.0) same) ∙ k (z ∙ ap (λ (r : Rid). r.0) same)) x.volume.items aims.1) h
effect_apart r x (change.Remove item) n large order fit aims h = apart_filter _ x.volume.items h
effect_apart r x (change.Move item parent name) n large order fit aims h = still item _ x.volume.items (λ i. refl) h
effect_apart r x (change.Write item at bytes) n large order fit aims h = still item _ x.volume.items (λ i. refl) h
effect_apart r x (change.Size item size) n large order fit aims h = still item _ x.volume.items (λ i. refl) h
effect_apart r x (change.Filled item start bytes) n large order fit aims h = still item _ x.volume.items (λ i. refl) h
effect_apart r x (change.Validated item start len) n large order fit aims h = still item _ x.volume.items (λ i. refl) h
effect_apart r x (change.Emptied item start len) n large order fit aims h = still item _ x.volume.items (λ i. refl) h
effect_apart r x (change.SetPin item pin) n large order fit aims h = still item _ x.volume.items (λ i. refl) h
effect_apart r x (change.Mark item number) n large order fit aims h = still item _ x.volume.items (λ i. refl) h
effect_apart r x (change.Clear item) n large order fit aims h = still item _ x.volume.items (λ i. refl) h
effect_apart r x (change.Convert item identity) n large order fit aims h =
    kept_again item _ identity (λ i. refl) x.volume.items (each_weaker item (HasTarget 0) (λ i. (target_of i).0 ≡ (target_in identity).0) (λ i e. e ∙ sym fit.1) x.volume.items aims) h
effect_apart r x (change.Revert item) n large order fit aims h = elim fit as (λ _. AreTargetsApart (effect x.volume.items (change.Revert item) n)) [ ]
effect_apart r x (change.Rebase item identity len at) n large order fit aims h = alone x item _ identity (λ i. refl) order aims.1 h
effect_apart r x (change.Take item identity size) n large order fit aims h = alone x item _ identity (λ i. refl) order aims.1 h
effect_apart r x (change.Copy item from parent name) n large order fit aims h = beside_copy x.volume.items item parent name _ n (item_of x.volume.items from) (subst (λ (m : ℕ). 2 ≤ m) (sym fit) large) h
effect_apart r x (change.Populated item) n large order fit aims h = still item _ x.volume.items (λ i. refl) h
effect_apart r x (change.Keep item on) n large order fit aims h = still item _ x.volume.items (λ i. refl) h

pub alone_lasting : Lasting AreTargetsAlone
alone_lasting = record {
  changes = λ l tokens f c x keeps seen fit fair sound h. effect_apart l.remote x c (next_number x.volume) sound.now.more sound.now.order (fits_meets l.remote x c fit) (fits_aims l.remote x c fit) h;
  removes = λ l tokens f item x keeps seen cursor fair sound h. apart_filter _ x.volume.items h;
  alike = λ r items b d same h. h;
  records = λ f s keeps placed h. h;
  sees = λ e s is live sound h. h;
  leaves = λ token r items b h. h;
  enters = λ e s well h. h;
  grows = λ r q items b counted h. h;
}

pub targets_alone : (remote : Held) (clusters : ℕ) (trace : List (Event × Answer)) (s : State) → Runs mode.Replay (start mode.Replay remote clusters) trace s → IsFresh remote → HoldsIn AreTargetsAlone s
targets_alone remote clusters trace s runs fresh = run_lasts AreTargetsAlone alone_lasting remote clusters trace s runs fresh (tt, tt)
