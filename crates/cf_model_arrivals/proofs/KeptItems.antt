-- Items that are here stay so over each change that takes no target of theirs.
use Rattle.std.proofs.Common.{◌≡◌, ◌⊎◌, ◌+◌, ℕ, Bool, true, false, List, [], ◌∷◌, refl, sym, ◌∙◌, ap, subst, inl, inr}
use Rattle.std.specs.Prelude.{cond, not, ◌==◌}
use Rattle.cf_base.specs.declared.changes.Change.{Change}
use Rattle.cf_base.specs.declared.changes.Change.TheVariants as change
use Rattle.cf_base.specs.declared.codes.Code.{Code}
use Rattle.cf_base.specs.declared.ids.ItemId.{ItemId}
use Rattle.cf_base.specs.declared.ids.Rid.{Rid}
use Rattle.cf_base.specs.declared.ids.Usn.{Usn}
use Rattle.cf_base.specs.declared.messages.Entry.{Entry}
use Rattle.cf_model.specs.Changes.{change as put, next_number, put_with_book, same_book}
use Rattle.cf_model.specs.Effects.{changed, converted, effect, rebased, took}
use Rattle.cf_model.specs.Identities.{target_of}
use Rattle.cf_model.specs.Items.{Item}
use Rattle.cf_model.specs.Numbers.{root_rid}
use Rattle.cf_model.specs.Points.{with_room_point}
use Rattle.cf_model.specs.Skips.{do_change, skip_line}
use Rattle.cf_model.specs.Soundness.{Each}
use Rattle.cf_model.specs.State.{Filter, State, Volume, items_now, with_filter}
use Rattle.cf_model.specs.Store.{Held}
use Rattle.cf_model.specs.Trees.{Keeps}
use Rattle.cf_model.proofs.TreeLaws.{keeps_mapped}
use Rattle.cf_model_laws.specs.Fitting.{Fits}
use Rattle.cf_model_laws.specs.Invariant.{All, Among, target_in}
use Rattle.cf_model_laws.specs.Premises.{IsFair}
use Rattle.cf_model_laws.specs.Taken.{IsNamedBy, LosesOn, LosesTold}
use Rattle.cf_model_laws.proofs.Leading.{kept_leads}
use Rattle.cf_model_laws.proofs.SkipsGuarded.{FitsAnd, Skipping, keeps_both}
use Rattle.cf_model_laws.proofs.SoundFilters.{change_leads}
use Rattle.cf_model_convergence.proofs.FeedsTold.{among_filter, among_left}
use Rattle.cf_model_arrivals.specs.Kept.{AreKept, IsKept}

-- an item that is changed is among the items afterwards
pub among_changed : (item : ItemId) (f : Item → Item) (items : List Item) (i : Item) → Among i items → Among (cond (i.id.0 == item.0) (f i) i) (changed item f items)
among_changed item f [] i m = absurd m
among_changed item f (j ∷ items) i (inl e) = inl (ap (λ (x : Item). cond (x.id.0 == item.0) (f x) x) e)
among_changed item f (j ∷ items) i (inr m) = inr (among_changed item f items i m)

pub each_among : (item : ItemId) (C : Item → Type 0) (items : List Item) (i : Item) → Each item C items → Among i items → (i.id.0 == item.0) ≡ true → C i
each_among item C [] i c m q = absurd m
each_among item C (j ∷ items) i c (inl e) q = subst C e (c.0 (subst (λ (x : Item). (x.id.0 == item.0) ≡ true) (sym e) q))
each_among item C (j ∷ items) i c (inr m) q = each_among item C items i c.1 m q

module _ (rid : ℕ) (d : Bool) where
  in_place : (item : ItemId) (f : Item → Item) (C : Item → Type 0) → ((i : Item) → C i → (target_of i).0 ≡ rid → (target_of (f i)).0 ≡ rid) → ((i : Item) → (f i).directory ≡ i.directory) → (items : List Item) → Each item C items → IsKept items rid d → IsKept (changed item f items) rid d
  in_place item f C k same items c h = (cond (h.0.id.0 == item.0) (f h.0) h.0, among_changed item f items h.0 h.1, (by (h.0.id.0 == item.0) refl).0, (by (h.0.id.0 == item.0) refl).1) where
    by : (b : Bool) → (h.0.id.0 == item.0) ≡ b → ((target_of (cond b (f h.0) h.0)).0 ≡ rid) × ((cond b (f h.0) h.0).directory ≡ d)
    by true q = (k h.0 (each_among item C items h.0 c h.1 q) h.2, same h.0 ∙ h.3)
    by false q = (h.2, h.3)

  still : (item : ItemId) (f : Item → Item) → ((i : Item) → target_of (f i) ≡ target_of i) → ((i : Item) → (f i).directory ≡ i.directory) → (items : List Item) → IsKept items rid d → IsKept (changed item f items) rid d
  still item f same kind items h = in_place item f (λ i. Unit {0}) (λ i _ e. ap (λ (x : Rid). x.0) (same i) ∙ e) kind items (anyway items) h where
    anyway : (is : List Item) → Each item (λ i. Unit {0}) is
    anyway [] = tt
    anyway (i ∷ is) = ((λ z. tt), anyway is)

  pub kept_moved : (items : List Item) (item parent : ItemId) (name : List ℕ) (n : Usn) → IsKept items rid d → IsKept (effect items (change.Move item parent name) n) rid d
  kept_moved items item parent name n h = still item _ (λ i. refl) (λ i. refl) items h

  pub kept_marked : (items : List Item) (item : ItemId) (number n : Usn) → IsKept items rid d → IsKept (effect items (change.Mark item number) n) rid d
  kept_marked items item number n h = still item _ (λ i. refl) (λ i. refl) items h

  pub kept_copied : (items : List Item) (item from parent : ItemId) (name : List ℕ) (n : Usn) → IsKept items rid d → IsKept (effect items (change.Copy item from parent name) n) rid d
  kept_copied items item from parent name n h = (h.0, among_left h.0 items _ h.1, h.2, h.3)

  -- an item takes over another version of its own
  own_target : (b : Bool) (a c : Rid) → (cond b root_rid a).0 ≡ rid → c.0 ≡ rid → (cond b root_rid c).0 ≡ rid
  own_target true a c e k = e
  own_target false a c e k = k

  pub kept_taken : (items : List Item) (item : ItemId) (identity : List ℕ) (size : ℕ) (n : Usn) → (target_in identity).0 ≡ rid → IsKept items rid d → IsKept (effect items (change.Take item identity size) n) rid d
  kept_taken items item identity size n same h =
      in_place item (took identity size n) (λ i. Unit {0}) (λ i _ e. own_target (i.id.0 == 1) (target_in i.identity) (target_in identity) e same) (λ i. refl) items (anyway items) h where
        anyway : (is : List Item) → Each item (λ i. Unit {0}) is
        anyway [] = tt
        anyway (i ∷ is) = ((λ z. tt), anyway is)

  module _ (some : rid ≡ 0 → ⊥) (On : Entry → Type 0) (apart : (e : Entry) → On e → e.rid.0 ≡ rid → ⊥) where
    lost : (i : Item) → LosesTold On i → (target_of i).0 ≡ rid → ⊥
    lost i (inl z) e = some (sym e ∙ z)
    lost i (inr z) e = apart z.0 z.1 (sym z.2 ∙ e)

    same_target : (b : Bool) (a c : Rid) → (cond b root_rid a).0 ≡ c.0 → (cond b root_rid c).0 ≡ (cond b root_rid a).0
    same_target true a c e = refl
    same_target false a c e = sym e

    either : (i : Item) (identity : List ℕ) → ((target_of i).0 ≡ (target_in identity).0) ⊎ LosesTold On i → (target_of i).0 ≡ rid → (cond (i.id.0 == 1) root_rid (target_in identity)).0 ≡ rid
    either i identity (inl z) e = same_target (i.id.0 == 1) (target_in i.identity) (target_in identity) z ∙ e
    either i identity (inr z) e = absurd (lost i z e)

    pub kept_effect : (r : Held) (x : Filter) (c : Change) (n : Usn) → Fits r x c → LosesOn On x.volume.items c → IsKept x.volume.items rid d → IsKept (effect x.volume.items c n) rid d
    kept_effect r x (change.Make item parent name kind size identity) n fit loses h = (h.0, among_left h.0 x.volume.items _ h.1, h.2, h.3)
    kept_effect r x (change.Remove item) n fit loses h = (h.0, among_filter (λ i. not (i.id.0 == item.0)) h.0 x.volume.items (by (h.0.id.0 == item.0) refl) h.1, h.2, h.3) where
      by : (b : Bool) → (h.0.id.0 == item.0) ≡ b → not (h.0.id.0 == item.0) ≡ true
      by true q = absurd (lost h.0 (each_among item (LosesTold On) x.volume.items h.0 loses h.1 q) h.2)
      by false q = ap (λ (b : Bool). not b) q
    kept_effect r x (change.Move item parent name) n fit loses h = kept_moved x.volume.items item parent name n h
    kept_effect r x (change.Write item at bytes) n fit loses h = still item _ (λ i. refl) (λ i. refl) x.volume.items h
    kept_effect r x (change.Size item size) n fit loses h = still item _ (λ i. refl) (λ i. refl) x.volume.items h
    kept_effect r x (change.Filled item start bytes) n fit loses h = still item _ (λ i. refl) (λ i. refl) x.volume.items h
    kept_effect r x (change.Validated item start len) n fit loses h = still item _ (λ i. refl) (λ i. refl) x.volume.items h
    kept_effect r x (change.Emptied item start len) n fit loses h = still item _ (λ i. refl) (λ i. refl) x.volume.items h
    kept_effect r x (change.SetPin item pin) n fit loses h = still item _ (λ i. refl) (λ i. refl) x.volume.items h
    kept_effect r x (change.Mark item number) n fit loses h = kept_marked x.volume.items item number n h
    kept_effect r x (change.Clear item) n fit loses h = still item _ (λ i. refl) (λ i. refl) x.volume.items h
    kept_effect r x (change.Convert item identity) n fit loses h = in_place item (converted identity n) (λ i. (target_of i).0 ≡ 0) (λ i z e. absurd (some (sym e ∙ z))) (λ i. refl) x.volume.items fit.1 h
    kept_effect r x (change.Revert item) n fit loses h = absurd fit
    kept_effect r x (change.Rebase item identity len at) n fit loses h =
        in_place item (rebased identity len at) (λ i. ((target_of i).0 ≡ (target_in identity).0) ⊎ LosesTold On i) (λ i z e. either i identity z e) (λ i. refl) x.volume.items loses h
    kept_effect r x (change.Take item identity size) n fit loses h =
        in_place item (took identity size n) (λ i. (target_of i).0 ≡ (target_in identity).0) (λ i z e. either i identity (inl z) e) (λ i. refl) x.volume.items loses h
    kept_effect r x (change.Copy item from parent name) n fit loses h = kept_copied x.volume.items item from parent name n h
    kept_effect r x (change.Populated item) n fit loses h = still item _ (λ i. refl) (λ i. refl) x.volume.items h
    kept_effect r x (change.Keep item on) n fit loses h = still item _ (λ i. refl) (λ i. refl) x.volume.items h

-- of several

abbrev pub AreSome : List (ℕ × Bool) → Type 0
AreSome ks = All (λ k. k.0 ≡ 0 → ⊥) ks

abbrev pub IsApart : List (ℕ × Bool) → Entry → Type 0
IsApart ks e = All (λ k. e.rid.0 ≡ k.0 → ⊥) ks

pub all_kept : (On : Entry → Type 0) (ks : List (ℕ × Bool)) → AreSome ks → ((e : Entry) → On e → IsApart ks e) → (r : Held) (x : Filter) (c : Change) (n : Usn) → Fits r x c → LosesOn On x.volume.items c → AreKept x.volume.items ks → AreKept (effect x.volume.items c n) ks
all_kept On [] some apart r x c n fit loses h = tt
all_kept On (k ∷ ks) some apart r x c n fit loses h = (kept_effect k.0 k.1 some.0 On (λ e on. (apart e on).0) r x c n fit loses h.0, all_kept On ks some.1 (λ e on. (apart e on).1) r x c n fit loses h.1)

-- steps of a feed's turn

module _ {On : Entry → Type 0} (P : State → Type 0) (ks : List (ℕ × Bool)) (some : AreSome ks) (apart : (e : Entry) → On e → IsApart ks e) where
  abbrev pub In : State → Type 0
  In t = IsFair t.link → AreKept (items_now t) ks

  kept_change : (c : Change) (s : State) → FitsAnd On c s → In s → Keeps In (do_change c s)
  kept_change c s fit h =
      keeps_mapped (λ x. IsFair s.link → AreKept x.volume.items ks) In (λ x. with_filter x s) (put c s.filter) (λ x j. j)
      (kept_leads (λ x. IsFair s.link → AreKept x.volume.items ks) (put c s.filter)
      (change_leads (λ x. IsFair s.link → AreKept x.volume.items ks) (λ x. IsFair s.link → AreKept x.volume.items ks) same_book c s.filter h h h (λ v is fair. by v is fair))) where
        after : IsFair s.link → AreKept (effect (items_now s) c (next_number s.filter.volume)) ks
        after fair = all_kept On ks some apart s.link.remote s.filter c (next_number s.filter.volume) (fit fair).0 (fit fair).1 (h fair)

        by : (v : Volume) → (v ≡ s.filter.volume) ⊎ (v ≡ with_room_point s.filter.volume) → IsFair s.link → AreKept (put_with_book same_book c v).items ks
        by v (inl e) fair = subst (λ (w : Volume). AreKept (put_with_book same_book c w).items ks) (sym e) (after fair)
        by v (inr e) fair = subst (λ (w : Volume). AreKept (put_with_book same_book c w).items ks) (sym e) (after fair)

  line_kept : (b : Bool) (c : Code) (s : State) → In s → In (skip_line b c s)
  line_kept true c s h = h
  line_kept false c s h = h

  pub kept_skipping : Skipping On (IsNamedBy On On) P → Skipping On (IsNamedBy On On) (λ t. P t × In t)
  kept_skipping closed = record {
    sound = λ s h fair. closed.sound s h.0 fair;
    change = λ c s ok free fit h. keeps_both P In (do_change c s) (closed.change c s ok free fit h.0) (kept_change c s fit h.1);
    books = λ f s keeps placed step h. (closed.books f s keeps placed step h.0, h.1);
    skips = λ c s h. (closed.skips c s h.0, line_kept s.running.shows_skips c (record s { running = record s.running { skips = s.running.skips + 1 } }) h.1);
  }
