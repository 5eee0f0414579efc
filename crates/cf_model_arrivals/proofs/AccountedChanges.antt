-- Over which changes and records it stays so that what the cursor has passed is here or was removed here.
use Rattle.std.proofs.Common.{◌≡◌, ◌⊎◌, ◌≤◌, ℕ, Bool, true, false, List, [], ◌∷◌, refl, sym, ◌∙◌, subst, inl, inr, arith}
use Rattle.std.specs.Prelude.{Some, cond, ◌||◌, ◌==◌}
use Rattle.std.specs.List.{list_any}
use Rattle.cf_base.specs.declared.changes.Change.{Change}
use Rattle.cf_base.specs.declared.changes.Change.TheVariants as change
use Rattle.cf_base.specs.declared.ids.ItemId.{ItemId}
use Rattle.cf_base.specs.declared.ids.Rid.{Rid}
use Rattle.cf_base.specs.declared.ids.Usn.{Usn}
use Rattle.cf_base.specs.declared.messages.Entry.{Entry}
use Rattle.cf_model.specs.Books.{Book, Tombstone, book_after, with_tombstone}
use Rattle.cf_model.specs.Effects.{converted, rebased, took}
use Rattle.cf_model.specs.Growth.{IsCounted}
use Rattle.cf_model.specs.Identities.{target_of}
use Rattle.cf_model.specs.Items.{Item}
use Rattle.cf_model.specs.Numbers.{above, root_rid}
use Rattle.cf_model.specs.Soundness.{Each}
use Rattle.cf_model.specs.State.{Filter}
use Rattle.cf_model.specs.Store.{Held, Stored, stored_at}
use Rattle.cf_model_laws.specs.Fitting.{Fits}
use Rattle.cf_model_laws.specs.Invariant.{Among, target_in}
use Rattle.cf_model_laws.specs.Taken.{LosesOn, LosesTold}
use Rattle.cf_model_laws.proofs.Gathered.{all_weaker, each_weaker}
use Rattle.cf_model_laws.proofs.RightItems.{no_way}
use Rattle.cf_model_convergence.proofs.ReadyRests.{nothing}
use Rattle.cf_model_agreement.specs.Messages.{IsLate}
use Rattle.cf_model_populated.specs.Accounted.{AreAccountedFor, IsAccountedFor, IsHereOrBuried, IsUnsaid, KeepsTarget, LosesUnsaid}
use Rattle.cf_model_populated.proofs.AccountedSteps.{put_more, put_none}

pub same_tombstones : (c : Change) (b : Book) → (book_after c b).tombstones ≡ b.tombstones
same_tombstones (change.Remove item) b = refl
same_tombstones (change.Make item parent name kind size identity) b = refl
same_tombstones (change.Move item parent name) b = refl
same_tombstones (change.Write item at bytes) b = refl
same_tombstones (change.Size item size) b = refl
same_tombstones (change.Filled item start bytes) b = refl
same_tombstones (change.Validated item start len) b = refl
same_tombstones (change.Emptied item start len) b = refl
same_tombstones (change.SetPin item pin) b = refl
same_tombstones (change.Mark item number) b = refl
same_tombstones (change.Clear item) b = refl
same_tombstones (change.Convert item identity) b = refl
same_tombstones (change.Revert item) b = refl
same_tombstones (change.Rebase item identity len at) b = refl
same_tombstones (change.Take item identity size) b = refl
same_tombstones (change.Copy item from parent name) b = refl
same_tombstones (change.Populated item) b = refl
same_tombstones (change.Keep item on) b = refl

-- with the same cursor and the same tombstones
pub account_book : (r : Held) (items : List Item) (b d : Book) → d.cursor ≡ b.cursor → d.tombstones ≡ b.tombstones → AreAccountedFor r items b → AreAccountedFor r items d
account_book r items b d cursor buried h =
    subst (λ (n : ℕ). AreAccountedFor r items (record d { cursor = n })) (sym cursor) (subst (λ (ts : List Tombstone). AreAccountedFor r items (record b { tombstones = ts })) (sym buried) h)

-- with a tombstone more
pub account_more : (r : Held) (items : List Item) (b : Book) (t : Tombstone) → AreAccountedFor r items b → AreAccountedFor r items (with_tombstone t b)
account_more r items b t h none =
    all_weaker (IsAccountedFor items b) (IsAccountedFor items (with_tombstone t b)) (λ x k low live passed. by x (k low live passed)) r.items (h (put_none (λ x y. above y.number x.number) t (λ u. u.version.0 == 0) b.tombstones none)) where
      by : (x : Stored) → IsHereOrBuried items b x.rid → IsHereOrBuried items (with_tombstone t b) x.rid
      by x (inl k) = inl k
      by x (inr k) = inr (k.0, put_more (λ x y. above y.number x.number) t k.0 b.tombstones k.1, k.2)

-- what a change loses

least : (n : ℕ) → n ≤ n
least n = omega arith

rid_same : (a c : Rid) → a.0 ≡ c.0 → a ≡ c
rid_same a c z = λ k. record { 0 = z k }

same_target : (b : Bool) (a c : Rid) → (cond b root_rid a).0 ≡ c.0 → (cond b root_rid c).0 ≡ (cond b root_rid a).0
same_target true a c e = refl
same_target false a c e = sym e

module _ (r : Held) (b : Book) (counted : IsCounted r) where
  -- nothing is said of no target
  pub none_said : (rid : Rid) → rid.0 ≡ 0 → IsUnsaid r b rid
  none_said rid z x found live = absurd (nothing r.items 1 counted rid x z found (least 1))

  module _ (On : Entry → Type 0) (right : (e : Entry) → On e → IsLate r b.cursor e.rid) where
    unsaid : (i : Item) → LosesTold On i → IsUnsaid r b (target_of i)
    unsaid i (inl z) = none_said (target_of i) z
    unsaid i (inr z) = λ x found live. right z.0 z.1 x (subst (λ (y : Rid). stored_at r.items y ≡ Some x) (rid_same (target_of i) z.0.rid z.2) found)

    stays : (i j : Item) (identity : List ℕ) → (target_of j).0 ≡ (cond (i.id.0 == 1) root_rid (target_in identity)).0 → ((target_of i).0 ≡ (target_in identity).0) ⊎ LosesTold On i → KeepsTarget r b i j
    stays i j identity is (inl z) = inl (is ∙ same_target (i.id.0 == 1) (target_in i.identity) (target_in identity) z)
    stays i j identity is (inr z) = inr (unsaid i z)

    pub loses_unsaid : (x : Filter) (c : Change) (n : Usn) → Fits r x c → LosesOn On x.volume.items c → LosesUnsaid r b x.volume.items c n
    loses_unsaid x (change.Make item parent name kind size identity) n fit h = tt
    loses_unsaid x (change.Remove item) n fit h = each_weaker item (LosesTold On) (λ i. IsUnsaid r b (target_of i)) unsaid x.volume.items h
    loses_unsaid x (change.Move item parent name) n fit h = tt
    loses_unsaid x (change.Write item at bytes) n fit h = tt
    loses_unsaid x (change.Size item size) n fit h = tt
    loses_unsaid x (change.Filled item start bytes) n fit h = tt
    loses_unsaid x (change.Validated item start len) n fit h = tt
    loses_unsaid x (change.Emptied item start len) n fit h = tt
    loses_unsaid x (change.SetPin item pin) n fit h = tt
    loses_unsaid x (change.Mark item number) n fit h = tt
    loses_unsaid x (change.Clear item) n fit h = tt
    loses_unsaid x (change.Convert item identity) n fit h = each_weaker item (λ i. (target_of i).0 ≡ 0) (λ i. KeepsTarget r b i (converted identity n i)) (λ i z. inr (none_said (target_of i) z)) x.volume.items fit.1
    loses_unsaid x (change.Revert item) n fit h = absurd fit
    loses_unsaid x (change.Rebase item identity len at) n fit h =
        each_weaker item (λ i. ((target_of i).0 ≡ (target_in identity).0) ⊎ LosesTold On i) (λ i. KeepsTarget r b i (rebased identity len at i)) (λ i z. stays i (rebased identity len at i) identity refl z) x.volume.items h
    loses_unsaid x (change.Take item identity size) n fit h =
        each_weaker item (λ i. (target_of i).0 ≡ (target_in identity).0) (λ i. KeepsTarget r b i (took identity size n i)) (λ i z. stays i (took identity size n i) identity refl (inl z)) x.volume.items h
    loses_unsaid x (change.Copy item from parent name) n fit h = tt
    loses_unsaid x (change.Populated item) n fit h = tt
    loses_unsaid x (change.Keep item on) n fit h = tt

  -- a new item gets its target
  pub done_unsaid : (items : List Item) (item : ItemId) (identity : List ℕ) (len : ℕ) (at n : Usn) → Each item (λ i. (target_of i).0 ≡ 0) items → LosesUnsaid r b items (change.Rebase item identity len at) n
  done_unsaid items item identity len at n h = each_weaker item (λ i. (target_of i).0 ≡ 0) (λ i. KeepsTarget r b i (rebased identity len at i)) (λ i z. inr (none_said (target_of i) z)) items h

-- none of these is so
pub none_among : {A : Type 0} (g : A → Bool) (xs : List A) (x : A) → list_any g xs ≡ false → Among x xs → g x ≡ false
none_among g [] x h m = absurd m
none_among g (y ∷ xs) x h (inl e) = subst (λ z. g z ≡ false) e (first (g y) (list_any g xs) h) where
  first : (a c : Bool) → (a || c) ≡ false → a ≡ false
  first true c z = no_way (sym z)
  first false c z = refl
none_among g (y ∷ xs) x h (inr m) = none_among g xs x (rest (g y) (list_any g xs) h) m where
  rest : (a c : Bool) → (a || c) ≡ false → c ≡ false
  rest true c z = no_way (sym z)
  rest false c z = z
