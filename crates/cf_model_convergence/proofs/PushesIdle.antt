-- The uploads of a pass: one is reported, or nothing is left to upload.
use Rattle.std.proofs.Common.{◌≡◌, ◌⊎◌, ◌≤◌, ◌+◌, ℕ, Bool, true, false, List, [], ◌∷◌, refl, sym, ◌∙◌, subst, inl, inr, arith, length, map}
use Rattle.std.specs.Prelude.{Option, Some, None, cond, nat_lt, ◌==◌}
use Rattle.std.proofs.lemmas.Bool.Decides.{nat_tests}
use Rattle.cf_base.specs.declared.ids.ItemId.{ItemId}
use Rattle.cf_model.specs.Arrows.{Arrow, Preserves, each}
use Rattle.cf_model.specs.Books.{Tombstone}
use Rattle.cf_model.specs.Items.{Item, is_all_here, item_of}
use Rattle.cf_model.specs.LookUp.{by_depth, depth_at}
use Rattle.cf_model.specs.Messages.{no_number}
use Rattle.cf_model.specs.Numbers.{most}
use Rattle.cf_model.specs.Pushes.{is_tombstone_left_out, push_all, push_tombstone, push_turn, is_hydrating}
use Rattle.cf_model.specs.State.{State, book_now, items_now}
use Rattle.cf_model.specs.Words.{put_in, sorted}
use Rattle.cf_model.specs.Trees.{Ends}
use Rattle.cf_model.proofs.ArrowLaws.{keeps_each}
use Rattle.cf_model.proofs.TreeLaws.{kept_at_end}
use Rattle.cf_model_laws.specs.Invariant.{All, Invariant}
use Rattle.cf_model_laws.specs.Premises.{IsFair}
use Rattle.cf_model_laws.proofs.ContentLaws.{sound_whole}
use Rattle.cf_model_laws.proofs.Gathered.{all_found}
use Rattle.cf_model_laws.proofs.Guarded.{Entering, Guarded}
use Rattle.cf_model_laws.proofs.PushesGuarded.{push_tombstone_keeps, push_turn_keeps}
use Rattle.cf_model_laws.proofs.RightItems.{no_way}
use Rattle.cf_model_convergence.specs.Telling.{AreWhole, IsAside, IsIdle, IsListening, IsToUpload, IsTold, IsTurned}
use Rattle.cf_model_convergence.proofs.LinkGuarded.{Many, entering_link, guarded_link, many_of}
use Rattle.cf_model_convergence.proofs.PushesTold.{told_then}
use Rattle.cf_model_convergence.proofs.TurnsTold.{ends_bind, tombstone_told, turn_told}
use Rattle.cf_model_convergence.proofs.SinceGuarded.{Follows, Since, since_entering, since_follows, since_guarded, since_start}

-- what comes later has no fewer messages, and its lines behind those of before
module _ (rest : Arrow State (Unit {0})) (keeps : (P : State → Type 0) → Guarded P → Entering P → Preserves P rest) where
  pub adds_later : (m : State) (u : Unit {0}) (t : State) → Invariant m → Ends (rest m) u t → Follows m t
  adds_later m u t h ends =
      since_follows m t (kept_at_end (Since m) (rest m) u t ((keeps (Since m) (since_guarded m) (since_entering m)).keeps m (since_start m h)) ends)

  pub numbers_left : (m : State) (u : Unit {0}) (t : State) → Invariant m → Ends (rest m) u t → no_number t ≡ false → no_number m ≡ false
  numbers_left m u t h ends left = by (no_number m) refl where
    more : Many (length m.link.messages) t.link
    more =
        (kept_at_end (λ x. Invariant x × Many (length m.link.messages) x.link) (rest m) u t
        ((keeps (λ x. Invariant x × Many (length m.link.messages) x.link) (guarded_link (Many (length m.link.messages)) (many_of (length m.link.messages)) Invariant sound_whole.closed) (entering_link (Many (length m.link.messages)) (many_of (length m.link.messages)) Invariant sound_whole.entering)).keeps m (h, same (length m.link.messages))) ends).1 where
          same : (n : ℕ) → n ≤ n
          same n = omega arith

    passes : (a b k : ℕ) → a ≤ b → nat_lt k (a + 1) ≡ true → nat_lt k (b + 1) ≡ true
    passes a b k h e = grind (arith, nat_tests, h, e)

    by : (b : Bool) → no_number m ≡ b → b ≡ false
    by true q = no_way (sym left ∙ passes (length m.link.messages) (length t.link.messages) most more q)
    by false q = refl

-- one after the other, each of which is reported or leaves the state
module _ (X : Type 0) (f : X → Arrow State (Unit {0})) (keeps : (P : State → Type 0) → Guarded P → Entering P → (x : X) → Preserves P (f x)) (H : State → Type 0) (C : State → X → Type 0)
    (step : (x : X) (s : State) (u : Unit {0}) (t : State) → Invariant s → IsFair s.link → IsListening s → H s → Ends (f x s) u t → no_number t ≡ false → IsTold s t ⊎ ((t ≡ s) × C s x)) where
  keeps_all : (xs : List X) (P : State → Type 0) → Guarded P → Entering P → Preserves P (each f xs)
  keeps_all xs P closed entering = keeps_each P f xs (keeps P closed entering)

  pub each_told : (xs : List X) (s : State) (u : Unit {0}) (t : State) → Invariant s → IsFair s.link → IsListening s → H s → Ends (each f xs s) u t → no_number t ≡ false → IsTold s t ⊎ ((t ≡ s) × All (C s) xs)
  each_told [] s u t h fair listening has ends left = inr (ends.1, tt)
  each_told (x ∷ xs) s u t h fair listening has ends left =
      let k = ends_bind (f x s) (λ _ m. each f xs m) u t ends in
      let hm : Invariant k.1 = kept_at_end Invariant (f x s) k.0 k.1 ((keeps Invariant sound_whole.closed sound_whole.entering x).keeps s h) k.2 in
      by k.1 hm k.3 (step x s k.0 k.1 h fair listening has k.2 (numbers_left (each f xs) (keeps_all xs) k.1 u t hm k.3 left)) (λ z. each_told xs s u t h fair listening has z left) where
        then_all : C s x → IsTold s t ⊎ ((t ≡ s) × All (C s) xs) → IsTold s t ⊎ ((t ≡ s) × All (C s) (x ∷ xs))
        then_all c (inl k) = inl k
        then_all c (inr k) = inr (k.0, (c, k.1))

        by : (m : State) → Invariant m → Ends (each f xs m) u t → IsTold s m ⊎ ((m ≡ s) × C s x) → (Ends (each f xs s) u t → IsTold s t ⊎ ((t ≡ s) × All (C s) xs)) → IsTold s t ⊎ ((t ≡ s) × All (C s) (x ∷ xs))
        by m hm e (inl told) more = inl (told_then s m t told (adds_later (each f xs) (keeps_all xs) m u t hm e))
        by m hm e (inr k) more = then_all k.1 (more (subst (λ (y : State). Ends (each f xs y) u t) k.0 e))

-- items

abbrev Rests : State → ItemId → Type 0
Rests s item = (i : Item) → item_of (items_now s) item ≡ Some i → IsAside s i

some : (a b : Item) → ◌≡◌ {A = Option Item} (Some a) (Some b) → a ≡ b
some a b z = cc

none : (j : Item) → ◌≡◌ {A = Option Item} None (Some j) → ⊥
none j z = cc

-- it lacks a byte and is not waited for, which no file does
lacking : {A : Type 0} {a b : Bool} → a ≡ false → b ≡ false → (a ≡ true) ⊎ (b ≡ true) → A
lacking p q (inl z) = no_way (sym p ∙ z)
lacking p q (inr z) = no_way (sym q ∙ z)

turn_step : (item : ItemId) (s : State) (u : Unit {0}) (t : State) → Invariant s → IsFair s.link → IsListening s → AreWhole s → Ends (push_turn item s) u t → no_number t ≡ false → IsTold s t ⊎ ((t ≡ s) × Rests s item)
turn_step item s u t h fair listening whole ends left = by (turn_told item s u t h fair listening ends left) where
  by : IsTold s t ⊎ IsTurned s item t → IsTold s t ⊎ ((t ≡ s) × Rests s item)
  by (inl k) = inl k
  by (inr (inl k)) = inr (k.1, λ i e. absurd (none i (sym k.0 ∙ e)))
  by (inr (inr k)) = spared k.2 where
    spared : ((k.0.directory ≡ false) × (is_all_here k.0 ≡ false) × IsToUpload k.0 × (is_hydrating k.0.id s ≡ false)) ⊎ ((t ≡ s) × IsAside s k.0) → IsTold s t ⊎ ((t ≡ s) × Rests s item)
    spared (inl z) = lacking z.1 z.3 ((all_found (λ i. i.directory ≡ false → IsToUpload i → (is_all_here i ≡ true) ⊎ (is_hydrating i.id s ≡ true)) (λ i. i.id.0 == item.0) (items_now s) k.0 k.1 whole).0 z.0 z.2)
    spared (inr z) = inr (z.0, λ i e. subst (IsAside s) (some k.0 i (sym k.1 ∙ e)) z.1)

pub tombstone_step : (x : Tombstone) (s : State) (u : Unit {0}) (t : State) → Invariant s → IsFair s.link → IsListening s → Unit {0} → Ends (push_tombstone x s) u t → no_number t ≡ false → IsTold s t ⊎ ((t ≡ s) × (is_tombstone_left_out s x ≡ true))
tombstone_step x s u t h fair listening has ends left = tombstone_told x s u t h fair listening ends left

-- what holds of a sorted list holds of the list

put_apart : {A : Type 0} (P : A → Type 0) (before : A → A → Bool) (x : A) (ys : List A) → All P (put_in before x ys) → P x × All P ys
put_apart P before x [] h = h
put_apart P before x (y ∷ ys) h = by (before y x) h (put_apart P before x ys) where
  by : (b : Bool) → All P (cond b (y ∷ put_in before x ys) (x ∷ y ∷ ys)) → (All P (put_in before x ys) → P x × All P ys) → P x × All P (y ∷ ys)
  by true k more = ((more k.1).0, (k.0, (more k.1).1))
  by false k more = k

pub sorted_apart : {A : Type 0} (P : A → Type 0) (before : A → A → Bool) (xs : List A) → All P (sorted before xs) → All P xs
sorted_apart P before [] h = h
sorted_apart P before (x ∷ xs) h = let k = put_apart P before x (sorted before xs) h in (k.0, sorted_apart P before xs k.1)

pub of_ids : (P : ItemId → Type 0) (xs : List Item) → All P (map (λ i. i.id) xs) → All (λ i. P i.id) xs
of_ids P [] h = tt
of_ids P (x ∷ xs) h = (h.0, of_ids P xs h.1)

pub pushes_told : (s : State) (u : Unit {0}) (t : State) → Invariant s → IsFair s.link → IsListening s → AreWhole s → Ends (push_all s) u t → no_number t ≡ false → IsTold s t ⊎ IsIdle s t
pushes_told s u t h fair listening whole ends left =
    let k = ends_bind (each push_tombstone ts s) (λ _ m. each push_turn ids m) u t ends in
    let hm : Invariant k.1 = kept_at_end Invariant (each push_tombstone ts s) k.0 k.1 ((keeps_each Invariant push_tombstone ts (push_tombstone_keeps Invariant sound_whole.closed sound_whole.entering.uploads)).keeps s h) k.2 in
    by k.1 hm k.3 (each_told Tombstone push_tombstone (λ P closed entering. push_tombstone_keeps P closed entering.uploads) (λ x. Unit {0}) (λ x y. is_tombstone_left_out x y ≡ true) tombstone_step ts s k.0 k.1 h fair listening tt k.2 (numbers_left (each push_turn ids) keeps_turns k.1 u t hm k.3 left)) where
      ts : List Tombstone
      ts = (book_now s).tombstones

      ids : List ItemId
      ids = map (λ i. i.id) (by_depth (items_now s) (items_now s))

      keeps_turns : (P : State → Type 0) → Guarded P → Entering P → Preserves P (each push_turn ids)
      keeps_turns P closed entering = keeps_each P push_turn ids (push_turn_keeps P closed entering.uploads)

      idle : All (λ x. is_tombstone_left_out s x ≡ true) ts → IsTold s t ⊎ ((t ≡ s) × All (Rests s) ids) → IsTold s t ⊎ IsIdle s t
      idle c (inl k) = inl k
      idle c (inr k) = inr (record { same = k.0; tombstones = c; items = sorted_apart (λ i. Rests s i.id) (λ i j. nat_lt (depth_at (items_now s) i.id) (depth_at (items_now s) j.id)) (items_now s) (of_ids (Rests s) (by_depth (items_now s) (items_now s)) k.1) })

      by : (m : State) → Invariant m → Ends (each push_turn ids m) u t → IsTold s m ⊎ ((m ≡ s) × All (λ x. is_tombstone_left_out s x ≡ true) ts) → IsTold s t ⊎ IsIdle s t
      by m hm e (inl told) = inl (told_then s m t told (adds_later (each push_turn ids) keeps_turns m u t hm e))
      by m hm e (inr k) = idle k.1 (each_told ItemId push_turn (λ P closed entering. push_turn_keeps P closed entering.uploads) AreWhole Rests turn_step ids s u t h fair listening whole (subst (λ (y : State). Ends (each push_turn ids y) u t) k.0 e) left)
