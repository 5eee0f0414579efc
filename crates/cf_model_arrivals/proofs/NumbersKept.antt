-- Numbers are of one item each, over what happens to a book and to items.
use Rattle.std.proofs.Common.{◌≡◌, ◌⊎◌, ℕ, Bool, true, false, List, [], ◌∷◌, refl, sym, ◌∙◌, ap, subst, inl, inr}
use Rattle.std.specs.Prelude.{filter}
use Rattle.std.proofs.lemmas.Bool.{eqb-true}
use Rattle.cf_base.specs.declared.ids.ItemId.{ItemId}
use Rattle.cf_base.specs.declared.ids.Rid.{Rid}
use Rattle.cf_base.specs.declared.ids.Usn.{Usn}
use Rattle.cf_model.specs.Books.{Book, QueueEntry, RemoveItem, Tombstone, with_entry, with_tombstone}
use Rattle.cf_model.specs.Identities.{target_of}
use Rattle.cf_model.specs.Items.{Item}
use Rattle.cf_model.specs.Numbers.{above}
use Rattle.cf_model.specs.PushReplies.{is_new_entry}
use Rattle.cf_model.specs.Soundness.{Each}
use Rattle.cf_model.specs.Store.{Held}
use Rattle.cf_model.specs.Words.{put_in}
use Rattle.cf_model_laws.specs.Invariant.{All, Among, AreApart, IsOfKind}
use Rattle.cf_model_laws.proofs.Gathered.{all_in, all_passed, all_put_in, all_weaker}
use Rattle.cf_model_laws.proofs.RightItems.{above_self, above_then, no_way}
use Rattle.cf_model_convergence.proofs.FeedsTold.{all_among}
use Rattle.cf_model_arrivals.specs.Buried.{AreBuriedRight, IsOfKindBuried}
use Rattle.cf_model_arrivals.specs.Numbered.{AreFresh, AreNumbered, Claims}
use Rattle.cf_model_arrivals.proofs.NumberItems.{Comes, among_of_append}

-- each of the first is one of the second
abbrev pub Part : {A : Type 0} → List A → List A → Type 0
Part {A} xs ys = (x : A) → Among x xs → Among x ys

pub part_same : {A : Type 0} (xs ys : List A) → xs ≡ ys → Part xs ys
part_same {A} xs ys e x m = subst (λ (zs : List A). Among x zs) e m

pub passed : {A : Type 0} (f : A → Bool) (x : A) (xs : List A) → Among x (filter f xs) → f x ≡ true
passed f x xs among = all_among (λ y. f y ≡ true) (filter f xs) x among (all_passed (λ y. Among y xs) (λ y. f y ≡ true) f (λ y q _. q) xs (all_in xs))

put_is : (f : Tombstone → Tombstone → Bool) (t u : Tombstone) (ts : List Tombstone) → Among u (put_in f t ts) → (t ≡ u) ⊎ Among u ts
put_is f t u ts among = all_among (λ v. (t ≡ v) ⊎ Among v ts) (put_in f t ts) u among (all_put_in (λ v. (t ≡ v) ⊎ Among v ts) f t ts (inl refl) (all_weaker (λ v. Among v ts) (λ v. (t ≡ v) ⊎ Among v ts) (λ v k. inr k) ts (all_in ts)))

-- two uploads about one item are one
pub apart_one : (es : List QueueEntry) (e f : QueueEntry) → AreApart es → Among e es → Among f es → f.item.0 ≡ e.item.0 → (f ≡ e) ⊎ (e.item.0 ≡ 0)
apart_one [] e f h m k same = absurd m
apart_one (d ∷ ds) e f h (inl a) (inl b) same = inl (sym b ∙ a)
apart_one (d ∷ ds) e f h (inl a) (inr k) same = inr (subst (λ (g : QueueEntry). g.item.0 ≡ 0) a (all_among (λ g. g.item.0 ≡ d.item.0 → d.item.0 ≡ 0) ds f k h.0 (same ∙ ap (λ (g : QueueEntry). g.item.0) (sym a))))
apart_one (d ∷ ds) e f h (inr m) (inl b) same =
    inr (sym same ∙ subst (λ (g : QueueEntry). g.item.0 ≡ 0) b (all_among (λ g. g.item.0 ≡ d.item.0 → d.item.0 ≡ 0) ds e m h.0 (sym same ∙ ap (λ (g : QueueEntry). g.item.0) (sym b))))
apart_one (d ∷ ds) e f h (inr m) (inr k) same = apart_one ds e f h.1 m k same

-- an item here, and one of the remote

abbrev pub of_item : ℕ → Bool × ℕ
of_item id = (false, id)

abbrev pub of_remote : ℕ → Bool × ℕ
of_remote rid = (true, rid)

-- what is claimed by parts is claimed
pub claims_part : (items is : List Item) (b d : Book) → Part d.tombstones b.tombstones → Part d.entries b.entries → ((i : Item) → Among i is → (j : Item) × Among j items × (j.id.0 ≡ i.id.0) × (j.number ≡ i.number)) → (n : Usn) (o : Bool × ℕ) → Claims is d n o → Claims items b n o
claims_part items is b d ts es k n o (inl z) = inl (z.0, ts z.0 z.1, z.2, z.3)
claims_part items is b d ts es k n o (inr (inl z)) = inr (inl (z.0, es z.0 z.1, z.2, z.3, z.4))
claims_part items is b d ts es k n o (inr (inr (inl z))) = inr (inr (inl (z.0, es z.0 z.1, z.2, z.3, z.4)))
claims_part items is b d ts es k n o (inr (inr (inr (i, m, q, e)))) =
    let y = k i m in inr (inr (inr (y.0, y.1, y.3 ∙ q, e ∙ ap (λ (a : ℕ). of_item a) (sym y.2))))

-- a book with fewer tombstones and uploads
pub numbered_book : (next : Usn) (r : Held) (items : List Item) (b d : Book) → Part d.tombstones b.tombstones → Part d.entries b.entries → AreNumbered next r items b → AreNumbered next r items d
numbered_book next r items b d ts es h = record {
  one = λ n o p x y. h.one n o p (less n o x) (less n p y);
  early = λ n o x. h.early n o (less n o x);
  alone = λ t u m k. h.alone t u (ts t m) (ts u k);
  named = λ e m. h.named e (es e m);
  fresh = λ e m. h.fresh e (es e m);
  kinds = λ t m. h.kinds t (ts t m);
}
  where
    less : (n : Usn) (o : Bool × ℕ) → Claims items d n o → Claims items b n o
    less n o x = claims_part items items b d ts es (λ i m. (i, m, refl, refl)) n o x

pub numbered_later : (next later : Usn) (r : Held) (items : List Item) (b : Book) → above later next ≡ true → AreNumbered next r items b → AreNumbered later r items b
numbered_later next later r items b up h = record {
  one = h.one;
  early = λ n o x. above_then later next n up (h.early n o x);
  alone = h.alone;
  named = h.named;
  fresh = h.fresh;
  kinds = h.kinds;
}

pub numbered_grown : (next : Usn) (old new : Held) (items : List Item) (b : Book) → ((rid : Rid) (directory : Bool) → IsOfKind old rid directory → IsOfKind new rid directory) → AreNumbered next old items b → AreNumbered next new items b
numbered_grown next old new items b grows h = record {
  one = h.one;
  early = h.early;
  alone = h.alone;
  named = h.named;
  fresh = h.fresh;
  kinds = λ t m. by t (h.kinds t m);
}
  where
    by : (t : Tombstone) → IsOfKindBuried old t → IsOfKindBuried new t
    by t (inl z) = inl z
    by t (inr (x, at, k)) = let y = grows t.rid x.directory (x, at, refl) in inr (y.0, y.1, λ d. k (sym y.2 ∙ d))

-- it was claimed, or the number is this one
abbrev Was : List Item → Book → Usn → Bool × ℕ → Usn → Bool × ℕ → Type 0
Was items b m q n o = Claims items b n o ⊎ ((n ≡ m) × (o ≡ q))

-- items of which each comes of one, or has the new number
pub numbered_items : (next later : Usn) (r : Held) (items is : List Item) (b : Book) → above later next ≡ true → (id : ℕ) → ((i : Item) → Among i is → Comes id next items i) → ((e : QueueEntry) → Among e b.entries → is_new_entry e ≡ true → AreFresh items e.item.0 → AreFresh is e.item.0)
    → AreNumbered next r items b → AreNumbered later r is b
numbered_items next later r items is b up id comes fresh h = record {
  one = λ n o p x y. both n o p (was n o x) (was n p y);
  early = λ n o x. given n o (was n o x);
  alone = h.alone;
  named = h.named;
  fresh = λ e m new. fresh e m new (h.fresh e m new);
  kinds = h.kinds;
}
  where
    was_item : (n : Usn) (o : Bool × ℕ) (i : Item) → i.number ≡ n → o ≡ (false, i.id.0) → Comes id next items i → Was items b next (false, id) n o
    was_item n o i q e (inl (j, m, same, number)) = inl (inr (inr (inr (j, m, number ∙ q, e ∙ ap (λ (a : ℕ). of_item a) (sym same)))))
    was_item n o i q e (inr (number, same)) = inr (sym q ∙ number, e ∙ ap (λ (a : ℕ). of_item a) same)

    was : (n : Usn) (o : Bool × ℕ) → Claims is b n o → Was items b next (false, id) n o
    was n o (inl z) = inl (inl z)
    was n o (inr (inl z)) = inl (inr (inl z))
    was n o (inr (inr (inl z))) = inl (inr (inr (inl z)))
    was n o (inr (inr (inr (i, m, q, e)))) = was_item n o i q e (comes i m)

    never : {A : Type 0} (n : Usn) (o : Bool × ℕ) → Claims items b n o → n ≡ next → A
    never n o x e = no_way (sym (above_self next) ∙ subst (λ (m : Usn). above next m ≡ true) e (h.early n o x))

    both : (n : Usn) (o p : Bool × ℕ) → Was items b next (false, id) n o → Was items b next (false, id) n p → o ≡ p
    both n o p (inl x) (inl y) = h.one n o p x y
    both n o p (inl x) (inr y) = never n o x y.0
    both n o p (inr x) (inl y) = never n p y x.0
    both n o p (inr x) (inr y) = x.1 ∙ sym y.1

    given : (n : Usn) (o : Bool × ℕ) → Was items b next (false, id) n o → above later n ≡ true
    given n o (inl x) = above_then later next n up (h.early n o x)
    given n o (inr x) = subst (λ (m : Usn). above later m ≡ true) (sym x.0) up

-- a tombstone under a number that none has
pub numbered_buried : (next : Usn) (r : Held) (items : List Item) (b : Book) (t : Tombstone) → ((o : Bool × ℕ) → Claims items b t.number o → ⊥) → above next t.number ≡ true → IsOfKindBuried r t → AreNumbered next r items b → AreNumbered next r items (with_tombstone t b)
numbered_buried next r items b t none low kind h = record {
  one = λ n o p x y. both n o p (was n o x) (was n p y);
  early = λ n o x. given n o (was n o x);
  alone = λ u v m k. same u v (of_put u m) (of_put v k);
  named = h.named;
  fresh = h.fresh;
  kinds = λ u m. of_kind u (of_put u m);
}
  where
    of_put : (u : Tombstone) → Among u (with_tombstone t b).tombstones → (t ≡ u) ⊎ Among u b.tombstones
    of_put u m = put_is (λ x y. above y.number x.number) t u b.tombstones m

    was_put : (n : Usn) (o : Bool × ℕ) (u : Tombstone) → u.number ≡ n → o ≡ (true, u.rid.0) → (t ≡ u) ⊎ Among u b.tombstones → Was items b t.number (true, t.rid.0) n o
    was_put n o u q e (inl z) = inr (sym q ∙ ap (λ (v : Tombstone). v.number) (sym z), e ∙ ap (λ (v : Tombstone). of_remote v.rid.0) (sym z))
    was_put n o u q e (inr m) = inl (inl (u, m, q, e))

    was : (n : Usn) (o : Bool × ℕ) → Claims items (with_tombstone t b) n o → Was items b t.number (true, t.rid.0) n o
    was n o (inl (u, m, q, e)) = was_put n o u q e (of_put u m)
    was n o (inr (inl z)) = inl (inr (inl z))
    was n o (inr (inr (inl z))) = inl (inr (inr (inl z)))
    was n o (inr (inr (inr z))) = inl (inr (inr (inr z)))

    never : {A : Type 0} (n : Usn) (o : Bool × ℕ) → Claims items b n o → n ≡ t.number → A
    never n o x e = absurd (none o (subst (λ (m : Usn). Claims items b m o) e x))

    both : (n : Usn) (o p : Bool × ℕ) → Was items b t.number (true, t.rid.0) n o → Was items b t.number (true, t.rid.0) n p → o ≡ p
    both n o p (inl x) (inl y) = h.one n o p x y
    both n o p (inl x) (inr y) = never n o x y.0
    both n o p (inr x) (inl y) = never n p y x.0
    both n o p (inr x) (inr y) = x.1 ∙ sym y.1

    given : (n : Usn) (o : Bool × ℕ) → Was items b t.number (true, t.rid.0) n o → above next n ≡ true
    given n o (inl x) = h.early n o x
    given n o (inr x) = subst (λ (m : Usn). above next m ≡ true) (sym x.0) low

    same : (u v : Tombstone) → (t ≡ u) ⊎ Among u b.tombstones → (t ≡ v) ⊎ Among v b.tombstones → u.number ≡ v.number → u ≡ v
    same u v (inl x) (inl y) e = sym x ∙ y
    same u v (inl x) (inr k) e = absurd (none (true, v.rid.0) (inl (v, k, sym e ∙ ap (λ (w : Tombstone). w.number) (sym x), refl)))
    same u v (inr m) (inl y) e = absurd (none (true, u.rid.0) (inl (u, m, e ∙ ap (λ (w : Tombstone). w.number) (sym y), refl)))
    same u v (inr m) (inr k) e = h.alone u v m k e

    of_kind : (u : Tombstone) → (t ≡ u) ⊎ Among u b.tombstones → IsOfKindBuried r u
    of_kind u (inl e) = subst (IsOfKindBuried r) e kind
    of_kind u (inr m) = h.kinds u m

-- an upload whose number is claimed for the same
pub numbered_entered : (next : Usn) (r : Held) (items : List Item) (b : Book) (e : QueueEntry) → (e.action ≡ RemoveItem → Claims items b e.number (true, e.rid.0)) → (is_new_entry e ≡ true → Claims items b e.number (false, e.item.0))
    → (is_new_entry e ≡ true → (e.item.0 ≡ 0 → ⊥) × AreFresh items e.item.0) → AreNumbered next r items b → AreNumbered next r items (with_entry e b)
numbered_entered next r items b e gone new free h = record {
  one = λ n o p x y. h.one n o p (was n o x) (was n p y);
  early = λ n o x. h.early n o (was n o x);
  alone = h.alone;
  named = λ d m q. some d q (among_of_append d b.entries (e ∷ []) m);
  fresh = λ d m q. aims d q (among_of_append d b.entries (e ∷ []) m);
  kinds = h.kinds;
}
  where
    removal : (n : Usn) (o : Bool × ℕ) (d : QueueEntry) → d.action ≡ RemoveItem → d.number ≡ n → o ≡ (true, d.rid.0) → Among d b.entries ⊎ ((e ≡ d) ⊎ ⊥) → Claims items b n o
    removal n o d a q z (inl m) = inr (inl (d, m, a, q, z))
    removal n o d a q z (inr (inl s)) = subst (λ (m : Usn). Claims items b m o) (ap (λ (g : QueueEntry). g.number) s ∙ q) (subst (Claims items b e.number) (ap (λ (g : QueueEntry). of_remote g.rid.0) s ∙ sym z) (gone (ap (λ (g : QueueEntry). g.action) s ∙ a)))
    removal n o d a q z (inr (inr k)) = absurd k

    made : (n : Usn) (o : Bool × ℕ) (d : QueueEntry) → is_new_entry d ≡ true → d.number ≡ n → o ≡ (false, d.item.0) → Among d b.entries ⊎ ((e ≡ d) ⊎ ⊥) → Claims items b n o
    made n o d a q z (inl m) = inr (inr (inl (d, m, a, q, z)))
    made n o d a q z (inr (inl s)) = subst (λ (m : Usn). Claims items b m o) (ap (λ (g : QueueEntry). g.number) s ∙ q) (subst (Claims items b e.number) (ap (λ (g : QueueEntry). of_item g.item.0) s ∙ sym z) (new (ap (λ (g : QueueEntry). is_new_entry g) s ∙ a)))
    made n o d a q z (inr (inr k)) = absurd k

    was : (n : Usn) (o : Bool × ℕ) → Claims items (with_entry e b) n o → Claims items b n o
    was n o (inl z) = inl z
    was n o (inr (inl (d, m, a, q, z))) = removal n o d a q z (among_of_append d b.entries (e ∷ []) m)
    was n o (inr (inr (inl (d, m, a, q, z)))) = made n o d a q z (among_of_append d b.entries (e ∷ []) m)
    was n o (inr (inr (inr z))) = inr (inr (inr z))

    some : (d : QueueEntry) → is_new_entry d ≡ true → Among d b.entries ⊎ ((e ≡ d) ⊎ ⊥) → d.item.0 ≡ 0 → ⊥
    some d q (inl m) = h.named d m q
    some d q (inr (inl s)) = subst (λ (g : QueueEntry). g.item.0 ≡ 0 → ⊥) s (free (ap (λ (g : QueueEntry). is_new_entry g) s ∙ q)).0
    some d q (inr (inr k)) = absurd k

    aims : (d : QueueEntry) → is_new_entry d ≡ true → Among d b.entries ⊎ ((e ≡ d) ⊎ ⊥) → AreFresh items d.item.0
    aims d q (inl m) = h.fresh d m q
    aims d q (inr (inl s)) = subst (λ (g : QueueEntry). AreFresh items g.item.0) s (free (ap (λ (g : QueueEntry). is_new_entry g) s ∙ q)).1
    aims d q (inr (inr k)) = absurd k

-- what a feed needs of them
pub numbered_right : (next : Usn) (r : Held) (items : List Item) (b : Book) → AreNumbered next r items b → AreBuriedRight r items b
numbered_right next r items b h = record {
  alone = every b.tombstones (λ t. All (λ u. t.number ≡ u.number → t ≡ u) b.tombstones) (λ t m. every b.tombstones (λ u. t.number ≡ u.number → t ≡ u) (λ u k. h.alone t u m k));
  removals = every b.entries (λ e. e.action ≡ RemoveItem → All (λ t. t.number ≡ e.number → t.rid.0 ≡ e.rid.0) b.tombstones)
      (λ e m a. every b.tombstones (λ t. t.number ≡ e.number → t.rid.0 ≡ e.rid.0) (λ t k q. ap (λ (o : Bool × ℕ). o.1) (h.one e.number (true, t.rid.0) (true, e.rid.0) (inl (t, k, q, refl)) (inr (inl (e, m, a, refl, refl))))));
  fresh = every b.entries (λ e. is_new_entry e ≡ true → Each e.item (λ i. (target_of i).0 ≡ 0) items) (λ e m new. each_of items e.item (h.fresh e m new));
  kinds = every b.tombstones (IsOfKindBuried r) h.kinds;
}
  where
    every : {A : Type 0} (xs : List A) (Q : A → Type 0) → ((x : A) → Among x xs → Q x) → All Q xs
    every xs Q k = all_weaker (λ x. Among x xs) Q k xs (all_in xs)

    each_of : (is : List Item) (id : ItemId) → AreFresh is id.0 → Each id (λ i. (target_of i).0 ≡ 0) is
    each_of [] id f = tt
    each_of (i ∷ is) id f = ((λ q. f i (inl refl) (eqb-true i.id.0 id.0 q)), each_of is id (λ j m e. f j (inr m) e))
