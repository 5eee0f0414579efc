-- The entries at the places of the order are those of the definitions, in their order.
use Rattle.std.proofs.Common.{◌≡◌, ℕ, ◌<◌, ◌≤◌, ◌+◌, suc, zero, Bool, true, false, not, cond, List, [], ◌∷◌, ◌++◌, length, drop, get_or, refl, sym, ◌∙◌, ap, subst, arith}
use Rattle.std.proofs.lemmas.List.{drop_all}
use Rattle.std.specs.Prelude.{Option, Some, None, slice_get, map, filter, nat_lt}
use Rattle.cf_base.specs.declared.ids.ItemId.{ItemId}
use Rattle.cf_base.specs.declared.messages.Entry.{Entry}
use Rattle.cf_engine_feed.specs.Turns.{before, entries_at}
use Rattle.cf_engine_feed_plan.specs.Orders.{AreKnown, in_turn, placed, places}
use Rattle.cf_engine_feed_plan.specs.Premises.{id_of}
use Rattle.cf_engine_feed_plan.proofs.Ordered.{in_order, nothing_more}
use Rattle.cf_filter_steps.specs.Good.{Every}
use Rattle.cf_filter_steps.proofs.Laws.{drop_at}
use Rattle.cf_model.specs.Feeds as feeds
use Rattle.cf_model.specs.Feeds.{depth_of_entry}
use Rattle.cf_model.specs.Identities.{by_target}
use Rattle.cf_model.specs.Items.{Item}
use Rattle.cf_model.specs.Words.{part, put_in, sorted}

-- what holds of each holds of each of fewer, or in another order

every_filter : {A : Type 0} (P : A → Type 0) (f : A → Bool) (xs : List A) → Every P xs → Every P (filter f xs)
every_filter P f [] h = h
every_filter P f (x ∷ xs) h = two (f x) (every_filter P f xs h.1) where
  two : (b : Bool) → Every P (filter f xs) → Every P (cond b (x ∷ filter f xs) (filter f xs))
  two true r = (h.0, r)
  two false r = r

every_put : {A : Type 0} (P : A → Type 0) (comes : A → A → Bool) (x : A) (ys : List A) → P x → Every P ys → Every P (put_in comes x ys)
every_put P comes x [] p h = (p, h)
every_put P comes x (y ∷ ys) p h = two (comes y x) (every_put P comes x ys p h.1) where
  two : (b : Bool) → Every P (put_in comes x ys) → Every P (cond b (y ∷ put_in comes x ys) (x ∷ y ∷ ys))
  two true r = (h.0, r)
  two false r = (p, h)

every_sorted : {A : Type 0} (P : A → Type 0) (comes : A → A → Bool) (xs : List A) → Every P xs → Every P (sorted comes xs)
every_sorted P comes [] h = h
every_sorted P comes (x ∷ xs) h = every_put P comes x (sorted comes xs) h.0 (every_sorted P comes xs h.1)

every_both : {A : Type 0} (P : A → Type 0) (xs ys : List A) → Every P xs → Every P ys → Every P (xs ++ ys)
every_both P [] ys h k = k
every_both P (x ∷ xs) ys h k = (h.0, every_both P xs ys h.1 k)

-- each entry with its place is the entry there

abbrev IsThere : List Entry → ℕ × Entry → Type 0
IsThere es p = slice_get es p.0 ≡ Some p.1

grouped : (pre : List Entry) (e : Entry) (es : List Entry) → (pre ++ e ∷ []) ++ es ≡ pre ++ (e ∷ es)
grouped [] e es = refl
grouped (x ∷ pre) e es = ap (λ (l : List Entry). x ∷ l) (grouped pre e es)

next : (pre : List Entry) (e : Entry) → length (pre ++ e ∷ []) ≡ length pre + 1
next [] e = refl
next (x ∷ pre) e = let h = next pre e in omega (arith, h)

behind : (pre : List Entry) (e : Entry) (es : List Entry) → slice_get (pre ++ (e ∷ es)) (length pre) ≡ Some e
behind [] e es = refl
behind (x ∷ pre) e es = behind pre e es

all_there : (pre es : List Entry) (at : ℕ) → at ≡ length pre → Every (IsThere (pre ++ es)) (placed at es)
all_there pre [] at is = record {}
all_there pre (e ∷ es) at is = (
  ap (λ (n : ℕ). slice_get (pre ++ (e ∷ es)) n) is ∙ behind pre e es,
  subst (λ (l : List Entry). Every (IsThere l) (placed (at + 1) es)) (grouped pre e es) (all_there (pre ++ e ∷ []) es (at + 1) (let n = next pre e in omega (arith, is, n))),
)

entries_of : (es : List Entry) (ps : List (ℕ × Entry)) → Every (IsThere es) ps → entries_at es (map (λ (p : ℕ × Entry). p.0) ps) ≡ map (λ (p : ℕ × Entry). p.1) ps
entries_of es [] h = refl
entries_of es (p ∷ ps) h = ap (λ (o : Option Entry). before o (entries_at es (map (λ (q : ℕ × Entry). q.0) ps))) h.0 ∙ ap (λ (l : List Entry). p.1 ∷ l) (entries_of es ps h.1)

pub places_are : (items : List Item) (es : List Entry) → entries_at es (places items es) ≡ feeds.in_turn items es
places_are items es =
    let all = all_there [] es 0 refl in
    entries_of es (in_turn items (placed 0 es))
    (every_both (IsThere es) (sorted (λ p q. nat_lt (depth_of_entry items q.1) (depth_of_entry items p.1)) (filter (λ (p : ℕ × Entry). not p.1.live) (placed 0 es))) (filter (λ (p : ℕ × Entry). p.1.live) (placed 0 es))
    (every_sorted (IsThere es) (λ p q. nat_lt (depth_of_entry items q.1) (depth_of_entry items p.1)) (filter (λ (p : ℕ × Entry). not p.1.live) (placed 0 es)) (every_filter (IsThere es) (λ (p : ℕ × Entry). not p.1.live) (placed 0 es) all))
    (every_filter (IsThere es) (λ (p : ℕ × Entry). p.1.live) (placed 0 es) all))
    ∙ in_order items es

-- the items that the entries' are

abbrev pub known_of : List Item → Entry → Option ItemId
known_of items e = id_of (by_target items e.rid)

joined : (xs : List (Option ItemId)) (x : Option ItemId) (ys : List (Option ItemId)) → (xs ++ x ∷ []) ++ ys ≡ xs ++ (x ∷ ys)
joined [] x ys = refl
joined (y ∷ xs) x ys = ap (λ (l : List (Option ItemId)). y ∷ l) (joined xs x ys)

pub one_known : (items : List Item) (es : List Entry) (i : ℕ) (e : Entry) (id : Option ItemId) (old new : List (Option ItemId)) → i < length es → e ≡ get_or es i e → id ≡ known_of items e → new ≡ old ++ id ∷ []
    → old ++ map (known_of items) (drop i es) ≡ map (known_of items) es → new ++ map (known_of items) (drop (i + 1) es) ≡ map (known_of items) es
one_known items es i e id old new small at is grows inv =
    ap (λ (l : List (Option ItemId)). l ++ map (known_of items) (drop (i + 1) es)) (grows ∙ ap (λ (o : Option ItemId). old ++ o ∷ []) is)
    ∙ joined old (known_of items e) (map (known_of items) (drop (i + 1) es))
    ∙ ap (λ (l : List Entry). old ++ map (known_of items) l) (sym (drop_at es i e small at))
    ∙ inv

mapped : (items : List Item) (es : List Entry) (k : ℕ) (d : Entry) → k < length es → part (λ o. o) None (slice_get (map (known_of items) es) k) ≡ known_of items (get_or es k d)
mapped items [] k d h = absurd (omega (arith, h))
mapped items (e ∷ es) zero d h = refl
mapped items (e ∷ es) (suc k) d h = mapped items es k d (omega (arith, h))

pub all_known : (items : List Item) (es : List Entry) (i : ℕ) (known : List (Option ItemId)) → length es ≤ i → known ++ map (known_of items) (drop i es) ≡ map (known_of items) es → AreKnown items es known
all_known items es i known le inv = λ k d h.
    ap (λ (l : List (Option ItemId)). part (λ o. o) None (slice_get l k)) (nothing_more known ∙ ap (λ (l : List Entry). known ++ map (known_of items) l) (sym (drop_all i es le)) ∙ inv) ∙ mapped items es k d h
