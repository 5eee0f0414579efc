-- Entries with their places come in the order of the entries.
use Rattle.std.proofs.Common.{◌≡◌, ℕ, ◌+◌, ◌-◌, ◌≤◌, ◌<◌, Bool, true, false, not, cond, List, [], ◌∷◌, length, get_or, drop, refl, sym, ap, subst, ◌∙◌, arith, Some, None, Option}
use Rattle.std.specs.Prelude.{filter, map, nat_lt, ◌++◌}
use Rattle.std.proofs.lemmas.Bool.Decides.{nat_tests}
use Rattle.std.proofs.lemmas.List.{drop_more}
use Rattle.cf_base.specs.declared.ids.ItemId.{ItemId}
use Rattle.cf_base.specs.declared.messages.Entry.{Entry}
use Rattle.cf_model.specs.Feeds as feeds
use Rattle.cf_model.specs.Feeds.{depth_of_entry}
use Rattle.cf_model.specs.Identities.{by_target}
use Rattle.cf_model.specs.Items.{Item, item_of}
use Rattle.cf_model.specs.LookUp.{depth_at, line_up}
use Rattle.cf_model.specs.Words.{part, put_in, sorted}
use Rattle.cf_engine_feed_plan.specs.Orders.{dead_from, dead_of, in_turn, live_from, live_of, placed, places}
use Rattle.cf_engine_feed_plan.specs.Premises.{id_of}
use Rattle.cf_engine_feed_plan.specs.declared.orders.Dead.{Dead}
use Rattle.cf_tree.proofs.Depths.{few_names, line_depth, line_none, line_under}
use Rattle.cf_tree.proofs.Walks.{own_id}
use Rattle.cf_tree.specs.Trees.{IsTree}

pub filter_map : {A B : Type 0} (f : A → B) (p : B → Bool) (xs : List A) → filter p (map f xs) ≡ map f (filter (λ x. p (f x)) xs)
filter_map f p [] = refl
filter_map f p (x ∷ xs) = two (p (f x)) (filter_map f p xs) where
  two : (b : Bool) → filter p (map f xs) ≡ map f (filter (λ y. p (f y)) xs) → cond b (f x ∷ filter p (map f xs)) (filter p (map f xs)) ≡ map f (cond b (x ∷ filter (λ y. p (f y)) xs) (filter (λ y. p (f y)) xs))
  two true h = λ k. f x ∷ h k
  two false h = h

put_map : {A B : Type 0} (f : A → B) (before : B → B → Bool) (x : A) (ys : List A) → put_in before (f x) (map f ys) ≡ map f (put_in (λ a b. before (f a) (f b)) x ys)
put_map f before x [] = refl
put_map f before x (y ∷ ys) = two (before (f y) (f x)) (put_map f before x ys) where
  two : (b : Bool) → put_in before (f x) (map f ys) ≡ map f (put_in (λ a b. before (f a) (f b)) x ys) → cond b (f y ∷ put_in before (f x) (map f ys)) (f x ∷ f y ∷ map f ys) ≡ map f (cond b (y ∷ put_in (λ a b. before (f a) (f b)) x ys) (x ∷ y ∷ ys))
  two true h = λ k. f y ∷ h k
  two false h = refl

pub sorted_map : {A B : Type 0} (f : A → B) (before : B → B → Bool) (xs : List A) → sorted before (map f xs) ≡ map f (sorted (λ a b. before (f a) (f b)) xs)
sorted_map f before [] = refl
sorted_map f before (x ∷ xs) = ap (put_in before (f x)) (sorted_map f before xs) ∙ put_map f before x (sorted (λ a b. before (f a) (f b)) xs)

map_append : {A B : Type 0} (f : A → B) (xs ys : List A) → map f (xs ++ ys) ≡ map f xs ++ map f ys
map_append f [] ys = refl
map_append f (x ∷ xs) ys = λ k. f x ∷ map_append f xs ys k

entries_placed : (at : ℕ) (es : List Entry) → map (λ (p : ℕ × Entry). p.1) (placed at es) ≡ es
entries_placed at [] = refl
entries_placed at (e ∷ es) = λ k. e ∷ entries_placed (at + 1) es k

-- the entries at the places are those of the definitions, in their order
pub in_order : (items : List Item) (es : List Entry) → map (λ (p : ℕ × Entry). p.1) (in_turn items (placed 0 es)) ≡ feeds.in_turn items es
in_order items es =
    map_append (λ (p : ℕ × Entry). p.1) (sorted (λ p q. nat_lt (depth_of_entry items q.1) (depth_of_entry items p.1)) (filter (λ (p : ℕ × Entry). not p.1.live) (placed 0 es))) (filter (λ (p : ℕ × Entry). p.1.live) (placed 0 es))
    ∙ (λ k. dead k ++ alive k) where
      dead : map (λ (p : ℕ × Entry). p.1) (sorted (λ p q. nat_lt (depth_of_entry items q.1) (depth_of_entry items p.1)) (filter (λ (p : ℕ × Entry). not p.1.live) (placed 0 es))) ≡ sorted (λ d e. nat_lt (depth_of_entry items e) (depth_of_entry items d)) (filter (λ e. not e.live) es)
      dead = sym (sorted_map (λ (p : ℕ × Entry). p.1) (λ d e. nat_lt (depth_of_entry items e) (depth_of_entry items d)) (filter (λ (p : ℕ × Entry). not p.1.live) (placed 0 es)))
          ∙ ap (sorted (λ d e. nat_lt (depth_of_entry items e) (depth_of_entry items d))) (sym (filter_map (λ (p : ℕ × Entry). p.1) (λ e. not e.live) (placed 0 es)) ∙ ap (filter (λ e. not e.live)) (entries_placed 0 es))

      alive : map (λ (p : ℕ × Entry). p.1) (filter (λ (p : ℕ × Entry). p.1.live) (placed 0 es)) ≡ filter (λ e. e.live) es
      alive = sym (filter_map (λ (p : ℕ × Entry). p.1) (λ e. e.live) (placed 0 es)) ∙ ap (filter (λ e. e.live)) (entries_placed 0 es)

-- what the code does comes to the places

grouped : {A : Type 0} (xs ys zs : List A) → (xs ++ ys) ++ zs ≡ xs ++ (ys ++ zs)
grouped [] ys zs = refl
grouped (x ∷ xs) ys zs = λ k. x ∷ grouped xs ys zs k

pub nothing_more : {A : Type 0} (xs : List A) → xs ≡ xs ++ []
nothing_more [] = refl
nothing_more (x ∷ xs) = λ k. x ∷ nothing_more xs k

abbrev ranked : List Item → ℕ × Entry → Dead
ranked items p = record { rank = 32 - depth_of_entry items p.1; place = p.0 }

dead_is : (items : List Item) (at : ℕ) (es : List Entry) → dead_from items at es ≡ map (ranked items) (filter (λ (p : ℕ × Entry). not p.1.live) (placed at es))
dead_is items at [] = refl
dead_is items at (e ∷ es) = two e.live (dead_is items (at + 1) es) where
  two : (b : Bool) → dead_from items (at + 1) es ≡ map (ranked items) (filter (λ (p : ℕ × Entry). not p.1.live) (placed (at + 1) es)) →
      cond b [] (ranked items (at, e) ∷ []) ++ dead_from items (at + 1) es ≡ map (ranked items) (cond (not b) ((at, e) ∷ filter (λ (p : ℕ × Entry). not p.1.live) (placed (at + 1) es)) (filter (λ (p : ℕ × Entry). not p.1.live) (placed (at + 1) es)))
  two true h = h
  two false h = λ k. ranked items (at, e) ∷ h k

live_is : (at : ℕ) (es : List Entry) → live_from at es ≡ map (λ (p : ℕ × Entry). p.0) (filter (λ (p : ℕ × Entry). p.1.live) (placed at es))
live_is at [] = refl
live_is at (e ∷ es) = two e.live (live_is (at + 1) es) where
  two : (b : Bool) → live_from (at + 1) es ≡ map (λ (p : ℕ × Entry). p.0) (filter (λ (p : ℕ × Entry). p.1.live) (placed (at + 1) es)) →
      cond b (at ∷ []) [] ++ live_from (at + 1) es ≡ map (λ (p : ℕ × Entry). p.0) (cond b ((at, e) ∷ filter (λ (p : ℕ × Entry). p.1.live) (placed (at + 1) es)) (filter (λ (p : ℕ × Entry). p.1.live) (placed (at + 1) es)))
  two true h = λ k. at ∷ h k
  two false h = h

places_ranked : (items : List Item) (ps : List (ℕ × Entry)) → map (λ (d : Dead). d.place) (map (ranked items) ps) ≡ map (λ (p : ℕ × Entry). p.0) ps
places_ranked items [] = refl
places_ranked items (p ∷ ps) = λ k. p.0 ∷ places_ranked items ps k

few_names_to : (items : List Item) (id : ItemId) → IsTree items → depth_at items id ≤ 32
few_names_to items id t = cases (item_of items id) refl where
  cases : (o : Option Item) → item_of items id ≡ o → length (line_up (length items) items o) ≤ 32
  cases None e = omega (arith, ap length (line_none (length items) items))
  cases (Some i) e =
      let s = t.places id i e in
      let there : item_of items i.id ≡ Some i = subst (λ v. item_of items v ≡ Some i) (own_id items id i e) e in
      let line = ap length (line_under s.depth (length items) items i s.under (few_names s.depth items i s.under there)) ∙ line_depth s.depth items i s.under in
      omega (arith, line, s.few)

few_names_of : (items : List Item) (e : Entry) → IsTree items → depth_of_entry items e ≤ 32
few_names_of items e t = cases (by_target items e.rid) where
  cases : (o : Option Item) → part (λ i. depth_at items i.id) 0 o ≤ 32
  cases None = omega arith
  cases (Some i) = few_names_to items i.id t

by_rank : (m n : ℕ) → m ≤ 32 → n ≤ 32 → nat_lt (32 - m) (32 - n) ≡ nat_lt n m
by_rank m n a b = grind (arith, nat_tests, a, b)

pub order_is : (items : List Item) (es : List Entry) → IsTree items → map (λ (d : Dead). d.place) (sorted (λ a b. nat_lt a.rank b.rank) (dead_from items 0 es)) ++ live_from 0 es ≡ places items es
order_is items es t =
    (λ k. dead k ++ live_is 0 es k)
    ∙ sym (map_append (λ (p : ℕ × Entry). p.0) (sorted (λ p q. nat_lt (depth_of_entry items q.1) (depth_of_entry items p.1)) (filter (λ (p : ℕ × Entry). not p.1.live) (placed 0 es))) (filter (λ (p : ℕ × Entry). p.1.live) (placed 0 es))) where
      dead : map (λ (d : Dead). d.place) (sorted (λ a b. nat_lt a.rank b.rank) (dead_from items 0 es)) ≡ map (λ (p : ℕ × Entry). p.0) (sorted (λ p q. nat_lt (depth_of_entry items q.1) (depth_of_entry items p.1)) (filter (λ (p : ℕ × Entry). not p.1.live) (placed 0 es)))
      dead =
          ap (λ (l : List Dead). map (λ (d : Dead). d.place) (sorted (λ a b. nat_lt a.rank b.rank) l)) (dead_is items 0 es)
          ∙ ap (map (λ (d : Dead). d.place)) (sorted_map (ranked items) (λ a b. nat_lt a.rank b.rank) (filter (λ (p : ℕ × Entry). not p.1.live) (placed 0 es)))
          ∙ places_ranked items (sorted (λ p q. nat_lt (32 - depth_of_entry items p.1) (32 - depth_of_entry items q.1)) (filter (λ (p : ℕ × Entry). not p.1.live) (placed 0 es)))
          ∙ (λ k. map (λ (p : ℕ × Entry). p.0) (sorted (λ p q. by_rank (depth_of_entry items p.1) (depth_of_entry items q.1) (few_names_of items p.1 t) (few_names_of items q.1 t) k) (filter (λ (p : ℕ × Entry). not p.1.live) (placed 0 es))))

-- one more entry

pub dead_more : (items : List Item) (es : List Entry) (at : ℕ) (d : Entry) (old new : List Dead) → at < length es → new ≡ old ++ dead_of items at (get_or es at d) → old ++ dead_from items at (drop at es) ≡ dead_from items 0 es → new ++ dead_from items (at + 1) (drop (at + 1) es) ≡ dead_from items 0 es
dead_more items es at d old new lt e h =
    ap (λ (l : List Dead). l ++ dead_from items (at + 1) (drop (at + 1) es)) e ∙ grouped old (dead_of items at (get_or es at d)) (dead_from items (at + 1) (drop (at + 1) es))
    ∙ ap (λ (l : List Entry). old ++ dead_from items at l) (sym (drop_more es at d lt)) ∙ h

pub live_more : (es : List Entry) (at : ℕ) (d : Entry) (first old new : List ℕ) → at < length es → new ≡ old ++ live_of at (get_or es at d) → old ++ live_from at (drop at es) ≡ first ++ live_from 0 es → new ++ live_from (at + 1) (drop (at + 1) es) ≡ first ++ live_from 0 es
live_more es at d first old new lt e h =
    ap (λ (l : List ℕ). l ++ live_from (at + 1) (drop (at + 1) es)) e ∙ grouped old (live_of at (get_or es at d)) (live_from (at + 1) (drop (at + 1) es))
    ∙ ap (λ (l : List Entry). old ++ live_from at l) (sym (drop_more es at d lt)) ∙ h

-- ranks

pub rank_none : (items : List Item) (e : Entry) → ◌≡◌ {A = Option ItemId} None (id_of (by_target items e.rid)) → 32 ≡ 32 - depth_of_entry items e
rank_none items e h = cases (by_target items e.rid) h where
  cases : (o : Option Item) → ◌≡◌ {A = Option ItemId} None (id_of o) → 32 ≡ 32 - part (λ i. depth_at items i.id) 0 o
  cases None q = refl
  cases (Some i) q = let z : ◌≡◌ {A = Option ItemId} None (Some i.id) = q in absurd cc

pub rank_some : (items : List Item) (e : Entry) (id : ItemId) (n : ℕ) → ◌≡◌ {A = Option ItemId} (Some id) (id_of (by_target items e.rid)) → n ≡ depth_at items id → 32 - n ≡ 32 - depth_of_entry items e
rank_some items e id n h is = cases (by_target items e.rid) h where
  cases : (o : Option Item) → ◌≡◌ {A = Option ItemId} (Some id) (id_of o) → 32 - n ≡ 32 - part (λ i. depth_at items i.id) 0 o
  cases None q = let z : ◌≡◌ {A = Option ItemId} (Some id) None = q in absurd cc
  cases (Some i) q = ap (λ (v : ℕ). 32 - v) (is ∙ ap (λ (v : ItemId). depth_at items v) (one id i.id q)) where
    one : (a b : ItemId) → ◌≡◌ {A = Option ItemId} (Some a) (Some b) → a ≡ b
    one a b r = cc
