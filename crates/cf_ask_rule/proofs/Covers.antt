-- After a step each block in which a wait misses a byte is owned.
use Rattle.std.proofs.Common.{◌≡◌, ℕ, zero, suc, ◌+◌, ◌/◌, ◌<◌, ◌≤◌, Bool, true, false, ◌&&◌, ◌||◌, not, cond, List, [], ◌∷◌, ◌++◌, length, refl, ap, ◌∙◌, arith, eqb, eqb-true, eq-eqb, ◌⊎◌, ◌≢◌, inl, inr}
use Rattle.std.specs.Prelude.{filter, map, Option}
use Rattle.std.specs.Bool.{beq}
use Rattle.std.proofs.lemmas.Bool.Decides.{eqb_tells}
use Rattle.std.proofs.lemmas.List.Folds.{list_any-append}
use Rattle.cf_base.specs.declared.ids.ItemId.{ItemId}
use Rattle.cf_base.specs.declared.waits.Cause.{Cause}
use Rattle.cf_model.specs.Missing.{View, Wait}
use Rattle.cf_model.specs.Requests.{Deed, Live, Waiting, has_block}
use Rattle.cf_model.specs.Asks.{Run, ask_of_run, is_cancelled, is_fetched, is_owned, is_wanted, list_asks, dehydrate_asks, new_asks, open_blocks, runs_of, runs_on, settled_with, with_keys}
use Rattle.cf_model.specs.Words.{counting}
use Rattle.cf_ask_rule.proofs.Runs.{counting_push}

or_false : (a : Bool) → (a || false) ≡ a
or_false true = refl
or_false false = refl

or_true : (a : Bool) → (a || true) ≡ true
or_true true = refl
or_true false = refl

or_assoc : (a b c : Bool) → ((a || b) || c) ≡ (a || (b || c))
or_assoc true b c = refl
or_assoc false b c = refl

and_left : (a b : Bool) → (a && b) ≡ true → a ≡ true
and_left true b h = refl
and_left false b h = h

owns_new : (item : ItemId) (v : Bool) → (eqb item.0 item.0 && v) ≡ v
owns_new item v = ap (λ e. e && v) (eq-eqb item.0 item.0 refl)

one_of : (item : ItemId) (base b : ℕ) (R t : Bool) (r : Run) (xs ys : List Run) → (t ≡ true → is_owned item (map (ask_of_run item base) xs) b ≡ R) → is_owned item (map (ask_of_run item base) (r ∷ ys)) b ≡ R →
    is_owned item (map (ask_of_run item base) (elim t as (λ _. List Run) [ true ↦ xs | false ↦ r ∷ ys ])) b ≡ R
one_of item base b R true r xs ys f g = f refl
one_of item base b R false r xs ys f g = g

owned_on : (item : ItemId) (base b : ℕ) (v : View) (bs : List ℕ) (r : Run) → is_owned item (map (ask_of_run item base) (runs_on v r bs)) b ≡ (has_block (counting r.first r.count) b || has_block bs b)
owned_on item base b v [] r = ap (λ x. x || false) (owns_new item (has_block (counting r.first r.count) b))
owned_on item base b v (c ∷ cs) r = one_of item base b (has_block (counting r.first r.count) b || has_block (c ∷ cs) b) (eqb c (r.first + r.count) && beq (is_fetched v c) r.fetch) r _ _
    (λ e. owned_on item base b v cs (record r { count = r.count + 1 })
    ∙ ap (λ x. has_block x b || has_block cs b) (counting_push r.first r.count (r.count + 1) c (omega arith) (eqb-true c (r.first + r.count) (and_left (eqb c (r.first + r.count)) _ e)))
    ∙ ap (λ x. x || has_block cs b) (list_any-append (λ x. eqb x b) (counting r.first r.count) (c ∷ []) ∙ ap (λ x. has_block (counting r.first r.count) b || x) (or_false (eqb c b)))
    ∙ or_assoc (has_block (counting r.first r.count) b) (eqb c b) (has_block cs b))
    (ap (λ x. x || is_owned item (map (ask_of_run item base) (runs_on v (record { fetch = is_fetched v c; first = c; count = 1 }) cs)) b) (owns_new item (has_block (counting r.first r.count) b))
    ∙ ap (λ x. has_block (counting r.first r.count) b || x) (owned_on item base b v cs (record { fetch = is_fetched v c; first = c; count = 1 }) ∙ ap (λ x. x || has_block cs b) (or_false (eqb c b))))

owned_runs : (item : ItemId) (base b : ℕ) (v : View) (bs : List ℕ) → is_owned item (map (ask_of_run item base) (runs_of v bs)) b ≡ has_block bs b
owned_runs item base b v [] = refl
owned_runs item base b v (c ∷ cs) = owned_on item base b v cs (record { fetch = is_fetched v c; first = c; count = 1 }) ∙ ap (λ x. x || has_block cs b) (or_false (eqb c b))

owned_keyed : (item : ItemId) (b epoch : ℕ) (asks : List Live) (n : ℕ) → is_owned item (with_keys epoch n asks) b ≡ is_owned item asks b
owned_keyed item b epoch [] n = refl
owned_keyed item b epoch (a ∷ asks) n = ap (λ x. ((eqb a.ask.item.0 item.0) && has_block a.owned b) || x) (owned_keyed item b epoch asks (n + 1))

owned_append : (item : ItemId) (b : ℕ) (xs ys : List Live) → is_owned item (xs ++ ys) b ≡ (is_owned item xs b || is_owned item ys b)
owned_append item b xs ys = list_any-append (λ (a : Live). (eqb a.ask.item.0 item.0) && has_block a.owned b) xs ys

owned_first : (item : ItemId) (b : ℕ) (xs ys zs : List Live) → is_owned item xs b ≡ true → is_owned item (xs ++ ys ++ zs) b ≡ true
owned_first item b xs ys zs h = owned_append item b (xs ++ ys) zs ∙ ap (λ x. x || is_owned item zs b) (owned_append item b xs ys ∙ ap (λ x. x || is_owned item ys b) h)

has_filter : (p : ℕ → Bool) (b i n : ℕ) → i ≤ b → b < i + n → p b ≡ true → has_block (filter p (counting i n)) b ≡ true
has_filter p b i zero l h t = absurd (omega arith)
has_filter p b i (suc n) l h t = split (eqb_tells i b) (λ k. has_filter p b (i + 1) n k (omega arith) t) where
  here : (c : Bool) → c ≡ true → eqb i b ≡ true → has_block (cond c (i ∷ filter p (counting (i + 1) n)) (filter p (counting (i + 1) n))) b ≡ true
  here true c e = ap (λ v. v || has_block (filter p (counting (i + 1) n)) b) e
  here false c e = let z : false ≡ true = c in cc

  there : (c : Bool) → has_block (filter p (counting (i + 1) n)) b ≡ true → has_block (cond c (i ∷ filter p (counting (i + 1) n)) (filter p (counting (i + 1) n))) b ≡ true
  there true r = ap (λ v. eqb i b || v) r ∙ or_true (eqb i b)
  there false r = r

  split : ((eqb i b ≡ true) × (i ≡ b)) ⊎ ((eqb i b ≡ false) × (i ≢ b)) → (i + 1 ≤ b → has_block (filter p (counting (i + 1) n)) b ≡ true) → has_block (filter p (counting i (suc n))) b ≡ true
  split (inl e) r = here (p i) (ap p e.1 ∙ t) e.0
  split (inr e) r = let k : i ≢ b = e.1 in there (p i) (r (omega arith))

pub covers : (item : ItemId) (v : View) (d : Deed) (why : Wait → Option Cause) (s : Waiting) (ws : List Wait) (asks : List Live) (b : ℕ) → b < (length v.lacks + 4095) / 4096 → is_wanted item v ws b ≡ true →
    is_owned item ((settled_with item v d why s ws asks).1.asks) b ≡ true
covers item v d why s ws asks b l w = owned_append item b kept (with_keys s.epoch s.key_count made) ∙ cases (is_owned item kept b) refl where
  kept : List Live
  kept = filter (λ a. not (is_cancelled item v d ws a)) asks

  runs : List Live
  runs = map (ask_of_run item v.base) (runs_of v (open_blocks item v ws kept))

  made : List Live
  made = new_asks item v ws kept

  cases : (o : Bool) → is_owned item kept b ≡ o → (is_owned item kept b || is_owned item (with_keys s.epoch s.key_count made) b) ≡ true
  cases true e = ap (λ x. x || is_owned item (with_keys s.epoch s.key_count made) b) e
  cases false e = ap (λ x. is_owned item kept b || x)
      (owned_keyed item b s.epoch made s.key_count
      ∙ owned_first item b runs (list_asks item ws kept) (dehydrate_asks item ws kept)
      (owned_runs item v.base b v (open_blocks item v ws kept) ∙ has_filter (λ b. is_wanted item v ws b && not (is_owned item kept b)) b 0 ((length v.lacks + 4095) / 4096) (omega arith) (omega arith) (ap (λ x. x && not (is_owned item kept b)) w ∙ ap not e)))
      ∙ or_true (is_owned item kept b)
