-- Which asks are made hangs on those alone that may own a block that the waits need.
use Rattle.std.proofs.Common.{◌≡◌, ℕ, ◌+◌, ◌*◌, ◌/◌, ◌^◌, ◌<◌, ◌≤◌, ◌⊎◌, inl, inr, Bool, true, false, ◌&&◌, ◌||◌, not, List, [], ◌∷◌, ◌++◌, length, max, min, refl, sym, ap, ◌∙◌, arith, eqb}
use Rattle.std.specs.Prelude.{map}
use Rattle.std.specs.List.{AllByRecursion, list_any}
use Rattle.std.proofs.lemmas.Bool.Decides.{nat_tests}
use Rattle.cf_ask_rule.proofs.Filters.{filter_same}
use Rattle.cf_ask_rule.proofs.Nearby.{all_append, all_counting}
use Rattle.cf_ask_rule.proofs.Settling.{filter_none}
use Rattle.cf_ask_rule.proofs.Wanting.{flag, flag_below, some_between}
use Rattle.cf_ask_rule.specs.Fronts.{EndsBy, NeedsFrom, is_data_wait}
use Rattle.cf_ask_rule.specs.Places.{places}
use Rattle.cf_base.specs.declared.ids.ItemId.{ItemId}
use Rattle.cf_base.specs.declared.spans.Span.{Span}
use Rattle.cf_base.specs.declared.waits.WaitKind.{WaitKind}
use Rattle.cf_base.specs.declared.waits.WaitKind.TheVariants as wait_kind
use Rattle.cf_model.specs.Asks.{ask_of_run, dehydrate_ask, dehydrate_asks, is_owned, is_wanted, list_ask, list_asks, new_asks, open_blocks, runs_of}
use Rattle.cf_model.specs.Missing.{View, Wait, misses_block, needed}
use Rattle.cf_model.specs.Numbers.{same_key}
use Rattle.cf_model.specs.Requests.{Live, has_block, is_dehydrate_wait, is_list, is_list_wait}
use Rattle.cf_model.specs.Words.{counting, when}

both : (a b : Bool) → (a && b) ≡ true → (a ≡ true) × (b ≡ true)
both true b h = (refl, h)
both false b h = let z : false ≡ true = h in cc

either : (a b : Bool) → (a || b) ≡ true → (a ≡ true) ⊎ (b ≡ true)
either true b h = inl refl
either false b h = inr h

-- a wanted block is not before what the waits need

block_from : (v : View) (w : Wait) (first b : ℕ) → 4096 * first ≤ (needed v w).start → length v.lacks ≤ 2 ^ 24 → misses_block v w b ≡ true → (first ≤ b) × (b < 2 ^ 32)
block_from v w first b h small t =
    let n : Span = needed v w in
    let r : (p : ℕ) × (max n.start (4096 * b) ≤ p) × (p < min (n.start + n.len) (4096 * b + 4096)) × (flag v.lacks p ≡ true) = some_between v.lacks (max n.start (4096 * b)) (min (n.start + n.len) (4096 * b + 4096)) t in
    let low : max n.start (4096 * b) ≤ r.0 = r.1 in
    let high : r.0 < min (n.start + n.len) (4096 * b + 4096) = r.2 in
    let below : r.0 < length v.lacks = flag_below v.lacks r.0 r.3 in
    let k : 4096 * first ≤ n.start = h in
    (omega arith, omega arith)

wanted_from : (item : ItemId) (v : View) (first b : ℕ) (ws : List Wait) → AllByRecursion (NeedsFrom v first) ws → length v.lacks ≤ 2 ^ 24 → is_wanted item v ws b ≡ true → (first ≤ b) × (b < 2 ^ 32)
wanted_from item v first b [] h small t = let z : false ≡ true = t in cc
wanted_from item v first b (w ∷ ws) h small t = elim (either ((eqb w.item.0 item.0) && misses_block v w b) (is_wanted item v ws b) t) [
  | inl e ↦ block_from v w first b h.0.1 small (both (eqb w.item.0 item.0) (misses_block v w b) e).1
  | inr e ↦ wanted_from item v first b ws h.1 small e
]

-- the asks that are made

same_open : (w o p : Bool) → (w ≡ true → o ≡ p) → (w && not o) ≡ (w && not p)
same_open true o p h = ap not (h refl)
same_open false o p h = refl

each : (P : ℕ → Type 0) → ((b : ℕ) → P b) → (bs : List ℕ) → AllByRecursion P bs
each P f [] = tt
each P f (b ∷ bs) = (f b, each P f bs)

not_list : (kind : WaitKind) → is_data_wait kind ≡ true → is_list_wait kind ≡ false
not_list wait_kind.Read h = refl
not_list wait_kind.Hydrate h = refl
not_list wait_kind.Background h = refl
not_list wait_kind.List h = let z : false ≡ true = h in cc
not_list wait_kind.Dehydrate h = let z : false ≡ true = h in cc

not_dehydrate : (kind : WaitKind) → is_data_wait kind ≡ true → is_dehydrate_wait kind ≡ false
not_dehydrate wait_kind.Read h = refl
not_dehydrate wait_kind.Hydrate h = refl
not_dehydrate wait_kind.Background h = refl
not_dehydrate wait_kind.List h = let z : false ≡ true = h in cc
not_dehydrate wait_kind.Dehydrate h = let z : false ≡ true = h in cc

no_and : (a b : Bool) → b ≡ false → (a && b) ≡ false
no_and true b h = h
no_and false b h = refl

none_listed : (item : ItemId) (v : View) (first : ℕ) (ws : List Wait) → AllByRecursion (NeedsFrom v first) ws → list_any (λ w. (eqb w.item.0 item.0) && is_list_wait w.kind) ws ≡ false
none_listed item v first [] h = refl
none_listed item v first (w ∷ ws) h = ap (λ b. b || list_any (λ w. (eqb w.item.0 item.0) && is_list_wait w.kind) ws) (no_and (eqb w.item.0 item.0) (is_list_wait w.kind) (not_list w.kind h.0.0)) ∙ none_listed item v first ws h.1

no_lists : (item : ItemId) (v : View) (first : ℕ) (ws : List Wait) (asks : List Live) → AllByRecursion (NeedsFrom v first) ws → list_asks item ws asks ≡ []
no_lists item v first ws asks h = ap (λ b. when (b && not (list_any (λ a. (eqb a.ask.item.0 item.0) && is_list a.ask.kind) asks)) (list_ask item ∷ [])) (none_listed item v first ws h)

lacking : (item : ItemId) (v : View) (first : ℕ) (asks : List Live) (ws : List Wait) → AllByRecursion (NeedsFrom v first) ws → AllByRecursion (λ w. ((eqb w.item.0 item.0) && is_dehydrate_wait w.kind && not (list_any (λ a. same_key a.wait.0 w.id.0) asks)) ≡ false) ws
lacking item v first asks [] h = tt
lacking item v first asks (w ∷ ws) h = (ap (λ b. b && not (list_any (λ a. same_key a.wait.0 w.id.0) asks)) (no_and (eqb w.item.0 item.0) (is_dehydrate_wait w.kind) (not_dehydrate w.kind h.0.0)), lacking item v first asks ws h.1)

no_dehydrations : (item : ItemId) (v : View) (first : ℕ) (ws : List Wait) (asks : List Live) → AllByRecursion (NeedsFrom v first) ws → dehydrate_asks item ws asks ≡ []
no_dehydrations item v first ws asks h = ap (map dehydrate_ask) (filter_none (λ w. (eqb w.item.0 item.0) && is_dehydrate_wait w.kind && not (list_any (λ a. same_key a.wait.0 w.id.0) asks)) ws (lacking item v first asks ws h))

pub made_from : (item : ItemId) (v : View) (first : ℕ) (ws : List Wait) (xs ys : List Live) → length v.lacks ≤ 2 ^ 24 → AllByRecursion (NeedsFrom v first) ws → ((b : ℕ) → first ≤ b → b < 2 ^ 32 → is_owned item xs b ≡ is_owned item ys b)
    → new_asks item v ws xs ≡ new_asks item v ws ys
made_from item v first ws xs ys small from same =
    ap (λ (bs : List ℕ). map (ask_of_run item v.base) (runs_of v bs) ++ list_asks item ws xs ++ dehydrate_asks item ws xs)
    (filter_same (λ b. is_wanted item v ws b && not (is_owned item xs b)) (λ b. is_wanted item v ws b && not (is_owned item ys b)) (counting 0 ((length v.lacks + 4095) / 4096))
    (each (λ b. (is_wanted item v ws b && not (is_owned item xs b)) ≡ (is_wanted item v ws b && not (is_owned item ys b)))
    (λ b. same_open (is_wanted item v ws b) (is_owned item xs b) (is_owned item ys b) (λ t. let k : (first ≤ b) × (b < 2 ^ 32) = wanted_from item v first b ws from small t in same b k.0 k.1)) (counting 0 ((length v.lacks + 4095) / 4096))))
    ∙ ap (λ (l : List Live). map (ask_of_run item v.base) (runs_of v (open_blocks item v ws ys)) ++ l ++ dehydrate_asks item ws xs) (no_lists item v first ws xs from ∙ sym (no_lists item v first ws ys from))
    ∙ ap (λ (l : List Live). map (ask_of_run item v.base) (runs_of v (open_blocks item v ws ys)) ++ list_asks item ws ys ++ l) (no_dehydrations item v first ws xs from ∙ sym (no_dehydrations item v first ws ys from))

-- asks that have no block from an end on

no_block : (end b : ℕ) (owned : List ℕ) → AllByRecursion (λ c. min (c + 1) (2 ^ 32) ≤ end) owned → end ≤ b → b < 2 ^ 32 → has_block owned b ≡ false
no_block end b [] h l m = refl
no_block end b (c ∷ cs) h l m = ap (λ x. x || has_block cs b) (differs c b (let k : min (c + 1) (2 ^ 32) ≤ end = h.0 in omega arith)) ∙ no_block end b cs h.1 l m where
  differs : (c b : ℕ) → (c ≡ b → ⊥) → eqb c b ≡ false
  differs c b n = grind (arith, nat_tests)

pub none_owned : (item : ItemId) (end b : ℕ) (asks : List Live) → AllByRecursion (EndsBy end) asks → end ≤ b → b < 2 ^ 32 → is_owned item asks b ≡ false
none_owned item end b [] h l m = refl
none_owned item end b (a ∷ asks) h l m = ap (λ x. x || is_owned item asks b) (no_and (eqb a.ask.item.0 item.0) (has_block a.owned b) (no_block end b a.owned h.0 l m)) ∙ none_owned item end b asks h.1 l m

pub ends_by : (end : ℕ) (runs : List Span) → AllByRecursion (λ r. min (r.start + r.len) (2 ^ 32) ≤ end) runs → AllByRecursion (λ b. min (b + 1) (2 ^ 32) ≤ end) (places runs)
ends_by end [] h = tt
ends_by end (r ∷ rs) h = all_append (λ b. min (b + 1) (2 ^ 32) ≤ end) (counting r.start r.len) (places rs)
    (all_counting (λ b. min (b + 1) (2 ^ 32) ≤ end) r.start r.len (λ b l m. let k : min (r.start + r.len) (2 ^ 32) ≤ end = h.0 in omega arith)) (ends_by end rs h.1)

less_end : (end more : ℕ) (owned : List ℕ) → end ≤ more → AllByRecursion (λ b. min (b + 1) (2 ^ 32) ≤ end) owned → AllByRecursion (λ b. min (b + 1) (2 ^ 32) ≤ more) owned
less_end end more [] l h = tt
less_end end more (b ∷ bs) l h = let k : min (b + 1) (2 ^ 32) ≤ end = h.0 in (omega arith, less_end end more bs l h.1)

pub ends_later : (end more : ℕ) (asks : List Live) → end ≤ more → AllByRecursion (EndsBy end) asks → AllByRecursion (EndsBy more) asks
ends_later end more [] l h = tt
ends_later end more (a ∷ asks) l h = (less_end end more a.owned l h.0, ends_later end more asks l h.1)
