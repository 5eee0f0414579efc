-- An ask that blocks leave is kept where a wait misses a byte in its other blocks: that wait is left, and waits for the ask still.
use Rattle.std.proofs.Common.{◌≡◌, ℕ, ◌+◌, ◌*◌, ◌^◌, ◌<◌, ◌≤◌, ◌⊎◌, inl, inr, Bool, true, false, ◌&&◌, ◌||◌, not, cond, Option, Some, None, List, [], ◌∷◌, length, max, min, refl, sym, ap, subst, ◌∙◌, arith, eqb}
use Rattle.std.specs.Prelude.{filter, is_some}
use Rattle.std.specs.List.{AllByRecursion, list_any}
use Rattle.cf_ask_rule.proofs.Apart.{some_in}
use Rattle.cf_ask_rule.proofs.Filters.{not_both, or_left}
use Rattle.cf_ask_rule.proofs.NearPlans.{ask_released, not_idle, some_owned}
use Rattle.cf_ask_rule.proofs.Nearby.{misses_none}
use Rattle.cf_ask_rule.proofs.Wanting.{flag, flag_below, hit_between, some_between}
use Rattle.cf_ask_rule.specs.Deeds.{after}
use Rattle.cf_ask_rule.specs.Narrowing.{AreAlike, AreNear, IsAround, is_awaited, kept_without, reaches_into}
use Rattle.cf_base.specs.declared.ids.ItemId.{ItemId}
use Rattle.cf_base.specs.declared.ids.Key.{Key}
use Rattle.cf_base.specs.declared.spans.Span.{Span}
use Rattle.cf_base.specs.declared.waits.Ask.{Ask}
use Rattle.cf_base.specs.declared.waits.Cause.{Cause}
use Rattle.cf_base.specs.declared.waits.Cause.TheVariants as cause
use Rattle.cf_base.specs.declared.waits.WaitKind.{WaitKind}
use Rattle.cf_base.specs.declared.waits.WaitKind.TheVariants as wait_kind
use Rattle.cf_model.specs.Asks.{cause_if, ended_of, is_idle, is_over, is_wanted, left_of, misses_in, released, why, with_end}
use Rattle.cf_model.specs.Missing.{View, Wait, is_met, is_met_by, misses, misses_block, needed, needed_by}
use Rattle.cf_model.specs.Numbers.{same_key}
use Rattle.cf_model.specs.Requests.{Leaves, Live, has_block, is_data, live_of}
use Rattle.cf_model.specs.Words.{is_empty}

-- truth values

both : (a b : Bool) → (a && b) ≡ true → (a ≡ true) × (b ≡ true)
both true b h = (refl, h)
both false b h = let z : false ≡ true = h in cc

either : (a b : Bool) → (a || b) ≡ true → (a ≡ true) ⊎ (b ≡ true)
either true b h = inl refl
either false b h = inr h

or_right : (a b : Bool) → b ≡ true → (a || b) ≡ true
or_right true b e = refl
or_right false b e = e

and_true : (a b : Bool) → a ≡ true → b ≡ true → (a && b) ≡ true
and_true a b e f = ap (λ x. x && b) e ∙ f

-- a wait that misses a byte of a block is not met

misses_some : (v : View) (w : Wait) (b : ℕ) → misses_block v w b ≡ true → misses v w ≡ true
misses_some v w b h =
    let n : Span = needed v w in
    let r : (p : ℕ) × (max n.start (4096 * b) ≤ p) × (p < min (n.start + n.len) (4096 * b + 4096)) × (flag v.lacks p ≡ true) = some_between v.lacks (max n.start (4096 * b)) (min (n.start + n.len) (4096 * b + 4096)) h in
    let low : max n.start (4096 * b) ≤ r.0 = r.1 in
    let high : r.0 < min (n.start + n.len) (4096 * b + 4096) = r.2 in
    let below : r.0 < length v.lacks = flag_below v.lacks r.0 r.3 in
    hit_between v.lacks (max n.start 0) (min (n.start + n.len) (length v.lacks)) r.0 (omega arith) (omega arith) r.3

needs_some : (v : View) (w : Wait) (b : ℕ) → misses_block v w b ≡ true → (needed v w).len ≡ 0 → ⊥
needs_some v w b h e =
    let n : Span = needed v w in
    let r : (p : ℕ) × (max n.start (4096 * b) ≤ p) × (p < min (n.start + n.len) (4096 * b + 4096)) × (flag v.lacks p ≡ true) = some_between v.lacks (max n.start (4096 * b)) (min (n.start + n.len) (4096 * b + 4096)) h in
    let low : max n.start (4096 * b) ≤ r.0 = r.1 in
    let high : r.0 < min (n.start + n.len) (4096 * b + 4096) = r.2 in
    let none : n.len ≡ 0 = e in
    omega arith

unmet_by : (kind : WaitKind) (v : View) (w : Wait) → misses v w ≡ true → ((needed_by kind v w.span).len ≡ 0 → ⊥) → is_met_by kind v w ≡ false
unmet_by wait_kind.Read v w m some = ap not m
unmet_by wait_kind.Hydrate v w m some = ap not m
unmet_by wait_kind.Background v w m some = ap not m
unmet_by wait_kind.List v w m some = absurd (some refl)
unmet_by wait_kind.Dehydrate v w m some = refl

unmet : (v : View) (w : Wait) (b : ℕ) → misses_block v w b ≡ true → is_met v w ≡ false
unmet v w b h = unmet_by w.kind v w (misses_some v w b h) (needs_some v w b h)

-- so it is left, and the block is wanted still

module _ (item : ItemId) (v : View) (key : Key) (blocks : List ℕ) (asks : List Live) where
  abbrev f : Wait → Option Cause
  f = why item v (Leaves key blocks) asks

  wanted_left : (ws : List Wait) (b : ℕ) → is_wanted item v ws b ≡ true → is_wanted item v (left_of f ws) b ≡ true
  wanted_left [] b h = h
  wanted_left (w ∷ ws) b h = elim (either (eqb w.item.0 item.0 && misses_block v w b) (is_wanted item v ws b) h) [
    | inl e ↦
        let m : misses_block v w b ≡ true = (both (eqb w.item.0 item.0) (misses_block v w b) e).1 in
        ap (λ c. is_wanted item v (cond (not c) (w ∷ left_of f ws) (left_of f ws)) b) (ap (λ c. is_some (cond c (cause_if (is_met v w) cause.Met) None)) (both (eqb w.item.0 item.0) (misses_block v w b) e).0 ∙ ap (λ c. is_some (cause_if c cause.Met)) (unmet v w b m))
        ∙ or_left (eqb w.item.0 item.0 && misses_block v w b) (is_wanted item v (left_of f ws) b) e
    | inr e ↦ more (is_some (f w)) (wanted_left ws b e)
  ] where
    more : (c : Bool) → is_wanted item v (left_of f ws) b ≡ true → is_wanted item v (cond (not c) (w ∷ left_of f ws) (left_of f ws)) b ≡ true
    more true k = k
    more false k = or_right (eqb w.item.0 item.0 && misses_block v w b) (is_wanted item v (left_of f ws) b) k

  some_wanted : (owned : List ℕ) (ws : List Wait) → list_any (λ w. (eqb w.item.0 item.0) && misses_in v owned w) ws ≡ true → (b : ℕ) × (is_wanted item v ws b ≡ true) × (has_block owned b ≡ true)
  some_wanted owned [] h = let z : false ≡ true = h in cc
  some_wanted owned (w ∷ ws) h = elim (either (eqb w.item.0 item.0 && misses_in v owned w) (list_any (λ w. (eqb w.item.0 item.0) && misses_in v owned w) ws) h) [
    | inl e ↦
        let on : eqb w.item.0 item.0 ≡ true = (both (eqb w.item.0 item.0) (misses_in v owned w) e).0 in
        let r : (b : ℕ) × (misses_block v w b ≡ true) × (has_block owned b ≡ true) = some_in (misses_block v w) owned (both (eqb w.item.0 item.0) (misses_in v owned w) e).1 in
        (r.0, or_left (eqb w.item.0 item.0 && misses_block v w r.0) (is_wanted item v ws r.0) (and_true (eqb w.item.0 item.0) (misses_block v w r.0) on r.1), r.2)
    | inr e ↦
        let r : (b : ℕ) × (is_wanted item v ws b ≡ true) × (has_block owned b ≡ true) = some_wanted owned ws e in
        (r.0, or_right (eqb w.item.0 item.0 && misses_block v w r.0) (is_wanted item v ws r.0) r.1, r.2)
  ]

  still_wanted : (owned : List ℕ) (ws : List Wait) → list_any (λ w. (eqb w.item.0 item.0) && misses_in v owned w) ws ≡ true → list_any (is_wanted item v (left_of f ws)) owned ≡ true
  still_wanted owned ws h =
      let r : (b : ℕ) × (is_wanted item v ws b ≡ true) × (has_block owned b ≡ true) = some_wanted owned ws h in
      some_owned (is_wanted item v (left_of f ws)) owned r.0 r.2 (wanted_left ws r.0 r.1)

-- the ask that blocks leave

pub over_is : (key : Key) (blocks : List ℕ) (a : Live) → is_data a.ask.kind ≡ true → same_key a.ask.key key ≡ true → is_over (Leaves key blocks) (released key blocks a) ≡ is_empty (filter (λ b. not (has_block blocks b)) a.owned)
over_is key blocks a bytes e =
    ap (λ c. is_over (Leaves key blocks) (cond c (record a { owned = filter (λ b. not (has_block blocks b)) a.owned; ticks = 0 }) a)) e ∙ ap (λ c. c && is_empty (filter (λ b. not (has_block blocks b)) a.owned)) bytes

pub stays_awaited : (item : ItemId) (v : View) (key : Key) (blocks : List ℕ) (ws : List Wait) (asks : List Live) (own a : Live) → is_awaited item v ws (kept_without blocks own) ≡ true → is_data a.ask.kind ≡ true → a.owned ≡ own.owned → same_key a.ask.key key ≡ true
    → is_over (Leaves key blocks) (released key blocks a) ≡ false → is_idle item v (left_of (why item v (Leaves key blocks) asks) ws) (released key blocks a) ≡ false
stays_awaited item v key blocks ws asks own a awaited bytes same e over =
    subst (λ (x : Live). is_idle item v left x ≡ false) (sym (ap (λ c. cond c kept a) e)) (not_idle a.ask.kind item v left kept (eqb a.ask.item.0 item.0) bytes (λ on. ap (λ (o : List ℕ). list_any (is_wanted item v left) (others o)) same ∙ still_wanted item v key blocks asks (others own.owned) ws missed))
  where
    others : List ℕ → List ℕ
    others o = filter (λ b. not (has_block blocks b)) o

    left : List Wait
    left = left_of (why item v (Leaves key blocks) asks) ws

    kept : Live
    kept = record a { owned = filter (λ b. not (has_block blocks b)) a.owned; ticks = 0 }

    some : is_empty (others own.owned) ≡ false
    some = ap (λ (o : List ℕ). is_empty (others o)) (sym same) ∙ sym (over_is key blocks a bytes e) ∙ over

    missed : list_any (λ w. (eqb w.item.0 item.0) && misses_in v (others own.owned) w) ws ≡ true
    missed = ap (λ b. is_awaited item v ws (cond b None (Some (record own { owned = others own.owned; ticks = 0 })))) (sym some) ∙ awaited

pub none_live : (key : Key) (blocks : List ℕ) (asks : List Live) → AllByRecursion (λ a. same_key a.ask.key key ≡ true → is_over (Leaves key blocks) (released key blocks a) ≡ true) asks → live_of (after (Leaves key blocks) asks) key ≡ None
none_live key blocks [] h = refl
none_live key blocks (a ∷ asks) h = one (is_over (Leaves key blocks) (released key blocks a)) refl (none_live key blocks asks h.1) where
  rest : List Live
  rest = after (Leaves key blocks) asks

  untrue : (b : Bool) → (b ≡ true → ⊥) → b ≡ false
  untrue true g = absurd (g refl)
  untrue false g = refl

  one : (o : Bool) → is_over (Leaves key blocks) (released key blocks a) ≡ o → live_of rest key ≡ None → live_of (cond (not o) (released key blocks a ∷ rest) rest) key ≡ None
  one true e k = k
  one false e k =
      ap (λ c. cond c (Some (released key blocks a)) (live_of rest key))
      (ap (λ (x : Ask). same_key x.key key) (ask_released key blocks a) ∙ untrue (same_key a.ask.key key) (λ t. not_both (is_over (Leaves key blocks) (released key blocks a)) (h.0 t) e)) ∙ k

pub some_live : (key : Key) (blocks : List ℕ) (own : Live) (xs ys : List Live) → AreAlike xs ys → live_of xs key ≡ Some own → AllByRecursion (λ a. same_key a.ask.key key ≡ true → is_over (Leaves key blocks) (released key blocks a) ≡ false) ys
    → live_of (after (Leaves key blocks) ys) key ≡ Some (record own { owned = filter (λ b. not (has_block blocks b)) own.owned; ticks = 0 })
some_live key blocks own [] [] h l n = let z : ◌≡◌ {A = Option Live} None (Some own) = l in cc
some_live key blocks own [] (y ∷ ys) h l n = absurd h
some_live key blocks own (x ∷ xs) [] h l n = absurd h
some_live key blocks own (x ∷ xs) (y ∷ ys) h l n = one (same_key x.ask.key key) refl l (some_live key blocks own xs ys h.3) where
  rest : List Live
  rest = after (Leaves key blocks) ys

  kept : Live → Live
  kept a = record a { owned = filter (λ b. not (has_block blocks b)) a.owned; ticks = 0 }

  with_key : (c : Bool) → same_key x.ask.key key ≡ c → same_key (released key blocks y).ask.key key ≡ c
  with_key c e = ap (λ (k : Ask). same_key k.key key) (ask_released key blocks y ∙ h.0) ∙ e

  one : (c : Bool) → same_key x.ask.key key ≡ c → cond c (Some x) (live_of xs key) ≡ Some own
      → (live_of xs key ≡ Some own → AllByRecursion (λ a. same_key a.ask.key key ≡ true → is_over (Leaves key blocks) (released key blocks a) ≡ false) ys → live_of rest key ≡ Some (kept own))
      → live_of (cond (not (is_over (Leaves key blocks) (released key blocks y))) (released key blocks y ∷ rest) rest) key ≡ Some (kept own)
  one true e k more =
      let same : same_key y.ask.key key ≡ true = ap (λ (k : Ask). same_key k.key key) h.0 ∙ e in
      let q : x ≡ own = cc in
      ap (λ c. live_of (cond (not c) (released key blocks y ∷ rest) rest) key) (n.0 same) ∙ ap (λ c. cond c (Some (released key blocks y)) (live_of rest key)) (with_key true e)
      ∙ ap (λ c. Some (cond c (kept y) y)) same ∙ (λ j. Some (record { ask = h.0 j; owned = filter (λ b. not (has_block blocks b)) (h.1 j); ticks = 0; wait = h.2 j })) ∙ ap (λ (z : Live). Some (kept z)) q
  one false e k more = skip (is_over (Leaves key blocks) (released key blocks y)) where
    skip : (o : Bool) → live_of (cond (not o) (released key blocks y ∷ rest) rest) key ≡ Some (kept own)
    skip true = more k n.1
    skip false = ap (λ c. cond c (Some (released key blocks y)) (live_of rest key)) (with_key false e) ∙ more k n.1

-- of waits among which are all that need something of a span

any_ended : (p : Wait → Bool) (ws : List Wait) → is_empty (ended_of (λ w. cause_if (p w) cause.Met) ws) ≡ not (list_any p ws)
any_ended p [] = refl
any_ended p (w ∷ ws) = one (p w) (any_ended p ws) where
  one : (b : Bool) → is_empty (ended_of (λ w. cause_if (p w) cause.Met) ws) ≡ not (list_any p ws) → is_empty (with_end w (cause_if b cause.Met) (ended_of (λ w. cause_if (p w) cause.Met) ws)) ≡ not (b || list_any p ws)
  one true k = refl
  one false k = k

-- where the blocks of the ask lie in the span, these are as good as all
pub near_awaited : (item : ItemId) (v : View) (start end : ℕ) (a : Live) (near waits : List Wait) → length v.lacks ≤ 2 ^ 24 → IsAround start end (Some a) → AreNear item v start end near waits → is_awaited item v near (Some a) ≡ is_awaited item v waits (Some a)
near_awaited item v start end a near waits small around nears =
    undone (list_any p near) (list_any p waits) (sym (any_ended p near) ∙ ap is_empty (nears (λ w. cause_if (p w) cause.Met) (λ w e. one w (eqb w.item.0 item.0) e)) ∙ any_ended p waits)
  where
    p : Wait → Bool
    p w = (eqb w.item.0 item.0) && misses_in v a.owned w

    one : (w : Wait) (x : Bool) → (x && reaches_into (needed v w) start end) ≡ false → cause_if (x && misses_in v a.owned w) cause.Met ≡ None
    one w true e = ap (λ c. cause_if c cause.Met) (misses_none v w start end a.owned small around e)
    one w false e = refl

    undone : (x y : Bool) → not x ≡ not y → x ≡ y
    undone true true e = refl
    undone true false e = let k : false ≡ true = e in cc
    undone false true e = let k : true ≡ false = e in cc
    undone false false e = refl
