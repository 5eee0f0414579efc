-- The plans that look at what changed are those of the step.
use Rattle.std.proofs.Common.{◌≡◌, ℕ, ◌^◌, ◌≤◌, Bool, true, false, ◌&&◌, ◌||◌, not, cond, Option, Some, None, List, [], ◌∷◌, length, refl, sym, ap, subst, ◌∙◌, eqb}
use Rattle.std.specs.Prelude.{filter, is_some, map}
use Rattle.std.specs.List.{AllByRecursion, list_any}
use Rattle.cf_ask_rule.proofs.Filters.{all_then, not_both}
use Rattle.cf_ask_rule.proofs.Kept.{none_live, over_is, some_live, stays_awaited}
use Rattle.cf_ask_rule.proofs.Narrow.{all_near, ended_same, in_blocks, of_ended}
use Rattle.cf_ask_rule.proofs.NearPlans.{all_both, expires, leaves, some_owned}
use Rattle.cf_ask_rule.proofs.Nearby.{none_expires, none_leaves, own_data}
use Rattle.cf_ask_rule.proofs.Whys.{same_why}
use Rattle.cf_ask_rule.specs.Deeds.{after, awaited_by, why_for}
use Rattle.cf_ask_rule.specs.Narrowing.{AreAlike, AreNear, IsAround, IsWithin, MayPlan, Narrows, PlansExpiry, PlansLeave, is_awaited, is_touched, kept_without, reaches_into, those, why_near}
use Rattle.cf_ask_rule.specs.Plans.{plan_of}
use Rattle.cf_base.specs.declared.ids.ItemId.{ItemId}
use Rattle.cf_base.specs.declared.ids.Key.{Key}
use Rattle.cf_base.specs.declared.waits.Ask.{Ask}
use Rattle.cf_base.specs.declared.waits.AskKind.{AskKind}
use Rattle.cf_base.specs.declared.waits.AskKind.TheVariants as ask_kind
use Rattle.cf_base.specs.declared.waits.Cause.{Cause}
use Rattle.cf_base.specs.declared.waits.Cause.TheVariants as cause
use Rattle.cf_model.specs.Asks.{cause_if, ended_of, is_over, is_wanted, left_of, misses_in, or_met, released, waits_by, waits_for, why}
use Rattle.cf_model.specs.Missing.{View, Wait, is_met, misses_block, needed}
use Rattle.cf_model.specs.Numbers.{same_key}
use Rattle.cf_model.specs.Requests.{Deed, Expires, Leaves, Live, has_block, is_data, live_of}
use Rattle.cf_model.specs.Words.{is_empty}

untrue : (b : Bool) → (b ≡ true → ⊥) → b ≡ false
untrue true f = absurd (f refl)
untrue false f = refl

-- asks that are the same but for their ticks

touched_alike : (item : ItemId) (key : Key) (lo hi : ℕ) (xs ys : List Live) → AreAlike xs ys → list_any (is_touched item key lo hi) ys ≡ list_any (is_touched item key lo hi) xs
touched_alike item key lo hi [] [] h = refl
touched_alike item key lo hi [] (y ∷ ys) h = absurd h
touched_alike item key lo hi (x ∷ xs) [] h = absurd h
touched_alike item key lo hi (x ∷ xs) (y ∷ ys) h =
    ap (λ b. b || list_any (is_touched item key lo hi) ys)
    (ap (λ (k : Ask). (eqb k.item.0 item.0) && not (same_key k.key key) && list_any (in_blocks lo hi) y.owned) h.0 ∙ ap (λ (o : List ℕ). (eqb x.ask.item.0 item.0) && not (same_key x.ask.key key) && list_any (in_blocks lo hi) o) h.1)
    ∙ ap (λ b. is_touched item key lo hi x || b) (touched_alike item key lo hi xs ys h.3)

those_alike : (key : Key) (xs ys : List Live) → AreAlike xs ys → map (λ a. a.ask.key) (those (live_of ys key)) ≡ map (λ a. a.ask.key) (those (live_of xs key))
those_alike key [] [] h = refl
those_alike key [] (y ∷ ys) h = absurd h
those_alike key (x ∷ xs) [] h = absurd h
those_alike key (x ∷ xs) (y ∷ ys) h = ap (λ b. map (λ (a : Live). a.ask.key) (those (cond b (Some y) (live_of ys key)))) (ap (λ (k : Ask). same_key k.key key) h.0) ∙ one (same_key x.ask.key key) (those_alike key xs ys h.3) where
  one : (b : Bool) → map (λ a. a.ask.key) (those (live_of ys key)) ≡ map (λ a. a.ask.key) (those (live_of xs key))
      → map (λ (a : Live). a.ask.key) (those (cond b (Some y) (live_of ys key))) ≡ map (λ (a : Live). a.ask.key) (those (cond b (Some x) (live_of xs key)))
  one true e = ap (λ (k : Ask). k.key ∷ []) h.0
  one false e = e

waits_by_alike : (kind : AskKind) (v : View) (x y : Live) (w : Wait) → y.owned ≡ x.owned → y.wait ≡ x.wait → waits_by kind v y w ≡ waits_by kind v x w
waits_by_alike ask_kind.Fetch v x y w o i = ap (λ (l : List ℕ). misses_in v l w) o
waits_by_alike ask_kind.Validate v x y w o i = ap (λ (l : List ℕ). misses_in v l w) o
waits_by_alike ask_kind.List v x y w o i = refl
waits_by_alike ask_kind.Dehydrate v x y w o i = ap (λ j. same_key w.id.0 j.0) i

waits_alike : (v : View) (key : Key) (w : Wait) (xs ys : List Live) → AreAlike xs ys → waits_for v (live_of ys key) w ≡ waits_for v (live_of xs key) w
waits_alike v key w [] [] h = refl
waits_alike v key w [] (y ∷ ys) h = absurd h
waits_alike v key w (x ∷ xs) [] h = absurd h
waits_alike v key w (x ∷ xs) (y ∷ ys) h = ap (λ b. waits_for v (cond b (Some y) (live_of ys key)) w) (ap (λ (k : Ask). same_key k.key key) h.0) ∙ one (same_key x.ask.key key) (waits_alike v key w xs ys h.3) where
  one : (b : Bool) → waits_for v (live_of ys key) w ≡ waits_for v (live_of xs key) w → waits_for v (cond b (Some y) (live_of ys key)) w ≡ waits_for v (cond b (Some x) (live_of xs key)) w
  one true e = ap (λ (k : Ask). waits_by k.kind v y w) h.0 ∙ waits_by_alike x.ask.kind v x y w h.1 h.2
  one false e = e

owned_alike : (key : Key) (x y : Live) (xs ys : List Live) → AreAlike xs ys → live_of xs key ≡ Some x → live_of ys key ≡ Some y → y.owned ≡ x.owned
owned_alike key x y [] [] h e f = let z : ◌≡◌ {A = Option Live} None (Some x) = e in cc
owned_alike key x y [] (b ∷ ys) h e f = absurd h
owned_alike key x y (a ∷ xs) [] h e f = absurd h
owned_alike key x y (a ∷ xs) (b ∷ ys) h e f = one (same_key a.ask.key key) (owned_alike key x y xs ys h.3) e (ap (λ c. cond c (Some b) (live_of ys key)) (sym (ap (λ (k : Ask). same_key k.key key) h.0)) ∙ f) where
  one : (c : Bool) → (live_of xs key ≡ Some x → live_of ys key ≡ Some y → y.owned ≡ x.owned) → cond c (Some a) (live_of xs key) ≡ Some x → cond c (Some b) (live_of ys key) ≡ Some y → y.owned ≡ x.owned
  one true more i j = let p : a ≡ x = cc in let q : b ≡ y = cc in ap (λ (l : Live). l.owned) (sym q) ∙ h.1 ∙ ap (λ (l : Live). l.owned) p
  one false more i j = more i j

-- the waits that end

near_why : (item : ItemId) (u v : View) (d : Deed) (start end : ℕ) (waits : List Wait) (asks : List Live) (ended : List (Wait × Cause)) → Narrows u v start end → AllByRecursion (λ w. (eqb w.item.0 item.0) ≡ true → is_met u w ≡ false) waits
    → ended ≡ ended_of (why_near item v d (awaited_by d asks) start end) waits → ended ≡ ended_of (why item v d asks) waits
near_why item u v d start end waits asks ended narrow unmet e =
    e ∙ ended_same (why_near item v d (awaited_by d asks) start end) (why_for item v d (awaited_by d asks)) waits (all_near item u v d (awaited_by d asks) start end waits narrow unmet) ∙ ap (λ (f : Wait → Option Cause). ended_of f waits) (same_why item v d asks)

within_of : (v : View) (lo hi : ℕ) (f : Wait → Option Cause) (waits : List Wait) (ended : List (Wait × Cause)) → ended ≡ ended_of f waits → AllByRecursion (λ e. IsWithin v lo hi e.0) ended → AllByRecursion (λ w. is_some (f w) ≡ true → IsWithin v lo hi w) waits
within_of v lo hi f waits ended e h = of_ended (IsWithin v lo hi) f waits (subst (λ (l : List (Wait × Cause)). AllByRecursion (λ e. IsWithin v lo hi e.0) l) e h)

-- blocks leave an ask

none_wanted : (item : ItemId) (v : View) (blocks : List ℕ) (b : ℕ) (ws : List Wait) → ((w : Wait) → misses_in v blocks w ≡ false) → has_block blocks b ≡ true → is_wanted item v ws b ≡ false
none_wanted item v blocks b [] lacks h = refl
none_wanted item v blocks b (w ∷ ws) lacks h = ap (λ c. c || is_wanted item v ws b) (right (eqb w.item.0 item.0) (misses_block v w b) none) ∙ none_wanted item v blocks b ws lacks h where
  none : misses_block v w b ≡ false
  none = untrue (misses_block v w b) (λ t. not_both (misses_in v blocks w) (some_owned (misses_block v w) blocks b h t) (lacks w))

  right : (x y : Bool) → y ≡ false → (x && y) ≡ false
  right true y k = k
  right false y k = refl

pub leave_plan : (item : ItemId) (u v : View) (start end lo hi : ℕ) (key : Key) (blocks : List ℕ) (waits near : List Wait) (xs ys : List Live) (own : Live) (ended : List (Wait × Cause)) → Narrows u v start end → length v.lacks ≤ 2 ^ 24 → lo ≤ start → end ≤ hi
    → AllByRecursion (λ e. IsWithin v lo hi e.0) ended → list_any (is_touched item key lo hi) xs ≡ false → ((w : Wait) → misses_in v blocks w ≡ false) → live_of xs key ≡ Some own → ended ≡ ended_of (why_near item v (Leaves key blocks) None start end) near
    → AreNear item v start end near waits → is_awaited item v waits (kept_without blocks own) ≡ true → AreAlike xs ys → MayPlan item u key waits ys → PlansLeave item v key blocks waits ys ended (kept_without blocks own)
leave_plan item u v start end lo hi key blocks waits near xs ys own ended narrow small low high inside out lacks live is nears awaited alike may = record {
  ends = sym ends;
  cancels = plan.0.0;
  keeps = ap (λ (l : List Live). live_of l key) plan.1 ∙ kept (is_empty (others own.owned)) refl;
  makes = plan.0.1;
} where
  d : Deed
  d = Leaves key blocks

  others : List ℕ → List ℕ
  others o = filter (λ b. not (has_block blocks b)) o

  ends : ended ≡ ended_of (why item v d ys) waits
  ends = near_why item u v d start end waits ys ended narrow may.settled.unmet (is ∙ nears (why_near item v d None start end) (λ w h. none_leaves item v key blocks start end w h))

  -- the ask of the key, with its ticks
  same : AllByRecursion (λ a. same_key a.ask.key key ≡ true → (is_data a.ask.kind ≡ true) × (a.owned ≡ own.owned)) ys
  same = all_then (λ a. (is_data a.ask.kind ≡ true) × (same_key a.ask.key key ≡ true → live_of ys key ≡ Some a)) (λ a. same_key a.ask.key key ≡ true → (is_data a.ask.kind ≡ true) × (a.owned ≡ own.owned)) (λ a p t. (p.0, owned_alike key own a xs ys alike live (p.1 t)))
      ys (all_both (λ a. is_data a.ask.kind ≡ true) (λ a. same_key a.ask.key key ≡ true → live_of ys key ≡ Some a) ys may.data_asks may.unique)

  over : (b : Bool) → is_empty (others own.owned) ≡ b → AllByRecursion (λ a. same_key a.ask.key key ≡ true → is_over d (released key blocks a) ≡ b) ys
  over b e = all_then (λ a. same_key a.ask.key key ≡ true → (is_data a.ask.kind ≡ true) × (a.owned ≡ own.owned)) (λ a. same_key a.ask.key key ≡ true → is_over d (released key blocks a) ≡ b)
      (λ a f t. over_is key blocks a (f t).0 t ∙ ap (λ (o : List ℕ). is_empty (others o)) (f t).1 ∙ e) ys same

  kept : (b : Bool) → is_empty (others own.owned) ≡ b → live_of (after d ys) key ≡ cond b None (Some (record own { owned = others own.owned; ticks = 0 }))
  kept true e = none_live key blocks ys (over true e)
  kept false e = some_live key blocks own xs ys alike live (over false e)

  plan : (((plan_of item v d waits ys).cancelled ≡ []) × ((plan_of item v d waits ys).made ≡ [])) × ((plan_of item v d waits ys).kept ≡ after d ys)
  plan = leaves item u v start end lo hi waits ys key blocks narrow small low high (within_of v lo hi (why item v d ys) waits ended ends inside) may.settled may.data_asks may.plain
      (touched_alike item key lo hi xs ys alike ∙ out) (λ b h. none_wanted item v blocks b (left_of (why item v d ys) waits) lacks h)
      (all_then (λ a. same_key a.ask.key key ≡ true → (is_data a.ask.kind ≡ true) × (a.owned ≡ own.owned)) _ (λ a f t g. stays_awaited item v key blocks waits ys own a awaited (f t).0 (f t).1 t g) ys same)

-- an ask ends by time

pub expiry_plan : (item : ItemId) (u v : View) (start end lo hi from to : ℕ) (key : Key) (waits near : List Wait) (xs ys : List Live) (own : Option Live) (ended : List (Wait × Cause)) (cancelled : List Key) → Narrows u v start end → length v.lacks ≤ 2 ^ 24 → lo ≤ start → end ≤ hi
    → AllByRecursion (λ e. IsWithin v lo hi e.0) ended → list_any (is_touched item key lo hi) xs ≡ false → own ≡ live_of xs key → cancelled ≡ map (λ a. a.ask.key) (those own)
    → ended ≡ ended_of (why_near item v (Expires key) own start end) near → from ≤ start → end ≤ to → IsAround from to own → AreNear item v from to near waits → AreAlike xs ys → MayPlan item u key waits ys → PlansExpiry item v key waits ys ended cancelled
expiry_plan item u v start end lo hi from to key waits near xs ys own ended cancelled narrow small low high inside out live keys is first last around nears alike may = record {
  ends = sym ends;
  cancels = plan.0 ∙ ap (map (λ a. a.ask.key)) may.once ∙ those_alike key xs ys alike ∙ ap (λ (o : Option Live). map (λ a. a.ask.key) (those o)) (sym live) ∙ sym keys;
  makes = plan.1;
} where
  d : Deed
  d = Expires key

  same : why_near item v d own start end ≡ why_near item v d (live_of ys key) start end
  same = ap (λ (o : Option Live). why_near item v d o start end) live ∙ (λ j w. cond (eqb w.item.0 item.0) (or_met (cause_if (sym (waits_alike v key w xs ys alike) j) cause.TimedOut) (reaches v w)) None) where
    reaches : View → Wait → Bool
    reaches v w = reaches_into (needed v w) start end && is_met v w

  ends : ended ≡ ended_of (why item v d ys) waits
  ends = near_why item u v d start end waits ys ended narrow may.settled.unmet
      (is ∙ nears (why_near item v d own start end) (λ w h. none_expires item v key own start end from to w small first last (λ a e. own_data key xs ys own a alike may.data_asks live e) around h) ∙ ap (λ (f : Wait → Option Cause). ended_of f waits) same)

  plan : ((plan_of item v d waits ys).cancelled ≡ map (λ a. a.ask.key) (filter (λ a. same_key a.ask.key key) ys)) × ((plan_of item v d waits ys).made ≡ [])
  plan = expires item u v start end lo hi waits ys key narrow small low high (within_of v lo hi (why item v d ys) waits ended ends inside) may.settled may.data_asks may.plain (touched_alike item key lo hi xs ys alike ∙ out) may.full may.unique
