-- What waits is left as long as it is not met, and what is asked for then.
use Rattle.std.proofs.Common.{◌≡◌, ◌⊎◌, ◌+◌, ◌-◌, ℕ, Bool, true, false, List, [], ◌∷◌, ◌++◌, refl, sym, ◌∙◌, subst, inl, inr, arith, length, map, max, min, take}
use Rattle.std.specs.Prelude.{Option, Some, None, cond, drop, filter, is_some, not, ◌&&◌, ◌||◌, ◌==◌, if◌then◌else◌}
use Rattle.std.specs.List.{list_all, list_any}
use Rattle.std.proofs.Math.Seq.{take-length}
use Rattle.std.proofs.lemmas.Bool.Decides.{nat_tests}
use Rattle.cf_base.specs.declared.ids.ItemId.{ItemId}
use Rattle.cf_base.specs.declared.ids.Key.{Key}
use Rattle.cf_base.specs.declared.ids.WaitId.{WaitId}
use Rattle.cf_base.specs.declared.waits.AskKind.{AskKind}
use Rattle.cf_base.specs.declared.waits.AskKind.TheVariants as ask_kind
use Rattle.cf_base.specs.declared.waits.Cause.{Cause}
use Rattle.cf_base.specs.declared.waits.End.{End}
use Rattle.cf_model.specs.Arrows.{each}
use Rattle.cf_model.specs.Asks.{after_deed, ask_of_run, dehydrate_ask, dehydrate_asks, is_cancelled, is_idle_by, is_over, left_of, list_ask, list_asks, new_asks, open_blocks, runs_of, with_keys}
use Rattle.cf_model.specs.Missing.{View, Wait}
use Rattle.cf_model.specs.Numbers.{same_key}
use Rattle.cf_model.specs.Requests.{Live, Nothing, is_data, is_dehydrate, is_dehydrate_wait, is_list, is_list_wait}
use Rattle.cf_model.specs.Settling.{accessed, end_of, end_wait, is_access, is_own, tell_end, with_ended}
use Rattle.cf_model.specs.State.{Filter}
use Rattle.cf_model.specs.Words.{is_empty, when}
use Rattle.cf_model.specs.Trees.{Ends}
use Rattle.cf_model_laws.specs.Invariant.{All}
use Rattle.cf_model_laws.proofs.Gathered.{all_any, all_append, all_map, all_passed, all_weaker}
use Rattle.cf_model_laws.proofs.RightItems.{no_way}
use Rattle.cf_model_laws.proofs.SoundSettles.{any_longer, left_true, or_right, right_true}
use Rattle.cf_model_convergence.specs.Hearing.{IsPlainAsk, IsPlainWait, is_asked_for}
use Rattle.cf_model_convergence.specs.Trees.{is_listing_on}

-- what a wait finds missing

pub lacks_some : (hs : List (Option ℕ)) → list_all is_some hs ≡ false → list_any (λ b. b) (map (λ h. not (is_some h)) hs) ≡ true
lacks_some [] e = no_way (sym e)
lacks_some (h ∷ hs) e = by (is_some h) e (lacks_some hs) where
  by : (b : Bool) → (b && list_all is_some hs) ≡ false → (list_all is_some hs ≡ false → list_any (λ b. b) (map (λ h. not (is_some h)) hs) ≡ true) → (not b || list_any (λ b. b) (map (λ h. not (is_some h)) hs)) ≡ true
  by true z more = more z
  by false z more = refl

all_of : (n : ℕ) → min (0 + n) n - max 0 0 ≡ n
all_of n = grind (arith)

pub some_missed : (bs : List Bool) → list_any (λ b. b) bs ≡ true → list_any (λ b. b) (take (min (0 + length bs) (length bs) - max 0 0) (drop (max 0 0) bs)) ≡ true
some_missed bs e = subst (λ (m : ℕ). list_any (λ b. b) (take m bs) ≡ true) (sym (all_of (length bs))) (subst (λ (cs : List Bool). list_any (λ b. b) cs ≡ true) (sym (take-length bs)) e)

-- waits that are left

pub stays_any : (f : Wait → Option Cause) (g : Wait → Bool) → ((w : Wait) → g w ≡ true → f w ≡ None) → (ws more : List Wait) → list_any g ws ≡ true → list_any g (left_of f (ws ++ more)) ≡ true
stays_any f g k [] more e = no_way e
stays_any f g k (w ∷ ws) more e = by (f w) (g w) refl refl e (stays_any f g k ws more) where
  some : (c : Cause) → ◌≡◌ {A = Option Cause} (Some c) None → ⊥
  some c z = cc

  by : (o : Option Cause) (b : Bool) → f w ≡ o → g w ≡ b → (b || list_any g ws) ≡ true → (list_any g ws ≡ true → list_any g (left_of f (ws ++ more)) ≡ true) → list_any g (cond (not (is_some o)) (w ∷ left_of f (ws ++ more)) (left_of f (ws ++ more))) ≡ true
  by None true p q e g2 = rw q refl
  by None false p q e g2 = rw q (g2 e)
  by (Some c) true p q e g2 = absurd (some c (sym p ∙ k w q))
  by (Some c) false p q e g2 = g2 e

pub last_left : (f : Wait → Option Cause) (g : Wait → Bool) (w : Wait) → f w ≡ None → g w ≡ true → (ws : List Wait) → list_any g (left_of f (ws ++ w ∷ [])) ≡ true
last_left f g w p q [] = by (f w) p where
  by : (o : Option Cause) → o ≡ None → list_any g (cond (not (is_some o)) (w ∷ []) []) ≡ true
  by None e = rw q refl
  by (Some c) e = absurd (some e) where
    some : ◌≡◌ {A = Option Cause} (Some c) None → ⊥
    some z = cc
last_left f g w p q (v ∷ ws) = by (not (is_some (f v))) (last_left f g w p q ws) where
  by : (b : Bool) → list_any g (left_of f (ws ++ w ∷ [])) ≡ true → list_any g (cond b (v ∷ left_of f (ws ++ w ∷ [])) (left_of f (ws ++ w ∷ []))) ≡ true
  by true e = or_right (g v) (list_any g (left_of f (ws ++ w ∷ []))) e
  by false e = e

pub was_any : (f : Wait → Option Cause) (g : Wait → Bool) (w : Wait) (ws : List Wait) → list_any g (left_of f (ws ++ w ∷ [])) ≡ true → (list_any g ws ≡ true) ⊎ (g w ≡ true)
was_any f g w [] e = by (not (is_some (f w))) e where
  one : (b : Bool) → (b || false) ≡ true → b ≡ true
  one true z = refl
  one false z = z

  by : (b : Bool) → list_any g (cond b (w ∷ []) []) ≡ true → (false ≡ true) ⊎ (g w ≡ true)
  by true z = inr (one (g w) z)
  by false z = inl z
was_any f g w (v ∷ ws) e = by (not (is_some (f v))) (g v) refl e (was_any f g w ws) where
  more : (b : Bool) → (list_any g ws ≡ true) ⊎ (g w ≡ true) → ((b || list_any g ws) ≡ true) ⊎ (g w ≡ true)
  more b (inl z) = inl (or_right b (list_any g ws) z)
  more b (inr z) = inr z

  by : (a b : Bool) → g v ≡ b → list_any g (cond a (v ∷ left_of f (ws ++ w ∷ [])) (left_of f (ws ++ w ∷ []))) ≡ true → (list_any g (left_of f (ws ++ w ∷ [])) ≡ true → (list_any g ws ≡ true) ⊎ (g w ≡ true)) → ((g v || list_any g ws) ≡ true) ⊎ (g w ≡ true)
  by true true q e k = inl (rw q refl)
  by true false q e k = more (g v) (k (subst (λ (c : Bool). (c || list_any g (left_of f (ws ++ w ∷ []))) ≡ true) q e))
  by false b q e k = more (g v) (k e)

-- asks that are made

pub keyed_plain : (epoch n : ℕ) (asks : List Live) → All (λ a. IsPlainAsk a.ask) asks → All (λ a. IsPlainAsk a.ask) (with_keys epoch n asks)
keyed_plain epoch n [] h = tt
keyed_plain epoch n (a ∷ as') h = (h.0, keyed_plain epoch (n + 1) as' h.1)

run_plain : (fetch : Bool) → (is_list (cond fetch ask_kind.Fetch ask_kind.Validate) ≡ false) × (is_dehydrate (cond fetch ask_kind.Fetch ask_kind.Validate) ≡ false)
run_plain true = (refl, refl)
run_plain false = (refl, refl)

none_lists : (item : ItemId) (asks : List Live) (ws : List Wait) → All (IsPlainWait asks) ws → is_listing_on ws item ≡ false
none_lists item asks [] h = refl
none_lists item asks (w ∷ ws) h = by (w.item.0 == item.0) (is_list_wait w.kind) h.0.0 (none_lists item asks ws h.1) where
  by : (a b : Bool) → b ≡ false → is_listing_on ws item ≡ false → ((a && b) || is_listing_on ws item) ≡ false
  by true true z k = no_way (sym z)
  by true false z k = k
  by false b z k = k

any_right : {A : Type 0} (f g : A → Bool) (as' : List A) → list_any (λ a. f a && g a) as' ≡ true → list_any g as' ≡ true
any_right f g [] e = e
any_right f g (a ∷ as') e = by (f a) (g a) e (any_right f g as') where
  by : (b c : Bool) → ((b && c) || list_any (λ x. f x && g x) as') ≡ true → (list_any (λ x. f x && g x) as' ≡ true → list_any g as' ≡ true) → (c || list_any g as') ≡ true
  by b true e more = refl
  by true false e more = more e
  by false false e more = more e

pub new_plain : (item : ItemId) (v : View) (ws : List Wait) (asks : List Live) → All (IsPlainWait asks) ws → All (λ a. IsPlainAsk a.ask) (new_asks item v ws asks)
new_plain item v ws asks h =
    all_append (λ a. IsPlainAsk a.ask) (map (ask_of_run item v.base) (runs_of v (open_blocks item v ws asks)) ++ list_asks item ws asks) (dehydrate_asks item ws asks)
    (all_append (λ a. IsPlainAsk a.ask) (map (ask_of_run item v.base) (runs_of v (open_blocks item v ws asks))) (list_asks item ws asks)
    (all_map (λ r. Unit {0}) (λ a. IsPlainAsk a.ask) (ask_of_run item v.base) (λ r _. run_plain r.fetch) (runs_of v (open_blocks item v ws asks)) (all_any (λ r. Unit {0}) (λ r. tt) (runs_of v (open_blocks item v ws asks))))
    (lists (is_listing_on ws item) _ (none_lists item asks ws h)))
    (all_map (λ w. ⊥) (λ a. IsPlainAsk a.ask) dehydrate_ask (λ w k. absurd k) _ (all_passed (IsPlainWait asks) (λ w. ⊥) _ never ws h)) where
      lists : (b c : Bool) → b ≡ false → All (λ a. IsPlainAsk a.ask) (when (b && c) (list_ask item ∷ []))
      lists true c e = no_way (sym e)
      lists false c e = tt

      none : (a b c : Bool) → (b ≡ true → c ≡ true) → (a && b && not c) ≡ true → ⊥
      none true true true k z = no_way z
      none true true false k z = no_way (k refl)
      none true false c k z = no_way z
      none false b c k z = no_way z

      never : (w : Wait) → ((w.item.0 == item.0) && is_dehydrate_wait w.kind && not (list_any (λ a. same_key a.wait.0 w.id.0) asks)) ≡ true → IsPlainWait asks w → ⊥
      never w e k = none (w.item.0 == item.0) (is_dehydrate_wait w.kind) _ (λ z. any_right (λ a. is_dehydrate a.ask.kind) (λ a. same_key a.wait.0 w.id.0) asks (k.1 z)) e

-- asks for dehydrations that are left while their waits are

any_passed : {A : Type 0} (g p : A → Bool) → ((a : A) → g a ≡ true → p a ≡ true) → (as' : List A) → list_any g as' ≡ true → list_any g (filter p as') ≡ true
any_passed g p k [] e = e
any_passed g p k (a ∷ as') e = by (g a) (p a) refl (k a) e (any_passed g p k as') where
  by : (b c : Bool) → g a ≡ b → (b ≡ true → c ≡ true) → (b || list_any g as') ≡ true → (list_any g as' ≡ true → list_any g (filter p as') ≡ true) → list_any g (cond c (a ∷ filter p as') (filter p as')) ≡ true
  by true true q k e more = rw q refl
  by true false q k e more = no_way (k refl)
  by false true q k e more = or_right (g a) (list_any g (filter p as')) (more e)
  by false false q k e more = more e

any_mapped : {A B : Type 0} (g : B → Bool) (f : A → B) (as' : List A) → list_any (λ a. g (f a)) as' ≡ true → list_any g (map f as') ≡ true
any_mapped g f [] e = e
any_mapped g f (a ∷ as') e = by (g (f a)) e (any_mapped g f as') where
  by : (b : Bool) → (b || list_any (λ x. g (f x)) as') ≡ true → (list_any (λ x. g (f x)) as' ≡ true → list_any g (map f as') ≡ true) → (b || list_any g (map f as')) ≡ true
  by true e more = refl
  by false e more = more e

key_turned : (a b : Key) → same_key a b ≡ true → same_key b a ≡ true
key_turned a b e = grind (arith, nat_tests, e)

module _ (item : ItemId) (v : View) (ws : List Wait) (asks : List Live) where
  abbrev pub kept_asks : List Live
  kept_asks = filter (λ a. not (is_cancelled item v Nothing ws a)) (filter (λ a. not (is_over Nothing a)) (map (after_deed Nothing) asks))

  not_over : (k : AskKind) (e : Bool) → is_dehydrate k ≡ true → not (is_data k && e) ≡ true
  not_over ask_kind.Fetch e z = no_way z
  not_over ask_kind.Validate e z = no_way z
  not_over ask_kind.List e z = no_way z
  not_over ask_kind.Dehydrate e z = refl

  not_idle : (a : Live) (k : AskKind) (same : Bool) → is_dehydrate k ≡ true → list_any (λ w. same_key w.id.0 a.wait.0) ws ≡ true → not (same && is_idle_by k item v ws a) ≡ true
  not_idle a ask_kind.Fetch same z e = no_way z
  not_idle a ask_kind.Validate same z e = no_way z
  not_idle a ask_kind.List same z e = no_way z
  not_idle a ask_kind.Dehydrate true z e = rw e refl
  not_idle a ask_kind.Dehydrate false z e = refl

  kept_for : (u : Wait) → ((g : Wait → Bool) → g u ≡ true → list_any g ws ≡ true) → is_asked_for asks u ≡ true → is_asked_for kept_asks u ≡ true
  kept_for u there e =
      any_passed (λ a. is_dehydrate a.ask.kind && same_key a.wait.0 u.id.0) (λ a. not (is_cancelled item v Nothing ws a))
      (λ a z. not_idle a a.ask.kind (a.ask.item.0 == item.0) (left_true (is_dehydrate a.ask.kind) (same_key a.wait.0 u.id.0) z) (there (λ w. same_key w.id.0 a.wait.0) (key_turned a.wait.0 u.id.0 (right_true (is_dehydrate a.ask.kind) (same_key a.wait.0 u.id.0) z))))
      (filter (λ a. not (is_over Nothing a)) (map (after_deed Nothing) asks))
      (any_passed (λ a. is_dehydrate a.ask.kind && same_key a.wait.0 u.id.0) (λ a. not (is_over Nothing a)) (λ a z. not_over a.ask.kind (is_empty a.owned) (left_true (is_dehydrate a.ask.kind) (same_key a.wait.0 u.id.0) z)) (map (after_deed Nothing) asks)
      (any_mapped (λ a. is_dehydrate a.ask.kind && same_key a.wait.0 u.id.0) (after_deed Nothing) asks e))

  kept_each : (us : List Wait) → ((g : Wait → Bool) → list_any g us ≡ true → list_any g ws ≡ true) → All (IsPlainWait asks) us → All (IsPlainWait kept_asks) us
  kept_each [] inside h = tt
  kept_each (u ∷ us) inside h = ((h.0.0, λ z. kept_for u (λ g e. inside g (rw e refl)) (h.0.1 z)), kept_each us (λ g e. inside g (or_right (g u) (list_any g us) e)) h.1)

  pub kept_plain : All (IsPlainWait asks) ws → All (IsPlainWait kept_asks) ws
  kept_plain h = kept_each ws (λ g e. e) h

pub more_plain : (asks made : List Live) (ws : List Wait) → All (IsPlainWait asks) ws → All (IsPlainWait (asks ++ made)) ws
more_plain asks made ws h = all_weaker (IsPlainWait asks) (IsPlainWait (asks ++ made)) (λ w k. (k.0, λ z. any_longer (λ a. is_dehydrate a.ask.kind && same_key a.wait.0 w.id.0) asks made (k.1 z))) ws h

-- the lines of ends and asks leave all else

pub record IsSameBut (x y : Filter) : Type 0 where
  pub items : y.volume.items ≡ x.volume.items
  pub cursor : y.volume.book.cursor ≡ x.volume.book.cursor
  pub entries : y.volume.book.entries ≡ x.volume.book.entries
  pub seen : y.volume.book.seen ≡ x.volume.book.seen
  pub tombstones : y.volume.book.tombstones ≡ x.volume.book.tombstones
  pub handles : y.handles ≡ x.handles
  pub connected : y.connected ≡ x.connected
  pub waiting : y.waiting ≡ x.waiting
  pub outbox : y.outbox ≡ x.outbox

ended_same : (e : Wait × Cause) (w x : Filter) → IsSameBut w x → IsSameBut w (with_ended e x)
ended_same e w x h = accesses (is_access e.0.kind e.1) (tell_end e.0.id (end_of x.volume.items e.0 e.1) (is_own e.0.id x) x) (tells e.0.id (end_of x.volume.items e.0 e.1) (is_own e.0.id x)) where
  tells : (i : WaitId) (d : End) (own : Bool) → IsSameBut w (tell_end i d own x)
  tells i d true = record { items = h.items; cursor = h.cursor; entries = h.entries; seen = h.seen; tombstones = h.tombstones; handles = h.handles; connected = h.connected; waiting = h.waiting; outbox = h.outbox }
  tells i d false = record { items = h.items; cursor = h.cursor; entries = h.entries; seen = h.seen; tombstones = h.tombstones; handles = h.handles; connected = h.connected; waiting = h.waiting; outbox = h.outbox }

  accesses : (is : Bool) (y : Filter) → IsSameBut w y → IsSameBut w (if is then accessed e.0.item y else y)
  accesses true y k = record { items = k.items; cursor = k.cursor; entries = k.entries; seen = k.seen; tombstones = k.tombstones; handles = k.handles; connected = k.connected; waiting = k.waiting; outbox = k.outbox }
  accesses false y k = k

pub ends_same : (es : List (Wait × Cause)) (w x : Filter) (u : Unit {0}) (y : Filter) → IsSameBut w x → Ends (each end_wait es x) u y → IsSameBut w y
ends_same [] w x u y h e = subst (IsSameBut w) (sym e.1) h
ends_same (d ∷ es) w x u y h e = ends_same es w (with_ended d x) u y (ended_same d w x h) e
