-- All turns of a feed in which nothing was postponed and no step was left out leave each live entry's item here.
use Rattle.cf_model_convergence.proofs.FeedsTurned.{all_turned}
use Rattle.cf_model.specs.Skips.{in_use}
use Rattle.std.proofs.Common.{◌≡◌, ◌⊎◌, ◌<◌, ◌≤◌, ◌+◌, ℕ, Bool, true, false, List, [], ◌∷◌, ◌++◌, refl, sym, ◌∙◌, ap, subst, inl, inr, arith}
use Rattle.std.specs.Prelude.{Option, Some, None, filter, not, nat_lt, ◌&&◌, ◌||◌}
use Rattle.std.proofs.lemmas.List.{append-nil, append_assoc}
use Rattle.cf_base.specs.declared.messages.Entry.{Entry}
use Rattle.cf_model.specs.Arrows.{seq}
use Rattle.cf_model.specs.Feeds.{Fed, all_turns, comes_again, depth_of_entry, first_turn, first_turn_by, in_turn, is_later, second_turn, second_turns, take_turn, turns, with_turn, parent_here, has_child}
use Rattle.cf_model.specs.Identities.{by_target}
use Rattle.cf_model.specs.Items.{Item}
use Rattle.cf_model.specs.State.{State, items_now}
use Rattle.cf_model.specs.Trees.{Ends, Keeps}
use Rattle.cf_model.specs.Words.{says, sorted}
use Rattle.cf_model.proofs.TreeLaws.{kept_at_end}
use Rattle.cf_model_laws.specs.Invariant.{All, Among}
use Rattle.cf_model_laws.specs.Premises.{IsFair}
use Rattle.cf_model_laws.proofs.FeedsGuarded.{take_turn_keeps}
use Rattle.cf_model_laws.proofs.Gathered.{all_sorted, all_weaker}
use Rattle.cf_model_laws.proofs.RightItems.{no_way}
use Rattle.cf_model_convergence.proofs.FeedsTold.{all_among}
use Rattle.cf_model_populated.specs.Populated.{IsPopulated}
use Rattle.cf_model_agreement.proofs.FeedsDone.{Turning}
use Rattle.cf_model_agreement.proofs.TurnsDone.{TurnLeft, turn_left}
use Rattle.cf_model_agreement.proofs.TurnSteps.{ends_bind, skips}
use Rattle.cf_model_arrivals.specs.Kept.{AreKept, IsKept}
use Rattle.cf_model_arrivals.proofs.KeptItems.{AreSome, IsApart, kept_skipping}
use Rattle.cf_model_arrivals.proofs.TurnKept.{parent_found, turn_kept}
use Rattle.cf_model_laws.proofs.FeedFrames.{IsTold}
use Rattle.cf_model.specs.State.{Filter, Link}

-- with the live entries, the last in front
abbrev pub with_all : List (ℕ × Bool) → List Entry → List (ℕ × Bool)
with_all ks [] = ks
with_all ks (e ∷ es) = with_all ((e.rid.0, e.dir) ∷ ks) es

-- what a walk over the turns needs besides
pub record Arriving (On : Entry → Type 0) (l : Link) (w : Filter) (P : State → Type 0) : Type 1 where
  pub turning : Turning On l w P
  pub room : (s : State) → P s → 2 ≤ s.filter.volume.next_item.0
  pub full : (s : State) → P s → All IsPopulated (items_now s)
  pub kinds : (e : Entry) → On e → (s : State) → P s → (i : Item) → by_target (items_now s) e.rid ≡ Some i → i.directory ≡ e.dir

module _ (On : Entry → Type 0) (l : Link) (w : Filter) (P : State → Type 0) (arriving : Arriving On l w P) where
  fair_at : (s : State) → P s → IsFair s.link
  fair_at s h = subst IsFair (sym (arriving.turning.fed s h).link) arriving.turning.fair

  -- of one entry
  abbrev Of : Entry → Entry → Type 0
  Of e d = On d × (d.rid.0 ≡ e.rid.0)

  of_told : (e d : Entry) → Of e d → IsTold (Of e) l d
  of_told e d on = let k : IsTold On l d = arriving.turning.told d on.0 in record { on = on; has = k.has; dir = k.dir; low = k.low; apart = k.apart }

  abbrev Both : List (ℕ × Bool) → State → Type 0
  Both ks t = P t × (IsFair t.link → AreKept (items_now t) ks)

  -- a turn leaves what is here of other entries
  turn_keeps : (e : Entry) (ks : List (ℕ × Bool)) (s : State) → On e → AreSome ks → IsApart ks e → Both ks s → Keeps (Both ks) (take_turn e s)
  turn_keeps e ks s on some apart h =
      (take_turn_keeps l w [] (Both ks)
      (record { steps = kept_skipping {On = Of e} P ks some (λ d k. all_weaker (λ x. e.rid.0 ≡ x.0 → ⊥) (λ x. d.rid.0 ≡ x.0 → ⊥) (λ x f z. f (sym k.1 ∙ z)) ks apart) (arriving.turning.steps (Of e) (λ d k. k.0)); fed = λ t k. arriving.turning.fed t k.0; none = λ _. refl }) e (of_told e e (on, refl))).keeps s h

  -- These are here; or an entry was postponed, or a step was left out.
  abbrev Good : ℕ → List (ℕ × Bool) → Fed → State → Type 0
  Good n ks f t = P t × (n ≤ skips t) × ((f.postponed ≡ true) ⊎ (n < skips t) ⊎ AreKept (items_now t) ks)

  abbrev IsSeatedIn : List (ℕ × Bool) → Entry → Type 0
  IsSeatedIn ks e = (e.live ≡ true) × ((e.parent.0 ≡ 0) → ⊥) × Among (e.parent.0, true) ks

  least : (n : ℕ) → n ≤ n
  least n = omega arith

  less : (a b c : ℕ) → a ≤ b → b ≤ c → a ≤ c
  less a b c h k = omega (arith, h, k)

  more_less : (n a b : ℕ) → n < a → a ≤ b → n < b
  more_less n a b h k = omega (arith, h, k)

  -- a turn of any entry
  some_turn : (n : ℕ) (e : Entry) (ks : List (ℕ × Bool)) (s : State) → On e → AreSome ks → IsApart ks e → P s → n ≤ skips s → AreKept (items_now s) ks → (b : Bool) (t : State) → Ends (take_turn e s) b t → P t × (n ≤ skips t) × AreKept (items_now t) ks
  some_turn n e ks s on some apart h few kept b t ends = (k.0, left.0, k.1 (fair_at t k.0)) where
    k : Both ks t
    k = kept_at_end (Both ks) (take_turn e s) b t (turn_keeps e ks s on some apart (h, λ fair. kept)) ends

    left : TurnLeft e (arriving.turning.plain e on) n b t
    left = turn_left e (arriving.turning.plain e on) n s s.filter.volume.next_item.0 ((arriving.turning.steps On (λ d k. k)).sound s h (fair_at s h)).now.order (arriving.turning.alone s h) few b t ends

  abbrev Left : ℕ → List (ℕ × Bool) → Bool → State → Type 0
  Left n ks b t = (b ≡ true) ⊎ (n < skips t) ⊎ AreKept (items_now t) ks

  -- one of a live entry whose parent is here
  live_turn : (n : ℕ) (e : Entry) (ks : List (ℕ × Bool)) (s : State) → On e → AreSome ks → IsApart ks e → IsSeatedIn ks e → P s → n ≤ skips s → AreKept (items_now s) ks → (b : Bool) (t : State) → Ends (take_turn e s) b t → Left n ((e.rid.0, e.dir) ∷ ks) b t
  live_turn n e ks s on some apart seat h few kept b t ends = by here.1 where
    p : (p : Item) × (parent_here s e ≡ Some p)
    p = parent_found s e seat.1 (arriving.full s h) (all_among (λ k. IsKept (items_now s) k.0 k.1) ks (e.parent.0, true) seat.2 kept)

    here : (n ≤ skips t) × ((b ≡ true) ⊎ (n < skips t) ⊎ IsKept (items_now t) e.rid.0 e.dir)
    here = turn_kept e (arriving.turning.plain e on) n s (arriving.room s h) (arriving.kinds e on s h) seat.0 p.0 p.1 few b t ends

    by : (b ≡ true) ⊎ (n < skips t) ⊎ IsKept (items_now t) e.rid.0 e.dir → Left n ((e.rid.0, e.dir) ∷ ks) b t
    by (inl z) = inl z
    by (inr (inl z)) = inr (inl z)
    by (inr (inr z)) = inr (inr (z, (some_turn n e ks s on some apart h few kept b t ends).2))

  step_good : (n : ℕ) (e : Entry) (ks more : List (ℕ × Bool)) (f g : Fed) (s t : State) → On e → (P s → n ≤ skips s → AreKept (items_now s) ks → (b : Bool) (m : State) → Ends (take_turn e s) b m → Left n more b m) → Good n ks f s → Ends (seq (take_turn e) (with_turn f) s) g t → Good n more g t × (g.later ≡ f.later)
  step_good n e ks more f g s t on turned h ends = by (ends_bind (take_turn e s) (with_turn f) g t ends) where
    or_left : (a c : Bool) → a ≡ true → (a || c) ≡ true
    or_left true c q = refl
    or_left false c q = no_way q

    or_right : (a c : Bool) → c ≡ true → (a || c) ≡ true
    or_right true c q = refl
    or_right false c q = q

    only : (k : ℕ) → k ≤ skips s → (b : Bool) (m : State) → Ends (take_turn e s) b m → P m × (k ≤ skips m)
    only k few b m z = let y = some_turn k e [] s on tt tt h.0 few tt b m z in (y.0, y.1)

    after : (b : Bool) (m : State) → Ends (take_turn e s) b m → Good n more (record f { postponed = f.postponed || b }) m
    after b m z = one h.2 where
      one : (f.postponed ≡ true) ⊎ (n < skips s) ⊎ AreKept (items_now s) ks → Good n more (record f { postponed = f.postponed || b }) m
      one (inl q) = let k = only n h.1 b m z in (k.0, k.1, inl (or_left f.postponed b q))
      one (inr (inl q)) = let k = only (skips s) (least (skips s)) b m z in (k.0, less n (skips s) (skips m) h.1 k.1, inr (inl (more_less n (skips s) (skips m) q k.1)))
      one (inr (inr q)) = let k = only n h.1 b m z in (k.0, k.1, two (turned h.0 h.1 q b m z)) where
        two : Left n more b m → ((f.postponed || b) ≡ true) ⊎ (n < skips m) ⊎ AreKept (items_now m) more
        two (inl y) = inl (or_right f.postponed b y)
        two (inr y) = inr y

    by : (b : Bool) × (m : State) × Ends (take_turn e s) b m × Ends (with_turn f b m) g t → Good n more g t × (g.later ≡ f.later)
    by k = (
      subst (λ (x : Fed). Good n more x t) (sym k.3.0) (subst (Good n more (record f { postponed = f.postponed || k.0 })) (sym k.3.1) (after k.0 k.1 k.2)),
      ap (λ (x : Fed). x.later) k.3.0,
    )

  -- each is seated by those before it
  abbrev pub Seats : List (ℕ × Bool) → List Entry → Type 0
  Seats ks [] = Unit {0}
  Seats ks (e ∷ es) = On e × IsSeatedIn ks e × IsApart ks e × ((e.rid.0 ≡ 0) → ⊥) × Seats ((e.rid.0, e.dir) ∷ ks) es

  abbrev pub Dead : List (ℕ × Bool) → Entry → Type 0
  Dead ks e = On e × IsApart ks e

  apart_first : (e : Entry) (es : List Entry) (ks : List (ℕ × Bool)) → IsApart (with_all ks es) e → IsApart ks e
  apart_first e [] ks h = h
  apart_first e (x ∷ es) ks h = (apart_first e es ((x.rid.0, x.dir) ∷ ks) h).1

  live_good : (n : ℕ) (es : List Entry) (ks : List (ℕ × Bool)) (f g : Fed) (s t : State) → AreSome ks → Seats ks es → Good n ks f s → Ends (turns first_turn es f s) g t → Good n (with_all ks es) g t × (g.later ≡ f.later)
  live_good n [] ks f g s t some seats h ends = (subst (λ (x : Fed). Good n ks x t) (sym ends.0) (subst (Good n ks f) (sym ends.1) h), ap (λ (x : Fed). x.later) ends.0)
  live_good n (e ∷ es) ks f g s t some seats h ends = by (is_later s e) refl k.2 (λ good. live_good n es ((e.rid.0, e.dir) ∷ ks) k.0 g k.1 t (seats.3, some) seats.4 good k.3) where
    k : (x : Fed) × (m : State) × Ends (first_turn e f s) x m × Ends (turns first_turn es x m) g t
    k = ends_bind (first_turn e f s) (turns first_turn es) g t ends

    alive : (a b c d : Bool) → (not a && b && c && d) ≡ true → a ≡ true → ⊥
    alive true b c d z q = no_way z
    alive false b c d z q = no_way q

    none : (o : Option Item) → says (comes_again s e) o ≡ true → e.live ≡ true → ⊥
    none None z live = no_way z
    none (Some i) z live = alive e.live i.directory (has_child s i.id) (not (in_use s i.id)) z live

    by : (b : Bool) → is_later s e ≡ b → Ends (first_turn_by b e f s) k.0 k.1 → (Good n ((e.rid.0, e.dir) ∷ ks) k.0 k.1 → Good n (with_all ks (e ∷ es)) g t × (g.later ≡ k.0.later)) → Good n (with_all ks (e ∷ es)) g t × (g.later ≡ f.later)
    by true q z again = absurd (none (by_target (items_now s) e.rid) q seats.1.0)
    by false q z again =
        let one = step_good n e ks ((e.rid.0, e.dir) ∷ ks) f k.0 s k.1 seats.0 (λ j few kept b m y. live_turn n e ks s seats.0 some seats.2 seats.1 j few kept b m y) h z in
        let rest = again one.0 in
        (rest.0, rest.1 ∙ one.1)

  -- dead entries, and then live ones
  first_good : (n : ℕ) (ds es : List Entry) (ks : List (ℕ × Bool)) (f g : Fed) (s t : State) → All (Dead (with_all ks es)) ds → AreSome ks → Seats ks es → Good n ks f s → Ends (turns first_turn (ds ++ es) f s) g t
      → (more : List Entry) × Good n (with_all ks es) g t × (g.later ≡ f.later ++ more) × All (Dead (with_all ks es)) more
  first_good n [] es ks f g s t dead some seats h ends = let k = live_good n es ks f g s t some seats h ends in ([], k.0, k.1 ∙ sym (append-nil f.later), tt)
  first_good n (d ∷ ds) es ks f g s t dead some seats h ends = by (is_later s d) k.2 (λ good. first_good n ds es ks k.0 g k.1 t dead.1 some seats good k.3) where
    k : (x : Fed) × (m : State) × Ends (first_turn d f s) x m × Ends (turns first_turn (ds ++ es) x m) g t
    k = ends_bind (first_turn d f s) (turns first_turn (ds ++ es)) g t ends

    apart : IsApart ks d
    apart = apart_first d es ks dead.0.1

    Again : Type 0
    Again = Good n ks k.0 k.1 → (more : List Entry) × Good n (with_all ks es) g t × (g.later ≡ k.0.later ++ more) × All (Dead (with_all ks es)) more

    by : (b : Bool) → Ends (first_turn_by b d f s) k.0 k.1 → Again → (more : List Entry) × Good n (with_all ks es) g t × (g.later ≡ f.later ++ more) × All (Dead (with_all ks es)) more
    by true z again =
        let rest = again (subst (λ (q : Fed). Good n ks q k.1) (sym z.0) (subst (Good n ks (record f { later = f.later ++ d ∷ [] })) (sym z.1) h)) in
        (d ∷ rest.0, rest.1, rest.2 ∙ ap (λ (q : Fed). q.later ++ rest.0) z.0 ∙ append_assoc f.later (d ∷ []) rest.0, (dead.0, rest.3))
    by false z again =
        let one = step_good n d ks ks f k.0 s k.1 dead.0.0 (λ j few kept b m y. inr (inr (some_turn n d ks s dead.0.0 some apart j few kept b m y).2)) h z in
        let rest = again one.0 in
        (rest.0, rest.1, rest.2 ∙ ap (λ (ls : List Entry). ls ++ rest.0) one.1, rest.3)

  second_good : (n : ℕ) (ds : List Entry) (ks : List (ℕ × Bool)) (f g : Fed) (s t : State) → All (Dead ks) ds → AreSome ks → Good n ks f s → Ends (turns second_turn ds f s) g t → Good n ks g t
  second_good n [] ks f g s t dead some h ends = subst (λ (x : Fed). Good n ks x t) (sym ends.0) (subst (Good n ks f) (sym ends.1) h)
  second_good n (d ∷ ds) ks f g s t dead some h ends =
      let k = ends_bind (second_turn d f s) (turns second_turn ds) g t ends in
      let one = step_good n d ks ks f k.0 s k.1 dead.0.0 (λ j few kept b m y. inr (inr (some_turn n d ks s dead.0.0 some dead.0.1 j few kept b m y).2)) h k.2 in
      second_good n ds ks k.0 g k.1 t dead.1 some one.0 k.3

  some_all : (es : List Entry) (ks : List (ℕ × Bool)) → AreSome ks → Seats ks es → AreSome (with_all ks es)
  some_all [] ks some seats = some
  some_all (e ∷ es) ks some seats = some_all es ((e.rid.0, e.dir) ∷ ks) (seats.3, some) seats.4

  pub turns_kept : (es : List Entry) (ks : List (ℕ × Bool)) (s : State) (f : Fed) (t : State) → P s → AreSome ks → AreKept (items_now s) ks → Seats ks (filter (λ e. e.live) es) → All (Dead (with_all ks (filter (λ e. e.live) es))) (filter (λ e. not e.live) es) → Ends (all_turns es s) f t → f.postponed ≡ false
      → skips t ≡ skips s → P t × AreKept (items_now t) (with_all ks (filter (λ e. e.live) es))
  turns_kept es ks s f t h some kept seats dead ends went same = (last.0, all_here last.2) where
    lives : List Entry
    lives = filter (λ e. e.live) es

    order : List Entry
    order = sorted (λ d e. nat_lt (depth_of_entry (items_now s) e) (depth_of_entry (items_now s) d)) (filter (λ e. not e.live) es)

    x : (g : Fed) × (m : State) × Ends (turns first_turn (order ++ lives) (record { postponed = false; later = [] }) s) g m × Ends (second_turns g m) f t
    x = ends_bind (turns first_turn (order ++ lives) (record { postponed = false; later = [] }) s) second_turns f t ends

    one : (more : List Entry) × Good (skips s) (with_all ks lives) x.0 x.1 × (x.0.later ≡ [] ++ more) × All (Dead (with_all ks lives)) more
    one = first_good (skips s) order lives ks (record { postponed = false; later = [] }) x.0 s x.1 (all_sorted (Dead (with_all ks lives)) (λ d e. nat_lt (depth_of_entry (items_now s) e) (depth_of_entry (items_now s) d)) (filter (λ e. not e.live) es) dead) some seats (h, least (skips s), inr (inr kept)) x.2

    last : Good (skips s) (with_all ks lives) f t
    last = second_good (skips s) one.0 (with_all ks lives) x.0 f x.1 t one.3 (some_all lives ks some seats) one.1 (subst (λ (ls : List Entry). Ends (turns second_turn ls x.0 x.1) f t) one.2 x.3)

    all_here : (f.postponed ≡ true) ⊎ (skips s < skips t) ⊎ AreKept (items_now t) (with_all ks lives) → AreKept (items_now t) (with_all ks lives)
    all_here (inl z) = no_way (sym went ∙ z)
    all_here (inr (inl z)) = absurd (never (skips s) (skips t) z same) where
      never : (a b : ℕ) → a < b → b ≡ a → ⊥
      never a b i e = omega (arith, i, e)
    all_here (inr (inr z)) = z

  -- whatever becomes of the entries
  pub turns_stay : (es : List Entry) (s : State) (f : Fed) (t : State) → P s → All On es → Ends (all_turns es s) f t → P t
  turns_stay es s f t h on ends = last.0 where
    start : Fed
    start = record { postponed = false; later = [] }

    order : List Entry
    order = in_turn (items_now s) es

    x : (g : Fed) × (m : State) × Ends (turns first_turn order start s) g m × Ends (second_turns g m) f t
    x = ends_bind (turns first_turn order start s) second_turns f t ends

    one : (more : List Entry) × Good (skips s) [] x.0 x.1 × (x.0.later ≡ [] ++ more) × All (Dead []) more
    one = first_good (skips s) order [] [] start x.0 s x.1 (all_weaker On (Dead []) (λ e k. (k, tt)) order (all_turned On (items_now s) es on)) tt tt (h, least (skips s), inr (inr tt)) (subst (λ (ls : List Entry). Ends (turns first_turn ls start s) x.0 x.1) (sym (append-nil order)) x.2)

    last : Good (skips s) [] f t
    last = second_good (skips s) one.0 [] x.0 f x.1 t one.3 tt one.1 (subst (λ (ls : List Entry). Ends (turns second_turn ls x.0 x.1) f t) one.2 x.3)
