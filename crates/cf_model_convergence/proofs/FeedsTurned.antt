-- All turns of a feed: they are reported, or each entry is postponed, of no case, or taken in.
use Rattle.std.proofs.Common.{◌≡◌, ◌⊎◌, Bool, true, false, List, [], ◌∷◌, ◌++◌, refl, sym, ◌∙◌, ap, subst, inl, inr, eq-eqb}
use Rattle.std.specs.Prelude.{Option, Some, cond, filter, not, nat_lt, ◌||◌, ◌==◌}
use Rattle.std.proofs.lemmas.Bool.{eqb-true}
use Rattle.cf_base.specs.declared.ids.ItemId.{ItemId}
use Rattle.cf_base.specs.declared.items.SeenPath.{SeenPath}
use Rattle.cf_base.specs.declared.messages.Entry.{Entry}
use Rattle.cf_model.specs.Books.{seen_of, with_seen}
use Rattle.cf_model.specs.Feeds.{Fed, all_turns, depth_of_entry, first_turn, first_turn_by, in_turn, is_later, is_path_of, is_seen_so, second_turn, second_turns, seen_entry, take_turn, turns, with_turn}
use Rattle.cf_model.specs.Fits.{are_distinct, has_rid}
use Rattle.cf_model.specs.Identities.{by_target, has_target, target_of}
use Rattle.cf_model.specs.Items.{Item, item_of}
use Rattle.cf_model.specs.State.{State, book_now, items_now}
use Rattle.cf_model.specs.Trees.{bind, Ends}
use Rattle.cf_model.specs.Words.{says, sorted}
use Rattle.cf_model_laws.specs.Invariant.{All, Invariant, Among}
use Rattle.cf_model_laws.specs.Premises.{IsFair}
use Rattle.cf_model_laws.proofs.FoundItems.{found_again}
use Rattle.cf_model_laws.proofs.Gathered.{all_any, all_append, all_both, all_filter, all_found, all_sorted, all_weaker}
use Rattle.cf_model_laws.proofs.RightItems.{no_way, no_way_back}
use Rattle.cf_model_laws.proofs.SeenPaths.{seen_past}
use Rattle.cf_model_laws.proofs.SoundSettles.{left_true, not_true, right_true, same_item}
use Rattle.cf_model_convergence.specs.Telling.{IsListening, IsTold}
use Rattle.cf_model_convergence.specs.Turns.{AreTurned, IsLeftBy, IsOfNone, IsTakenIn, IsTurnOf, SeesOnly, with_paths}
use Rattle.cf_model_convergence.proofs.FeedTurns.{path_seen, turn_told}
use Rattle.cf_model_convergence.proofs.FeedsTold.{all_among, among_left, among_right}
use Rattle.cf_model_convergence.proofs.FeedsGrow.{first_grows, second_grows, seconds_grow, turns_grow}
use Rattle.cf_model_convergence.proofs.PushesIdle.{sorted_apart}
use Rattle.cf_model_convergence.proofs.TurnsGrow.{told_on}
use Rattle.cf_model_convergence.proofs.TurnsTold.{ends_bind}

-- lists

halves : {A : Type 0} (P : A → Type 0) (xs ys : List A) → All P (xs ++ ys) → All P xs × All P ys
halves P [] ys h = (tt, h)
halves P (x ∷ xs) ys h = let r = halves P xs ys h.1 in ((h.0, r.0), r.1)

joined : (P : Entry → Type 0) (es : List Entry) → All P (filter (λ e. not e.live) es) → All P (filter (λ e. e.live) es) → All P es
joined P [] h k = tt
joined P (e ∷ es) h k = by e.live h k (joined P es) where
  by : (b : Bool) → All P (cond (not b) (e ∷ filter (λ d. not d.live) es) (filter (λ d. not d.live) es)) → All P (cond b (e ∷ filter (λ d. d.live) es) (filter (λ d. d.live) es))
      → (All P (filter (λ d. not d.live) es) → All P (filter (λ d. d.live) es) → All P es) → All P (e ∷ es)
  by true h k g = (k.0, g h k.1)
  by false h k g = (h.0, g h.1 k)

abbrev deeper : List Item → Entry → Entry → Bool
deeper items d e = nat_lt (depth_of_entry items e) (depth_of_entry items d)

pub turned_all : (P : Entry → Type 0) (items : List Item) (es : List Entry) → All P (in_turn items es) → All P es
turned_all P items es h =
    let r = halves P (sorted (deeper items) (filter (λ e. not e.live) es)) (filter (λ e. e.live) es) h in joined P es (sorted_apart P (deeper items) (filter (λ e. not e.live) es) r.0) r.1

pub all_turned : (P : Entry → Type 0) (items : List Item) (es : List Entry) → All P es → All P (in_turn items es)
all_turned P items es h = all_append P (sorted (deeper items) (filter (λ e. not e.live) es)) (filter (λ e. e.live) es) (all_sorted P (deeper items) (filter (λ e. not e.live) es) (all_filter P (λ e. not e.live) es h)) (all_filter P (λ e. e.live) es h)

-- entries of one item are one

abbrev One : List Entry → Entry → Type 0
One all d = All (λ e. d.rid.0 ≡ e.rid.0 → d ≡ e) all

abbrev IsOf : List Entry → Entry → Type 0
IsOf all e = One all e × Among e all

others : (e : Entry) (es : List Entry) → has_rid e.rid es ≡ false → All (λ d. e.rid.0 ≡ d.rid.0 → ⊥) es
others e [] h = tt
others e (d ∷ ds) h = by (d.rid.0 == e.rid.0) refl h (others e ds) where
  by : (b : Bool) → (d.rid.0 == e.rid.0) ≡ b → (b || has_rid e.rid ds) ≡ false → (has_rid e.rid ds ≡ false → All (λ x. e.rid.0 ≡ x.rid.0 → ⊥) ds) → All (λ x. e.rid.0 ≡ x.rid.0 → ⊥) (d ∷ ds)
  by true q k g = no_way_back k
  by false q k g = ((λ z. no_way (sym q ∙ eq-eqb d.rid.0 e.rid.0 (sym z))), g k)

distinct_ones : (es : List Entry) → are_distinct es ≡ true → All (IsOf es) es
distinct_ones [] h = tt
distinct_ones (e ∷ es) h = (
  (((λ z. refl), all_weaker (λ d. e.rid.0 ≡ d.rid.0 → ⊥) (λ d. e.rid.0 ≡ d.rid.0 → e ≡ d) (λ d k z. absurd (k z)) es apart), inl refl),
  all_both (IsOf es) (λ d. e.rid.0 ≡ d.rid.0 → ⊥) (IsOf (e ∷ es)) (λ d k a. (((λ z. absurd (a (sym z))), k.0), inr k.1)) es (distinct_ones es (right_true (not (has_rid e.rid es)) (are_distinct es) h)) apart,
)
  where
    apart : All (λ d. e.rid.0 ≡ d.rid.0 → ⊥) es
    apart = others e es (not_true (has_rid e.rid es) (left_true (not (has_rid e.rid es)) (are_distinct es) h))

-- the turns

module _ (s : State) (h : Invariant s) (fair : IsFair s.link) (listening : IsListening s) (all : List Entry) where
  abbrev at : List SeenPath → State
  at ps = with_paths ps s

  abbrev Left : Bool → List SeenPath → Entry → Type 0
  Left b ps e = IsLeftBy b e s (at ps)

  weaker : (b c : Bool) (ps : List SeenPath) (d : Entry) → (b ≡ true → c ≡ true) → Left b ps d → Left c ps d
  weaker b c ps d k (inl l) = inl (k l.0, l.1, l.2, l.3)
  weaker b c ps d k (inr l) = inr l

  -- what was left so stays so, and the paths of other items stay
  abbrev Keeps : List SeenPath → List SeenPath → Type 0
  Keeps ps qs = ((b : Bool) (d : Entry) → One all d → Left b ps d → Left b qs d) × ((id : ItemId) → IsOfNone all (items_now s) id → seen_of (book_now (at qs)) id ≡ seen_of (book_now (at ps)) id)

  itself : (ps : List SeenPath) → Keeps ps ps
  itself ps = ((λ b d one l. l), λ id no. refl)

  after : (ps qs rs : List SeenPath) → Keeps ps qs → Keeps qs rs → Keeps ps rs
  after ps qs rs a c = ((λ b d one l. c.0 b d one (a.0 b d one l)), λ id no. c.1 id no ∙ a.1 id no)

  -- the paths seen, with that of the entry's item
  abbrev more : Entry → Item → List SeenPath → List SeenPath
  more e i ps = (with_seen (seen_entry i.id e) (book_now (at ps))).seen

  there : (e : Entry) (i : Item) → by_target (items_now s) e.rid ≡ Some i → item_of (items_now s) i.id ≡ Some i
  there e i f = found_again (λ x. has_target x e.rid) 0 s.filter.volume.next_item.0 (items_now s) i (h.1 fair).now.order f

  aimed : (e : Entry) (i : Item) → by_target (items_now s) e.rid ≡ Some i → (target_of i).0 ≡ e.rid.0
  aimed e i f = eqb-true (target_of i).0 e.rid.0 (right_true (nat_lt 0 e.rid.0) ((target_of i).0 == e.rid.0) (all_found (λ x. Unit {0}) (λ x. has_target x e.rid) (items_now s) i f (all_any (λ x. Unit {0}) (λ x. tt) (items_now s))).1)

  same_items : (i j : Item) → ◌≡◌ {A = Option Item} (Some i) (Some j) → i ≡ j
  same_items i j z = cc

  -- a path that comes to be seen leaves what is seen of the items of other entries
  seen_kept : (e : Entry) (i : Item) (ps : List SeenPath) → by_target (items_now s) e.rid ≡ Some i → Among e all → (d : Entry) (j : Item) → One all d → by_target (items_now s) d.rid ≡ Some j → is_seen_so (at ps) j d ≡ true → is_seen_so (at (more e i ps)) j d ≡ true
  seen_kept e i ps f mem d j one g seen = by (i.id.0 == j.id.0) refl where
    by : (b : Bool) → (i.id.0 == j.id.0) ≡ b → is_seen_so (at (more e i ps)) j d ≡ true
    by true q =
        let alike : i.id ≡ j.id = same_item i.id j.id (eqb-true i.id.0 j.id.0 q) in
        let same : j ≡ i = same_items j i (sym (there d j g) ∙ ap (λ (x : ItemId). item_of (items_now s) x) (sym alike) ∙ there e i f) in
        let entry : d ≡ e = all_among (λ x. d.rid.0 ≡ x.rid.0 → d ≡ x) all e mem one (sym (aimed d j g) ∙ ap (λ (x : Item). (target_of x).0) same ∙ aimed e i f) in
        subst (λ (x : Item). is_seen_so (at (more e i ps)) x d ≡ true) (sym same) (subst (λ (x : Entry). is_seen_so (at (more e i ps)) i x ≡ true) (sym entry) (path_seen e i i (at ps)))
    by false q = ap (λ (o : Option SeenPath). says (is_path_of d) o) (seen_past (seen_entry i.id e) (book_now (at ps)) j.id q) ∙ seen

  left_kept : (e : Entry) (i : Item) (ps : List SeenPath) → by_target (items_now s) e.rid ≡ Some i → Among e all → Keeps ps (more e i ps)
  left_kept e i ps f mem = (kept, λ id no. seen_past (seen_entry i.id e) (book_now (at ps)) id (no e mem i f)) where
    kept : (b : Bool) (d : Entry) → One all d → Left b ps d → Left b (more e i ps) d
    kept b d one (inl k) = inl k
    kept b d one (inr (inl k)) = inr (inl k)
    kept b d one (inr (inr k)) = inr (inr (k.0, k.1, k.2, record { items = refl; seen = seen_kept e i ps f mem d k.1 one k.2 k.3.seen; version = k.3.version }))

  abbrev Turn : Entry → List SeenPath → Bool → State → Type 0
  Turn e ps postponed t = (qs : List SeenPath) × (t ≡ at qs) × Left postponed qs e × Keeps ps qs

  turn_left : (e : Entry) → Among e all → (ps : List SeenPath) (postponed : Bool) (t : State) → Ends (take_turn e (at ps)) postponed t → IsTold s t ⊎ Turn e ps postponed t
  turn_left e mem ps postponed t ends = by (turn_told e (at ps) postponed t h fair (record { inline = listening.inline; shows = listening.shows }) ends) where
    taken : (i : Item) → by_target (items_now s) e.rid ≡ Some i → e.live ≡ true → IsTakenIn e i (at ps) t → SeesOnly e i (at ps) t → Turn e ps postponed t
    taken i f live k (inl z) = (ps, z, inr (inr (live, i, f, record { items = refl; seen = subst (λ (y : State). is_seen_so y i e ≡ true) z k.seen; version = k.version })), itself ps)
    taken i f live k (inr z) = (more e i ps, z, inr (inr (live, i, f, record { items = refl; seen = path_seen e i i (at ps); version = k.version })), left_kept e i ps f mem)

    by : IsTold (at ps) t ⊎ IsTurnOf e (at ps) postponed t → IsTold s t ⊎ Turn e ps postponed t
    by (inl k) = inl (record { lines = k.lines; noted = k.noted; loud = k.loud })
    by (inr (inl k)) = inr (ps, k.1, inl (k.0, k.2, k.3, k.4), itself ps)
    by (inr (inr (inl k))) = inr (ps, k.1, inr (inl (k.2, k.3)), itself ps)
    by (inr (inr (inr k))) = inr (taken k.2 k.3 k.1 k.4 k.5)

  -- the turn, and what it notes: a postponement stays noted
  abbrev Grows_to : Fed → Fed → Type 0
  Grows_to g r = g.postponed ≡ true → r.postponed ≡ true

  abbrev Step : Entry → List SeenPath → Fed → Fed → State → Type 0
  Step e ps g r t = (qs : List SeenPath) × (t ≡ at qs) × Left r.postponed qs e × Keeps ps qs

  noted_left : (e : Entry) → Among e all → (ps : List SeenPath) (g r : Fed) (t : State) → Ends (bind (take_turn e (at ps)) (with_turn g)) r t → (IsTold s t ⊎ Step e ps g r t) × (r.later ≡ g.later) × Grows_to g r
  noted_left e mem ps g r t ends =
      let x = ends_bind (take_turn e (at ps)) (with_turn g) r t ends in
      (by x.0 x.1 x.3 (turn_left e mem ps x.0 x.1 x.2), ap (λ (y : Fed). y.later) x.3.0, λ z. subst (λ (y : Fed). y.postponed ≡ true) (sym x.3.0) (left_or g.postponed x.0 z)) where
        left_or : (a b : Bool) → a ≡ true → (a || b) ≡ true
        left_or true b z = refl
        left_or false b z = no_way z

        right_or : (a b : Bool) → b ≡ true → (a || b) ≡ true
        right_or true b z = refl
        right_or false b z = z

        by : (p : Bool) (m : State) → Ends (with_turn g p m) r t → IsTold s m ⊎ Turn e ps p m → IsTold s t ⊎ Step e ps g r t
        by p m z (inl k) = inl (subst (IsTold s) (sym z.1) k)
        by p m z (inr k) = inr (k.0, z.1 ∙ k.1, weaker p r.postponed k.0 e (λ y. subst (λ (x : Fed). x.postponed ≡ true) (sym z.0) (right_or g.postponed p y)) k.2, k.3)

  abbrev Second : List Entry → List SeenPath → Fed → Fed → State → Type 0
  Second list ps g f t = (qs : List SeenPath) × (t ≡ at qs) × Keeps ps qs × All (Left f.postponed qs) list × Grows_to g f

  second_left : (list : List Entry) (g : Fed) (ps : List SeenPath) (f : Fed) (t : State) → All (IsOf all) list → Ends (turns second_turn list g (at ps)) f t → IsTold s t ⊎ Second list ps g f t
  second_left [] g ps f t of ends = inr (ps, ends.1, itself ps, tt, λ z. subst (λ (x : Fed). x.postponed ≡ true) (sym ends.0) z)
  second_left (e ∷ es) g ps f t of ends =
      let x = ends_bind (second_turn e g (at ps)) (turns second_turn es) f t ends in
      let y = noted_left e of.0.1 ps g x.0 x.1 x.2 in
      by x.0 x.1 y.2 y.0 x.3 (λ qs z. second_left es x.0 qs f t of.1 z) where
        by : (r : Fed) (m : State) → Grows_to g r → IsTold s m ⊎ Step e ps g r m → Ends (turns second_turn es r m) f t → ((qs : List SeenPath) → Ends (turns second_turn es r (at qs)) f t → IsTold s t ⊎ Second es qs r f t) → IsTold s t ⊎ Second (e ∷ es) ps g f t
        by r m grows (inl k) z on = inl (told_on (turns second_turn es r) (turns_grow second_turn second_grows es r) s m f t k z)
        by r m grows (inr k) z on = also (on k.0 (subst (λ (y : State). Ends (turns second_turn es r y) f t) k.1 z)) where
          also : IsTold s t ⊎ Second es k.0 r f t → IsTold s t ⊎ Second (e ∷ es) ps g f t
          also (inl w) = inl w
          also (inr w) = inr (w.0, w.1, after ps k.0 w.0 k.3 w.2, (weaker r.postponed f.postponed w.0 e w.4 (w.2.0 r.postponed e of.0.0 k.2), w.3), λ y. w.4 (grows y))

  -- each was left so, or comes again
  abbrev First : List Entry → Fed → List SeenPath → Fed → State → Type 0
  First list g ps f t =
      (qs : List SeenPath) × (t ≡ at qs) × Keeps ps qs × All (λ d. Left f.postponed qs d ⊎ Among d f.later) list × (All (IsOf all) g.later → All (IsOf all) f.later) × ((d : Entry) → Among d g.later → Among d f.later) × Grows_to g f

  first_left : (list : List Entry) (g : Fed) (ps : List SeenPath) (f : Fed) (t : State) → All (IsOf all) list → Ends (turns first_turn list g (at ps)) f t → IsTold s t ⊎ First list g ps f t
  first_left [] g ps f t of ends =
      inr (
        ps,
        ends.1,
        itself ps,
        tt,
        subst (λ (x : Fed). All (IsOf all) g.later → All (IsOf all) x.later) (sym ends.0) (λ k. k),
        (λ d a. subst (λ (x : Fed). Among d x.later) (sym ends.0) a),
        λ z. subst (λ (x : Fed). x.postponed ≡ true) (sym ends.0) z,
      )
  first_left (e ∷ es) g ps f t of ends =
      let x = ends_bind (first_turn e g (at ps)) (turns first_turn es) f t ends in
      by (is_later (at ps) e) x.0 x.1 x.2 x.3 (λ qs z. first_left es x.0 qs f t of.1 z) where
        again : (r : Fed) → r.later ≡ g.later ++ e ∷ [] → Grows_to g r → IsTold s t ⊎ First es r ps f t → IsTold s t ⊎ First (e ∷ es) g ps f t
        again r z grows (inl w) = inl w
        again r z grows (inr w) =
            inr (
              w.0,
              w.1,
              w.2,
              (inr (w.5 e (subst (Among e) (sym z) (among_right e g.later (e ∷ []) (inl refl)))), w.3),
              (λ k. w.4 (subst (All (IsOf all)) (sym z) (all_append (IsOf all) g.later (e ∷ []) k (of.0, tt)))),
              (λ d a. w.5 d (subst (Among d) (sym z) (among_left d g.later (e ∷ []) a))),
              λ y. w.6 (grows y),
            )

        now : (r : Fed) (m : State) → r.later ≡ g.later → Grows_to g r → IsTold s m ⊎ Step e ps g r m → Ends (turns first_turn es r m) f t → ((qs : List SeenPath) → Ends (turns first_turn es r (at qs)) f t → IsTold s t ⊎ First es r qs f t) → IsTold s t ⊎ First (e ∷ es) g ps f t
        now r m same grows (inl k) z on = inl (told_on (turns first_turn es r) (turns_grow first_turn first_grows es r) s m f t k z)
        now r m same grows (inr k) z on = also (on k.0 (subst (λ (y : State). Ends (turns first_turn es r y) f t) k.1 z)) where
          also : IsTold s t ⊎ First es r k.0 f t → IsTold s t ⊎ First (e ∷ es) g ps f t
          also (inl w) = inl w
          also (inr w) = inr (
            w.0,
            w.1,
            after ps k.0 w.0 k.3 w.2,
            (inl (weaker r.postponed f.postponed w.0 e w.6 (w.2.0 r.postponed e of.0.0 k.2)), w.3),
            (λ a. w.4 (subst (All (IsOf all)) (sym same) a)),
            (λ d a. w.5 d (subst (Among d) (sym same) a)),
            λ y. w.6 (grows y),
          )

        by : (b : Bool) (r : Fed) (m : State) → Ends (first_turn_by b e g (at ps)) r m → Ends (turns first_turn es r m) f t → ((qs : List SeenPath) → Ends (turns first_turn es r (at qs)) f t → IsTold s t ⊎ First es r qs f t) → IsTold s t ⊎ First (e ∷ es) g ps f t
        by true r m z k on = again r (ap (λ (y : Fed). y.later) z.0) (λ y. subst (λ (x : Fed). x.postponed ≡ true) (sym z.0) y) (on ps (subst (λ (y : State). Ends (turns first_turn es r y) f t) z.1 k))
        by false r m z k on = let y = noted_left e of.0.1 ps g r m z in now r m y.1 y.2 y.0 k on

pub turns_told : (es : List Entry) (s : State) (f : Fed) (t : State) → Invariant s → IsFair s.link → IsListening s → are_distinct es ≡ true → Ends (all_turns es s) f t → IsTold s t ⊎ AreTurned es f.postponed s t
turns_told es s f t h fair listening apart ends = first x.0 x.1 (first_left s h fair listening es (in_turn (items_now s) es) start (book_now s).seen x.0 x.1 (all_turned (IsOf es) (items_now s) es (distinct_ones es apart)) x.2) x.3 where
  start : Fed
  start = record { postponed = false; later = [] }

  x : (g : Fed) × (m : State) × Ends (turns first_turn (in_turn (items_now s) es) start s) g m × Ends (second_turns g m) f t
  x = ends_bind (turns first_turn (in_turn (items_now s) es) start s) second_turns f t ends

  last : (g : Fed) (qs : List SeenPath) → All (λ d. IsLeftBy g.postponed d s (with_paths qs s) ⊎ Among d g.later) (in_turn (items_now s) es) → Keeps s h fair listening es (book_now s).seen qs → IsTold s t ⊎ Second s h fair listening es g.later qs g f t → IsTold s t ⊎ AreTurned es f.postponed s t
  last g qs k kept (inl z) = inl z
  last g qs k kept (inr z) =
      inr (record {
        paths = z.0;
        same = z.1;
        entries = subst (λ (y : State). All (λ e. IsLeftBy f.postponed e s y) es) (sym z.1)
            (turned_all (λ e. IsLeftBy f.postponed e s (with_paths z.0 s)) (items_now s) es
            (all_both (IsOf es) (λ d. IsLeftBy g.postponed d s (with_paths qs s) ⊎ Among d g.later) (λ e. IsLeftBy f.postponed e s (with_paths z.0 s)) one (in_turn (items_now s) es) (all_turned (IsOf es) (items_now s) es (distinct_ones es apart)) k));
        others = λ id no. ap (λ (y : State). seen_of (book_now y) id) z.1 ∙ z.2.1 id no ∙ kept.1 id no;
      }
      ) where
        one : (d : Entry) → IsOf es d → IsLeftBy g.postponed d s (with_paths qs s) ⊎ Among d g.later → IsLeftBy f.postponed d s (with_paths z.0 s)
        one d of (inl l) = weaker s h fair listening es g.postponed f.postponed z.0 d z.4 (z.2.0 g.postponed d of.0 l)
        one d of (inr a) = all_among (λ e. IsLeftBy f.postponed e s (with_paths z.0 s)) g.later d a z.3

  first : (g : Fed) (m : State) → IsTold s m ⊎ First s h fair listening es (in_turn (items_now s) es) start (book_now s).seen g m → Ends (second_turns g m) f t → IsTold s t ⊎ AreTurned es f.postponed s t
  first g m (inl k) z = inl (told_on (second_turns g) (seconds_grow g) s m f t k z)
  first g m (inr k) z = last g k.0 k.3 k.2 (second_left s h fair listening es g.later g k.0 f t (k.4 tt) (subst (λ (y : State). Ends (second_turns g y) f t) k.1 z))
