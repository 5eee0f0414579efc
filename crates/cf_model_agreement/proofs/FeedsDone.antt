-- All turns of a feed in which nothing was postponed and no step was left out do all of its entries.
use Rattle.std.proofs.Common.{◌≡◌, ◌⊎◌, ◌<◌, ◌≤◌, ◌+◌, ℕ, Bool, true, false, List, [], ◌∷◌, ◌++◌, refl, sym, ◌∙◌, ap, subst, inl, inr, arith, eq-eqb}
use Rattle.std.specs.Prelude.{cond, filter, not, nat_lt, ◌||◌, ◌==◌}
use Rattle.std.proofs.lemmas.List.{append-nil, append_assoc}
use Rattle.cf_base.specs.declared.messages.Entry.{Entry}
use Rattle.cf_model.specs.Arrows.{seq}
use Rattle.cf_model.specs.Feeds.{Fed, all_turns, depth_of_entry, first_turn, first_turn_by, in_turn, is_later, second_turn, second_turns, take_turn, turns, with_turn}
use Rattle.cf_model.specs.Fits.{are_distinct, has_rid}
use Rattle.cf_model.specs.State.{Filter, Link, State, book_now, items_now}
use Rattle.cf_model.specs.Trees.{Ends, Keeps}
use Rattle.cf_model.specs.Words.{put_in, sorted}
use Rattle.cf_model.proofs.TreeLaws.{kept_at_end}
use Rattle.cf_model_laws.specs.Invariant.{All, Among}
use Rattle.cf_model_laws.specs.Premises.{IsFair}
use Rattle.cf_model_laws.specs.Taken.{IsNamedBy}
use Rattle.cf_model_laws.proofs.FeedFrames.{Feeding, IsTold}
use Rattle.cf_model_laws.proofs.FeedsGuarded.{take_turn_keeps}
use Rattle.cf_model_laws.proofs.Gathered.{all_any, all_in, all_append, all_filter, all_put_in, all_sorted, all_weaker}
use Rattle.cf_model_laws.proofs.RightItems.{no_way}
use Rattle.cf_model_laws.proofs.SkipsGuarded.{Skipping}
use Rattle.cf_model_laws.proofs.SoundSettles.{left_true, not_true, right_true}
use Rattle.cf_model_convergence.specs.Resting.{AreTargetsApart}
use Rattle.cf_model_convergence.proofs.FeedsTold.{all_among}
use Rattle.cf_model_convergence.proofs.FeedsTurned.{all_turned, turned_all}
use Rattle.cf_model_agreement.specs.Turned.{AreTurnedTo}
use Rattle.cf_model_agreement.proofs.TurnSteps.{ends_bind, skips}
use Rattle.cf_model_agreement.proofs.PlainEntries.{IsPlainEntry}
use Rattle.cf_model_agreement.proofs.TurnsDone.{TurnLeft, turn_left}
use Rattle.cf_model_agreement.proofs.TurnsFramed.{AreSome, IsApartFrom, IsApartFromAll, Turned, kept_skipping}

-- What a walk over the turns needs, where so much is known of the entries: what keeps its property, and what that has.
pub record Turning (On : Entry → Type 0) (l : Link) (w : Filter) (P : State → Type 0) : Type 1 where
  pub fair : IsFair l
  pub told : (e : Entry) → On e → IsTold On l e
  pub plain : (e : Entry) → On e → IsPlainEntry e
  pub steps : (Of : Entry → Type 0) → ((e : Entry) → Of e → On e) → Skipping Of (IsNamedBy Of Of) P
  pub fed : (s : State) → P s → Feeding l w [] s
  pub alone : (s : State) → P s → AreTargetsApart (items_now s)

module _ (On : Entry → Type 0) (l : Link) (w : Filter) (P : State → Type 0) (turning : Turning On l w P) where
  fair_at : (s : State) → P s → IsFair s.link
  fair_at s h = subst IsFair (sym (turning.fed s h).link) turning.fair

  -- of one entry
  abbrev Of : Entry → Entry → Type 0
  Of e d = On d × (d.rid.0 ≡ e.rid.0)

  -- its rid is none of these
  abbrev IsNew : List Entry → Entry → Type 0
  IsNew ds e = All (λ d. e.rid.0 ≡ d.rid.0 → ⊥) ds

  of_told : (e d : Entry) → Of e d → IsTold (Of e) l d
  of_told e d on = let k : IsTold On l d = turning.told d on.0 in record { on = on; has = k.has; dir = k.dir; low = k.low; apart = k.apart }

  of_apart : (e : Entry) (ds : List Entry) → IsNew ds e → (d : Entry) → Of e d → IsApartFromAll ds d
  of_apart e ds new d on = all_weaker (λ x. e.rid.0 ≡ x.rid.0 → ⊥) (λ x. IsApartFrom x d) (λ x k. ((λ z. k (sym on.1 ∙ z)), (turning.plain d on.0).small)) ds new

  some_all : (ds : List Entry) → All On ds → AreSome ds
  some_all ds h = all_weaker On (λ d. d.rid.0 ≡ 0 → ⊥) (λ d on. (turning.plain d on).some) ds h

  abbrev Both : List Entry → State → Type 0
  Both ds t = P t × (IsFair t.link → Turned ds (items_now t) (book_now t))

  -- a turn leaves what was done of other entries
  turn_keeps : (e : Entry) (ds : List Entry) (s : State) → On e → All On ds → IsNew ds e → Both ds s → Keeps (Both ds) (take_turn e s)
  turn_keeps e ds s on all new h =
      (take_turn_keeps l w [] (Both ds)
      (record { steps = kept_skipping {On = Of e} P ds (some_all ds all) (of_apart e ds new) (turning.steps (Of e) (λ d k. k.0)); fed = λ t k. turning.fed t k.0; none = λ _. refl }) e (of_told e e (on, refl))).keeps s h

  -- The entries are done, or stand over; or one was postponed, or a step was left out.
  abbrev Good : ℕ → List Entry → Fed → State → Type 0
  Good n ds f t = P t × (n ≤ skips t) × ((f.postponed ≡ true) ⊎ (n < skips t) ⊎ Turned ds (items_now t) (book_now t))

  turned_now : (n : ℕ) (e : Entry) (ds : List Entry) (s : State) → On e → All On ds → IsNew ds e → P s → n ≤ skips s → Turned ds (items_now s) (book_now s) → (b : Bool) (t : State) → Ends (take_turn e s) b t
      → P t × (n ≤ skips t) × ((b ≡ true) ⊎ (n < skips t) ⊎ Turned (e ∷ ds) (items_now t) (book_now t))
  turned_now n e ds s on all new h few done b t ends = (kept.0, left.0, by left.1) where
    kept : Both ds t
    kept = kept_at_end (Both ds) (take_turn e s) b t (turn_keeps e ds s on all new (h, λ fair. done)) ends

    left : TurnLeft e (turning.plain e on) n b t
    left = turn_left e (turning.plain e on) n s s.filter.volume.next_item.0 ((turning.steps On (λ d k. k)).sound s h (fair_at s h)).now.order (turning.alone s h) few b t ends

    by : (b ≡ true) ⊎ (n < skips t) ⊎ AreTurnedTo e t → (b ≡ true) ⊎ (n < skips t) ⊎ Turned (e ∷ ds) (items_now t) (book_now t)
    by (inl z) = inl z
    by (inr (inl z)) = inr (inl z)
    by (inr (inr z)) = inr (inr (z, kept.1 (fair_at t kept.0)))

  turn_only : (n : ℕ) (e : Entry) (s : State) → On e → P s → n ≤ skips s → (b : Bool) (t : State) → Ends (take_turn e s) b t → P t × (n ≤ skips t)
  turn_only n e s on h few b t ends = let k = turned_now n e [] s on tt tt h few tt b t ends in (k.0, k.1)

  more_less : (n a b : ℕ) → n < a → a ≤ b → n < b
  more_less n a b h k = omega (arith, h, k)

  equal_least : (n : ℕ) → n ≤ n
  equal_least n = omega arith

  -- one turn more
  step_good : (n : ℕ) (e : Entry) (ds : List Entry) (f g : Fed) (s t : State) → On e → All On ds → IsNew ds e → Good n ds f s → Ends (seq (take_turn e) (with_turn f) s) g t → Good n (e ∷ ds) g t × (g.later ≡ f.later)
  step_good n e ds f g s t on all new h ends = by (ends_bind (take_turn e s) (with_turn f) g t ends) where
    after : (b : Bool) (m : State) → Ends (take_turn e s) b m → Good n (e ∷ ds) (record f { postponed = f.postponed || b }) m
    after b m z = one h.2 where
      or_left : (a c : Bool) → a ≡ true → (a || c) ≡ true
      or_left true c q = refl
      or_left false c q = no_way q

      or_right : (a c : Bool) → c ≡ true → (a || c) ≡ true
      or_right true c q = refl
      or_right false c q = q

      one : (f.postponed ≡ true) ⊎ (n < skips s) ⊎ Turned ds (items_now s) (book_now s) → Good n (e ∷ ds) (record f { postponed = f.postponed || b }) m
      one (inl q) = let k = turn_only n e s on h.0 h.1 b m z in (k.0, k.1, inl (or_left f.postponed b q))
      one (inr (inl q)) = let k = turn_only (skips s) e s on h.0 (equal_least (skips s)) b m z in (k.0, less n (skips s) (skips m) h.1 k.1, inr (inl (more_less n (skips s) (skips m) q k.1))) where
        less : (a c d : ℕ) → a ≤ c → c ≤ d → a ≤ d
        less a c d i j = omega (arith, i, j)
      one (inr (inr q)) = let k = turned_now n e ds s on all new h.0 h.1 q b m z in (k.0, k.1, two k.2) where
        two : (b ≡ true) ⊎ (n < skips m) ⊎ Turned (e ∷ ds) (items_now m) (book_now m) → ((f.postponed || b) ≡ true) ⊎ (n < skips m) ⊎ Turned (e ∷ ds) (items_now m) (book_now m)
        two (inl y) = inl (or_right f.postponed b y)
        two (inr y) = inr y

    by : (b : Bool) × (m : State) × Ends (take_turn e s) b m × Ends (with_turn f b m) g t → Good n (e ∷ ds) g t × (g.later ≡ f.later)
    by k = (
      subst (λ (x : Fed). Good n (e ∷ ds) x t) (sym k.3.0) (subst (Good n (e ∷ ds) (record f { postponed = f.postponed || k.0 })) (sym k.3.1) (after k.0 k.1 k.2)),
      ap (λ (x : Fed). x.later) k.3.0,
    )

  -- all of a list; those that come again are left for later
  abbrev Apart : List Entry → Type 0
  Apart [] = Unit {0}
  Apart (e ∷ es) = All (λ d. e.rid.0 ≡ d.rid.0 → ⊥) es × Apart es

  -- the second turns
  second_good : (n : ℕ) (es ds : List Entry) (f g : Fed) (s t : State) → All On es → All On ds → Apart es → All (IsNew ds) es → Good n ds f s → Ends (turns second_turn es f s) g t → (out : List Entry) × Good n out g t × ((e : Entry) → Among e es ⊎ Among e ds → Among e out)
  second_good n [] ds f g s t on all apart new h ends = (ds, subst (λ (x : Fed). Good n ds x t) (sym ends.0) (subst (Good n ds f) (sym ends.1) h), λ e z. elim z as (λ _. Among e ds) [ inl k ↦ absurd k | inr k ↦ k ])
  second_good n (e ∷ es) ds f g s t on all apart new h ends = let k = ends_bind (second_turn e f s) (turns second_turn es) g t ends in
      let one = step_good n e ds f k.0 s k.1 on.0 all new.0 h k.2 in
      let rest = second_good n es (e ∷ ds) k.0 g k.1 t on.1 (on.0, all) apart.1 (news es apart.0 new.1) one.0 k.3 in
      (rest.0, rest.1, λ d z. rest.2 d (elim z as (λ _. Among d es ⊎ Among d (e ∷ ds)) [ inl y ↦ elim y as (λ _. Among d es ⊎ Among d (e ∷ ds)) [ inl x ↦ inr (inl x) | inr x ↦ inl x ] | inr y ↦ inr (inr y) ]))
    where
      news : (xs : List Entry) → All (λ d. e.rid.0 ≡ d.rid.0 → ⊥) xs → All (IsNew ds) xs → All (IsNew (e ∷ ds)) xs
      news [] a b = tt
      news (x ∷ xs) a b = (((λ z. a.0 (sym z)), b.0), news xs a.1 b.1)

  -- the first turns: what they left done, and what comes again
  record First (n : ℕ) (es ds : List Entry) (f g : Fed) (t : State) : Type 0 where
    out : List Entry
    more : List Entry
    good : Good n out g t
    done : All On out
    later : g.later ≡ f.later ++ more
    left : All On more
    apart : Apart more
    new : All (IsNew out) more
    all : (e : Entry) → Among e es ⊎ Among e ds → Among e more ⊎ Among e out
    others : (x : Entry) → IsNew ds x → IsNew es x → IsNew out x × IsNew more x

  news_more : (e : Entry) (ds es : List Entry) → All (λ d. e.rid.0 ≡ d.rid.0 → ⊥) es → All (IsNew ds) es → All (IsNew (e ∷ ds)) es
  news_more e ds [] a b = tt
  news_more e ds (x ∷ xs) a b = (((λ z. a.0 (sym z)), b.0), news_more e ds xs a.1 b.1)

  first_good : (n : ℕ) (es ds : List Entry) (f g : Fed) (s t : State) → All On es → All On ds → Apart es → All (IsNew ds) es → Good n ds f s → Ends (turns first_turn es f s) g t → First n es ds f g t
  first_good n [] ds f g s t on all apart new h ends = record {
    out = ds;
    more = [];
    good = subst (λ (x : Fed). Good n ds x t) (sym ends.0) (subst (Good n ds f) (sym ends.1) h);
    done = all;
    later = ap (λ (x : Fed). x.later) ends.0 ∙ sym (append-nil f.later);
    left = tt;
    apart = tt;
    new = tt;
    all = λ e z. elim z as (λ _. Among e [] ⊎ Among e ds) [ inl k ↦ absurd k | inr k ↦ inr k ];
    others = λ x a b. (a, tt);
  }
  first_good n (e ∷ es) ds f g s t on all apart new h ends =
      let k = ends_bind (first_turn e f s) (turns first_turn es) g t ends in
      by (is_later s e) k.0 k.1 k.2 k.3 (λ xs x m done others good z. first_good n es xs x g m t on.1 done apart.1 others good z) where
        Again : Type 0
        Again = (xs : List Entry) (x : Fed) (m : State) → All On xs → All (IsNew xs) es → Good n xs x m → Ends (turns first_turn es x m) g t → First n es xs x g t

        by : (b : Bool) (x : Fed) (m : State) → Ends (first_turn_by b e f s) x m → Ends (turns first_turn es x m) g t → Again → First n (e ∷ es) ds f g t
        by true x m z y again = record {
          out = r.out;
          more = e ∷ r.more;
          good = r.good;
          done = r.done;
          later = r.later ∙ ap (λ (q : Fed). q.later ++ r.more) z.0 ∙ append_assoc f.later (e ∷ []) r.more;
          left = (on.0, r.left);
          apart = ((r.others e new.0 apart.0).1, r.apart);
          new = ((r.others e new.0 apart.0).0, r.new);
          all = λ d q. elim q as (λ _. Among d (e ∷ r.more) ⊎ Among d r.out) [
            | inl a ↦ elim a as (λ _. Among d (e ∷ r.more) ⊎ Among d r.out) [ inl c ↦ inl (inl c) | inr c ↦ among d (r.all d (inl c)) ]
            | inr a ↦ among d (r.all d (inr a))
          ];
          others = λ d a b. let c = r.others d a b.1 in (c.0, (b.0, c.1));
        }
          where
            r : First n es ds x g t
            r = again ds x m all new.1 (subst (λ (q : Fed). Good n ds q m) (sym z.0) (subst (Good n ds (record f { later = f.later ++ e ∷ [] })) (sym z.1) h)) y

            among : (d : Entry) → Among d r.more ⊎ Among d r.out → Among d (e ∷ r.more) ⊎ Among d r.out
            among d (inl a) = inl (inr a)
            among d (inr a) = inr a
        by false x m z y again = record {
          out = r.out;
          more = r.more;
          good = r.good;
          done = r.done;
          later = r.later ∙ ap (λ (ls : List Entry). ls ++ r.more) one.1;
          left = r.left;
          apart = r.apart;
          new = r.new;
          all = λ d q. r.all d (elim q as (λ _. Among d es ⊎ Among d (e ∷ ds)) [
            | inl a ↦ elim a as (λ _. Among d es ⊎ Among d (e ∷ ds)) [ inl c ↦ inr (inl c) | inr c ↦ inl c ]
            | inr a ↦ inr (inr a)
          ]);
          others = λ d a b. r.others d (b.0, a) b.1;
        }
          where
            one : Good n (e ∷ ds) x m × (x.later ≡ f.later)
            one = step_good n e ds f x s m on.0 all new.0 h z

            r : First n es (e ∷ ds) x g t
            r = again (e ∷ ds) x m (on.0, all) (news_more e ds es apart.0 new.1) one.0 y

  -- the order of the turns keeps entries apart
  apart_put : (before : Entry → Entry → Bool) (e : Entry) (es : List Entry) → IsNew es e → Apart es → Apart (put_in before e es)
  apart_put before e [] new apart = (tt, tt)
  apart_put before e (d ∷ es) new apart = by (before d e) (apart_put before e es new.1 apart.1) where
    by : (b : Bool) → Apart (put_in before e es) → Apart (cond b (d ∷ put_in before e es) (e ∷ d ∷ es))
    by true k = (all_put_in (λ x. d.rid.0 ≡ x.rid.0 → ⊥) before e es (λ z. new.0 (sym z)) apart.0, k)
    by false k = (new, apart)

  apart_sorted : (before : Entry → Entry → Bool) (es : List Entry) → Apart es → Apart (sorted before es)
  apart_sorted before [] h = tt
  apart_sorted before (e ∷ es) h = apart_put before e (sorted before es) (all_sorted (λ x. e.rid.0 ≡ x.rid.0 → ⊥) before es h.0) (apart_sorted before es h.1)

  apart_filter : (f : Entry → Bool) (es : List Entry) → Apart es → Apart (filter f es)
  apart_filter f [] h = tt
  apart_filter f (e ∷ es) h = by (f e) (apart_filter f es h.1) where
    by : (b : Bool) → Apart (filter f es) → Apart (cond b (e ∷ filter f es) (filter f es))
    by true k = (all_filter (λ x. e.rid.0 ≡ x.rid.0 → ⊥) f es h.0, k)
    by false k = k

  apart_append : (ds es : List Entry) → Apart ds → Apart es → All (IsNew es) ds → Apart (ds ++ es)
  apart_append [] es a b c = b
  apart_append (d ∷ ds) es a b c = (all_append (λ x. d.rid.0 ≡ x.rid.0 → ⊥) ds es a.0 c.0, apart_append ds es a.1 b c.1)

  dead_new : (es : List Entry) → Apart es → All (IsNew (filter (λ d. d.live) es)) (filter (λ d. not d.live) es)
  dead_new [] h = tt
  dead_new (e ∷ es) h = by e.live (dead_new es h.1) where
    by : (b : Bool) → All (IsNew (filter (λ d. d.live) es)) (filter (λ d. not d.live) es)
        → All (IsNew (cond b (e ∷ filter (λ d. d.live) es) (filter (λ d. d.live) es))) (cond (not b) (e ∷ filter (λ d. not d.live) es) (filter (λ d. not d.live) es))
    by true k = news_more e (filter (λ d. d.live) es) (filter (λ d. not d.live) es) (all_filter (λ x. e.rid.0 ≡ x.rid.0 → ⊥) (λ d. not d.live) es h.0) k
    by false k = (all_filter (λ x. e.rid.0 ≡ x.rid.0 → ⊥) (λ d. d.live) es h.0, k)

  distinct_apart : (es : List Entry) → are_distinct es ≡ true → Apart es
  distinct_apart [] h = tt
  distinct_apart (e ∷ es) h = (others es (not_true (has_rid e.rid es) (left_true (not (has_rid e.rid es)) (are_distinct es) h)), distinct_apart es (right_true (not (has_rid e.rid es)) (are_distinct es) h)) where
    others : (ds : List Entry) → has_rid e.rid ds ≡ false → All (λ d. e.rid.0 ≡ d.rid.0 → ⊥) ds
    others [] k = tt
    others (d ∷ ds) k = by (d.rid.0 == e.rid.0) refl k (others ds) where
      by : (b : Bool) → (d.rid.0 == e.rid.0) ≡ b → (b || has_rid e.rid ds) ≡ false → (has_rid e.rid ds ≡ false → All (λ x. e.rid.0 ≡ x.rid.0 → ⊥) ds) → All (λ x. e.rid.0 ≡ x.rid.0 → ⊥) (d ∷ ds)
      by true q k rest = no_way (sym k)
      by false q k rest = ((λ z. no_way (sym q ∙ eq-eqb d.rid.0 e.rid.0 (sym z))), rest k)

  pub turns_done : (es : List Entry) (s : State) (f : Fed) (t : State) → P s → All On es → are_distinct es ≡ true → Ends (all_turns es s) f t → f.postponed ≡ false → skips t ≡ skips s → All (λ e. AreTurnedTo e t) es
  turns_done es s f t h on distinct ends went same =
      turned_all (λ e. AreTurnedTo e t) (items_now s) es (all_weaker (λ e. Among e order) (λ e. AreTurnedTo e t) (λ e a. all_among (λ d. AreTurnedTo d t) last.0 e (last.2 e (one.all e (inl a))) (all_done last.1.2)) order (all_in order)) where
        order : List Entry
        order = in_turn (items_now s) es

        x : (g : Fed) × (m : State) × Ends (turns first_turn order (record { postponed = false; later = [] }) s) g m × Ends (second_turns g m) f t
        x = ends_bind (turns first_turn order (record { postponed = false; later = [] }) s) second_turns f t ends

        apart : Apart es
        apart = distinct_apart es distinct

        one : First (skips s) order [] (record { postponed = false; later = [] }) x.0 x.1
        one = first_good (skips s) order [] (record { postponed = false; later = [] }) x.0 s x.1 (all_turned On (items_now s) es on) tt
            (apart_append (sorted (λ d e. nat_lt (depth_of_entry (items_now s) e) (depth_of_entry (items_now s) d)) (filter (λ e. not e.live) es)) (filter (λ e. e.live) es)
            (apart_sorted (λ d e. nat_lt (depth_of_entry (items_now s) e) (depth_of_entry (items_now s) d)) (filter (λ e. not e.live) es) (apart_filter (λ e. not e.live) es apart)) (apart_filter (λ e. e.live) es apart)
            (all_sorted (IsNew (filter (λ e. e.live) es)) (λ d e. nat_lt (depth_of_entry (items_now s) e) (depth_of_entry (items_now s) d)) (filter (λ e. not e.live) es) (dead_new es apart)))
            (all_any (IsNew []) (λ d. tt) order) (h, equal_least (skips s), inr (inr tt)) x.2

        last : (out : List Entry) × Good (skips s) out f t × ((e : Entry) → Among e one.more ⊎ Among e one.out → Among e out)
        last = second_good (skips s) one.more one.out x.0 f x.1 t one.left one.done one.apart one.new one.good (subst (λ (ls : List Entry). Ends (turns second_turn ls x.0 x.1) f t) one.later x.3)

        all_done : (f.postponed ≡ true) ⊎ (skips s < skips t) ⊎ Turned last.0 (items_now t) (book_now t) → Turned last.0 (items_now t) (book_now t)
        all_done (inl z) = no_way (sym went ∙ z)
        all_done (inr (inl z)) = absurd (never (skips s) (skips t) z same) where
          never : (a b : ℕ) → a < b → b ≡ a → ⊥
          never a b i e = omega (arith, i, e)
        all_done (inr (inr z)) = z
