-- A pass that reports nothing leaves a settled state.
use Rattle.std.proofs.Common.{◌≡◌, ◌⊎◌, ℕ, true, false, List, [], sym, ◌∙◌, ap, subst, inl, inr, ◌∷◌, ◌++◌}
use Rattle.cf_base.specs.declared.answers.Answer.{Answer}
use Rattle.cf_base.specs.declared.events.Event.{Event}
use Rattle.cf_base.specs.declared.policies.Mode.TheVariants as mode
use Rattle.cf_model.specs.Arrows.{then_do}
use Rattle.cf_model.specs.Lawful.{Runs}
use Rattle.cf_model.specs.Messages.{no_number}
use Rattle.cf_model.specs.Passes.{ask_feed, pass, settle_all}
use Rattle.cf_model.specs.Pushes.{push_all}
use Rattle.cf_model.specs.Settled.{is_settled}
use Rattle.cf_model.specs.State.{Filter, Running, State, book_now, start}
use Rattle.cf_model.specs.Store.{Held}
use Rattle.cf_model.specs.Trees.{bind, Ends}
use Rattle.cf_model.proofs.ArrowLaws.{keeps_then}
use Rattle.cf_model.proofs.TreeLaws.{kept_at_end}
use Rattle.cf_model_laws.specs.Invariant.{Invariant}
use Rattle.cf_model_laws.specs.Premises.{IsFair, IsFresh, IsSmall}
use Rattle.cf_model_laws.proofs.ContentLaws.{run_sound, sound_whole}
use Rattle.cf_model_laws.proofs.Gathered.{all_weaker}
use Rattle.cf_model_laws.proofs.PassesGuarded.{ask_feed_keeps, settle_all_keeps}
use Rattle.cf_model_laws.proofs.PushesGuarded.{push_all_keeps}
use Rattle.cf_model_convergence.specs.Agreeing.{IsAgreed, IsPassedHere, IsKeptUp}
use Rattle.cf_model_convergence.specs.Resting.{IsKnown}
use Rattle.cf_model_convergence.specs.Settles.{IsFed, IsSettledTo}
use Rattle.cf_model_convergence.specs.Telling.{AreWhole, IsListening, IsTold, is_loud}
use Rattle.cf_model_convergence.specs.Tidy.{IsTidy, IsTidyItem}
use Rattle.cf_model_convergence.proofs.FeedAsked.{feed_told}
use Rattle.cf_model_convergence.proofs.PushesIdle.{adds_later, numbers_left}
use Rattle.cf_model_convergence.proofs.PushesTold.{told_after, told_then}
use Rattle.cf_model_convergence.proofs.ReadyRests.{ready_settled, ready_whole}
use Rattle.cf_model_convergence.proofs.SettlesTold.{fair_still, settles_told}
use Rattle.cf_model_convergence.proofs.TidyRemotes.{run_tidy}
use Rattle.cf_model_convergence.proofs.EarlyCursors.{cursor_early}
use Rattle.cf_model_convergence.proofs.ApartTargets.{targets_alone}
use Rattle.cf_model_convergence.specs.Trees.{NoneLists}
use Rattle.cf_model_convergence.proofs.PlacedItems.{placed_idle, placed_tree, run_placed}
use Rattle.cf_model_convergence.proofs.TurnsTold.{ends_bind}
use Rattle.cf_model_convergence.proofs.FedKnown.{fed_ready, fed_whole}
use Rattle.cf_model_convergence.proofs.FedHere.{all_targets}
use Rattle.std.specs.List.{list_any}
use Rattle.cf_base.specs.declared.notices.Notice.{Notice}
use Rattle.cf_model_laws.proofs.RightItems.{no_way}
use Rattle.cf_model_convergence.proofs.SinceGuarded.{Follows}

-- uploads are settled

pub agreed_settled : (s m : State) → IsSettledTo [] s m → IsAgreed s → IsAgreed m
agreed_settled s m k h =
    subst (λ (r : Held). IsAgreed (record m { link = record m.link { remote = r } })) (sym k.remote) (subst (λ (f : Filter). IsAgreed (record m { filter = f; link = record m.link { remote = remote } })) (sym k.filter) first) where
      remote : Held
      remote = record s.link.remote { tokens = m.link.remote.tokens }

      first : IsAgreed (record m { filter = record s.filter { volume = record s.filter.volume { book = record s.filter.volume.book { entries = [] } }; notes = m.filter.notes }; link = record m.link { remote = record s.link.remote { tokens = m.link.remote.tokens } } })
      first = record {
        tidy = record { counted = h.tidy.counted; root = h.tidy.root; items = all_weaker (IsTidyItem s.link.remote) (IsTidyItem (record s.link.remote { tokens = m.link.remote.tokens })) (λ x y. record { placed = y.placed; versions = y.versions; under = y.under }) s.link.remote.items h.tidy.items; reached = h.tidy.reached };
        early = h.early;
        alone = h.alone;
        tree = h.tree;
        idle = h.idle;
        passed = λ i r below target early. let x : IsKnown (book_now s) i r = h.passed i r below target early in record { live = x.live; version = x.version; seen = x.seen };
      }

-- the pass

told_before : (s m t : State) → Follows s m → IsTold m t → IsTold s t
told_before s m t k z = told_after s m t k.adds.lines k.adds.noted z

-- whatever holds where the uploads behind the feed report nothing
pass_ends : (Q : State → Type 0) (s : State) (u : Unit {0}) (t : State)
    → ((m n : State) → Invariant m → Invariant n → IsFair m.link → IsFair n.link → IsListening n → (book_now m).entries ≡ [] → IsSettledTo [] s m → IsFed m n → Ends (push_all n) u t → IsTold n t ⊎ Q t)
    → Invariant s → IsFair s.link → IsListening s → IsAgreed s → Ends (pass s) u t → no_number t ≡ false → IsTold s t ⊎ Q t
pass_ends Q s u t last h fair listening agreed ends left = settled (settles_told s x.0 x.1 h fair listening x.2 left_m) where
  x : (v : Unit {0}) × (m : State) × Ends (settle_all s) v m × Ends (bind (ask_feed m) (λ _ n. push_all n)) u t
  x = ends_bind (settle_all s) (λ _ m. then_do ask_feed push_all m) u t ends

  y : (v : Unit {0}) × (n : State) × Ends (ask_feed x.1) v n × Ends (push_all n) u t
  y = ends_bind (ask_feed x.1) (λ _ n. push_all n) u t x.3

  hm : Invariant x.1
  hm = kept_at_end Invariant (settle_all s) x.0 x.1 ((settle_all_keeps Invariant sound_whole.closed).keeps s h) x.2

  hn : Invariant y.1
  hn = kept_at_end Invariant (ask_feed x.1) y.0 y.1 ((ask_feed_keeps Invariant sound_whole.closed sound_whole.entering).keeps x.1 hm) y.2

  left_n : no_number y.1 ≡ false
  left_n = numbers_left push_all (λ P closed entering. push_all_keeps P closed entering.uploads) y.1 u t hn y.3 left

  left_m : no_number x.1 ≡ false
  left_m = numbers_left ask_feed (λ P closed entering. ask_feed_keeps P closed entering) x.1 y.0 y.1 hm y.2 left_n

  first : Follows s x.1
  first = adds_later settle_all (λ P closed entering. settle_all_keeps P closed) s x.0 x.1 h x.2

  second : Follows x.1 y.1
  second = adds_later ask_feed (λ P closed entering. ask_feed_keeps P closed entering) x.1 y.0 y.1 hm y.2

  rest : Follows y.1 t
  rest = adds_later push_all (λ P closed entering. push_all_keeps P closed entering.uploads) y.1 u t hn y.3

  asks : IsFair x.1.link → IsListening x.1 → IsSettledTo [] s x.1 → (book_now x.1).entries ≡ [] → IsTold x.1 y.1 ⊎ IsFed x.1 y.1 → IsTold s t ⊎ Q t
  asks f l a none (inl k) = inl (told_before s x.1 t first (told_then x.1 y.1 t k rest))
  asks f l a none (inr k) = pushes (last x.1 y.1 hm hn f (k.honest ∙ f.0, subst IsSmall (sym k.remote) f.1) (record { inline = k.inline ∙ l.inline; shows = k.shows ∙ l.shows }) none a k y.3) where
    pushes : IsTold y.1 t ⊎ Q t → IsTold s t ⊎ Q t
    pushes (inl z) = inl (told_before s x.1 t first (told_before x.1 y.1 t second z))
    pushes (inr z) = inr z

  settled : IsTold s x.1 ⊎ IsSettledTo [] s x.1 → IsTold s t ⊎ Q t
  settled (inl k) = inl (told_then s x.1 t k after) where
    after : Follows x.1 t
    after = adds_later (then_do ask_feed push_all) (λ P closed entering. keeps_then P ask_feed push_all (ask_feed_keeps P closed entering) (push_all_keeps P closed entering.uploads)) x.1 u t hm x.3
  settled (inr k) =
      let f : IsFair x.1.link = fair_still [] s x.1 k fair in
      let l : IsListening x.1 = record { inline = k.inline ∙ listening.inline; shows = ap (λ (r : Running). r.shows_skips) k.running ∙ listening.shows } in
      let a : IsAgreed x.1 = agreed_settled s x.1 k agreed in
      let none : (book_now x.1).entries ≡ [] = ap (λ (g : Filter). g.volume.book.entries) k.filter in
      asks f l k none (feed_told x.1 y.0 y.1 hm f l a.tidy none a.early y.2 left_n)

whole_settled : (s m : State) → IsSettledTo [] s m → AreWhole s → AreWhole m
whole_settled s m k h = subst (λ (f : Filter). AreWhole (record m { filter = f })) (sym k.filter) h

pub pass_settles : (s : State) (u : Unit {0}) (t : State) → Invariant s → IsFair s.link → IsListening s → IsAgreed s → AreWhole s → Ends (pass s) u t → no_number t ≡ false → IsTold s t ⊎ (is_settled false t ≡ true)
pass_settles s u t h fair listening agreed whole ends left =
    pass_ends (λ x. is_settled false x ≡ true) s u t
    (λ m n hm hn f g l none k fed z. let a : IsAgreed m = agreed_settled s m k agreed in ready_settled n u t hn g l (fed_whole m hm f none a n fed (whole_settled s m k whole)) (fed_ready m hm f none a n fed) z left)
    h fair listening agreed ends left

pub here_settled : (s m : State) → IsSettledTo [] s m → IsPassedHere s → IsPassedHere m
here_settled s m k h =
    subst (λ (r : Held). IsPassedHere (record m { link = record m.link { remote = r } })) (sym k.remote)
    (subst (λ (f : Filter). IsPassedHere (record m { filter = f; link = record m.link { remote = record s.link.remote { tokens = m.link.remote.tokens } } })) (sym k.filter) (record { top = h.top; populated = h.populated; here = h.here }))

pub pass_settles_all : (s : State) (u : Unit {0}) (t : State) → Invariant s → IsFair s.link → IsListening s → IsAgreed s → AreWhole s → IsPassedHere s → Ends (pass s) u t → no_number t ≡ false → IsTold s t ⊎ (is_settled true t ≡ true)
pass_settles_all s u t h fair listening agreed whole all ends left =
    pass_ends (λ x. is_settled true x ≡ true) s u t
    (λ m n hm hn f g l none k fed z. let a : IsAgreed m = agreed_settled s m k agreed in
    ready_whole n u t hn g l (fed_whole m hm f none a n fed (whole_settled s m k whole)) (fed_ready m hm f none a n fed) (all_targets m hm f a (here_settled s m k all) n fed) z left)
    h fair listening agreed ends left

-- in a run

pub kept_agreed : (remote : Held) (clusters : ℕ) (trace : List (Event × Answer)) (s : State) → Runs mode.Replay (start mode.Replay remote clusters) trace s → IsFresh remote → IsTidy remote → IsFair s.link → NoneLists s → IsKeptUp s → IsAgreed s
kept_agreed remote clusters trace s runs fresh tidy fair none k = record {
  tidy = run_tidy mode.Replay remote clusters trace s runs tidy;
  early = (cursor_early remote clusters trace s runs fresh fair).0;
  alone = (targets_alone remote clusters trace s runs fresh fair).0;
  tree = placed_tree s (run_placed remote clusters trace s runs fresh) fair;
  idle = placed_idle s (run_placed remote clusters trace s runs fresh) fair none;
  passed = k.passed;
}

pub run_settles : (remote : Held) (clusters : ℕ) (trace : List (Event × Answer)) (s : State) (u : Unit {0}) (t : State) → Runs mode.Replay (start mode.Replay remote clusters) trace s → IsFresh remote → IsTidy remote → IsFair s.link → IsListening s → NoneLists s → IsKeptUp s → AreWhole s
    → Ends (pass s) u t → no_number t ≡ false → IsTold s t ⊎ (is_settled false t ≡ true)
run_settles remote clusters trace s u t runs fresh tidy fair listening none k whole ends left =
    pass_settles s u t (run_sound remote clusters trace s runs fresh) fair listening (kept_agreed remote clusters trace s runs fresh tidy fair none k) whole ends left

-- by its lines

cancelled : (xs ys zs : List Notice) → xs ++ ys ≡ xs ++ zs → ys ≡ zs
cancelled [] ys zs e = e
cancelled (x ∷ xs) ys zs e = cancelled xs ys zs (tail (xs ++ ys) (xs ++ zs) e) where
  tail : (us vs : List Notice) → ◌≡◌ {A = List Notice} (x ∷ us) (x ∷ vs) → us ≡ vs
  tail us vs z = cc

-- where none of the lines is loud, none was told
untold : (s t : State) (lines : List Notice) → IsFair t.link → t.filter.notes ≡ s.filter.notes ++ lines → list_any is_loud lines ≡ false → IsTold s t → ⊥
untold s t lines fair e quiet told = elim told.loud as (λ _. ⊥) [
  | inl z ↦ no_way (sym quiet ∙ subst (λ (ns : List Notice). list_any is_loud ns ≡ true) (cancelled s.filter.notes told.lines lines (sym told.noted ∙ e)) z)
  | inr z ↦ no_way (sym z ∙ fair.0)
]

pub quiet_settles : (s : State) (u : Unit {0}) (t : State) (lines : List Notice) → Invariant s → IsFair s.link → IsListening s → IsAgreed s → AreWhole s → Ends (pass s) u t → no_number t ≡ false → IsFair t.link → t.filter.notes ≡ s.filter.notes ++ lines → list_any is_loud lines ≡ false → is_settled false t ≡ true
quiet_settles s u t lines h fair listening agreed whole ends left stays e quiet = by (pass_settles s u t h fair listening agreed whole ends left) where
  by : IsTold s t ⊎ (is_settled false t ≡ true) → is_settled false t ≡ true
  by (inl k) = absurd (untold s t lines stays e quiet k)
  by (inr k) = k

pub quiet_settles_all : (s : State) (u : Unit {0}) (t : State) (lines : List Notice) → Invariant s → IsFair s.link → IsListening s → IsAgreed s → AreWhole s → IsPassedHere s → Ends (pass s) u t → no_number t ≡ false → IsFair t.link → t.filter.notes ≡ s.filter.notes ++ lines → list_any is_loud lines ≡ false → is_settled true t ≡ true
quiet_settles_all s u t lines h fair listening agreed whole all ends left stays e quiet = by (pass_settles_all s u t h fair listening agreed whole all ends left) where
  by : IsTold s t ⊎ (is_settled true t ≡ true) → is_settled true t ≡ true
  by (inl k) = absurd (untold s t lines stays e quiet k)
  by (inr k) = k
