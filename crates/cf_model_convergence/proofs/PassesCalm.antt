-- A pass that hydrates files too: it is heard of, or it leaves a settled state.
use Rattle.std.proofs.Common.{◌≡◌, ◌⊎◌, ℕ, true, false, List, [], sym, ◌∙◌, ap, subst, inl, inr, ◌≤◌, Bool, refl, arith}
use Rattle.std.specs.Prelude.{Some}
use Rattle.cf_base.specs.declared.answers.Answer.{Answer}
use Rattle.cf_base.specs.declared.events.Event.{Event}
use Rattle.cf_base.specs.declared.policies.Mode.TheVariants as mode
use Rattle.cf_model.specs.Arrows.{then_do}
use Rattle.cf_model.specs.Lawful.{Runs}
use Rattle.cf_model.specs.Messages.{no_number}
use Rattle.cf_model.specs.Passes.{ask_feed, pass, settle_all}
use Rattle.cf_model.specs.Pushes.{push_all}
use Rattle.cf_model.specs.Settled.{is_settled}
use Rattle.cf_model.specs.State.{Filter, Running, State, book_now, start, items_now}
use Rattle.cf_model.specs.Store.{Held}
use Rattle.cf_model.specs.Trees.{bind, Ends}
use Rattle.cf_model.proofs.ArrowLaws.{keeps_then}
use Rattle.cf_model_laws.proofs.RightItems.{no_way}
use Rattle.cf_model_laws.specs.Invariant.{Invariant, All, Among}
use Rattle.cf_model_laws.specs.Premises.{IsFair, IsFresh, IsSmall}
use Rattle.cf_model_laws.proofs.ContentLaws.{run_sound, sound_whole}
use Rattle.cf_model_laws.proofs.Gathered.{all_weaker}
use Rattle.cf_model_laws.proofs.PassesGuarded.{ask_feed_keeps, settle_all_keeps}
use Rattle.cf_model_laws.proofs.PushesGuarded.{push_all_keeps}
use Rattle.cf_model_convergence.specs.Agreeing.{IsAgreed, IsHereUnlessBuried, IsPassedHere, IsKeptUp}
use Rattle.cf_model_convergence.specs.Settles.{IsFed, IsSettledTo}
use Rattle.cf_model_convergence.specs.Telling.{IsListening, IsTold}
use Rattle.cf_model_convergence.specs.Tidy.{IsTidy, IsLower}
use Rattle.cf_model_convergence.proofs.FeedAsked.{feed_told}
use Rattle.cf_model_convergence.proofs.PushesIdle.{adds_later, numbers_left}
use Rattle.cf_model_convergence.proofs.SettlesTold.{fair_still, settles_told}
use Rattle.cf_model_convergence.proofs.PlacedItems.{run_placed, placed_dirs}
use Rattle.cf_model_convergence.proofs.TurnsTold.{ends_bind}
use Rattle.cf_model_convergence.proofs.FedKnown.{fed_ready}
use Rattle.cf_model_convergence.proofs.FedHere.{all_targets}
use Rattle.cf_model.specs.Items.{Item, item_of}
use Rattle.cf_model.specs.Requests.{is_list_wait}
use Rattle.cf_model_convergence.specs.Hearing.{AreDirs, IsHeard, IsOpenTo, IsPlainWait}
use Rattle.cf_model_convergence.proofs.HeardLines.{heard_after, heard_of, heard_then}
use Rattle.cf_model_convergence.proofs.PushesCalm.{calm_targets, IsIdleTo, fair_calm, listens_calm, pushes_calm, ready_calm, rest_at}
use Rattle.cf_model_convergence.proofs.QuietPasses.{agreed_settled, here_settled, kept_agreed}
use Rattle.cf_model.specs.Numbers.{root_id}
use Rattle.cf_model_convergence.specs.Ready.{IsReady}
use Rattle.cf_model_convergence.specs.Resting.{IsAtRest, AreAllTargets, AreTargetsApart}
use Rattle.cf_model_convergence.proofs.RestingMatches.{rest_settled}
use Rattle.cf_model_convergence.proofs.TargetsHere.{rest_whole}
use Rattle.cf_model.specs.Identities.{has_target}
use Rattle.cf_model.proofs.TreeLaws.{kept_at_end}
use Rattle.cf_model_convergence.proofs.SinceGuarded.{Follows}

pub heard_before : (s m t : State) → Follows s m → IsHeard m t → IsHeard s t
heard_before s m t k z = heard_after s m t k.adds.lines k.adds.noted z

-- whatever holds where the uploads behind the feed report nothing
pass_heard : (Q : State → Type 0) (s : State) (u : Unit {0}) (t : State)
    → ((m n : State) → Invariant m → Invariant n → IsFair m.link → IsFair n.link → IsListening n → (book_now m).entries ≡ [] → IsSettledTo [] s m → IsFed m n → Ends (push_all n) u t → IsHeard n t ⊎ Q t)
    → Invariant s → IsFair s.link → IsListening s → IsAgreed s → Ends (pass s) u t → no_number t ≡ false → IsHeard s t ⊎ Q t
pass_heard Q s u t last h fair listening agreed ends left = settled (settles_told s x.0 x.1 h fair listening x.2 left_m) where
  x : (v : Unit {0}) × (m : State) × Ends (settle_all s) v m × Ends (bind (ask_feed m) (λ _ n. push_all n)) u t
  x = ends_bind (settle_all s) (λ _ m. then_do ask_feed push_all m) u t ends

  y : (v : Unit {0}) × (n : State) × Ends (ask_feed x.1) v n × Ends (push_all n) u t
  y = ends_bind (ask_feed x.1) (λ _ n. push_all n) u t x.3

  hm : Invariant x.1
  hm = kept_at_end Invariant (settle_all s) x.0 x.1 ((settle_all_keeps Invariant sound_whole.closed).keeps s h) x.2

  hn : Invariant y.1
  hn = kept_at_end Invariant (ask_feed x.1) y.0 y.1 ((ask_feed_keeps Invariant sound_whole.closed sound_whole.entering).keeps x.1 hm) y.2

  left_n : no_number y.1 ≡ false
  left_n = numbers_left push_all (λ P closed entering. push_all_keeps P closed entering.uploads) y.1 u t hn y.3 left

  left_m : no_number x.1 ≡ false
  left_m = numbers_left ask_feed (λ P closed entering. ask_feed_keeps P closed entering) x.1 y.0 y.1 hm y.2 left_n

  first : Follows s x.1
  first = adds_later settle_all (λ P closed entering. settle_all_keeps P closed) s x.0 x.1 h x.2

  second : Follows x.1 y.1
  second = adds_later ask_feed (λ P closed entering. ask_feed_keeps P closed entering) x.1 y.0 y.1 hm y.2

  rest : Follows y.1 t
  rest = adds_later push_all (λ P closed entering. push_all_keeps P closed entering.uploads) y.1 u t hn y.3

  asks : IsFair x.1.link → IsListening x.1 → IsSettledTo [] s x.1 → (book_now x.1).entries ≡ [] → IsTold x.1 y.1 ⊎ IsFed x.1 y.1 → IsHeard s t ⊎ Q t
  asks f l a none (inl k) = inl (heard_before s x.1 t first (heard_then x.1 y.1 t (heard_of x.1 y.1 k) rest))
  asks f l a none (inr k) = pushes (last x.1 y.1 hm hn f (k.honest ∙ f.0, subst IsSmall (sym k.remote) f.1) (record { inline = k.inline ∙ l.inline; shows = k.shows ∙ l.shows }) none a k y.3) where
    pushes : IsHeard y.1 t ⊎ Q t → IsHeard s t ⊎ Q t
    pushes (inl z) = inl (heard_before s x.1 t first (heard_before x.1 y.1 t second z))
    pushes (inr z) = inr z

  settled : IsTold s x.1 ⊎ IsSettledTo [] s x.1 → IsHeard s t ⊎ Q t
  settled (inl k) = inl (heard_then s x.1 t (heard_of s x.1 k) after) where
    after : Follows x.1 t
    after = adds_later (then_do ask_feed push_all) (λ P closed entering. keeps_then P ask_feed push_all (ask_feed_keeps P closed entering) (push_all_keeps P closed entering.uploads)) x.1 u t hm x.3
  settled (inr k) =
      let f : IsFair x.1.link = fair_still [] s x.1 k fair in
      let l : IsListening x.1 = record { inline = k.inline ∙ listening.inline; shows = ap (λ (r : Running). r.shows_skips) k.running ∙ listening.shows } in
      let a : IsAgreed x.1 = agreed_settled s x.1 k agreed in
      let none : (book_now x.1).entries ≡ [] = ap (λ (g : Filter). g.volume.book.entries) k.filter in
      asks f l k none (feed_told x.1 y.0 y.1 hm f l a.tidy none a.early y.2 left_n)

-- what hydrations need stays

open_settled : (s m : State) → IsSettledTo [] s m → IsOpenTo s → IsOpenTo m
open_settled s m k h = subst (λ (f : Filter). IsOpenTo (record m { filter = f })) (sym k.filter) (record { connected = h.connected; waits = h.waits; boxed = h.boxed })

open_fed : (m n : State) → IsFed m n → IsOpenTo m → IsOpenTo n
open_fed m n k h = subst (λ (f : Filter). IsOpenTo (record n { filter = f })) (sym k.filter) (record { connected = h.connected; waits = h.waits; boxed = h.boxed })

dirs_alike : (s n : State) → items_now n ≡ items_now s → AreDirs s → AreDirs n
dirs_alike s n e h i p below up = h i p (subst (λ (is : List Item). item_of is i.id ≡ Some i) e below.0, below.1) (subst (λ (is : List Item). item_of is i.parent ≡ Some p) e up)

same_items : (s m n : State) → IsSettledTo [] s m → IsFed m n → items_now n ≡ items_now s
same_items s m n k fed = ap (λ (f : Filter). f.volume.items) fed.filter ∙ ap (λ (f : Filter). f.volume.items) k.filter

-- what a pass needs, and leaves where nothing is heard of it
pub record IsSet (s : State) : Type 0 where
  pub fair : IsFair s.link
  pub listening : IsListening s
  pub free : IsOpenTo s
  pub dirs : AreDirs s
  pub agreed : IsAgreed s

-- the state is settled, as a whole if so it was asked for
abbrev pub IsOver : Bool → State → Type 0
IsOver all s = (is_settled all s ≡ true) × IsSet s × (all ≡ true → IsPassedHere s)

-- where all of the remote is here
here_then : (s t : State) → items_now t ≡ items_now s → IsPassedHere s → AreAllTargets t → IsPassedHere t
here_then s t same h all = record {
  top = subst (λ (is : List Item). (i : Item) × (item_of is root_id ≡ Some i)) (sym same) h.top;
  populated = subst (All (λ i. i.directory ≡ true → i.populated ≡ true)) (sym same) h.populated;
  here = all_weaker (λ r. r.live ≡ true → (i : Item) × Among i (items_now t) × (has_target i r.rid ≡ true)) (λ r. IsLower r → r.live ≡ true → r.changed ≤ (book_now t).cursor → (i : Item) × Among i (items_now t) × (has_target i r.rid ≡ true)) (λ r k low live early. k live) t.link.remote.items all.some;
}

pub pass_over : (all : Bool) (s : State) (u : Unit {0}) (t : State) → Invariant s → IsSet s → (all ≡ true → IsHereUnlessBuried s) → Ends (pass s) u t → no_number t ≡ false → IsHeard s t ⊎ IsOver all t
pass_over all s u t h set here ends left = pass_heard (IsOver all) s u t (λ m n hm hn f g l none k fed z. last m n hm hn f g l none k fed z (pushes_calm n u t hn g l (open_fed m n fed (open_settled s m k set.free)) z left)) h set.fair set.listening set.agreed ends left where
  last : (m n : State) → Invariant m → Invariant n → IsFair m.link → IsFair n.link → IsListening n → (book_now m).entries ≡ [] → IsSettledTo [] s m → IsFed m n → Ends (push_all n) u t → IsHeard n t ⊎ IsIdleTo n t → IsHeard n t ⊎ IsOver all t
  last m n hm hn f g l none k fed z (inl y) = inl y
  last m n hm hn f g l none k fed z (inr y) = inr (
    settled all refl,
    record {
      fair = fair_calm n t y.calm g;
      listening = listens_calm n t y.calm l;
      free = y.ready;
      dirs = dirs_alike n t y.calm.items dirs;
      agreed = record {
        tidy = after.tidy;
        early = subst (λ (r : Held). (book_now t).cursor ≤ r.clock) (sym (y.calm.remote ∙ fed.remote)) (subst (λ (c : ℕ). c ≤ m.link.remote.clock) (sym y.calm.cursor) (below fed.cursor));
        alone = subst AreTargetsApart (sym (y.calm.items ∙ ap (λ (f : Filter). f.volume.items) fed.filter)) a.alone;
        tree = after.tree;
        idle = after.idle;
        passed = after.passed;
      };
    },
    (λ e. here_then s t (y.calm.items ∙ same_items s m n k fed) (here e none_buried) (targets e)),
  ) where
    a : IsAgreed m
    a = agreed_settled s m k set.agreed

    dirs : AreDirs n
    dirs = dirs_alike s n (same_items s m n k fed) set.dirs

    ready : IsReady n
    ready = fed_ready m hm f none a n fed

    after : IsReady t
    after = ready_calm n t y.calm dirs ready

    rest : IsAtRest t
    rest = rest_at n u t hn g dirs ready z y

    none_buried : (book_now s).tombstones ≡ []
    none_buried = sym (ap (λ (f : Filter). f.volume.book.tombstones) fed.filter ∙ ap (λ (f : Filter). f.volume.book.tombstones) k.filter) ∙ (sym y.calm.tombstones ∙ rest.buried)

    targets : all ≡ true → AreAllTargets t
    targets e = calm_targets n t y.calm (all_targets m hm f a (here_settled s m k (here e none_buried)) n fed)

    settled : (b : Bool) → all ≡ b → is_settled all t ≡ true
    settled true e = subst (λ (c : Bool). is_settled c t ≡ true) (sym e) (rest_whole t rest (targets e))
    settled false e = subst (λ (c : Bool). is_settled c t ≡ true) (sym e) (rest_settled t rest)

    below : ((book_now n).cursor ≡ (book_now m).cursor) ⊎ ((fed.postponed ≡ false) × ((book_now n).cursor ≡ m.link.remote.clock)) → (book_now n).cursor ≤ m.link.remote.clock
    below (inl e) = subst (λ (c : ℕ). c ≤ m.link.remote.clock) (sym e) a.early
    below (inr e) = subst (λ (c : ℕ). c ≤ m.link.remote.clock) (sym e.1) (same m.link.remote.clock) where
      same : (n : ℕ) → n ≤ n
      same n = omega arith

pub pass_calm : (s : State) (u : Unit {0}) (t : State) → Invariant s → IsFair s.link → IsListening s → IsOpenTo s → AreDirs s → IsAgreed s → Ends (pass s) u t → no_number t ≡ false → IsHeard s t ⊎ (is_settled false t ≡ true)
pass_calm s u t h fair listening ready dirs agreed ends left = by (pass_over false s u t h (record { fair = fair; listening = listening; free = ready; dirs = dirs; agreed = agreed }) (λ z. no_way z) ends left) where
  by : IsHeard s t ⊎ IsOver false t → IsHeard s t ⊎ (is_settled false t ≡ true)
  by (inl z) = inl z
  by (inr z) = inr z.0

pub pass_calm_all : (s : State) (u : Unit {0}) (t : State) → Invariant s → IsFair s.link → IsListening s → IsOpenTo s → AreDirs s → IsAgreed s → IsPassedHere s → Ends (pass s) u t → no_number t ≡ false → IsHeard s t ⊎ (is_settled true t ≡ true)
pass_calm_all s u t h fair listening ready dirs agreed all ends left = by (pass_over true s u t h (record { fair = fair; listening = listening; free = ready; dirs = dirs; agreed = agreed }) (λ z none. all) ends left) where
  by : IsHeard s t ⊎ IsOver true t → IsHeard s t ⊎ (is_settled true t ≡ true)
  by (inl z) = inl z
  by (inr z) = inr z.0

-- in a run

pub run_calm : (remote : Held) (clusters : ℕ) (trace : List (Event × Answer)) (s : State) (u : Unit {0}) (t : State) → Runs mode.Replay (start mode.Replay remote clusters) trace s → IsFresh remote → IsTidy remote → IsFair s.link → IsListening s
    → IsOpenTo s → IsKeptUp s → Ends (pass s) u t → no_number t ≡ false → IsHeard s t ⊎ (is_settled false t ≡ true)
run_calm remote clusters trace s u t runs fresh tidy fair listening ready k ends left =
    pass_calm s u t (run_sound remote clusters trace s runs fresh) fair listening ready (placed_dirs s (run_placed remote clusters trace s runs fresh) fair)
    (kept_agreed remote clusters trace s runs fresh tidy fair (all_weaker (IsPlainWait s.filter.waiting.asks) (λ w. is_list_wait w.kind ≡ false) (λ w z. z.0) s.filter.waiting.waits ready.waits) k) ends left
