-- A callback is of a live ask that has its key, if one has.
use Rattle.std.proofs.Common.{◌≡◌, ◌≤◌, ◌<◌, ◌+◌, ℕ, suc, Bool, true, false, not, List, [], ◌∷◌, ◌++◌, refl, sym, subst, arith, length}
use Rattle.std.specs.Prelude.{Some, filter, map, ◌&&◌, ◌==◌}
use Rattle.std.proofs.lemmas.Bool.{eqb-true}
use Rattle.cf_base.specs.declared.answers.Answer.{Answer}
use Rattle.cf_base.specs.declared.events.Event.{Event}
use Rattle.cf_base.specs.declared.ids.ItemId.{ItemId}
use Rattle.cf_base.specs.declared.ids.Key.{Key}
use Rattle.cf_base.specs.declared.policies.Mode.{Mode}
use Rattle.cf_base.specs.declared.waits.Ask.{Ask}
use Rattle.cf_model.specs.Asks.{after_deed, is_cancelled, is_over, left_of, new_asks, step_of, why, with_keys}
use Rattle.cf_model.specs.Events.{is_of, tree_of}
use Rattle.cf_model.specs.Lawful.{Runs}
use Rattle.cf_model.specs.Missing.{View, Wait}
use Rattle.cf_model.specs.Numbers.{key_after, same_key}
use Rattle.cf_model.specs.Ports.{Act, Acts}
use Rattle.cf_model.specs.Requests.{Deed, Live, Waiting, aged, live_of}
use Rattle.cf_model.specs.State.{Filter, State, start}
use Rattle.cf_model.specs.Store.{Held}
use Rattle.cf_model.specs.Trees.{Keeps}
use Rattle.cf_model_laws.specs.Invariant.{All}
use Rattle.cf_model_laws.specs.Keys.{AreBoxedOwn, AreKeysOwn, AreLiveOwn}
use Rattle.cf_model_laws.specs.Premises.{IsFresh}
use Rattle.cf_model_laws.proofs.Gathered.{all_append, all_both, all_filter, all_found, all_map, all_weaker}
use Rattle.cf_model_laws.proofs.OutboxActs.{acts_keep}
use Rattle.cf_model_laws.proofs.OutboxFacts.{Boxing, BoxingRuns, Fact}
use Rattle.cf_model_laws.proofs.OutboxRuns.{event_holds, run_holds}
use Rattle.cf_model_laws.proofs.SoundSettles.{deed_ask}

-- keys

same_numbers : (a b : Key) → same_key a b ≡ true → a.number ≡ b.number
same_numbers a b e = eqb-true a.number b.number (second (a.epoch == b.epoch) (a.number == b.number) e) where
  second : (p q : Bool) → (p && q) ≡ true → q ≡ true
  second true q e = e
  second false q e = let z : false ≡ true = e in cc

-- what has this key is this ask
abbrev Own : Ask → Ask → Type 0
Own b q = same_key q.key b.key ≡ true → q ≡ b

abbrev OwnOf : Ask → Live → Type 0
OwnOf b a = Own b a.ask

abbrev UpTo : ℕ → Ask → Type 0
UpTo n q = q.key.number ≤ n

abbrev Above : ℕ → Live → Type 0
Above n a = n < a.ask.key.number

apart : (q b : Ask) (n : ℕ) → n < q.key.number → b.key.number ≤ n → Own b q
apart q b n high low e = absurd (let z : q.key.number ≡ b.key.number = same_numbers q.key b.key e in omega (arith, high, low, z))

apart_back : (q b : Ask) (n : ℕ) → q.key.number ≤ n → n < b.key.number → Own b q
apart_back q b n low high e = absurd (let z : q.key.number ≡ b.key.number = same_numbers q.key b.key e in omega (arith, high, low, z))

-- new asks

more_above : (n m : ℕ) → n + 1 < m → n < m
more_above n m h = omega (arith, h)

just_above : (n : ℕ) → n < n + 1
just_above n = omega arith

made_above : (epoch n : ℕ) (fresh : List Live) → All (Above n) (with_keys epoch n fresh)
made_above epoch n [] = tt
made_above epoch n (a ∷ as') = (just_above n, all_weaker (Above (n + 1)) (Above n) (λ b h. more_above n b.ask.key.number h) (with_keys epoch (n + 1) as') (made_above epoch (n + 1) as'))

made_upto : (epoch n : ℕ) (fresh : List Live) → All (λ a. UpTo (n + length (with_keys epoch n fresh)) a.ask) (with_keys epoch n fresh)
made_upto epoch n [] = tt
made_upto epoch n (a ∷ as') = (
  first n (length (with_keys epoch (n + 1) as')),
  all_weaker (λ b. UpTo (n + 1 + length (with_keys epoch (n + 1) as')) b.ask) (λ b. UpTo (n + suc (length (with_keys epoch (n + 1) as'))) b.ask)
      (λ b h. rest n (length (with_keys epoch (n + 1) as')) b.ask.key.number h) (with_keys epoch (n + 1) as') (made_upto epoch (n + 1) as'),
) where
  first : (n l : ℕ) → n + 1 ≤ n + suc l
  first n l = omega arith

  rest : (n l k : ℕ) → k ≤ n + 1 + l → k ≤ n + suc l
  rest n l k h = omega (arith, h)

same_number : (n : ℕ) → n + 1 ≤ n + 1
same_number n = omega arith

made_own : (epoch n : ℕ) (fresh : List Live) → All (λ b. All (OwnOf b.ask) (with_keys epoch n fresh)) (with_keys epoch n fresh)
made_own epoch n [] = tt
made_own epoch n (a ∷ as') =
    let q : Ask = record a.ask { key = key_after epoch n } in
    let rest : List Live = with_keys epoch (n + 1) as' in (
      ((λ e. refl), all_weaker (Above (n + 1)) (OwnOf q) (λ c h. apart c.ask q (n + 1) h (same_number n)) rest (made_above epoch (n + 1) as')),
      all_both (λ b. All (OwnOf b.ask) rest) (Above (n + 1)) (λ b. OwnOf b.ask (record a { ask = q }) × All (OwnOf b.ask) rest)
          (λ b own high. (apart_back q b.ask (n + 1) (same_number n) high, own)) rest (made_own epoch (n + 1) as') (made_above epoch (n + 1) as'),
    )

-- a step of the ask rule

upto_more : (n m k : ℕ) → k ≤ n → k ≤ n + m
upto_more n m k h = omega (arith, h)

-- asks that are left, and those that are made
module _ (w : Waiting) (item : ItemId) (v : View) (d : Deed) where
  abbrev ws : List Wait
  ws = left_of (why item v d w.asks) w.waits

  abbrev kept : List Live
  kept = filter (λ a. not (is_cancelled item v d ws a)) (filter (λ a. not (is_over d a)) (map (after_deed d) w.asks))

  abbrev fresh : List Live
  fresh = new_asks item v ws kept

  abbrev made : List Live
  made = with_keys w.epoch w.key_count fresh

  pub kept_all : (C : Ask → Type 0) → All (λ a. C a.ask) w.asks → All (λ a. C a.ask) kept
  kept_all C h =
      all_filter (λ a. C a.ask) (λ a. not (is_cancelled item v d ws a)) (filter (λ a. not (is_over d a)) (map (after_deed d) w.asks))
      (all_filter (λ a. C a.ask) (λ a. not (is_over d a)) (map (after_deed d) w.asks) (all_map (λ a. C a.ask) (λ a. C a.ask) (after_deed d) (λ a h. subst C (sym (deed_ask d a)) h) w.asks h))

  old_own : (b : Ask) → UpTo w.key_count b → All (OwnOf b) w.asks → All (OwnOf b) (kept ++ made)
  old_own b low h = all_append (OwnOf b) kept made (kept_all (Own b) h) (all_weaker (Above w.key_count) (OwnOf b) (λ a high. apart a.ask b w.key_count high low) made (made_above w.epoch w.key_count fresh))

  new_own : All (λ a. UpTo w.key_count a.ask) w.asks → All (λ b. All (OwnOf b.ask) (kept ++ made)) made
  new_own h =
      all_both (λ b. All (OwnOf b.ask) made) (Above w.key_count) (λ b. All (OwnOf b.ask) (kept ++ made))
      (λ b own high. all_append (OwnOf b.ask) kept made (all_weaker (λ a. UpTo w.key_count a.ask) (OwnOf b.ask) (λ a low. apart_back a.ask b.ask w.key_count low high) kept (kept_all (UpTo w.key_count) h)) own)
      made (made_own w.epoch w.key_count fresh) (made_above w.epoch w.key_count fresh)

  more : (b : Ask) → UpTo w.key_count b → UpTo (w.key_count + length made) b
  more b h = upto_more w.key_count (length made) b.key.number h

  all_asked : All (λ a. UpTo w.key_count a.ask) w.asks → All (λ a. UpTo (w.key_count + length made) a.ask) (kept ++ made)
  all_asked h =
      all_append (λ a. UpTo (w.key_count + length made) a.ask) kept made
      (all_weaker (λ a. UpTo w.key_count a.ask) (λ a. UpTo (w.key_count + length made) a.ask) (λ a k. more a.ask k) kept (kept_all (UpTo w.key_count) h)) (made_upto w.epoch w.key_count fresh)

  before_own : (o : List Ask) → AreKeysOwn o w → AreKeysOwn o (step_of item v d w).1
  before_own o h = record {
    own = all_both (λ b. All (OwnOf b) w.asks) (UpTo w.key_count) (λ b. All (OwnOf b) (kept ++ made)) (λ b own low. old_own b low own) o h.own h.given;
    given = all_weaker (UpTo w.key_count) (UpTo (w.key_count + length made)) more o h.given;
    live = all_asked h.live;
  }

  after_own : (o : List Ask) → AreKeysOwn o w → AreKeysOwn (o ++ map (λ a. a.ask) (step_of item v d w).0.made) (step_of item v d w).1
  after_own o h =
      let k : AreKeysOwn o (step_of item v d w).1 = before_own o h in
      record {
        own = all_append (λ b. All (OwnOf b) (kept ++ made)) o (map (λ a. a.ask) made) k.own (all_map (λ b. All (OwnOf b.ask) (kept ++ made)) (λ b. All (OwnOf b) (kept ++ made)) (λ a. a.ask) (λ b z. z) made (new_own h.live));
        given = all_append (UpTo (w.key_count + length made)) o (map (λ a. a.ask) made) k.given
            (all_map (λ a. UpTo (w.key_count + length made) a.ask) (UpTo (w.key_count + length made)) (λ a. a.ask) (λ b z. z) made (made_upto w.epoch w.key_count fresh));
        live = k.live;
      }

-- in each state

none_own : (w : Waiting) (o : List Ask) → All (λ b. All (OwnOf b) []) o
none_own w [] = tt
none_own w (b ∷ bs) = (tt, none_own w bs)

own_boxing : Boxing AreKeysOwn
own_boxing = record {
  steps = λ o w item v d h. (before_own w item v d o h, after_own w item v d o h);
  begins = λ o w ws h. record { own = h.own; given = h.given; live = h.live };
  downs = λ o w h. record { own = none_own w o; given = h.given; live = tt };
  ticks = λ o w n h. record {
    own = all_weaker (λ b. All (OwnOf b) w.asks) (λ b. All (OwnOf b) (map (aged n) w.asks)) (λ b k. all_map (OwnOf b) (OwnOf b) (aged n) (λ a z. z) w.asks k) o h.own;
    given = h.given;
    live = all_map (λ a. UpTo w.key_count a.ask) (λ a. UpTo w.key_count a.ask) (aged n) (λ a z. z) w.asks h.live;
  };
  pops = λ a o w h. record { own = h.own.1; given = h.given.1; live = h.live };
}

own_runs : BoxingRuns AreKeysOwn
own_runs = record {
  boxing = own_boxing;
  crashes = λ o w h. record { own = tt; given = tt; live = tt };
  opens = λ epoch. record { own = tt; given = tt; live = tt };
}

-- where the key is live
pub own_live : (asks : List Ask) (w : Waiting) → AreKeysOwn asks w → AreLiveOwn asks w
own_live asks w h = all_weaker (λ b. All (OwnOf b) w.asks) (λ b. (l : Live) → live_of w.asks b.key ≡ Some l → l.ask ≡ b) (λ b k l e. let x = all_found (OwnOf b) (λ a. same_key a.ask.key b.key) w.asks l e k in x.0 x.1) asks h.own

-- beside the ask whose callback is called

abbrev Calling : Ask → Fact
Calling b o w = AreKeysOwn (b ∷ o) w

calling_boxing : (b : Ask) → Boxing (Calling b)
calling_boxing b = record {
  steps = λ o w item v d h. own_boxing.steps (b ∷ o) w item v d h;
  begins = λ o w ws h. own_boxing.begins (b ∷ o) w ws h;
  downs = λ o w h. own_boxing.downs (b ∷ o) w h;
  ticks = λ o w n h. own_boxing.ticks (b ∷ o) w n h;
  pops = λ a o w h. record { own = (h.own.0, h.own.1.1); given = (h.given.0, h.given.1.1); live = h.live };
}

pub acts_own : (b : Ask) (acts : List Act) (s t : Filter) → AreKeysOwn (b ∷ s.outbox) s.waiting → Acts s acts t → AreKeysOwn (b ∷ t.outbox) t.waiting
acts_own b acts s t h a = acts_keep (Calling b) (calling_boxing b) acts s t h a

-- runs

pub run_own : (m : Mode) (remote : Held) (clusters : ℕ) (trace : List (Event × Answer)) (s : State) → Runs m (start m remote clusters) trace s → IsFresh remote → AreBoxedOwn s.filter
run_own m remote clusters trace s runs fresh = run_holds AreKeysOwn own_runs m remote clusters trace s runs fresh

pub event_own : (m : Mode) (remote : Held) (clusters : ℕ) (trace : List (Event × Answer)) (s : State) (e : Event) → Runs m (start m remote clusters) trace s → IsFresh remote → is_of m e ≡ true
    → Keeps (λ t. AreBoxedOwn t.filter) (tree_of e s)
event_own m remote clusters trace s e runs fresh is = event_holds AreKeysOwn own_runs m remote clusters trace s e runs fresh is
