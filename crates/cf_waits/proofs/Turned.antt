-- A step that is done, as it stands in the books.
use Rattle.std.proofs.Common.{◌≡◌, ℕ, ◌+◌, ◌≤◌, ◌&&◌, cond, not, Option, Result, Ok, Err, List, [], ◌∷◌, ◌++◌, length, refl, sym, ap, subst, ◌∙◌, arith, eqb}
use Rattle.std.specs.Prelude.{OnErr, filter, map}
use Rattle.std.specs.List.{AllByRecursion}
use Rattle.cf_ask_rule.specs.Near.{Agrees, IsFull}
use Rattle.cf_ask_rule.specs.Owners.{owners}
use Rattle.cf_ask_rule.specs.Plans.{Planned}
use Rattle.cf_base.specs.declared.ids.ItemId.{ItemId}
use Rattle.cf_base.specs.declared.ids.Key.{Key}
use Rattle.cf_base.specs.declared.waits.Cause.{Cause}
use Rattle.cf_model.specs.Asks.{with_keys}
use Rattle.cf_model.specs.Missing.{Wait}
use Rattle.cf_model.specs.Requests.{Live, Told, Waiting, aged, has_block, ticked, with_waits}
use Rattle.cf_waits.proofs.Soundness.{all_keyed, begun_sound, step_sound}
use Rattle.cf_waits.specs.Rising.{AreNext, IsRising, RisesTo, ask_key, wait_key}
use Rattle.cf_waits.specs.Sound.{IsSound}
use Rattle.cf_waits.specs.Steps.{IsPlanned, carried, changed_by, is_ended, is_gone, turned}

pub waits_rise : (s t : Waiting) (begun ws : List Wait) → t ≡ s → IsSound t → AreNext begun s → ws ≡ t.waits → IsRising wait_key (ws ++ begun)
waits_rise s t begun ws e h next w =
    let sound : IsSound s = subst (λ (x : Waiting). IsSound x) e h in
    let r : IsRising wait_key (s.waits ++ begun) = (s.epoch, s.wait_count + length begun, (begun_sound begun s sound next).numbered.waits) in
    subst (λ (l : List Wait). IsRising wait_key (l ++ begun)) (sym (w ∙ ap (λ (x : Waiting). x.waits) e)) r

pub asks_rise : (t : Waiting) (all : List Live) → IsSound t → all ≡ t.asks → IsRising ask_key all
asks_rise t all h e = subst (λ (l : List Live). IsRising ask_key l) (sym e) (t.epoch, t.key_count, h.numbered.asks)

pub on_err : {A E : Type 0} (r : Result A E) (P : Type 0) → P → OnErr r P
on_err (Ok x) P p = tt
on_err (Err e) P p = p

-- the same lists in other books
pub kept_is : (s t : Waiting) (ws : List Wait) (all : List Live) → t ≡ s → ws ≡ t.waits → all ≡ t.asks → record { epoch = t.epoch; waits = ws; asks = all; wait_count = t.wait_count; key_count = t.key_count } ≡ s
kept_is s t ws all e w a = same ∙ e where
  same : record { epoch = t.epoch; waits = ws; asks = all; wait_count = t.wait_count; key_count = t.key_count } ≡ t
  same = λ j. record { epoch = t.epoch; waits = w j; asks = a j; wait_count = t.wait_count; key_count = t.key_count }

module _ (begun : List Wait) (ended : List (Wait × Cause)) (cancelled : List Key) (dropped : Option Key) (changed : Option Live) (made : List Live) where
  pub turned_is : (s t : Waiting) (ws us : List Wait) (all asks : List Live) (n k : ℕ) → t ≡ s → us ≡ t.waits → asks ≡ t.asks → ws ≡ filter (λ w. not (is_ended ended w)) (us ++ begun)
      → all ≡ map (changed_by changed) (filter (λ a. not (is_gone cancelled dropped a)) asks) ++ made → n ≡ t.wait_count + length begun → k ≡ t.key_count + length made
      → record { epoch = t.epoch; waits = ws; asks = all; wait_count = n; key_count = k } ≡ turned begun ended cancelled dropped changed made s
  turned_is s t ws us all asks n k e u a w h f g = same ∙ ap (turned begun ended cancelled dropped changed made) e where
    waits : ws ≡ filter (λ w. not (is_ended ended w)) (t.waits ++ begun)
    waits = w ∙ ap (λ (l : List Wait). filter (λ w. not (is_ended ended w)) (l ++ begun)) u

    left : all ≡ map (changed_by changed) (filter (λ a. not (is_gone cancelled dropped a)) t.asks) ++ made
    left = h ∙ ap (λ (l : List Live). map (changed_by changed) (filter (λ a. not (is_gone cancelled dropped a)) l) ++ made) a

    same : record { epoch = t.epoch; waits = ws; asks = all; wait_count = n; key_count = k } ≡ turned begun ended cancelled dropped changed made t
    same = λ j. record { epoch = t.epoch; waits = waits j; asks = left j; wait_count = f j; key_count = g j }

  pub carried_is : (p : Planned) (s : Waiting) → ended ≡ p.ended → cancelled ≡ p.cancelled → dropped ≡ p.dropped → changed ≡ p.changed → made ≡ with_keys s.epoch s.key_count p.made
      → turned begun ended cancelled dropped changed made s ≡ (carried p (with_waits begun s)).1
  carried_is p s e c d h m = λ j. turned begun (e j) (c j) (d j) (h j) (m j) s

pub planned_sound : (p : Planned) (s t : Waiting) (begun : List Wait) → t ≡ s → IsSound t → AreNext begun s → IsPlanned p (with_waits begun s) → IsSound (carried p (with_waits begun s)).1
planned_sound p s t begun e h next is =
    subst (λ (x : Waiting). IsSound x) (sym (ap (λ (x : Told × Waiting). x.1) is.3)) (step_sound is.0 is.1 is.2 (with_waits begun s) (begun_sound begun s (subst (λ (x : Waiting). IsSound x) e h) next))

pub keyed_fresh : (epoch n : ℕ) (made keyed : List Live) → AllByRecursion (λ a. a.ticks ≡ 0) made → keyed ≡ with_keys epoch n made → AllByRecursion (λ a. a.ticks ≡ 0) keyed
keyed_fresh epoch n made keyed h e = subst (λ (l : List Live). AllByRecursion (λ a. a.ticks ≡ 0) l) (sym e) (all_keyed (λ a. a.ticks ≡ 0) (λ a k g. g) epoch n made h)

-- nothing waits, and nothing is asked
pub none_sound : (s : Waiting) → s.waits ≡ [] → s.asks ≡ [] → IsSound s
none_sound s w a = record {
  numbered = record {
    waits = subst (λ (l : List Wait). RisesTo wait_key s.epoch 0 s.wait_count l) (sym w) (omega arith);
    asks = subst (λ (l : List Live). RisesTo ask_key s.epoch 0 s.key_count l) (sym a) (omega arith);
  };
  full = subst (λ (l : List Live). AllByRecursion IsFull l) (sym a) tt;
  agrees = subst (λ (l : List Live). AllByRecursion (Agrees s.waits) l) (sym a) tt;
  given = subst (λ (l : List Live). AllByRecursion (λ x. x.wait.0.number ≤ s.wait_count) l) (sym a) tt;
  apart = λ item b. subst (λ (l : List Live). owners item b l ≤ 1) (sym a) (omega arith);
}

-- ticks pass

all_aged : (P : Live → Type 0) → ((a : Live) (n : ℕ) → P a → P (aged n a)) → (n : ℕ) (xs : List Live) → AllByRecursion P xs → AllByRecursion P (map (aged n) xs)
all_aged P f n [] h = tt
all_aged P f n (x ∷ xs) h = (f x n h.0, all_aged P f n xs h.1)

rises_aged : (epoch low high n : ℕ) (xs : List Live) → RisesTo ask_key epoch low high xs → RisesTo ask_key epoch low high (map (aged n) xs)
rises_aged epoch low high n [] h = h
rises_aged epoch low high n (x ∷ xs) h = (h.0, h.1, rises_aged epoch x.ask.key.number high n xs h.2)

owners_aged : (item : ItemId) (b n : ℕ) (xs : List Live) → owners item b (map (aged n) xs) ≡ owners item b xs
owners_aged item b n [] = refl
owners_aged item b n (x ∷ xs) = ap (λ k. cond ((eqb x.ask.item.0 item.0) && has_block x.owned b) 1 0 + k) (owners_aged item b n xs)

pub aged_sound : (s : Waiting) (n : ℕ) (all : List Live) → IsSound s → all ≡ map (aged n) s.asks → IsSound (record s { asks = all })
aged_sound s n all h e = subst (λ (l : List Live). IsSound (record s { asks = l })) (sym e) (record {
  numbered = record { waits = h.numbered.waits; asks = rises_aged s.epoch 0 s.key_count n s.asks h.numbered.asks };
  full = all_aged IsFull (λ a m k. k) n s.asks h.full;
  agrees = all_aged (Agrees s.waits) (λ a m k. k) n s.asks h.agrees;
  given = all_aged (λ a. a.wait.0.number ≤ s.wait_count) (λ a m k. k) n s.asks h.given;
  apart = λ item b. subst (λ (k : ℕ). k ≤ 1) (sym (owners_aged item b n s.asks)) (h.apart item b);
})

pub ticked_is : (s t : Waiting) (n : ℕ) (all : List Live) → t ≡ s → all ≡ map (aged n) t.asks → record t { asks = all } ≡ ticked n s
ticked_is s t n all e a = same ∙ ap (ticked n) e where
  same : record t { asks = all } ≡ ticked n t
  same = λ j. record { epoch = t.epoch; waits = t.waits; asks = a j; wait_count = t.wait_count; key_count = t.key_count }
