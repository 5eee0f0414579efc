-- Asks that end by time.
use Rattle.std.proofs.Common.{◌≡◌, ◌<◌, zero, suc, List, [], ◌∷◌, length, get_or, arith, map, refl, sym, ◌∙◌, ap, subst, ℕ, Option, Some, None}
use Rattle.std.specs.Prelude.{Result, Ok, Err, option_map}
use Rattle.cf_base.specs.declared.answers.Shown.TheVariants as shown
use Rattle.cf_base.specs.declared.codes.CallError.{CallError}
use Rattle.cf_base.specs.declared.ids.Key.{Key}
use Rattle.cf_base.specs.declared.waits.Ask.{Ask}
use Rattle.cf_model.specs.Arrows.{each, noted, reading, then_do, unit}
use Rattle.cf_model.specs.Operations.{done}
use Rattle.cf_model.specs.Requests.{Expires, Live, Waiting, expired, live_of}
use Rattle.cf_model.specs.Settling.{settle}
use Rattle.cf_model.specs.State.{Filter}
use Rattle.cf_model.specs.Trees.{Does}
use Rattle.cf_model.specs.Waits.{expire, expire_live, expired_keys, still_live, tick, with_time}
use Rattle.cf_filter_steps.specs.Answering.{After, Answers, Any, Reads, Sense}
use Rattle.cf_filter_steps.specs.Readings.{waiting_of}
use Rattle.cf_filter_steps.proofs.Laws.{any_on, reads_on, returned, stops_first}

pub key_there : (keys : List Key) (i : ℕ) (d e : Key) → i < length keys → get_or keys i d ≡ get_or keys i e
key_there [] i d e h = absurd (omega (arith, h))
key_there (k ∷ ks) zero d e h = refl
key_there (k ∷ ks) (suc i) d e h = key_there ks i d e (omega (arith, h))

pub expire_on : {X : Type 0} (S : Sense X) (key : Key) (w : Waiting) (o : Option Ask) (a : Ask) (x new : X) (r : Result (Unit {0}) CallError)
    → Reads S Any waiting_of x w → o ≡ option_map (λ (b : Live). b.ask) (live_of w.asks key) → o ≡ Some a → Answers S Any (settle a.item (Expires key)) x r new → Answers S Any (expire key) x r new
expire_on {X} S key w o a x new r reads q e h = record {
  leads = λ s i p. one (still_live key s) (sym e ∙ q ∙ ap (λ (v : Waiting). option_map (λ (b : Live). b.ask) (live_of v.asks key)) (reads.is s i p)) s i;
} where
  one : (k : Option Live) → Some a ≡ option_map (λ (b : Live). b.ask) k → (s : Filter) → S.means x s → (t : Filter) × Does (expire_live key k s) r t × S.moved x new s t × After S x r new t
  one None z s i = let y : ◌≡◌ {A = Option Ask} (Some a) None = z in absurd cc
  one (Some b) z s i =
      let same : a ≡ b.ask = cc in
      subst (λ (c : Ask). (t : Filter) × Does (settle c.item (Expires key) s) r t × S.moved x new s t × After S x r new t) same (h.leads s i (record {}))

pub expire_none : {X : Type 0} (S : Sense X) (key : Key) (w : Waiting) (o : Option Ask) (x : X)
    → Reads S Any waiting_of x w → o ≡ option_map (λ (b : Live). b.ask) (live_of w.asks key) → o ≡ None → Answers S Any (expire key) x (Ok unit) x
expire_none {X} S key w o x reads q e = record {
  leads = λ s i p. one (still_live key s) (sym e ∙ q ∙ ap (λ (v : Waiting). option_map (λ (b : Live). b.ask) (live_of v.asks key)) (reads.is s i p)) s i;
} where
  one : (k : Option Live) → None ≡ option_map (λ (b : Live). b.ask) k → (s : Filter) → S.means x s
      → (t : Filter) × Does {A = Unit {0}} (expire_live key k s) (Ok unit) t × S.moved x x s t × After {A = Unit {0}} S x (Ok unit) x t
  one None z s i = (s, (refl, refl), S.stays x s i, i)
  one (Some b) z s i = let y : ◌≡◌ {A = Option Ask} None (Some b.ask) = z in absurd cc

pub keys_by : {X : Type 0} (S : Sense X) (w : Waiting) (ks listed : List Key) (x new : X) (r : Result (Unit {0}) CallError)
    → Reads S Any waiting_of x w → ks ≡ map (λ (a : Live). a.ask.key) (expired w) → listed ≡ ks → Answers S Any (each expire listed) x r new → Answers S Any (reading expired_keys (each expire)) x r new
keys_by S w ks listed x new r reads e q a =
    reads_on S Any expired_keys (each expire) x new listed r (record { is = λ s i p. q ∙ e ∙ ap (λ (v : Waiting). map (λ (b : Live). b.ask.key) (expired v)) (reads.is s i p) }) a

pub ticked_on : {X : Type 0} (S : Sense X) (n : ℕ) (u v : Unit {0}) (x mid new : X)
    → Answers S Any (noted (with_time n)) x (Ok u) mid → Answers S Any (reading expired_keys (each expire)) mid (Ok v) new → Answers S Any (tick n) x (Ok shown.Done) new
ticked_on S n u v x mid new a b =
    any_on S (noted (with_time n)) (then_do (reading expired_keys (each expire)) done) x mid new u (Ok shown.Done) a
    (any_on S (reading expired_keys (each expire)) done mid new new v (Ok shown.Done) b (returned S Any shown.Done new))

pub ticked_not : {X : Type 0} (S : Sense X) (n : ℕ) (u : Unit {0}) (e : CallError) (x mid new : X)
    → Answers S Any (noted (with_time n)) x (Ok u) mid → Answers S Any (reading expired_keys (each expire)) mid (Err e) new → Answers S Any (tick n) x (Err e) new
ticked_not S n u e x mid new a b =
    any_on S (noted (with_time n)) (then_do (reading expired_keys (each expire)) done) x mid new u (Err e) a (stops_first S Any (reading expired_keys (each expire)) done mid new e b)
