-- What goes out of lists, one after another, and what comes.
use Rattle.std.proofs.Common.{◌≡◌, ℕ, zero, suc, ◌+◌, ◌<◌, ◌≤◌, Bool, true, false, ◌&&◌, ◌||◌, not, cond, Option, Some, None, List, [], ◌∷◌, ◌++◌, length, drop, get_or, refl, sym, ap, subst, ◌∙◌, arith, eqb}
use Rattle.std.specs.Prelude.{filter, map}
use Rattle.std.specs.List.{list_any}
use Rattle.std.proofs.lemmas.Bool.Decides.{nat_tests}
use Rattle.std.proofs.lemmas.List.{drop_more}
use Rattle.cf_ask_rule.proofs.Filters.{all_of, filter_same}
use Rattle.cf_base.specs.declared.ids.Key.{Key}
use Rattle.cf_base.specs.declared.ids.WaitId.{WaitId}
use Rattle.cf_base.specs.declared.waits.Cause.{Cause}
use Rattle.cf_model.specs.Missing.{Wait}
use Rattle.cf_model.specs.Numbers.{same_key}
use Rattle.cf_model.specs.Requests.{Live}
use Rattle.cf_model.specs.Words.{says}
use Rattle.cf_waits.proofs.Told.{filter_both}
use Rattle.cf_waits.specs.Rising.{IsRising, RisesTo}
use Rattle.cf_waits.specs.Steps.{changed_by, is_ended, is_gone}

pub swap : (j k : Key) → same_key j k ≡ same_key k j
swap j k = four j.epoch j.number k.epoch k.number where
  four : (a b c d : ℕ) → (eqb a c && eqb b d) ≡ (eqb c a && eqb d b)
  four a b c d = grind (arith, nat_tests)

not_either : (a b : Bool) → (not a && not b) ≡ not (a || b)
not_either true b = refl
not_either false b = refl

-- what is left by one test and then by another is left by both
left_twice : {A : Type 0} (p q r : A → Bool) → ((x : A) → r x ≡ (q x || p x)) → (xs : List A) → filter (λ x. not (p x)) (filter (λ x. not (q x)) xs) ≡ filter (λ x. not (r x)) xs
left_twice {A} p q r h xs =
    filter_both (λ x. not (p x)) (λ x. not (q x)) xs
    ∙ filter_same (λ x. not (q x) && not (p x)) (λ x. not (r x)) xs (all_of (λ (x : A). (not (q x) && not (p x)) ≡ not (r x)) (λ (x : A). not_either (q x) (p x) ∙ ap not (sym (h x))) xs)

pub one_ended : (e : Wait × Cause) (es : List (Wait × Cause)) (ws : List Wait) → filter (λ w. not (is_ended es w)) (filter (λ w. not (same_key e.0.id.0 w.id.0)) ws) ≡ filter (λ w. not (is_ended (e ∷ es) w)) ws
one_ended e es ws = left_twice (λ w. is_ended es w) (λ w. same_key e.0.id.0 w.id.0) (λ w. is_ended (e ∷ es) w) (λ w. refl) ws

pub none_left_out : {A : Type 0} (xs : List A) → filter (λ x. true) xs ≡ xs
none_left_out [] = refl
none_left_out (x ∷ xs) = ap (λ l. x ∷ l) (none_left_out xs)

drop_end : {A : Type 0} (n : ℕ) (xs : List A) → length xs ≤ n → drop n xs ≡ []
drop_end zero [] h = refl
drop_end zero (x ∷ xs) h = absurd (omega arith)
drop_end (suc n) [] h = refl
drop_end (suc n) (x ∷ xs) h = drop_end n xs (omega arith)

pub next_ended : (e : Wait × Cause) (i : ℕ) (all : List (Wait × Cause)) (id : WaitId) (xs new rest : List Wait) → i < length all → e ≡ get_or all i e → id ≡ e.0.id → new ≡ filter (λ w. not (same_key id.0 w.id.0)) xs
    → filter (λ w. not (is_ended (drop i all) w)) xs ≡ rest → filter (λ w. not (is_ended (drop (i + 1) all) w)) new ≡ rest
next_ended e i all id xs new rest lt is own goes h =
    ap (filter (λ w. not (is_ended (drop (i + 1) all) w))) (goes ∙ ap (λ (k : WaitId). filter (λ w. not (same_key k.0 w.id.0)) xs) own) ∙ one_ended e (drop (i + 1) all) xs
    ∙ ap (λ (es : List (Wait × Cause)). filter (λ w. not (is_ended es w)) xs) (ap (λ (v : Wait × Cause). v ∷ drop (i + 1) all) is ∙ sym (drop_more all i e lt)) ∙ h

pub last_ended : (i : ℕ) (all : List (Wait × Cause)) (xs rest : List Wait) → length all ≤ i → filter (λ w. not (is_ended (drop i all) w)) xs ≡ rest → xs ≡ rest
last_ended i all xs rest le h = sym (none_left_out xs) ∙ ap (λ (es : List (Wait × Cause)). filter (λ w. not (is_ended es w)) xs) (sym (drop_end i all le)) ∙ h

pub one_cancelled : (k : Key) (ks : List Key) (xs : List Live) → filter (λ a. not (list_any (same_key a.ask.key) ks)) (filter (λ a. not (same_key k a.ask.key)) xs) ≡ filter (λ a. not (list_any (same_key a.ask.key) (k ∷ ks))) xs
one_cancelled k ks xs = left_twice (λ a. list_any (same_key a.ask.key) ks) (λ a. same_key k a.ask.key) (λ a. list_any (same_key a.ask.key) (k ∷ ks)) (λ a. ap (λ b. b || list_any (same_key a.ask.key) ks) (swap a.ask.key k)) xs

pub next_cancelled : (d : Key) (i : ℕ) (all : List Key) (xs new rest : List Live) → i < length all → new ≡ filter (λ a. not (same_key (get_or all i d) a.ask.key)) xs
    → filter (λ a. not (list_any (same_key a.ask.key) (drop i all))) xs ≡ rest → filter (λ a. not (list_any (same_key a.ask.key) (drop (i + 1) all))) new ≡ rest
next_cancelled d i all xs new rest lt goes h =
    ap (filter (λ a. not (list_any (same_key a.ask.key) (drop (i + 1) all)))) goes ∙ one_cancelled (get_or all i d) (drop (i + 1) all) xs
    ∙ ap (λ (ks : List Key). filter (λ a. not (list_any (same_key a.ask.key) ks)) xs) (sym (drop_more all i d lt)) ∙ h

pub last_cancelled : (i : ℕ) (all : List Key) (xs rest : List Live) → length all ≤ i → filter (λ a. not (list_any (same_key a.ask.key) (drop i all))) xs ≡ rest → xs ≡ rest
last_cancelled i all xs rest le h = sym (none_left_out xs) ∙ ap (λ (ks : List Key). filter (λ a. not (list_any (same_key a.ask.key) ks)) xs) (sym (drop_end i all le)) ∙ h

pub one_dropped : (k : Key) (xs : List Live) → filter (λ a. not (same_key k a.ask.key)) xs ≡ filter (λ a. not (says (same_key a.ask.key) (Some k))) xs
one_dropped k xs = filter_same (λ a. not (same_key k a.ask.key)) (λ a. not (same_key a.ask.key k)) xs (all_of (λ a. not (same_key k a.ask.key) ≡ not (same_key a.ask.key k)) (λ a. ap not (swap k a.ask.key)) xs)

map_each : {A B : Type 0} (f g : A → B) → ((x : A) → f x ≡ g x) → (xs : List A) → map f xs ≡ map g xs
map_each f g h [] = refl
map_each f g h (x ∷ xs) = ap (λ v. v ∷ map f xs) (h x) ∙ ap (λ l. g x ∷ l) (map_each f g h xs)

pub one_changed : (c : Live) (xs : List Live) → map (λ a. cond (same_key c.ask.key a.ask.key) (record a { owned = c.owned; ticks = 0 }) a) xs ≡ map (changed_by (Some c)) xs
one_changed c xs = map_each (λ a. cond (same_key c.ask.key a.ask.key) (record a { owned = c.owned; ticks = 0 }) a) (changed_by (Some c)) (λ a. ap (λ b. cond b (record a { owned = c.owned; ticks = 0 }) a) (swap c.ask.key a.ask.key)) xs

pub none_changed : (xs : List Live) → xs ≡ map (changed_by None) xs
none_changed [] = refl
none_changed (x ∷ xs) = ap (λ l. x ∷ l) (none_changed xs)

-- all that goes, and what is changed of the rest
pub all_turned : (cancelled : List Key) (dropped : Option Key) (changed : Option Live) (old first second third : List Live) → first ≡ filter (λ a. not (list_any (same_key a.ask.key) cancelled)) old → second ≡ filter (λ a. not (says (same_key a.ask.key) dropped)) first
    → third ≡ map (changed_by changed) second → third ≡ map (changed_by changed) (filter (λ a. not (is_gone cancelled dropped a)) old)
all_turned cancelled dropped changed old first second third e f g =
    g ∙ ap (map (changed_by changed)) (f ∙ ap (filter (λ a. not (says (same_key a.ask.key) dropped))) e
    ∙ left_twice (λ a. says (same_key a.ask.key) dropped) (λ a. list_any (same_key a.ask.key) cancelled) (is_gone cancelled dropped) (λ a. refl) old)

-- a front of a list that rises

cut_from : {A : Type 0} (key : A → Key) (epoch low high : ℕ) (xs : List A) (y : A) (zs : List A) → RisesTo key epoch low high (xs ++ y ∷ zs) → RisesTo key epoch low (key y).number (xs ++ y ∷ [])
cut_from key epoch low high [] y zs h = (h.0, h.1, omega arith)
cut_from key epoch low high (x ∷ xs) y zs h = (h.0, h.1, cut_from key epoch (key x).number high xs y zs h.2)

pub rising_cut : {A : Type 0} (key : A → Key) (all xs : List A) (y : A) (zs : List A) → IsRising key all → xs ++ y ∷ zs ≡ all → IsRising key (xs ++ y ∷ [])
rising_cut key all xs y zs r e =
    let h : RisesTo key r.0 0 r.1 (xs ++ y ∷ zs) = subst (λ (l : List _). RisesTo key r.0 0 r.1 l) (sym e) r.2 in
    (r.0, (key y).number, cut_from key r.0 0 r.1 xs y zs h)

pub glue : {A : Type 0} (xs : List A) (y : A) (zs : List A) → (xs ++ y ∷ []) ++ zs ≡ xs ++ y ∷ zs
glue [] y zs = refl
glue (x ∷ xs) y zs = ap (λ l. x ∷ l) (glue xs y zs)

pub no_length : {A : Type 0} (xs : List A) → length xs ≡ 0 → xs ≡ []
no_length [] h = refl
no_length (x ∷ xs) h = absurd (omega arith)
