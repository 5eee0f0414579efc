-- The asks that failed between two counts of a remote are those that it lists.
use Rattle.std.proofs.Common.{◌≡◌, ◌≤◌, ◌<◌, ℕ, suc, ◌+◌, ◌==◌, Bool, true, false, cond, List, [], ◌∷◌, refl, sym, ap, subst, ◌∙◌, arith}
use Rattle.std.specs.Prelude.{min, length, Option, Some, None, is_some, option_map}
use Rattle.std.specs.List.{list_any}
use Rattle.std.proofs.lemmas.Option.{same_Some}
use Rattle.cf_link.specs.Faults.{AsksFailed, Once, Went, failures, most_faults}
use Rattle.cf_link.specs.Listed.{Lists, listed}
use Rattle.cf_remote.specs.Peers.{IsCount}
use Rattle.cf_remote.specs.Told.{IsNextListed, Told, counted}

-- a remote goes on to report its asks and its list

some_counted : (o : Option ℕ) → is_some o ≡ true → is_some (option_map counted o) ≡ true
some_counted None h = h
some_counted (Some n) h = refl

lists_once : (fails : List ℕ) (failed : Bool) (old new : Told) → Lists fails old → Once failed old new → Lists fails new
lists_once fails failed old new h once = record { counts = ap (λ (o : Option ℕ). is_some o) once.counts.asks ∙ some_counted old.asks h.counts; lists = once.counts.fails ∙ h.lists }

lists_went : (fails : List ℕ) (asks : List Bool) (old new : Told) → Lists fails old → Went asks old new → Lists fails new
lists_went fails [] old new h went = subst (λ (t : Told). Lists fails t) (sym went) h
lists_went fails (failed ∷ more) old new h went = lists_went fails more went.0 new (lists_once fails failed old went.0 h went.1) went.2

pub lists_on : (fails : List ℕ) (n : ℕ) (old new : Told) → Lists fails old → AsksFailed n old new → Lists fails new
lists_on fails n old new h k = lists_went fails k.asks old new h k.went

-- numbers of asks

end_count : (cap x : ℕ) → x ≤ cap → x ≡ min (x + 0) cap
end_count cap x h = omega (arith, h)

next_count : (cap x n : ℕ) → min (min (x + 1) cap + n) cap ≡ min (x + suc n) cap
next_count cap x n = omega arith

most_count : (cap x : ℕ) → min (x + 1) cap ≤ cap
most_count cap x = omega arith

plain_count : (cap x : ℕ) → x + 1 < cap → min (x + 1) cap ≡ suc x
plain_count cap x h = omega (arith, h)

first_count : (cap a b n : ℕ) → min (min a cap + n) cap ≡ min b cap → b < cap → min a cap ≡ a
first_count cap a b n same few = omega (arith, same, few)

last_count : (cap a b n : ℕ) → min (min a cap + n) cap ≡ min b cap → b < cap → a + n ≡ b
last_count cap a b n same few = omega (arith, same, few)

-- how often a remote reports that it was asked
count_went : (asks : List Bool) (old new : Told) (x : ℕ) → x ≤ most_faults → old.asks ≡ Some x → Went asks old new → new.asks ≡ Some (min (x + length asks) most_faults)
count_went [] old new x few h went = ap (λ (t : Told). t.asks) went ∙ h ∙ ap (λ (n : ℕ). Some n) (end_count most_faults x few)
count_went (failed ∷ more) old new x few h went =
    count_went more went.0 new (counted x) (most_count most_faults x) (went.1.counts.asks ∙ ap (λ (o : Option ℕ). option_map counted o) h) went.2
    ∙ ap (λ (n : ℕ). Some n) (next_count most_faults x (length more))

known_count : (o : Option ℕ) (a : ℕ) → is_some o ≡ true → IsCount o a → o ≡ Some (min a most_faults)
known_count None a h is = let z : false ≡ true = h in cc
known_count (Some x) a h is = ap (λ (n : ℕ). Some n) is

-- asks fail exactly where they are listed

next_listed : (fails : List ℕ) (old : Told) (x : ℕ) (failed : Bool) → old.asks ≡ Some x → old.fails ≡ Some fails → x + 1 < most_faults → IsNextListed old.asks old.fails failed → list_any (λ (n : ℕ). n == suc x) fails ≡ failed
next_listed fails old x failed asks lists few h =
    let which : IsNextListed (Some x) (Some fails) failed = subst (λ (o : Option (List ℕ)). IsNextListed (Some x) o failed) lists (subst (λ (o : Option ℕ). IsNextListed o old.fails failed) asks h) in
    ap (λ (k : ℕ). list_any (λ (n : ℕ). n == k) fails) (sym (plain_count most_faults x few)) ∙ which

listed_went : (fails : List ℕ) (asks : List Bool) (old new : Told) (x : ℕ) → Lists fails old → old.asks ≡ Some x → Went asks old new → x + length asks < most_faults → listed fails x + failures asks ≡ listed fails (x + length asks)
listed_went fails [] old new x h is went few =
    let e : x + 0 ≡ x = omega arith in
    let same : listed fails (x + 0) ≡ listed fails x = ap (listed fails) e in
    omega (arith, same)
listed_went fails (failed ∷ more) old new x h is went few =
    let here : list_any (λ (n : ℕ). n == suc x) fails ≡ failed = next_listed fails old x failed is h.lists (within most_faults x (length more) few) went.1.counts.which in
    let next : went.0.asks ≡ Some (suc x) = went.1.counts.asks ∙ ap (λ (o : Option ℕ). option_map counted o) is ∙ ap (λ (n : ℕ). Some n) (plain_count most_faults x (within most_faults x (length more) few)) in
    let rest : listed fails (suc x) + failures more ≡ listed fails (suc x + length more) = listed_went fails more went.0 new (suc x) (lists_once fails failed old went.0 h went.1) next went.2 (shifted most_faults x (length more) few) in
    let one : listed fails (suc x) ≡ listed fails x + cond failed 1 0 = ap (λ (b : Bool). listed fails x + cond b 1 0) here in
    let e : suc x + length more ≡ x + suc (length more) = omega arith in
    let same : listed fails (suc x + length more) ≡ listed fails (x + suc (length more)) = ap (listed fails) e in
    omega (arith, rest, one, same)
  where
    within : (cap x n : ℕ) → x + suc n < cap → x + 1 < cap
    within cap x n h = omega (arith, h)

    shifted : (cap x n : ℕ) → x + suc n < cap → suc x + n < cap
    shifted cap x n h = omega (arith, h)

-- so the asks that failed between two counts are as many as are listed between them
pub listed_asks : (fails : List ℕ) (n : ℕ) (old new : Told) (a b : ℕ) → Lists fails old → IsCount old.asks a → IsCount new.asks b → AsksFailed n old new → b < most_faults → listed fails a + n ≡ listed fails b
listed_asks fails n old new a b h was is k few =
    let first : old.asks ≡ Some (min a most_faults) = known_count old.asks a h.counts was in
    let counted_to = count_went k.asks old new (min a most_faults) (omega arith) first k.went in
    let last = known_count new.asks b (lists_on fails n old new h k).counts is in
    let same : min (min a most_faults + length k.asks) most_faults ≡ min b most_faults = same_Some (min (min a most_faults + length k.asks) most_faults) (min b most_faults) (sym counted_to ∙ last) in
    let here : min a most_faults ≡ a = first_count most_faults a b (length k.asks) same few in
    let end : a + length k.asks ≡ b = last_count most_faults a b (length k.asks) same few in
    let went = listed_went fails k.asks old new a h (first ∙ ap (λ (m : ℕ). Some m) here) k.went (subst (λ (m : ℕ). m < most_faults) (sym end) few) in
    let all : listed fails (a + length k.asks) ≡ listed fails b = ap (listed fails) end in
    let failed : failures k.asks ≡ n = k.failed in
    omega (arith, went, all, failed)
