-- The key of a plan.
use Rattle.std.proofs.Common.{◌≡◌, ℕ, Bool, true, false, List, [], ◌∷◌, sym, ap, refl, ◌∙◌}
use Rattle.std.specs.Prelude.{Some, nat_lt}
use Rattle.cf_base.specs.declared.ids.Key.{Key}
use Rattle.cf_script_words.specs.Words.{Reads, IsKey}
use Rattle.cf_script.specs.Forms.{IsKeyOf, IsPlanKey}
use Rattle.cf_script_words.proofs.Cuts.{lacks}
use Rattle.cf_script_words.proofs.NumberMeans.{key_needs_dot}
use Rattle.cf_script_words.proofs.KeyOnce.{key_once}

self_is_no_key : (w : List ℕ) (key : Key) → w ≡ 115 ∷ 101 ∷ 108 ∷ 102 ∷ [] → IsKey w key → ⊥
self_is_no_key w key e is = key_needs_dot w key (rw e (lacks 46 (λ b. nat_lt 46 b) (115 ∷ 101 ∷ 108 ∷ 102 ∷ []) refl refl)) is

both_once : (w : List ℕ) (own own' : Bool) (x y : Key) → IsKeyOf own w x → IsKeyOf own' w y → ◌≡◌ {A = Bool × Key} (own, x) (own', y)
both_once w true true x y a b = ap (λ k. (true, k)) (a.1 ∙ sym b.1)
both_once w false false x y a b = ap (λ k. (false, k)) (key_once w x y a b)
both_once w true false x y a b = absurd (self_is_no_key w y a.0 b)
both_once w false true x y a b = absurd (self_is_no_key w x b.0 a)

pub key_of_once : (w : List ℕ) (x y : Bool × Key) → IsPlanKey w x → IsPlanKey w y → x ≡ y
key_of_once w x y a b = both_once w x.0 y.0 x.1 y.1 a b

own_once : (word : List ℕ) (own : Bool) (key : Key) → word ≡ 115 ∷ 101 ∷ 108 ∷ 102 ∷ [] → IsKeyOf own word key → ◌≡◌ {A = Bool × Key} (own, key) (true, record { epoch = 0; number = 0 })
own_once word true key e is = ap (λ k. (true, k)) is.1
own_once word false key e is = absurd (key_needs_dot word key (rw e (lacks 46 (λ b. nat_lt 46 b) (115 ∷ 101 ∷ 108 ∷ 102 ∷ []) refl refl)) is)

pub own_reads : (word : List ℕ) → word ≡ 115 ∷ 101 ∷ 108 ∷ 102 ∷ [] → Reads (IsPlanKey word) (Some (true, record { epoch = 0; number = 0 }))
own_reads word e = ((e, refl), λ y is. own_once word y.0 y.1 e is)
