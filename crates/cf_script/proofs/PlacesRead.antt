-- A line that names a path and an identity is read by its parts.
use Rattle.std.proofs.Common.{◌≡◌, ℕ, Bool, List, ◌∷◌, [], ap, refl}
use Rattle.std.specs.Prelude.{codes, Some, None}
use Rattle.cf_base.specs.declared.events.Event.TheVariants.{Provider}
use Rattle.cf_base.specs.declared.events.ProviderEvent.TheVariants as provider
use Rattle.cf_script_words.specs.Words.{Reads, IsNumber, IsPath, IsPlain}
use Rattle.cf_script_words.specs.Names.{flag_words}
use Rattle.cf_script.specs.Forms.{IsPlace, IsPlaceDir, IsConvert, IsUpdate}

-- a path, and an identity
abbrev pub ArePair : List ℕ → List ℕ → List ℕ × List ℕ → Type 0
ArePair p i x = IsPath p x.0 × IsPlain i x.1

-- both parts are those that were read
both : (p i path identity : List ℕ) (x : List ℕ × List ℕ) → Reads (ArePair p i) (Some x) → IsPath p path → IsPlain i identity → (path ≡ x.0) × (identity ≡ x.1)
both p i path identity x h a b = let e = h.1 (path, identity) (a, b) in (ap (λ z. z.0) e, ap (λ z. z.1) e)

pub convert_reads : (p i : List ℕ) (x : List ℕ × List ℕ) → Reads (ArePair p i) (Some x) → Reads (IsConvert p i) (Some (Provider (provider.Convert x.0 x.1)))
convert_reads p i x h = ((x.0, x.1, h.0.0, h.0.1, refl), λ y is. let k = both p i is.0 is.1 x h is.2 is.3 in let a = k.0 in let b = k.1 in cc is.4)

pub no_convert : (p i : List ℕ) → Reads (ArePair p i) None → Reads (IsConvert p i) None
no_convert p i h = λ y is. h (is.0, is.1) (is.2, is.3)

pub place_dir_reads : (p i : List ℕ) (f : List (List ℕ)) (b : Bool) (x : List ℕ × List ℕ) → Reads (λ b. f ≡ flag_words (codes "insync") b) (Some b) → Reads (ArePair p i) (Some x) → Reads (IsPlaceDir p i f) (Some (Provider (provider.PlaceDir x.0 x.1 b)))
place_dir_reads p i f b x s h = ((x.0, x.1, b, h.0.0, h.0.1, s.0, refl), λ y is. let k = both p i is.0 is.1 x h is.3 is.4 in let a = k.0 in let c = k.1 in let d = s.1 is.2 is.5 in cc is.6)

pub no_place_dir : (p i : List ℕ) (f : List (List ℕ)) → Reads (ArePair p i) None → Reads (IsPlaceDir p i f) None
no_place_dir p i f h = λ y is. h (is.0, is.1) (is.3, is.4)

pub place_reads : (p n i : List ℕ) (f : List (List ℕ)) (size : ℕ) (b : Bool) (x : List ℕ × List ℕ) → Reads (IsNumber n) (Some size) → Reads (λ b. f ≡ flag_words (codes "insync") b) (Some b) → Reads (ArePair p i) (Some x) → Reads (IsPlace (p ∷ n ∷ i ∷ f)) (Some (Provider (provider.Place x.0 size x.1 b)))
place_reads p n i f size b x m s h = ((x.0, size, x.1, b, h.0.0, m.0, h.0.1, s.0, refl), λ y is. let k = both p i is.0 is.2 x h is.4 is.6 in let a = k.0 in let c = k.1 in let d = m.1 is.1 is.5 in let e = s.1 is.3 is.7 in cc is.8)

pub no_place : (p n i : List ℕ) (f : List (List ℕ)) → Reads (ArePair p i) None → Reads (IsPlace (p ∷ n ∷ i ∷ f)) None
no_place p n i f h = λ y is. h (is.0, is.2) (is.4, is.6)

pub update_reads : (p i : List ℕ) (x : List ℕ × List ℕ) → Reads (ArePair p i) (Some x) → Reads (IsUpdate (p ∷ i ∷ [])) (Some (Provider (provider.Update x.0 x.1 None)))
update_reads p i x h = ((x.0, x.1, h.0.0, h.0.1, refl), λ y is. let k = both p i is.0 is.1 x h is.2 is.3 in let a = k.0 in let b = k.1 in cc is.4)

pub no_update : (p i : List ℕ) → Reads (ArePair p i) None → Reads (IsUpdate (p ∷ i ∷ [])) None
no_update p i h = λ y is. h (is.0, is.1) (is.2, is.3)

pub sized_reads : (p i n : List ℕ) (size : ℕ) (x : List ℕ × List ℕ) → Reads (IsNumber n) (Some size) → Reads (ArePair p i) (Some x) → Reads (IsUpdate (p ∷ i ∷ n ∷ [])) (Some (Provider (provider.Update x.0 x.1 (Some size))))
sized_reads p i n size x m h = ((x.0, x.1, size, h.0.0, h.0.1, m.0, refl), λ y is. let k = both p i is.0 is.1 x h is.3 is.4 in let a = k.0 in let b = k.1 in let d = m.1 is.2 is.5 in cc is.6)

pub no_sized : (p i n : List ℕ) → Reads (ArePair p i) None → Reads (IsUpdate (p ∷ i ∷ n ∷ [])) None
no_sized p i n h = λ y is. h (is.0, is.1) (is.3, is.4)
