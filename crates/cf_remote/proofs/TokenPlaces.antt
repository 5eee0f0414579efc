-- The places of the tokens' records.
use Rattle.std.proofs.Common.{◌≡◌, ℕ, zero, suc, List, [], ◌∷◌, ◌++◌, length, get_or, map, ◌<◌, refl, sym, ap, ◌∙◌, subst, cond, Bool, true, false, ◌&&◌, ◌==◌, arith}
use Rattle.std.specs.Prelude.{Option, Some, None, reverse, slice_get}
use Rattle.std.specs.BTreeMap.{BTreeMap, get}
use Rattle.std.specs.Ordering.{is_eq, nat_cmp, ordering_then}
use Rattle.std.proofs.lemmas.Bool.{eqb-true, and_parts}
use Rattle.std.proofs.lemmas.Bool.Decides.{nat_tests}
use Rattle.std.proofs.lemmas.List.{map-append, reverse-append}
use Rattle.std.proofs.lemmas.Option.{get_or_from_slice_get, slice_get_within}
use Rattle.cf_base.specs.declared.ids.Token.{Token}
use Rattle.cf_model.specs.Numbers.{same_key}
use Rattle.cf_model.specs.Store.{recorded_at}
use Rattle.cf_model.proofs.StoreLaws.{recorded-first}
use Rattle.cf_remote.specs.Tokens.{AreKept, IsPlaceOf, recorded_of, token_of, token_order, tokens_of}
use Rattle.cf_remote.specs.declared.outcomes.TokenRecord.{TokenRecord}

pub place_none : (records : List TokenRecord) (token : Token) (p : Option ℕ) → IsPlaceOf records token p → p ≡ None → recorded_at (tokens_of records) token ≡ None
place_none records token None h e = h
place_none records token (Some n) h e = cc

pub place_within : (records : List TokenRecord) (token : Token) (p : Option ℕ) (n : ℕ) → IsPlaceOf records token p → p ≡ Some n → n < length records
place_within records token None n h e = cc
place_within records token (Some m) n h e = slice_get_within records n h.0 (let i : m ≡ n = cc in sym (ap (slice_get records) i) ∙ h.1)

pub place_some : (records : List TokenRecord) (token : Token) (p : Option ℕ) (n : ℕ) (d : TokenRecord) → IsPlaceOf records token p → p ≡ Some n
    → Some (recorded_of (get_or records n d).outcome) ≡ recorded_at (tokens_of records) token
place_some records token None n d h e = cc
place_some records token (Some m) n d h e =
    let i : m ≡ n = cc in
    let j : get_or records n d ≡ h.0 = get_or_from_slice_get records n h.0 d (sym (ap (slice_get records) i) ∙ h.1) in
    sym (h.2 ∙ ap (λ (x : TokenRecord). Some (recorded_of x.outcome)) (sym j))

pub same_order : (a b : Token) → is_eq (token_order a b) ≡ same_key a.0 b.0
same_order a b = numbers a.0.epoch b.0.epoch a.0.number b.0.number where
  numbers : (x y u v : ℕ) → is_eq (ordering_then (nat_cmp x y) (nat_cmp u v)) ≡ ((x == y) && (u == v))
  numbers x y u v = grind (arith, nat_tests)

same_token : (a b : Token) → same_key a.0 b.0 ≡ true → a ≡ b
same_token a b h = λ i. record {
  0 = record {
    epoch = eqb-true a.0.epoch b.0.epoch (and_parts (a.0.epoch == b.0.epoch) (a.0.number == b.0.number) h).0 i;
    number = eqb-true a.0.number b.0.number (and_parts (a.0.epoch == b.0.epoch) (a.0.number == b.0.number) h).1 i;
  };
}

pub tokens_more : (records : List TokenRecord) (r : TokenRecord) → tokens_of (records ++ r ∷ []) ≡ token_of r ∷ tokens_of records
tokens_more records r = ap reverse (map-append token_of records (r ∷ [])) ∙ reverse-append (map token_of records) (token_of r ∷ [])

get-more : (records : List TokenRecord) (r s : TokenRecord) (n : ℕ) → slice_get records n ≡ Some s → slice_get (records ++ r ∷ []) n ≡ Some s
get-more [] r s n e = cc
get-more (t ∷ ts) r s zero e = e
get-more (t ∷ ts) r s (suc n) e = get-more ts r s n e

get-last : (records : List TokenRecord) (r : TokenRecord) → slice_get (records ++ r ∷ []) (length records) ≡ Some r
get-last [] r = refl
get-last (t ∷ ts) r = get-last ts r

module _ (records : List TokenRecord) (r : TokenRecord) where
  other : (q : Token) (p : Option ℕ) → same_key r.token.0 q.0 ≡ false → IsPlaceOf records q p → IsPlaceOf (records ++ r ∷ []) q p
  other q None e h = rw (tokens_more records r, e) h
  other q (Some n) e h = (h.0, get-more records r h.0 n h.1, rw (tokens_more records r, e) h.2)

  this : (q : Token) → r.token ≡ q → IsPlaceOf (records ++ r ∷ []) q (Some (length records))
  this q e = (r, get-last records r, rw (tokens_more records r) (subst (λ (t : Token). recorded_at (token_of r ∷ tokens_of records) t ≡ Some (recorded_of r.outcome)) e (recorded-first (tokens_of records) r.token (recorded_of r.outcome))))

  pub kept_more : (old new : BTreeMap Token ℕ) → AreKept records old
      → ((q : Token) → get token_order new q ≡ cond (is_eq (token_order r.token q)) (Some (length records)) (get token_order old q)) → AreKept (records ++ r ∷ []) new
  kept_more old new h e q = subst (IsPlaceOf (records ++ r ∷ []) q) (sym (e q ∙ ap (λ (b : Bool). cond b (Some (length records)) (get token_order old q)) (same_order r.token q))) (cases (same_key r.token.0 q.0) refl) where
    cases : (b : Bool) → same_key r.token.0 q.0 ≡ b → IsPlaceOf (records ++ r ∷ []) q (cond b (Some (length records)) (get token_order old q))
    cases true k = this q (same_token r.token q k)
    cases false k = other q (get token_order old q) k (h q)
