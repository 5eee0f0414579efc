-- A word spells one list of bytes.
use Rattle.std.proofs.Common.{inl, inr, ◌≡◌, ℕ, ◌*◌, ◌^◌, ◌<◌, ◌≤◌, true, false, List, [], ◌∷◌, ◌++◌, length, get_or, Result, Ok, Err, Option, Some, None, refl, sym, ap, subst, ◌∙◌, arith, length-append}
use Rattle.std.specs.Str.{bytes_eq}
use Rattle.std.specs.Prelude.{◌≢◌, ◌⊎◌, replicate}
use Rattle.std.specs.Result.{IfOk, IsOk}
use Rattle.hex.specs.declared.error.FromHexError.TheVariants.{OutOfMemory}
use Rattle.std.proofs.lemmas.Fmt.{decimal_injective}
use Rattle.std.proofs.lemmas.Slice.Eq.{bytes_eq-Decides}
use Rattle.hex.specs.Hex.{encode_lower, lower_digits, decode_of, is_hex_digit}
use Rattle.hex.specs.declared.error.FromHexError.{FromHexError}
use Rattle.hex.proofs.HexLemmas.{decode_of-encode_lower, decode_of-ok, length-encode_with}
use Rattle.cf_script_words.specs.Words.{Reads, IsNumber, IsCount, IsPlain, IsHex, IsRepeated, IsData}
use Rattle.cf_script_words.specs.Cut.{HasNo}
use Rattle.cf_script_words.proofs.Cuts.{cut_once, cut_at, cut_in}
use Rattle.cf_script_words.proofs.NumberMeans.{number_once}

pub hex_once : (word a b : List ℕ) → IsHex word a → IsHex word b → b ≡ a
hex_once word a b x y =
    let h : decode_of word ≡ Ok a = ap decode_of x.1 ∙ decode_of-encode_lower a x.0 in
    let k : decode_of word ≡ Ok b = ap decode_of y.1 ∙ decode_of-encode_lower b y.0 in cc

pub hex_reads : (word bytes : List ℕ) → IsHex word bytes → Reads (IsHex word) (Some bytes)
hex_reads word bytes is = (is, λ y h. hex_once word bytes y is h)

pub same_text : (a b : List ℕ) → bytes_eq a b ≡ true → a ≡ b
same_text a b h = (bytes_eq-Decides a b).0 h

-- what decode refuses is no hexadecimal text
pub hex_refused : (word : List ℕ) (e : FromHexError) → decode_of word ≡ Err e → (bytes : List ℕ) → IsHex word bytes → ⊥
hex_refused word e refused bytes is =
    let h : decode_of word ≡ Ok bytes = ap decode_of is.1 ∙ decode_of-encode_lower bytes is.0 in cc

pub hex_other : (word again found : List ℕ) → decode_of word ≡ Ok found → again ≡ encode_lower found → bytes_eq again word ≡ false → (bytes : List ℕ) → IsHex word bytes → ⊥
hex_other word again found read written differs bytes is =
    let h : decode_of word ≡ Ok bytes = ap decode_of is.1 ∙ decode_of-encode_lower bytes is.0 in
    let same : found ≡ bytes = cc in
    let e : again ≡ word = written ∙ ap encode_lower same ∙ sym is.1 in
    let t = (bytes_eq-Decides again word).1 e in cc

length_hex : (bytes : List ℕ) → length (encode_lower bytes) ≡ 2 * length bytes
length_hex bytes = length-encode_with lower_digits bytes

pub data_not_empty : (word bytes : List ℕ) → length word ≡ 0 → IsPlain word bytes → ⊥
data_not_empty word [] none is = let e : length word ≡ 1 = ap length is.1 in absurd (omega arith)
data_not_empty word (b ∷ bs) none is = let e : length word ≡ 2 * length (b ∷ bs) = ap length is.1 ∙ length_hex (b ∷ bs) in absurd (omega arith)

pub data_from_hex : (word bytes : List ℕ) → 0 < length word → IsHex word bytes → IsPlain word bytes
data_from_hex word [] some is = let e : length word ≡ 2 * length {A = ℕ} [] = ap length is.1 ∙ length_hex [] in absurd (omega arith)
data_from_hex word (b ∷ bs) some is = is

pub hex_from_data : (word bytes : List ℕ) → bytes_eq word (45 ∷ []) ≡ false → IsPlain word bytes → IsHex word bytes
hex_from_data word [] differs is = let t = (bytes_eq-Decides word (45 ∷ [])).1 is.1 in absurd cc
hex_from_data word (b ∷ bs) differs is = is

pub data_read : (word : List ℕ) (o : Option (List ℕ)) → bytes_eq word (45 ∷ []) ≡ false → 0 < length word → Reads (IsHex word) o → Reads (IsPlain word) o
data_read word (Some bytes) differs some h = (data_from_hex word bytes some h.0, λ y is. h.1 y (hex_from_data word y differs is))
data_read word None differs some h = λ bytes is. h bytes (hex_from_data word bytes differs is)

pub hyphen_reads : (word : List ℕ) → word ≡ 45 ∷ [] → Reads (IsPlain word) (Some [])
hyphen_reads word e = ((λ i. omega arith, e), λ y is. hyphen_once y is)
  where
    hyphen_once : (y : List ℕ) → IsPlain word y → y ≡ []
    hyphen_once [] is = refl
    hyphen_once (b ∷ bs) is =
        let n : length {A = ℕ} (45 ∷ []) ≡ 2 * length (b ∷ bs) = ap length (sym e ∙ is.1) ∙ length_hex (b ∷ bs) in absurd (omega arith)

pub refused_reads : {E : Type 0} (word : List ℕ) (e : FromHexError) (r : Result (Option (List ℕ)) E) → (IsOk r → (r ≡ Ok None) × (e ≢ OutOfMemory)) → (e ≡ OutOfMemory) ⊎ (decode_of word ≡ Err e) → IfOk r (Reads (IsHex word))
refused_reads word e (Err x) f why = tt
refused_reads word e (Ok o) f why =
    let none : o ≡ None = let h = f refl in let k : Ok o ≡ Ok None = h.0 in cc in
    let refused : decode_of word ≡ Err e = elim why [ inl memory ↦ absurd ((f refl).1 memory) | inr h ↦ h ] in
    rw none (hex_refused word e refused)

pub not_count : (word : List ℕ) (m : ℕ) → IsNumber word m → (1 ≤ m → m ≤ 16777217 → ⊥) → (n : ℕ) → IsCount word n → ⊥
not_count word m is bad n count =
    let small : m < 2 ^ 64 = omega (arith, is.0) in
    let small' : n < 2 ^ 64 = omega (arith, count.0.0) in
    let same : m ≡ n = decimal_injective m n small small' (sym is.1 ∙ count.0.1) in
    bad (omega (arith, count.1)) (omega (arith, count.2))

pub hex_length : (word bytes : List ℕ) → IsHex word bytes → length word ≡ 2 * length bytes
hex_length word bytes is = ap length is.1 ∙ length-encode_with lower_digits bytes

pub not_one : (word bytes : List ℕ) → IsHex word bytes → length bytes ≢ 1 → (b : ℕ) → IsHex word (b ∷ []) → ⊥
not_one word bytes is other b one =
    let h = hex_length word bytes is in
    let k : length word ≡ 2 * length (b ∷ []) = hex_length word (b ∷ []) one in
    other (omega arith)

pub just_one : (word bytes : List ℕ) → IsHex word bytes → length bytes ≡ 1 → IsHex word (get_or bytes 0 0 ∷ [])
just_one word [] is one = absurd (omega arith)
just_one word (b ∷ []) is one = is
just_one word (b ∷ c ∷ bs) is one = absurd (omega arith)

pub no_star_in_plain : (word bytes d c : List ℕ) → IsPlain word bytes → word ≡ d ++ 42 ∷ c → ⊥
no_star_in_plain word [] [] c is e = let h : 45 ∷ [] ≡ 42 ∷ c = sym is.1 ∙ e in let k : ◌≡◌ {A = ℕ} 45 42 = cc in absurd (omega arith)
no_star_in_plain word [] (x ∷ xs) c is e =
    let h : length {A = ℕ} (45 ∷ []) ≡ length ((x ∷ xs) ++ 42 ∷ c) = ap length (sym is.1 ∙ e) in absurd (omega (arith, simp length-append at h))
no_star_in_plain word (b ∷ bs) d c is e =
    let digits = (decode_of-ok (encode_lower (b ∷ bs)) (b ∷ bs) (decode_of-encode_lower (b ∷ bs) is.0)).1 in
    let w : encode_lower (b ∷ bs) ≡ d ++ 42 ∷ c = sym is.1 ∙ e in
    let here : is_hex_digit (get_or (encode_lower (b ∷ bs)) (length d) 0) ≡ true = digits (length d) 0 (cut_in 42 _ d c w) in
    let h : is_hex_digit 42 ≡ true = subst (λ n. is_hex_digit n ≡ true) (cut_at 42 _ d c w) here in cc

pub no_star_in_digits : (d : List ℕ) (b : ℕ) → IsHex d (b ∷ []) → HasNo 42 d
no_star_in_digits d b is i lt = λ e.
    let digits = (decode_of-ok d (b ∷ []) (ap decode_of is.1 ∙ decode_of-encode_lower (b ∷ []) is.0)).1 in
    let here : is_hex_digit (get_or d i 0) ≡ true = digits i 0 lt in
    let h : is_hex_digit 42 ≡ true = subst (λ n. is_hex_digit n ≡ true) e here in cc

repeated_from : (word d c bytes : List ℕ) → word ≡ d ++ 42 ∷ c → HasNo 42 d → IsData word bytes → IsRepeated d c bytes
unfolding IsData
repeated_from word d c bytes e none_there is = elim is [
  | inl plain ↦ absurd (no_star_in_plain word bytes d c plain e)
  | inr s ↦
      let one = cut_once 42 s.0 d s.1 c (sym s.2 ∙ e) (no_star_in_digits s.0 s.3.0 s.3.2) none_there in
      subst (λ x. IsRepeated x c bytes) one.0 (subst (λ y. IsRepeated s.0 y bytes) one.1 s.3)
]

pub star_read : (word d c : List ℕ) (o : Option (List ℕ)) → word ≡ d ++ 42 ∷ c → HasNo 42 d → Reads (IsRepeated d c) o → Reads (IsData word) o
unfolding IsData
star_read word d c (Some bytes) e none_there h = (inr (d, c, e, h.0), λ y is. h.1 y (repeated_from word d c y e none_there is))
star_read word d c None e none_there h = λ bytes is. h bytes (repeated_from word d c bytes e none_there is)

plain_from : (word bytes : List ℕ) → HasNo 42 word → IsData word bytes → IsPlain word bytes
unfolding IsData
plain_from word bytes none_there is = elim is [
  | inl plain ↦ plain
  | inr s ↦ absurd (none_there (length s.0) (cut_in 42 word s.0 s.1 s.2) (cut_at 42 word s.0 s.1 s.2))
]

pub plain_read : (word : List ℕ) (o : Option (List ℕ)) → HasNo 42 word → Reads (IsPlain word) o → Reads (IsData word) o
unfolding IsData
plain_read word (Some bytes) none_there h = (inl h.0, λ y is. h.1 y (plain_from word y none_there is))
plain_read word None none_there h = λ bytes is. h bytes (plain_from word bytes none_there is)

pub count_reads : (word : List ℕ) (n : ℕ) → Reads (IsNumber word) (Some n) → 1 ≤ n → n ≤ 16777217 → Reads (IsCount word) (Some n)
count_reads word n h low high = ((h.0, low, high), λ y is. h.1 y is.0)

pub byte_reads : (word bytes : List ℕ) → Reads (IsHex word) (Some bytes) → length bytes ≡ 1 → Reads (λ b. IsHex word (b ∷ [])) (Some (get_or bytes 0 0))
byte_reads word [] h one = absurd (omega arith)
byte_reads word (b ∷ bs) h one = (just_one word (b ∷ bs) h.0 one, λ y is. let e : y ∷ [] ≡ b ∷ bs = h.1 (y ∷ []) is in cc)

pub repeated_reads : (d c : List ℕ) (b n : ℕ) (bytes : List ℕ) → Reads (λ b. IsHex d (b ∷ [])) (Some b) → Reads (IsCount c) (Some n) → bytes ≡ replicate n b → Reads (IsRepeated d c) (Some bytes)
repeated_reads d c b n bytes h k e = (
  (b, n, h.0, k.0, e),
  λ y is.
      let byte : is.0 ≡ b = h.1 is.0 is.2 in
      let count : is.1 ≡ n = k.1 is.1 is.3 in
      is.4 ∙ ap (λ m. replicate m is.0) count ∙ ap (replicate n) byte ∙ sym e,
)

pub plain_once : (w a b : List ℕ) → IsPlain w a → IsPlain w b → a ≡ b
plain_once w [] [] x y = refl
plain_once w [] (b ∷ bs) x y =
    let n : 1 ≡ length (encode_lower (b ∷ bs)) = ap length (sym x.1 ∙ y.1) in
    let m = hex_length (encode_lower (b ∷ bs)) (b ∷ bs) (y.0, refl) in absurd (omega arith)
plain_once w (a ∷ as') [] x y =
    let n : 1 ≡ length (encode_lower (a ∷ as')) = ap length (sym y.1 ∙ x.1) in
    let m = hex_length (encode_lower (a ∷ as')) (a ∷ as') (x.0, refl) in absurd (omega arith)
plain_once w (a ∷ as') (b ∷ bs) x y = hex_once w (b ∷ bs) (a ∷ as') y x

repeated_once : (d c a b : List ℕ) → IsRepeated d c a → IsRepeated d c b → a ≡ b
repeated_once d c a b x y =
    let bytes : x.0 ∷ [] ≡ y.0 ∷ [] = hex_once d (y.0 ∷ []) (x.0 ∷ []) y.2 x.2 in
    let byte : x.0 ≡ y.0 = cc in
    let count : x.1 ≡ y.1 = number_once c y.1 x.1 y.3.0 x.3.0 in
    x.4 ∙ ap (λ n. replicate n x.0) count ∙ ap (replicate y.1) byte ∙ sym y.4

pub data_once : (w a b : List ℕ) → IsData w a → IsData w b → a ≡ b
unfolding IsData
data_once w a b x y = elim x [
  | inl p ↦ elim y [ inl q ↦ plain_once w a b p q | inr q ↦ absurd (no_star_in_plain w a q.0 q.1 p q.2) ]
  | inr p ↦ elim y [
    | inl q ↦ absurd (no_star_in_plain w b p.0 p.1 q p.2)
    | inr q ↦
        let one = cut_once 42 p.0 q.0 p.1 q.1 (sym p.2 ∙ q.2) (no_star_in_digits p.0 p.3.0 p.3.2) (no_star_in_digits q.0 q.3.0 q.3.2) in
        repeated_once q.0 q.1 a b (subst (λ d. IsRepeated d q.1 a) one.0 (subst (λ c. IsRepeated p.0 c a) one.1 p.3)) q.3
  ]
]
