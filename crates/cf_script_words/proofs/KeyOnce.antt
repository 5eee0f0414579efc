-- A word spells one key.
use Rattle.std.proofs.Common.{◌≡◌, ℕ, ◌<◌, List, refl, sym, ◌∙◌, arith, ◌^◌}
use Rattle.std.proofs.lemmas.Fmt.{decimal_injective}
use Rattle.std.specs.Fmt.{decimal}
use Rattle.cf_base.specs.declared.ids.Key.{Key}
use Rattle.cf_base.specs.declared.ids.Usn.{Usn}
use Rattle.cf_script_words.proofs.Cuts.{cut_once, lacks}
use Rattle.cf_script_words.specs.Words.{IsKey, IsUsn, pair_text}
use Rattle.cf_script_words.proofs.NumberMeans.{is_digit, decimal_digits}

pair_once : (a b c d : ℕ) → a < 2 ^ 32 → b < 2 ^ 32 → c < 2 ^ 32 → d < 2 ^ 32 → pair_text a b ≡ pair_text c d → (a ≡ c) × (b ≡ d)
pair_once a b c d la lb lc ld e =
    let a' : a < 2 ^ 64 = omega (arith, la) in
    let b' : b < 2 ^ 64 = omega (arith, lb) in
    let c' : c < 2 ^ 64 = omega (arith, lc) in
    let d' : d < 2 ^ 64 = omega (arith, ld) in
    let cut = cut_once 46 (decimal a) (decimal c) (decimal b) (decimal d) e (lacks 46 is_digit (decimal a) refl (decimal_digits a a')) (lacks 46 is_digit (decimal c) refl (decimal_digits c c')) in
    (decimal_injective a c a' c' cut.0, decimal_injective b d b' d' cut.1)

key_from : (a b c d : ℕ) → a ≡ c → b ≡ d → ◌≡◌ {A = Key} (record { epoch = a; number = b }) (record { epoch = c; number = d })
key_from a b c d e f = cc

usn_from : (a b c d : ℕ) → a ≡ c → b ≡ d → ◌≡◌ {A = Usn} (record { epoch = a; place = b }) (record { epoch = c; place = d })
usn_from a b c d e f = cc

pub key_once : (w : List ℕ) (x y : Key) → IsKey w x → IsKey w y → x ≡ y
key_once w x y a b =
    let h = pair_once x.epoch x.number y.epoch y.number a.0 a.1 b.0 b.1 (sym a.2 ∙ b.2) in key_from x.epoch x.number y.epoch y.number h.0 h.1

pub usn_once : (w : List ℕ) (x y : Usn) → IsUsn w x → IsUsn w y → x ≡ y
usn_once w x y a b =
    let h = pair_once x.epoch x.place y.epoch y.place a.0 a.1 b.0 b.1 (sym a.2 ∙ b.2) in usn_from x.epoch x.place y.epoch y.place h.0 h.1
