-- A text is the spelling of one value, and the rest behind it is one too.
use Rattle.std.proofs.Common.{◌≡◌, ℕ, zero, suc, ◌+◌, ◌^◌, ◌<◌, ◌≤◌, Bool, true, false, List, [], ◌∷◌, ◌++◌, length, refl, sym, ap, subst, ◌∙◌, arith, Option, Some, None}
use Rattle.std.specs.Prelude.{is_some, unwrap_or}
use Rattle.std.specs.Int.{w16, w32, w64, from_be_bytes}
use Rattle.std.proofs.lemmas.Nat.{from_be_bytes-to_be_bytes_2, from_be_bytes-to_be_bytes_4, from_be_bytes-to_be_bytes_8}
use Rattle.cf_base.specs.declared.ids.ItemId.{ItemId}
use Rattle.cf_base.specs.declared.ids.Usn.{Usn}
use Rattle.cf_base.specs.declared.items.Pin.{Pin}
use Rattle.cf_base.specs.declared.items.Pin.TheVariants as pin
use Rattle.cf_codec.specs.declared.formats.Format.{Format}
use Rattle.cf_codec.specs.declared.formats.Format.TheVariants.{First, Second}
use Rattle.cf_model.specs.Books.{usn_bytes}
use Rattle.cf_model.specs.Rows.{flag_of, pin_byte}
use Rattle.cf_model.specs.Rows as model
use Rattle.cf_model.specs.Words.{in_bytes}
use Rattle.cf_table.specs.Reading.{AreLengths, AreNumbers, AreTicks, IsBasics, IsHead, IsIdentity, IsName, IsStored, IsUsn, IsWho, basics_bytes, flags_limit, flags_number, head_bytes, identity_bytes, lengths_bytes, name_bytes, numbers_bytes, ticks_bytes, who_bytes}
use Rattle.cf_table.specs.declared.heads.Basics.{Basics}
use Rattle.cf_table.specs.declared.heads.Flags.{Flags}
use Rattle.cf_table.specs.declared.heads.Head.{Head}
use Rattle.cf_table.specs.declared.heads.Lengths.{Lengths}
use Rattle.cf_table.specs.declared.heads.Numbers.{Numbers}
use Rattle.cf_table.specs.declared.heads.Who.{Who}
use Rattle.cf_table.proofs.Fields.{eight_bytes, four_bytes, two_bytes}

abbrev pub OneOf : {X : Type 0} → (X → Type 0) → (X → List ℕ) → Type 0
OneOf {X} Is spell = (x y : X) (a b : List ℕ) → Is x → Is y → spell x ++ a ≡ spell y ++ b → (x ≡ y) × (a ≡ b)

-- texts of one length

pub parted : (x y a b : List ℕ) → length x ≡ length y → x ++ a ≡ y ++ b → (x ≡ y) × (a ≡ b)
parted [] [] a b l e = (refl, e)
parted [] (y ∷ ys) a b l e = absurd (omega arith)
parted (x ∷ xs) [] a b l e = absurd (omega arith)
parted (x ∷ xs) (y ∷ ys) a b l e =
    let h : x ≡ y = cc in
    let t : xs ++ a ≡ ys ++ b = cc in
    let r = parted xs ys a b (omega arith) t in
    (ap (λ v. v ∷ xs) h ∙ ap (λ v. y ∷ v) r.0, r.1)

-- numbers

pub one_2 : OneOf (λ (n : ℕ). n < 2 ^ 16) (in_bytes 2)
one_2 m n a b h k e =
    let p = parted (in_bytes 2 m) (in_bytes 2 n) a b refl e in
    (sym (from_be_bytes-to_be_bytes_2 m h) ∙ ap (from_be_bytes w16) (two_bytes m ∙ p.0 ∙ sym (two_bytes n)) ∙ from_be_bytes-to_be_bytes_2 n k, p.1)

pub one_4 : OneOf (λ (n : ℕ). n < 2 ^ 32) (in_bytes 4)
one_4 m n a b h k e =
    let p = parted (in_bytes 4 m) (in_bytes 4 n) a b refl e in
    (sym (from_be_bytes-to_be_bytes_4 m h) ∙ ap (from_be_bytes w32) (four_bytes m ∙ p.0 ∙ sym (four_bytes n)) ∙ from_be_bytes-to_be_bytes_4 n k, p.1)

pub one_8 : OneOf (λ (n : ℕ). n < 2 ^ 64) (in_bytes 8)
one_8 m n a b h k e =
    let p = parted (in_bytes 8 m) (in_bytes 8 n) a b refl e in
    (sym (from_be_bytes-to_be_bytes_8 m h) ∙ ap (from_be_bytes w64) (eight_bytes m ∙ p.0 ∙ sym (eight_bytes n)) ∙ from_be_bytes-to_be_bytes_8 n k, p.1)

pub one_usn : OneOf IsUsn usn_bytes
one_usn m n a b h k e =
    let p = one_4 m.epoch n.epoch (in_bytes 4 m.place ++ a) (in_bytes 4 n.place ++ b) h.0 k.0 e in
    let q = one_4 m.place n.place a b h.1 k.1 p.1 in
    (same m.epoch n.epoch m.place n.place p.0 q.0, q.1) where
      same : (a b c d : ℕ) → a ≡ b → c ≡ d → ◌≡◌ {A = Usn} (record { epoch = a; place = c }) (record { epoch = b; place = d })
      same a b c d e f = ap (λ x. record { epoch = x; place = c }) e ∙ ap (λ x. record { epoch = b; place = x }) f

-- heads

one_id : OneOf (λ (i : ItemId). i.0 < 2 ^ 64) (λ i. in_bytes 8 i.0)
one_id m n a b h k e = let p = one_8 m.0 n.0 a b h k e in (ap (λ x. record { 0 = x }) p.0, p.1)

pub one_who : (before : Option ℕ) → OneOf (IsWho before) who_bytes
one_who before m n a b h k e =
    let p = one_id m.id n.id (in_bytes 8 m.parent.0 ++ a) (in_bytes 8 n.parent.0 ++ b) h.0 k.0 e in
    let q = one_id m.parent n.parent a b h.2 k.2 p.1 in
    (same m.id n.id m.parent n.parent p.0 q.0, q.1) where
      same : (a b c d : ItemId) → a ≡ b → c ≡ d → ◌≡◌ {A = Who} (record { id = a; parent = c }) (record { id = b; parent = d })
      same a b c d e f = ap (λ x. record { id = x; parent = c }) e ∙ ap (λ x. record { id = b; parent = x }) f

-- a flag and what it adds
one_flag : (x y : Bool) (w p q : ℕ) → p < w → q < w → p + flag_of x w ≡ q + flag_of y w → (x ≡ y) × (p ≡ q)
one_flag true true w p q h k e = (refl, omega arith)
one_flag true false w p q h k e = absurd (omega arith)
one_flag false true w p q h k e = absurd (omega arith)
one_flag false false w p q h k e = (refl, omega arith)

small_flag : (x : Bool) (w : ℕ) → flag_of x w ≤ w
small_flag true w = omega arith
small_flag false w = omega arith

same_flags : (a b c d e f g h a' b' c' d' e' f' g' h' : Bool) → a ≡ a' → b ≡ b' → c ≡ c' → d ≡ d' → e ≡ e' → f ≡ f' → g ≡ g' → h ≡ h' →
    ◌≡◌ {A = Flags} (record { dir = a; placeholder = b; populated = c; in_sync = d; dirty = e; dirty_since = f; has_base = g; keep = h })
    (record { dir = a'; placeholder = b'; populated = c'; in_sync = d'; dirty = e'; dirty_since = f'; has_base = g'; keep = h' })
same_flags a b c d e f g h a' b' c' d' e' f' g' h' i j k l m n o p =
    ap (λ x. record { dir = x; placeholder = b; populated = c; in_sync = d; dirty = e; dirty_since = f; has_base = g; keep = h }) i
    ∙ ap (λ x. record { dir = a'; placeholder = x; populated = c; in_sync = d; dirty = e; dirty_since = f; has_base = g; keep = h }) j
    ∙ ap (λ x. record { dir = a'; placeholder = b'; populated = x; in_sync = d; dirty = e; dirty_since = f; has_base = g; keep = h }) k
    ∙ ap (λ x. record { dir = a'; placeholder = b'; populated = c'; in_sync = x; dirty = e; dirty_since = f; has_base = g; keep = h }) l
    ∙ ap (λ x. record { dir = a'; placeholder = b'; populated = c'; in_sync = d'; dirty = x; dirty_since = f; has_base = g; keep = h }) m
    ∙ ap (λ x. record { dir = a'; placeholder = b'; populated = c'; in_sync = d'; dirty = e'; dirty_since = x; has_base = g; keep = h }) n
    ∙ ap (λ x. record { dir = a'; placeholder = b'; populated = c'; in_sync = d'; dirty = e'; dirty_since = f'; has_base = x; keep = h }) o
    ∙ ap (λ x. record { dir = a'; placeholder = b'; populated = c'; in_sync = d'; dirty = e'; dirty_since = f'; has_base = g'; keep = x }) p

one_flags_number : (f g : Flags) → flags_number f ≡ flags_number g → f ≡ g
one_flags_number f g e =
    let k7 = one_flag f.keep g.keep 128 (flag_of f.dir 1 + flag_of f.placeholder 2 + flag_of f.populated 4 + flag_of f.in_sync 8 + flag_of f.dirty 16 + flag_of f.dirty_since 32 + flag_of f.has_base 64) (flag_of g.dir 1 + flag_of g.placeholder 2 + flag_of g.populated 4 + flag_of g.in_sync 8 + flag_of g.dirty 16 + flag_of g.dirty_since 32 + flag_of g.has_base 64) (omega (arith, small_flag f.dir 1, small_flag f.placeholder 2, small_flag f.populated 4, small_flag f.in_sync 8, small_flag f.dirty 16, small_flag f.dirty_since 32, small_flag f.has_base 64)) (omega (arith, small_flag g.dir 1, small_flag g.placeholder 2, small_flag g.populated 4, small_flag g.in_sync 8, small_flag g.dirty 16, small_flag g.dirty_since 32, small_flag g.has_base 64)) e in
    let k6 = one_flag f.has_base g.has_base 64 (flag_of f.dir 1 + flag_of f.placeholder 2 + flag_of f.populated 4 + flag_of f.in_sync 8 + flag_of f.dirty 16 + flag_of f.dirty_since 32) (flag_of g.dir 1 + flag_of g.placeholder 2 + flag_of g.populated 4 + flag_of g.in_sync 8 + flag_of g.dirty 16 + flag_of g.dirty_since 32) (omega (arith, small_flag f.dir 1, small_flag f.placeholder 2, small_flag f.populated 4, small_flag f.in_sync 8, small_flag f.dirty 16, small_flag f.dirty_since 32)) (omega (arith, small_flag g.dir 1, small_flag g.placeholder 2, small_flag g.populated 4, small_flag g.in_sync 8, small_flag g.dirty 16, small_flag g.dirty_since 32)) k7.1 in
    let k5 = one_flag f.dirty_since g.dirty_since 32 (flag_of f.dir 1 + flag_of f.placeholder 2 + flag_of f.populated 4 + flag_of f.in_sync 8 + flag_of f.dirty 16) (flag_of g.dir 1 + flag_of g.placeholder 2 + flag_of g.populated 4 + flag_of g.in_sync 8 + flag_of g.dirty 16) (omega (arith, small_flag f.dir 1, small_flag f.placeholder 2, small_flag f.populated 4, small_flag f.in_sync 8, small_flag f.dirty 16)) (omega (arith, small_flag g.dir 1, small_flag g.placeholder 2, small_flag g.populated 4, small_flag g.in_sync 8, small_flag g.dirty 16)) k6.1 in
    let k4 = one_flag f.dirty g.dirty 16 (flag_of f.dir 1 + flag_of f.placeholder 2 + flag_of f.populated 4 + flag_of f.in_sync 8) (flag_of g.dir 1 + flag_of g.placeholder 2 + flag_of g.populated 4 + flag_of g.in_sync 8) (omega (arith, small_flag f.dir 1, small_flag f.placeholder 2, small_flag f.populated 4, small_flag f.in_sync 8)) (omega (arith, small_flag g.dir 1, small_flag g.placeholder 2, small_flag g.populated 4, small_flag g.in_sync 8)) k5.1 in
    let k3 = one_flag f.in_sync g.in_sync 8 (flag_of f.dir 1 + flag_of f.placeholder 2 + flag_of f.populated 4) (flag_of g.dir 1 + flag_of g.placeholder 2 + flag_of g.populated 4) (omega (arith, small_flag f.dir 1, small_flag f.placeholder 2, small_flag f.populated 4)) (omega (arith, small_flag g.dir 1, small_flag g.placeholder 2, small_flag g.populated 4)) k4.1 in
    let k2 = one_flag f.populated g.populated 4 (flag_of f.dir 1 + flag_of f.placeholder 2) (flag_of g.dir 1 + flag_of g.placeholder 2) (omega (arith, small_flag f.dir 1, small_flag f.placeholder 2)) (omega (arith, small_flag g.dir 1, small_flag g.placeholder 2)) k3.1 in
    let k1 = one_flag f.placeholder g.placeholder 2 (flag_of f.dir 1) (flag_of g.dir 1) (omega (arith, small_flag f.dir 1)) (omega (arith, small_flag g.dir 1)) k2.1 in
    let k0 = one_flag f.dir g.dir 1 0 0 (omega arith) (omega arith) (omega (arith, k1.1)) in
    same_flags f.dir f.placeholder f.populated f.in_sync f.dirty f.dirty_since f.has_base f.keep g.dir g.placeholder g.populated g.in_sync g.dirty g.dirty_since g.has_base g.keep k0.0 k1.0 k2.0 k3.0 k4.0 k5.0 k6.0 k7.0

pub small_flags : (f : Flags) → flags_number f < 256
small_flags f = omega (arith, small_flag f.dir 1, small_flag f.placeholder 2, small_flag f.populated 4, small_flag f.in_sync 8, small_flag f.dirty 16, small_flag f.dirty_since 32, small_flag f.has_base 64, small_flag f.keep 128)

kept_is : (k : Bool) (rest : ℕ) → rest + flag_of k 128 < 128 → k ≡ false
kept_is true rest h = absurd (omega (arith, h))
kept_is false rest h = refl

-- flag 128 is set in no number below it
pub not_kept : (f : Flags) → flags_number f < 128 → f.keep ≡ false
not_kept f h = kept_is f.keep (flag_of f.dir 1 + flag_of f.placeholder 2 + flag_of f.populated 4 + flag_of f.in_sync 8 + flag_of f.dirty 16 + flag_of f.dirty_since 32 + flag_of f.has_base 64) h

pub basics_are : (f : Format) (b : Basics) → flags_number b.flags < flags_limit f → IsStored b.pin → AreLengths b.flags.has_base b.lengths → IsBasics f b
basics_are First b h pin lengths = (pin, lengths, not_kept b.flags h)
basics_are Second b h pin lengths = (pin, lengths)

pub low_flags : (f : Flags) → f.keep ≡ false → flags_number f < 128
low_flags f h = rw h (omega (arith, small_flag f.dir 1, small_flag f.placeholder 2, small_flag f.populated 4, small_flag f.in_sync 8, small_flag f.dirty 16, small_flag f.dirty_since 32, small_flag f.has_base 64))

pub one_flags : OneOf (λ (f : Flags). Unit {0}) (λ f. in_bytes 2 (flags_number f))
one_flags f g a b h k e = let p = one_2 (flags_number f) (flags_number g) a b (omega (arith, small_flags f)) (omega (arith, small_flags g)) e in (one_flags_number f g p.0, p.1)

abbrev pin_from : ℕ → Pin
pin_from zero = pin.Unspecified
pin_from (suc zero) = pin.Pinned
pin_from (suc (suc zero)) = pin.Unpinned
pin_from (suc (suc (suc zero))) = pin.Excluded
pin_from (suc (suc (suc (suc n)))) = pin.Inherit

pin_again : (p : Pin) → pin_from (pin_byte p) ≡ p
pin_again pin.Unspecified = refl
pin_again pin.Pinned = refl
pin_again pin.Unpinned = refl
pin_again pin.Excluded = refl
pin_again pin.Inherit = refl

pub one_pin : OneOf IsStored (λ p. pin_byte p ∷ [])
one_pin p q a b h k e =
    let r = parted (pin_byte p ∷ []) (pin_byte q ∷ []) a b refl e in
    let s : pin_byte p ≡ pin_byte q = cc (r.0) in
    (sym (pin_again p) ∙ ap pin_from s ∙ pin_again q, r.1)

one_base : (x y : Option ℕ) → is_some x ≡ is_some y → unwrap_or x 0 ≡ unwrap_or y 0 → x ≡ y
one_base None None e f = refl
one_base None (Some n) e f = let z : false ≡ true = e in absurd cc
one_base (Some m) None e f = let z : true ≡ false = e in absurd cc
one_base (Some m) (Some n) e f = ap Some f

pub one_lengths : (has_base : Bool) → OneOf (AreLengths has_base) lengths_bytes
one_lengths has_base m n a b h k e =
    let p = one_4 m.size n.size (in_bytes 4 (unwrap_or m.base 0) ++ a) (in_bytes 4 (unwrap_or n.base 0) ++ b) h.1 k.1 e in
    let q = one_4 (unwrap_or m.base 0) (unwrap_or n.base 0) a b h.2 k.2 p.1 in
    (same m.size n.size m.base n.base p.0 (one_base m.base n.base (sym h.0 ∙ k.0) q.0), q.1) where
      same : (a b : ℕ) (c d : Option ℕ) → a ≡ b → c ≡ d → ◌≡◌ {A = Lengths} (record { size = a; base = c }) (record { size = b; base = d })
      same a b c d e f = ap (λ x. record { size = x; base = c }) e ∙ ap (λ x. record { size = b; base = x }) f

basics_once : OneOf (λ (b : Basics). IsStored b.pin × AreLengths b.flags.has_base b.lengths) basics_bytes
basics_once m n a b h k e =
    let p = one_flags m.flags n.flags (pin_byte m.pin ∷ lengths_bytes m.lengths ++ a) (pin_byte n.pin ∷ lengths_bytes n.lengths ++ b) tt tt e in
    let q = one_pin m.pin n.pin (lengths_bytes m.lengths ++ a) (lengths_bytes n.lengths ++ b) h.0 k.0 p.1 in
    let r = one_lengths m.flags.has_base m.lengths n.lengths a b h.1 (subst (λ (f : Flags). AreLengths f.has_base n.lengths) (sym p.0) k.1) q.1 in
    (same m.flags n.flags m.pin n.pin m.lengths n.lengths p.0 q.0 r.0, r.1) where
      same : (a b : Flags) (c d : Pin) (e f : Lengths) → a ≡ b → c ≡ d → e ≡ f → ◌≡◌ {A = Basics} (record { flags = a; pin = c; lengths = e }) (record { flags = b; pin = d; lengths = f })
      same a b c d e f g h i = ap (λ x. record { flags = x; pin = c; lengths = e }) g ∙ ap (λ x. record { flags = b; pin = x; lengths = e }) h ∙ ap (λ x. record { flags = b; pin = d; lengths = x }) i

pub one_basics : (f : Format) → OneOf (IsBasics f) basics_bytes
one_basics First m n a b h k e = basics_once m n a b (h.0, h.1) (k.0, k.1) e
one_basics Second m n a b h k e = basics_once m n a b h k e

pub one_ticks : (f : Format) → OneOf (AreTicks f) (ticks_bytes f)
one_ticks First m n a b h k e = (h ∙ sym k, e)
one_ticks Second m n a b h k e = one_8 m n a b h k e

pub one_numbers : (f : Format) → OneOf (AreNumbers f) (numbers_bytes f)
one_numbers f m n a b h k e =
    let p = one_usn m.number n.number (usn_bytes m.anchor ++ ticks_bytes f m.last ++ a) (usn_bytes n.anchor ++ ticks_bytes f n.last ++ b) h.0 k.0 e in
    let q = one_usn m.anchor n.anchor (ticks_bytes f m.last ++ a) (ticks_bytes f n.last ++ b) h.1 k.1 p.1 in
    let r = one_ticks f m.last n.last a b h.2 k.2 q.1 in
    (same m.number n.number m.anchor n.anchor m.last n.last p.0 q.0 r.0, r.1) where
      same : (a b c d : Usn) (e f : ℕ) → a ≡ b → c ≡ d → e ≡ f → ◌≡◌ {A = Numbers} (record { number = a; anchor = c; last = e }) (record { number = b; anchor = d; last = f })
      same a b c d e f g h i = ap (λ x. record { number = x; anchor = c; last = e }) g ∙ ap (λ x. record { number = b; anchor = x; last = e }) h ∙ ap (λ x. record { number = b; anchor = d; last = x }) i

pub one_head : (f : Format) (before : Option ℕ) → OneOf (IsHead f before) (head_bytes f)
one_head f before m n a b h k e =
    let p = one_who before m.who n.who (basics_bytes m.basics ++ numbers_bytes f m.numbers ++ a) (basics_bytes n.basics ++ numbers_bytes f n.numbers ++ b) h.who k.who e in
    let q = one_basics f m.basics n.basics (numbers_bytes f m.numbers ++ a) (numbers_bytes f n.numbers ++ b) h.basics k.basics p.1 in
    let r = one_numbers f m.numbers n.numbers a b h.numbers k.numbers q.1 in
    (same m.who n.who m.basics n.basics m.numbers n.numbers p.0 q.0 r.0, r.1) where
      same : (a b : Who) (c d : Basics) (e f : Numbers) → a ≡ b → c ≡ d → e ≡ f → ◌≡◌ {A = Head} (record { who = a; basics = c; numbers = e }) (record { who = b; basics = d; numbers = f })
      same a b c d e f g h i = ap (λ x. record { who = x; basics = c; numbers = e }) g ∙ ap (λ x. record { who = b; basics = x; numbers = e }) h ∙ ap (λ x. record { who = b; basics = d; numbers = x }) i

-- texts

pub one_name : OneOf IsName name_bytes
one_name m n a b h k e =
    let p = parted (length m ∷ []) (length n ∷ []) (m ++ a) (n ++ b) refl e in
    let q : length m ≡ length n = cc (p.0) in
    parted m n a b q p.1

pub one_identity : OneOf IsIdentity identity_bytes
one_identity m n a b h k e = let p = one_2 (length m) (length n) (m ++ a) (n ++ b) h k e in parted m n a b p.0 p.1
