-- The words of a script, each read as what it spells, or as nothing.
use Rattle.std.specs.Prelude.{ℕ, Bool, true, false, not, cond, List, [], length, replicate, Option, Some, None, nat_le, nat_lt, codes, ◌+◌, ◌-◌, ◌*◌, ◌&&◌, ◌||◌, ◌∷◌, ◌==◌, if◌then◌else◌}
use Rattle.std.specs.List.{list_all}
use Rattle.std.specs.Str.{bytes_eq}
use Rattle.cf_base.specs.declared.ids.Handle.{Handle}
use Rattle.cf_base.specs.declared.ids.Key.{Key}
use Rattle.cf_base.specs.declared.ids.Usn.{Usn}
use Rattle.cf_base.specs.declared.ids.WaitId.{WaitId}

-- what the first gives, read on
abbrev pub then_some : {A B : Type 0} → Option A → (A → Option B) → Option B
then_some None f = None
then_some (Some x) f = f x

abbrev pub only : {A : Type 0} → Bool → Option A → Option A
only true x = x
only false x = None

abbrev pub is_empty : {A : Type 0} → List A → Bool
is_empty [] = true
is_empty (x ∷ xs) = false

-- the parts between these bytes
abbrev pub split_at : ℕ → List ℕ → List (List ℕ)
split_at at [] = [] ∷ []
split_at at (b ∷ bs) = cond (b == at) ([] ∷ split_at at bs) (add b (split_at at bs)) where
  add : ℕ → List (List ℕ) → List (List ℕ)
  add b [] = (b ∷ []) ∷ []
  add b (n ∷ ns) = (b ∷ n) ∷ ns

-- one of these words
abbrev pub word_of : {A : Type 0} → List (List ℕ × A) → List ℕ → Option A
word_of [] w = None
word_of (t ∷ ts) w = cond (bytes_eq t.0 w) (Some t.1) (word_of ts w)

-- numbers

abbrev pub is_digit : ℕ → Bool
is_digit b = nat_le 48 b && nat_lt b 58

abbrev pub digits_value : ℕ → List ℕ → ℕ
digits_value n [] = n
digits_value n (b ∷ bs) = digits_value (10 * n + (b - 48)) bs

-- at most ten decimal digits, without a leading zero but 0 itself, below 2 ^ 32
abbrev pub num : List ℕ → Option ℕ
num [] = None
num (b ∷ bs) =
    let n = digits_value 0 (b ∷ bs) in
    only (list_all is_digit (b ∷ bs) && (is_empty bs || not (b == 48)) && nat_le (length bs) 9 && nat_lt n 4294967296) (Some n)

abbrev pub positive : List ℕ → Option ℕ
positive w = then_some (num w) (λ n. only (nat_le 1 n) (Some n))

-- two numbers with a full stop between
abbrev pub pair : List ℕ → Option (ℕ × ℕ)
pair w = of (split_at 46 w) where
  of : List (List ℕ) → Option (ℕ × ℕ)
  of (a ∷ b ∷ []) = then_some (num a) (λ e. then_some (num b) (λ n. Some (e, n)))
  of _ = None

abbrev pub key : List ℕ → Option Key
key w = then_some (pair w) (λ p. Some (record { epoch = p.0; number = p.1 }))

abbrev pub handle : List ℕ → Option Handle
handle w = then_some (key w) (λ k. Some (record { 0 = k }))

abbrev pub wait : List ℕ → Option WaitId
wait w = then_some (key w) (λ k. Some (record { 0 = k }))

abbrev pub usn : List ℕ → Option Usn
usn w = then_some (pair w) (λ p. Some (record { epoch = p.0; place = p.1 }))

-- bytes

abbrev pub hex_value : ℕ → Option ℕ
hex_value b = if is_digit b then Some (b - 48) else only (nat_le 97 b && nat_le b 102) (Some (b - 87))

-- pairs of lower-case hexadecimal digits
abbrev pub hex_bytes : List ℕ → Option (List ℕ)
hex_bytes [] = Some []
hex_bytes (a ∷ []) = None
hex_bytes (a ∷ b ∷ ws) = then_some (hex_value a) (λ m. then_some (hex_value b) (λ n. then_some (hex_bytes ws) (λ bs. Some ((16 * m + n) ∷ bs))))

-- bytes, or a minus for none
abbrev pub identity : List ℕ → Option (List ℕ)
identity [] = None
identity (b ∷ bs) = if bytes_eq (b ∷ bs) (codes "-") then Some [] else hex_bytes (b ∷ bs)

abbrev pub repeated : List ℕ → ℕ → Option (List ℕ)
repeated (b ∷ []) n = only (nat_le 1 n && nat_le n 16777217) (Some (replicate n b))
repeated _ n = None

-- bytes, or one byte that is repeated
abbrev pub bytes : List ℕ → Option (List ℕ)
bytes w = of (split_at 42 w) where
  of : List (List ℕ) → Option (List ℕ)
  of (w ∷ []) = identity w
  of (w ∷ n ∷ []) = then_some (hex_bytes w) (λ b. then_some (num n) (λ k. repeated b k))
  of _ = None

-- paths and names

-- what two characters after a percent sign stand for; a comma is escaped in the name of an entry alone
abbrev pub escaped : Bool → ℕ → ℕ → Option ℕ
escaped comma c d =
    if bytes_eq (c ∷ d ∷ []) (codes "20") then Some 32
    else (if bytes_eq (c ∷ d ∷ []) (codes "25") then Some 37
    else only (comma && bytes_eq (c ∷ d ∷ []) (codes "2c")) (Some 44))

abbrev pub unescaped : Bool → List ℕ → Option (List ℕ)
unescaped comma [] = Some []
unescaped comma (b ∷ []) = only (not (b == 37)) (Some (b ∷ []))
unescaped comma (b ∷ c ∷ []) = only (not (b == 37) && not (c == 37)) (Some (b ∷ c ∷ []))
unescaped comma (b ∷ c ∷ d ∷ bs) =
    if not (b == 37) then then_some (unescaped comma (c ∷ d ∷ bs)) (λ r. Some (b ∷ r))
    else then_some (escaped comma c d) (λ e. then_some (unescaped comma bs) (λ r. Some (e ∷ r)))

abbrev pub path : List ℕ → Option (List ℕ)
path [] = None
path (b ∷ bs) = only (b == 47) (unescaped false (b ∷ bs))

-- the forms of a line: its words after the first

abbrev pub Form : Type 0 → Type 0
Form E = List (List ℕ) → Option E

abbrev pub none : {E : Type 0} → E → Form E
none e [] = Some e
none e (w ∷ ws) = None

abbrev pub one : {E A : Type 0} → (List ℕ → Option A) → (A → E) → Form E
one p f (w ∷ []) = then_some (p w) (λ x. Some (f x))
one p f _ = None

abbrev pub two : {E A B : Type 0} → (List ℕ → Option A) → (List ℕ → Option B) → (A → B → E) → Form E
two p q f (v ∷ w ∷ []) = then_some (p v) (λ x. then_some (q w) (λ y. Some (f x y)))
two p q f _ = None

abbrev pub three : {E A B C : Type 0} → (List ℕ → Option A) → (List ℕ → Option B) → (List ℕ → Option C) → (A → B → C → E) → Form E
three p q r f (u ∷ v ∷ w ∷ []) = then_some (p u) (λ x. then_some (q v) (λ y. then_some (r w) (λ z. Some (f x y z))))
three p q r f _ = None

abbrev pub four : {E A B C D : Type 0} → (List ℕ → Option A) → (List ℕ → Option B) → (List ℕ → Option C) → (List ℕ → Option D) → (A → B → C → D → E) → Form E
four p q r s f (t ∷ u ∷ v ∷ w ∷ []) = then_some (p t) (λ x. then_some (q u) (λ y. then_some (r v) (λ z. then_some (s w) (λ o. Some (f x y z o)))))
four p q r s f _ = None

-- the first of these forms that fits
abbrev pub or_else : {E : Type 0} → Form E → Form E → Form E
or_else {E} f g ws = elim (f ws) as (λ _. Option E) [ None ↦ g ws | Some e ↦ Some e ]

-- forms behind a further word
abbrev pub under : {E : Type 0} → List (List ℕ × Form E) → Form E
under ts [] = None
under ts (w ∷ ws) = then_some (word_of ts w) (λ f. f ws)

-- a word that may stand next
abbrev pub takes : List ℕ → List (List ℕ) → Bool × List (List ℕ)
takes w [] = (false, [])
takes w (v ∷ vs) = if bytes_eq v w then (true, vs) else (false, v ∷ vs)
