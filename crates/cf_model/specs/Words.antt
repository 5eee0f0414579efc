-- Small words on lists, bytes and texts.
use Rattle.std.specs.Prelude.{ℕ, zero, suc, Bool, true, false, cond, List, [], Option, Some, None, nat_le, nat_lt, max, ◌+◌, ◌*◌, ◌/◌, ◌%◌, ◌^◌, ◌&&◌, ◌||◌, ◌∷◌, ◌==◌}
use Rattle.std.specs.Fmt.{digits_onto}

-- two texts of the same bytes
abbrev pub same : List ℕ → List ℕ → Bool
same [] [] = true
same [] (y ∷ ys) = false
same (x ∷ xs) [] = false
same (x ∷ xs) (y ∷ ys) = (x == y) && same xs ys

-- what a value that may be there says, and false of none
abbrev pub says : {A : Type 0} → (A → Bool) → Option A → Bool
says p None = false
says p (Some x) = p x

-- a part of a value that may be there, and y of none
abbrev pub part : {A B : Type 0} → (A → B) → B → Option A → B
part f y None = y
part f y (Some x) = f x

abbrev pub is_empty : {A : Type 0} → List A → Bool
is_empty [] = true
is_empty (x ∷ xs) = false

-- the first answer whose condition holds
abbrev pub first_of : {A : Type 0} → List (Bool × A) → Option A
first_of [] = None
first_of (t ∷ ts) = cond t.0 (Some t.1) (first_of ts)

-- the list where the condition holds, and nothing else
abbrev pub when : {A : Type 0} → Bool → List A → List A
when true xs = xs
when false xs = []

-- the numbers from i on, n of them
abbrev pub counting : ℕ → ℕ → List ℕ
counting i zero = []
counting i (suc n) = i ∷ counting (i + 1) n

abbrev pub greatest : List ℕ → ℕ
greatest [] = 0
greatest (n ∷ ns) = max n (greatest ns)

-- start ≤ p < end
abbrev pub within : ℕ → ℕ → ℕ → Bool
within start end p = nat_le start p && nat_lt p end

-- whether the element at p passes, and false past the end
abbrev pub passes_at : {A : Type 0} → (A → Bool) → List A → ℕ → Bool
passes_at f [] p = false
passes_at f (x ∷ xs) zero = f x
passes_at f (x ∷ xs) (suc p) = passes_at f xs p

-- each element by its place, the first being at
abbrev pub by_place : {A B : Type 0} → (ℕ → A → B) → ℕ → List A → List B
by_place f at [] = []
by_place f at (x ∷ xs) = f at x ∷ by_place f (at + 1) xs

-- the last of n ∷ ns, and all but the last
abbrev pub last_of : {A : Type 0} → A → List A → A
last_of n [] = n
last_of n (m ∷ ms) = last_of m ms

abbrev pub but_last : {A : Type 0} → A → List A → List A
but_last n [] = []
but_last n (m ∷ ms) = n ∷ but_last m ms

-- a number in n bytes, the greatest first
abbrev pub in_bytes : ℕ → ℕ → List ℕ
in_bytes zero n = []
in_bytes (suc k) n = (n / 2 ^ (8 * k)) % 256 ∷ in_bytes k n

abbrev pub number_from : ℕ → List ℕ → ℕ
number_from n [] = n
number_from n (b ∷ bs) = number_from (n * 256 + b) bs

-- the number that bytes spell, the greatest first
abbrev pub number_of : List ℕ → ℕ
number_of bs = number_from 0 bs

-- a number in decimal digits; std's own word is abstract, and this is the same
abbrev pub decimal : ℕ → List ℕ
decimal n = digits_onto 64 10 false n []

-- texts in the order of their bytes
abbrev pub comes_before : List ℕ → List ℕ → Bool
comes_before [] [] = false
comes_before [] (y ∷ ys) = true
comes_before (x ∷ xs) [] = false
comes_before (x ∷ xs) (y ∷ ys) = nat_lt x y || ((x == y) && comes_before xs ys)

-- a list sorted: equal ones keep their order
abbrev pub put_in : {A : Type 0} → (A → A → Bool) → A → List A → List A
put_in before x [] = x ∷ []
put_in before x (y ∷ ys) = cond (before y x) (y ∷ put_in before x ys) (x ∷ y ∷ ys)

abbrev pub sorted : {A : Type 0} → (A → A → Bool) → List A → List A
sorted before [] = []
sorted before (x ∷ xs) = put_in before x (sorted before xs)

-- the parts between these bytes
abbrev pub add_front : ℕ → List (List ℕ) → List (List ℕ)
add_front b [] = (b ∷ []) ∷ []
add_front b (n ∷ ns) = (b ∷ n) ∷ ns

abbrev pub split_at : ℕ → List ℕ → List (List ℕ)
split_at at [] = [] ∷ []
split_at at (b ∷ bs) = cond (b == at) ([] ∷ split_at at bs) (add_front b (split_at at bs))
