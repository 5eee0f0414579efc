-- What a journal that is spelled has at its front.
use Rattle.std.proofs.Common.{◌≡◌, ◌≢◌, ℕ, ◌+◌, ◌^◌, ◌<◌, ◌≤◌, List, [], ◌∷◌, ◌++◌, length, take, drop, refl, sym, ◌∙◌, ap, subst, arith, append_assoc}
use Rattle.std.specs.Int.{w32, to_be_bytes, from_be_bytes}
use Rattle.std.proofs.lemmas.List.{length-append, append-nil, drop_at}
use Rattle.std.proofs.lemmas.Nat.{from_be_bytes-to_be_bytes_4}
use Rattle.cf_journal.specs.Format.{IsFront, IsOverrun, Overruns, Spells, size_of_records}
use Rattle.cf_journal.proofs.Records.{one_record, front_push, size-push}

pub head_is : (a b : ℕ) (x y : List ℕ) → a ∷ x ≡ b ∷ y → (a ≡ b) × (x ≡ y)
head_is a b x y e = (cc, cc)

-- the record behind an open gate
pub record Opens (more : List ℕ) (ps : List (List ℕ)) : Type 0 where
  pub payload : List ℕ
  pub others : List (List ℕ)
  pub rest : List ℕ
  pub short : length payload < 2 ^ 32
  pub split : more ≡ to_be_bytes w32 (length payload) ++ (payload ++ rest)
  pub behind : Spells others rest

pub opens : (ps : List (List ℕ)) (gate : ℕ) (more : List ℕ) → gate ≢ 0 → Spells ps (gate ∷ more) → Opens more ps
opens [] gate more is_open s =
    let e : gate ∷ more ≡ 0 ∷ s.1 = s.3 ∙ ap (λ (l : List ℕ). l ++ 0 ∷ s.1) s.2 in
    absurd (is_open (head_is gate 0 more s.1 e).0)
opens (p ∷ ps) gate more is_open s =
    let f = s.2 in
    let e : gate ∷ more ≡ f.0 ∷ ((to_be_bytes w32 (length p) ++ (p ++ f.1)) ++ 0 ∷ s.1) = s.3 ∙ ap (λ (l : List ℕ). l ++ 0 ∷ s.1) f.4 in
    record {
      payload = p;
      others = ps;
      rest = f.1 ++ 0 ∷ s.1;
      short = f.3;
      split = (head_is gate f.0 more ((to_be_bytes w32 (length p) ++ (p ++ f.1)) ++ 0 ∷ s.1) e).1
          ∙ append_assoc (to_be_bytes w32 (length p)) (p ++ f.1) (0 ∷ s.1)
          ∙ ap (λ (l : List ℕ). to_be_bytes w32 (length p) ++ l) (append_assoc p f.1 (0 ∷ s.1));
      behind = (f.1, s.1, f.5, refl);
    }

-- four bytes spell one number
pub one_length : (m n : ℕ) (x y : List ℕ) → m < 2 ^ 32 → n < 2 ^ 32 → to_be_bytes w32 m ++ x ≡ to_be_bytes w32 n ++ y → (m ≡ n) × (x ≡ y)
one_length m n x y fm fn e = (
  sym (from_be_bytes-to_be_bytes_4 m fm) ∙ ap (λ (l : List ℕ). from_be_bytes w32 (take 4 l)) e ∙ from_be_bytes-to_be_bytes_4 n fn,
  ap (λ (l : List ℕ). drop 4 l) e,
)

-- what is left behind an open gate is no record that fits

pub lacks_bytes : (gate n : ℕ) (rest more bytes : List ℕ) → rest ≡ gate ∷ more → gate ≢ 0 → n < 2 ^ 32 → more ≡ to_be_bytes w32 n ++ bytes → length bytes ≤ n → IsOverrun rest
lacks_bytes gate n rest more bytes is is_open field parts short = (
  gate,
  more,
  is_open,
  is,
  λ p next tail fits e.
      let same = one_length n (length p) bytes (p ++ next ∷ tail) field fits (sym parts ∙ e) in
      omega (arith, short, same.0, ap length same.1, length-append p (next ∷ tail)),
)

-- a journal has a byte
first_byte : (ps : List (List ℕ)) (bytes : List ℕ) → Spells ps bytes → (x : ℕ) × (xs : List ℕ) × (bytes ≡ x ∷ xs)
first_byte ps bytes s = by s.0 s.3
  where
    by : (front : List ℕ) → bytes ≡ front ++ 0 ∷ s.1 → (x : ℕ) × (xs : List ℕ) × (bytes ≡ x ∷ xs)
    by [] e = (0, s.1, e)
    by (x ∷ xs) e = (x, xs ++ 0 ∷ s.1, e)

overrun_none : (rest : List ℕ) → IsOverrun rest → (qs : List (List ℕ)) → Spells qs rest → ⊥
overrun_none rest over qs s =
    let o = opens qs over.0 over.1 over.2 (subst (Spells qs) over.3 s) in
    let next = first_byte o.others o.rest o.behind in
    over.4 o.payload next.0 next.1 o.short (o.split ∙ ap (λ (l : List ℕ). to_be_bytes w32 (length o.payload) ++ (o.payload ++ l)) next.2)

append_same : (a b x y : List ℕ) → length a ≡ length b → a ++ x ≡ b ++ y → x ≡ y
append_same a b x y len e = sym (drop_at a x (length a) refl) ∙ ap (λ (l : List ℕ). drop (length a) l) e ∙ drop_at b y (length a) (sym len)

-- what stands behind open records is a journal where all is
behind_front : (ps : List (List ℕ)) (front tail : List ℕ) → IsFront ps front → (qs : List (List ℕ)) → Spells qs (front ++ tail) → (rs : List (List ℕ)) × Spells rs tail
behind_front [] front tail f qs s = (qs, subst (λ (l : List ℕ). Spells qs (l ++ tail)) f s)
behind_front (p ∷ ps) front tail f qs s =
    let all : front ++ tail ≡ f.0 ∷ (to_be_bytes w32 (length p) ++ (p ++ (f.1 ++ tail))) =
    ap (λ (l : List ℕ). l ++ tail) f.4 ∙ ap (λ (l : List ℕ). f.0 ∷ l) (append_assoc (to_be_bytes w32 (length p)) (p ++ f.1) tail ∙ ap (λ (l : List ℕ). to_be_bytes w32 (length p) ++ l) (append_assoc p f.1 tail)) in
    let o = opens qs f.0 (to_be_bytes w32 (length p) ++ (p ++ (f.1 ++ tail))) f.2 (subst (Spells qs) all s) in
    let same = one_length (length p) (length o.payload) (p ++ (f.1 ++ tail)) (o.payload ++ o.rest) f.3 o.short o.split in
    behind_front ps f.1 tail f.5 o.others (subst (Spells o.others) (sym (append_same p o.payload (f.1 ++ tail) o.rest same.0 same.1)) o.behind)

-- a journal that a record does not fit is none
pub overruns_none : (ps : List (List ℕ)) (bytes : List ℕ) → Overruns ps bytes → (qs : List (List ℕ)) → Spells qs bytes → ⊥
overruns_none ps bytes over qs s =
    let left = behind_front ps over.0 over.1 over.2 qs (subst (Spells qs) over.3 s) in
    overrun_none over.1 over.4 left.0 left.1

-- the records so far, and what is left
pub record Walked (bytes : List ℕ) (payloads : List (List ℕ)) (end : ℕ) (rest : List ℕ) : Type 0 where
  pub front : List ℕ
  pub is_front : IsFront payloads front
  pub split : bytes ≡ front ++ rest
  pub size : end ≡ size_of_records payloads
  pub some : 0 < length rest

pub walked_none : (bytes : List ℕ) → 0 < length bytes → Walked bytes [] 0 bytes
walked_none bytes some = record { front = []; is_front = refl; split = refl; size = refl; some = some }

pub walked_more : (bytes : List ℕ) (payloads : List (List ℕ)) (end : ℕ) (old : List ℕ) (gate : ℕ) (p new : List ℕ) → Walked bytes payloads end old → gate ≢ 0 → length p < 2 ^ 32 → old ≡ gate ∷ (to_be_bytes w32 (length p) ++ (p ++ new)) → 0 < length new → Walked bytes (payloads ++ p ∷ []) (end + (5 + length p)) new
walked_more bytes payloads end old gate p new w is_open short is some = record {
  front = w.front ++ one_record gate p;
  is_front = front_push payloads p w.front gate is_open short w.is_front;
  split = w.split ∙ ap (λ (l : List ℕ). w.front ++ l) (is ∙ ap (λ (l : List ℕ). gate ∷ l) (regroup (to_be_bytes w32 (length p)) p new)) ∙ sym (append_assoc w.front (one_record gate p) new);
  size = omega (arith, w.size, size-push payloads p);
  some = some;
}
  where
    regroup : (b q t : List ℕ) → b ++ (q ++ t) ≡ (b ++ (q ++ [])) ++ t
    regroup b q t = simp (append_assoc, append-nil) refl

pub walked_end : (bytes : List ℕ) (payloads : List (List ℕ)) (end : ℕ) (old tail : List ℕ) → Walked bytes payloads end old → old ≡ 0 ∷ tail → Spells payloads bytes
walked_end bytes payloads end old tail w is = (w.front, tail, w.is_front, w.split ∙ ap (λ (l : List ℕ). w.front ++ l) is)

pub walked_over : (bytes : List ℕ) (payloads : List (List ℕ)) (end : ℕ) (old : List ℕ) → Walked bytes payloads end old → IsOverrun old → Overruns payloads bytes
walked_over bytes payloads end old w over = (w.front, old, w.is_front, w.split, over)
