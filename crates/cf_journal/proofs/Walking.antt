-- The records of a journal, met one after the other on a disk that is only read.
use Rattle.std.proofs.Common.{◌≡◌, ◌≢◌, ℕ, ◌+◌, ◌-◌, ◌^◌, ◌<◌, ◌≤◌, List, [], ◌∷◌, ◌++◌, length, refl, sym, ◌∙◌, ap, subst, arith, get_or}
use Rattle.std.specs.Int.{w32, to_be_bytes}
use Rattle.std.proofs.lemmas.List.{length-append}
use Rattle.cf_disk.specs.Disk.{State, part, size_of}
use Rattle.cf_disk.specs.Parts.{get_or-first, length-part, part-append}
use Rattle.cf_journal.specs.Format.{IsOverrun, Overruns, Spells}
use Rattle.cf_journal.specs.Steps.{ReadsOnly}
use Rattle.cf_journal.proofs.Opening.{reads_then}
use Rattle.cf_journal.proofs.Reading.{Walked, lacks_bytes, walked_end, walked_more, walked_none, walked_over}

-- the first bytes of a part
part_from : (at n left : ℕ) (xs : List ℕ) → n ≤ left → part at left xs ≡ part at n xs ++ part (at + n) (left - n) xs
part_from at n left xs low = let split : left ≡ n + (left - n) = omega (arith, low) in ap (λ (k : ℕ). part at k xs) split ∙ part-append at n (left - n) xs

one : (l : List ℕ) → length l ≡ 1 → l ≡ get_or l 0 0 ∷ []
one [] size = absurd (omega (arith, size))
one (x ∷ []) size = refl
one (x ∷ y ∷ ys) size = absurd (omega (arith, size))

-- the first of some bytes that were read is the gate
pub at_gate : (at n left : ℕ) (xs out : List ℕ) → at + left ≤ length xs → out ≡ part at n xs → 0 < n → 0 < left → part at left xs ≡ get_or out 0 0 ∷ part (at + 1) (left - 1) xs
at_gate at n left xs out room is read some =
    part_from at 1 left xs some
    ∙ ap (λ (l : List ℕ). l ++ part (at + 1) (left - 1) xs)
    (one (part at 1 xs) (length-part at 1 xs (omega (arith, room, some)))
    ∙ ap (λ (g : ℕ). g ∷ []) (get_or-first at 1 xs (omega arith) ∙ sym (get_or-first at n xs read) ∙ ap (λ (l : List ℕ). get_or l 0 0) (sym is)))

-- near the end of the journal no record fits
pub last_overrun : (at n left : ℕ) (xs out : List ℕ) → at + left ≤ length xs → out ≡ part at n xs → 0 < n → 0 < left → left ≤ 5 → get_or out 0 0 ≢ 0 → IsOverrun (part at left xs)
last_overrun at n left xs out room is read some few is_open = (
  get_or out 0 0,
  part (at + 1) (left - 1) xs,
  is_open,
  at_gate at n left xs out room is read some,
  λ p next tail fits e. omega (arith, some, few, length-part (at + 1) (left - 1) xs (omega (arith, some, room)), ap length e, length-append p (next ∷ tail)),
)

-- a head that was read
pub at_head : (at left gate n : ℕ) (xs head : List ℕ) → head ≡ part at 5 xs → head ≡ gate ∷ to_be_bytes w32 n → 5 < left → part at left xs ≡ gate ∷ (to_be_bytes w32 n ++ part (at + 5) (left - 5) xs)
at_head at left gate n xs head is told more = part_from at 5 left xs (omega (arith, more)) ∙ ap (λ (l : List ℕ). l ++ part (at + 5) (left - 5) xs) (sym is ∙ told)

pub head_overrun : (at left gate n : ℕ) (xs head : List ℕ) → at + left ≤ length xs → head ≡ part at 5 xs → head ≡ gate ∷ to_be_bytes w32 n → 5 < left → gate ≢ 0 → n < 2 ^ 32 → left - 5 ≤ n → IsOverrun (part at left xs)
head_overrun at left gate n xs head room is told more is_open field long =
    lacks_bytes gate n (part at left xs) (to_be_bytes w32 n ++ part (at + 5) (left - 5) xs) (part (at + 5) (left - 5) xs) (at_head at left gate n xs head is told more) is_open field refl
    (omega (arith, long, length-part (at + 5) (left - 5) xs (omega (arith, room, more))))

-- a payload that was read behind its head
pub at_payload : (at left gate n : ℕ) (xs head p : List ℕ) → at + left ≤ length xs → head ≡ part at 5 xs → head ≡ gate ∷ to_be_bytes w32 n → 5 + n < left → p ≡ part (at + 5) n xs
    → (length p ≡ n) × (part at left xs ≡ gate ∷ (to_be_bytes w32 (length p) ++ (p ++ part (at + (5 + length p)) (left - (5 + length p)) xs)))
at_payload at left gate n xs head p room is told more p_is = (
  size,
  at_head at left gate n xs head is told (omega (arith, more)) ∙ (λ i. gate ∷ (to_be_bytes w32 (sym size i) ++ behind i)),
)
  where
    size : length p ≡ n
    size = ap length p_is ∙ length-part (at + 5) n xs (omega (arith, room, more))

    ends : at + 5 + n ≡ at + (5 + length p)
    ends = omega (arith, size)

    left_is : left - 5 - n ≡ left - (5 + length p)
    left_is = omega (arith, size, more)

    behind : part (at + 5) (left - 5) xs ≡ p ++ part (at + (5 + length p)) (left - (5 + length p)) xs
    behind = part_from (at + 5) n (left - 5) xs (omega (arith, more)) ∙ (λ i. sym p_is i ++ part (ends i) (left_is i) xs)

-- the records so far, and what is left of the journal
pub record WalkedOn (at len : ℕ) (payloads : List (List ℕ)) (end : ℕ) (start now : State) : Type 0 where
  pub walked : Walked (part at len start.seen) payloads end (part (at + end) (len - end) start.seen)
  pub low : end < len
  pub reads : ReadsOnly start now

pub walked_start : (at len : ℕ) (s : State) → 0 < len → at + len ≤ size_of s → ReadsOnly s s → WalkedOn at len [] 0 s s
walked_start at len s some room same = record {
  walked = subst (λ (l : List ℕ). Walked (part at len s.seen) [] 0 l) (λ i. part (from i) (all i) s.seen) (walked_none (part at len s.seen) (omega (arith, some, length-part at len s.seen room)));
  low = some;
  reads = same;
}
  where
    from : at ≡ at + 0
    from = omega arith

    all : len ≡ len - 0
    all = omega arith

-- one record more
pub walked_next : (at len end gate : ℕ) (payloads : List (List ℕ)) (p : List ℕ) (start old new : State) → at + len ≤ size_of start → WalkedOn at len payloads end start old → ReadsOnly old new → gate ≢ 0 → length p < 2 ^ 32 → 5 + length p < len - end
    → part (at + end) (len - end) old.seen ≡ gate ∷ (to_be_bytes w32 (length p) ++ (p ++ part (at + end + (5 + length p)) (len - end - (5 + length p)) old.seen))
    → WalkedOn at len (payloads ++ p ∷ []) (end + (5 + length p)) start new
walked_next at len end gate payloads p start old new room w more is_open short fits is = record {
  walked = subst (λ (l : List ℕ). Walked (part at len start.seen) (payloads ++ p ∷ []) (end + (5 + length p)) l) rest_is
      (walked_more (part at len start.seen) payloads end (part (at + end) (len - end) start.seen) gate p (part (at + end + (5 + length p)) (len - end - (5 + length p)) start.seen) w.walked is_open short there
      (omega (arith, fits, room, w.low, length-part (at + end + (5 + length p)) (len - end - (5 + length p)) start.seen (omega (arith, fits, room, w.low)))));
  low = omega (arith, fits, w.low);
  reads = reads_then start old new w.reads more;
}
  where
    seen : old.seen ≡ start.seen
    seen = w.reads.keeps.seen

    there : part (at + end) (len - end) start.seen ≡ gate ∷ (to_be_bytes w32 (length p) ++ (p ++ part (at + end + (5 + length p)) (len - end - (5 + length p)) start.seen))
    there = subst (λ (l : List ℕ). part (at + end) (len - end) l ≡ gate ∷ (to_be_bytes w32 (length p) ++ (p ++ part (at + end + (5 + length p)) (len - end - (5 + length p)) l))) seen is

    ends : at + end + (5 + length p) ≡ at + (end + (5 + length p))
    ends = omega arith

    left : len - end - (5 + length p) ≡ len - (end + (5 + length p))
    left = omega arith

    rest_is : part (at + end + (5 + length p)) (len - end - (5 + length p)) start.seen ≡ part (at + (end + (5 + length p))) (len - (end + (5 + length p))) start.seen
    rest_is = λ i. part (ends i) (left i) start.seen

pub walked_to_end : (at len end : ℕ) (payloads : List (List ℕ)) (tail : List ℕ) (start old : State) → WalkedOn at len payloads end start old → part (at + end) (len - end) old.seen ≡ 0 ∷ tail → Spells payloads (part at len start.seen)
walked_to_end at len end payloads tail start old w is =
    walked_end (part at len start.seen) payloads end (part (at + end) (len - end) start.seen) tail w.walked (subst (λ (l : List ℕ). part (at + end) (len - end) l ≡ 0 ∷ tail) w.reads.keeps.seen is)

pub walked_to_overrun : (at len end : ℕ) (payloads : List (List ℕ)) (start old : State) → WalkedOn at len payloads end start old → IsOverrun (part (at + end) (len - end) old.seen) → Overruns payloads (part at len start.seen)
walked_to_overrun at len end payloads start old w over =
    walked_over (part at len start.seen) payloads end (part (at + end) (len - end) start.seen) w.walked (subst (λ (l : List ℕ). IsOverrun (part (at + end) (len - end) l)) w.reads.keeps.seen over)
