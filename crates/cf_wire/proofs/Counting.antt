-- Reading entries one after the other, as a loop does.
use Rattle.std.proofs.Common.{◌≡◌, ℕ, suc, ◌-◌, ◌+◌, ◌≤◌, ◌<◌, List, [], ◌∷◌, ◌++◌, Ok, Err, refl, sym, ap, ◌∙◌, append_assoc, arith}
use Rattle.std.proofs.lemmas.List.{append-nil}
use Rattle.cf_base.specs.declared.messages.Entry.{Entry}
use Rattle.cf_codec.specs.Left.{Left}
use Rattle.cf_codec.specs.declared.failures.CodecError.{CodecError}
use Rattle.cf_codec.specs.declared.failures.CodecError.TheVariants.{BadField, Short}
use Rattle.cf_wire.specs.declared.failures.WireError.{WireError}
use Rattle.cf_wire.specs.declared.failures.WireError.TheVariants as fail
use Rattle.cf_wire.specs.Reading.{◌>>=◌, Fails, Step, counted_at, entry_at}

-- what was read before, and what is still read
abbrev pub with_front : List Entry → Step (List Entry) → Step (List Entry)
with_front front read = read >>= λ x. Ok (front ++ x.0, x.1)

regroup : (front : List Entry) (e : Entry) (read : Step (List Entry)) → with_front front (read >>= λ x. Ok (e ∷ x.0, x.1)) ≡ with_front (front ++ e ∷ []) read
regroup front e (Ok x) = ap (λ (es : List Entry). Ok (es, x.1)) (simp append_assoc)
regroup front e (Err f) = refl

pub goes_on : (front : List Entry) (count i : ℕ) (l : Left) (e : Entry) (after : Left) (total : Step (List Entry)) → i < count → entry_at l ≡ Ok (e, after)
    → with_front front (counted_at (count - i) l) ≡ total → with_front (front ++ e ∷ []) (counted_at (count - (i + 1)) after) ≡ total
unfolding counted_at
goes_on front count i l e after total lt h so_far =
    let k : count - i ≡ suc (count - (i + 1)) = omega arith in
    let one : with_front front (counted_at (count - i) l) ≡ with_front (front ++ e ∷ []) (counted_at (count - (i + 1)) after) = rw (k, h) (regroup front e (counted_at (count - (i + 1)) after)) in
    sym one ∙ so_far

failed : (front : List Entry) (count i : ℕ) (l : Left) (d : CodecError) (total : Step (List Entry)) → i < count → entry_at l ≡ Err d → with_front front (counted_at (count - i) l) ≡ total → total ≡ Err d
unfolding counted_at
failed front count i l d total lt h so_far =
    let k : count - i ≡ suc (count - (i + 1)) = omega arith in
    let one : with_front front (counted_at (count - i) l) ≡ Err d = rw (k, h) refl in
    sym so_far ∙ one

pub ends : (e : WireError) (front : List Entry) (count i : ℕ) (l : Left) (total : Step (List Entry)) → i < count → Fails e (entry_at l) → with_front front (counted_at (count - i) l) ≡ total → Fails e total
ends (fail.Short p) front count i l total lt h so_far = failed front count i l (Short p) total lt h so_far
ends (fail.BadField p) front count i l total lt h so_far = failed front count i l (BadField p) total lt h so_far
ends fail.OutOfMemory front count i l total lt h so_far = tt

pub is_done : (front : List Entry) (count i : ℕ) (l : Left) (total : Step (List Entry)) → count ≤ i → with_front front (counted_at (count - i) l) ≡ total → total ≡ Ok (front, l)
unfolding counted_at
is_done front count i l total le so_far =
    let k : count - i ≡ 0 = omega arith in
    let one : with_front front (counted_at (count - i) l) ≡ Ok (front, l) = rw k (ap (λ (es : List Entry). Ok (es, l)) (append-nil front)) in
    sym so_far ∙ one
