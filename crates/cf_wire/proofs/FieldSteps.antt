-- A field that the codec's reader took, or lacked, is what reading gives.
use Rattle.std.proofs.Common.{◌≡◌, ℕ, ◌+◌, ◌<◌, ◌^◌, true, false, Option, Some, None, List, [], ◌∷◌, ◌++◌, length, Result, Ok, Err, refl, sym, ◌∙◌, subst, arith, length-append, ltb}
use Rattle.std.proofs.lemmas.Bool.{le-ltb, lt-ltb}
use Rattle.std.proofs.lemmas.List.{take_at, drop_at}
use Rattle.std.proofs.lemmas.Nat.{from_be_bytes-to_be_bytes_4, from_be_bytes-to_be_bytes_8}
use Rattle.std.specs.Int.{w32, w64, from_be_bytes, to_be_bytes}
use Rattle.std.specs.Option.{ok_or}
use Rattle.cf_codec.specs.Left.{Lacks, Left, Takes}
use Rattle.cf_codec.specs.declared.failures.CodecError.{CodecError}
use Rattle.cf_codec.specs.declared.failures.CodecError.TheVariants.{BadField, Short}
use Rattle.cf_wire.specs.declared.failures.WireError.{WireError}
use Rattle.cf_wire.specs.declared.failures.WireError.TheVariants as fail
use Rattle.cf_wire.specs.Given.{wire_of}
use Rattle.cf_wire.specs.Reading.{◌>>=◌, Fails, Gives, Step, byte_at, bytes_at, eight_at, first_of, four_at, known_at, marked_at}

pub fails_then : {A B : Type 0} (e : WireError) (r : Result A CodecError) (f : A → Result B CodecError) → Fails e r → Fails e (r >>= f)
fails_then (fail.Short p) r f h = rw h refl
fails_then (fail.BadField p) r f h = rw h refl
fails_then fail.OutOfMemory r f h = tt

pub lacked : (n : ℕ) (e : CodecError) (old new : Left) → Lacks n e old new → Fails (wire_of e) (bytes_at n old)
unfolding bytes_at
lacked n e old new h =
    let short : ltb (length old.rest) n ≡ true = lt-ltb _ _ h.lacks in
    subst (λ (x : CodecError). Fails (wire_of x) (bytes_at n old)) (sym h.fail_is) (rw short refl)

pub taken : (n : ℕ) (text : List ℕ) (old new : Left) → n ≡ length text → Takes text old new → bytes_at n old ≡ Ok (text, new)
unfolding bytes_at
taken n text old new size h =
    let long : ltb (length (text ++ new.rest)) n ≡ false = le-ltb _ _ (omega (arith, length-append text new.rest)) in
    rw (h.parts, long, take_at text new.rest n (sym size), drop_at text new.rest n (sym size), size, ← h.place) refl

pub byte_taken : (v : ℕ) (old new : Left) → Takes (v ∷ []) old new → byte_at old ≡ Ok (v, new)
unfolding byte_at
byte_taken v old new h = rw (taken 1 (v ∷ []) old new refl h) refl

pub four_taken : (v : ℕ) (old new : Left) → v < 2 ^ 32 → Takes (to_be_bytes w32 v) old new → four_at old ≡ Ok (v, new)
unfolding four_at
four_taken v old new small h = rw (taken 4 (to_be_bytes w32 v) old new refl h, from_be_bytes-to_be_bytes_4 v small) refl

pub eight_taken : (v : ℕ) (old new : Left) → v < 2 ^ 64 → Takes (to_be_bytes w64 v) old new → eight_at old ≡ Ok (v, new)
unfolding eight_at
eight_taken v old new small h = rw (taken 8 (to_be_bytes w64 v) old new refl h, from_be_bytes-to_be_bytes_8 v small) refl

pub byte_lacked : (e : CodecError) (old new : Left) → Lacks 1 e old new → Fails (wire_of e) (byte_at old)
unfolding byte_at
byte_lacked e old new h = fails_then (wire_of e) (bytes_at 1 old) (λ b. Ok (first_of b.0, b.1)) (lacked 1 e old new h)

pub four_lacked : (e : CodecError) (old new : Left) → Lacks 4 e old new → Fails (wire_of e) (four_at old)
unfolding four_at
four_lacked e old new h = fails_then (wire_of e) (bytes_at 4 old) (λ b. Ok (from_be_bytes w32 b.0, b.1)) (lacked 4 e old new h)

pub eight_lacked : (e : CodecError) (old new : Left) → Lacks 8 e old new → Fails (wire_of e) (eight_at old)
unfolding eight_at
eight_lacked e old new h = fails_then (wire_of e) (bytes_at 8 old) (λ b. Ok (from_be_bytes w64 b.0, b.1)) (lacked 8 e old new h)

-- a byte was taken, so one was left
byte_was_left : (b : ℕ) (old new : Left) → byte_at old ≡ Ok (b, new) → 0 < length old.rest
unfolding byte_at bytes_at
byte_was_left b old new h = one_of old.rest refl
  where
    one_of : (rest : List ℕ) → rest ≡ old.rest → 0 < length old.rest
    one_of [] e = absurd (let none : byte_at old ≡ Err (Short old.place) = rw (sym e) refl in let z : ◌≡◌ {A = Step ℕ} (Err (Short old.place)) (Ok (b, new)) = sym none ∙ h in cc)
    one_of (x ∷ xs) e = subst (λ (l : List ℕ). 0 < length l) e (omega arith)

known : {X : Type 0} (o : Option X) (place : ℕ) (r : Result X WireError) (new : Left) → r ≡ ok_or o (fail.BadField place) → Gives r new (known_at place o new)
known (Some x) place r new h = rw h refl
known None place r new h = rw h refl

pub marked : {X : Type 0} (value_of : ℕ → Option X) (b place : ℕ) (old new : Left) (r : Result X WireError)
    → byte_at old ≡ Ok (b, new) → (0 < length old.rest → place ≡ old.place) → r ≡ ok_or (value_of b) (fail.BadField place) → Gives r new (marked_at value_of old)
unfolding marked_at
marked value_of b place old new r taken at given =
    let here = at (byte_was_left b old new taken) in
    rw (taken, ← here) (known (value_of b) place r new given)
