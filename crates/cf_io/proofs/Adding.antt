-- One piece behind another.
use Rattle.std.proofs.Common.{◌≡◌, ℕ, ◌<◌, ◌≤◌, List, [], ◌∷◌, ◌++◌, length, take, drop, Option, Some, None, refl, sym, ap, ◌∙◌, append_assoc, subst, arith, length-append, length-drop, ◌+◌, ◌-◌}
use Rattle.std.proofs.lemmas.List.{append-nil, take-append-drop, drop-drop, length-take, take_all, take_at}
use Rattle.std.proofs.Math.Seq.{take-length}
use Rattle.cf_io.specs.Moves.{Adds, AddsPiece, Takes, EndsWell, IsFront, IsWhole, IsLonger}

pub Adds-then : (a b c : Option (List ℕ)) (xs ys : List ℕ) → Adds a b xs → Adds b c ys → Adds a c (xs ++ ys)
Adds-then None b c xs ys h k = tt
Adds-then (Some held) b c xs ys h k =
    let next = subst (λ x. Adds x c ys) h k in
    next ∙ ap Some (append_assoc held xs ys)

pub Adds-none : (a : Option (List ℕ)) → Adds a a []
Adds-none None = tt
Adds-none (Some held) = ap Some (sym (append-nil held))

-- the front so far, and the next piece of the rest
pub record HasPut (old now : Option (List ℕ)) (all rest : List ℕ) : Type 0 where
  pub front : List ℕ
  pub parts : all ≡ front ++ rest
  pub added : Adds old now front

pub put_more : (old now next : Option (List ℕ)) (all rest : List ℕ) (n : ℕ) → HasPut old now all rest → Adds now next (take n rest) → HasPut old next all (drop n rest)
put_more old now next all rest n h k = record {
  front = h.front ++ take n rest;
  parts = h.parts ∙ ap (λ r. h.front ++ r) (sym (take-append-drop n rest)) ∙ sym (append_assoc h.front (take n rest) (drop n rest));
  added = Adds-then old now next h.front (take n rest) h.added k;
}

pub put_none : (old : Option (List ℕ)) (all : List ℕ) → HasPut old old all all
put_none old all = record { front = []; parts = refl; added = Adds-none old }

pub Takes-then : (a b c : Option (List ℕ)) (xs ys : List ℕ) → Takes a b xs → Takes b c ys → Takes a c (xs ++ ys)
Takes-then None b c xs ys h k = tt
Takes-then (Some left) b c xs ys h k =
    let next = subst (λ x. Takes x c ys) h.1 k in
    (next.0, next.1, h.2 ∙ ap (λ r. xs ++ r) next.2 ∙ sym (append_assoc xs ys next.0))

pub Takes-none : (a : Option (List ℕ)) → Takes a a []
Takes-none None = tt
Takes-none (Some left) = (left, refl, refl)

-- a piece behind the text that was taken before

pub more_taken : (a b c : Option (List ℕ)) (before after : List ℕ) (room n : ℕ) → AddsPiece room b c before after n → Takes a b before → Takes a c after
more_taken a b c before after room n h k = subst (λ (t : List ℕ). Takes a c t) (sym h.behind) (Takes-then a b c before h.piece k h.takes)

pub more_length : (b c : Option (List ℕ)) (before after : List ℕ) (room n : ℕ) → AddsPiece room b c before after n → length after ≡ length before + n
more_length b c before after room n h = ap length h.behind ∙ length-append before h.piece ∙ ap (λ (k : ℕ). length before + k) h.count

-- the front of a source

pub front_at_end : (most : ℕ) (a b c : Option (List ℕ)) (before after : List ℕ) (room n : ℕ) → Takes a b before → AddsPiece room b c before after n → n ≡ 0 → length after ≤ most → IsFront most a after
front_at_end most None b c before after room n h k none le = tt
front_at_end most (Some left) b c before after room n h k none le =
    let nothing : k.piece ≡ [] = empty k.piece (k.count ∙ none) in
    let end : h.0 ≡ [] = subst (λ x. EndsWell x k.piece) h.1 k.ends nothing in
    let all : left ≡ before = h.2 ∙ ap (λ r. before ++ r) end ∙ append-nil before in
    let same : after ≡ before = k.behind ∙ ap (λ r. before ++ r) nothing ∙ append-nil before in
    same ∙ sym (take_all most before (subst (λ (t : List ℕ). length t ≤ most) same le)) ∙ ap (λ t. take most t) (sym all)
  where
    empty : (xs : List ℕ) → length xs ≡ 0 → xs ≡ []
    empty [] e = refl
    empty (x ∷ xs) e = absurd (omega (arith, e))

pub front_of : (most : ℕ) (a b : Option (List ℕ)) (text : List ℕ) → Takes a b text → length text ≡ most → IsFront most a text
front_of most None b text h full = tt
front_of most (Some left) b text h full = sym (ap (λ t. take most t) h.2 ∙ take_at text h.0 most full)

-- a front that is shorter than was asked for is all

pub whole_of : (limit : ℕ) (a : Option (List ℕ)) (text : List ℕ) → IsFront (limit + 1) a text → length text ≤ limit → IsWhole a text
whole_of limit None text h le = tt
whole_of limit (Some left) text h le = h ∙ take_all (limit + 1) left (omega (arith, le, ap length h, length-take (limit + 1) left))

pub longer_of : (limit : ℕ) (a : Option (List ℕ)) (text : List ℕ) → IsFront (limit + 1) a text → limit < length text → IsLonger a limit
longer_of limit None text h lt = tt
longer_of limit (Some left) text h lt = omega (arith, lt, ap length h, length-take (limit + 1) left)

-- a source that moves the next bytes to a buffer
pub takes_front : (all left moved : List ℕ) (at n : ℕ) → left ≡ drop at all → moved ≡ take n (take (length all - at) (drop at all)) → Takes (Some left) (Some (drop (at + n) all)) moved
takes_front all left moved at n old is =
    let whole : take (length all - at) (drop at all) ≡ drop at all = rw (← length-drop at all) (take-length (drop at all)) in
    let front : moved ≡ take n (drop at all) = is ∙ ap (λ x. take n x) whole in
    (drop (at + n) all, refl, rw (old, front, ← drop-drop n at all) (sym (take-append-drop n (drop at all))))
