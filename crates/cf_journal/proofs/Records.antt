-- Records, and the journal that they spell.
use Rattle.std.proofs.Common.{◌≡◌, ◌≢◌, ℕ, ◌+◌, ◌-◌, ◌^◌, ◌<◌, ◌≤◌, List, [], ◌∷◌, ◌++◌, length, get_or, refl, sym, ◌∙◌, ap, arith, append_assoc}
use Rattle.std.specs.Int.{w32, to_be_bytes}
use Rattle.std.proofs.lemmas.List.{append-nil, length-append}
use Rattle.cf_disk.specs.Disk.{part}
use Rattle.cf_disk.specs.Parts.{part-append}
use Rattle.cf_journal.specs.Format.{IsFront, Spells, size_of_records}
use Rattle.cf_journal.specs.Steps.{body}
use Rattle.cf_journal.specs.Halves.{part-one}

-- the front of one record
abbrev pub one_record : ℕ → List ℕ → List ℕ
one_record gate p = gate ∷ (to_be_bytes w32 (length p) ++ (p ++ []))

pub front_push : (ps : List (List ℕ)) (p front : List ℕ) (gate : ℕ) → gate ≢ 0 → length p < 2 ^ 32 → IsFront ps front → IsFront (ps ++ p ∷ []) (front ++ one_record gate p)
front_push [] p front gate is_open short is = (gate, [], is_open, short, ap (λ (l : List ℕ). l ++ one_record gate p) is, refl)
front_push (q ∷ ps) p front gate is_open short is = (
  is.0,
  is.1 ++ one_record gate p,
  is.2,
  is.3,
  ap (λ (l : List ℕ). l ++ one_record gate p) is.4 ∙ ap (λ (l : List ℕ). is.0 ∷ l) (append_assoc (to_be_bytes w32 (length q)) (q ++ is.1) (one_record gate p) ∙ ap (λ (l : List ℕ). to_be_bytes w32 (length q) ++ l) (append_assoc q is.1 (one_record gate p))),
  front_push ps p is.1 gate is_open short is.5,
)

pub length-front : (ps : List (List ℕ)) (front : List ℕ) → IsFront ps front → length front ≡ size_of_records ps
length-front [] front is = ap length is
length-front (p ∷ ps) front is = omega (arith, ap length is.4, length-append p is.1, length-front ps is.1 is.5)

pub size-push : (ps : List (List ℕ)) (p : List ℕ) → size_of_records (ps ++ p ∷ []) ≡ size_of_records ps + (5 + length p)
size-push [] p = omega arith
size-push (q ∷ ps) p = omega (arith, size-push ps p)

module _ (ps : List (List ℕ)) (front disk : List ℕ) (at e : ℕ) (is_front : IsFront ps front) (len : length front ≡ e) (room : at + 262144 ≤ length disk) (here : part at e disk ≡ front) where
  -- a closed gate behind the records
  pub spells_shut : e + 1 ≤ 262144 → get_or disk (at + e) 0 ≡ 0 → Spells ps (part at 262144 disk)
  spells_shut fits shut =
      let tail : List ℕ = part (at + e + 1) (262144 - (e + 1)) disk in
      let count : 262144 ≡ e + (1 + (262144 - (e + 1))) = omega arith in
      let gate : part (at + e) 1 disk ≡ 0 ∷ [] = part-one (at + e) disk (omega arith) ∙ ap (λ (x : ℕ). x ∷ []) shut in (
        front,
        tail,
        is_front,
        ap (λ (k : ℕ). part at k disk) count ∙ part-append at e (1 + (262144 - (e + 1))) disk ∙ (λ i. here i ++ (part-append (at + e) 1 (262144 - (e + 1)) disk ∙ (λ j. gate j ++ tail)) i),
      )

  -- a whole record behind an open gate, and then a closed one
  pub spells_open : (p : List ℕ) → length p < 2 ^ 32 → e + (6 + length p) ≤ 262144 → get_or disk (at + e) 0 ≢ 0 → part (at + e + 1) (5 + length p) disk ≡ body p → Spells (ps ++ p ∷ []) (part at 262144 disk)
  unfolding body
  spells_open p short fits is_open body_is =
      let r : ℕ = 262144 - (e + (6 + length p)) in
      let tail : List ℕ = part (at + e + 1 + (5 + length p)) r disk in
      let count : 262144 ≡ e + (1 + (5 + length p + r)) = omega arith in
      let gate : part (at + e) 1 disk ≡ get_or disk (at + e) 0 ∷ [] = part-one (at + e) disk (omega arith) in
      let behind : part (at + e + 1) (5 + length p + r) disk ≡ body p ++ tail = part-append (at + e + 1) (5 + length p) r disk ∙ ap (λ (l : List ℕ). l ++ tail) body_is in (
        front ++ one_record (get_or disk (at + e) 0) p,
        tail,
        front_push ps p front (get_or disk (at + e) 0) is_open short is_front,
        ap (λ (k : ℕ). part at k disk) count ∙ part-append at e (1 + (5 + length p + r)) disk
            ∙ (λ i. here i ++ (part-append (at + e) 1 (5 + length p + r) disk ∙ (λ j. gate j ++ behind j)) i)
            ∙ ap (λ (l : List ℕ). front ++ get_or disk (at + e) 0 ∷ l) (regroup (to_be_bytes w32 (length p)) p tail)
            ∙ sym (append_assoc front (one_record (get_or disk (at + e) 0) p) (0 ∷ tail)),
      )
    where
      regroup : (b q t : List ℕ) → (b ++ (q ++ 0 ∷ [])) ++ t ≡ (b ++ (q ++ [])) ++ 0 ∷ t
      regroup b q t = simp (append_assoc, append-nil) refl
