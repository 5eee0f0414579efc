-- Texts that clash are not fronts of one report.
use Rattle.std.proofs.Common.{◌≡◌, ℕ, Bool, true, false, List, [], ◌∷◌, ◌++◌, cond, ◌==◌, refl, sym, ◌∙◌, ap, subst, append_assoc}
use Rattle.std.specs.List.{flat_map}
use Rattle.std.proofs.lemmas.Bool.{eq-eqb}
use Rattle.std.proofs.lemmas.Grind.{flat_map-append}
use Rattle.cf_base.specs.declared.notices.Notice.{Notice}
use Rattle.cf_base.specs.declared.notices.Notice.TheVariants as notice
use Rattle.cf_base.specs.declared.notices.Sent.{Sent}
use Rattle.cf_report.specs.Texts.{notice_line}
use Rattle.cf_check_text.specs.Fronts.{Meet, clash}

-- what stands before both goes
pub cancel : (front xs ys : List ℕ) → front ++ xs ≡ front ++ ys → xs ≡ ys
cancel [] xs ys e = e
cancel (b ∷ bs) xs ys e = cancel bs xs ys (tail_of b (bs ++ xs) (bs ++ ys) e)
  where
    tail_of : (b : ℕ) (xs ys : List ℕ) → b ∷ xs ≡ b ∷ ys → xs ≡ ys
    tail_of b xs ys e = cc

never_other : (n : ℕ) → (n == n) ≡ false → ⊥
never_other n z = let same : (n == n) ≡ true = eq-eqb n n refl in let bad : true ≡ false = sym same ∙ z in absurd cc

clash_by : (x y : ℕ) (b : Bool) {rest : Bool} → (x == y) ≡ b → x ≡ y → (rest ≡ true → ⊥) → cond b rest true ≡ true → ⊥
clash_by x y true is same apart c = apart c
clash_by x y false is same apart c = never_other x (ap (λ (n : ℕ). x == n) same ∙ is)

clash_apart : (xs ys r q : List ℕ) → clash xs ys ≡ true → xs ++ r ≡ ys ++ q → ⊥
clash_apart [] ys r q c e = let z : false ≡ true = c in cc
clash_apart (x ∷ xs) [] r q c e = let z : false ≡ true = c in cc
clash_apart (x ∷ xs) (y ∷ ys) r q c e = clash_by x y (x == y) refl heads (λ d. clash_apart xs ys r q d tails) c
  where
    heads : x ≡ y
    heads = let z : x ∷ (xs ++ r) ≡ y ∷ (ys ++ q) = e in cc

    tails : xs ++ r ≡ ys ++ q
    tails = let z : x ∷ (xs ++ r) ≡ y ∷ (ys ++ q) = e in cc

pub clash_no_meet : (xs ys : List ℕ) → clash xs ys ≡ true → Meet xs ys → ⊥
clash_no_meet xs ys c m = clash_apart xs ys m.1.0 m.2.0 c (sym m.1.1 ∙ m.2.1)

-- what both begin with goes
pub meet_after : (front xs ys : List ℕ) → Meet (front ++ xs) (front ++ ys) → Meet xs ys
meet_after front xs ys m = (
  xs ++ m.1.0,
  (m.1.0, refl),
  (m.2.0, cancel front (xs ++ m.1.0) (ys ++ m.2.0) (sym (append_assoc front xs m.1.0) ∙ sym m.1.1 ∙ m.2.1 ∙ append_assoc front ys m.2.0)),
)

-- fronts of what meets meet
pub meet_less : (xs ys more others : List ℕ) → Meet (xs ++ more) (ys ++ others) → Meet xs ys
meet_less xs ys more others m = (m.0, (more ++ m.1.0, m.1.1 ∙ append_assoc xs more m.1.0), (others ++ m.2.0, m.2.1 ∙ append_assoc ys others m.2.0))

-- a line of a fault is not one of a message
pub fault_or_message : (m : ℕ) (s : Sent) → clash (notice_line (notice.Fault m)) (notice_line (notice.Message s)) ≡ true
fault_or_message m s = by s.lost
  where
    by : (lost : Bool) → clash (notice_line (notice.Fault m)) (notice_line (notice.Message (record s { lost = lost }))) ≡ true
    by true = refl
    by false = refl

lines_split : (before : List Notice) (n : Notice) (after : List Notice) → flat_map notice_line (before ++ n ∷ after) ≡ flat_map notice_line before ++ (notice_line n ++ flat_map notice_line after)
lines_split before n after = flat_map-append notice_line before (n ∷ after)

-- texts of which the one has a fault where the other has a message do not meet
pub parted_no_meet : (before : List Notice) (m : ℕ) (s : Sent) (after others : List Notice) (x y : List ℕ)
    → Meet (flat_map notice_line (before ++ notice.Fault m ∷ after) ++ x) (flat_map notice_line (before ++ notice.Message s ∷ others) ++ y) → ⊥
parted_no_meet before m s after others x y meet =
    clash_no_meet (notice_line (notice.Fault m)) (notice_line (notice.Message s)) (fault_or_message m s)
    (meet_less (notice_line (notice.Fault m)) (notice_line (notice.Message s)) (flat_map notice_line after) (flat_map notice_line others)
    (meet_after (flat_map notice_line before) (notice_line (notice.Fault m) ++ flat_map notice_line after) (notice_line (notice.Message s) ++ flat_map notice_line others)
    (subst (λ (z : List ℕ). Meet z (flat_map notice_line before ++ (notice_line (notice.Message s) ++ flat_map notice_line others))) (lines_split before (notice.Fault m) after)
    (subst (λ (z : List ℕ). Meet (flat_map notice_line (before ++ notice.Fault m ∷ after)) z) (lines_split before (notice.Message s) others)
    (meet_less (flat_map notice_line (before ++ notice.Fault m ∷ after)) (flat_map notice_line (before ++ notice.Message s ∷ others)) x y meet)))))
