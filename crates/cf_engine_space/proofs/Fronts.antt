-- The files of a plan, chosen one after the other.
use Rattle.std.proofs.Common.{◌≡◌, ℕ, ◌+◌, ◌-◌, ◌≤◌, ◌<◌, Bool, true, false, cond, List, [], ◌∷◌, ◌++◌, length, map, drop, get_or, refl, sym, ◌∙◌, ap}
use Rattle.std.specs.Prelude.{nat_le, nat_lt}
use Rattle.std.proofs.Math.ListN.{drop_of_length-le}
use Rattle.std.proofs.lemmas.Bool.{le-leb, lt-leb}
use Rattle.std.proofs.lemmas.List.{append_assoc}
use Rattle.cf_base.specs.declared.ids.ItemId.{ItemId}
use Rattle.cf_engine_space.specs.Candidates.{candidate_value}
use Rattle.cf_engine_space.specs.declared.candidates.Candidate as code
use Rattle.std.proofs.lemmas.List.{drop_more}
use Rattle.cf_model.specs.Space.{Candidate, front}
use Rattle.cf_model.specs.Words.{put_in, sorted}

one_more : (used budget : ℕ) (c : Candidate) (cs : List Candidate) (b : Bool) → nat_le used budget ≡ b → front used budget (c ∷ cs) ≡ cond b [] (c.item ∷ front (used - c.blocks) budget cs)
one_more used budget c cs true e = λ j. elim (e j) as (λ _. List ItemId) [ true ↦ [] | false ↦ c.item ∷ front (used - c.blocks) budget cs ]
one_more used budget c cs false e = λ j. elim (e j) as (λ _. List ItemId) [ true ↦ [] | false ↦ c.item ∷ front (used - c.blocks) budget cs ]

none_more : (used budget : ℕ) (cs : List Candidate) → used ≤ budget → front used budget cs ≡ []
none_more used budget [] h = refl
none_more used budget (c ∷ cs) h = one_more used budget c cs true (le-leb used budget h)

-- the chosen ones, and those of the rest, are all
abbrev pub Chosen : List code.Candidate → ℕ → ℕ → ℕ → ℕ → List ItemId → Type 0
Chosen cs used budget left i chosen = chosen ++ front left budget (map candidate_value (drop i cs)) ≡ front used budget (map candidate_value cs)

pub nothing_after : {A : Type 0} (xs : List A) → xs ++ [] ≡ xs
nothing_after [] = refl
nothing_after (x ∷ xs) = λ j. x ∷ nothing_after xs j

module _ (cs : List code.Candidate) (used budget left i : ℕ) (chosen : List ItemId) (so_far : Chosen cs used budget left i chosen) where
  pub enough : left ≤ budget → chosen ≡ front used budget (map candidate_value cs)
  enough le = sym (nothing_after chosen) ∙ ap (λ (xs : List ItemId). chosen ++ xs) (sym (none_more left budget (map candidate_value (drop i cs)) le)) ∙ so_far

  pub all : length cs ≤ i → chosen ≡ front used budget (map candidate_value cs)
  all le = sym (nothing_after chosen) ∙ ap (λ (xs : List code.Candidate). chosen ++ front left budget (map candidate_value xs)) (sym (drop_of_length-le cs le)) ∙ so_far

  pub chosen_more : (d : code.Candidate) (more : List ItemId) (rest : ℕ) → i < length cs → budget < left → more ≡ chosen ++ (get_or cs i d).item ∷ [] → rest ≡ left - (get_or cs i d).blocks → Chosen cs used budget rest (i + 1) more
  chosen_more d more rest small lt is less =
      let c : code.Candidate = get_or cs i d in
      (λ j. is j ++ front (less j) budget (map candidate_value (drop (i + 1) cs)))
      ∙ append_assoc chosen (c.item ∷ []) (front (left - c.blocks) budget (map candidate_value (drop (i + 1) cs)))
      ∙ ap (λ (xs : List ItemId). chosen ++ xs) (sym (one_more left budget (candidate_value c) (map candidate_value (drop (i + 1) cs)) false (lt-leb left budget lt)))
      ∙ ap (λ (xs : List code.Candidate). chosen ++ front left budget (map candidate_value xs)) (sym (drop_more cs i d small))
      ∙ so_far

-- candidates in the order of the code are those of the definitions in their order

cond_map : {A B : Type 0} (f : A → B) (b : Bool) (xs ys : List A) → cond b (map f xs) (map f ys) ≡ map f (cond b xs ys)
cond_map f true xs ys = refl
cond_map f false xs ys = refl

abbrev older : Candidate → Candidate → Bool
older c d = nat_lt c.last d.last

abbrev pub older_code : code.Candidate → code.Candidate → Bool
older_code c d = nat_lt c.last d.last

put_map : (x : code.Candidate) (ys : List code.Candidate) → put_in older (candidate_value x) (map candidate_value ys) ≡ map candidate_value (put_in older_code x ys)
put_map x [] = refl
put_map x (y ∷ ys) =
    (λ j. cond (older_code y x) (candidate_value y ∷ put_map x ys j) (candidate_value x ∷ candidate_value y ∷ map candidate_value ys))
    ∙ cond_map candidate_value (older_code y x) (y ∷ put_in older_code x ys) (x ∷ y ∷ ys)

pub sorted_values : (cs : List code.Candidate) → map candidate_value (sorted older_code cs) ≡ sorted older (map candidate_value cs)
sorted_values [] = refl
sorted_values (c ∷ cs) = sym (ap (put_in older (candidate_value c)) (sym (sorted_values cs)) ∙ put_map c (sorted older_code cs))
