-- One more answer is counted.
use Rattle.std.proofs.Common.{◌≡◌, ℕ, ◌+◌, Bool, true, false, List, [], ◌∷◌, ◌++◌, length, cond, refl, sym, ap, ◌∙◌, append_assoc}
use Rattle.std.specs.Prelude.{filter, count_by}
use Rattle.std.proofs.lemmas.List.{append-nil, length-append, map-append}
use Rattle.std.proofs.lemmas.List.Elements.{filter-append}
use Rattle.std.proofs.lemmas.List.Sums.{length-filter}
use Rattle.cf_base.specs.declared.answers.Answer.{Answer}
use Rattle.cf_base.specs.declared.answers.Shown.{Shown}
use Rattle.cf_gen.specs.declared.summaries.Counts.{Counts}
use Rattle.cf_gen.specs.Summaries.{counts_of, is_change, is_refusal, is_resumed, notices_of, results_of}

-- how often a test passes
passes : {X : Type 0} (p : X → Bool) (xs ys : List X) → length (filter p (xs ++ ys)) ≡ length (filter p xs) + length (filter p ys)
passes p xs ys = ap length (filter-append p xs ys) ∙ length-append (filter p xs) (filter p ys)

one : {X : Type 0} (p : X → Bool) (x : X) (b : Bool) → p x ≡ b → length (filter p (x ∷ [])) ≡ cond b 1 0
one p x true e = rw e refl
one p x false e = rw e refl

result_more : (p : Shown → Bool) (answers : List Answer) (a : Answer) → length (filter p (results_of (answers ++ a ∷ []))) ≡ length (filter p (results_of answers)) + cond (p a.shown) 1 0
result_more p answers a = ap (λ ss. length (filter p ss)) (map-append (λ x. x.shown) answers (a ∷ [])) ∙ passes p (results_of answers) (a.shown ∷ []) ∙ ap (λ n. length (filter p (results_of answers)) + n) (one p a.shown (p a.shown) refl)

notices_more : (answers : List Answer) (a : Answer) → notices_of (answers ++ a ∷ []) ≡ notices_of answers ++ a.notes
notices_more [] a = append-nil a.notes
notices_more (x ∷ xs) a = ap (λ ns. x.notes ++ ns) (notices_more xs a) ∙ sym (append_assoc x.notes (notices_of xs) a.notes)

change_more : (answers : List Answer) (a : Answer) → length (filter is_change (notices_of (answers ++ a ∷ []))) ≡ length (filter is_change (notices_of answers)) + count_by is_change a.notes
change_more answers a = ap (λ ns. length (filter is_change ns)) (notices_more answers a) ∙ passes is_change (notices_of answers) a.notes ∙ ap (λ n. length (filter is_change (notices_of answers)) + n) (length-filter is_change a.notes)

pub counted : (answers : List Answer) (a : Answer) (old : Counts) (events refused changes restarts : ℕ) → old ≡ counts_of answers
    → events ≡ old.events + 1 → refused ≡ old.refused + cond (is_refusal a.shown) 1 0 → changes ≡ old.changes + count_by is_change a.notes → restarts ≡ old.restarts + cond (is_resumed a.shown) 1 0
    → record { events = events; refused = refused; changes = changes; restarts = restarts } ≡ counts_of (answers ++ a ∷ [])
counted answers a old events refused changes restarts is e r c s =
    let e' = e ∙ ap (λ (x : Counts). x.events + 1) is ∙ sym (length-append answers (a ∷ [])) in
    let r' = r ∙ ap (λ (x : Counts). x.refused + cond (is_refusal a.shown) 1 0) is ∙ sym (result_more is_refusal answers a) in
    let c' = c ∙ ap (λ (x : Counts). x.changes + count_by is_change a.notes) is ∙ sym (change_more answers a) in
    let s' = s ∙ ap (λ (x : Counts). x.restarts + cond (is_resumed a.shown) 1 0) is ∙ sym (result_more is_resumed answers a) in
    rw (e', r', c', s') refl
