-- Files that may be dehydrated are those of the definitions.
use Rattle.std.proofs.Common.{◌≡◌, ℕ, zero, suc, ◌+◌, ◌<◌, ◌≤◌, Bool, true, false, not, cond, List, [], ◌∷◌, ◌++◌, length, map, drop, get_or, refl, sym, ◌∙◌, ap, subst, arith}
use Rattle.std.specs.Prelude.{◌&&◌, ◌||◌, ◌==◌, Option, Some, None, is_some, nat_le, nat_lt}
use Rattle.std.specs.List.{list_any}
use Rattle.std.proofs.Math.ListN.{drop_of_length-le}
use Rattle.std.proofs.lemmas.Bool.{eq-eqb, eqb-true}
use Rattle.std.proofs.lemmas.Bool.Decides.{nat_tests}
use Rattle.std.proofs.lemmas.List.{append_assoc}
use Rattle.cf_base.specs.declared.ids.ItemId.{ItemId}
use Rattle.cf_base.specs.declared.policies.Policy.{Policy}
use Rattle.cf_base.specs.declared.spans.Span.{Span}
use Rattle.cf_engine_space.specs.Candidates.{IsCandidate, IsCandidates, IsEligible, candidate_there, candidate_value, eligible_among, files_in}
use Rattle.cf_engine_space.specs.declared.candidates.Candidate as code
use Rattle.cf_engine_space.proofs.Fronts.{nothing_after}
use Rattle.cf_filter_steps.specs.Answering.{Any, Reads, Sense}
use Rattle.cf_filter_steps.specs.Readings.{last_access}
use Rattle.cf_item_rules.specs.declared.dehydration_facts.Verdict.TheVariants as verdicts
use Rattle.cf_model.specs.Blocks.{blocks_held}
use Rattle.cf_model.specs.Dehydration.{in_use, verdict_at}
use Rattle.cf_model.specs.Items.{Item, is_held, size_of}
use Rattle.cf_model.specs.Space.{Candidate}
use Rattle.cf_model.specs.State.{Filter}
use Rattle.cf_model.specs.Verdicts.{verdict}
use Rattle.cf_ranges.specs.Positions.{IsRuns, contains}
use Rattle.cf_table.specs.Means.{Means}
use Rattle.cf_table.specs.Tables.{MeansAll}
use Rattle.cf_table.specs.declared.rows.Row.{Row}

-- whether a byte is here

nothing_held : (held : List (Option ℕ)) → ((p : ℕ) → false ≡ is_held held p) → list_any is_some held ≡ false
nothing_held [] none = refl
nothing_held (h ∷ hs) none = (λ j. sym (none 0) j || list_any is_some hs) ∙ nothing_held hs (λ p. none (suc p))

something_held : (held : List (Option ℕ)) (p : ℕ) → is_held held p ≡ true → list_any is_some held ≡ true
something_held [] p e = let z : false ≡ true = e in absurd cc
something_held (h ∷ hs) zero e = λ j. e j || list_any is_some hs
something_held (h ∷ hs) (suc p) e = or_true (is_some h) (list_any is_some hs) (something_held hs p e)
  where
    or_true : (a b : Bool) → b ≡ true → (a || b) ≡ true
    or_true true b q = refl
    or_true false b q = q

first_here : (r : Span) (rest : Bool) → 0 < r.len → ((nat_le r.start r.start && nat_lt r.start (r.start + r.len)) || rest) ≡ true
first_here r true h = grind (arith, nat_tests)
first_here r false h = grind (arith, nat_tests)

pub no_runs : (here : List Span) (held : List (Option ℕ)) → ((p : ℕ) → contains here p ≡ is_held held p) → (length here == 0) ≡ true → list_any is_some held ≡ false
no_runs [] held same e = nothing_held held same
no_runs (r ∷ rs) held same e = let n : suc (length rs) ≡ 0 = eqb-true (suc (length rs)) 0 e in absurd (omega (arith, n))

pub some_runs : (here : List Span) (held : List (Option ℕ)) → IsRuns here → ((p : ℕ) → contains here p ≡ is_held held p) → (length here == 0) ≡ false → list_any is_some held ≡ true
some_runs [] held runs same e = let z : true ≡ false = sym (eq-eqb 0 0 refl) ∙ e in absurd cc
some_runs (r ∷ rs) held runs same e = something_held held r.start (sym (same r.start) ∙ first_here r (contains rs r.start) runs.1)

-- one file

module _ {X : Type 0} (S : Sense X) (x : X) (policy : Policy) (row : Row) where
  left_out : (s : Filter) (i : Item) → (candidate_there s i).eligible ≡ false → [] ≡ eligible_among s (i ∷ [])
  left_out s i e = sym (ap (λ (b : Bool). cond b (candidate_there s i ∷ []) []) e)

  pub none_here : (blocks : Option ℕ) → blocks ≡ None → ((i : Item) → Means row i → blocks ≡ cond (list_any is_some i.held) (Some (blocks_held i.held)) None) → IsCandidate S policy row x None
  none_here blocks none is = record { is = λ s i m p mi. left_out s i (by (list_any is_some i.held) (not (is_some (verdict_at i 0 (size_of i) s))) (blocks_held i.held) (sym none ∙ is i mi)) }
    where
      by : (a b : Bool) (n : ℕ) → None ≡ cond a (Some n) None → (a && b) ≡ false
      by true b n e = let z : ◌≡◌ {A = Option ℕ} None (Some n) = e in absurd cc
      by false b n e = refl

  pub some_here : (blocks : Option ℕ) (n : ℕ) (o : Option code.Candidate) → blocks ≡ Some n → ((i : Item) → Means row i → blocks ≡ cond (list_any is_some i.held) (Some (blocks_held i.held)) None) → IsEligible S policy row n x o → IsCandidate S policy row x o
  some_here blocks n o some is h = record { is = λ s i m p mi. let k = by (list_any is_some i.held) n (blocks_held i.held) (sym some ∙ is i mi) in h.is s i m p mi k.0 k.1 }
    where
      by : (a : Bool) (n k : ℕ) → ◌≡◌ {A = Option ℕ} (Some n) (cond a (Some k) None) → (a ≡ true) × (n ≡ k)
      by true n k e = (refl, (let z : ◌≡◌ {A = Option ℕ} (Some n) (Some k) = e in cc))
      by false n k e = let z : ◌≡◌ {A = Option ℕ} (Some n) None = e in absurd cc

  module _ (used may : Bool) (reads : Reads S Any (in_use row.id) x used) (judged : (i : Item) → Means row i → may ≡ not (is_some (verdict policy i 0 (size_of i) used))) (blocks : ℕ) where
    may_is : (s : Filter) (i : Item) → S.means x s → s.policy ≡ policy → Means row i → may ≡ not (is_some (verdict_at i 0 (size_of i) s))
    may_is s i m p mi =
        let u : used ≡ in_use i.id s = reads.is s m (record {}) ∙ ap (λ (k : ItemId). in_use k s) mi.id in
        judged i mi ∙ (λ j. not (is_some (verdict (sym p j) i 0 (size_of i) (u j))))

    eligible_is : (s : Filter) (i : Item) → S.means x s → s.policy ≡ policy → Means row i → list_any is_some i.held ≡ true → (candidate_there s i).eligible ≡ may
    eligible_is s i m p mi any = (λ j. any j && sym (may_is s i m p mi) j)

    pub stays : may ≡ false → IsEligible S policy row blocks x None
    stays denied = record { is = λ s i m p mi any n. left_out s i (eligible_is s i m p mi any ∙ denied) }

    pub leaves : (last : ℕ) → may ≡ true → Reads S Any (last_access row.id) x last → IsEligible S policy row blocks x (Some (record { item = row.id; last = last; blocks = blocks }))
    leaves last may_go access = record {
      is = λ s i m p mi any n.
          let e : (candidate_there s i).eligible ≡ true = eligible_is s i m p mi any ∙ may_go in
          let at : last ≡ last_access i.id s = access.is s m (record {}) ∙ ap (λ (k : ItemId). last_access k s) mi.id in
          (λ j. (record { item = mi.id j; last = at j; blocks = n j; eligible = sym e j }) ∷ [])
          ∙ sym (ap (λ (b : Bool). cond b (candidate_there s i ∷ []) []) e);
    }

-- all files

eligible_on : (s : Filter) (i : Item) (is : List Item) → eligible_among s (i ∷ is) ≡ eligible_among s (i ∷ []) ++ eligible_among s is
eligible_on s i is = by (candidate_there s i).eligible (candidate_there s i) (eligible_among s is)
  where
    by : (b : Bool) (c : Candidate) (cs : List Candidate) → cond b (c ∷ cs) cs ≡ cond b (c ∷ []) [] ++ cs
    by true c cs = refl
    by false c cs = refl

at_place : (rows : List Row) (items : List Item) (k : ℕ) (r : Row) → MeansAll rows items → k < length rows → r ≡ get_or rows k r → (i : Item) × Means r i × (drop k items ≡ i ∷ drop (k + 1) items)
at_place [] items k r m small is = absurd (omega (arith, small))
at_place (x ∷ xs) [] k r m small is = absurd m
at_place (x ∷ xs) (y ∷ ys) zero r m small is = (y, subst (λ (q : Row). Means q y) (sym is) m.0, refl)
at_place (x ∷ xs) (y ∷ ys) (suc k) r m small is =
    let h = at_place xs ys k r m.1 (omega (arith, small)) is in
    let e : suc (k + 1) ≡ suc k + 1 = omega arith in
    (h.0, h.1, h.2 ∙ ap (λ (n : ℕ). h.0 ∷ drop n (y ∷ ys)) e)

means_length : (rows : List Row) (items : List Item) → MeansAll rows items → length rows ≡ length items
means_length [] [] m = refl
means_length [] (y ∷ ys) m = absurd m
means_length (x ∷ xs) [] m = absurd m
means_length (x ∷ xs) (y ∷ ys) m = ap suc (means_length xs ys m.1)

values_append : (xs ys : List code.Candidate) → map candidate_value (xs ++ ys) ≡ map candidate_value xs ++ map candidate_value ys
values_append [] ys = refl
values_append (x ∷ xs) ys = λ j. candidate_value x ∷ values_append xs ys j

module _ {X : Type 0} (S : Sense X) (policy : Policy) (rows : List Row) (x : X) where
  -- those so far, and those of the rest, are all
  abbrev pub SoFar : ℕ → List code.Candidate → Type 0
  SoFar k files = (s : Filter) → S.means x s → s.policy ≡ policy → MeansAll rows s.volume.items → map candidate_value files ++ eligible_among s (drop k s.volume.items) ≡ eligible_among s s.volume.items

  pub one_file : (k : ℕ) (files more : List code.Candidate) (row : Row) (o : Option code.Candidate) → SoFar k files → k < length rows → row ≡ get_or rows k row → IsCandidate S policy row x o → more ≡ files ++ files_in o → SoFar (k + 1) more
  one_file k files more row o so_far small at file is s m p all =
      let i = at_place rows s.volume.items k row all small at in
      let rest : List Candidate = eligible_among s (drop (k + 1) s.volume.items) in
      ap (λ (fs : List code.Candidate). map candidate_value fs ++ rest) is
      ∙ ap (λ (cs : List Candidate). cs ++ rest) (values_append files (files_in o))
      ∙ append_assoc (map candidate_value files) (map candidate_value (files_in o)) rest
      ∙ ap (λ (cs : List Candidate). map candidate_value files ++ (cs ++ rest)) (file.is s i.0 m p i.1)
      ∙ ap (λ (cs : List Candidate). map candidate_value files ++ cs) (sym (eligible_on s i.0 (drop (k + 1) s.volume.items)))
      ∙ ap (λ (is : List Item). map candidate_value files ++ eligible_among s is) (sym i.2)
      ∙ so_far s m p all

  pub all_files : (k : ℕ) (files : List code.Candidate) → SoFar k files → length rows ≤ k → IsCandidates S policy rows x files
  all_files k files so_far le = record {
    are = λ s m p all.
        let past : length s.volume.items ≤ k = subst (λ (n : ℕ). n ≤ k) (means_length rows s.volume.items all) le in
        sym (nothing_after (map candidate_value files))
        ∙ ap (λ (is : List Item). map candidate_value files ++ eligible_among s is) (sym (drop_of_length-le s.volume.items past))
        ∙ so_far s m p all;
  }
