-- Files that may be dehydrated, as the code keeps them.
use Rattle.std.specs.Prelude.{◌≡◌, ◌&&◌, ◌∷◌, ℕ, true, not, List, [], Option, Some, None, filter, is_some, map, nat_lt}
use Rattle.std.specs.List.{list_any}
use Rattle.cf_base.specs.declared.ids.ItemId.{ItemId}
use Rattle.cf_base.specs.declared.policies.Policy.{Policy}
use Rattle.cf_engine_space.specs.declared.candidates.Candidate as code
use Rattle.cf_filter_steps.specs.Answering.{Sense}
use Rattle.cf_model.specs.Blocks.{blocks_held, blocks_used}
use Rattle.cf_model.specs.Books.{access_of}
use Rattle.cf_model.specs.Dehydration.{verdict_at}
use Rattle.cf_model.specs.Items.{Item, size_of}
use Rattle.cf_model.specs.Space.{Candidate, front}
use Rattle.cf_model.specs.State.{Filter}
use Rattle.cf_model.specs.Words.{sorted}
use Rattle.cf_table.specs.Means.{Means}
use Rattle.cf_table.specs.Tables.{MeansAll}
use Rattle.cf_table.specs.declared.rows.Row.{Row}

abbrev pub candidate_value : code.Candidate → Candidate
candidate_value c = record { item = c.item; last = c.last; blocks = c.blocks; eligible = true }

-- what a plan knows of an item, and all that may be dehydrated, in order of item
abbrev pub candidate_there : Filter → Item → Candidate
candidate_there s i = record { item = i.id; last = access_of s.volume.book i.id; blocks = blocks_held i.held; eligible = list_any is_some i.held && not (is_some (verdict_at i 0 (size_of i) s)) }

abbrev pub eligible_among : Filter → List Item → List Candidate
eligible_among s items = filter (λ c. c.eligible) (map (candidate_there s) items)

abbrev pub files_in : Option code.Candidate → List code.Candidate
files_in None = []
files_in (Some c) = c ∷ []

-- it is the file of the row, where that may be dehydrated, in each state with the policy
pub record IsCandidate {X : Type 0} (S : Sense X) (policy : Policy) (row : Row) (x : X) (o : Option code.Candidate) : Type 0 where
  pub is : (s : Filter) (i : Item) → S.means x s → s.policy ≡ policy → Means row i → map candidate_value (files_in o) ≡ eligible_among s (i ∷ [])

-- the same of an item that has a byte here, in so many blocks
pub record IsEligible {X : Type 0} (S : Sense X) (policy : Policy) (row : Row) (blocks : ℕ) (x : X) (o : Option code.Candidate) : Type 0 where
  pub is : (s : Filter) (i : Item) → S.means x s → s.policy ≡ policy → Means row i → list_any is_some i.held ≡ true → blocks ≡ blocks_held i.held → map candidate_value (files_in o) ≡ eligible_among s (i ∷ [])

-- they are those of the rows
pub record IsCandidates {X : Type 0} (S : Sense X) (policy : Policy) (rows : List Row) (x : X) (cs : List code.Candidate) : Type 0 where
  pub are : (s : Filter) → S.means x s → s.policy ≡ policy → MeansAll rows s.volume.items → map candidate_value cs ≡ eligible_among s s.volume.items

-- the files to dehydrate
abbrev pub plan_there : ℕ → Filter → List ItemId
plan_there budget s = front (blocks_used s.volume.items) budget (sorted (λ c d. nat_lt c.last d.last) (eligible_among s s.volume.items))
