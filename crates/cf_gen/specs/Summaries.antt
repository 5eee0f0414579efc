-- The summary of a run.
use Rattle.std.specs.Prelude.{ℕ, Bool, true, false, List, [], ◌∷◌, ◌++◌, codes, filter, length, map}
use Rattle.std.specs.Fmt.{decimal}
use Rattle.cf_base.specs.declared.answers.Answer.{Answer}
use Rattle.cf_base.specs.declared.answers.Shown.{Shown}
use Rattle.cf_base.specs.declared.answers.Shown.TheVariants as shown
use Rattle.cf_base.specs.declared.events.Event.{Event}
use Rattle.cf_base.specs.declared.notices.Notice.{Notice}
use Rattle.cf_base.specs.declared.notices.Notice.TheVariants as notice
use Rattle.cf_gen.specs.declared.summaries.Counts.{Counts}

abbrev pub is_refusal : Shown → Bool
is_refusal (shown.Refused code) = true
is_refusal s = false

abbrev pub is_resumed : Shown → Bool
is_resumed (shown.Resumed count opened) = true
is_resumed s = false

abbrev pub is_change : Notice → Bool
is_change (notice.Change number change) = true
is_change n = false

-- all that the answers tell of, in order
abbrev pub notices_of : List Answer → List Notice
notices_of [] = []
notices_of (a ∷ answers) = a.notes ++ notices_of answers

abbrev pub results_of : List Answer → List Shown
results_of answers = map (λ a. a.shown) answers

-- how many answers there are, and how many refusals, changes and restarts among them
abbrev pub counts_of : List Answer → Counts
counts_of answers = record {
  events = length answers;
  refused = length (filter is_refusal (results_of answers));
  changes = length (filter is_change (notices_of answers));
  restarts = length (filter is_resumed (results_of answers));
}

-- a label and a number
abbrev pub numbered : List ℕ → ℕ → List ℕ
numbered label n = label ++ 32 ∷ decimal n ++ 10 ∷ []

abbrev pub summary_of : Counts → ℕ → List ℕ
summary_of counts blocks = numbered (codes "events") counts.events ++ numbered (codes "refused") counts.refused ++ numbered (codes "changes") counts.changes ++ numbered (codes "restarts") counts.restarts ++ numbered (codes "blocks") blocks

-- what is written of the events and their answers, and of the blocks that are used in the end
abbrev pub summary : List (Event × Answer) → ℕ → List ℕ
summary trace blocks = summary_of (counts_of (map (λ p. p.1) trace)) blocks
