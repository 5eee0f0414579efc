-- Room is made: files are dehydrated, those whose last access is longest ago first.
use Rattle.std.specs.Prelude.{ℕ, Bool, true, false, not, List, [], length, map, filter, Option, Some, None, is_some, nat_le, nat_lt, ◌-◌, ◌&&◌, ◌||◌, ◌∷◌}
use Rattle.std.specs.List.{list_any}
use Rattle.cf_base.specs.declared.answers.Shown.{Shown}
use Rattle.cf_base.specs.declared.answers.Shown.TheVariants as shown
use Rattle.cf_base.specs.declared.codes.Code.{Code}
use Rattle.cf_base.specs.declared.codes.Code.TheVariants as code
use Rattle.cf_base.specs.declared.ids.ItemId.{ItemId}
use Rattle.cf_model.specs.Arrows.{Arrow, each, ret, seq, then_do, unit, unless}
use Rattle.cf_model.specs.Blocks.{blocks_held, blocks_used}
use Rattle.cf_model.specs.Books.{access_of}
use Rattle.cf_model.specs.Callbacks.{calling}
use Rattle.cf_model.specs.Dehydration.{dehydrate_range, verdict_at}
use Rattle.cf_model.specs.Fetching.{nothing_more}
use Rattle.cf_model.specs.Items.{Item, item_of, size_of}
use Rattle.cf_model.specs.Numbers.{passes_most}
use Rattle.cf_model.specs.State.{Filter, State, book_now, items_now}
use Rattle.cf_model.specs.Words.{first_of, sorted}

-- a file as the plan sees it: the clock of its last access, the blocks that hold a byte, and whether it may be dehydrated
pub record Candidate : Type 0 where
  pub item : ItemId
  pub last : ℕ
  pub blocks : ℕ
  pub eligible : Bool

-- it has a byte here, and the verdict for the whole file allows it
abbrev pub is_eligible : State → Item → Bool
is_eligible s i = list_any is_some i.held && not (is_some (verdict_at i 0 (size_of i) s.filter))

abbrev pub candidate_of : State → Item → Candidate
candidate_of s i = record { item = i.id; last = access_of (book_now s) i.id; blocks = blocks_held i.held; eligible = is_eligible s i }

-- the eligible ones by last access, then by item
abbrev pub in_order : List Candidate → List Candidate
in_order cs = sorted (λ c d. nat_lt c.last d.last) (filter (λ c. c.eligible) cs)

-- the shortest front after which the used blocks are at most the budget; all where there is none
abbrev pub front : ℕ → ℕ → List Candidate → List ItemId
front used budget [] = []
front used budget (c ∷ cs) = elim (nat_le used budget) as (λ _. List ItemId) [ true ↦ [] | false ↦ c.item ∷ front (used - c.blocks) budget cs ]

-- the files to dehydrate, of candidates in order of item
abbrev pub plan : List Candidate → ℕ → ℕ → List ItemId
plan cs used budget = front used budget (in_order cs)

abbrev pub plan_now : ℕ → State → List ItemId
plan_now budget s = plan (map (candidate_of s) (items_now s)) (blocks_used (items_now s)) budget

-- each file needs a place; with a provider also an ask key and a wait number
abbrev pub no_numbers : ℕ → Filter → Bool
no_numbers n s =
    passes_most s.volume.place n || (s.connected && (passes_most s.waiting.key_count n || passes_most s.waiting.wait_count n))

abbrev pub why_no_space : ℕ → State → Option Code
why_no_space budget s = first_of ((not s.filter.policy.auto, code.PolicyDenied) ∷ (no_numbers (length (plan_now budget s)) s.filter, code.Exhausted) ∷ [])

abbrev pub dehydrate_now : Option Item → Arrow State (Unit {0})
dehydrate_now None = ret unit
dehydrate_now (Some i) = seq (calling (dehydrate_range None i)) nothing_more

abbrev pub dehydrate_whole : ItemId → Arrow State (Unit {0})
dehydrate_whole item s = dehydrate_now (item_of (items_now s) item) s

-- by how many blocks `df` fell
abbrev pub show_freed : ℕ → Arrow State Shown
show_freed before s = ret (shown.Freed (before - blocks_used (items_now s))) s

abbrev pub free_all : ℕ → List ItemId → Arrow State Shown
free_all before items = then_do (each dehydrate_whole items) (show_freed before)

abbrev pub free : ℕ → Arrow State Shown
free budget s = free_all (blocks_used (items_now s)) (plan_now budget s) s

-- files are dehydrated until at most that many blocks are used, or none is left that may be
abbrev pub space : ℕ → Arrow State Shown
space budget s = unless shown.Refused (why_no_space budget s) (free budget) s
