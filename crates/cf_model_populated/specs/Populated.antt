-- Directories that are populated, and what the trace tells of them.
use Rattle.std.specs.Prelude.{true, false, ◌≡◌, ◌≤◌}
use Rattle.cf_model.specs.Items.{Item}
use Rattle.cf_model.specs.Identities.{has_target}
use Rattle.cf_model.specs.Requests.{is_dehydrate_wait, is_list}
use Rattle.cf_model.specs.State.{State, book_now, items_now}
use Rattle.cf_model_laws.specs.Invariant.{All, Among}
use Rattle.cf_model_convergence.specs.Hearing.{is_asked_for}
use Rattle.cf_model_convergence.specs.Lasting.{Fact}
use Rattle.cf_model_convergence.specs.Tidy.{IsLower}
use Rattle.cf_model_convergence.specs.Trees.{NoneLists}

abbrev pub IsPopulated : Item → Type 0
IsPopulated i = i.directory ≡ true → i.populated ≡ true

-- each directory is populated
abbrev pub ArePopulated : Fact
ArePopulated r items b = All IsPopulated items

-- no list call waits, and no list ask is live
abbrev pub AreUnlisted : State → Type 0
AreUnlisted s = NoneLists s × All (λ a. is_list a.ask.kind ≡ false) s.filter.waiting.asks

-- a live ask is for each dehydration that waits
abbrev pub AreDehydratesAsked : State → Type 0
AreDehydratesAsked s = All (λ w. is_dehydrate_wait w.kind ≡ true → is_asked_for s.filter.waiting.asks w ≡ true) s.filter.waiting.waits

-- each live item of the remote that the cursor has passed is an item here
abbrev pub ArePassedHere : State → Type 0
ArePassedHere s = All (λ r. IsLower r → r.live ≡ true → r.changed ≤ (book_now s).cursor → (i : Item) × Among i (items_now s) × (has_target i r.rid ≡ true)) s.link.remote.items
