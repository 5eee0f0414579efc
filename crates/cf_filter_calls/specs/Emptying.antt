-- Dehydration: what is allowed, and what a file holds from a place on.
use Rattle.std.specs.Prelude.{◌≡◌, ◌+◌, Bool, true, ℕ, Option, None, is_some, slice_range}
use Rattle.std.specs.List.{list_any}
use Rattle.cf_base.specs.declared.answers.Shown.{Shown}
use Rattle.cf_base.specs.declared.codes.Code.{Code}
use Rattle.cf_base.specs.declared.ids.ItemId.{ItemId}
use Rattle.cf_model.specs.Arrows.{Arrow, reading}
use Rattle.cf_model.specs.Dehydration.{is_connected, with_provider}
use Rattle.cf_model.specs.Items.{Item, item_of, size_of}
use Rattle.cf_model.specs.State.{Filter}
use Rattle.cf_model.specs.Verdicts.{verdict}
use Rattle.cf_model.specs.Words.{part}
use Rattle.cf_filter_steps.specs.Answering.{IsAt}

-- the verdict, where that is what uses the file
abbrev pub verdict_used : ℕ → ℕ → Bool → Item → Filter → Option Code
verdict_used start len used i s = verdict s.policy i start len used

-- none of an item that is gone
abbrev pub verdict_there : ItemId → ℕ → ℕ → Bool → Filter → Option Code
verdict_there id start len used s = part (λ i. verdict s.policy i start len used) None (item_of s.volume.items id)

-- a span of a file in sync, up to its end
pub record MayEmpty (id : ItemId) (start len : ℕ) (i : Item) (s : Filter) : Type 0 where
  pub there : IsAt id i s
  pub synced : i.in_sync ≡ true
  pub end : start + len ≡ size_of i

-- a byte from the place on is here
abbrev pub holds_from : ℕ → Item → Bool
holds_from start i = list_any is_some (slice_range i.held start (size_of i))

-- where bytes are here, the provider is asked, if it is there
abbrev pub held_emptied : Item → ℕ → ℕ → Arrow Filter Shown
held_emptied i start len = reading is_connected (with_provider i start len)
