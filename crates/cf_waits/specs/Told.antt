-- What the calls tell of the waits and asks.
use Rattle.std.specs.Prelude.{ℕ, Bool, false, not, List, [], ◌∷◌, Option, Some, None, find, ◌&&◌, ◌==◌}
use Rattle.std.specs.List.{list_all, list_any}
use Rattle.cf_base.specs.declared.ids.ItemId.{ItemId}
use Rattle.cf_base.specs.declared.ids.Key.{Key}
use Rattle.cf_base.specs.declared.ids.WaitId.{WaitId}
use Rattle.cf_base.specs.declared.waits.AskKind.{AskKind}
use Rattle.cf_base.specs.declared.waits.AskKind.TheVariants as ask_kind
use Rattle.cf_model.specs.Missing.{Wait}
use Rattle.cf_model.specs.Numbers.{no_item, same_key}
use Rattle.cf_model.specs.Requests.{Live, Waiting, expired, has_block, is_hydrate_wait, is_list, is_list_wait, live_of, ticked}
use Rattle.cf_model.specs.Words.{part, says}

-- the live wait of a number
abbrev pub wait_of : List Wait → WaitId → Option Wait
wait_of waits id = find (λ w. same_key w.id.0 id.0) waits

-- the item of a live ask, and no item of a key that is not live
abbrev pub item_at : Key → Waiting → ItemId
item_at key s = part (λ a. a.ask.item) no_item (live_of s.asks key)

-- a wait on the item is live
abbrev pub is_busy : ItemId → Waiting → Bool
is_busy item s = list_any (λ w. w.item.0 == item.0) s.waits

-- the wait is one of the waits of a list or dehydrate ask; the latter has its own
abbrev pub is_wait_by : AskKind → WaitId → Wait → Bool
is_wait_by ask_kind.List own w = is_list_wait w.kind
is_wait_by ask_kind.Dehydrate own w = same_key w.id.0 own.0
is_wait_by _ own w = false

-- a wait on the item is live that is not one of that ask
abbrev pub is_busy_but : Option Live → ItemId → Waiting → Bool
is_busy_but None item s = is_busy item s
is_busy_but (Some a) item s = list_any (λ w. (w.item.0 == item.0) && not (is_wait_by a.ask.kind a.wait w)) s.waits

-- a hydrate wait on the item is live
abbrev pub is_hydrating : ItemId → Waiting → Bool
is_hydrating item s = list_any (λ w. (w.item.0 == item.0) && is_hydrate_wait w.kind) s.waits

-- the ask, if it is live, owns each of these blocks
abbrev pub owns_by : List ℕ → Option Live → Bool
owns_by blocks a = says (λ b. list_all (has_block b.owned) blocks) a

-- a list ask is live
abbrev pub is_listing : Waiting → Bool
is_listing s = list_any (λ a. is_list a.ask.kind) s.asks

abbrev pub first_key : List Live → Option Key
first_key [] = None
first_key (a ∷ as') = Some a.ask.key

-- the first key of the asks on which 60 ticks or more have passed once so many more have
abbrev pub next_expired : ℕ → Waiting → Option Key
next_expired n s = first_key (expired (ticked n s))
