-- The order in which the entries of a feed come.
use Rattle.std.specs.Prelude.{ℕ, not, cond, List, [], ◌∷◌, ◌++◌, length, get_or, map, filter, nat_lt, slice_get, Option, None, ◌+◌, ◌-◌, ◌<◌, ◌≡◌}
use Rattle.cf_base.specs.declared.ids.ItemId.{ItemId}
use Rattle.cf_base.specs.declared.messages.Entry.{Entry}
use Rattle.cf_model.specs.Feeds.{depth_of_entry}
use Rattle.cf_model.specs.Identities.{by_target}
use Rattle.cf_model.specs.Items.{Item}
use Rattle.cf_model.specs.Words.{part, sorted}
use Rattle.cf_engine_feed_plan.specs.Premises.{id_of}
use Rattle.cf_engine_feed_plan.specs.declared.orders.Dead.{Dead}

-- the entries with their places, from a place on
abbrev pub placed : ℕ → List Entry → List (ℕ × Entry)
placed at [] = []
placed at (e ∷ es) = (at, e) ∷ placed (at + 1) es

-- dead entries, the deepest local item first, and then live ones in the order given
abbrev pub in_turn : List Item → List (ℕ × Entry) → List (ℕ × Entry)
in_turn items ps = sorted (λ p q. nat_lt (depth_of_entry items q.1) (depth_of_entry items p.1)) (filter (λ p. not p.1.live) ps) ++ filter (λ p. p.1.live) ps

-- their places
abbrev pub places : List Item → List Entry → List ℕ
places items es = map (λ p. p.0) (in_turn items (placed 0 es))

-- the local items that the entries' are, each by its id
abbrev pub AreKnown : List Item → List Entry → List (Option ItemId) → Type 0
AreKnown items es known = (k : ℕ) (d : Entry) → k < length es → part (λ o. o) None (slice_get known k) ≡ id_of (by_target items (get_or es k d).rid)

-- what the code does on the way: the dead entries by rank, and the places of the live ones

abbrev pub dead_of : List Item → ℕ → Entry → List Dead
dead_of items at e = cond e.live [] (record { rank = 32 - depth_of_entry items e; place = at } ∷ [])

abbrev pub dead_from : List Item → ℕ → List Entry → List Dead
dead_from items at [] = []
dead_from items at (e ∷ es) = dead_of items at e ++ dead_from items (at + 1) es

abbrev pub live_of : ℕ → Entry → List ℕ
live_of at e = cond e.live (at ∷ []) []

abbrev pub live_from : ℕ → List Entry → List ℕ
live_from at [] = []
live_from at (e ∷ es) = live_of at e ++ live_from (at + 1) es
