-- Live waits and asks, and what a step does to them.
use Rattle.std.specs.Prelude.{ℕ, Bool, true, false, not, List, [], ◌∷◌, ◌++◌, length, map, filter, find, Option, None, nat_le, nat_lt, count_by, ◌+◌, ◌&&◌, ◌||◌, ◌==◌}
use Rattle.std.specs.List.{list_any, list_all}
use Rattle.cf_base.specs.declared.ids.Handle.{Handle}
use Rattle.cf_base.specs.declared.ids.ItemId.{ItemId}
use Rattle.cf_base.specs.declared.ids.Key.{Key}
use Rattle.cf_base.specs.declared.ids.WaitId.{WaitId}
use Rattle.cf_base.specs.declared.limits.TheConstants.{MOST_ASKS, MOST_WAITS}
use Rattle.cf_base.specs.declared.spans.Span.{Span}
use Rattle.cf_base.specs.declared.waits.Ask.{Ask}
use Rattle.cf_base.specs.declared.waits.AskKind.{AskKind}
use Rattle.cf_base.specs.declared.waits.AskKind.TheVariants as ask_kind
use Rattle.cf_base.specs.declared.waits.Cause.{Cause}
use Rattle.cf_base.specs.declared.waits.WaitKind.{WaitKind}
use Rattle.cf_base.specs.declared.waits.WaitKind.TheVariants as wait_kind
use Rattle.cf_model.specs.Missing.{Wait, no_span}
use Rattle.cf_model.specs.Numbers.{key_after, passes_most, same_key}
use Rattle.cf_model.specs.Words.{says, when}

-- A live ask: the blocks that it owns, the ticks since it was made or last answered, and the wait of a dehydrate ask.
pub record Live : Type 0 where
  pub ask : Ask
  pub owned : List ℕ
  pub ticks : ℕ
  pub wait : WaitId

-- The live waits and asks in order, and how many numbers the epoch has given to each.
pub record Waiting : Type 0 where
  pub epoch : ℕ
  pub waits : List Wait
  pub asks : List Live
  pub wait_count : ℕ
  pub key_count : ℕ

abbrev pub none_waiting : ℕ → Waiting
none_waiting epoch = record { epoch = epoch; waits = []; asks = []; wait_count = 0; key_count = 0 }

-- What a step does of its own to the waits and asks of its item.
pub data Deed : Type 0 where
  -- nothing: the item was changed, or a wait began
  Nothing : Deed
  -- blocks leave the ask of the key; the time of that ask begins anew
  Leaves : (key : Key) (blocks : List ℕ) → Deed
  -- and so the waits that miss a byte in them end
  Fails : (key : Key) (blocks : List ℕ) (cause : Cause) → Deed
  -- one wait ends
  Cancels : (wait : WaitId) → Deed
  -- the waits of a handle end, and the background wait where it was the last handle
  Closes : (handle : Handle) (last : Bool) → Deed
  -- all data asks of the file are cancelled
  Restarts : Deed
  -- the ask of the key ends by time, and the waits that wait for it
  Expires : (key : Key) → Deed
  -- the list or dehydrate ask of the key is answered, and the waits that wait for it end so
  Finishes : (key : Key) (cause : Cause) → Deed

-- what a step tells: the waits that ended, the keys of the asks that were cancelled, and the asks that were made
pub record Told : Type 0 where
  pub ended : List (Wait × Cause)
  pub cancelled : List Key
  pub made : List Live

-- kinds

abbrev pub is_data : AskKind → Bool
is_data ask_kind.Fetch = true
is_data ask_kind.Validate = true
is_data ask_kind.List = false
is_data ask_kind.Dehydrate = false

abbrev pub is_fetch : AskKind → Bool
is_fetch ask_kind.Fetch = true
is_fetch _ = false

abbrev pub is_validate : AskKind → Bool
is_validate ask_kind.Validate = true
is_validate _ = false

abbrev pub is_list : AskKind → Bool
is_list ask_kind.List = true
is_list _ = false

abbrev pub is_dehydrate : AskKind → Bool
is_dehydrate ask_kind.Dehydrate = true
is_dehydrate _ = false

abbrev pub is_list_wait : WaitKind → Bool
is_list_wait wait_kind.List = true
is_list_wait _ = false

abbrev pub is_dehydrate_wait : WaitKind → Bool
is_dehydrate_wait wait_kind.Dehydrate = true
is_dehydrate_wait _ = false

abbrev pub is_hydrate_wait : WaitKind → Bool
is_hydrate_wait wait_kind.Hydrate = true
is_hydrate_wait _ = false

abbrev pub is_background : WaitKind → Bool
is_background wait_kind.Background = true
is_background _ = false

-- the live ask of a key
abbrev pub live_of : List Live → Key → Option Live
live_of asks key = find (λ a. same_key a.ask.key key) asks

abbrev pub has_block : List ℕ → ℕ → Bool
has_block blocks b = list_any (λ c. c == b) blocks

-- beginning a wait

abbrev pub wait_after : Waiting → ℕ → WaitKind → ItemId → Option Handle → Span → Wait
wait_after s n kind item handle span = record { id = record { 0 = key_after s.epoch (s.wait_count + n) }; kind = kind; item = item; handle = handle; span = span }

-- a background wait is begun beside it, where that is asked for and none is live on the file
abbrev pub also_background : Bool → ItemId → Waiting → Bool
also_background wanted item s = wanted && not (list_any (λ w. (w.item.0 == item.0) && is_background w.kind) s.waits)

abbrev pub background_beside : Bool → ItemId → Waiting → List Wait
background_beside wanted item s = when (also_background wanted item s) (wait_after s 1 wait_kind.Background item None no_span ∷ [])

-- with these waits, which have the next numbers
abbrev pub with_waits : List Wait → Waiting → Waiting
with_waits ws s = record s { waits = s.waits ++ ws; wait_count = s.wait_count + length ws }

-- limits on the state after a step; waits and asks of dehydrations do not count

abbrev pub too_many_waits : Waiting → Bool
too_many_waits s = nat_lt MOST_WAITS (count_by (λ w. not (is_dehydrate_wait w.kind)) s.waits)

abbrev pub too_many_asks : Waiting → Bool
too_many_asks s = nat_lt MOST_ASKS (count_by (λ a. not (is_dehydrate a.ask.kind)) s.asks)

abbrev pub no_numbers : Waiting → Bool
no_numbers s = passes_most s.key_count 0 || passes_most s.wait_count 0

-- time

abbrev pub aged : ℕ → Live → Live
aged n a = record a { ticks = a.ticks + n }

abbrev pub ticked : ℕ → Waiting → Waiting
ticked n s = record s { asks = map (aged n) s.asks }

-- the asks on which 60 ticks have passed, in order of key
abbrev pub expired : Waiting → List Live
expired s = filter (λ a. nat_le 60 a.ticks) s.asks

-- what is asked of them

abbrev pub is_busy_beside : ItemId → WaitId → Waiting → Bool
is_busy_beside item wait s = list_any (λ w. (w.item.0 == item.0) && not (same_key w.id.0 wait.0)) s.waits

-- the ask of the key owns each of these blocks; of none it says that the ask is live
abbrev pub owns : Key → List ℕ → Waiting → Bool
owns key blocks s = says (λ a. list_all (has_block a.owned) blocks) (live_of s.asks key)
