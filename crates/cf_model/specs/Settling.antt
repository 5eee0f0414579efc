-- The lines that follow a step: ends of waits, cancelled asks, new asks.
use Rattle.std.specs.Prelude.{ℕ, Bool, true, false, List, [], ◌∷◌, ◌++◌, map, Some, slice_range, ◌+◌, if◌then◌else◌}
use Rattle.cf_base.specs.declared.ids.ItemId.{ItemId}
use Rattle.cf_base.specs.declared.ids.Key.{Key}
use Rattle.cf_base.specs.declared.ids.WaitId.{WaitId}
use Rattle.cf_base.specs.declared.items.ListedItem.{ListedItem}
use Rattle.cf_base.specs.declared.notices.Notice.{Notice}
use Rattle.cf_base.specs.declared.notices.Notice.TheVariants as notice
use Rattle.cf_base.specs.declared.spans.Span.{Span}
use Rattle.cf_base.specs.declared.waits.Cause.{Cause}
use Rattle.cf_base.specs.declared.waits.Cause.TheVariants as cause
use Rattle.cf_base.specs.declared.waits.End.{End}
use Rattle.cf_base.specs.declared.waits.End.TheVariants as end
use Rattle.cf_base.specs.declared.waits.WaitKind.{WaitKind}
use Rattle.cf_base.specs.declared.waits.WaitKind.TheVariants as wait_kind
use Rattle.cf_model.specs.Arrows.{Arrow, each, noted, one, reading, then_do}
use Rattle.cf_model.specs.Asks.{step_of}
use Rattle.cf_model.specs.Requests.{Deed, Live, Told, Waiting}
use Rattle.cf_model.specs.Books.{with_access}
use Rattle.cf_model.specs.Items.{Item, bytes_held, item_of}
use Rattle.cf_model.specs.LookUp.{by_name, children}
use Rattle.cf_model.specs.Missing.{View, Wait, view_of}
use Rattle.cf_model.specs.Numbers.{same_key}
use Rattle.cf_model.specs.State.{Filter, Volume}
use Rattle.cf_model.specs.Words.{part, says}

-- what the rule sees of an item, and of one that is gone
abbrev pub no_view : View
no_view = record { absent = []; lacks = []; base = 0; whole = false; populated = false }

abbrev pub view_at : Filter → ItemId → View
view_at s item = part (view_of s.policy) no_view (item_of s.volume.items item)

-- the bytes of a span, cut at the size; where one is not here it counts as 0
abbrev pub bytes_in : Span → Item → List ℕ
bytes_in asked i = bytes_held (slice_range i.held asked.start (asked.start + asked.len))

abbrev pub bytes_at : List Item → ItemId → Span → List ℕ
bytes_at items item asked = part (bytes_in asked) [] (item_of items item)

abbrev pub listed : Item → ListedItem
listed i = record { name = i.name; dir = i.directory }

-- the entries of a directory, by name
abbrev pub entries_at : List Item → ItemId → List ListedItem
entries_at items item = map listed (by_name (children items item))

-- how a wait ends where nothing that it needs is missing any more
abbrev pub end_met : WaitKind → List Item → Wait → End
end_met wait_kind.Read items w = end.Data (bytes_at items w.item w.span)
end_met wait_kind.Hydrate items w = end.Hydrated
end_met wait_kind.Background items w = end.Full
end_met wait_kind.List items w = end.Listed (entries_at items w.item)
end_met wait_kind.Dehydrate items w = end.Emptied

abbrev pub end_of : List Item → Wait → Cause → End
end_of items w cause.Met = end_met w.kind items w
end_of items w cause.Emptied = end.Emptied
end_of items w (cause.Failed status) = end.Failed status
end_of items w cause.TimedOut = end.TimedOut
end_of items w cause.Cancelled = end.Cancelled
end_of items w cause.Closed = end.Closed
end_of items w cause.Down = end.Down
end_of items w (cause.Refused code) = end.Refused code

-- accesses

abbrev pub with_access_to : ItemId → Volume → Volume
with_access_to item v = record v { book = with_access item v.book }

abbrev pub accessed : ItemId → Filter → Filter
accessed item s = record s { volume = with_access_to item s.volume }

-- a read that ends with data is an access
abbrev pub is_access : WaitKind → Cause → Bool
is_access wait_kind.Read cause.Met = true
is_access _ _ = false

abbrev pub accessed_by : Wait → Cause → Filter → Filter
accessed_by w c s = if is_access w.kind c then accessed w.item s else s

-- the end's line, or, of the call's own wait, its result
abbrev pub tell_end : WaitId → End → Bool → Filter → Filter
tell_end id e true s = record s { ending = Some e }
tell_end id e false s = record s { notes = s.notes ++ notice.Done id e ∷ [] }

abbrev pub is_own : WaitId → Filter → Bool
is_own id s = says (λ own. same_key own.0 id.0) s.own

abbrev pub with_ended : Wait × Cause → Filter → Filter
with_ended e s = accessed_by e.0 e.1 (tell_end e.0.id (end_of s.volume.items e.0 e.1) (is_own e.0.id s) s)

-- each end is a step
abbrev pub end_wait : Wait × Cause → Arrow Filter (Unit {0})
end_wait e = one (with_ended e)

abbrev pub cancel_line : Key → Notice
cancel_line key = notice.Cancel key

abbrev pub ask_line : Live → Notice
ask_line a = notice.Ask a.ask

-- the lines of the asks that go and come; the callbacks of the new ones are still to be called
abbrev pub with_asks_told : Told → Filter → Filter
with_asks_told t s = record s { notes = s.notes ++ map cancel_line t.cancelled ++ map ask_line t.made; outbox = s.outbox ++ map (λ a. a.ask) t.made }

abbrev pub with_waiting : Waiting → Filter → Filter
with_waiting w s = record s { waiting = w }

-- what the rule tells, in its order
abbrev pub tell : Told × Waiting → Arrow Filter (Unit {0})
tell r = then_do (noted (with_waiting r.1)) (then_do (each end_wait r.0.ended) (noted (with_asks_told r.0)))

-- what follows a step on the item
abbrev pub told_at : ItemId → Deed → Filter → Told × Waiting
told_at item d s = step_of item (view_at s item) d s.waiting

abbrev pub settle : ItemId → Deed → Arrow Filter (Unit {0})
settle item d = reading (told_at item d) tell
