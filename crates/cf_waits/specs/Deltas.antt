-- What a step changes, of the asks that it leaves.
use Rattle.std.specs.Prelude.{List, Option, Some, None}
use Rattle.cf_ask_rule.specs.Plans.{Outlook, Planned}
use Rattle.cf_base.specs.declared.ids.ItemId.{ItemId}
use Rattle.cf_base.specs.declared.ids.Key.{Key}
use Rattle.cf_model.specs.Missing.{View}
use Rattle.cf_model.specs.Requests.{Deed, Fails, Finishes, Leaves, Live, live_of}

-- the ask that blocks have left, where it is kept
abbrev pub changed_of : Deed → List Live → Option Live
changed_of (Leaves key blocks) kept = live_of kept key
changed_of (Fails key blocks c) kept = live_of kept key
changed_of _ kept = None

abbrev pub unless_kept : Key → Option Live → Option Key
unless_kept key None = Some key
unless_kept key (Some a) = None

-- the key of an ask that is not kept, whether it is over or was not live
abbrev pub dropped_of : Deed → List Live → Option Key
dropped_of (Leaves key blocks) kept = unless_kept key (live_of kept key)
dropped_of (Fails key blocks c) kept = unless_kept key (live_of kept key)
dropped_of (Finishes key c) kept = Some key
dropped_of _ kept = None

abbrev pub delta_of : ItemId → View → Deed → Outlook → Planned
delta_of item v d o = record { ended = o.ended; cancelled = o.cancelled; dropped = dropped_of d o.kept; changed = changed_of d o.kept; made = o.made; item = item; view = v }
