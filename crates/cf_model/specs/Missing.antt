-- What a wait needs of its item, and what of it is missing.
use Rattle.std.specs.Prelude.{ℕ, Bool, true, false, not, List, [], ◌∷◌, length, map, Option, is_some, max, min, slice_range, ◌+◌, ◌*◌, ◌||◌}
use Rattle.std.specs.List.{list_any}
use Rattle.cf_base.specs.declared.ids.Handle.{Handle}
use Rattle.cf_base.specs.declared.ids.ItemId.{ItemId}
use Rattle.cf_base.specs.declared.ids.WaitId.{WaitId}
use Rattle.cf_base.specs.declared.policies.Hydration.{Hydration}
use Rattle.cf_base.specs.declared.policies.Hydration.TheVariants as hydration
use Rattle.cf_base.specs.declared.policies.Policy.{Policy}
use Rattle.cf_base.specs.declared.spans.Span.{Span}
use Rattle.cf_base.specs.declared.waits.WaitKind.{WaitKind}
use Rattle.cf_base.specs.declared.waits.WaitKind.TheVariants as wait_kind
use Rattle.cf_model.specs.Items.{Item, base_of, modified_flags}

-- A call that waits. The span is what a read was asked for, or what is to be dehydrated; of other kinds it is empty.
pub record Wait : Type 0 where
  pub id : WaitId
  pub kind : WaitKind
  pub item : ItemId
  pub handle : Option Handle
  pub span : Span

-- What waits and asks look at in an item. Absent tells of each position below the size whether it is not here, lacks
-- whether it is missing where it is needed.
pub record View : Type 0 where
  pub absent : List Bool
  pub lacks : List Bool
  pub base : ℕ
  -- each read needs the whole file
  pub whole : Bool
  pub populated : Bool

-- of each position, whether one of the two lists says so
abbrev pub either_flag : List Bool → List Bool → List Bool
either_flag [] bs = bs
either_flag (a ∷ as') [] = a ∷ as'
either_flag (a ∷ as') (b ∷ bs) = (a || b) ∷ either_flag as' bs

-- of each position, whether it is not here, or is not vouched for
abbrev pub unvouched : List (Option ℕ) → List Bool → List Bool
unvouched [] vouched = []
unvouched (h ∷ hs) [] = true ∷ unvouched hs []
unvouched (h ∷ hs) (b ∷ bs) = (not (is_some h) || not b) ∷ unvouched hs bs

abbrev pub absent_flags : Item → List Bool
absent_flags i = map (λ h. not (is_some h)) i.held

-- A needed position is missing where it is not here, or where validation is required and it is neither valid nor modified.
abbrev pub lacking : Bool → Item → List Bool
lacking true i = unvouched i.held (either_flag i.valid (modified_flags i))
lacking false i = absent_flags i

-- whether a read needs the whole file by this policy
abbrev pub is_whole : Hydration → Bool
is_whole hydration.Partial = false
is_whole hydration.Progressive = false
is_whole hydration.Full = true
is_whole hydration.AlwaysFull = true

abbrev pub view_of : Policy → Item → View
view_of p i = record { absent = absent_flags i; lacks = lacking p.validate i; base = base_of i; whole = is_whole p.hydration || i.keep; populated = i.populated }

abbrev pub span_of : ℕ → ℕ → Span
span_of start len = record { start = start; len = len }

abbrev pub no_span : Span
no_span = span_of 0 0

abbrev pub needed_by_read : Bool → ℕ → Span → Span
needed_by_read true size asked = span_of 0 size
needed_by_read false size asked = asked

-- The positions that a wait needs, those past the size left out. A list wait has none, and a dehydrate wait needs none.
abbrev pub needed_by : WaitKind → View → Span → Span
needed_by wait_kind.Read v asked = needed_by_read v.whole (length v.lacks) asked
needed_by wait_kind.Hydrate v asked = span_of 0 (length v.lacks)
needed_by wait_kind.Background v asked = span_of 0 (length v.lacks)
needed_by wait_kind.List v asked = no_span
needed_by wait_kind.Dehydrate v asked = no_span

abbrev pub needed : View → Wait → Span
needed v w = needed_by w.kind v w.span

-- whether one of the positions from start up to end, end left out, is set
abbrev pub any_between : List Bool → ℕ → ℕ → Bool
any_between flags start end = list_any (λ b. b) (slice_range flags start end)

-- whether the wait misses a byte from start up to end
abbrev pub misses_between : View → Wait → ℕ → ℕ → Bool
misses_between v w start end = any_between v.lacks (max (needed v w).start start) (min ((needed v w).start + (needed v w).len) end)

-- whether the wait misses a byte at all
abbrev pub misses : View → Wait → Bool
misses v w = misses_between v w 0 (length v.lacks)

abbrev pub misses_block : View → Wait → ℕ → Bool
misses_block v w b = misses_between v w (4096 * b) (4096 * b + 4096)

-- whether nothing that the wait needs is missing; a dehydrate wait ends only with its ask
abbrev pub is_met_by : WaitKind → View → Wait → Bool
is_met_by wait_kind.Read v w = not (misses v w)
is_met_by wait_kind.Hydrate v w = not (misses v w)
is_met_by wait_kind.Background v w = not (misses v w)
is_met_by wait_kind.List v w = v.populated
is_met_by wait_kind.Dehydrate v w = false

abbrev pub is_met : View → Wait → Bool
is_met v w = is_met_by w.kind v w
