-- Changes whose outcome is looked at before they are made.
use Rattle.std.specs.Prelude.{◌≡◌, ◌≤◌, length}
use Rattle.cf_base.specs.declared.changes.Change.{Change}
use Rattle.cf_base.specs.declared.changes.Change.TheVariants as change
use Rattle.cf_base.specs.declared.ids.ItemId.{ItemId}
use Rattle.cf_model.specs.Effects.{got, kept, left_out, marked, validated_in}
use Rattle.cf_model.specs.Items.{Item}

-- what such a change makes of its item
abbrev pub effect_on : Change → Item → Item
effect_on (change.Filled item start bytes) i = got start bytes i
effect_on (change.Validated item start len) i = validated_in start len i
effect_on (change.Emptied item start len) i = left_out start len i
effect_on (change.Mark item number) i = marked i
effect_on (change.Keep item on) i = kept on i
effect_on _ i = i

abbrev pub FitsSpans : Change → Type 0
FitsSpans (change.Filled item start bytes) = (start ≤ 549755813888) × (length bytes ≤ 549755813888)
FitsSpans (change.Validated item start len) = (start ≤ 549755813888) × (len ≤ 549755813888)
FitsSpans (change.Emptied item start len) = (start ≤ 549755813888) × (len ≤ 549755813888)
FitsSpans _ = Unit {0}

-- it is one of them, on this item, with a span that is near
abbrev pub IsSeen : Change → ItemId → Type 0
IsSeen (change.Filled item start bytes) id = (item ≡ id) × (start ≤ 549755813888) × (length bytes ≤ 549755813888)
IsSeen (change.Validated item start len) id = (item ≡ id) × (start ≤ 549755813888) × (len ≤ 549755813888)
IsSeen (change.Emptied item start len) id = (item ≡ id) × (start ≤ 549755813888) × (len ≤ 549755813888)
IsSeen (change.Mark item number) id = item ≡ id
IsSeen (change.Keep item on) id = item ≡ id
IsSeen _ id = ⊥
