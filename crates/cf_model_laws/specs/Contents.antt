-- The right bytes.
use Rattle.std.specs.Prelude.{ℕ, true, false, length, Some, slice_get, slice_range, ◌+◌, ◌≡◌}
use Rattle.cf_base.specs.declared.waits.Cause.TheVariants as cause
use Rattle.cf_base.specs.declared.waits.End.TheVariants as end
use Rattle.cf_base.specs.declared.waits.WaitKind.TheVariants as wait_kind
use Rattle.cf_model.specs.Identities.{content}
use Rattle.cf_model.specs.Items.{Item, item_of}
use Rattle.cf_model.specs.Missing.{Wait, is_met}
use Rattle.cf_model.specs.Settling.{end_of, view_at}
use Rattle.cf_model.specs.State.{State, items_now}
use Rattle.cf_model.specs.Store.{Held}
use Rattle.cf_model_laws.specs.Invariant.{All}
use Rattle.cf_model_laws.specs.Premises.{IsFair}

-- A file is as long as its content, which is its base's version under the local writes that still stand; and each byte that
-- is here is the content's.
pub record IsFileRight (r : Held) (i : Item) : Type 0 where
  pub long : length i.held ≡ length (content r i)
  pub here : (at b : ℕ) → slice_get i.held at ≡ Some (Some b) → slice_get (content r i) at ≡ Some b

abbrev pub AreFilesRight : State → Type 0
AreFilesRight s = IsFair s.link → All (λ i. i.directory ≡ false → IsFileRight s.link.remote i) (items_now s)

-- a read that misses nothing ends with the span of its file's content, cut at the size
abbrev pub AreReadsRight : State → Type 0
AreReadsRight s =
    IsFair s.link → (w : Wait) (i : Item) → w.kind ≡ wait_kind.Read → item_of (items_now s) w.item ≡ Some i → i.directory ≡ false → is_met (view_at s.filter w.item) w ≡ true
    → end_of (items_now s) w cause.Met ≡ end.Data (slice_range (content s.link.remote i) w.span.start (w.span.start + w.span.len))
