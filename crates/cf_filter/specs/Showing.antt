-- What calls give, in the words of the definitions.
use Rattle.std.specs.Prelude.{ℕ}
use Rattle.cf_base.specs.declared.answers.Shown.{Shown}
use Rattle.cf_base.specs.declared.answers.Shown.TheVariants as shown
use Rattle.cf_filter.specs.declared.answers.Info.{Info}
use Rattle.cf_filter.specs.declared.answers.Waited.{Waited}
use Rattle.cf_filter.specs.declared.answers.Waited.TheVariants as waited

abbrev pub shows_waited : Waited → Shown
shows_waited (waited.Pending id) = shown.Pending id
shows_waited (waited.Ended end) = shown.Ended end

abbrev pub shows_info : Info → Shown
shows_info i = shown.Info i.item i.kind i.size i.pin i.in_sync i.number i.identity

abbrev pub shows_blocks : ℕ × ℕ → Shown
shows_blocks b = shown.Blocks b.0 b.1
