-- What each call does that is made as a value.
use Rattle.cf_base.specs.declared.answers.Shown.{Shown}
use Rattle.cf_filter_calls.specs.declared.call_values.AskingCall.{AskingCall}
use Rattle.cf_filter_calls.specs.declared.call_values.AskingCall.TheVariants as asking
use Rattle.cf_filter_calls.specs.declared.call_values.PlainCall.{PlainCall}
use Rattle.cf_filter_calls.specs.declared.call_values.PlainCall.TheVariants as plain
use Rattle.cf_filter_calls.specs.declared.call_values.Question.{Question}
use Rattle.cf_filter_calls.specs.declared.call_values.Question.TheVariants as question
use Rattle.cf_item_rules.specs.PlaceholderPlans.{meant}
use Rattle.cf_model.specs.Arrows.{Arrow}
use Rattle.cf_model.specs.Calls.{delete, df, flush, info, open_file, ranges, rename, set_pin, set_policy, set_size, used, write}
use Rattle.cf_model.specs.Dehydration.{dehydrate}
use Rattle.cf_model.specs.Placements.{convert, create, keep_full, mark, revert, unmark, update}
use Rattle.cf_model.specs.State.{Filter}
use Rattle.cf_model.specs.Waits.{cancel, close, connect, get, hydrate, list, read, tick}

-- the part of the definitions that a call is
abbrev pub plain_part : PlainCall → Arrow Filter Shown
plain_part (plain.OpenFile path) = open_file path.now
plain_part plain.Flush = flush
plain_part (plain.SetPolicy mode policy) = set_policy mode policy.now
plain_part (plain.Connect on) = connect on
plain_part (plain.Create path what) = create path.now (meant what.now)
plain_part (plain.Convert path identity) = convert path.now identity.now
plain_part (plain.Revert path) = revert path.now
plain_part (plain.Update path identity size) = update path.now identity.now size
plain_part (plain.Unmark path) = unmark path.now
plain_part (plain.Delete mode path) = delete mode path.now
plain_part (plain.Rename from to) = rename from.now to.now
plain_part (plain.SetPin path pin reach) = set_pin path.now pin reach

-- of one that may ask a provider
abbrev pub asking_part : AskingCall → Arrow Filter Shown
asking_part (asking.Close handle) = close handle
asking_part (asking.Cancel wait) = cancel wait
asking_part (asking.Tick ticks) = tick ticks
asking_part (asking.Read handle span) = read handle span
asking_part (asking.Get path span) = get path.now span
asking_part (asking.List path) = list path.now
asking_part (asking.Hydrate path) = hydrate path.now
asking_part (asking.Dehydrate path range) = dehydrate path.now range
asking_part (asking.Write handle at bytes) = write handle at bytes.now
asking_part (asking.SetSize handle size) = set_size handle size
asking_part (asking.SetInSync path number) = mark path.now number
asking_part (asking.KeepFull path on) = keep_full path.now on

-- of one that changes nothing
abbrev pub question_part : Question → Arrow Filter Shown
question_part (question.Info path) = info path.now
question_part (question.Ranges path class) = ranges path.now class
question_part (question.Used path) = used path.now
question_part question.Df = df
