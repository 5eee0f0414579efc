-- Reports in which one line, byte or number was changed.
use Rattle.std.specs.Prelude.{ℕ, zero, suc, Bool, true, false, not, [], None, drop, filter, map, slice_get, codes, ◌∷◌, ◌++◌}
use Rattle.cf_base.specs.declared.answers.Answer.{Answer}
use Rattle.cf_base.specs.declared.answers.Shown.{Shown}
use Rattle.cf_base.specs.declared.answers.Shown.TheVariants as shown
use Rattle.cf_base.specs.declared.changes.Change.TheVariants as change
use Rattle.cf_base.specs.declared.codes.Code.TheVariants as code
use Rattle.cf_base.specs.declared.ids.ItemId.{ItemId}
use Rattle.cf_base.specs.declared.ids.Usn.{Usn}
use Rattle.cf_base.specs.declared.items.Kind.TheVariants as kind
use Rattle.cf_base.specs.declared.items.Pin.TheVariants as pin
use Rattle.cf_base.specs.declared.notices.Notice.{Notice}
use Rattle.cf_base.specs.declared.notices.Notice.TheVariants as notice
use Rattle.cf_base.specs.declared.waits.End.TheVariants as end
use Rattle.cf_model.specs.Books.{no_book, opened_of}
use Rattle.cf_model.specs.Identities.{identity_of}
use Rattle.cf_model.specs.Items.{Item, item_of, root}
use Rattle.cf_model.specs.State.{State, items_now}
use Rattle.cf_model.specs.Store.{Held}
use Rattle.cf_model.specs.Words.{part}
use Rattle.cf_model_headline.specs.Reports.{Report}
use Rattle.cf_model_headline_rows.specs.Scripts.{arrive, count_blocks, crash, create_f, deliver, flush, get_a, info_a, left_by, open_a, open_f, put_a, put_f, queue, reported, restart, sync, write_a}

-- ways to change a report

-- the answer at a place, from 0, by change
abbrev pub edited : ℕ → (Answer → Answer) → Report → Report
edited n f [] = []
edited zero f (p ∷ ps) = (p.0, f p.1) ∷ ps
edited (suc n) f (p ∷ ps) = p ∷ edited n f ps

abbrev pub no_answer : Answer
no_answer = record { notes = []; shown = shown.Done; stray = None }

abbrev pub answer_at : ℕ → Report → Answer
answer_at n report = part (λ p. p.1) no_answer (slice_get report n)

abbrev pub with_shown : Shown → Answer → Answer
with_shown r a = record a { shown = r }

abbrev pub with_line : Notice → Answer → Answer
with_line m a = record a { notes = a.notes ++ m ∷ [] }

abbrev pub is_mark_line : Notice → Bool
is_mark_line (notice.Change number (change.Mark item given)) = true
is_mark_line _ = false

abbrev pub without_marks : Answer → Answer
without_marks a = record a { notes = filter (λ m. not (is_mark_line m)) a.notes }

abbrev pub given_other : Notice → Notice
given_other (notice.Change number (change.Mark item given)) = notice.Change number (change.Mark item (record { epoch = 7; place = 7 }))
given_other m = m

abbrev pub with_other_given : Answer → Answer
with_other_given a = record a { notes = map given_other a.notes }

abbrev pub other_byte : Notice → Notice
other_byte (notice.Done id (end.Data bytes)) = notice.Done id (end.Data (98 ∷ drop 1 bytes))
other_byte m = m

abbrev pub with_other_byte : Answer → Answer
with_other_byte a = record a { notes = map other_byte a.notes }

abbrev pub usn : ℕ → ℕ → Usn
usn epoch place = record { epoch = epoch; place = place }

abbrev pub second : ItemId
second = record { 0 = 2 }

abbrev pub file_of : State → Item
file_of s = part (λ i. i) root (item_of (items_now s) second)

-- restarts

abbrev pub restarted : Report
restarted = reported (create_f ∷ flush ∷ crash ∷ restart ∷ [])

-- `resumed 0` in place of `resumed 1`, and 2
abbrev pub resumed_as : ℕ → Report
resumed_as n = edited 3 (with_shown (shown.Resumed n (opened_of no_book))) restarted

-- marks

abbrev pub brought : Report
brought = reported (put_a ∷ sync ∷ info_a ∷ [])

-- the line of the Mark is left out
abbrev pub unmarked : Report
unmarked = edited 1 without_marks brought

abbrev pub informed : Usn → Shown
informed number = shown.Info second kind.PlaceholderFile 2 pin.Unspecified true number (identity_of (record { 0 = 2 }) (record { 0 = 2 }) (record { 0 = 1 }))

-- `info` shows 1.2 in place of 1.1
abbrev pub numbered : Report
numbered = edited 2 (with_shown (informed (usn 1 2))) brought

-- the Mark names 7.7 in place of 1.1
abbrev pub given_wrongly : Report
given_wrongly = edited 1 with_other_given brought

-- refusals

-- a refused call after which the file is gone
abbrev pub refused_create : Answer
refused_create = with_shown (shown.Refused code.Exists) no_answer

-- dehydrations

abbrev pub in_sync : State
in_sync = left_by (put_a ∷ sync ∷ [])

abbrev pub in_use : State
in_use = left_by (put_a ∷ sync ∷ open_a ∷ [])

abbrev pub refused : Answer
refused = with_shown (shown.Refused code.Pinned) no_answer

abbrev pub refused_otherwise : Answer
refused_otherwise = with_shown (shown.Refused code.NotInSync) no_answer

-- reads

abbrev pub arrived : State
arrived = left_by (put_a ∷ sync ∷ queue ∷ get_a ∷ arrive 5 ∷ [])

abbrev pub until_arrived : Report
until_arrived = reported (put_a ∷ sync ∷ queue ∷ get_a ∷ arrive 5 ∷ [])

-- `done 1.1 data` with another first byte
abbrev pub delivered : Answer
delivered = with_other_byte (answer_at 5 (reported (put_a ∷ sync ∷ queue ∷ get_a ∷ arrive 5 ∷ deliver 6 ∷ [])))

-- a reply of the epoch before the crash is taken
abbrev pub opened_again : State
opened_again = left_by (put_a ∷ sync ∷ queue ∷ get_a ∷ arrive 5 ∷ crash ∷ restart ∷ [])

abbrev pub taken : Answer
taken = no_answer

-- a reply that an upload on its way was not done is refused
abbrev pub uploaded : State
uploaded = left_by (create_f ∷ put_f ∷ queue ∷ sync ∷ arrive 2 ∷ [])

abbrev pub turned_away : Answer
turned_away = with_shown (shown.Refused code.Stale) no_answer

-- a reply that an upload made a new file is refused
abbrev pub uploaded_new : State
uploaded_new = left_by (create_f ∷ queue ∷ sync ∷ arrive 2 ∷ [])

abbrev pub asked : State
asked = left_by (put_a ∷ sync ∷ queue ∷ [])

abbrev pub pending : Answer
pending = answer_at 3 until_arrived

abbrev pub written : State
written = left_by (create_f ∷ open_f ∷ write_a ∷ [])

abbrev pub until_written : Report
until_written = reported (create_f ∷ open_f ∷ write_a ∷ [])

-- `data` with another byte
abbrev pub read_wrongly : Answer
read_wrongly = with_shown (shown.Ended (end.Data (codes "b"))) no_answer

-- flushed bytes

-- a line that the file is taken over, where no upload was acknowledged
abbrev pub taken_over : Report
taken_over = edited 4 (with_line (notice.Change (usn 1 3) (change.Take second [] 0))) (reported (create_f ∷ open_f ∷ write_a ∷ flush ∷ count_blocks ∷ []))

-- tokens

-- a version that no token made
abbrev pub unrecorded : Held
unrecorded = record (left_by (put_a ∷ [])).link.remote { tokens = [] }

-- openings

abbrev pub found_none : Answer
found_none = with_shown (shown.Refused code.NotAVolume) no_answer
