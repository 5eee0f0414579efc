-- The text of an answer: a line for each notice, then one for the result.
use Rattle.std.specs.Prelude.{ℕ, Bool, List, [], ◌∷◌, ◌++◌, cond, codes, map}
use Rattle.std.specs.List.{flat_map}
use Rattle.cf_base.specs.declared.answers.Answer.{Answer}
use Rattle.cf_base.specs.declared.answers.Shown.{Shown}
use Rattle.cf_base.specs.declared.answers.Shown.TheVariants as shown
use Rattle.cf_base.specs.declared.codes.Code.{Code}
use Rattle.cf_base.specs.declared.codes.Code.TheVariants.{UsnMismatch}
use Rattle.cf_base.specs.declared.items.ListedItem.{ListedItem}
use Rattle.cf_base.specs.declared.messages.Request.{Request}
use Rattle.cf_base.specs.declared.messages.Request.TheVariants as request
use Rattle.cf_base.specs.declared.notices.Frame.{Frame}
use Rattle.cf_base.specs.declared.notices.Frame.TheVariants as frame
use Rattle.cf_base.specs.declared.notices.Notice.{Notice}
use Rattle.cf_base.specs.declared.notices.Notice.TheVariants as notice
use Rattle.cf_base.specs.declared.notices.OperationAnswer.{OperationAnswer}
use Rattle.cf_base.specs.declared.notices.OperationAnswer.TheVariants as operation
use Rattle.cf_base.specs.declared.spans.Span.{Span}
use Rattle.cf_base.specs.declared.waits.AskKind.{AskKind}
use Rattle.cf_base.specs.declared.waits.AskKind.TheVariants.{Fetch, Validate, List as ListAsk, Dehydrate}
use Rattle.cf_base.specs.declared.waits.End.{End}
use Rattle.cf_base.specs.declared.waits.End.TheVariants as end
use Rattle.cf_report.specs.Changes.{change_words, kind_word, pin_word}
use Rattle.cf_report.specs.CodeNames.{name_of}
use Rattle.cf_report.specs.Words.{bytes_text, decimal, key_text, name_text, spaced, usn_text}

-- a code by its name, and a wrong number with the one that the item has
abbrev pub code_words : Code → List (List ℕ)
code_words (UsnMismatch number) = codes "UsnMismatch" ∷ usn_text number ∷ []
code_words code = name_of code ∷ []

-- an entry of a directory, marked as a directory or a file
abbrev pub listed : ListedItem → List ℕ
listed item = name_text item.name ++ cond item.dir (codes ":d") (codes ":f")

abbrev pub end_words : End → List (List ℕ)
end_words (end.Data content) = codes "data" ∷ bytes_text content ∷ []
end_words end.Hydrated = codes "hydrated" ∷ []
end_words (end.Listed items) = codes "list" ∷ map listed items
end_words end.Emptied = codes "ok" ∷ []
end_words end.Full = codes "full" ∷ []
end_words end.Closed = codes "closed" ∷ []
end_words (end.Failed status) = codes "failed" ∷ decimal status ∷ []
end_words end.TimedOut = codes "timeout" ∷ []
end_words end.Cancelled = codes "cancelled" ∷ []
end_words end.Down = codes "down" ∷ []
end_words (end.Refused code) = codes "refused" ∷ code_words code

abbrev pub run : Span → List ℕ
run span = decimal span.start ++ 43 ∷ decimal span.len

abbrev pub sync_word : Bool → List ℕ
sync_word in_sync = cond in_sync (codes "insync") (codes "notinsync")

abbrev pub shown_words : Shown → List (List ℕ)
shown_words shown.Done = codes "ok" ∷ []
shown_words (shown.Opened handle) = codes "ok" ∷ key_text handle.0 ∷ []
shown_words (shown.Ended how) = end_words how
shown_words (shown.Pending wait) = codes "pending" ∷ key_text wait.0 ∷ []
shown_words (shown.Count count) = codes "ok" ∷ decimal count ∷ []
shown_words (shown.Item item) = codes "ok" ∷ decimal item.0 ∷ []
shown_words (shown.Info item kind size pin in_sync number identity) = codes "info" ∷ decimal item.0 ∷ kind_word kind ∷ decimal size ∷ pin_word pin ∷ sync_word in_sync ∷ usn_text number ∷ bytes_text identity ∷ []
shown_words (shown.Ranges runs) = codes "ranges" ∷ map run runs
shown_words (shown.Blocks used clusters) = codes "blocks" ∷ decimal used ∷ decimal clusters ∷ []
shown_words (shown.Resumed count opened) = codes "resumed" ∷ decimal count ∷ []
shown_words (shown.Remote rid version) = codes "ok" ∷ decimal rid.0 ∷ decimal version.0 ∷ []
shown_words (shown.Number number) = codes "ok" ∷ usn_text number ∷ []
shown_words (shown.Used clock) = codes "used" ∷ decimal clock ∷ []
shown_words (shown.Freed count) = codes "freed" ∷ decimal count ∷ []
shown_words (shown.Retrieved content) = codes "data" ∷ bytes_text content ∷ []
shown_words (shown.Refused code) = codes "refused" ∷ code_words code

abbrev pub ask_words : AskKind → ℕ → Span → List (List ℕ)
ask_words Fetch item span = codes "fetch" ∷ decimal item ∷ decimal span.start ∷ decimal span.len ∷ []
ask_words Validate item span = codes "validate" ∷ decimal item ∷ decimal span.start ∷ decimal span.len ∷ []
ask_words ListAsk item span = codes "list" ∷ decimal item ∷ []
ask_words Dehydrate item span = codes "dehydrate" ∷ decimal item ∷ decimal span.start ∷ decimal span.len ∷ []

abbrev pub operation_words : OperationAnswer → List (List ℕ)
operation_words operation.Done = codes "ok" ∷ []
operation_words (operation.Data content) = codes "data" ∷ bytes_text content ∷ []
operation_words (operation.Refused code) = codes "refused" ∷ code_words code

abbrev pub request_word : Request → List ℕ
request_word (request.Feed round after) = codes "feed"
request_word (request.List k rid) = codes "list"
request_word (request.Fetch k rid version start len) = codes "fetch"
request_word (request.Put token rid expect parent n content) = codes "put"
request_word (request.MakeDir token parent n) = codes "mkdir"
request_word (request.Move token rid parent n) = codes "move"
request_word (request.Remove token rid expect) = codes "remove"
request_word (request.Settle token) = codes "settle"
request_word (request.Keep token count) = codes "keep"

-- a request by its kind, a reply by the number of its request
abbrev pub frame_words : Frame → List (List ℕ)
frame_words (frame.Request r) = request_word r ∷ []
frame_words (frame.Reply answers reply) = codes "reply" ∷ decimal answers ∷ []

abbrev pub sent_word : Bool → List ℕ
sent_word lost = cond lost (codes "lost") (codes "sent")

abbrev pub notice_words : Notice → List (List ℕ)
notice_words (notice.Change number change) = codes "change" ∷ usn_text number ∷ change_words change
notice_words (notice.Background wait item) = codes "wait" ∷ key_text wait.0 ∷ codes "background" ∷ decimal item.0 ∷ []
notice_words (notice.Ask ask) = codes "ask" ∷ key_text ask.key ∷ ask_words ask.kind ask.item.0 ask.span
notice_words (notice.Cancel k) = codes "cancel" ∷ key_text k ∷ []
notice_words (notice.Done wait how) = codes "done" ∷ key_text wait.0 ∷ end_words how
notice_words (notice.Operation answer) = codes "op" ∷ operation_words answer
notice_words (notice.Message sent) = sent_word sent.lost ∷ decimal sent.message ∷ frame_words sent.frame
notice_words (notice.Fault message) = codes "fault" ∷ decimal message ∷ []
notice_words (notice.Skipped code) = codes "skipped" ∷ code_words code

-- a line: its mark and its words
abbrev pub line : ℕ → List (List ℕ) → List ℕ
line mark words = mark ∷ spaced words ++ 10 ∷ []

-- a line of what happened, marked by a minus
abbrev pub notice_line : Notice → List ℕ
notice_line n = line 45 (notice_words n)

-- the line of the result, marked by an equals sign
abbrev pub result_line : Shown → List ℕ
result_line result = line 61 (shown_words result)

-- the lines of an answer
abbrev pub text : Answer → List ℕ
text answer = flat_map notice_line answer.notes ++ result_line answer.shown

-- the report of these answers
abbrev pub texts : List Answer → List ℕ
texts answers = flat_map text answers
