-- Tests of how a report goes on, beside an answer.
use Rattle.std.specs.Prelude.{ℕ, Bool, true, false, not, cond, List, [], ◌∷◌, ◌==◌, ◌&&◌, ◌||◌, codes, drop, length}
use Rattle.std.specs.Char.{is_ascii_digit}
use Rattle.std.specs.List.{flat_map}
use Rattle.cf_base.specs.declared.answers.Answer.{Answer}
use Rattle.cf_base.specs.declared.answers.Shown.{Shown}
use Rattle.cf_base.specs.declared.answers.Shown.TheVariants as shown
use Rattle.cf_base.specs.declared.codes.Code.{Code}
use Rattle.cf_base.specs.declared.codes.Code.TheVariants as code
use Rattle.cf_base.specs.declared.events.DeviceEvent.TheVariants as device
use Rattle.cf_base.specs.declared.events.Event.{Event}
use Rattle.cf_base.specs.declared.events.Event.TheVariants as event
use Rattle.cf_base.specs.declared.notices.Frame.{Frame}
use Rattle.cf_base.specs.declared.notices.Frame.TheVariants as frame
use Rattle.cf_base.specs.declared.notices.Notice.{Notice}
use Rattle.cf_base.specs.declared.notices.Notice.TheVariants as notice
use Rattle.cf_check_ways.specs.Ways.{is_fault}
use Rattle.cf_report.specs.Texts.{notice_line, result_line}

-- the text begins with these bytes
abbrev pub begins : List ℕ → List ℕ → Bool
begins [] text = true
begins (b ∷ bs) [] = false
begins (b ∷ bs) (c ∷ cs) = (b == c) && begins bs cs

-- no reply: its request has no line yet, so nothing has failed
abbrev pub is_request : Frame → Bool
is_request (frame.Request k) = true
is_request (frame.Reply m r) = false

-- where the report does not go on with the line, it does not go on with the other way that the remote may have taken
abbrev pub differs_plainly : Notice → List ℕ → Bool
differs_plainly (notice.Fault m) rest = not (begins (codes "- sent ") rest) && not (begins (codes "- lost ") rest)
differs_plainly (notice.Message s) rest = is_request s.frame || not (begins (codes "- fault ") rest)
differs_plainly _ rest = true

abbrev pub meets_lines : List Notice → List ℕ → Bool
meets_lines [] rest = true
meets_lines (n ∷ ns) rest = cond (begins (notice_line n) rest) (meets_lines ns (drop (length (notice_line n)) rest)) (differs_plainly n rest)

abbrev pub same_flag : Bool → Bool → Bool
same_flag true b = b
same_flag false b = not b

abbrev pub fault_line_of_peer : List ℕ
fault_line_of_peer = result_line (shown.Refused code.RemoteFault)

-- after the lines of the answer the report goes on with RemoteFault where the answer is it, and only there
abbrev pub meets_result : Answer → List ℕ → Bool
meets_result a rest =
    cond (begins (flat_map notice_line a.notes) rest)
    (same_flag (is_fault a.shown) (begins fault_line_of_peer (drop (length (flat_map notice_line a.notes)) rest)))
    true

-- only an event of another device can be RemoteFault. Where the report says it and the answer is not it, though the remote was made
-- to fail, the event asks nothing.
abbrev pub meets_alone : Event → Answer → List ℕ → (told : Bool) → Bool
meets_alone (event.Peer e) a rest true = true
meets_alone (event.Peer e) a rest false = meets_result a rest
meets_alone _ a rest told = true

-- the result is that of a device that failed
abbrev pub is_device_code : Code → Bool
is_device_code code.Device = true
is_device_code _ = false

abbrev pub is_device : Shown → Bool
is_device (shown.Refused c) = is_device_code c
is_device _ = false

abbrev pub is_restart : Event → Bool
is_restart (event.Device device.Restart) = true
is_restart _ = false

abbrev pub is_resumed : Shown → Bool
is_resumed (shown.Resumed n k) = true
is_resumed _ = false

-- the line of a restart that resumed stands next: digits, up to the end of the line

abbrev pub ends_in_digits : List ℕ → Bool
ends_in_digits [] = false
ends_in_digits (b ∷ bs) = (b == 10) || (is_ascii_digit b && ends_in_digits bs)

abbrev pub resumes_next : List ℕ → Bool
resumes_next rest = begins (codes "= resumed ") rest && ends_in_digits (drop 10 rest)

-- a restart resumed, and the report goes on with one that did
abbrev pub both_resume : Event → Answer → List ℕ → Bool
both_resume e a rest = is_restart e && is_resumed a.shown && resumes_next rest
