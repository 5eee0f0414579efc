-- Transcripts: a script and the report that it should have, as one list of lines. A line that begins with `> ` is one of
-- the script; the others stand in the report after the line that they answer.
use Rattle.std.specs.Prelude.{ℕ, zero, suc, true, List, [], ◌∷◌, ◌++◌, ◌≡◌, ◌==◌, ◌&&◌, Option, Some, None, map, codes, replicate}
use Prim.Native.String.{String}
use Rattle.cf_base.specs.declared.events.Event.{Event}
use Rattle.cf_base.specs.declared.messages.Reply.{Reply}
use Rattle.cf_base.specs.declared.messages.Reply.TheVariants as reply
use Rattle.cf_base.specs.declared.policies.Mode.{Mode}
use Rattle.cf_model.specs.Lawful.{answers, usual}
use Rattle.cf_model.specs.State.{start}
use Rattle.cf_model.specs.Store.{empty_remote}
use Rattle.cf_model.specs.Trees.{Choices, Telling, plainly}
use Rattle.cf_report.specs.Texts.{texts}
use Rattle.cf_examples.specs.Parse.{BadLine, Events, Script, read}
use Rattle.cf_examples.specs.Words.{only}

-- a line of the script, without its mark
abbrev pub said : List ℕ → Option (List ℕ)
said (a ∷ b ∷ line) = only ((a == 62) && (b == 32)) (Some line)
said _ = None

abbrev pub script_of : List (List ℕ) → List ℕ
script_of [] = []
script_of (l ∷ ls) = elim (said l) as (λ _. List ℕ) [ None ↦ script_of ls | Some line ↦ line ++ 10 ∷ script_of ls ]

abbrev pub report_of : List (List ℕ) → List ℕ
report_of [] = []
report_of (l ∷ ls) = elim (said l) as (λ _. List ℕ) [ None ↦ l ++ 10 ∷ report_of ls | Some line ↦ report_of ls ]

-- the lines, each with its end
abbrev pub ended : List String → List ℕ
ended [] = []
ended (l ∷ ls) = codes l ++ 10 ∷ ended ls

-- a script of these lines has its first bad line there
abbrev pub HasBadLine : Mode → List String → ℕ → Type 0
HasBadLine mode ls number = ◌≡◌ {A = Script} (read mode (ended ls)) (BadLine number)

-- choices

-- the device stops in the step after that many of the event
abbrev pub stopping : ℕ → Choices
stopping steps = record plainly { stop = Some steps }

-- at the first place that is left open the second way is taken
abbrev pub second_way : Choices
second_way = record plainly { forks = true ∷ [] }

-- what the remote does, each time that it is asked
abbrev pub meeting : List Telling → Choices
meeting tellings = record plainly { tellings = tellings }

-- the same choices after that many events in which all goes as usual
abbrev pub after : ℕ → List Choices → List Choices
after events choices = replicate events plainly ++ choices

-- a reply to the first fetch of five bytes that has one byte too few
abbrev pub short_reply : Reply
short_reply = reply.Bytes (record { epoch = 1; number = 1 }) 0 (codes "hell")

-- each event with its choices; where none are given all goes as usual
abbrev pub chosen : List Choices → List Event → List (Choices × Event)
chosen cs [] = []
chosen [] (e ∷ es) = usual e ∷ chosen [] es
chosen (c ∷ cs) (e ∷ es) = (c, e) ∷ chosen cs es

-- what a command reports of a script on a fresh volume of so many clusters, with an empty remote; nothing where a line is bad
abbrev pub reported : Mode → ℕ → List Choices → Script → Option (List ℕ)
reported mode clusters cs (Events es) = Some (texts (answers (start mode empty_remote clusters) (chosen cs es)))
reported mode clusters cs (BadLine n) = None

-- the script of the transcript has the report of the transcript, by these choices
abbrev pub PlaysLines : Mode → ℕ → List Choices → List (List ℕ) → Type 0
PlaysLines mode clusters cs ls = ◌≡◌ {A = Option (List ℕ)} (reported mode clusters cs (read mode (script_of ls))) (Some (report_of ls))

-- the same of lines of text, on a volume of 61 MB
abbrev pub PlaysBy : Mode → List Choices → List String → Type 0
PlaysBy mode cs transcript = PlaysLines mode 15616 cs (map codes transcript)

-- the same where all goes as usual
abbrev pub Plays : Mode → List String → Type 0
Plays mode transcript = PlaysBy mode [] transcript

-- the same on a volume of so many clusters
abbrev pub PlaysOn : ℕ → Mode → List String → Type 0
PlaysOn clusters mode transcript = PlaysLines mode clusters [] (map codes transcript)

-- bytes that are repeated, in a long line
abbrev pub times : ℕ → List ℕ → List ℕ
times zero bytes = []
times (suc n) bytes = bytes ++ times n bytes
