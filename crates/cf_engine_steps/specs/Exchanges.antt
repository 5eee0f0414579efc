-- A request that is sent, and its reply where it came to the remote at once.
use Rattle.std.specs.Prelude.{Bool, true, false, Option, None, length}
use Rattle.cf_base.specs.declared.messages.Reply.{Reply}
use Rattle.cf_base.specs.declared.messages.Request.{Request}
use Rattle.cf_base.specs.declared.notices.Frame.TheVariants as frame
use Rattle.cf_model.specs.Arrows.{Arrow, reading, ret, seq}
use Rattle.cf_model.specs.Messages.{come, is_inline, post}
use Rattle.cf_model.specs.State.{State}

-- the last message comes to the remote
abbrev pub come_last : Request → Arrow State (Option Reply)
come_last q s = come (length s.link.messages) q s

abbrev pub come_last_if : Request → Bool → Arrow State (Option Reply)
come_last_if q true = come_last q
come_last_if q false = ret None

abbrev pub after_sent : Request → Bool → Arrow State (Option Reply)
after_sent q true = reading is_inline (come_last_if q)
after_sent q false = ret None

-- under an inline link a request comes to the remote at once
abbrev pub exchange : Request → Arrow State (Option Reply)
exchange q = seq (post (frame.Request q)) (after_sent q)
