-- What each of two devices sees of the remote: the first all as it is, the second with tokens crossed.
use Rattle.cf_base.specs.declared.messages.Reply.{Reply}
use Rattle.cf_base.specs.declared.messages.Request.{Request}
use Rattle.cf_model.specs.Store.{Held}
use Rattle.cf_pair_model.specs.Crossed.{crossed_held, crossed_reply, crossed_request}
use Rattle.cf_pair_model.specs.declared.devices.Device.{Device}
use Rattle.cf_pair_model.specs.declared.devices.Device.TheVariants as device

-- what the remote holds, as the device sees it; and back
abbrev pub held_seen : Device → Held → Held
held_seen device.First held = held
held_seen device.Second held = crossed_held held

-- a request of the device, as the remote gets it
abbrev pub request_sent : Device → Request → Request
request_sent device.First q = q
request_sent device.Second q = crossed_request q

-- a reply of the remote, as the device gets it
abbrev pub reply_seen : Device → Reply → Reply
reply_seen device.First r = r
reply_seen device.Second r = crossed_reply r

abbrev pub step_seen : Device → Reply × Held → Reply × Held
step_seen device step = (reply_seen device step.0, held_seen device step.1)
