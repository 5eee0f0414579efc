use Rattle.std.proofs.Common.{take}
use Rattle.cf_volume_image.specs.Drafts.{draft_image}
use Rattle.cf_volume_image.specs.States.{TellsIn}
use Rattle.cf_volume_image.proofs.openings.read_spelled.Given as goal

abbrev pub invariant-loop-number : goal.invariant-loop-number
invariant-loop-number l = TellsIn l.format l.fn.image (take l.number l.payloads) (draft_image l.draft)
