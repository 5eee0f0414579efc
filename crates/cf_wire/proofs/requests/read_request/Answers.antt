use Rattle.std.proofs.Common.{arith}
use Rattle.cf_wire.proofs.FrameLaws.{request_answered, request_only}
use Rattle.cf_wire.proofs.requests.read_request.Goals as goal

pub returns-clause-read : goal.returns-clause-read
returns-clause-read c = request_answered c.args.bytes.now c.request.result (λ i. omega (arith, c.type_inv.bytes i)) c.request.ensures

pub returns-clause-only : goal.returns-clause-only
returns-clause-only c = λ x h. request_only c.args.bytes.now c.request.result x h c.request.ensures
