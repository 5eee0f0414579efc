use Rattle.std.proofs.Common.{append_assoc}
use Rattle.cf_wire.proofs.spelled_replies.put_done.Goals as goal

pub returns-clause-ok : goal.returns-clause-ok
returns-clause-ok c = rw (c.in_ok-put_8-2.ensures.ok, c.in_ok-put_8.ensures.ok, c.in_ok-put_key.ensures.ok, c.in_ok-put_u8.ensures.ok) (simp append_assoc)
