use Rattle.cf_engine_replies.proofs.entries.take_void.Goals as goal

pub returns : goal.returns
returns g c = c.end_and_close.ensures
