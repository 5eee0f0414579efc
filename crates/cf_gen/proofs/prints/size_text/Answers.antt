use Rattle.std.proofs.Common.{append_assoc}
use Rattle.std.proofs.lemmas.List.{append-nil}
use Rattle.cf_gen.proofs.prints.size_text.Goals as goal

pub returns : goal.returns
returns c = simp (append_assoc, append-nil) c.format.ensures.ok
