use Rattle.std.proofs.Common.{◌∙◌, ◌+◌, ℕ, ap}
use Rattle.cf_volume_image.proofs.record_lists.put_record.Goals as goal

pub put_longer-requires-clause-kept : goal.put_longer-requires-clause-kept
put_longer-requires-clause-kept c = (c.args.len, c.requires.kept, c.in-Ok.ensures ∙ ap (λ (n : ℕ). c.args.len + n) c.len_of.ensures.value)
