use Rattle.std.proofs.Common.{sym, ◌∙◌}
use Rattle.cf_volume_commit.proofs.MergedKeys.{not_there, put_there}
use Rattle.cf_volume_commit.proofs.differences.put_key.Goals as goal

pub returns-then-not-has_record : goal.returns-then-not-has_record
returns-then-not-has_record c = not_there c.args.now.now c.args.keys.now c.args.key.now (sym c.has_record.ensures ∙ c.if-not-has_record.true)

pub returns : goal.returns
returns c = put_there c.args.now.now c.args.keys.now c.put.new.self c.args.key.now c.in_ok-bare.field-0 (sym c.has_record.ensures ∙ c.if-not-has_record.false) c.in_ok-bare.ensures.0 c.in_ok-put.ensures.ok
