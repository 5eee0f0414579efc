use Rattle.std.proofs.Common.{◌∙◌, sym}
use Rattle.cf_base.specs.declared.answers.AuxRecord.{AuxRecord}
use Rattle.cf_volume_commit.specs.Differing.{is_record_gone}
use Rattle.cf_volume_commit.proofs.KeySteps.{kept_one, skipped_one}
use Rattle.cf_volume_commit.proofs.differences.push_if_gone.Goals as goal

pub returns-then-not-is_record_gone : goal.returns-then-not-is_record_gone
returns-then-not-is_record_gone c = skipped_one (λ (r : AuxRecord). r.key) (is_record_gone c.args.then.now c.args.now.now) c.args.aux.now c.args.keys.now.items (sym c.if-not-is_record_gone.true ∙ c.is_record_gone.ensures)

pub returns : goal.returns
returns c =
    kept_one (λ (r : AuxRecord). r.key) (is_record_gone c.args.then.now c.args.now.now) c.args.aux.now c.args.keys.now.items c.push.new.self.items c.in_ok-copy.field-0 (sym c.if-not-is_record_gone.false ∙ c.is_record_gone.ensures) c.in_ok-copy.ensures c.in_ok-push.ensures.items
