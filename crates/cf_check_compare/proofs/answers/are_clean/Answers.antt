use Rattle.std.proofs.Common.{refl, ◌∙◌, sym}
use Rattle.cf_check_text.specs.Clean.{clean_notice}
use Rattle.cf_check_compare.proofs.Alls.{all_next}
use Rattle.cf_check_compare.proofs.answers.are_clean.Goals as goal

pub loop-notice-init : goal.loop-notice-init
loop-notice-init c = refl

pub loop-notice-preserved : goal.loop-notice-preserved
loop-notice-preserved c = c.loop-notice.invariant ∙ all_next clean_notice c.args.notices.now c.loop-notice.notice-index c.notice-item.result c.notice-item.is c.loop-notice-test.true (sym c.is_clean_notice.ensures ∙ c.if-not-is_clean_notice.false)
