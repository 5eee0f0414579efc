use Rattle.std.proofs.Common.{◌+◌, ◌∙◌, ap, drop, refl, subst, sym, List}
use Rattle.cf_base.specs.declared.notices.Notice.{Notice}
use Rattle.cf_check_compare.proofs.Alls.{rest_is}
use Rattle.cf_check_compare.proofs.Texts.{first_notice, meets_next, meets_not}
use Rattle.cf_check_compare.specs.Passed.{IsTextOf}
use Rattle.cf_check_traces.specs.Tests.{meets_lines}
use Rattle.cf_check_compare.proofs.comparisons.meets_lines.Goals as goal

pub loop-notice-init : goal.loop-notice-init
loop-notice-init c = (c.requires, refl)

pub returns-then-not-begins : goal.returns-then-not-begins
returns-then-not-begins c =
    let inv = c.loop-notice.invariant in
    let i = c.loop-notice.notice-index in
    let rest = rest_is c.args.notices.now i c.notice-item.result c.notice-item.is c.loop-notice-test.true in
    let first = first_notice c.notice-item.result (drop (i + 1) c.args.notices.now) c.loop-notice.lines.now c.next_line.result.0.now c.next_line.result.1.now (subst (λ (ns : List Notice). IsTextOf ns c.loop-notice.lines.now) rest inv.0) c.next_line.ensures.line in
    c.differs_plainly.ensures
    ∙ sym (meets_not c.notice-item.result (drop (i + 1) c.args.notices.now) c.next_line.result.0.now c.loop-notice.left.now first.0 (sym c.begins.ensures ∙ c.if-not-begins.true))
    ∙ ap (λ (ns : List Notice). meets_lines ns c.loop-notice.left.now) (sym rest)
    ∙ sym inv.1

pub loop-notice-preserved : goal.loop-notice-preserved
loop-notice-preserved c =
    let inv = c.loop-notice.invariant in
    let i = c.loop-notice.notice-index in
    let rest = rest_is c.args.notices.now i c.notice-item.result c.notice-item.is c.loop-notice-test.true in
    let first = first_notice c.notice-item.result (drop (i + 1) c.args.notices.now) c.loop-notice.lines.now c.next_line.result.0.now c.next_line.result.1.now (subst (λ (ns : List Notice). IsTextOf ns c.loop-notice.lines.now) rest inv.0) c.next_line.ensures.line in (
      first.1,
      inv.1 ∙ ap (λ (ns : List Notice). meets_lines ns c.loop-notice.left.now) rest
          ∙ meets_next c.notice-item.result (drop (i + 1) c.args.notices.now) c.next_line.result.0.now c.loop-notice.left.now first.0 (sym c.begins.ensures ∙ c.if-not-begins.false)
          ∙ ap (λ l. meets_lines (drop (i + 1) c.args.notices.now) l) (sym c.after-left.ensures),
    )
