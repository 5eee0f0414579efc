use Rattle.std.proofs.Common.{◌++◌, ◌∙◌, List, ap, min, subst, sym}
use Rattle.cf_base.specs.declared.spans.Span.{Span}
use Rattle.cf_ask_rule.proofs.Cuts.{narrows, same_flag}
use Rattle.cf_ask_rule.proofs.sights.Sight.narrowed.Goals as goal
use Rattle.cf_ask_rule.specs.Narrowing.{IsCut, Narrows}
use Rattle.cf_ask_rule.specs.Sights.{flags_of}
use Rattle.cf_model.specs.Missing.{View}

pub returns : goal.returns
returns c =
    subst (λ n. Narrows c.args.self.now c.args.to.now n c.with.result.end) (sym c.with.ensures.start)
    (subst (λ n. Narrows c.args.self.now c.args.to.now (min c.in_ok-absent.absent.start c.in_ok-bare.bare.start) n) (sym c.with.ensures.end)
    (narrows c.args.self.now c.args.to.now c.self.inside.absent.items c.self.inside.bare.items c.to.inside.absent.items c.to.inside.bare.items c.self.inside.size c.in_ok-absent.absent.start c.in_ok-absent.absent.end c.in_ok-bare.bare.start c.in_ok-bare.bare.end
    (ap (λ (v : View). v.lacks) (sym c.self.view_is)) (ap (λ (v : View). v.lacks) (sym c.to.view_is) ∙ ap (flags_of (c.to.inside.absent.items ++ c.to.inside.bare.items)) (sym c.if-self-to.false)) c.self.invariant.0
    (ap (λ (v : View). v.whole) (sym c.to.view_is) ∙ sym (same_flag c.self.inside.whole c.to.inside.whole c.if-self-to-2.false) ∙ ap (λ (v : View). v.whole) c.self.view_is)
    (ap (λ (v : View). v.populated) (sym c.to.view_is) ∙ sym (same_flag c.self.inside.populated c.to.inside.populated c.if-self-to-3.false) ∙ ap (λ (v : View). v.populated) c.self.view_is)
    (subst (λ (l : List Span). IsCut l c.to.inside.absent.items c.in_ok-absent.absent.start c.in_ok-absent.absent.end) c.deref.ensures.value
    (subst (λ (l : List Span). IsCut c.deref.result.now l c.in_ok-absent.absent.start c.in_ok-absent.absent.end) c.deref-2.ensures.value c.in_ok-absent.ensures))
    (subst (λ (l : List Span). IsCut l c.to.inside.bare.items c.in_ok-bare.bare.start c.in_ok-bare.bare.end) c.deref-3.ensures.value
    (subst (λ (l : List Span). IsCut c.deref-3.result.now l c.in_ok-bare.bare.start c.in_ok-bare.bare.end) c.deref-4.ensures.value c.in_ok-bare.ensures))))
