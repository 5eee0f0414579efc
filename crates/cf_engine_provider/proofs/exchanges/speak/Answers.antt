use Rattle.std.proofs.Common.{◌≡◌, sym, ◌∙◌, subst}
use Rattle.cf_base.specs.declared.messages.Request.{Request}
use Rattle.cf_base.specs.declared.notices.Frame.TheVariants as frame
use Rattle.cf_link.specs.Linked.{Posts, posted_line}
use Rattle.cf_engine_provider.proofs.Spoken.{at_once, by_hand, unkept}
use Rattle.cf_engine_provider.proofs.exchanges.speak.Goals as goal

pub returns-then-not-posted : goal.returns-then-not-posted
returns-then-not-posted g c =
    unkept g.R.Remote.told c.args.request.now c.args.link.now c.post.new.self c.in_ok-posted.posted
    (subst (λ (q : Request). Posts g.R.Remote.told (frame.Request q) c.args.link.now c.in_ok-posted.posted c.post.new.self) c.in_ok-copy.ensures c.in_ok-posted.ensures.posts)
    (subst (λ (q : Request). c.in_ok-posted.posted.line ≡ posted_line (frame.Request q) c.in_ok-posted.posted) c.in_ok-copy.ensures c.in_ok-posted.ensures.line) c.post.ensures.remote
    c.if-not-posted.true

pub returns-then-not-is_inline : goal.returns-then-not-is_inline
returns-then-not-is_inline g c =
    by_hand g.R.Remote.told c.args.request.now c.args.link.now c.post.new.self c.in_ok-posted.posted
    (subst (λ (q : Request). Posts g.R.Remote.told (frame.Request q) c.args.link.now c.in_ok-posted.posted c.post.new.self) c.in_ok-copy.ensures c.in_ok-posted.ensures.posts)
    (subst (λ (q : Request). c.in_ok-posted.posted.line ≡ posted_line (frame.Request q) c.in_ok-posted.posted) c.in_ok-copy.ensures c.in_ok-posted.ensures.line) c.post.ensures.remote
    c.if-not-posted.false (sym c.is_inline.ensures ∙ c.if-not-is_inline.true)

pub returns : goal.returns
returns g c =
    at_once g.R.Remote.told c.args.request.now c.args.link.now c.post.new.self c.in_ok-posted.posted
    (subst (λ (q : Request). Posts g.R.Remote.told (frame.Request q) c.args.link.now c.in_ok-posted.posted c.post.new.self) c.in_ok-copy.ensures c.in_ok-posted.ensures.posts)
    (subst (λ (q : Request). c.in_ok-posted.posted.line ≡ posted_line (frame.Request q) c.in_ok-posted.posted) c.in_ok-copy.ensures c.in_ok-posted.ensures.line) c.post.ensures.remote
    c.come.new.self c.in-Ok.came.reply c.in-Ok.came.line c.if-not-posted.false (sym c.is_inline.ensures ∙ c.if-not-is_inline.false) c.in-Ok.ensures.does c.in-Ok.ensures.rises
