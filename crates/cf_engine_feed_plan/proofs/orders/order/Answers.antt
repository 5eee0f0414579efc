use Rattle.std.proofs.Common.{◌++◌, ◌∙◌, List, ap, ℕ}
use Rattle.std.specs.Prelude.{map, nat_lt}
use Rattle.cf_model.specs.Words.{sorted}
use Rattle.cf_engine_feed_plan.specs.Orders.{live_from}
use Rattle.cf_engine_feed_plan.specs.declared.orders.Dead.{Dead}
use Rattle.cf_engine_feed_plan.proofs.Ordered.{order_is}
use Rattle.cf_engine_feed_plan.proofs.orders.order.Goals as goal

pub returns : goal.returns
returns c = λ items m t k.
    c.in_ok-push_live.ensures
    ∙ ap (λ (l : List ℕ). l ++ live_from 0 c.args.feed.now)
    (c.in_ok-places.ensures ∙ ap (λ (l : List Dead). map (λ (d : Dead). d.place) l) (c.as_slice.ensures.value ∙ c.in_ok-sort.ensures ∙ ap (λ (l : List Dead). sorted (λ a b. nat_lt a.rank b.rank) l) (c.in_ok-dead.ensures items m t k)))
    ∙ order_is items c.args.feed.now t
