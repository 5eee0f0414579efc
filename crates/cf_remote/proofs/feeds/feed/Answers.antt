use Rattle.std.proofs.Common.{◌++◌, None, ◌∙◌}
use Rattle.std.specs.List.{filter_map, flat_map}
use Rattle.cf_model.specs.Words.{counting}
use Rattle.cf_remote.specs.Feeds.{told_level, told_live}
use Rattle.cf_remote.proofs.Levels.{feed_is}
use Rattle.cf_remote.proofs.feeds.feed.Goals as goal

pub returns-clause-told : goal.returns-clause-told
returns-clause-told c =
    c.in_ok-push_level.ensures.told
    ∙ (λ i. c.in_ok-push_live.ensures.told i ++ filter_map (told_level c.args.items.now None) (c.deref-2.ensures.value i))
    ∙ (λ i. (c.in_ok-entries.ensures.items i ++ flat_map (told_live c.args.items.now (c.deref.ensures.value i)) (counting 1 32)) ++ filter_map (told_level c.args.items.now None) c.in_ok-seen.seen.items)
    ∙ feed_is c.args.items.now c.requires c.args.after c.in_ok-seen.seen.items c.in_ok-seen.ensures
