use Rattle.std.proofs.Common.{◌≤◌, ◌++◌, ◌∷◌, List, [], ap, append_assoc, length, sym, ◌∙◌}
use Rattle.std.proofs.lemmas.List.Elements.{All-push}
use Rattle.cf_base.specs.declared.messages.Entry.{Entry}
use Rattle.cf_remote.proofs.Levels.{level_none, level_not, level_one}
use Rattle.cf_remote.proofs.feeds.push_level.Goals as goal

pub loop-one-preserved-then-not-is_at : goal.loop-one-preserved-then-not-is_at
loop-one-preserved-then-not-is_at c = record {
  told = c.loop-one.invariant.told ∙ ap (λ (es : List Entry). c.args.entries.now.items ++ es)
      (level_not c.args.items.now c.args.level c.args.seen.now c.loop-one.one-index _ c.loop-one-test.true (sym c.is_at.ensures ∙ c.if-not-is_at.true));
  room = c.loop-one.invariant.room;
}

pub loop-one-preserved-in-None : goal.loop-one-preserved-in-None
loop-one-preserved-in-None c = record {
  told = c.loop-one.invariant.told ∙ ap (λ (es : List Entry). c.args.entries.now.items ++ es)
      (level_none c.args.items.now c.args.level c.args.seen.now c.loop-one.one-index _ c.loop-one-test.true c.in-None.ensures.there);
  room = c.loop-one.invariant.room;
}

pub loop-one-preserved : goal.loop-one-preserved
loop-one-preserved c = record {
  told = c.in_ok-push-in-Some.ensures.items ∙ (λ i. c.loop-one.invariant.told i ++ c.in_ok-entry-in-Some.ensures.told i ∷ [])
      ∙ append_assoc c.args.entries.now.items _ _ ∙ ap (λ (es : List Entry). c.args.entries.now.items ++ es)
      (level_one c.args.items.now c.args.level c.args.seen.now c.loop-one.one-index _ c.loop-one-test.true c.in-Some.item.now (sym c.is_at.ensures ∙ c.if-not-is_at.false) c.in-Some.ensures.there);
  room = λ h. rw c.in_ok-push-in-Some.ensures.items (All-push (λ (e : Entry). length e.name ≤ 255) c.loop-one.entries.items c.in_ok-entry-in-Some.field-0 (c.loop-one.invariant.room h) c.in_ok-entry-in-Some.ensures.room);
}
