use Rattle.std.proofs.Common.{◌∙◌}
use Rattle.cf_volume_commit.proofs.SavedText.{keys_fit}
use Rattle.cf_volume_commit.proofs.saves.payload_text.Goals as goal

pub spell_payload-text-requires-clause-keys : goal.spell_payload-text-requires-clause-keys
spell_payload-text-requires-clause-keys c =
    keys_fit c.args.then.now c.args.contents.now c.deref-3.result.now c.in_ok-lists.ensures.noted (c.deref-3.ensures.value ∙ c.in_ok-lists.ensures.removed_keys)
