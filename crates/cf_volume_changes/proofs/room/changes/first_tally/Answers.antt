use Rattle.cf_volume_changes.proofs.FirstDraft.{first_counts}
use Rattle.cf_volume_changes.specs.Now.{resting}
use Rattle.cf_volume_changes.proofs.room.changes.first_tally.Goals as goal

pub returns : goal.returns
returns c = λ seen v list at fits.
    first_counts (resting seen) c.args.parts.now v c.in_ok-draft.draft at c.requires.later c.image_len.ensures.kept c.image_len.ensures.rises c.tell_place.ensures
    c.in_ok-draft.ensures.changed c.in_ok-draft.ensures.gone c.in_ok-draft.ensures.more c.in_ok-draft.ensures.less list fits
