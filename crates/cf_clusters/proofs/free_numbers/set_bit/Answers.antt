use Rattle.std.proofs.Common.{◌/◌, ◌∙◌}
use Rattle.std.proofs.lemmas.List.{get_or_read}
use Rattle.cf_clusters.proofs.WordSets.{bit_set, first_set, more_set}
use Rattle.cf_clusters.proofs.free_numbers.set_bit.Goals as goal

pub returns-then-old-eq0-clause-sets : goal.returns-then-old-eq0-clause-sets
returns-then-old-eq0-clause-sets c =
    let read = get_or_read c.args.words.now.items (c.args.number / 64) c.index-old.result.now c.requires.inside c.index-old.ensures 0 in
    bit_set c.args.words.now.items c.args.number c.index-old.result.now c.requires.inside read

pub returns-then-old-eq0-clause-used : goal.returns-then-old-eq0-clause-used
returns-then-old-eq0-clause-used c =
    let read = get_or_read c.args.words.now.items (c.args.number / 64) c.index-old.result.now c.requires.inside c.index-old.ensures 0 in
    c.insert.ensures ∙ first_set c.args.words.now.items c.args.used.now c.requires.used c.args.number c.index-old.result.now c.requires.inside read

pub returns-else-old-eq0-clause-sets : goal.returns-else-old-eq0-clause-sets
returns-else-old-eq0-clause-sets c =
    let read = get_or_read c.args.words.now.items (c.args.number / 64) c.index-old.result.now c.requires.inside c.index-old.ensures 0 in
    bit_set c.args.words.now.items c.args.number c.index-old.result.now c.requires.inside read

pub returns-else-old-eq0-clause-used : goal.returns-else-old-eq0-clause-used
returns-else-old-eq0-clause-used c =
    let read = get_or_read c.args.words.now.items (c.args.number / 64) c.index-old.result.now c.requires.inside c.index-old.ensures 0 in
    more_set c.args.words.now.items c.args.used.now c.requires.used c.args.number c.index-old.result.now c.requires.inside read c.if-old-eq0.false
