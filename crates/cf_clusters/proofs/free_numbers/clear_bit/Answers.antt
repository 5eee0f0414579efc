use Rattle.std.proofs.Common.{◌/◌, ◌∙◌}
use Rattle.std.proofs.lemmas.List.{get_or_read}
use Rattle.cf_clusters.proofs.WordSets.{bit_cleared, last_cleared, some_cleared}
use Rattle.cf_clusters.proofs.free_numbers.clear_bit.Goals as goal

pub returns-then-left-eq0-clause-sets : goal.returns-then-left-eq0-clause-sets
returns-then-left-eq0-clause-sets c =
    let read = get_or_read c.args.words.now.items (c.args.number / 64) c.index.result.now c.requires.inside c.index.ensures 0 in
    bit_cleared c.args.words.now.items c.args.number c.index.result.now c.requires.inside read

pub returns-then-left-eq0-clause-used : goal.returns-then-left-eq0-clause-used
returns-then-left-eq0-clause-used c =
    let read = get_or_read c.args.words.now.items (c.args.number / 64) c.index.result.now c.requires.inside c.index.ensures 0 in
    c.remove.ensures ∙ last_cleared c.args.words.now.items c.args.used.now c.requires.used c.args.number c.index.result.now c.requires.inside read _ c.if-left-eq0.true

pub returns-else-left-eq0-clause-sets : goal.returns-else-left-eq0-clause-sets
returns-else-left-eq0-clause-sets c =
    let read = get_or_read c.args.words.now.items (c.args.number / 64) c.index.result.now c.requires.inside c.index.ensures 0 in
    bit_cleared c.args.words.now.items c.args.number c.index.result.now c.requires.inside read

pub returns-else-left-eq0-clause-used : goal.returns-else-left-eq0-clause-used
returns-else-left-eq0-clause-used c =
    let read = get_or_read c.args.words.now.items (c.args.number / 64) c.index.result.now c.requires.inside c.index.ensures 0 in
    some_cleared c.args.words.now.items c.args.used.now c.requires.used c.args.number c.index.result.now c.requires.inside read _ c.if-left-eq0.false
