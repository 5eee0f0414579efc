use Rattle.std.proofs.Common.{Bool, List, ap, ◌∙◌, arith, rules}
use Rattle.std.specs.List.{position_or_len}
use Rattle.std.proofs.lemmas.List.{get_or_read}
use Rattle.cf_clusters.proofs.WordSets.{first_inside, least_inside, least_is}
use Rattle.cf_clusters.proofs.free_numbers.FreeNumbers.least.Goals as goal

pub overflow_mul-result : goal.overflow_mul-result
overflow_mul-result c =
    let i = c.self.inside in
    let inside = first_inside i.count i.words.items i.used c.self.invariant c.least-word.result c.least-word.ensures in
    omega (arith, inside, c.self.invariant.small)

pub index-requires : goal.index-requires
index-requires c =
    let i = c.self.inside in
    let inside = first_inside i.count i.words.items i.used c.self.invariant c.least-word.result c.least-word.ensures in
    omega (arith, inside, c.self.invariant.size, i.words.ok)

pub overflow_add-result : goal.overflow_add-result
overflow_add-result c =
    let i = c.self.inside in
    let word = c.least-word.result in
    let inside = first_inside i.count i.words.items i.used c.self.invariant word c.least-word.ensures in
    let read = get_or_read i.words.items word c.index.result.now (omega (arith, inside, c.self.invariant.size)) c.index.ensures 0 in
    let low = least_inside i.count i.words.items i.used c.self.invariant word c.least-word.ensures c.index.result.now read (search rules) in
    omega (arith, low, c.self.invariant.small)

pub returns : goal.returns
returns c =
    let i = c.self.inside in
    let word = c.least-word.result in
    let inside = first_inside i.count i.words.items i.used c.self.invariant word c.least-word.ensures in
    let read = get_or_read i.words.items word c.index.result.now (omega (arith, inside, c.self.invariant.size)) c.index.ensures 0 in
    least_is i.count i.words.items i.used c.self.invariant word c.least-word.ensures c.index.result.now read (search rules)
    ∙ ap (λ (l : List Bool). position_or_len (λ b. b) l) c.self.view_is
