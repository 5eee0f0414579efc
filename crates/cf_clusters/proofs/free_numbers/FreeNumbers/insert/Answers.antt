use Rattle.std.proofs.Common.{◌<◌, Bool, true, List, length, set, ap, ◌∙◌, arith}
use Rattle.cf_clusters.proofs.WordSets.{bits_set, length-bits, still_set}
use Rattle.cf_clusters.proofs.free_numbers.FreeNumbers.insert.Goals as goal

pub invariant_of-self : goal.invariant_of-self
invariant_of-self c =
    let count = c.self.inside.count in
    let words = c.self.inside.words.items in
    let inside : c.args.number < count = omega (arith, c.requires, ap (λ (l : List Bool). length l) c.self.view_is, length-bits count words) in
    still_set count c.args.number true words c.set_bit.new.words.items c.set_bit.ensures.sets c.self.inside.used c.set_bit.new.used c.self.invariant inside c.set_bit.ensures.used

pub returns : goal.returns
returns c =
    bits_set c.self.inside.count c.args.number true c.self.inside.words.items c.set_bit.new.words.items c.set_bit.ensures.sets
    ∙ ap (λ (l : List Bool). set l c.args.number true) c.self.view_is

pub set_bit-requires-clause-inside : goal.set_bit-requires-clause-inside
set_bit-requires-clause-inside c =
    let count = c.self.inside.count in
    let words = c.self.inside.words.items in
    let inside : c.args.number < count = omega (arith, c.requires, ap (λ (l : List Bool). length l) c.self.view_is, length-bits count words) in
    omega (arith, inside, c.self.invariant.size)
