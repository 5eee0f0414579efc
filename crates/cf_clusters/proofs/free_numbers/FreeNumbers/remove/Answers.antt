use Rattle.std.proofs.Common.{◌<◌, Bool, false, List, length, set, ap, ◌∙◌, arith}
use Rattle.cf_clusters.proofs.WordSets.{bits_set, length-bits, still_set}
use Rattle.cf_clusters.proofs.free_numbers.FreeNumbers.remove.Goals as goal

pub invariant_of-self : goal.invariant_of-self
invariant_of-self c =
    let count = c.self.inside.count in
    let words = c.self.inside.words.items in
    let inside : c.args.number < count = omega (arith, c.requires, ap (λ (l : List Bool). length l) c.self.view_is, length-bits count words) in
    still_set count c.args.number false words c.clear_bit.new.words.items c.clear_bit.ensures.sets c.self.inside.used c.clear_bit.new.used c.self.invariant inside c.clear_bit.ensures.used

pub returns : goal.returns
returns c =
    bits_set c.self.inside.count c.args.number false c.self.inside.words.items c.clear_bit.new.words.items c.clear_bit.ensures.sets
    ∙ ap (λ (l : List Bool). set l c.args.number false) c.self.view_is

pub clear_bit-requires-clause-inside : goal.clear_bit-requires-clause-inside
clear_bit-requires-clause-inside c =
    let count = c.self.inside.count in
    let words = c.self.inside.words.items in
    let inside : c.args.number < count = omega (arith, c.requires, ap (λ (l : List Bool). length l) c.self.view_is, length-bits count words) in
    omega (arith, inside, c.self.invariant.size)
