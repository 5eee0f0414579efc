use Rattle.std.proofs.Common.{sym, ◌∙◌, arith}
use Rattle.cf_remote.specs.Held.{grown, held_len}
use Rattle.cf_remote.proofs.Totals.{sum_at, sum_has, sum_none}
use Rattle.cf_remote.proofs.shelves.Shelf.held_with.Goals as goal

pub held_with-requires-clause-within : goal.held_with-requires-clause-within
held_with-requires-clause-within c =
    let there = rw c.deref.ensures.value at c.in-Some.ensures.there in
    omega (arith, c.self.invariant.holds, sum_has held_len c.args.rid c.self.inside.items.items c.in-Some.item.now there)

pub returns-in-None : goal.returns-in-None
returns-in-None c bytes clock e = rw (← c.self.view_is) (c.self.invariant.holds
    ∙ sym (sum_none held_len c.args.rid (grown c.args.keep bytes clock) c.self.inside.items.items (rw c.deref.ensures.value at c.in-None.ensures.there)))

pub returns-in-Some : goal.returns-in-Some
returns-in-Some c bytes clock e =
    let there = rw c.deref.ensures.value at c.in-Some.ensures.there in
    rw (← c.self.view_is) (omega (
      arith,
      c.self.invariant.holds,
      c.held_with.ensures bytes clock e,
      sum_at held_len c.args.rid (grown c.args.keep bytes clock) c.self.inside.items.items c.in-Some.item.now c.self.invariant.indexed.is.counted there,
    ))
