use Rattle.std.proofs.Common.{◌≡◌, None, false, subst, sym}
use Rattle.std.specs.Prelude.{IfOk, OnOk}
use Rattle.cf_model.specs.Requests.{Waiting, no_numbers}
use Rattle.cf_waits.proofs.Planning.{with_none}
use Rattle.cf_waits.proofs.requests.Requests.take.Goals as goal
use Rattle.cf_waits.specs.Steps.{IsPlanned, carried, moved_of}

pub take_with-requires-clause-planned : goal.take_with-requires-clause-planned
take_with-requires-clause-planned c = subst (λ (s : Waiting). IsPlanned c.args.step s) (sym (with_none c.args.self.now)) c.requires.planned

pub take_with-requires-clause-numbers : goal.take_with-requires-clause-numbers
take_with-requires-clause-numbers c = subst (λ (s : Waiting). no_numbers (carried c.args.step s).1 ≡ false) (sym (with_none c.args.self.now)) c.requires.numbers

pub returns-clause-moves : goal.returns-clause-moves
returns-clause-moves c = subst (λ (s : Waiting). IfOk c.take_with.result (λ m. m ≡ moved_of None (carried c.args.step s).0)) (with_none c.args.self.now) c.take_with.ensures.moves

pub returns-clause-ok : goal.returns-clause-ok
returns-clause-ok c = subst (λ (s : Waiting). OnOk c.take_with.result (c.take_with.new.self ≡ (carried c.args.step s).1)) (with_none c.args.self.now) c.take_with.ensures.ok
