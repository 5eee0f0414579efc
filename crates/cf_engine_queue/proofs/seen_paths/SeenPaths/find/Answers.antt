use Rattle.std.proofs.Common.{List, sym, ap, subst, ◌∙◌}
use Rattle.std.specs.Prelude.{option_copied}
use Rattle.cf_base.specs.declared.answers.AuxRecord.{AuxRecord}
use Rattle.cf_engine_queue.specs.Keys.{record_at}
use Rattle.cf_engine_queue.specs.Walks.{IsWalk, first_at}
use Rattle.cf_engine_queue.proofs.WalkLaws.{first_found, next_found, walks_from, walks_on}
use Rattle.cf_engine_queue.proofs.seen_paths.SeenPaths.find.Goals as goal

pub invariant_of-self : goal.invariant_of-self
invariant_of-self c =
    let i = c.self.inside in
    subst (λ (l : List AuxRecord). IsWalk l i.records.now) (sym c.in-Some.ensures.rest) (walks_on i.ahead i.records.now c.self.invariant)

pub returns-in-Some-clause-value : goal.returns-in-Some-clause-value
returns-in-Some-clause-value c =
    let i = c.self.inside in
    sym (next_found i.ahead i.records.now c.args.key.now c.in-Some.record.now c.self.invariant (sym c.in-Some.ensures.value)) ∙ ap (record_at c.args.key.now) c.self.view_is

pub invariant_of-self-in-Some-next_at : goal.invariant_of-self-in-Some-next_at
invariant_of-self-in-Some-next_at c =
    let i = c.self.inside in
    subst (λ (l : List AuxRecord). IsWalk l i.records.now) (sym c.in-Some-next_at.ensures.rest)
    (walks_on c.from-self-inside.result i.records.now (subst (λ (l : List AuxRecord). IsWalk l i.records.now) (sym c.from-self-inside.ensures.value) (walks_from i.records.now c.args.key.now c.self.invariant.rise)))

pub returns-in-Some-next_at-clause-value : goal.returns-in-Some-next_at-clause-value
returns-in-Some-next_at-clause-value c =
    let i = c.self.inside in
    c.in-Some-next_at.ensures.value
    ∙ ap (first_at c.args.key.now) c.from-self-inside.ensures.value
    ∙ first_found i.records.now c.args.key.now c.self.invariant.rise
    ∙ ap (record_at c.args.key.now) c.self.view_is

pub returns-clause-value : goal.returns-clause-value
returns-clause-value c =
    let i = c.self.inside in
    sym (ap option_copied c.in_default-next_at.is)
    ∙ c.next_at-2.ensures.value
    ∙ ap (first_at c.args.key.now) c.from-self-inside.ensures.value
    ∙ first_found i.records.now c.args.key.now c.self.invariant.rise
    ∙ ap (record_at c.args.key.now) c.self.view_is
