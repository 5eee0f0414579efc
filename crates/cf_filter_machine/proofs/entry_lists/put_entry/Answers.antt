use Rattle.std.proofs.Common.{◌∙◌, arith, refl, sym}
use Rattle.std.proofs.lemmas.Bool.{true≢false}
use Rattle.cf_filter_machine.proofs.AnswerSteps.{on_ok_map}
use Rattle.cf_filter_machine.proofs.EnterSteps.{ok_of, plain, put_plain, stops_alone}
use Rattle.cf_filter_machine.proofs.ReadSteps.{still}
use Rattle.cf_filter_machine.proofs.entry_lists.put_entry.Goals as goal

pub returns-then-not-is_listed-clause-crash : goal.returns-then-not-is_listed-clause-crash
returns-then-not-is_listed-clause-crash g c = λ v at. still (g.G.Ground.state c.args.volume.now.disk) v (λ m left. c.last_point.ensures v at m left)

pub returns-then-not-is_listed-clause-runs : goal.returns-then-not-is_listed-clause-runs
returns-then-not-is_listed-clause-runs g c = record { size = refl; settings = refl; powers = refl; faults = omega arith; calm = omega arith }

pub returns-then-not-fits-clause-crash : goal.returns-then-not-fits-clause-crash
returns-then-not-fits-clause-crash g c = λ v at. still (g.G.Ground.state c.args.volume.now.disk) v (λ m left. c.last_point.ensures v at m left)

pub returns-then-not-fits-clause-runs : goal.returns-then-not-fits-clause-runs
returns-then-not-fits-clause-runs g c = record { size = refl; settings = refl; powers = refl; faults = omega arith; calm = omega arith }

pub apply-requires-clause-fits : goal.apply-requires-clause-fits
apply-requires-clause-fits g c = c.fits.ensures.fits c.if-not-fits.false

pub apply-requires-clause-next : goal.apply-requires-clause-next
apply-requires-clause-next g c = c.fits.ensures.next c.if-not-fits.false

pub returns-clause-listed : goal.returns-clause-listed
returns-clause-listed g c = ok_of c.apply.result (sym c.is_listed.ensures ∙ c.if-not-is_listed.false)

pub returns-clause-ok : goal.returns-clause-ok
returns-clause-ok g c = λ v at.
    let is = plain c.args.change.now (sym c.is_listed.ensures ∙ c.if-not-is_listed.false) in
    on_ok_map c.apply.result (λ applied. put_plain (g.G.Ground.state c.apply.new.self.disk) c.apply.new.self.known c.args.change.now v (sym c.is_listed.ensures ∙ c.if-not-is_listed.false) applied)
    (c.apply.ensures.ok v at (is.fits v.book) (λ may. absurd (true≢false (sym may ∙ is.room v))))

pub returns-clause-only : goal.returns-clause-only
returns-clause-only g c = λ v at none whole.
    let is = plain c.args.change.now (sym c.is_listed.ensures ∙ c.if-not-is_listed.false) in
    stops_alone c.args.change.now v c.args.volume.now c.apply.new.self c.apply.result none (c.apply.ensures.why v at (λ may. absurd (true≢false (sym may ∙ is.room v))) whole)

pub returns-clause-crash : goal.returns-clause-crash
returns-clause-crash g c = λ v at. c.apply.ensures.kept_crash v at ((plain c.args.change.now (sym c.is_listed.ensures ∙ c.if-not-is_listed.false)).room v)
