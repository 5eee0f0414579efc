-- Two properties that the machine keeps where no policy is set, together.
use Rattle.cf_base.specs.declared.changes.Change.TheVariants as change
use Rattle.cf_model.specs.Arrows.{reading}
use Rattle.cf_model.specs.Changes.{change_with}
use Rattle.cf_model.specs.State.{State, with_filter}
use Rattle.cf_model.specs.Waits.{begin_now, begun}
use Rattle.cf_model_laws.proofs.EventsGuarded.{Unruled}
use Rattle.cf_model_laws.proofs.SkipsGuarded.{keeps_both}
use Rattle.cf_model_quiet.proofs.BothGuarded.{Both, entering_both, guarded_both}

pub together : (A B : State → Type 0) → Unruled A → Unruled B → Unruled (Both A B)
together A B a b = record {
  closed = guarded_both A B a.closed b.closed;
  entering = entering_both A B a.entering b.entering;
  deleting = record {
    deletes = λ f item s keeps seen cursor idle leaf h. keeps_both (λ x. A (with_filter x s)) (λ x. B (with_filter x s)) (change_with f (change.Remove item) s.filter) (a.deleting.deletes f item s keeps seen cursor idle leaf h.0) (b.deleting.deletes f item s keeps seen cursor idle leaf h.1);
  };
  commanding = record {
    waits = λ s n x fit unmet h. keeps_both (λ y. A (with_filter y s)) (λ y. B (with_filter y s)) (reading (begun n) (begin_now n) x) (a.commanding.waits s n x fit unmet h.0) (b.commanding.waits s n x fit unmet h.1);
    disconnects = λ s h. (a.commanding.disconnects s h.0, b.commanding.disconnects s h.1);
    inlines = λ inline s h. (a.commanding.inlines inline s h.0, b.commanding.inlines inline s h.1);
  };
  begins = λ s h. (a.begins s h.0, b.begins s h.1);
  breaks = λ s h. (a.breaks s h.0, b.breaks s h.1);
  crashes = λ s h. (a.crashes s h.0, b.crashes s h.1);
  fails = λ s h. (a.fails s h.0, b.fails s h.1);
  opens = λ p skipped s is h. (a.opens p skipped s is h.0, b.opens p skipped s is h.1);
}
