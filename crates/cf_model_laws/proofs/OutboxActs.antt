-- What a provider's acts keep of the callbacks that are still to be called and of what waits and is asked.
use Rattle.std.proofs.Common.{List, [], ◌∷◌, sym, subst}
use Rattle.cf_model.specs.Arrows.{Preserves}
use Rattle.cf_model.specs.Books.{Book}
use Rattle.cf_model.specs.Operations.{execute_with}
use Rattle.cf_model.specs.Ports.{Act, Acts, Did, Failed, Noted, noted_by, seeing}
use Rattle.cf_model.specs.State.{Filter, with_notes}
use Rattle.cf_model.proofs.OperationsKeep.{execute_with_keeps}
use Rattle.cf_model.proofs.TreeLaws.{kept_at_end, kept_at_stop}
use Rattle.cf_base.specs.declared.operations.Operation.{Operation}
use Rattle.cf_model_laws.proofs.OutboxFacts.{Boxing, Fact, Holds, filter_closed}

module _ (F : Fact) (b : Boxing F) where
  noted_keeps : (acts : List Act) (s : Filter) → Holds F s → Holds F (noted_by acts s)
  noted_keeps [] s h = h
  noted_keeps (Did seen op answer ∷ acts) s h = noted_keeps acts s h
  noted_keeps (Failed seen op ∷ acts) s h = noted_keeps acts s h
  noted_keeps (Noted n ∷ acts) s h = noted_keeps acts (with_notes (n ∷ []) s) h

  pub executes_keep : (f : Book → Book) (op : Operation) → Preserves (Holds F) (execute_with f op)
  executes_keep f op = execute_with_keeps (Holds F) (filter_closed F b) f op

  pub acts_keep : (acts : List Act) (s t : Filter) → Holds F s → Acts s acts t → Holds F t
  acts_keep [] s t h a = subst (λ (x : Filter). Holds F x) (sym a) h
  acts_keep (Did seen op answer ∷ acts) s t h a = acts_keep acts a.0 t (kept_at_end (Holds F) (execute_with (seeing seen) op s) answer a.0 ((executes_keep (seeing seen) op).keeps s h) a.1) a.2
  acts_keep (Failed seen op ∷ acts) s t h a =
      subst (λ (x : Filter). Holds F x) (sym a.2) (noted_keeps acts a.0 (kept_at_stop (Holds F) (execute_with (seeing seen) op s) a.0 ((executes_keep (seeing seen) op).keeps s h) a.1))
  acts_keep (Noted n ∷ acts) s t h a = acts_keep acts (with_notes (n ∷ []) s) t h a
