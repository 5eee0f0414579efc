-- A feed without entries.
use Rattle.std.proofs.Common.{◌≡◌, ◌==◌, ℕ, true, false, List, [], ◌∷◌, length, arith, eqb-true}
use Rattle.std.specs.Prelude.{Ok}
use Rattle.cf_base.specs.declared.messages.Entry.{Entry}
use Rattle.cf_engine_feed.specs.Turns.{fed}
use Rattle.cf_engine_steps.proofs.Laws.{returned}
use Rattle.cf_engine_steps.specs.Answering.{Answers, Any, Whole}
use Rattle.cf_model.specs.Feeds.{all_turns}

pub nothing_fed : {X : Type 0} (W : Whole X) (x : X) (es : List Entry) → (length es == 0) ≡ true → (later : List ℕ) × Answers W Any (all_turns es) x (Ok (fed es false later)) x
nothing_fed W x [] is = ([], returned W Any (fed [] false []) x)
nothing_fed W x (e ∷ es) is = absurd (omega (arith, eqb-true (length (e ∷ es)) 0 is))
