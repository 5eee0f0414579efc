-- A request with its lines on a port.
use Rattle.std.proofs.Common.{◌≡◌, List, [], ◌++◌, refl, sym, ◌∙◌, subst, append_assoc}
use Rattle.std.specs.Prelude.{Result, Ok, Option, Some, None}
use Rattle.cf_engine_provider.specs.Agencies.{Agency, Performs}
use Rattle.cf_engine_provider.specs.Answering.{Answers, Suits}
use Rattle.cf_engine_provider.specs.Parts.{Carries, Exchanges, Speaks, noted}
use Rattle.cf_engine_provider.specs.declared.exchanges.Exchange.{Exchange}
use Rattle.cf_engine_provider.proofs.Carried.{carried}
use Rattle.cf_base.specs.declared.memory.OutOfMemory.{OutOfMemory as NoMemory}
use Rattle.cf_base.specs.declared.messages.Reply.{Reply}
use Rattle.cf_base.specs.declared.messages.Request.{Request}
use Rattle.cf_base.specs.declared.notices.Notice.{Notice}
use Rattle.cf_provider.specs.Sights.{Sight}
use Rattle.cf_provider.specs.declared.outcomes.Callback.{Callback}
use Rattle.cf_link.specs.Linked.{Linked}
use Rattle.cf_model.specs.Ports.{Act}
use Rattle.cf_remote.specs.Told.{Told}

both_lines : (first second : Option Notice) (a b : List Act) → a ≡ noted first → b ≡ noted second → (more : List Act) → (a ++ b) ++ more ≡ noted first ++ (noted second ++ more)
both_lines first second a b e f more = append_assoc a b more ∙ (λ j. e j ++ (f j ++ more))

module _ {X R : Type 0} (goes : X → List Act → X → Type 0) (told : R → Told) (q : Request) (p : Agency R) where
  module _ (on : (p q r : X) (acts more : List Act) → goes p acts q → goes q more r → goes p (acts ++ more) r) where
    pub spoke : (e : Exchange) (k : Linked R) (m : Agency R) (old mid new : X) (u v : Unit {0}) → Exchanges told q p.link e k → m ≡ record p { link = k }
        → Performs goes (λ acts. acts ≡ noted e.first) old (Ok u) mid → Performs goes (λ acts. acts ≡ noted e.second) mid (Ok v) new → Speaks told goes q p old (Ok e.reply) m new
    spoke e k m old mid new u v is same h n = (
      h.0 ++ n.0,
      on old mid new h.0 n.0 h.1 n.1,
      λ sight call.
          subst (λ (x : Agency R). Carries told (Suits sight call) q p e.reply (h.0 ++ n.0) x) (sym same) (carried told sight call q p e k is (h.0 ++ n.0) (both_lines e.first e.second h.0 n.0 (h.2 refl) (n.2 refl))),
    )

    -- the callback, by what came
    pub ended : (sight : Sight) (call : Callback) (m : Agency R) (old new : X) (o : Option Reply) (r : Result (Unit {0}) NoMemory) → Speaks told goes q p old (Ok o) m new → o ≡ None
        → ((acts : List Act) → Carries told (Suits sight call) q p None acts m → Answers told p sight call (acts ++ []) m) → ((x : X) → goes x [] x) → Performs goes (λ acts. Answers told p sight call acts m) old r new
    ended sight call m old new o r h none leads stays =
        (h.0 ++ [], on old new new h.0 [] h.1 (stays new), λ ok. leads h.0 (subst (λ (x : Option Reply). Carries told (Suits sight call) q p x h.0 m) none (h.2 sight call)))

    pub went_on : (sight : Sight) (call : Callback) (m n : Agency R) (old mid new : X) (o : Option Reply) (reply : Reply) (Next : List Act → Type 0) (r : Result (Unit {0}) NoMemory) → Speaks told goes q p old (Ok o) m mid → o ≡ Some reply
        → ((acts more : List Act) → Carries told (Suits sight call) q p (Some reply) acts m → Next more → Answers told p sight call (acts ++ more) n) → Performs goes Next mid r new → Performs goes (λ acts. Answers told p sight call acts n) old r new
    went_on sight call m n old mid new o reply Next r h some leads k =
        (h.0 ++ k.0, on old mid new h.0 k.0 h.1 k.1, λ ok. leads h.0 k.0 (subst (λ (x : Option Reply). Carries told (Suits sight call) q p x h.0 m) some (h.2 sight call)) (k.2 ok))
