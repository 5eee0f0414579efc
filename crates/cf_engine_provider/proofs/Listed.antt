-- Entries, and what follows where they are refused.
use Rattle.std.proofs.Common.{◌≡◌, ◌≢◌, ◌⊎◌, inl, inr, List, [], ◌∷◌, ◌++◌, true, refl, sym, subst}
use Rattle.std.specs.Prelude.{Result, Ok}
use Rattle.cf_engine_provider.specs.Agencies.{Agency, Any, Performs, Plays}
use Rattle.cf_engine_provider.specs.Parts.{Skips, Tries, give_entries}
use Rattle.cf_engine_provider.specs.declared.attempts.Told.{Told as Tried}
use Rattle.cf_engine_provider.specs.declared.attempts.Told.TheVariants as tried
use Rattle.cf_engine_provider.proofs.Performed.{then_performs}
use Rattle.cf_engine_provider.proofs.Played.{nothing, op_failed, op_then, skip_then}
use Rattle.cf_base.specs.declared.answers.Shown.TheVariants as shown
use Rattle.cf_base.specs.declared.codes.Code.{Code}
use Rattle.cf_base.specs.declared.codes.Code.TheVariants as code
use Rattle.cf_base.specs.declared.ids.Key.{Key}
use Rattle.cf_base.specs.declared.items.SeenPath.{SeenPath}
use Rattle.cf_base.specs.declared.memory.OutOfMemory.{OutOfMemory as NoMemory}
use Rattle.cf_base.specs.declared.operations.NewItem.{NewItem}
use Rattle.cf_base.specs.declared.operations.Operation.{Operation}
use Rattle.cf_base.specs.declared.operations.Operation.TheVariants as operation
use Rattle.cf_provider.specs.Acting.{shown_of}
use Rattle.cf_provider.specs.declared.outcomes.Outcome.{Outcome}
use Rattle.cf_provider.specs.declared.outcomes.Outcome.TheVariants as outcome
use Rattle.cf_model.specs.Arrows.{Arrow, then_do}
use Rattle.cf_model.specs.Fetching.{after_listing, no_entries}
use Rattle.cf_model.specs.Ports.{Act, Did, Failed}
use Rattle.cf_model.specs.Skips.{skip}
use Rattle.cf_model.specs.State.{State}
use Rattle.cf_remote.specs.Told.{Told}

-- what follows entries that are refused
module _ (key : Key) where
  pub left_out : (c : Code) → (c ≡ code.TableFull) ⊎ ((c ≡ code.TooManyAsks) ⊎ (c ≡ code.Exhausted)) → after_listing key (shown.Refused c) ≡ skip c
  left_out c (inl e) = subst (λ (d : Code). after_listing key (shown.Refused d) ≡ skip d) (sym e) refl
  left_out c (inr (inl e)) = subst (λ (d : Code). after_listing key (shown.Refused d) ≡ skip d) (sym e) refl
  left_out c (inr (inr e)) = subst (λ (d : Code). after_listing key (shown.Refused d) ≡ skip d) (sym e) refl

  pub too_deep : (c : Code) → c ≡ code.TooDeep → after_listing key (shown.Refused c) ≡ then_do (skip c) (no_entries key)
  too_deep c e = subst (λ (d : Code). after_listing key (shown.Refused d) ≡ then_do (skip d) (no_entries key)) (sym e) refl

  pub for_any_other : (c : Code) → c ≢ code.TableFull → c ≢ code.TooManyAsks → c ≢ code.Exhausted → c ≢ code.TooDeep → after_listing key (shown.Refused c) ≡ no_entries key
  for_any_other code.TableFull a b d e = absurd (a refl)
  for_any_other code.TooManyAsks a b d e = absurd (b refl)
  for_any_other code.Exhausted a b d e = absurd (d refl)
  for_any_other code.TooDeep a b d e = absurd (e refl)
  for_any_other c a b d e = refl

module _ {X R : Type 0} (goes : X → List Act → X → Type 0) (told : R → Told) where
  module _ (key : Key) (list : List NewItem) (seen : List SeenPath) where
    abbrev op : Operation
    op = operation.Entries key list true

    after_done : (o : Outcome) (p : Agency R) → Plays told Any (after_listing key (shown_of o)) p [] p
    after_done outcome.Done p = nothing told Any p
    after_done (outcome.Data given) p = nothing told Any p

    pub given : (p : Agency R) (old new : X) (t : Tried) (r : Result (Unit {0}) NoMemory) → Tries goes seen op old (Ok t) new → t ≡ tried.Done → Performs goes (λ acts. Plays told Any (give_entries key list seen) p acts p) old r new
    given p old new t r h is =
        let d : Tries goes seen op old (Ok tried.Done) new = subst (λ (x : Tried). Tries goes seen op old (Ok x) new) is h in
        (Did seen op (shown_of d.0) ∷ [], d.1, λ ok. op_then told seen op (after_listing key) (shown_of d.0) p p [] (after_done d.0 p))

    pub cut_off : (p : Agency R) (old new : X) (t : Tried) (r : Result (Unit {0}) NoMemory) → Tries goes seen op old (Ok t) new → t ≡ tried.Device → Performs goes (λ acts. Plays told Any (give_entries key list seen) p acts p) old r new
    cut_off p old new t r h is = (Failed seen op ∷ [], subst (λ (x : Tried). Tries goes seen op old (Ok x) new) is h, λ ok. op_failed told seen op (after_listing key) p)

  module _ (on : (p q r : X) (acts more : List Act) → goes p acts q → goes q more r → goes p (acts ++ more) r) where
    pub not_given : (key : Key) (list : List NewItem) (seen : List SeenPath) (c : Code) (p q : Agency R) (old mid new : X) (t : Tried) (r : Result (Unit {0}) NoMemory) → Tries goes seen (operation.Entries key list true) old (Ok t) mid → t ≡ tried.Refused c
        → Performs goes (λ acts. Plays told Any (after_listing key (shown.Refused c)) p acts q) mid r new → Performs goes (λ acts. Plays told Any (give_entries key list seen) p acts q) old r new
    not_given key list seen c p q old mid new t r h is more =
        let o : Operation = operation.Entries key list true in
        let d : goes old (Did seen o (shown.Refused c) ∷ []) mid = subst (λ (x : Tried). Tries goes seen o old (Ok x) mid) is h in
        (Did seen o (shown.Refused c) ∷ more.0, on old mid new (Did seen o (shown.Refused c) ∷ []) more.0 d more.1, λ ok. op_then told seen o (after_listing key) (shown.Refused c) p q more.0 (more.2 ok))

    -- a step that is left out, and then a part
    pub skipped_then : (f : Arrow State (Unit {0})) (c : Code) (p m q : Agency R) (old mid new : X) (u : Unit {0}) (r : Result (Unit {0}) NoMemory) → Performs goes (λ acts. Skips c p acts m) old (Ok u) mid → Performs goes (λ acts. Plays told Any f m acts q) mid r new
        → Performs goes (λ acts. Plays told Any (then_do (skip c) f) p acts q) old r new
    skipped_then f c p m q old mid new u r h k =
        then_performs goes on (λ acts. Skips c p acts m) (λ acts. Plays told Any f m acts q) (λ acts. Plays told Any (then_do (skip c) f) p acts q) old mid new u r (λ acts more s d. skip_then told f c p m q acts more s d) h k
