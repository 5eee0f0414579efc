-- Calls with callbacks lead to the steps of the definitions, where the provider plays the arrow of the mode.
use Rattle.std.proofs.Common.{◌≡◌, ⊎_elim, sym, subst}
use Rattle.std.specs.Prelude.{Result, Ok, Err}
use Rattle.cf_base.specs.declared.answers.Shown.{Shown}
use Rattle.cf_base.specs.declared.codes.CallError.{CallError}
use Rattle.cf_base.specs.declared.codes.CallError.TheVariants.{No, OutOfMemory}
use Rattle.cf_disk.specs.Disk.{State as Disk}
use Rattle.cf_engine_host.specs.CallbackLaws.{Plays, cut_calling, ends_calling, stops_calling}
use Rattle.cf_engine_host.specs.Callbacks.{Answering}
use Rattle.cf_filter.specs.Draining.{CallsBack, CallsTo}
use Rattle.cf_filter_machine.specs.Held.{Held}
use Rattle.cf_filter_machine.specs.Lasting.{Lasts, Moved}
use Rattle.cf_filter_machine.specs.Sensing.{Rose, Stands, Stopped}
use Rattle.cf_model.specs.Arrows.{Arrow}
use Rattle.cf_model.specs.Callbacks.{calling}
use Rattle.cf_model.specs.State.{Filter, State, with_filter}
use Rattle.cf_model.specs.Trees.{Does, Ends, Stops}

-- what is left of a state, by the answer
abbrev pub LeftBy : {D P : Type 0} → (D → Disk) → (P → State → Type 0) → Held D → Result Shown CallError → P → Held D → State → Type 0
LeftBy state Sees x (Ok b) q y z = Stands state y z.filter × Sees q z
LeftBy state Sees x (Err (No c)) q y z = Stopped state y z.filter × Sees q z × Rose (state x.disk) (state y.disk)
LeftBy state Sees x (Err OutOfMemory) q y z = Lasts (state y.disk) z.filter.volume

-- The call is one of the definitions, on the whole state.
pub record IsCalling {D P : Type 0} (state : D → Disk) (Sees : P → State → Type 0) (part : Arrow Filter Shown) (x : Held D) (z : State) (r : Result Shown CallError) (q : P) (y : Held D) : Type 0 where
  pub new : State
  pub does : Does (calling part z) r new
  pub moved : Moved (state x.disk) (state y.disk) z.filter.volume new.filter.volume
  pub left : LeftBy state Sees x r q y new

module _ {D P : Type 0} (state : D → Disk) (answers : Answering P) (Sees : P → State → Type 0) (plays : Plays answers Sees) where
  played_to : (part : Arrow Filter Shown) (p q : P) (x y : Held D) (z : State) (r : Result Shown CallError)
      → ((a : Shown) (m : Filter) → Ends (part z.filter) a m → Sees p (with_filter m z)) → ((t : Filter) → Stops (part z.filter) t → Sees p (with_filter t z))
      → CallsTo state answers part p x z.filter r q y → IsCalling state Sees part x z r q y
  played_to part p q x y z (Ok b) ended cut h =
      let e = ends_calling answers Sees plays part p q z h.0 b h.1 h.2 (ended h.0 h.1 h.3) h.3 h.4 h.5 in record {
        new = e.0;
        does = e.3;
        moved = subst (λ (f : Filter). Moved (state x.disk) (state y.disk) z.filter.volume f.volume) (sym e.1) h.6;
        left = (subst (λ (f : Filter). Stands state y f) (sym e.1) h.7, e.2);
      }
  played_to part p q x y z (Err (No c)) ended cut h =
      ⊎_elim (λ first. record { new = record z { filter = h.1 }; does = (h.0, stops_calling part z h.1 first.0); moved = h.2; left = (h.3, subst (λ (o : P). Sees o (record z { filter = h.1 })) (sym first.1) (cut h.1 first.0), h.4) })
      (λ later. by (cut_calling answers Sees plays part p q z later.0 later.1 h.1 (ended later.0 later.1 later.2) later.2 later.3)) h.5
    where
      by : (d : (w : State) × (w.filter ≡ h.1) × Sees q w × Stops (calling part z) w) → IsCalling state Sees part x z (Err (No c)) q y
      by d = record {
        new = d.0;
        does = (h.0, d.3);
        moved = subst (λ (f : Filter). Moved (state x.disk) (state y.disk) z.filter.volume f.volume) (sym d.1) h.2;
        left = (subst (λ (f : Filter). Stopped state y f) (sym d.1) h.3, d.2, h.4);
      }
  played_to part p q x y z (Err OutOfMemory) ended cut h = record { new = record z { filter = h.0 }; does = record {}; moved = h.1; left = h.2 }

  -- where the provider sees the state that the part leaves
  pub played : (H : Filter → Type 0) (part : Arrow Filter Shown) (p q : P) (x y : Held D) (z : State) (r : Result Shown CallError) → CallsBack state answers H part p x r q y → Stands state x z.filter → H z.filter
      → ((a : Shown) (m : Filter) → Ends (part z.filter) a m → Sees p (with_filter m z)) → ((t : Filter) → Stops (part z.filter) t → Sees p (with_filter t z)) → IsCalling state Sees part x z r q y
  played H part p q x y z r back stands has ended cut = played_to part p q x y z r ended cut (back.leads z.filter stands has)
