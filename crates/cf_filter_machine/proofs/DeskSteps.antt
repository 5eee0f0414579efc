-- Steps that read or change the desk alone.
use Rattle.std.proofs.Common.{◌≡◌, ℕ, List, false, refl, sym, ◌∙◌, ap, subst}
use Rattle.std.proofs.lemmas.Result.{err_from_is_err_and}
use Rattle.std.specs.Prelude.{Ok, Err, IfErr, Result}
use Rattle.std.specs.Result.{IsErrAnd}
use Rattle.cf_volume_room.specs.Aims.{IsAimedBy}
use Rattle.cf_base.specs.declared.codes.CallError.{CallError}
use Rattle.cf_base.specs.declared.codes.CallError.TheVariants.{OutOfMemory}
use Rattle.cf_disk.specs.Disk.{Leaves, State}
use Rattle.cf_filter_desk.specs.Desks.{Desk, desk_of}
use Rattle.cf_filter_machine.specs.Held.{Held}
use Rattle.cf_filter_machine.specs.Keeping.{HasKeptPoints, IsKeptVolume}
use Rattle.cf_filter_machine.specs.Lasting.{Moved}
use Rattle.cf_filter_machine.specs.Lasts.{lasts_at, stays_put}
use Rattle.cf_filter_machine.specs.Sensing.{Stands, sense}
use Rattle.cf_model.specs.Arrows.{Arrow, noted, unit}
use Rattle.cf_model.specs.State.{Filter, Volume}
use Rattle.cf_volume_points.specs.At.{At}
use Rattle.cf_volume_points.specs.Known.{Known}
use Rattle.cf_filter_steps.specs.Answering.{Answers, Reads}
use Rattle.cf_filter_steps.specs.Good.{IsGood}
use Rattle.cf_filter_steps.specs.Readings.{whether}
use Rattle.cf_volume.specs.Calls.{IsCause, Runs}

-- what is known of a value, as its fields
pub seen_at : {D : Type 0} (state : D → State) (v : Volume) {x y : Held D} → x ≡ y → At (state y.disk) y.known v → At (state x.disk) x.known v
seen_at {D} state v e h = subst (λ (x : Held D). At (state x.disk) x.known v) (sym e) h

pub seen_desk : {D : Type 0} {x y : Held D} → x ≡ y → x.desk ≡ y.desk
seen_desk {D} e = ap (λ (x : Held D). x.desk) e

pub with_desk : {D : Type 0} {x y : Held D} (d : Desk) → x ≡ y → record x { desk = d } ≡ record y { desk = d }
with_desk {D} d e = ap (λ (x : Held D). record x { desk = d }) e

pub reads_desk : {D V : Type 0} (state : D → State) (P : Filter → Type 0) (v : Filter → V) (w : Desk → V) (x : Held D) (r : V)
    → r ≡ w x.desk → ((s : Filter) → w (desk_of s) ≡ v s) → Reads (sense state) P v x r
reads_desk state P v w x r e same = record { is = λ s h p. e ∙ ap w h.desk ∙ same s }

pub stands_with : {D : Type 0} (state : D → State) (x : Held D) (e : Desk) (s t : Filter) → Stands state x s → t.volume ≡ s.volume → e ≡ desk_of t → IsGood t → Stands state (record x { desk = e }) t
stands_with state x e s t h same desk good = record {
  fair = h.fair;
  volume = subst (λ (v : Volume). At (state x.disk) x.known v) (sym same) h.volume;
  desk = desk;
  whole = h.whole;
  good = good;
  kept = subst IsKeptVolume (sym same) h.kept;
  points = subst HasKeptPoints (sym same) h.points;
  aimed = subst (IsAimedBy (state x.disk).settings.aim) (sym same) h.aimed;
}

-- a step of the desk that does what a step of the state does to its desk
pub desk_stepped : {D : Type 0} (state : D → State) (P : Filter → Type 0) (f : Filter → Filter) (g : Desk → Desk) (x y : Held D) (d e : Desk)
    → y ≡ record x { desk = e } → d ≡ x.desk → e ≡ g d → ((s : Filter) → (f s).volume ≡ s.volume) → ((s : Filter) → Stands state x s → g (desk_of s) ≡ desk_of (f s)) → ((s : Filter) → Stands state x s → P s → IsGood (f s))
    → Answers (sense state) P (noted f) x (Ok unit) y
desk_stepped {D} state P f g x y d e is was made same fits good =
    subst (λ (z : Held D). Answers (sense state) P (noted f) x (Ok unit) z) (sym is) (record {
      leads = λ s h p. (
        f s,
        (refl, refl),
        subst (λ (v : Volume). Moved (state x.disk) (state x.disk) s.volume v) (sym (same s)) (stays_put (state x.disk) x.known s.volume h.fair h.volume h.points),
        stands_with state x e s (f s) h (same s) (made ∙ ap g (was ∙ h.desk) ∙ fits s h) (good s h p),
      );
    })

-- out of memory, whatever became of the desk
pub desk_lost : {D A : Type 0} (state : D → State) (P : Filter → Type 0) (f : Arrow Filter A) (x y : Held D) (e : Desk) → y ≡ record x { desk = e } → Answers (sense state) P f x (Err OutOfMemory) y
desk_lost {D} state P f x y e is =
    subst (λ (z : Held D). Answers (sense state) P f x (Err OutOfMemory) z) (sym is) (record {
      leads = λ s h p. (s, record {}, stays_put (state x.disk) x.known s.volume h.fair h.volume h.points, lasts_at (state x.disk) x.known s.volume h.fair h.volume h.points);
    })

-- at an exit by `?`
pub desk_left : {D A : Type 0} (state : D → State) (P : Filter → Type 0) (f : Arrow Filter (Unit {0})) (x y : Held D) (e : Desk) (r : Result A CallError)
    → IsErrAnd r (λ z. z ≡ OutOfMemory) → y ≡ record x { desk = e } → Answers (sense state) P f x (whether r) y
desk_left {D} {A} state P f x y e r is same =
    let p = err_from_is_err_and r is in
    subst (λ (q : Result A CallError). Answers (sense state) P f x (whether q) y) (sym (p.1 ∙ ap (λ (z : CallError). Err z) p.2)) (desk_lost state P f x y e same)

pub desk_exit : {D A : Type 0} (state : D → State) (P : Filter → Type 0) (f : Arrow Filter A) (x y : Held D) (e : Desk) (r : Result A CallError)
    → IsErrAnd r (λ z. z ≡ OutOfMemory) → y ≡ record x { desk = e } → Answers (sense state) P f x r y
desk_exit {D} {A} state P f x y e r is same =
    let p = err_from_is_err_and r is in
    subst (λ (q : Result A CallError). Answers (sense state) P f x q y) (sym (p.1 ∙ ap (λ (z : CallError). Err z) p.2)) (desk_lost state P f x y e same)

-- what is known of an error
pub err_is : {A E : Type 0} (r : Result A E) (P : E → Type 0) (e : E) → IfErr r P → r ≡ Err e → P e
err_is {A} {E} r P e h is = subst (λ (q : Result A E). IfErr q P) is h

-- on the same disk
pub on_disk : {D : Type 0} (state : D → State) {d f : D} (k : Known) (v : Volume) → d ≡ f → At (state d) k v → At (state f) k v
on_disk {D} state k v same h = subst (λ (x : D). At (state x) k v) same h

pub seen_disk : {D : Type 0} {x y : Held D} → x ≡ y → x.disk ≡ y.disk
seen_disk {D} e = ap (λ (x : Held D). x.disk) e

pub seen_leaves : {D : Type 0} (state : D → State) (t : State) (P : List ℕ → Type 0) {x y : Held D} → x ≡ y → Leaves (state x.disk) t P → Leaves (state y.disk) t P
seen_leaves {D} state t P e h = subst (λ (x : Held D). Leaves (state x.disk) t P) e h

pub seen_whole : {D : Type 0} {x y : Held D} → x ≡ y → y.known.broken ≡ false → x.known.broken ≡ false
seen_whole {D} e h = ap (λ (x : Held D). x.known.broken) e ∙ h

pub seen_runs : {D : Type 0} (state : D → State) (t : State) {x y : Held D} → x ≡ y → Runs (state x.disk) t → Runs (state y.disk) t
seen_runs {D} state t e h = subst (λ (x : Held D). Runs (state x.disk) t) e h

pub seen_cause : {D : Type 0} (state : D → State) (t : State) (q : CallError) {x y : Held D} → x ≡ y → IsCause q (state x.disk) t → IsCause q (state y.disk) t
seen_cause {D} state t q e h = subst (λ (x : Held D). IsCause q (state x.disk) t) e h
