-- Steps that read the device, and may note an access.
use Rattle.std.proofs.Common.{◌≡◌, inl, false, ℕ, List, refl, sym, ◌∙◌, ap, subst, arith}
use Rattle.std.proofs.lemmas.Result.{err_from_is_err_and}
use Rattle.std.specs.Prelude.{Err, IfErr, Ok, OnOk, Result}
use Rattle.std.specs.Result.{IsErrAnd}
use Rattle.cf_filter_machine.proofs.Aims.{aims_book, aims_on}
use Rattle.cf_volume_room.specs.Aims.{IsAimedBy}
use Rattle.cf_base.specs.declared.codes.CallError.{CallError}
use Rattle.cf_base.specs.declared.codes.CallError.TheVariants.{OutOfMemory, No}
use Rattle.cf_disk.specs.Disk.{Leaves, State}
use Rattle.cf_disk.specs.Leaving.{leaves_weaker}
use Rattle.cf_filter_machine.proofs.BookSteps.{IsRebooked, grows_book}
use Rattle.cf_filter_machine.proofs.PointSteps.{last_point}
use Rattle.cf_filter_machine.proofs.Shown.{stays_same, stays_shown}
use Rattle.cf_filter_desk.specs.Desks.{Desk, desk_of}
use Rattle.cf_filter_machine.specs.Held.{Held}
use Rattle.cf_filter_machine.specs.Keeping.{HasKeptPoints, IsKeptVolume}
use Rattle.cf_filter_machine.specs.Lasting.{IsBetween, Lasts, Moved}
use Rattle.cf_filter_machine.specs.Lasts.{grows_not, stays_put}
use Rattle.cf_filter_machine.specs.Sensing.{Stands, sense}
use Rattle.cf_filter_machine.specs.Showing.{StaysBy}
use Rattle.cf_model.specs.Arrows.{Arrow, one, unit}
use Rattle.cf_model.specs.Books.{Book}
use Rattle.cf_model.specs.State.{Filter, Volume}
use Rattle.cf_volume_points.proofs.Points.{Fair}
use Rattle.cf_volume_points.specs.At.{At, StandsLast}
use Rattle.cf_volume_points.specs.Known.{Known}
use Rattle.cf_filter_steps.specs.Answering.{Answers}
use Rattle.cf_filter_steps.specs.Good.{IsGood}
use Rattle.cf_filter_steps.specs.Readings.{whether}
use Rattle.cf_volume.specs.Calls.{IsCause, IsMemory, Runs, StopsOnly}
use Rattle.cf_volume.specs.Written.{contents_in}

module _ {D : Type 0} (state : D → State) (P : Filter → Type 0) (x : Held D) (d : D) (fair : Fair (state d)) (crash : (v : Volume) → At (state x.disk) x.known v → Leaves (state x.disk) (state d) (StandsLast v)) (runs : Runs (state x.disk) (state d)) where
  one_moved : (s : Filter) (b : Book) → Stands state x s → Moved (state x.disk) (state d) s.volume (record s.volume { book = b })
  one_moved s b h = record {
    runs = runs;
    grows = grows_book s.volume b;
    leaves = leaves_weaker (state x.disk) (state d) (StandsLast s.volume) (IsBetween s.volume (record s.volume { book = b })) (crash s.volume h.volume)
        (λ i l. record { mid = s.volume; after = grows_not s.volume; before = grows_book s.volume b; stands = last_point s.volume h.points i l });
  }

  one_lasts : (s : Filter) → Stands state x s → Lasts (state d) s.volume
  one_lasts s h i left = last_point s.volume h.points i ((crash s.volume h.volume).now i left)

  points_stay : (v : Volume) (b : Book) → HasKeptPoints v → HasKeptPoints (record v { book = b })
  points_stay v b h = h

  pub one_done : (f : Filter → Filter) (k : Known) (e : Desk) → k.broken ≡ false → ((s : Filter) → Stands state x s → P s → At (state d) k (f s).volume) → ((s : Filter) → Stands state x s → e ≡ desk_of (f s))
      → ((s : Filter) → Stands state x s → P s → IsRebooked s (f s)) → Answers (sense state) P (one f) x (Ok unit) (record { disk = d; known = k; desk = e })
  one_done f k e usable at desk fits = record {
    leads = λ s h p.
        let r = fits s h p in (
          f s,
          (refl, refl),
          subst (λ (v : Volume). Moved (state x.disk) (state d) s.volume v) (sym r.same) (one_moved s r.book h),
          record {
            fair = fair;
            volume = at s h p;
            desk = desk s h;
            whole = usable;
            good = r.good;
            kept = r.kept;
            points = subst HasKeptPoints (sym r.same) (points_stay s.volume r.book h.points);
            aimed = subst (IsAimedBy (state d).settings.aim) (sym r.same) (aims_book (state d).settings.aim s.volume r.book (aims_on (state x.disk) (state d) s.volume runs.settings h.aimed));
          },
        );
  }

  pub one_stopped : (f : Filter → Filter) (k : Known) (e : Desk) (q : CallError) → e ≡ x.desk → ((s : Filter) → Stands state x s → StopsOnly q) → IsCause q (state x.disk) (state d) → StaysBy q x.known k → Answers (sense state) P (one f) x (Err q) (record { disk = d; known = k; desk = e })
  one_stopped f k e (No code) same only cause still = record {
    leads = λ s h p. (
      s,
      (only s h, inl refl),
      one_moved s s.volume.book h,
      (
        record {
          notes = ap (λ (z : Desk). z.notes) (same ∙ h.desk);
          policy = ap (λ (z : Desk). z.policy) (same ∙ h.desk);
          connected = ap (λ (z : Desk). z.connected) (same ∙ h.desk);
          shows = stays_shown state x d k s runs still h;
          lasts = one_lasts s h;
        },
        cause (only s h),
      ),
    );
  }
  one_stopped f k e OutOfMemory same only cause still = record { leads = λ s h p. (s, record {}, one_moved s s.volume.book h, one_lasts s h) }

  -- out of memory, whatever became of the desk
  pub one_lost : (f : Filter → Filter) (k : Known) (e : Desk) → Answers (sense state) P (one f) x (Err OutOfMemory) (record { disk = d; known = k; desk = e })
  one_lost f k e = record { leads = λ s h p. (s, record {}, one_moved s s.volume.book h, one_lasts s h) }

  -- at an exit by `?`
  pub one_stops_by : {A : Type 0} (f : Filter → Filter) (k : Known) (e : Desk) (q : CallError) (r : Result A CallError) → IsErrAnd r (λ z. z ≡ q) → e ≡ x.desk → ((s : Filter) → Stands state x s → StopsOnly q) → IsCause q (state x.disk) (state d) → StaysBy q x.known k
      → Answers (sense state) P (one f) x (whether r) (record { disk = d; known = k; desk = e })
  one_stops_by {A} f k e q r is same only cause still =
      let p = err_from_is_err_and r is in
      subst (λ (z : Result A CallError). Answers (sense state) P (one f) x (whether z) (record { disk = d; known = k; desk = e })) (sym (p.1 ∙ ap (λ (z : CallError). Err z) p.2)) (one_stopped f k e q same only cause still)

-- of a call that reads, whatever it gives
pub one_read : {D A : Type 0} (state : D → State) (P : Filter → Type 0) (x : Held D) (d : D) (k : Known) (e : Desk) (f : Filter → Filter) (r : Result A CallError) → Fair (state d)
    → ((v : Volume) → At (state x.disk) x.known v → Leaves (state x.disk) (state d) (StandsLast v)) → Runs (state x.disk) (state d) → e ≡ x.desk → OnOk r (k.broken ≡ false) → ((s : Filter) → Stands state x s → P s → OnOk r (At (state d) k (f s).volume))
    → ((s : Filter) → Stands state x s → desk_of s ≡ desk_of (f s)) → ((s : Filter) → Stands state x s → IfErr r StopsOnly) → IfErr r (λ q. IsCause q (state x.disk) (state d)) → contents_in k ≡ contents_in x.known → ((s : Filter) → Stands state x s → P s → IsRebooked s (f s))
    → Answers (sense state) P (one f) x (whether r) (record { disk = d; known = k; desk = e })
one_read state P x d k e f (Ok a) fair crash runs same usable at stays only cause still fits = one_done state P x d fair crash runs f k e usable at (λ s h. same ∙ h.desk ∙ stays s h) fits
one_read state P x d k e f (Err q) fair crash runs same usable at stays only cause still fits = one_stopped state P x d fair crash runs f k e q same only cause (stays_same q x.known k still)

-- a step that leaves the state
pub one_stays : {D : Type 0} (state : D → State) (P : Filter → Type 0) (f : Filter → Filter) (x y : Held D) → y ≡ x → ((s : Filter) → Stands state x s → P s → s ≡ f s) → Answers (sense state) P (one f) x (Ok unit) y
one_stays {D} state P f x y is same = subst (λ (z : Held D). Answers (sense state) P (one f) x (Ok unit) z) (sym is) (record { leads = λ s h p. (s, (refl, same s h p), stays_put (state x.disk) x.known s.volume h.fair h.volume h.points, h) })

pub not_rebooked : (s : Filter) → IsGood s → IsKeptVolume s.volume → IsRebooked s s
not_rebooked s good kept = record { book = s.volume.book; same = refl; good = good; kept = kept }

-- what only memory stops

pub memory_is : (e : CallError) → IsMemory e → e ≡ OutOfMemory
memory_is OutOfMemory h = refl
memory_is (No code) h = absurd h

pub memory_stops : {A : Type 0} (r : Result A CallError) (q : CallError) → IsErrAnd r (λ z. z ≡ q) → IsMemory q → IfErr r StopsOnly
memory_stops {A} r q is h =
    let p = err_from_is_err_and r is in
    subst (λ (z : Result A CallError). IfErr z StopsOnly) (sym (p.1 ∙ ap (λ (z : CallError). Err z) (p.2 ∙ memory_is q h))) (record {})

pub memory_causes : {A : Type 0} (s t : State) (r : Result A CallError) (q : CallError) → IsErrAnd r (λ z. z ≡ q) → IsMemory q → IfErr r (λ e. IsCause e s t)
memory_causes {A} s t r q is h =
    let p = err_from_is_err_and r is in
    subst (λ (z : Result A CallError). IfErr z (λ e. IsCause e s t)) (sym (p.1 ∙ ap (λ (z : CallError). Err z) (p.2 ∙ memory_is q h))) (record {})

pub with_memory : {D A : Type 0} (state : D → State) (P : Filter → Type 0) (f : Arrow Filter A) (x y : Held D) (q : CallError) (r : Result A CallError) → IsErrAnd r (λ z. z ≡ q) → IsMemory q → Answers (sense state) P f x (Err OutOfMemory) y → Answers (sense state) P f x r y
with_memory {D} {A} state P f x y q r is only h =
    let p = err_from_is_err_and r is in subst (λ (z : Result A CallError). Answers (sense state) P f x z y) (sym (p.1 ∙ ap (λ (z : CallError). Err z) (p.2 ∙ memory_is q only))) h

pub memory_alone : {A : Type 0} (r : Result A CallError) → IsErrAnd r (λ z. z ≡ OutOfMemory) → IfErr r StopsOnly
memory_alone r is = memory_stops r OutOfMemory is (record {})

pub stops_by : {A : Type 0} (r : Result A CallError) (q : CallError) → IsErrAnd r (λ z. z ≡ q) → StopsOnly q → IfErr r StopsOnly
stops_by {A} r q is h = let p = err_from_is_err_and r is in subst (λ (z : Result A CallError). IfErr z StopsOnly) (sym (p.1 ∙ ap (λ (z : CallError). Err z) p.2)) h

pub err_map : {A E : Type 0} (r : Result A E) (P Q : E → Type 0) → ((e : E) → P e → Q e) → IfErr r P → IfErr r Q
err_map (Ok a) P Q f h = record {}
err_map (Err e) P Q f h = f e h

-- nothing was done
pub still : (d : State) (v : Volume) → ((m : List ℕ) → d.may_leave m → StandsLast v m) → Leaves d d (StandsLast v)
still d v h = record { later = omega arith; now = h; since = λ t m le left. inl left }
