-- Openings of a volume that was off.
use Rattle.std.proofs.Common.{◌≡◌, ◌≤◌, ◌<◌, ℕ, zero, suc, ◌+◌, Bool, true, false, List, [], ◌∷◌, ◌++◌, length, min, take, reverse, nat_lt, refl, sym, ap, subst, ◌∙◌, inl, inr, arith}
use Rattle.std.specs.Prelude.{Err, IfOk, Ok, Option, Result, Some, ◌⊎◌}
use Rattle.std.proofs.lemmas.List.{length-take, reverse-append}
use Rattle.std.proofs.lemmas.Bool.{cases_Bool, ltb-false, ltb-true}
use Rattle.cf_filter_events.specs.Actors.{Acts, IsActor, Reopens}
use Rattle.cf_filter_events.specs.Answered.{answer_with, answered_by}
use Rattle.cf_filter_events.specs.Meaning.{Is, IsOff, IsOfEpoch, IsOn, OnBy}
use Rattle.cf_filter_events.specs.Pasts.{Past, StandsFor}
use Rattle.cf_filter_events.specs.Stepped.{OpensNewest, PoweredTo, ResumesNewest, StepsOver, actor_of}
use Rattle.cf_filter_events.specs.declared.places.Acting.{Acting}
use Rattle.cf_filter_events.specs.declared.places.Acting.TheVariants as acting
use Rattle.cf_filter_events.specs.declared.places.Cut.{Cut}
use Rattle.cf_filter_events.proofs.Hushed.{same_quota}
use Rattle.cf_filter_events.proofs.Finished.{device_of}
use Rattle.cf_filter_events.proofs.Later.{kept_later}
use Rattle.cf_filter_events.proofs.Offs.{held_on, still_off}
use Rattle.cf_filter_events.proofs.Powers.{disk_again, opens_nothing}
use Rattle.cf_base.specs.declared.answers.Answer.{Answer}
use Rattle.cf_base.specs.declared.answers.Shown.{Shown}
use Rattle.cf_base.specs.declared.answers.Shown.TheVariants as shown
use Rattle.cf_base.specs.declared.changes.Change.{Change}
use Rattle.cf_base.specs.declared.codes.Code.{Code}
use Rattle.cf_base.specs.declared.codes.Code.TheVariants as code
use Rattle.cf_base.specs.declared.codes.CallError.{CallError}
use Rattle.cf_base.specs.declared.codes.CallError.TheVariants.{No, OutOfMemory}
use Rattle.cf_base.specs.declared.events.DeviceEvent.TheVariants as device
use Rattle.cf_base.specs.declared.events.Event.TheVariants as event
use Rattle.cf_base.specs.declared.ids.Usn.{Usn}
use Rattle.cf_base.specs.declared.memory.OutOfMemory.{OutOfMemory as NoMemory}
use Rattle.cf_base.specs.declared.policies.Policy.{Policy}
use Rattle.cf_volume_commit.specs.Loaded.{StandsOrWas}
use Rattle.cf_engine_host.specs.Callbacks.{Answering}
use Rattle.cf_disk.specs.Disk.{Leaves, State as Disk}
use Rattle.cf_journal.specs.Steps.{ReadsOnly}
use Rattle.cf_filter_desk.specs.Desks.{Desk}
use Rattle.cf_filter_machine.specs.Held.{Held}
use Rattle.cf_filter_machine.specs.Keeping.{IsKeptVolume}
use Rattle.cf_filter_machine.specs.Sensing.{Stands}
use Rattle.cf_model.proofs.TraceLaws.{ended_step, stopped_step}
use Rattle.cf_model.specs.Books.{Book, opened_of}
use Rattle.cf_model.specs.Events.{begun, broken, tree_of}
use Rattle.cf_model.specs.Numbers.{most}
use Rattle.cf_model.specs.Points.{Opens}
use Rattle.cf_model.specs.Powers.{OpensLast}
use Rattle.cf_model.specs.Restarts.{failed_open, one_of, open_point, open_points, open_skipping, opened_at, restart_by, resumed, with_opened}
use Rattle.cf_model.specs.Lawful.{IsStep}
use Rattle.cf_model.specs.State.{Filter, Off, Point, Power, State, Volume, new_filter}
use Rattle.cf_model.specs.Trees.{Ends, Stops}
use Rattle.cf_model.specs.Arrows.{Arrow}
use Rattle.cf_model.specs.Words.{counting}
use Rattle.cf_volume_points.specs.Standing.{Standing, clusters_for, opened}
use Rattle.cf_volume.specs.Calls.{IsRefused, Runs, StopsOnly}

not_less : (a b : ℕ) → b ≤ a → nat_lt a b ≡ false
not_less a b h = elim (cases_Bool (nat_lt a b)) [
  | inl hit ↦ let k = ltb-true a b hit in absurd (omega (arith, k, h))
  | inr miss ↦ miss
]

less : (a b : ℕ) → a < b → nat_lt a b ≡ true
less a b h = elim (cases_Bool (nat_lt a b)) [
  | inl hit ↦ hit
  | inr miss ↦ let k = ltb-false a b miss in absurd (omega (arith, k, h))
]

-- one of the choices

-- it is in the list
abbrev IsIn : {X : Type 0} → X → List X → Type 0
IsIn x [] = ⊥
IsIn x (y ∷ ys) = (x ≡ y) ⊎ IsIn x ys

ends_one_of : {X : Type 0} (f : X → Arrow State Shown) (x y : X) (ys : List X) (s t : State) (r : Shown) → IsIn x (y ∷ ys) → Ends (f x s) r t → Ends (one_of f y ys s) r t
ends_one_of f x y [] s t r (inl e) h = subst (λ (z : _). Ends (f z s) r t) e h
ends_one_of f x y [] s t r (inr never) h = absurd never
ends_one_of f x y (z ∷ zs) s t r (inl e) h = inl (subst (λ (w : _). Ends (f w s) r t) e h)
ends_one_of f x y (z ∷ zs) s t r (inr there) h = inr (ends_one_of f x z zs s t r there h)

in_both : {X : Type 0} (x : X) (xs ys : List X) → IsIn x ys → IsIn x (xs ++ ys)
in_both x [] ys h = h
in_both x (z ∷ zs) ys h = inr (in_both x zs ys h)

in_first : {X : Type 0} (x : X) (xs ys : List X) → IsIn x xs → IsIn x (xs ++ ys)
in_first x [] ys h = absurd h
in_first x (z ∷ zs) ys (inl e) = inl e
in_first x (z ∷ zs) ys (inr h) = inr (in_first x zs ys h)

-- the points from the last to the first
in_reverse : (p : Point) (ps : List Point) → Opens ps p → IsIn p (reverse ps)
in_reverse p [] h = absurd h
in_reverse p (q ∷ qs) (inl e) = subst (IsIn p) (sym (reverse-append (q ∷ []) qs)) (in_both p (reverse qs) (q ∷ []) (inl e))
in_reverse p (q ∷ qs) (inr h) = subst (IsIn p) (sym (reverse-append (q ∷ []) qs)) (in_first p (reverse qs) (q ∷ []) (in_reverse p qs h))

ends_points : (p : Point) (ps : List Point) (s t : State) (r : Shown) → IsIn p ps → Ends (open_point p s) r t → Ends (open_points ps s) r t
ends_points p [] s t r there h = absurd there
ends_points p (q ∷ qs) s t r there h = ends_one_of open_point p q qs s t r there h

in_counting : (i n k : ℕ) → k < n → IsIn (i + k) (counting i n)
in_counting i zero k h = absurd (omega (arith, h))
in_counting i (suc n) zero h = inl (omega arith)
in_counting i (suc n) (suc k) h = inr (subst (λ (m : ℕ). IsIn m (counting (i + 1) n)) (let e : i + 1 + k ≡ i + suc k = omega arith in e) (in_counting (i + 1) n k (omega (arith, h))))

epoch_of_some : (n k : ℕ) → k ≤ n → IsIn k (0 ∷ counting 1 n)
epoch_of_some n zero h = inl refl
epoch_of_some n (suc k) h = inr (subst (λ (m : ℕ). IsIn m (counting 1 n)) (let e : 1 + k ≡ suc k = omega arith in e) (in_counting 1 n k (omega (arith, h))))

-- a restart that opens this point, so many epochs on
pub restarts : (p : Point) (k : ℕ) (s : State) → s.power ≡ Off → Opens s.filter.volume.points p → k ≤ s.failed_opens → s.filter.volume.epoch + 1 + k ≤ most
    → Ends (tree_of (event.Device device.Restart) s) (resumed p) (with_opened p (s.filter.volume.epoch + 1 + k) (begun s))
restarts p k s power opens few fits =
    let low : nat_lt most (s.filter.volume.epoch + 1 + k) ≡ false = not_less most (s.filter.volume.epoch + 1 + k) fits in
    let at : Ends (open_skipping p k (begun s)) (resumed p) (with_opened p (s.filter.volume.epoch + 1 + k) (begun s)) = rw low (refl, refl) in
    let by : Ends (open_point p (begun s)) (resumed p) (with_opened p (s.filter.volume.epoch + 1 + k) (begun s)) = ends_one_of (open_skipping p) k 0 (counting 1 s.failed_opens) (begun s) _ (resumed p) (epoch_of_some s.failed_opens k few) at in
    subst (λ (w : Power). Ends (restart_by w (begun s)) (resumed p) (with_opened p (s.filter.volume.epoch + 1 + k) (begun s))) (sym power)
    (ends_points p (reverse s.filter.volume.points) (begun s) (with_opened p (s.filter.volume.epoch + 1 + k) (begun s)) (resumed p) (in_reverse p s.filter.volume.points opens) by)

pub restart_exhausted : (p : Point) (k : ℕ) (s : State) → s.power ≡ Off → Opens s.filter.volume.points p → k ≤ s.failed_opens → most < s.filter.volume.epoch + 1 + k
    → Ends (tree_of (event.Device device.Restart) s) (shown.Refused code.Exhausted) (begun s)
restart_exhausted p k s power opens few passes =
    let high : nat_lt most (s.filter.volume.epoch + 1 + k) ≡ true = less most (s.filter.volume.epoch + 1 + k) passes in
    let at : Ends (open_skipping p k (begun s)) (shown.Refused code.Exhausted) (begun s) = rw high (refl, refl) in
    let by : Ends (open_point p (begun s)) (shown.Refused code.Exhausted) (begun s) = ends_one_of (open_skipping p) k 0 (counting 1 s.failed_opens) (begun s) _ _ (epoch_of_some s.failed_opens k few) at in
    subst (λ (w : Power). Ends (restart_by w (begun s)) (shown.Refused code.Exhausted) (begun s)) (sym power)
    (ends_points p (reverse s.filter.volume.points) (begun s) (begun s) (shown.Refused code.Exhausted) (in_reverse p s.filter.volume.points opens) by)

restart_stops : (s : State) → s.power ≡ Off → Stops (tree_of (event.Device device.Restart) s) (failed_open (begun s))
restart_stops s power = rw power (inl refl)

-- the volume that is opened is that of the definitions
pub opened_is : (p : Point) (k clusters : ℕ) (v : Volume) → p.count ≤ length v.log → clusters ≡ v.clusters → opened (v.epoch + k + 1) (take p.count v.log) p.book clusters ≡ opened_at p (v.epoch + 1 + k) v
opened_is p k clusters v early same =
    let epoch : v.epoch + k + 1 ≡ v.epoch + 1 + k = omega arith in
    let count : length (take p.count v.log) ≡ p.count = length-take p.count v.log ∙ (let m : min p.count (length v.log) ≡ p.count = omega (arith, early) in m) in
    ap (λ (n : ℕ). opened n (take p.count v.log) p.book clusters) epoch ∙ ap (λ (n : ℕ). opened (v.epoch + 1 + k) (take p.count v.log) p.book n) same
    ∙ ap (λ (n : ℕ). record (opened (v.epoch + 1 + k) (take p.count v.log) p.book v.clusters) { points = record { sure = true; count = n; book = p.book } ∷ [] }) count

-- what is open is what the image of the last power cut stands for
opens_left : (last : Option (List ℕ)) (image : List ℕ) (t : State) → last ≡ Some image → StandsFor image t.filter.volume.log t.filter.volume.book → OpensLast StandsFor last t
opens_left last image t is left = subst (λ (o : Option (List ℕ)). OpensLast StandsFor o t) (sym is) left

-- the latest of points
pub same_newest : (p q : Point) (ps qs : List Point) → p ∷ ps ≡ q ∷ qs → p.count ≡ q.count
same_newest p q ps qs e = let same : p ≡ q = cc in ap (λ (x : Point). x.count) same

module _ {D A : Type 0} (answers : Answering A) (acts : Acts A) (actor : IsActor answers acts) (state : D → Disk) where
  -- what the disk reads as
  pub found : (past : Past) (x : Cut D A) (s : State) (off : IsOff acts state past x s) → (state x.disk).may_leave (state x.disk).seen → IsOfEpoch s off.point (state x.disk).seen
  found past x s off reads = off.lasts (state x.disk).seen reads

  pub found_kept : (past : Past) (x : Cut D A) (s : State) (off : IsOff acts state past x s) (k : ℕ) → IsKeptVolume (opened (s.filter.volume.epoch + k + 1) (take off.point.count s.filter.volume.log) off.point.book 0)
  found_kept past x s off k =
      subst (λ (n : ℕ). IsKeptVolume (opened n (take off.point.count s.filter.volume.log) off.point.book 0)) (let z : s.filter.volume.epoch + 1 + k ≡ s.filter.volume.epoch + k + 1 = omega arith in z)
      (kept_later k (s.filter.volume.epoch + 1) (take off.point.count s.filter.volume.log) off.point.book off.kept.volume)

  -- what a restart that resumed leaves
  pub resumed_to : (past : Past) (x : Cut D A) (y : Held D) (q : A) (s : State) (a : Answer) (off : IsOff acts state past x s) (k : ℕ) → k ≤ s.failed_opens → s.filter.volume.epoch + k < most → Runs (state x.disk) (state y.disk) → Reopens acts x.actor q
      → Stands state y (new_filter (opened (s.filter.volume.epoch + k + 1) (take off.point.count s.filter.volume.log) off.point.book (clusters_for (state x.disk))) x.policy)
      → ((f : Filter) → Stands state y f → a ≡ answer_with (shown.Resumed (length f.volume.log) (opened_of f.volume.book)) [])
      → PoweredTo acts.mode (IsOn acts state) past (event.Device device.Restart) s (Ok a) (record { filter = y; actor = q })
  resumed_to past x y q s a off k few low runs opens stands told =
      let p = off.point in
      let v = s.filter.volume in
      let epoch : ℕ = v.epoch + 1 + k in
      let t : State = with_opened p epoch (begun s) in
      let same : new_filter (opened (v.epoch + k + 1) (take p.count v.log) p.book (clusters_for (state x.disk))) x.policy ≡ t.filter =
      ap (λ (w : Volume). new_filter w x.policy) (opened_is p k (clusters_for (state x.disk)) v off.kept.early (sym off.disk.clusters)) ∙ ap (λ (q : Policy). new_filter (opened_at p epoch v) q) off.policy in
      let here : Stands state y t.filter = subst (λ (f : Filter). Stands state y f) same stands in
      let count : length (take p.count v.log) ≡ p.count = length-take p.count v.log ∙ (let m : min p.count (length v.log) ≡ p.count = omega (arith, off.kept.early) in m) in
      let answer : answer_with (resumed p) [] ≡ a = sym (told t.filter here ∙ ap (λ (n : ℕ). answer_with (shown.Resumed n (opened_of p.book)) []) count) in
      let on : OnBy acts state false (record { filter = y; actor = q }) t = (refl, opens (begun s) p epoch off.mode (actor.holds_on x.actor s (begun s) refl refl off.holds), here) in (
        t,
        [],
        past,
        subst (λ (b : Answer). IsStep acts.mode s (event.Device device.Restart) b t) answer (ended_step acts.mode s (event.Device device.Restart) (resumed p) t (device_of acts.mode device.Restart) refl (restarts p k s off.power off.opens few (omega (arith, low)))),
        ((λ went. opens_left past.last off.image t off.last off.left), refl, refl),
        refl,
        record {
          mode = off.mode;
          quiet = ap (λ (d : Desk). d.notes) here.desk;
          disk = record {
            fit = (disk_again state past (state x.disk) (state y.disk) v runs.size (same_quota (state x.disk) (state y.disk) runs.settings) runs.powers off.disk).fit;
            clusters = (disk_again state past (state x.disk) (state y.disk) v runs.size (same_quota (state x.disk) (state y.disk) runs.settings) runs.powers off.disk).clusters;
            powers = runs.powers ∙ off.disk.powers;
          };
          is = subst (λ (b : Bool). OnBy acts state b (record { filter = y; actor = q }) t) (sym (ap (λ (d : Desk). d.broken) here.desk)) on;
        },
      )

  -- Device: the volume stays off, and the epoch may be taken.
  pub failed_to : (past : Past) (x y : Cut D A) (s : State) (off : IsOff acts state past x s) (k : ℕ) → k ≤ s.failed_opens → y.policy ≡ x.policy → y.whole ≡ x.whole → y.actor ≡ x.actor → Runs (state x.disk) (state y.disk)
      → Leaves (state x.disk) (state y.disk) (StandsOrWas (s.filter.volume.epoch + k) (take off.point.count s.filter.volume.log) off.point.book (state x.disk))
      → PoweredTo acts.mode (IsOff acts state) past (event.Device device.Restart) s (Ok (answer_with (shown.Refused code.Device) [])) y
  failed_to past x y s off k few policy whole kept runs leaves =
      let t : State = broken (failed_open (begun s)) in (
        t,
        [],
        past,
        stopped_step acts.mode s (event.Device device.Restart) (failed_open (begun s)) (device_of acts.mode device.Restart) refl refl (restart_stops s off.power),
        opens_nothing past.last code.Device t,
        refl,
        record {
          mode = off.mode;
          power = rw off.power refl;
          holds = held_on answers acts actor state x y s t kept refl refl off.holds;
          policy = policy ∙ off.policy;
          disk = record {
            fit = (disk_again state past (state x.disk) (state y.disk) s.filter.volume runs.size (same_quota (state x.disk) (state y.disk) runs.settings) runs.powers off.disk).fit;
            clusters = (disk_again state past (state x.disk) (state y.disk) s.filter.volume runs.size (same_quota (state x.disk) (state y.disk) runs.settings) runs.powers off.disk).clusters;
            powers = runs.powers ∙ off.disk.powers;
          };
          point = off.point;
          opens = off.opens;
          newest = λ so. off.newest (sym whole ∙ so);
          kept = off.kept;
          lasts = λ c may. by c (leaves.now c may);
          image = off.image;
          last = off.last;
          left = off.left;
        },
      )
    where
      by : (c : List ℕ) → StandsOrWas (s.filter.volume.epoch + k) (take off.point.count s.filter.volume.log) off.point.book (state x.disk) c → IsOfEpoch (broken (failed_open (begun s))) off.point c
      by c (inl was) = let h = off.lasts c was in record { taken = h.taken; few = omega (arith, h.few); stands = h.stands }
      by c (inr (inl now)) = record { taken = k; few = omega (arith, few); stands = now }
      by c (inr (inr next)) = record { taken = k + 1; few = omega (arith, few); stands = subst (λ (n : ℕ). Standing n c (take off.point.count s.filter.volume.log) off.point.book) (let z : s.filter.volume.epoch + k + 1 ≡ s.filter.volume.epoch + (k + 1) = omega arith in z) next }

  -- Exhausted: nothing was written.
  pub exhausted_to : (past : Past) (x y : Cut D A) (s : State) (off : IsOff acts state past x s) (k : ℕ) → k ≤ s.failed_opens → s.filter.volume.epoch + k ≡ most → IsOff acts state past y (begun s)
      → PoweredTo acts.mode (IsOff acts state) past (event.Device device.Restart) s (Ok (answer_with (shown.Refused code.Exhausted) [])) y
  exhausted_to past x y s off k few last after = (
    begun s,
    [],
    past,
    ended_step acts.mode s (event.Device device.Restart) (shown.Refused code.Exhausted) (begun s) (device_of acts.mode device.Restart) refl (restart_exhausted off.point k s off.power off.opens few (omega (arith, last))),
    opens_nothing past.last code.Exhausted (begun s),
    refl,
    after,
  )

  -- a restart that opened the volume
  pub opened_step : (x : Cut D A) (y : Held D) (back : Acting D A) (r : Result Answer NoMemory) → (state x.disk).may_leave (state x.disk).seen
      → ((epoch : ℕ) (log : List (Usn × Change)) (b : Book) → Standing epoch (state x.disk).seen log b → IsKeptVolume (opened (epoch + 1) log b 0) → Stands state y (new_filter (opened (epoch + 1) log b (clusters_for (state x.disk))) x.policy))
      → ((epoch : ℕ) (log : List (Usn × Change)) (b : Book) → Standing epoch (state x.disk).seen log b → epoch < most) → Runs (state x.disk) (state y.disk) → back ≡ acting.On (record { filter = y; actor = actor_of back }) → Reopens acts x.actor (actor_of back)
      → IfOk r (λ a. (f : Filter) → Stands state y f → a ≡ answer_with (shown.Resumed (length f.volume.log) (opened_of f.volume.book)) []) → StepsOver acts.mode (Is acts state) (event.Device device.Restart) (acting.Off x) r back
  opened_step x y back (Err m) reads ok more runs is opens told = record { leads = λ past s off. record {} }
  opened_step x y back (Ok a) reads ok more runs is opens told = record {
    leads = λ past s off.
        let at = found past x s off reads in
        let log : List (Usn × Change) = take off.point.count s.filter.volume.log in
        let r = resumed_to past x y (actor_of back) s a off at.taken at.few (more (s.filter.volume.epoch + at.taken) log off.point.book at.stands) runs opens
        (ok (s.filter.volume.epoch + at.taken) log off.point.book at.stands (found_kept past x s off at.taken)) told in
        (r.0, r.1, r.2, r.3, r.4, r.5, subst (λ (w : Acting D A). Is acts state r.2 w r.0) (sym is) r.6);
  }

  -- it is the newest point, where no event met Device before
  pub opened_newest : (x : Cut D A) (y : Held D) (r : Result Answer NoMemory) → (state x.disk).may_leave (state x.disk).seen
      → ((epoch : ℕ) (log : List (Usn × Change)) (b : Book) → Standing epoch (state x.disk).seen log b → IsKeptVolume (opened (epoch + 1) log b 0) → Stands state y (new_filter (opened (epoch + 1) log b (clusters_for (state x.disk))) x.policy))
      → IfOk r (λ a. (f : Filter) → Stands state y f → a ≡ answer_with (shown.Resumed (length f.volume.log) (opened_of f.volume.book)) []) → OpensNewest (Is acts state) (event.Device device.Restart) (acting.Off x) r
  opened_newest x y (Err m) reads ok told = record { newest = λ past s off is whole. record {} }
  opened_newest x y (Ok a) reads ok told = record {
    newest = λ past s off is whole.
        let at = found past x s off reads in
        let log : List (Usn × Change) = take off.point.count s.filter.volume.log in
        let here = ok (s.filter.volume.epoch + at.taken) log off.point.book at.stands (found_kept past x s off at.taken) in
        let count : length log ≡ off.point.count = length-take off.point.count s.filter.volume.log ∙ (let m : min off.point.count (length s.filter.volume.log) ≡ off.point.count = omega (arith, off.kept.early) in m) in
        let w = off.newest whole in
        subst (λ (b : Answer). ResumesNewest b.shown s.filter.volume.points) (sym (told _ here)) (λ p earlier e. count ∙ same_newest off.point p w.0 earlier (sym w.1 ∙ e));
  }

  -- a restart that opened nothing
  pub failed_newest : (x : Cut D A) (e : CallError) → OpensNewest (Is acts state) (event.Device device.Restart) (acting.Off x) (answered_by (Err e) [])
  failed_newest x OutOfMemory = record { newest = λ past s off is whole. record {} }
  failed_newest x (No c) = record { newest = λ past s off is whole. record {} }

  pub failed_step : (x y : Cut D A) (e : CallError) → (state x.disk).may_leave (state x.disk).seen → y.policy ≡ x.policy → y.whole ≡ x.whole → y.actor ≡ x.actor → Runs (state x.disk) (state y.disk)
      → ((epoch : ℕ) (log : List (Usn × Change)) (b : Book) → Standing epoch (state x.disk).seen log b → Leaves (state x.disk) (state y.disk) (StandsOrWas epoch log b (state x.disk)))
      → StopsOnly e ⊎ (IsRefused e code.NotAVolume ⊎ IsRefused e code.Exhausted)
      → ((epoch : ℕ) (log : List (Usn × Change)) (b : Book) → Standing epoch (state x.disk).seen log b → IsRefused e code.NotAVolume → ⊥)
      → ((epoch : ℕ) (log : List (Usn × Change)) (b : Book) → Standing epoch (state x.disk).seen log b → IsRefused e code.Exhausted → epoch ≡ most)
      → (IsRefused e code.NotAVolume ⊎ IsRefused e code.Exhausted → ReadsOnly (state x.disk) (state y.disk))
      → StepsOver acts.mode (Is acts state) (event.Device device.Restart) (acting.Off x) (answered_by (Err e) []) (acting.Off y)
  failed_step x y OutOfMemory reads policy whole kept runs leaves only none last unwritten = record { leads = λ past s off. record {} }
  failed_step x y (No c) reads policy whole kept runs leaves (inl stopped) none last unwritten = record {
    leads = λ past s off.
        let at = found past x s off reads in
        let r = failed_to past x y s off at.taken at.few policy whole kept runs (leaves (s.filter.volume.epoch + at.taken) (take off.point.count s.filter.volume.log) off.point.book at.stands) in
        subst (λ (k : Code). PoweredTo acts.mode (Is acts state) past (event.Device device.Restart) s (Ok (answer_with (shown.Refused k) [])) (acting.Off y)) (sym stopped) r;
  }
  failed_step x y (No c) reads policy whole kept runs leaves (inr (inl absent)) none last unwritten = record {
    leads = λ past s off. let at = found past x s off reads in absurd (none (s.filter.volume.epoch + at.taken) (take off.point.count s.filter.volume.log) off.point.book at.stands absent);
  }
  failed_step x y (No c) reads policy whole kept runs leaves (inr (inr spent)) none last unwritten = record {
    leads = λ past s off.
        let at = found past x s off reads in
        let same = unwritten (inr spent) in
        let after : IsOff acts state past y (begun s) = still_off acts state past x y s (begun s) policy whole runs.size (same_quota (state x.disk) (state y.disk) runs.settings) runs.powers same.keeps.crash refl off.power (held_on answers acts actor state x y s (begun s) kept refl refl off.holds) refl refl refl off in
        let r = exhausted_to past x y s off at.taken at.few (last (s.filter.volume.epoch + at.taken) (take off.point.count s.filter.volume.log) off.point.book at.stands spent) after in
        subst (λ (k : Code). PoweredTo acts.mode (Is acts state) past (event.Device device.Restart) s (Ok (answer_with (shown.Refused k) [])) (acting.Off y)) (sym spent) r;
  }
