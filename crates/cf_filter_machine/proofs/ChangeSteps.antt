-- Changes as steps of a filter: what is told of them, and what a crash leaves.
use Rattle.std.proofs.Common.{◌≡◌, ◌≤◌, ◌+◌, inl, inr, ⊎_elim, ℕ, Bool, true, false, List, [], ◌∷◌, ◌++◌, length, refl, sym, ◌∙◌, ap, subst, arith}
use Rattle.std.proofs.lemmas.List.{length-append, take-append-le}
use Rattle.std.proofs.lemmas.Bool.{true≢false}
use Rattle.std.proofs.lemmas.Option.{none-some}
use Rattle.std.proofs.lemmas.Result.{err_from_is_err_and}
use Rattle.std.specs.Prelude.{Err, None, Ok, Result}
use Rattle.std.specs.Result.{IsErrAnd}
use Rattle.cf_filter_machine.proofs.Aims.{Follows, aims_on, aims_put, from_room, ready, rising}
use Rattle.cf_base.specs.declared.changes.Change.{Change}
use Rattle.cf_base.specs.declared.codes.CallError.{CallError}
use Rattle.cf_base.specs.declared.codes.CallError.TheVariants.{OutOfMemory, No}
use Rattle.cf_base.specs.declared.ids.ItemId.{ItemId}
use Rattle.cf_base.specs.declared.ids.Usn.{Usn}
use Rattle.cf_base.specs.declared.notices.Notice.TheVariants as notice
use Rattle.cf_disk.specs.Disk.{Leaves, Settings, State}
use Rattle.cf_disk.specs.Leaving.{leaves_weaker}
use Rattle.cf_filter_machine.proofs.BookSteps.{touched_book}
use Rattle.cf_filter_machine.proofs.ChangesKept.{kept_change}
use Rattle.cf_filter_machine.proofs.Keepable.{keepable}
use Rattle.cf_filter_machine.proofs.PointSteps.{either_begun, grows_begun, last_point, now_kept, same_parts}
use Rattle.cf_filter_machine.proofs.Shown.{shows_begun, stays_shown}
use Rattle.cf_filter_machine.proofs.StillFiles.{still_file, still_opened, still_reads}
use Rattle.cf_filter_desk.specs.Desks.{Desk, desk_of}
use Rattle.cf_filter_machine.specs.Held.{Held}
use Rattle.cf_filter_machine.specs.Keeping.{HasKeptPoints, IsKeptPoint, IsKeptVolume}
use Rattle.cf_filter_machine.specs.Lasting.{Grows, IsBetween, Lasts, Moved}
use Rattle.cf_filter_machine.specs.Lasts.{grows_not, lasts_at}
use Rattle.cf_filter_machine.specs.Sensing.{Stands, sense}
use Rattle.cf_filter_machine.specs.Showing.{Shows}
use Rattle.cf_model.specs.Arrows.{unit}
use Rattle.cf_model.specs.Books.{Book, with_access}
use Rattle.cf_model.specs.Changes.{change_with, may_need_room, next_number, put_after_room, put_change, put_with_book, tell_change, why_no_room}
use Rattle.cf_model.specs.Given.{IsOfLog}
use Rattle.cf_model.specs.Points.{point_now, with_point_begun, with_room_point}
use Rattle.cf_model.specs.State.{Filter, Point, Volume, with_notes, with_volume}
use Rattle.cf_model.specs.Trees.{Ends, Stops, Tree, bind, mapped}
use Rattle.cf_volume_points.proofs.Points.{Fair}
use Rattle.cf_volume_points.specs.At.{Applied, At, StandsEither, StandsLast}
use Rattle.cf_volume_points.specs.Known.{Known}
use Rattle.cf_volume_points.specs.Sound.{IsKeepable}
use Rattle.cf_volume_points.specs.Standing.{IsBookOf, clusters_on, opened}
use Rattle.cf_filter_steps.specs.Answering.{Answers}
use Rattle.cf_filter_steps.specs.Good.{IsFileIn, IsGood}
use Rattle.cf_filter_steps.specs.Suiting.{Suits}
use Rattle.cf_volume.specs.Calls as volume
use Rattle.cf_volume.specs.Calls.{IsCause, OnDisk, Runs, StopsOnly}
use Rattle.cf_volume.specs.Written.{contents_in}

-- points of a longer log

pub longer_point : (epoch : ℕ) (log more : List (Usn × Change)) (p : Point) → IsKeptPoint epoch log p → IsKeptPoint epoch (log ++ more) p
longer_point epoch log more p h = record {
  early = let k = h.early in omega (arith, k, length-append log more);
  volume = subst (λ (l : List (Usn × Change)). IsKeptVolume (opened (epoch + 1) l p.book 0)) (sym (take-append-le p.count log more h.early)) h.volume;
}

-- a change was put in, and a commit for room came before it only where it may be needed
pub record WasPut (d : State) (k : Known) (c : Change) (v : Volume) : Type 0 where
  pub room : Bool
  pub allowed : room ≡ true → may_need_room c v ≡ true
  pub follows : Follows d.settings.aim c v room
  pub at : At d k (put_change c (from_room room v))

pub put_of : (d : State) (k : Known) (c : Change) (v : Volume) → Applied d k c v → WasPut d k c v
put_of d k c v (inl put) = record { room = false; allowed = λ e. absurd (true≢false (sym e)); follows = record { at_once = λ e. put.unwanted; after = λ e. absurd (true≢false (sym e)) }; at = put.at }
put_of d k c v (inr put) = record { room = true; allowed = λ e. put.needed; follows = record { at_once = λ e. absurd (true≢false e); after = λ e. put.wanted }; at = put.at }

module _ (c : Change) (f : Book → Book) (v : Volume) where
  -- the volume after it, with what its step does to the book
  abbrev pub later : Bool → Volume
  later room = put_with_book f c (from_room room v)

  more_point : (sure : Bool) (p : Point) → p ≡ point_now sure v → length v.log ≤ p.count
  more_point sure p e = subst (λ (q : Point). length v.log ≤ q.count) (sym e) (omega arith)

  pub grows_put : (room : Bool) → Grows v (later room)
  grows_put false = record { epoch = refl; clusters = refl; more = (next_number v, c) ∷ []; log = refl; points = λ p h. inl h }
  grows_put true = record { epoch = refl; clusters = refl; more = (next_number v, c) ∷ []; log = refl; points = λ p h. ⊎_elim (λ now. inr (more_point false p now)) (λ was. inl was) h }

  begun_put : (room : Bool) → Grows (with_point_begun v) (later room)
  begun_put false = record { epoch = refl; clusters = refl; more = (next_number v, c) ∷ []; log = refl; points = λ p h. inl (inr h) }
  begun_put true = record { epoch = refl; clusters = refl; more = (next_number v, c) ∷ []; log = refl; points = λ p h. inl h }

  pub put_between : (room : Bool) → IsOfLog v → IsKeptVolume v → HasKeptPoints v → (image : List ℕ) → StandsEither v image → IsBetween v (later room) image
  put_between room of_log kept points image (inl last) = record { mid = v; after = grows_not v; before = grows_put room; stands = last_point v points image last }
  put_between room of_log kept points image (inr now) = record { mid = with_point_begun v; after = grows_begun v; before = begun_put room; stands = either_begun v of_log kept points image (inr now) }

  pub put_points : (room : Bool) → IsOfLog v → IsKeptVolume v → HasKeptPoints v → HasKeptPoints (later room)
  put_points false of_log kept points = λ p h. longer_point v.epoch v.log ((next_number v, c) ∷ []) p (points p h)
  put_points true of_log kept points = λ p h.
      longer_point v.epoch v.log ((next_number v, c) ∷ []) p (⊎_elim (λ now. subst (λ (q : Point). IsKeptPoint v.epoch v.log q) (sym now) (now_kept false v of_log kept)) (λ was. points p was) h)

  pub room_kept : (room : Bool) → IsKeptVolume (put_change c v) → IsKeptVolume (put_change c (from_room room v))
  room_kept false h = h
  room_kept true h = same_parts (put_change c v) (put_change c (with_room_point v)) refl refl refl refl refl h

-- the filter after a change, which was told
abbrev pub told : (Book → Book) → Change → Bool → Filter → Filter
told f c room s = with_notes (notice.Change (next_number s.volume) c ∷ []) (with_volume (later c f s.volume room) s)

-- the step, by whether it may need room
abbrev pub by_room : (Book → Book) → Change → Filter → Bool → Tree Filter (Unit {0})
by_room f c s may = bind (mapped (λ v. with_volume v s) (put_after_room f c may s.volume)) (tell_change c)

pub put_ends : (f : Book → Book) (c : Change) (s : Filter) (room may : Bool) → (room ≡ true → may ≡ true) → Ends (by_room f c s may) unit (told f c room s)
put_ends f c s false false a = (refl, refl)
put_ends f c s false true a = inl (refl, refl)
put_ends f c s true false a = absurd (true≢false (sym (a refl)))
put_ends f c s true true a = inr (refl, refl)

-- what a stop leaves
abbrev pub stopped_at : Bool → Volume → Volume
stopped_at false v = v
stopped_at true v = with_point_begun v

put_stops : (f : Book → Book) (c : Change) (s : Filter) (may : Bool) → Stops (by_room f c s may) (with_volume (stopped_at may s.volume) s)
put_stops f c s false = inl refl
put_stops f c s true = inr (inl refl)

stop_shows : (n : ℕ) (k : Known) (v : Volume) (may : Bool) → Shows n k v → Shows n k (stopped_at may v)
stop_shows n k v false h = h
stop_shows n k v true h = shows_begun n k v h

-- What a change leaves: it was put in, and the state after it is one that a filter has.
pub record IsPut (d : State) (k : Known) (f : Book → Book) (c : Change) (s : Filter) : Type 0 where
  pub room : Bool
  pub allowed : room ≡ true → may_need_room c s.volume ≡ true
  pub follows : Follows d.settings.aim c s.volume room
  pub at : At d k (later c f s.volume room)
  pub kept : IsKeptVolume (later c f s.volume room)
  pub good : IsGood (told f c room s)

module _ {D : Type 0} (state : D → State) (P : Filter → Type 0) (x : Held D) (f : Book → Book) (c : Change) (d : D) (fair : Fair (state d))
    (crash : (v : Volume) → At (state x.disk) x.known v → (may_need_room c v ≡ true → IsKeepable v) → Leaves (state x.disk) (state d) (StandsEither v))
    (calm : (v : Volume) → At (state x.disk) x.known v → may_need_room c v ≡ false → Leaves (state x.disk) (state d) (StandsLast v)) (runs : Runs (state x.disk) (state d)) where
  leaves : (s : Filter) → Stands state x s → Leaves (state x.disk) (state d) (StandsEither s.volume)
  leaves s h = crash s.volume h.volume (λ _. keepable s.volume h.kept)

  pub put_moved : (s : Filter) (g : Book → Book) (room : Bool) → Stands state x s → Moved (state x.disk) (state d) s.volume (later c g s.volume room)
  put_moved s g room h = record {
    runs = runs;
    grows = grows_put c g s.volume room;
    leaves = leaves_weaker (state x.disk) (state d) (StandsEither s.volume) (IsBetween s.volume (later c g s.volume room)) (leaves s h) (put_between c g s.volume room h.volume.now.of_log h.kept h.points);
  }

  -- it was put in and told
  pub put_told : (k : Known) (e : Desk) (n : Usn) → k.broken ≡ false → e ≡ record x.desk { notes = x.desk.notes ++ notice.Change n c ∷ [] } → ((s : Filter) → Stands state x s → n ≡ next_number s.volume)
      → ((s : Filter) → Stands state x s → P s → IsPut (state d) k f c s) → Answers (sense state) P (change_with f c) x (Ok unit) (record { disk = d; known = k; desk = e })
  put_told k e n usable desk number put = record {
    leads = λ s h p.
        let r = put s h p in (
          told f c r.room s,
          put_ends f c s r.room (may_need_room c s.volume) r.allowed,
          put_moved s f r.room h,
          record {
            fair = fair;
            volume = r.at;
            desk = desk ∙ ap (λ (z : Desk). record z { notes = z.notes ++ notice.Change n c ∷ [] }) h.desk
                ∙ ap (λ (m : Usn). record (desk_of s) { notes = s.notes ++ notice.Change m c ∷ [] }) (number s h);
            whole = usable;
            good = r.good;
            kept = r.kept;
            points = put_points c f s.volume r.room h.volume.now.of_log h.kept h.points;
            aimed = aims_put (state d).settings.aim f c s.volume r.room (ready (state x.disk) x.known s.volume h.volume (rising s.volume.items h.kept.good.tree.order) h.points) r.follows
                (aims_on (state x.disk) (state d) s.volume runs.settings h.aimed);
          },
        );
  }

  -- what is known of it once it was put in, there is no memory for the rest
  pub put_lost : (y : Held D) (k : Known) → y.disk ≡ d → ((s : Filter) → Stands state x s → P s → IsPut (state d) k (λ b. b) c s) → Answers (sense state) P (change_with f c) x (Err OutOfMemory) y
  put_lost y k same put = record {
    leads = λ s h p.
        let r = put s h p in (
          told (λ b. b) c r.room s,
          record {},
          subst (λ (z : D). Moved (state x.disk) (state z) s.volume (later c (λ b. b) s.volume r.room)) (sym same) (put_moved s (λ b. b) r.room h),
          subst (λ (z : D). Lasts (state z) (later c (λ b. b) s.volume r.room)) (sym same)
              (lasts_at (state d) k (later c (λ b. b) s.volume r.room) fair r.at (put_points c (λ b. b) s.volume r.room h.volume.now.of_log h.kept h.points)),
        );
  }

  stop_moved : (s : Filter) (may : Bool) → may_need_room c s.volume ≡ may → Stands state x s → Moved (state x.disk) (state d) s.volume (stopped_at may s.volume)
  stop_moved s false e h = record {
    runs = runs;
    grows = grows_not s.volume;
    leaves = leaves_weaker (state x.disk) (state d) (StandsLast s.volume) (IsBetween s.volume s.volume) (calm s.volume h.volume e)
        (λ i l. record { mid = s.volume; after = grows_not s.volume; before = grows_not s.volume; stands = last_point s.volume h.points i l });
  }
  stop_moved s true e h = record {
    runs = runs;
    grows = grows_begun s.volume;
    leaves = leaves_weaker (state x.disk) (state d) (StandsEither s.volume) (IsBetween s.volume (with_point_begun s.volume)) (leaves s h)
        (λ i l. record { mid = with_point_begun s.volume; after = grows_begun s.volume; before = grows_not (with_point_begun s.volume); stands = either_begun s.volume h.volume.now.of_log h.kept h.points i l });
  }

  stop_lasts : (s : Filter) (may : Bool) → may_need_room c s.volume ≡ may → Stands state x s → Lasts (state d) (stopped_at may s.volume)
  stop_lasts s false e h i left = last_point s.volume h.points i ((calm s.volume h.volume e).now i left)
  stop_lasts s true e h i left = either_begun s.volume h.volume.now.of_log h.kept h.points i ((leaves s h).now i left)

  put_stopped : (k : Known) (e : Desk) (q : CallError) → e ≡ x.desk → contents_in k ≡ contents_in x.known → ((s : Filter) → Stands state x s → P s → StopsOnly q) → IsCause q (state x.disk) (state d) → Answers (sense state) P (change_with f c) x (Err q) (record { disk = d; known = k; desk = e })
  put_stopped k e (No code) same still only cause = record {
    leads = λ s h p. (
      with_volume (stopped_at (may_need_room c s.volume) s.volume) s,
      (only s h p, put_stops f c s (may_need_room c s.volume)),
      stop_moved s (may_need_room c s.volume) refl h,
      (
        record {
          notes = ap (λ (z : Desk). z.notes) (same ∙ h.desk);
          policy = ap (λ (z : Desk). z.policy) (same ∙ h.desk);
          connected = ap (λ (z : Desk). z.connected) (same ∙ h.desk);
          shows = stop_shows (clusters_on (state d).seen) k s.volume (may_need_room c s.volume) (stays_shown state x d k s runs still h);
          lasts = stop_lasts s (may_need_room c s.volume) refl h;
        },
        cause (only s h p),
      ),
    );
  }
  put_stopped k e OutOfMemory same still only cause = record {
    leads = λ s h p. (
      with_volume (stopped_at (may_need_room c s.volume) s.volume) s,
      record {},
      stop_moved s (may_need_room c s.volume) refl h,
      stop_lasts s (may_need_room c s.volume) refl h,
    );
  }

  -- the device or memory stopped it, at an exit by `?`
  pub put_stops_by : (k : Known) (e : Desk) (q : CallError) (r : Result (Unit {0}) CallError) → IsErrAnd r (λ z. z ≡ q) → e ≡ x.desk → contents_in k ≡ contents_in x.known → ((s : Filter) → Stands state x s → P s → StopsOnly q) → IsCause q (state x.disk) (state d)
      → Answers (sense state) P (change_with f c) x r (record { disk = d; known = k; desk = e })
  put_stops_by k e q r is same still only cause =
      let p = err_from_is_err_and r is in
      subst (λ (z : Result (Unit {0}) CallError). Answers (sense state) P (change_with f c) x z (record { disk = d; known = k; desk = e })) (sym (p.1 ∙ ap (λ (z : CallError). Err z) p.2)) (put_stopped k e q same still only cause)

-- a change that suits and finds room

pub not_refused : {D : Type 0} (c : Change) (v : Volume) (old new : OnDisk D) (q : CallError) → why_no_room (c ∷ []) v ≡ None → volume.Answers c v old (Err q) new → StopsOnly q
not_refused c v old new (No code) none (inl device) = device
not_refused c v old new (No code) none (inr why) = absurd (none-some code (sym none ∙ why.0))
not_refused c v old new OutOfMemory none h = record {}

pub after_good : (f : Book → Book) (c : Change) (room : Bool) (s : Filter) → IsKeptVolume (later c f s.volume room) → ((id : ItemId) → IsFileIn s.volume.items id → IsFileIn (later c f s.volume room).items id) → IsGood s → IsGood (told f c room s)
after_good f c room s kept files h = record {
  volume = kept.good;
  files = still_opened s.volume.items (later c f s.volume room).items files s.handles h.files;
  numbered = h.numbered;
  reads = still_reads s.volume.items (later c f s.volume room).items files s.waiting.waits h.reads;
}

files_after : (c : Change) (v : Volume) (room : Bool) → Suits c v → (id : ItemId) → IsFileIn v.items id → IsFileIn (put_change c (from_room room v)).items id
files_after c v false suits id file = still_file v.items v.next_item c (next_number v) id suits.plants file
files_after c v true suits id file = still_file v.items v.next_item c (next_number v) id suits.plants file

kept_after : (d : State) (k : Known) (c : Change) (v : Volume) (room : Bool) → Suits c v → IsBookOf v.items v.book → IsKeptVolume v → At d k (put_change c (from_room room v)) → IsKeptVolume (put_change c (from_room room v))
kept_after d k c v false suits book kept at = kept_change v kept c suits book at.now.fits
kept_after d k c v true suits book kept at = room_kept c (λ b. b) v true (kept_change v kept c suits book at.now.fits)

pub suited : {D : Type 0} (state : D → State) (x : Held D) (d : State) (k : Known) (c : Change) (s : Filter) → Stands state x s → Suits c s.volume → Applied d k c s.volume → IsPut d k (λ b. b) c s
suited state x d k c s h suits applied =
    let w = put_of d k c s.volume applied in
    let kept : IsKeptVolume (put_change c (from_room w.room s.volume)) = kept_after d k c s.volume w.room suits h.volume.now.book h.kept w.at in
    record { room = w.room; allowed = w.allowed; follows = w.follows; at = w.at; kept = kept; good = after_good (λ b. b) c w.room s kept (files_after c s.volume w.room suits) h.good }

-- and it is an access
pub accessed_put : (d e : State) (k j : Known) (c : Change) (item : ItemId) (s : Filter) → Suits c s.volume → IsFileIn s.volume.items item → IsGood s → (r : IsPut d k (λ b. b) c s) → e.settings ≡ d.settings → At e j (later c (with_access item) s.volume r.room) → IsPut e j (with_access item) c s
accessed_put d e k j c item s suits file good r same at =
    let files = files_after c s.volume r.room suits in
    let kept : IsKeptVolume (later c (with_access item) s.volume r.room) = touched_book item (later c (λ b. b) s.volume r.room) (files item file) r.kept in
    record { room = r.room; allowed = r.allowed; follows = subst (λ (z : Settings). Follows z.aim c s.volume r.room) (sym same) r.follows; at = at; kept = kept; good = after_good (with_access item) c r.room s kept files good }
